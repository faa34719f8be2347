use Rattle.std.proofs.Common.{ap, ◌∙◌}
use Rattle.std.proofs.lemmas.Result.{err_from_is_err_and}
use Rattle.at_text.proofs.ReadingLaws.{fails_on}
use Rattle.at_grammar.specs.Grammar as grammar
use Rattle.at_grammar.specs.Meaning.{seen_part}
use Rattle.at_grammar.specs.Table.{table}
use Rattle.at_grammar.specs.Forms.{left, typed, child}
use Rattle.at_grammar.proofs.Paths.{child_reads, children_reads, child_stops}
use Rattle.at_grammar.specs.declared.syntax.Shape.TheVariants as shape
use Rattle.at_grammar.specs.Meaning.{Component}
use Rattle.at_grammar.proofs.reader.Reader.child.Goals.{then-takes, else-takes}
use Rattle.at_grammar.proofs.reader.Reader.child.Goals as goal

pub returns-in_err-part : goal.returns-in_err-part
returns-in_err-part c = let p = err_from_is_err_and c.from_residual.result c.from_residual.ensures.1 in
    rw (p.1, p.2) (fails_on table typed child _ _ _ _ (λ q. child_stops q _ _) c.in_err-part.ensures)

pub returns : goal.returns
returns c =
    let t = c.in_ok-part.ensures in
    elim c.if-takes.branch [
      | then-takes w ↦ (
        grammar.Children t.0,
        ap seen_part w.part-is ∙ ap (λ (x : Component).
            record x { shape = shape.Many }) t.1,
        children_reads t.0 _ _ _ t.2 (rw w.if-takes.true at c.takes.ensures),
      )
      | else-takes w ↦ (let e = rw w.if-takes.false at c.takes.ensures in (grammar.Child t.0, ap seen_part w.part-is ∙ t.1, child_reads t.0 _ _ _ t.2 (ap left e.0) e.1))
    ]
