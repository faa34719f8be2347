use Rattle.std.proofs.Common.{refl, sym, inl, inr}
use lib.Chars.{codes}
use Rattle.at_text.proofs.ReadingLaws.{parses_on}
use Rattle.at_grammar.specs.Table.{table}
use Rattle.at_grammar.specs.Forms.{reason_of, mark, close}
use Rattle.at_grammar.proofs.Paths.{close_reads, close_stops, close_leaves}
use Rattle.at_grammar.proofs.reader.Reader.close.Goals.{then-is_before-via-then-is_before, then-is_before-via-else-is_before+then-is_before-2}
use Rattle.at_grammar.proofs.reader.Reader.close.Goals as goal

pub returns-then-is_before : goal.returns-then-is_before
returns-then-is_before c =
    elim c.then-is_before.branch [
      | then-is_before-via-then-is_before w ↦ close_leaves (codes ".") _ _ refl (w.if-is_before.ensures.same refl) (inl refl)
      | then-is_before-via-else-is_before+then-is_before-2 w ↦ close_leaves (codes "<") _ _ refl (w.if-is_before-2.ensures.same refl) (inr refl)
    ]

pub returns : goal.returns
returns c =
    let d = sym c.if-is_before.ensures.value in
    let l = sym c.if-is_before-2.ensures.value in
    parses_on table reason_of (mark (codes ">")) close _ _ _ _ _ _ (λ u a m r. (tt, tt, close_reads _ _ d l r)) (λ q. close_stops q _ _ d l) c.expects.ensures
