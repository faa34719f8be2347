use Rattle.std.proofs.Common.{ap, ◌∙◌, map}
use Rattle.std.proofs.lemmas.Result.{err_from_is_err_and}
use Rattle.at_text.proofs.ReadingLaws.{fails_on, many_none, many_more, pushed}
use Rattle.at_grammar.specs.Meaning.{seen_class, class_means}
use Rattle.at_grammar.specs.Table as want
use Rattle.at_grammar.specs.Table.{table}
use Rattle.at_grammar.specs.Forms.{declaration, file}
use Rattle.at_grammar.proofs.Loops.{file_begins, file_ends, file_stops, declaration_shorter}
use Rattle.at_grammar.proofs.Tokens.{nonempty_left, none_left}
use Rattle.at_grammar.proofs.reader.Reader.file.Goals as goal

pub loop-self-init : goal.loop-self-init
loop-self-init c = (many_none table declaration want.File _, ap (map seen_class) c.new-classes.ensures.items)

pub returns-in_err-class-clause-read : goal.returns-in_err-class-clause-read
returns-in_err-class-clause-read c = let m = c.loop-self.invariant in let p = err_from_is_err_and c.from_residual.result
    c.from_residual.ensures.1 in rw (p.1, p.2) (fails_on table declaration file _ _ _ _ (λ q. file_stops q _ _ _ m.0
    (nonempty_left c.loop-self.self.cursor.rest.now c.loop-self-test.ensures)) c.in_err-class.ensures)

pub loop-self-preserved : goal.loop-self-preserved
loop-self-preserved c =
    let m = c.loop-self.invariant in
    let p = c.in_ok-class.ensures in (
      many_more table declaration want.File p.0 _ _ _ m.0
          (file_begins _ (nonempty_left c.loop-self.self.cursor.rest.now c.loop-self-test.ensures)) p.2,
      ap (map seen_class) c.in_ok-push.ensures.items ∙ pushed seen_class class_means _ _ _ _ m.1 p.1,
    )

pub returns-clause-read : goal.returns-clause-read
returns-clause-read c = let m = c.loop-self.invariant in (m.0.items, m.1, file_ends _ _ m.0 (none_left c.loop-self.self.cursor.rest.now c.loop-self-test.ensures))

pub returns-clause-end : goal.returns-clause-end
returns-clause-end c = none_left c.loop-self.self.cursor.rest.now c.loop-self-test.ensures

pub loop-self-smaller : goal.loop-self-smaller
loop-self-smaller c = let p = c.in_ok-class.ensures in declaration_shorter p.0 _ _ p.2
