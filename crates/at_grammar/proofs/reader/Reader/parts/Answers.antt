use Rattle.std.proofs.Common.{List, refl, sym, ap, subst, ◌∙◌, map}
use Rattle.std.proofs.lemmas.Result.{err_from_is_err_and}
use lib.Chars.{codes}
use Rattle.at_text.specs.Symbols.{Symbol, is_sign}
use Rattle.at_text.specs.Reading.{first}
use Rattle.at_text.proofs.ReadingLaws.{fails_on, stops_at, reads_at, many_none, many_more, pushed}
use Rattle.at_grammar.specs.Meaning.{seen_part, part_means}
use Rattle.at_grammar.specs.Table as want
use Rattle.at_grammar.specs.Table.{table}
use Rattle.at_grammar.specs.Forms.{left, part, parts}
use Rattle.at_grammar.proofs.Loops.{parts_begin, parts_end, parts_stop, parts_leave, part_shorter}
use Rattle.at_text.specs.Machine.{LeftOut}
use Rattle.at_grammar.proofs.Paths.{Stops}
use Rattle.at_grammar.proofs.reader.Reader.parts.Goals as goal

pub loop-parts-init : goal.loop-parts-init
loop-parts-init c = (many_none table part want.Parts _, ap (map seen_part) c.new-parts.ensures.items)

pub returns-then-takes : goal.returns-then-takes
returns-then-takes c = let e = rw c.if-takes.true at c.takes.ensures in let m = c.loop-parts.invariant in (m.0.items, m.1, parts_end _ _ _ m.0 e)

pub returns-then-is_before : goal.returns-then-is_before
returns-then-is_before c = let e = rw c.if-takes.false at c.takes.ensures in
    let m = c.loop-parts.invariant in
    subst (λ (x : List Symbol). Stops parts LeftOut (left c.args.self.now.cursor.rest.now) x) (sym (ap left e.0))
    (parts_leave _ _ m.0 (sym (ap (λ l. first (left l)) e.0) ∙ c.if-is_before.ensures.same refl))

pub returns-in_err-part : goal.returns-in_err-part
returns-in_err-part c =
    let e = rw c.if-takes.false at c.takes.ensures in
    let m = c.loop-parts.invariant in
    let f = sym (ap (λ l. is_sign (codes "/") (first (left l))) e.0) ∙ sym c.if-is_before.ensures.value in
    let p = err_from_is_err_and c.from_residual.result c.from_residual.ensures.1 in
    rw (p.1, p.2) (fails_on table part parts _ _ _ _ (λ q s. parts_stop q _ _ _ m.0 e.1 f (stops_at table part q _ _ _ (ap left e.0) s)) c.in_err-part.ensures)

pub loop-parts-preserved : goal.loop-parts-preserved
loop-parts-preserved c =
    let e = rw c.if-takes.false at c.takes.ensures in
    let m = c.loop-parts.invariant in
    let f = sym (ap (λ l. is_sign (codes "/") (first (left l))) e.0) ∙ sym c.if-is_before.ensures.value in
    let p = c.in_ok-part.ensures in
    let r = reads_at table part p.0 _ _ _ (ap left e.0) p.2 in
    (many_more table part want.Parts p.0 _ _ _ m.0 (parts_begin _ e.1 f) r, ap (map seen_part) c.in_ok-push.ensures.items ∙ pushed seen_part part_means _ _ _ _ m.1 p.1)

pub loop-parts-smaller : goal.loop-parts-smaller
loop-parts-smaller c =
    let e = rw c.if-takes.false at c.takes.ensures in
    let p = c.in_ok-part.ensures in
    part_shorter p.0 _ _ (reads_at table part p.0 _ _ _ (ap left e.0) p.2)
