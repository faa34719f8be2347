use Rattle.std.proofs.Common.{arith}
use Rattle.std.proofs.lemmas.List.{length-map}
use Rattle.std.proofs.lemmas.Result.{err_from_is_err_and}
use Rattle.at_text.specs.Symbols.{placed}
use Rattle.at_text.specs.Rows.{left}
use Rattle.at_java.specs.Seen.{contents_view, part_view}
use Rattle.at_java.proofs.AspectLists.{aspects_end, aspects_too_many, aspect_fails, aspect_read, nothing_left}
use Rattle.at_java.proofs.reader.Reader.aspects.Goals as goal

pub returns-then-count_left-eq0-clause-found : goal.returns-then-count_left-eq0-clause-found
returns-then-count_left-eq0-clause-found c =
    aspects_end c.loop-all.room _ (contents_view c.loop-all.all) _
    (omega (arith, length-map c.loop-all.self.cursor.rest.now placed, c.count_left.ensures, c.if-count_left-eq0.true)) c.loop-all.invariant

pub returns-then-count_left-eq0-clause-end : goal.returns-then-count_left-eq0-clause-end
returns-then-count_left-eq0-clause-end c =
    nothing_left (left c.loop-all.self.cursor.rest.now)
    (omega (arith, length-map c.loop-all.self.cursor.rest.now placed, c.count_left.ensures, c.if-count_left-eq0.true))

pub returns-then-room-eq0-clause-fault : goal.returns-then-room-eq0-clause-fault
returns-then-room-eq0-clause-fault c =
    aspects_too_many c.loop-all.room _ (contents_view c.loop-all.all) _ (omega (arith, c.if-room-eq0.true))
    (omega (arith, length-map c.loop-all.self.cursor.rest.now placed, c.count_left.ensures, c.if-count_left-eq0.false)) c.loop-all.invariant

pub returns-in_err-part-clause-fault : goal.returns-in_err-part-clause-fault
returns-in_err-part-clause-fault c =
    let p = err_from_is_err_and c.from_residual.result c.from_residual.ensures.1 in
    rw (p.1, p.2)
    (aspect_fails c.loop-all.room _ (contents_view c.loop-all.all) _ _ _ (omega (arith, c.if-room-eq0.false))
    (omega (arith, length-map c.loop-all.self.cursor.rest.now placed, c.count_left.ensures, c.if-count_left-eq0.false)) c.loop-all.invariant c.in_err-part.ensures.fault)

pub loop-all-preserved : goal.loop-all-preserved
loop-all-preserved c =
    aspect_read c.loop-all.room _ (contents_view c.loop-all.all) (part_view c.in_ok-part.part) _ _ _ (omega (arith, c.if-room-eq0.false))
    (omega (arith, length-map c.loop-all.self.cursor.rest.now placed, c.count_left.ensures, c.if-count_left-eq0.false)) c.loop-all.invariant c.in_ok-part.ensures.found c.in_ok-takes.ensures
