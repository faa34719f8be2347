use Rattle.std.proofs.Common.{map, ap, ◌∙◌, arith}
use Rattle.std.proofs.lemmas.List.{map_push}
use Rattle.std.proofs.lemmas.Result.{err_from_is_err_and}
use Rattle.at_text.specs.Rows.{left}
use Rattle.at_java.specs.View.{statement_view}
use Rattle.at_java.specs.Statements.{statement}
use Rattle.at_java.proofs.Exits.{found_as, fault_as}
use Rattle.at_java.proofs.Nestings.{none_nest, one_nests}
use Rattle.at_java.proofs.ItemLists.{items_end, items_too_many, item_fails, item_read}
use Rattle.at_java.proofs.reader.Reader.+statement.Goals as goal

-- ---- how deep they nest

pub statement-returns-then-depth-eq0-clause-fault : goal.statement-returns-then-depth-eq0-clause-fault
statement-returns-then-depth-eq0-clause-fault t c = none_nest c.args.depth _ (omega (arith, c.if-depth-eq0.true))

pub statement-returns-clause-found : goal.statement-returns-clause-found
statement-returns-clause-found t c =
    found_as c.formed.result statement_view _ _ _ (one_nests c.args.depth _ (omega (arith, c.if-depth-eq0.false))) c.formed.ensures.found

pub statement-returns-clause-fault : goal.statement-returns-clause-fault
statement-returns-clause-fault t c =
    fault_as c.formed.result _ _ _ (one_nests c.args.depth _ (omega (arith, c.if-depth-eq0.false))) c.formed.ensures.fault

-- ---- blocks

pub block-returns-in-Some-clause-found : goal.block-returns-in-Some-clause-found
block-returns-in-Some-clause-found t c = items_end (statement c.args.depth) c.loop-end.room _ _ _ c.in-Some.end _ c.loop-end.invariant c.in-Some.ensures

pub block-returns-then-room-eq0-clause-fault : goal.block-returns-then-room-eq0-clause-fault
block-returns-then-room-eq0-clause-fault t c =
    let same = ap (λ r. left r.rest.now) c.in_default.ensures.0 in
    items_too_many (statement c.args.depth) c.loop-end.room _ (map statement_view c.loop-end.items.items) _ _ (omega (arith, c.if-room-eq0.true)) c.loop-end.invariant c.in_default.ensures.1 same

pub block-returns-in_err-item-clause-fault : goal.block-returns-in_err-item-clause-fault
block-returns-in_err-item-clause-fault t c =
    let same = ap (λ r. left r.rest.now) c.in_default.ensures.0 in
    let p = err_from_is_err_and c.from_residual.result c.from_residual.ensures.1 in
    rw (p.1, p.2)
    (item_fails (statement c.args.depth) c.loop-end.room _ (map statement_view c.loop-end.items.items) _ _ _ _
    (omega (arith, c.if-room-eq0.false)) c.loop-end.invariant c.in_default.ensures.1 same c.in_err-item.ensures.fault)

pub block-loop-end-preserved : goal.block-loop-end-preserved
block-loop-end-preserved t c =
    let same = ap (λ r. left r.rest.now) c.in_default.ensures.0 in
    let q = ap (map statement_view) c.in_ok-push.ensures.items ∙ map_push statement_view c.loop-end.items.items c.in_ok-item.item in
    item_read (statement c.args.depth) c.loop-end.room _ (map statement_view c.loop-end.items.items) (statement_view c.in_ok-item.item) _ _ _ _
    (omega (arith, c.if-room-eq0.false)) c.loop-end.invariant c.in_default.ensures.1 same c.in_ok-item.ensures.found q
