use Rattle.std.proofs.Common.{ℕ, List, ◌∷◌, ◌+◌, drop, arith, sym, ap, subst, ◌∙◌, map, Err}
use Rattle.std.proofs.lemmas.Result.{err_from_is_err_and}
use Rattle.at_jrag.specs.Syntax.{to_exprs}
use Rattle.at_jrag.specs.Syntax as written
use Rattle.at_jrag.specs.View.{expr_view, fold_view, word_view, operator_view}
use Rattle.at_kinds.specs.Judging.{Scope, Listed, Is, and_then, judged, judged_all, judged_list, list_or, this_node, folded, within}
use Rattle.at_kinds.specs.Typed.{Judges, typed_view, list_view, bound_view, scope_view}
use Rattle.at_kinds.proofs.Parts.{node_bound, behind, behind_none, all_more, all_fault, all_there, fault_of, made_of, fault_in, made_in}
use Rattle.at_kinds.proofs.Seen.{moved, moved_list, no_call, seen_number, seen_truth, seen_null, seen_this, seen_name, seen_call, seen_call_of, seen_paren, seen_negate, seen_not, seen_cast, seen_instance, seen_binary, seen_choose, seen_fold}
use Rattle.at_kinds.proofs.typing.Scope.+typed.Goals as goal

pub typed_all-loop-expr-init : goal.typed_all-loop-expr-init
typed_all-loop-expr-init t c =
    let whole = judged_all (scope_view c.args.self.now) (to_exprs (map expr_view c.args.exprs.now)) in
    behind_none whole ∙ ap (λ l. behind (map typed_view l) whole) (sym c.new-all.ensures.items)

pub typed_all-loop-expr-preserved : goal.typed_all-loop-expr-preserved
typed_all-loop-expr-preserved t c =
    let es = c.args.exprs.now in
    let i = c.loop-expr.expr-index in
    all_more (scope_view c.args.self.now) es i c.expr-item.result c.in_ok-typed.typed c.loop-expr.all.items
    (judged_all (scope_view c.args.self.now) (to_exprs (map expr_view c.args.exprs.now))) (omega arith)
    c.expr-item.is c.in_ok-typed.ensures c.loop-expr.invariant
    ∙ ap (λ l. behind (map typed_view l) (judged_all (scope_view c.args.self.now) (to_exprs (map expr_view (drop (i + 1) es))))) (sym c.in_ok-push.ensures.items)

pub typed_all-returns : goal.typed_all-returns
typed_all-returns t c =
    all_there (scope_view c.args.self.now) c.args.exprs.now c.loop-expr.expr-index (map typed_view
    c.loop-expr.all.items) (judged_all (scope_view c.args.self.now) (to_exprs (map expr_view c.args.exprs.now)))
    (omega arith) c.loop-expr.invariant

pub typed_all-returns-in_err-typed : goal.typed_all-returns-in_err-typed
typed_all-returns-in_err-typed t c =
    let p = err_from_is_err_and c.from_residual.result c.from_residual.ensures.1 in
    rw (p.1, p.2) (all_fault (scope_view c.args.self.now) c.args.exprs.now c.loop-expr.expr-index c.expr-item.result
    c.in_err-typed.field-0.0 (map typed_view c.loop-expr.all.items)
    (judged_all (scope_view c.args.self.now) (to_exprs (map expr_view c.args.exprs.now))) (omega arith)
    c.expr-item.is c.in_err-typed.ensures c.loop-expr.invariant)

pub fold-returns-in_err-list : goal.fold-returns-in_err-list
fold-returns-in_err-list t c =
    λ l is. let p = err_from_is_err_and c.from_residual.result c.from_residual.ensures.1 in
    rw (p.1, p.2) (fault_in list_view typed_view (λ (l : Listed). and_then (folded c.args.at (fold_view c.args.form) l)
    (judged (within (scope_view c.args.self.now) (word_view c.args.name.now).text l.class)
    (expr_view c.args.body.now))) l c.args.list c.in_err-list.field-0.0 c.in_err-list.was is)

pub fold-returns-in_err-body : goal.fold-returns-in_err-body
fold-returns-in_err-body t c =
    λ l is. let p = err_from_is_err_and c.from_residual-in_err-body.result c.from_residual-in_err-body.ensures.1 in
    rw (p.1, p.2) (made_in list_view typed_view (λ (l : Listed). and_then (folded c.args.at (fold_view c.args.form) l)
    (judged (within (scope_view c.args.self.now) (word_view c.args.name.now).text l.class)
    (expr_view c.args.body.now))) l c.args.list c.in_ok-list.list (Err c.in_err-body.field-0.0) c.in_ok-list.was is
    (fault_of typed_view typed_view (folded c.args.at (fold_view c.args.form) (list_view c.in_ok-list.list))
    (judged (within (scope_view c.args.self.now) (word_view c.args.name.now).text c.in_ok-list.list.class)
    (expr_view c.args.body.now)) c.in_err-body.field-0.0
    (subst (λ (s : Scope). Judges typed_view (judged s (expr_view c.args.body.now)) (Err c.in_err-body.field-0.0))
    (ap (λ ns. record (scope_view c.args.self.now) { names = ns }) (ap (map bound_view) c.as_slice.ensures.value
    ∙ c.in_ok-names.ensures ∙ ap (λ (text : List ℕ). node_bound text c.in_ok-list.list.class ∷ map bound_view
    c.args.self.now.names.now) c.as_str.ensures.value)) c.in_err-body.ensures)))

pub fold-returns : goal.fold-returns
fold-returns t c =
    λ l is. made_in list_view typed_view (λ (l : Listed). and_then (folded c.args.at (fold_view c.args.form) l) (judged
    (within (scope_view c.args.self.now) (word_view c.args.name.now).text l.class) (expr_view c.args.body.now))) l
    c.args.list c.in_ok-list.list c.folded.result c.in_ok-list.was is
    (made_of typed_view typed_view (folded c.args.at (fold_view c.args.form) (list_view c.in_ok-list.list))
    (judged (within (scope_view c.args.self.now) (word_view c.args.name.now).text c.in_ok-list.list.class)
    (expr_view c.args.body.now)) c.in_ok-body.body c.folded.result
    (ap (λ (s : Scope). judged s (expr_view c.args.body.now)) (sym (ap (λ ns. record (scope_view c.args.self.now)
    { names = ns }) (ap (map bound_view) c.as_slice.ensures.value ∙ c.in_ok-names.ensures ∙ ap (λ (text : List ℕ).
    node_bound text c.in_ok-list.list.class ∷ map bound_view c.args.self.now.names.now) c.as_str.ensures.value)))
    ∙ c.in_ok-body.ensures) c.folded.ensures)

pub typed-returns-in-Number : goal.typed-returns-in-Number
typed-returns-in-Number t c = moved (scope_view c.args.self.now) (expr_view c.args.expr.now)
    (written.Number c.args.expr.now.at c.in-Number.value) c.number.result
    (seen_number c.args.expr.now c.in-Number.value c.in-Number.is) c.number.ensures

pub typed-returns-in-Truth : goal.typed-returns-in-Truth
typed-returns-in-Truth t c = moved (scope_view c.args.self.now) (expr_view c.args.expr.now)
    (written.Truth c.args.expr.now.at c.in-Truth.value) c.of_kind.result
    (seen_truth c.args.expr.now c.in-Truth.value c.in-Truth.is) c.of_kind.ensures

pub typed-returns-in-Null : goal.typed-returns-in-Null
typed-returns-in-Null t c = moved (scope_view c.args.self.now) (expr_view c.args.expr.now) (written.Null
    c.args.expr.now.at) c.of_kind-in-Null.result (seen_null c.args.expr.now c.in-Null.is) c.of_kind-in-Null.ensures

pub typed-returns-in-This : goal.typed-returns-in-This
typed-returns-in-This t c = moved (scope_view c.args.self.now) (expr_view c.args.expr.now) (written.This c.args.expr.now.at) c.this.result (seen_this c.args.expr.now c.in-This.is) c.this.ensures

pub typed-returns-in-Name : goal.typed-returns-in-Name
typed-returns-in-Name t c =
    moved (scope_view c.args.self.now) (expr_view c.args.expr.now) (written.Name c.args.expr.now.at c.as_str-in-Name.result.now) c.named.result
    (seen_name c.args.expr.now c.in-Name.name c.as_str-in-Name.result.now c.in-Name.is c.as_str-in-Name.ensures.value)
    (c.named.ensures)

pub typed-returns-in-Call : goal.typed-returns-in-Call
typed-returns-in-Call t c =
    moved (scope_view c.args.self.now) (expr_view c.args.expr.now) (written.Call c.args.expr.now.at c.as_str-in-Call.result.now (to_exprs (map expr_view c.deref.result.now))) c.call.result
    (seen_call c.args.expr.now c.in-Call.name c.in-Call.arguments c.as_str-in-Call.result.now c.deref.result.now c.in-Call.is c.as_str-in-Call.ensures.value c.deref.ensures.value)
    (c.call.ensures (Is (this_node (scope_view c.args.self.now) c.args.expr.now.at)) (judged_all (scope_view
    c.args.self.now) (to_exprs (map expr_view c.deref.result.now))) c.this-receiver.ensures c.typed_all.ensures)

pub typed-returns-in-CallOf : goal.typed-returns-in-CallOf
typed-returns-in-CallOf t c =
    moved (scope_view c.args.self.now) (expr_view c.args.expr.now)
    (written.CallOf c.args.expr.now.at (expr_view c.deref-in-CallOf.result.now) c.as_str-in-CallOf.result.now
    (to_exprs (map expr_view c.deref-in-CallOf-2.result.now))) c.call-in-CallOf.result
    (seen_call_of c.args.expr.now c.in-CallOf.receiver c.in-CallOf.name c.in-CallOf.arguments
    c.deref-in-CallOf.result.now c.as_str-in-CallOf.result.now c.deref-in-CallOf-2.result.now c.in-CallOf.is
    c.deref-in-CallOf.ensures c.as_str-in-CallOf.ensures.value c.deref-in-CallOf-2.ensures.value)
    (c.call-in-CallOf.ensures (judged (scope_view c.args.self.now) (expr_view c.deref-in-CallOf.result.now))
    (judged_all (scope_view c.args.self.now) (to_exprs (map expr_view c.deref-in-CallOf-2.result.now)))
    c.typed-receiver.ensures c.typed_all-in-CallOf.ensures)

pub typed-returns-in-Paren : goal.typed-returns-in-Paren
typed-returns-in-Paren t c =
    moved (scope_view c.args.self.now) (expr_view c.args.expr.now) (written.Paren c.args.expr.now.at (expr_view c.deref-in-Paren.result.now)) c.paren.result
    (seen_paren c.args.expr.now c.in-Paren.inner c.deref-in-Paren.result.now c.in-Paren.is c.deref-in-Paren.ensures)
    (c.paren.ensures (judged (scope_view c.args.self.now) (expr_view c.deref-in-Paren.result.now)) c.typed.ensures)

pub typed-returns-in-Negate : goal.typed-returns-in-Negate
typed-returns-in-Negate t c =
    moved (scope_view c.args.self.now) (expr_view c.args.expr.now) (written.Negate c.args.expr.now.at (expr_view c.deref-in-Negate.result.now)) c.negation.result
    (seen_negate c.args.expr.now c.in-Negate.inner c.deref-in-Negate.result.now c.in-Negate.is c.deref-in-Negate.ensures)
    (c.negation.ensures (judged (scope_view c.args.self.now) (expr_view c.deref-in-Negate.result.now)) c.typed-in-Negate.ensures)

pub typed-returns-in-Not : goal.typed-returns-in-Not
typed-returns-in-Not t c =
    moved (scope_view c.args.self.now) (expr_view c.args.expr.now) (written.Not c.args.expr.now.at (expr_view c.deref-in-Not.result.now)) c.complement.result
    (seen_not c.args.expr.now c.in-Not.inner c.deref-in-Not.result.now c.in-Not.is c.deref-in-Not.ensures)
    (c.complement.ensures (judged (scope_view c.args.self.now) (expr_view c.deref-in-Not.result.now)) c.typed-in-Not.ensures)

pub typed-returns-in-Cast : goal.typed-returns-in-Cast
typed-returns-in-Cast t c =
    moved (scope_view c.args.self.now) (expr_view c.args.expr.now) (written.Cast c.args.expr.now.at (word_view c.in-Cast.class) (expr_view c.deref-in-Cast.result.now)) c.cast_of.result
    (seen_cast c.args.expr.now c.in-Cast.class c.in-Cast.inner c.deref-in-Cast.result.now c.in-Cast.is c.deref-in-Cast.ensures)
    (c.cast_of.ensures (judged (scope_view c.args.self.now) (expr_view c.deref-in-Cast.result.now)) c.typed-in-Cast.ensures)

pub typed-returns-in-InstanceOf : goal.typed-returns-in-InstanceOf
typed-returns-in-InstanceOf t c =
    moved (scope_view c.args.self.now) (expr_view c.args.expr.now) (written.InstanceOf c.args.expr.now.at (expr_view
    c.deref-in-InstanceOf.result.now) c.in-InstanceOf.field-1 (word_view c.in-InstanceOf.class)) c.test_of.result
    (seen_instance c.args.expr.now c.in-InstanceOf.inner c.in-InstanceOf.field-1 c.in-InstanceOf.class c.deref-in-InstanceOf.result.now c.in-InstanceOf.is c.deref-in-InstanceOf.ensures)
    (c.test_of.ensures (judged (scope_view c.args.self.now) (expr_view c.deref-in-InstanceOf.result.now)) c.typed-in-InstanceOf.ensures)

pub typed-returns-in-Binary : goal.typed-returns-in-Binary
typed-returns-in-Binary t c =
    moved (scope_view c.args.self.now) (expr_view c.args.expr.now)
    (written.Binary c.args.expr.now.at (operator_view c.in-Binary.word.operator) c.in-Binary.word.at
    (expr_view c.deref-in-Binary.result.now) (expr_view c.deref-in-Binary-2.result.now)) c.binary.result
    (seen_binary c.args.expr.now c.in-Binary.word c.in-Binary.left c.in-Binary.right c.deref-in-Binary.result.now
    c.deref-in-Binary-2.result.now c.in-Binary.is c.deref-in-Binary.ensures c.deref-in-Binary-2.ensures)
    (c.binary.ensures (judged (scope_view c.args.self.now) (expr_view c.deref-in-Binary.result.now)) (judged (scope_view
    c.args.self.now) (expr_view c.deref-in-Binary-2.result.now)) c.typed-left.ensures c.typed-in-Binary.ensures)

pub typed-returns-in-Choose : goal.typed-returns-in-Choose
typed-returns-in-Choose t c =
    moved (scope_view c.args.self.now) (expr_view c.args.expr.now)
    (written.Choose c.args.expr.now.at (expr_view c.deref-in-Choose.result.now) c.in-Choose.field-1
    (expr_view c.deref-in-Choose-2.result.now) (expr_view c.deref-in-Choose-3.result.now)) c.choice.result
    (seen_choose c.args.expr.now c.in-Choose.test c.in-Choose.field-1 c.in-Choose.left c.in-Choose.right
    c.deref-in-Choose.result.now c.deref-in-Choose-2.result.now c.deref-in-Choose-3.result.now c.in-Choose.is
    c.deref-in-Choose.ensures c.deref-in-Choose-2.ensures c.deref-in-Choose-3.ensures)
    (c.choice.ensures (judged (scope_view c.args.self.now) (expr_view c.deref-in-Choose.result.now))
    (judged (scope_view c.args.self.now) (expr_view c.deref-in-Choose-2.result.now))
    (judged (scope_view c.args.self.now) (expr_view c.deref-in-Choose-3.result.now)) c.typed-test.ensures
    c.typed-left-in-Choose.ensures c.typed-in-Choose.ensures)

pub typed-returns-in-Fold : goal.typed-returns-in-Fold
typed-returns-in-Fold t c =
    moved (scope_view c.args.self.now) (expr_view c.args.expr.now)
    (written.Fold c.args.expr.now.at (fold_view c.in-Fold.form) (word_view c.in-Fold.name)
    (expr_view c.deref-in-Fold-2.result.now) (expr_view c.deref-in-Fold.result.now)) c.fold.result
    (seen_fold c.args.expr.now c.in-Fold.form c.in-Fold.name c.in-Fold.list c.in-Fold.body c.deref-in-Fold-2.result.now
    c.deref-in-Fold.result.now c.in-Fold.is c.deref-in-Fold-2.ensures c.deref-in-Fold.ensures)
    (c.fold.ensures (list_or c.args.expr.now.at
    (judged (scope_view c.args.self.now) (expr_view c.deref-in-Fold-2.result.now)) (judged_list
    (scope_view c.args.self.now) c.args.expr.now.at (expr_view c.deref-in-Fold-2.result.now))) c.list.ensures)

pub list-returns-in-Call : goal.list-returns-in-Call
list-returns-in-Call t c =
    moved_list (scope_view c.args.self.now) c.args.fold (expr_view c.args.list.now) (written.Call c.args.list.now.at
    c.as_str.result.now (to_exprs (map expr_view c.deref.result.now))) c.list_call.result
    (seen_call c.args.list.now c.in-Call.name c.in-Call.arguments c.as_str.result.now c.deref.result.now c.in-Call.is c.as_str.ensures.value c.deref.ensures.value)
    (c.list_call.ensures (Is (this_node (scope_view c.args.self.now) c.args.list.now.at))
    (judged_all (scope_view c.args.self.now) (to_exprs (map expr_view c.deref.result.now))) c.this-receiver.ensures
    c.typed_all-arguments.ensures)

pub list-returns-in-CallOf : goal.list-returns-in-CallOf
list-returns-in-CallOf t c =
    moved_list (scope_view c.args.self.now) c.args.fold (expr_view c.args.list.now)
    (written.CallOf c.args.list.now.at (expr_view c.deref-in-CallOf.result.now) c.as_str-in-CallOf.result.now
    (to_exprs (map expr_view c.deref-in-CallOf-2.result.now))) c.list_call-in-CallOf.result
    (seen_call_of c.args.list.now c.in-CallOf.receiver c.in-CallOf.name c.in-CallOf.arguments
    c.deref-in-CallOf.result.now c.as_str-in-CallOf.result.now c.deref-in-CallOf-2.result.now c.in-CallOf.is
    c.deref-in-CallOf.ensures c.as_str-in-CallOf.ensures.value c.deref-in-CallOf-2.ensures.value)
    (c.list_call-in-CallOf.ensures (judged (scope_view c.args.self.now) (expr_view c.deref-in-CallOf.result.now))
    (judged_all (scope_view c.args.self.now) (to_exprs (map expr_view c.deref-in-CallOf-2.result.now)))
    c.typed-receiver.ensures c.typed_all-arguments-in-CallOf.ensures)

pub list-returns-in_default : goal.list-returns-in_default
list-returns-in_default t c =
    subst (λ o. Judges list_view (list_or c.args.fold (judged (scope_view c.args.self.now) (expr_view c.args.list.now))
    o) c.no_list.result) (sym (no_call (scope_view c.args.self.now) c.args.fold c.args.list.now
    c.in_default.not-Call c.in_default.not-CallOf))
    (c.no_list.ensures (judged (scope_view c.args.self.now) (expr_view c.args.list.now)) c.typed.ensures)
