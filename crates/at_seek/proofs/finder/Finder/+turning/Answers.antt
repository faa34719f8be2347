use Rattle.std.proofs.Common.{◌≡◌, ◌≢◌, ◌<◌, ◌≤◌, ap, arith, length, length-set, get_or-set_other, set, refl, subst, sym, ◌∙◌, Box, Vec}
use Rattle.std.specs.Global.{Global}
use Rattle.at_rules.specs.declared.body.Body.{Body, out-Body}
use Rattle.at_model.specs.Kinds.{ScopeKinds}
use Rattle.at_model.specs.Rules.{Rules}
use Rattle.at_rules.specs.Bodies.{bodies_view, body_view, row_view}
use Rattle.at_seek.specs.Finding.{exists_turned, first_turned, kinds_in, none_turned}
use Rattle.at_seek.specs.Sought as by
use Rattle.at_rules.specs.declared.body.Body.TheBlock.{hidden-the_row-Body-0}
use Rattle.at_seek.proofs.Turned.{AreTurnedTo, all_searched, came_back, inside_turned, left, moved, row_seen, sought_turned, turned_at}
use Rattle.at_model.specs.Bodies.{Call}
use Rattle.at_seek.proofs.finder.Finder.+turning.Goals as goal

pub turn_inner-returns-in-Exists : goal.turn_inner-returns-in-Exists
unfolding out-Body denote.Hole.Carrier.out
turn_inner-returns-in-Exists t c = λ rules h over.
    rw c.in-Exists.is (exists_turned _ (moved rules (kinds_in c.args.scope.now h) _ c.in-Exists.list.value _ (c.deref_mut.ensures.value ∙ ap (λ (b : Box Body Global). b.value) c.in-Exists.list-is) (c.turn.ensures rules h over))
    (moved rules (kinds_in c.args.inside.now h) _ c.in-Exists.test.value _ (c.deref_mut-in-Exists.ensures.value ∙ ap (λ (b : Box Body Global). b.value) c.in-Exists.test-is) (c.turn-in-Exists.ensures rules h over)))

pub turn_inner-returns-in-First : goal.turn_inner-returns-in-First
unfolding out-Body denote.Hole.Carrier.out
turn_inner-returns-in-First t c = λ rules h over.
    rw c.in-First.is (first_turned _ (moved rules (kinds_in c.args.scope.now h) _ c.in-First.list.value _ (c.deref_mut-in-First.ensures.value ∙ ap (λ (b : Box Body Global). b.value) c.in-First.list-is) (c.turn-in-First.ensures rules h over))
    (moved rules (kinds_in c.args.inside.now h) _ c.in-First.test.value _ (c.deref_mut-in-First-2.ensures.value ∙ ap (λ (b : Box Body Global). b.value) c.in-First.test-is) (c.turn-in-First-2.ensures rules h over)))

pub turn_inner-returns-in_default : goal.turn_inner-returns-in_default
turn_inner-returns-in_default t c = λ rules h over. none_turned (body_view c.args.body.now)

pub turn_parts-returns-in-Choose : goal.turn_parts-returns-in-Choose
turn_parts-returns-in-Choose t c = λ rules h over.
    let s = kinds_in c.args.scope.now h in
    rw c.in-Choose.is (by.choose (moved rules s _ c.in-Choose.test.value _ (c.deref_mut-in-Choose.ensures.value ∙ ap (λ (b : Box Body Global). b.value) c.in-Choose.test-is) (c.turn-in-Choose.ensures rules h over))
    (moved rules s _ c.in-Choose.one.value _ (c.deref_mut-in-Choose-2.ensures.value ∙ ap (λ (b : Box Body Global). b.value) c.in-Choose.one-is) (c.turn-in-Choose-2.ensures rules h over))
    (moved rules s _ c.in-Choose.other.value _ (c.deref_mut-in-Choose-3.ensures.value ∙ ap (λ (b : Box Body Global). b.value) c.in-Choose.other-is) (c.turn-in-Choose-3.ensures rules h over)))

pub turn_operands-returns-in-And : goal.turn_operands-returns-in-And
turn_operands-returns-in-And t c = λ rules h over.
    let s = kinds_in c.args.scope.now h in
    rw c.in-And.is (by.and (moved rules s _ c.in-And.one.value _ (c.deref_mut.ensures.value ∙ ap (λ (b : Box Body Global). b.value) c.in-And.one-is) (c.turn.ensures rules h over))
    (moved rules s _ c.in-And.other.value _ (c.deref_mut-in-And.ensures.value ∙ ap (λ (b : Box Body Global). b.value) c.in-And.other-is) (c.turn-in-And.ensures rules h over)))

pub turn_operands-returns-in-Or : goal.turn_operands-returns-in-Or
turn_operands-returns-in-Or t c = λ rules h over.
    let s = kinds_in c.args.scope.now h in
    rw c.in-Or.is (by.or (moved rules s _ c.in-Or.one.value _ (c.deref_mut-in-Or.ensures.value ∙ ap (λ (b : Box Body Global). b.value) c.in-Or.one-is) (c.turn-in-Or.ensures rules h over))
    (moved rules s _ c.in-Or.other.value _ (c.deref_mut-in-Or-2.ensures.value ∙ ap (λ (b : Box Body Global). b.value) c.in-Or.other-is) (c.turn-in-Or-2.ensures rules h over)))

pub turn_operands-returns-in-Arithmetic : goal.turn_operands-returns-in-Arithmetic
unfolding out-Body denote.Hole.Carrier.out
turn_operands-returns-in-Arithmetic t c = λ rules h over.
    let s = kinds_in c.args.scope.now h in
    rw c.in-Arithmetic.is (by.arithmetic _ (moved rules s _ c.in-Arithmetic.one.value _ (c.deref_mut-in-Arithmetic.ensures.value ∙ ap (λ (b : Box Body Global). b.value) c.in-Arithmetic.one-is) (c.turn-in-Arithmetic.ensures rules h over))
    (moved rules s _ c.in-Arithmetic.other.value _ (c.deref_mut-in-Arithmetic-2.ensures.value ∙ ap (λ (b : Box Body Global). b.value) c.in-Arithmetic.other-is) (c.turn-in-Arithmetic-2.ensures rules h over)))

pub turn_operands-returns-in-Compare : goal.turn_operands-returns-in-Compare
unfolding out-Body denote.Hole.Carrier.out
turn_operands-returns-in-Compare t c = λ rules h over.
    let s = kinds_in c.args.scope.now h in
    rw c.in-Compare.is (by.compare _ (moved rules s _ c.in-Compare.one.value _ (c.deref_mut-in-Compare.ensures.value ∙ ap (λ (b : Box Body Global). b.value) c.in-Compare.one-is) (c.turn-in-Compare.ensures rules h over))
    (moved rules s _ c.in-Compare.other.value _ (c.deref_mut-in-Compare-2.ensures.value ∙ ap (λ (b : Box Body Global). b.value) c.in-Compare.other-is) (c.turn-in-Compare-2.ensures rules h over)))

pub turn_operands-returns-in-Same : goal.turn_operands-returns-in-Same
turn_operands-returns-in-Same t c = λ rules h over.
    let s = kinds_in c.args.scope.now h in
    rw c.in-Same.is (by.same (moved rules s _ c.in-Same.one.value _ (c.deref_mut-in-Same.ensures.value ∙ ap (λ (b : Box Body Global). b.value) c.in-Same.one-is) (c.turn-in-Same.ensures rules h over))
    (moved rules s _ c.in-Same.other.value _ (c.deref_mut-in-Same-2.ensures.value ∙ ap (λ (b : Box Body Global). b.value) c.in-Same.other-is) (c.turn-in-Same-2.ensures rules h over)))

pub turn_operands-returns-in-Differ : goal.turn_operands-returns-in-Differ
turn_operands-returns-in-Differ t c = λ rules h over.
    let s = kinds_in c.args.scope.now h in
    rw c.in-Differ.is (by.differ (moved rules s _ c.in-Differ.one.value _ (c.deref_mut-in-Differ.ensures.value ∙ ap (λ (b : Box Body Global). b.value) c.in-Differ.one-is) (c.turn-in-Differ.ensures rules h over))
    (moved rules s _ c.in-Differ.other.value _ (c.deref_mut-in-Differ-2.ensures.value ∙ ap (λ (b : Box Body Global). b.value) c.in-Differ.other-is) (c.turn-in-Differ-2.ensures rules h over)))

pub turn_operands-returns-in-Equals : goal.turn_operands-returns-in-Equals
turn_operands-returns-in-Equals t c = λ rules h over.
    let s = kinds_in c.args.scope.now h in
    rw c.in-Equals.is (by.equals (moved rules s _ c.in-Equals.one.value _ (c.deref_mut-in-Equals.ensures.value ∙ ap (λ (b : Box Body Global). b.value) c.in-Equals.one-is) (c.turn-in-Equals.ensures rules h over))
    (moved rules s _ c.in-Equals.other.value _ (c.deref_mut-in-Equals-2.ensures.value ∙ ap (λ (b : Box Body Global). b.value) c.in-Equals.other-is) (c.turn-in-Equals-2.ensures rules h over)))

pub turn_others-returns-in-Join : goal.turn_others-returns-in-Join
turn_others-returns-in-Join t c = λ rules h over.
    let s = kinds_in c.args.scope.now h in
    rw c.in-Join.is (by.join (moved rules s _ c.in-Join.one.value _ (c.deref_mut.ensures.value ∙ ap (λ (b : Box Body Global). b.value) c.in-Join.one-is) (c.turn.ensures rules h over))
    (moved rules s _ c.in-Join.other.value _ (c.deref_mut-in-Join.ensures.value ∙ ap (λ (b : Box Body Global). b.value) c.in-Join.other-is) (c.turn-in-Join.ensures rules h over)))

pub turn_others-returns-in-JoinInt : goal.turn_others-returns-in-JoinInt
turn_others-returns-in-JoinInt t c = λ rules h over.
    let s = kinds_in c.args.scope.now h in
    rw c.in-JoinInt.is (by.join_int (moved rules s _ c.in-JoinInt.one.value _ (c.deref_mut-in-JoinInt.ensures.value ∙ ap (λ (b : Box Body Global). b.value) c.in-JoinInt.one-is) (c.turn-in-JoinInt.ensures rules h over))
    (moved rules s _ c.in-JoinInt.other.value _ (c.deref_mut-in-JoinInt-2.ensures.value ∙ ap (λ (b : Box Body Global). b.value) c.in-JoinInt.other-is) (c.turn-in-JoinInt-2.ensures rules h over)))

pub turn_others-returns-in-Element : goal.turn_others-returns-in-Element
unfolding out-Body denote.Hole.Carrier.out
turn_others-returns-in-Element t c = λ rules h over.
    let s = kinds_in c.args.scope.now h in
    rw c.in-Element.is (by.element _ (moved rules s _ c.in-Element.node.value _ (c.deref_mut-in-Element.ensures.value ∙ ap (λ (b : Box Body Global). b.value) c.in-Element.node-is) (c.turn-in-Element.ensures rules h over))
    (moved rules s _ c.in-Element.index.value _ (c.deref_mut-in-Element-2.ensures.value ∙ ap (λ (b : Box Body Global). b.value) c.in-Element.index-is) (c.turn-in-Element-2.ensures rules h over)))

pub turn_others-returns-in-Negate : goal.turn_others-returns-in-Negate
unfolding out-Body denote.Hole.Carrier.out
turn_others-returns-in-Negate t c = λ rules h over.
    rw c.in-Negate.is
    (by.negate (moved rules (kinds_in c.args.scope.now h) _ c.in-Negate.part.value _ (c.deref_mut-in-Negate.ensures.value ∙ ap (λ (b : Box Body Global). b.value) c.in-Negate.part-is) (c.turn-in-Negate.ensures rules h over)))

pub turn_others-returns-in-Not : goal.turn_others-returns-in-Not
unfolding out-Body denote.Hole.Carrier.out
turn_others-returns-in-Not t c = λ rules h over.
    rw c.in-Not.is
    (by.opposite (moved rules (kinds_in c.args.scope.now h) _ c.in-Not.part.value _ (c.deref_mut-in-Not.ensures.value ∙ ap (λ (b : Box Body Global). b.value) c.in-Not.part-is) (c.turn-in-Not.ensures rules h over)))

pub turn_others-returns-in-InstanceOf : goal.turn_others-returns-in-InstanceOf
unfolding out-Body denote.Hole.Carrier.out
turn_others-returns-in-InstanceOf t c = λ rules h over.
    rw c.in-InstanceOf.is
    (by.instance_of _ (moved rules (kinds_in c.args.scope.now h) _ c.in-InstanceOf.node.value _ (c.deref_mut-in-InstanceOf.ensures.value ∙ ap (λ (b : Box Body Global). b.value) c.in-InstanceOf.node-is) (c.turn-in-InstanceOf.ensures rules h over)))

pub turn_others-returns-in-CastTo : goal.turn_others-returns-in-CastTo
unfolding out-Body denote.Hole.Carrier.out
turn_others-returns-in-CastTo t c = λ rules h over.
    rw c.in-CastTo.is
    (by.cast_to _ (moved rules (kinds_in c.args.scope.now h) _ c.in-CastTo.node.value _ (c.deref_mut-in-CastTo.ensures.value ∙ ap (λ (b : Box Body Global). b.value) c.in-CastTo.node-is) (c.turn-in-CastTo.ensures rules h over)))

pub turn_others-returns-in-Child : goal.turn_others-returns-in-Child
unfolding out-Body denote.Hole.Carrier.out
turn_others-returns-in-Child t c = λ rules h over.
    rw c.in-Child.is
    (by.child _ (moved rules (kinds_in c.args.scope.now h) _ c.in-Child.node.value _ (c.deref_mut-in-Child.ensures.value ∙ ap (λ (b : Box Body Global). b.value) c.in-Child.node-is) (c.turn-in-Child.ensures rules h over)))

pub turn_others-returns-in-Count : goal.turn_others-returns-in-Count
unfolding out-Body denote.Hole.Carrier.out
turn_others-returns-in-Count t c = λ rules h over.
    rw c.in-Count.is
    (by.count _ (moved rules (kinds_in c.args.scope.now h) _ c.in-Count.node.value _ (c.deref_mut-in-Count.ensures.value ∙ ap (λ (b : Box Body Global). b.value) c.in-Count.node-is) (c.turn-in-Count.ensures rules h over)))

pub turn_others-returns-in-Has : goal.turn_others-returns-in-Has
unfolding out-Body denote.Hole.Carrier.out
turn_others-returns-in-Has t c = λ rules h over.
    rw c.in-Has.is
    (by.has _ (moved rules (kinds_in c.args.scope.now h) _ c.in-Has.node.value _ (c.deref_mut-in-Has.ensures.value ∙ ap (λ (b : Box Body Global). b.value) c.in-Has.node-is) (c.turn-in-Has.ensures rules h over)))

pub turn_others-returns-in-TokenOf : goal.turn_others-returns-in-TokenOf
unfolding out-Body denote.Hole.Carrier.out
turn_others-returns-in-TokenOf t c = λ rules h over.
    rw c.in-TokenOf.is
    (by.token_of _ (moved rules (kinds_in c.args.scope.now h) _ c.in-TokenOf.node.value _ (c.deref_mut-in-TokenOf.ensures.value ∙ ap (λ (b : Box Body Global). b.value) c.in-TokenOf.node-is) (c.turn-in-TokenOf.ensures rules h over)))

pub turn_others-returns-in-Passed : goal.turn_others-returns-in-Passed
unfolding out-Body denote.Hole.Carrier.out
turn_others-returns-in-Passed t c = λ rules h over.
    rw c.in-Passed.is
    (by.passed (moved rules (kinds_in c.args.scope.now h) _ c.in-Passed.argument.value _ (c.deref_mut-in-Passed.ensures.value ∙ ap (λ (b : Box Body Global). b.value) c.in-Passed.argument-is) (c.turn-in-Passed.ensures rules h over)))

pub turn_others-returns-in_default : goal.turn_others-returns-in_default
turn_others-returns-in_default t c = λ rules h over. by.itself (body_view c.args.body.now)

pub turn-returns : goal.turn-returns
turn-returns t c = λ rules h over.
    sought_turned rules (kinds_in c.args.scope.now h) (kinds_in c.in-Some.inside h) c.in-Some.lookup.value (body_view c.args.body.now)
    (body_view c.turn_inner.new.body) (body_view c.seek.new.body) (c.in-Some.ensures rules h over) (c.turn_inner.ensures rules h over) c.seek.ensures

pub turn_parts-returns-in-Some : goal.turn_parts-returns-in-Some
unfolding out-Body denote.Hole.Carrier.out
turn_parts-returns-in-Some t c = λ rules h over.
    let s = kinds_in c.args.scope.now h in
    let list = ap (λ (b : Box Body Global). b.value) c.in-Exists.list-is in
    rw c.in-Exists.is (by.exists _ (moved rules s _ c.in-Exists.list.value _ (c.deref_mut.ensures.value ∙ list) (c.turn.ensures rules h over))
    (inside_turned rules s (kinds_in c.in-Some.inside h) _ c.in-Exists.list.value _ c.in-Exists.part _ _ (c.deref.ensures ∙ list) c.in-Exists.part-is (c.in-Some.ensures rules h over)
    (moved rules (kinds_in c.in-Some.inside h) _ c.in-Exists.test.value _ (c.deref_mut-in-Some.ensures.value ∙ ap (λ (b : Box Body Global). b.value) c.in-Exists.test-is)
    (c.turn-in-Some.ensures rules h over))))

pub turn_parts-returns-in_default-inside : goal.turn_parts-returns-in_default-inside
unfolding out-Body denote.Hole.Carrier.out
turn_parts-returns-in_default-inside t c = λ rules h over.
    let s = kinds_in c.args.scope.now h in
    let list = ap (λ (b : Box Body Global). b.value) c.in-Exists.list-is in
    rw c.in-Exists.is (by.exists _ (moved rules s _ c.in-Exists.list.value _ (c.deref_mut.ensures.value ∙ list) (c.turn.ensures rules h over)) (by.unchanged _))

pub turn_parts-returns-in-Some-inside : goal.turn_parts-returns-in-Some-inside
unfolding out-Body denote.Hole.Carrier.out
turn_parts-returns-in-Some-inside t c = λ rules h over.
    let s = kinds_in c.args.scope.now h in
    let list = ap (λ (b : Box Body Global). b.value) c.in-First.list-is in
    rw c.in-First.is (by.first _ (moved rules s _ c.in-First.list.value _ (c.deref_mut-in-First.ensures.value ∙ list) (c.turn-in-First.ensures rules h over))
    (inside_turned rules s (kinds_in c.in-Some-inside.inside h) _ c.in-First.list.value _ c.in-First.part _ _ (c.deref-in-First.ensures ∙ list) c.in-First.part-is (c.in-Some-inside.ensures rules h over)
    (moved rules (kinds_in c.in-Some-inside.inside h) _ c.in-First.test.value _ (c.deref_mut-in-Some-inside.ensures.value ∙ ap (λ (b : Box Body Global). b.value) c.in-First.test-is)
    (c.turn-in-Some-inside.ensures rules h over))))

pub turn_parts-returns-in_default-inside-2 : goal.turn_parts-returns-in_default-inside-2
unfolding out-Body denote.Hole.Carrier.out
turn_parts-returns-in_default-inside-2 t c = λ rules h over.
    let s = kinds_in c.args.scope.now h in
    let list = ap (λ (b : Box Body Global). b.value) c.in-First.list-is in
    rw c.in-First.is (by.first _ (moved rules s _ c.in-First.list.value _ (c.deref_mut-in-First.ensures.value ∙ list) (c.turn-in-First.ensures rules h over)) (by.unchanged _))

pub turn_parts-returns-in-Some-inside-2 : goal.turn_parts-returns-in-Some-inside-2
unfolding out-Body denote.Hole.Carrier.out
turn_parts-returns-in-Some-inside-2 t c = λ rules h over.
    let s = kinds_in c.args.scope.now h in
    let list = ap (λ (b : Box Body Global). b.value) c.in-Sum.list-is in
    rw c.in-Sum.is (by.sum _ (moved rules s _ c.in-Sum.list.value _ (c.deref_mut-in-Sum.ensures.value ∙ list) (c.turn-in-Sum.ensures rules h over))
    (inside_turned rules s (kinds_in c.in-Some-inside-2.inside h) _ c.in-Sum.list.value _ c.in-Sum.part _ _ (c.deref-in-Sum.ensures ∙ list) c.in-Sum.part-is (c.in-Some-inside-2.ensures rules h over)
    (moved rules (kinds_in c.in-Some-inside-2.inside h) _ c.in-Sum.term.value _ (c.deref_mut-in-Some-inside-2.ensures.value ∙ ap (λ (b : Box Body Global). b.value) c.in-Sum.term-is)
    (c.turn-in-Some-inside-2.ensures rules h over))))

pub turn_parts-returns-in_default-inside-3 : goal.turn_parts-returns-in_default-inside-3
unfolding out-Body denote.Hole.Carrier.out
turn_parts-returns-in_default-inside-3 t c = λ rules h over.
    let s = kinds_in c.args.scope.now h in
    let list = ap (λ (b : Box Body Global). b.value) c.in-Sum.list-is in
    rw c.in-Sum.is (by.sum _ (moved rules s _ c.in-Sum.list.value _ (c.deref_mut-in-Sum.ensures.value ∙ list) (c.turn-in-Sum.ensures rules h over)) (by.unchanged _))

pub turn_others-returns-in-Call : goal.turn_others-returns-in-Call
unfolding out-Body denote.Hole.Carrier.out
turn_others-returns-in-Call t c = λ rules h over.
    let s = kinds_in c.args.scope.now h in
    rw c.in-Call.is (subst (λ x. by.IsSearched rules s (Call (body_view c.in-Call.node.value) c.in-Call.field-1 x)
    (Call (body_view c.turn-in-Call.new.body) c.in-Call.field-1 (row_view (hidden-the_row-Body-0 c.turn_all.new.arguments)))) (sym (row_seen c.in-Call.arguments))
    (subst (λ y. by.IsSearched rules s (Call (body_view c.in-Call.node.value) c.in-Call.field-1 (bodies_view c.in-Call.arguments.items))
    (Call (body_view c.turn-in-Call.new.body) c.in-Call.field-1 y)) (sym (row_seen c.turn_all.new.arguments))
    (by.call _ (moved rules s _ c.in-Call.node.value _ (c.deref_mut-in-Call.ensures.value ∙ ap (λ (b : Box Body Global). b.value) c.in-Call.node-is) (c.turn-in-Call.ensures rules h over))
    (subst (λ (v : Vec Body Global). by.AreSearched rules s (bodies_view v.items) (bodies_view c.turn_all.new.arguments.items)) c.in-Call.arguments-is
    (c.turn_all.ensures rules h over)))))

pub turn_all-returns : goal.turn_all-returns
turn_all-returns t c = λ rules h over.
    let s = kinds_in c.args.scope.now h in
    let items = c.loop-argument.argument-items in
    let lent = c.deref_mut-argument-items.result.now in
    let long : length items ≡ c.args.arguments.now.len = c.loop-argument.auto.argument-items ∙ c.deref_mut-argument-items.ensures.len in
    subst (λ xs. by.AreSearched rules s (bodies_view c.args.arguments.now.items) (bodies_view xs)) (sym (came_back _ items _ long))
    (subst (λ xs. by.AreSearched rules s (bodies_view xs) (bodies_view items)) c.deref_mut-argument-items.ensures.value
    (all_searched rules s c.loop-argument.argument-index lent items (c.loop-argument.invariant.0 rules h over) c.loop-argument-test.false))

pub turn_all-loop-argument-init : goal.turn_all-loop-argument-init
turn_all-loop-argument-init t c = ((λ rules h over. left c.deref_mut-argument-items.result.now), refl, (λ k d at. refl))

pub turn_all-loop-argument-preserved : goal.turn_all-loop-argument-preserved
turn_all-loop-argument-preserved t c =
    let items = c.loop-argument.argument-items in
    let place = c.loop-argument.argument-index in
    let less : place < length items = omega (arith, c.loop-argument.auto.argument-items, c.loop-argument-test.true) in (
      (λ rules h over.
          let s = kinds_in c.args.scope.now h in
          subst (λ n. AreTurnedTo rules s n c.deref_mut-argument-items.result.now (set items place c.turn.new.body)) (omega arith)
          (turned_at rules s place c.deref_mut-argument-items.result.now items c.argument-item.result c.turn.new.body
          (c.loop-argument.invariant.0 rules h over) less (c.turn.ensures rules h over))),
      length-set items place c.turn.new.body ∙ c.loop-argument.auto.argument-items,
      (λ k d at.
          let ne : k ≢ place = omega (arith, at) in
          let behind : place ≤ k = omega (arith, at) in
          get_or-set_other items place k c.turn.new.body d ne ∙ c.loop-argument.invariant.2 k d behind),
    )
