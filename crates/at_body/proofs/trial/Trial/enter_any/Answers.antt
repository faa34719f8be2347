use Rattle.at_store.specs.Shown.{contents}
use Rattle.std.proofs.Common.{◌≡◌, ◌∙◌, ◌+◌, ap, refl, arith, pos}
use Rattle.at_body.specs.declared.todo.Unary.TheVariants as unary
use Rattle.at_body.specs.declared.todo.Binary.TheVariants as binary
use Rattle.at_body.specs.declared.todo.Fold.TheVariants as fold
use Rattle.at_body.specs.declared.todo.Search.TheVariants as search
use Rattle.at_body.specs.declared.todo.Todo.TheVariants.{Use, Right, And, Or, Choose, Elements, Under}
use Rattle.at_body.specs.Rest.{ev, load, place_of}
use Rattle.at_body.specs.Size.{size}
use Rattle.at_rules.specs.Bodies.{body_view}
use Rattle.at_body.proofs.Entering.{bounded, brought, entered}
use Rattle.at_body.proofs.Uses.{followed, kept}
use Rattle.at_model.specs.Bodies.{Negate, Not, InstanceOf, CastTo, Child, Count, Has, Passed, Compare, Join, JoinInt, Same, Differ, Equals, Element, Exists, First, Sum, SeekAny, SeekFirst}
use Rattle.at_model.specs.Bodies as model
use Rattle.at_class.specs.Keys.{key_view}
use Rattle.at_rules.specs.Bodies.{order_view, sought_view}
use Rattle.at_body.specs.Typed.{class_shown}
use Rattle.at_body.proofs.of_typing.TypedParts.{part_enters, put_typed, negates, opposes, tests, casts, asks_child, asks_count, asks_has, passes, compares, joins, joins_int, same, differs, equals, asks_element, conjoins, disjoins, chooses, exists, first, sums}
use Rattle.at_body.proofs.Seeks.{any_shape, first_shape}
use Rattle.at_body.proofs.of_typing.TypedSeeks.{seeks_any, seeks_first}
use Rattle.at_body.proofs.of_typing.TypedAnswers.{at_hand_takes}
use Rattle.at_body.proofs.of_typing.TypedSteps.{entered_same, entered_told, index_there, name_there}
use Rattle.at_body.proofs.trial.Trial.enter_any.Goals as goal

pub returns-in-Name-clause-same : goal.returns-in-Name-clause-same
returns-in-Name-clause-same c = rw c.in-Name.is (followed c.args.rules.now.classes (contents c.args.store.now) _ _ _ _ c.args.self.now refl (c.name.ensures.same c.args.rules.now.classes) (kept _ _))

pub returns-in-Negate-clause-same : goal.returns-in-Negate-clause-same
returns-in-Negate-clause-same c = brought c.args.rules.now.classes _ _ c.args.self.now _ (body_view c.args.body.now) (body_view c.deref.result.now) (Use unary.Negate) c.operand.ensures.same refl (rw (c.in-Negate.is, ← c.deref.ensures) refl)

pub returns-in-Not-clause-same : goal.returns-in-Not-clause-same
returns-in-Not-clause-same c = brought c.args.rules.now.classes _ _ c.args.self.now _ (body_view c.args.body.now) (body_view c.deref-in-Not.result.now) (Use unary.Not) c.operand-in-Not.ensures.same refl (rw (c.in-Not.is, ← c.deref-in-Not.ensures) refl)

pub returns-in-Compare-clause-same : goal.returns-in-Compare-clause-same
returns-in-Compare-clause-same c = brought c.args.rules.now.classes _ _ c.args.self.now _ (body_view c.args.body.now) (body_view c.deref-in-Compare.result.now) (Right (binary.Compare c.in-Compare.o) c.deref-in-Compare-2.result) (c.operands.ensures.same c.args.rules.now.classes) refl (rw (c.in-Compare.is, ← c.deref-in-Compare.ensures, ← c.deref-in-Compare-2.ensures) refl)

pub returns-in-Join-clause-same : goal.returns-in-Join-clause-same
returns-in-Join-clause-same c = brought c.args.rules.now.classes _ _ c.args.self.now _ (body_view c.args.body.now) (body_view c.deref-in-Join.result.now) (Right binary.Join c.deref-in-Join-2.result) (c.operands-in-Join.ensures.same c.args.rules.now.classes) refl (rw (c.in-Join.is, ← c.deref-in-Join.ensures, ← c.deref-in-Join-2.ensures) refl)

pub returns-in-JoinInt-clause-same : goal.returns-in-JoinInt-clause-same
returns-in-JoinInt-clause-same c = brought c.args.rules.now.classes _ _ c.args.self.now _ (body_view c.args.body.now) (body_view c.deref-in-JoinInt.result.now) (Right binary.JoinInt c.deref-in-JoinInt-2.result) (c.operands-in-JoinInt.ensures.same c.args.rules.now.classes) refl (rw (c.in-JoinInt.is, ← c.deref-in-JoinInt.ensures, ← c.deref-in-JoinInt-2.ensures) refl)

pub returns-in-Same-clause-same : goal.returns-in-Same-clause-same
returns-in-Same-clause-same c = brought c.args.rules.now.classes _ _ c.args.self.now _ (body_view c.args.body.now) (body_view c.deref-in-Same.result.now) (Right binary.Same c.deref-in-Same-2.result) (c.compared.ensures.same c.args.rules.now.classes) refl (rw (c.in-Same.is, ← c.deref-in-Same.ensures, ← c.deref-in-Same-2.ensures) refl)

pub returns-in-Differ-clause-same : goal.returns-in-Differ-clause-same
returns-in-Differ-clause-same c = brought c.args.rules.now.classes _ _ c.args.self.now _ (body_view c.args.body.now) (body_view c.deref-in-Differ.result.now) (Right binary.Differ c.deref-in-Differ-2.result) (c.compared-in-Differ.ensures.same c.args.rules.now.classes) refl (rw (c.in-Differ.is, ← c.deref-in-Differ.ensures, ← c.deref-in-Differ-2.ensures) refl)

pub returns-in-And-clause-same : goal.returns-in-And-clause-same
returns-in-And-clause-same c = entered c.args.rules.now.classes _ _ c.args.self.now _ (body_view c.args.body.now) c.deref-in-And-2.result (And c.deref-in-And.result) c.then.ensures refl (rw (c.in-And.is, ← c.deref-in-And.ensures, ← c.deref-in-And-2.ensures) refl)

pub returns-in-Or-clause-same : goal.returns-in-Or-clause-same
returns-in-Or-clause-same c = entered c.args.rules.now.classes _ _ c.args.self.now _ (body_view c.args.body.now) c.deref-in-Or-2.result (Or c.deref-in-Or.result) c.then-in-Or.ensures refl (rw (c.in-Or.is, ← c.deref-in-Or.ensures, ← c.deref-in-Or-2.ensures) refl)

pub returns-in-Choose-clause-same : goal.returns-in-Choose-clause-same
returns-in-Choose-clause-same c = entered c.args.rules.now.classes _ _ c.args.self.now _ (body_view c.args.body.now) c.deref-in-Choose-3.result (Choose c.deref-in-Choose.result c.deref-in-Choose-2.result) c.then-in-Choose.ensures refl (rw (c.in-Choose.is, ← c.deref-in-Choose.ensures, ← c.deref-in-Choose-2.ensures, ← c.deref-in-Choose-3.ensures) refl)

pub returns-in-Equals-clause-same : goal.returns-in-Equals-clause-same
returns-in-Equals-clause-same c = brought c.args.rules.now.classes _ _ c.args.self.now _ (body_view c.args.body.now) (body_view c.deref-in-Equals.result.now) (Right binary.Equals c.deref-in-Equals-2.result) (c.compared-in-Equals.ensures.same c.args.rules.now.classes) refl (rw (c.in-Equals.is, ← c.deref-in-Equals.ensures, ← c.deref-in-Equals-2.ensures) refl)

pub returns-in-InstanceOf-clause-same : goal.returns-in-InstanceOf-clause-same
returns-in-InstanceOf-clause-same c = brought c.args.rules.now.classes _ _ c.args.self.now _ (body_view c.args.body.now) (body_view c.deref-in-InstanceOf.result.now) (Use (unary.InstanceOf c.in-InstanceOf.class)) c.operand-in-InstanceOf.ensures.same refl (rw (c.in-InstanceOf.is, ← c.deref-in-InstanceOf.ensures) refl)

pub returns-in-CastTo-clause-same : goal.returns-in-CastTo-clause-same
returns-in-CastTo-clause-same c = brought c.args.rules.now.classes _ _ c.args.self.now _ (body_view c.args.body.now) (body_view c.deref-in-CastTo.result.now) (Use (unary.CastTo c.in-CastTo.class)) c.operand-in-CastTo.ensures.same refl (rw (c.in-CastTo.is, ← c.deref-in-CastTo.ensures) refl)

pub returns-in-Child-clause-same : goal.returns-in-Child-clause-same
returns-in-Child-clause-same c = brought c.args.rules.now.classes _ _ c.args.self.now _ (body_view c.args.body.now) (body_view c.deref-in-Child.result.now) (Use (unary.Child c.in-Child.part)) c.operand-in-Child.ensures.same refl (rw (c.in-Child.is, ← c.deref-in-Child.ensures) refl)

pub returns-in-Element-clause-same : goal.returns-in-Element-clause-same
returns-in-Element-clause-same c = brought c.args.rules.now.classes _ _ c.args.self.now _ (body_view c.args.body.now) (body_view c.deref-in-Element.result.now) (Right (binary.Element c.in-Element.part) c.deref-in-Element-2.result) (c.operands-in-Element.ensures.same c.args.rules.now.classes) refl (rw (c.in-Element.is, ← c.deref-in-Element.ensures, ← c.deref-in-Element-2.ensures) refl)

pub returns-in-Count-clause-same : goal.returns-in-Count-clause-same
returns-in-Count-clause-same c = brought c.args.rules.now.classes _ _ c.args.self.now _ (body_view c.args.body.now) (body_view c.deref-in-Count.result.now) (Use (unary.Count c.in-Count.part)) c.operand-in-Count.ensures.same refl (rw (c.in-Count.is, ← c.deref-in-Count.ensures) refl)

pub returns-in-Has-clause-same : goal.returns-in-Has-clause-same
returns-in-Has-clause-same c = brought c.args.rules.now.classes _ _ c.args.self.now _ (body_view c.args.body.now) (body_view c.deref-in-Has.result.now) (Use (unary.Has c.in-Has.part)) c.operand-in-Has.ensures.same refl (rw (c.in-Has.is, ← c.deref-in-Has.ensures) refl)

pub returns-in-Passed-clause-same : goal.returns-in-Passed-clause-same
returns-in-Passed-clause-same c = brought c.args.rules.now.classes _ _ c.args.self.now _ (body_view c.args.body.now) (body_view c.deref-in-Passed.result.now) (Use unary.Passed) c.operand-in-Passed.ensures.same refl (rw (c.in-Passed.is, ← c.deref-in-Passed.ensures) refl)

pub returns-in-Exists-clause-same : goal.returns-in-Exists-clause-same
returns-in-Exists-clause-same c = entered c.args.rules.now.classes _ _ c.args.self.now _ (body_view c.args.body.now) c.deref-in-Exists.result (Elements fold.Exists c.in-Exists.part c.deref-in-Exists-2.result) c.over.ensures refl (rw (c.in-Exists.is, ← c.deref-in-Exists.ensures, ← c.deref-in-Exists-2.ensures) refl)

pub returns-in-First-clause-same : goal.returns-in-First-clause-same
returns-in-First-clause-same c = entered c.args.rules.now.classes _ _ c.args.self.now _ (body_view c.args.body.now) c.deref-in-First.result (Elements fold.First c.in-First.part c.deref-in-First-2.result) c.over-in-First.ensures refl (rw (c.in-First.is, ← c.deref-in-First.ensures, ← c.deref-in-First-2.ensures) refl)

pub returns-in-Sum-clause-same : goal.returns-in-Sum-clause-same
returns-in-Sum-clause-same c = entered c.args.rules.now.classes _ _ c.args.self.now _ (body_view c.args.body.now) c.deref-in-Sum.result (Elements (fold.Sum (pos 0)) c.in-Sum.part c.deref-in-Sum-2.result) c.over-in-Sum.ensures refl (rw (c.in-Sum.is, ← c.deref-in-Sum.ensures, ← c.deref-in-Sum-2.ensures) refl)

pub returns-in-IndexName-clause-same : goal.returns-in-IndexName-clause-same
returns-in-IndexName-clause-same c = rw c.in-IndexName.is (c.index.ensures.same c.args.rules.now.classes)

pub returns-in-Negate-clause-less : goal.returns-in-Negate-clause-less
returns-in-Negate-clause-less c = bounded _ _ (load c.args.self.now.todo) (size (body_view c.deref.result.now) + 2) (size (body_view c.args.body.now)) c.operand.ensures.less (rw (c.in-Negate.is, ← c.deref.ensures) refl)

pub returns-in-Not-clause-less : goal.returns-in-Not-clause-less
returns-in-Not-clause-less c = bounded _ _ (load c.args.self.now.todo) (size (body_view c.deref-in-Not.result.now) + 2) (size (body_view c.args.body.now)) c.operand-in-Not.ensures.less (rw (c.in-Not.is, ← c.deref-in-Not.ensures) refl)

pub returns-in-Compare-clause-less : goal.returns-in-Compare-clause-less
returns-in-Compare-clause-less c = bounded _ _ (load c.args.self.now.todo) (size (body_view c.deref-in-Compare.result.now) + size (body_view c.deref-in-Compare-2.result.now) + 3) (size (body_view c.args.body.now)) c.operands.ensures.less (rw (c.in-Compare.is, ← c.deref-in-Compare.ensures, ← c.deref-in-Compare-2.ensures) refl)

pub returns-in-Join-clause-less : goal.returns-in-Join-clause-less
returns-in-Join-clause-less c = bounded _ _ (load c.args.self.now.todo) (size (body_view c.deref-in-Join.result.now) + size (body_view c.deref-in-Join-2.result.now) + 3) (size (body_view c.args.body.now)) c.operands-in-Join.ensures.less (rw (c.in-Join.is, ← c.deref-in-Join.ensures, ← c.deref-in-Join-2.ensures) refl)

pub returns-in-JoinInt-clause-less : goal.returns-in-JoinInt-clause-less
returns-in-JoinInt-clause-less c = bounded _ _ (load c.args.self.now.todo) (size (body_view c.deref-in-JoinInt.result.now) + size (body_view c.deref-in-JoinInt-2.result.now) + 3) (size (body_view c.args.body.now)) c.operands-in-JoinInt.ensures.less (rw (c.in-JoinInt.is, ← c.deref-in-JoinInt.ensures, ← c.deref-in-JoinInt-2.ensures) refl)

pub returns-in-Same-clause-less : goal.returns-in-Same-clause-less
returns-in-Same-clause-less c = bounded _ _ (load c.args.self.now.todo) (size (body_view c.deref-in-Same.result.now) + size (body_view c.deref-in-Same-2.result.now) + 3) (size (body_view c.args.body.now)) c.compared.ensures.less (rw (c.in-Same.is, ← c.deref-in-Same.ensures, ← c.deref-in-Same-2.ensures) refl)

pub returns-in-Differ-clause-less : goal.returns-in-Differ-clause-less
returns-in-Differ-clause-less c = bounded _ _ (load c.args.self.now.todo) (size (body_view c.deref-in-Differ.result.now) + size (body_view c.deref-in-Differ-2.result.now) + 3) (size (body_view c.args.body.now)) c.compared-in-Differ.ensures.less (rw (c.in-Differ.is, ← c.deref-in-Differ.ensures, ← c.deref-in-Differ-2.ensures) refl)

pub returns-in-Equals-clause-less : goal.returns-in-Equals-clause-less
returns-in-Equals-clause-less c = bounded _ _ (load c.args.self.now.todo) (size (body_view c.deref-in-Equals.result.now) + size (body_view c.deref-in-Equals-2.result.now) + 3) (size (body_view c.args.body.now)) c.compared-in-Equals.ensures.less (rw (c.in-Equals.is, ← c.deref-in-Equals.ensures, ← c.deref-in-Equals-2.ensures) refl)

pub returns-in-InstanceOf-clause-less : goal.returns-in-InstanceOf-clause-less
returns-in-InstanceOf-clause-less c = bounded _ _ (load c.args.self.now.todo) (size (body_view c.deref-in-InstanceOf.result.now) + 2) (size (body_view c.args.body.now)) c.operand-in-InstanceOf.ensures.less (rw (c.in-InstanceOf.is, ← c.deref-in-InstanceOf.ensures) refl)

pub returns-in-CastTo-clause-less : goal.returns-in-CastTo-clause-less
returns-in-CastTo-clause-less c = bounded _ _ (load c.args.self.now.todo) (size (body_view c.deref-in-CastTo.result.now) + 2) (size (body_view c.args.body.now)) c.operand-in-CastTo.ensures.less (rw (c.in-CastTo.is, ← c.deref-in-CastTo.ensures) refl)

pub returns-in-Child-clause-less : goal.returns-in-Child-clause-less
returns-in-Child-clause-less c = bounded _ _ (load c.args.self.now.todo) (size (body_view c.deref-in-Child.result.now) + 2) (size (body_view c.args.body.now)) c.operand-in-Child.ensures.less (rw (c.in-Child.is, ← c.deref-in-Child.ensures) refl)

pub returns-in-Element-clause-less : goal.returns-in-Element-clause-less
returns-in-Element-clause-less c = bounded _ _ (load c.args.self.now.todo) (size (body_view c.deref-in-Element.result.now) + size (body_view c.deref-in-Element-2.result.now) + 3) (size (body_view c.args.body.now)) c.operands-in-Element.ensures.less (rw (c.in-Element.is, ← c.deref-in-Element.ensures, ← c.deref-in-Element-2.ensures) refl)

pub returns-in-Count-clause-less : goal.returns-in-Count-clause-less
returns-in-Count-clause-less c = bounded _ _ (load c.args.self.now.todo) (size (body_view c.deref-in-Count.result.now) + 2) (size (body_view c.args.body.now)) c.operand-in-Count.ensures.less (rw (c.in-Count.is, ← c.deref-in-Count.ensures) refl)

pub returns-in-Has-clause-less : goal.returns-in-Has-clause-less
returns-in-Has-clause-less c = bounded _ _ (load c.args.self.now.todo) (size (body_view c.deref-in-Has.result.now) + 2) (size (body_view c.args.body.now)) c.operand-in-Has.ensures.less (rw (c.in-Has.is, ← c.deref-in-Has.ensures) refl)

pub returns-in-Passed-clause-less : goal.returns-in-Passed-clause-less
returns-in-Passed-clause-less c = bounded _ _ (load c.args.self.now.todo) (size (body_view c.deref-in-Passed.result.now) + 2) (size (body_view c.args.body.now)) c.operand-in-Passed.ensures.less (rw (c.in-Passed.is, ← c.deref-in-Passed.ensures) refl)

pub operand-requires-clause-typed : goal.operand-requires-clause-typed
operand-requires-clause-typed c = part_enters c.args.rules.now (class_shown c.args.store.now) c.args.self.now c.args.body.now c.deref.result.now (Use unary.Negate) (Negate (body_view c.deref.result.now)) (rw (c.in-Negate.is, ← c.deref.ensures) refl) (λ s k x h. negates c.args.rules.now (class_shown c.args.store.now) s (body_view c.deref.result.now) k c.args.self.now.todo x h) c.requires.typed

pub operand-requires-in-Not-clause-typed : goal.operand-requires-in-Not-clause-typed
operand-requires-in-Not-clause-typed c = part_enters c.args.rules.now (class_shown c.args.store.now) c.args.self.now c.args.body.now c.deref-in-Not.result.now (Use unary.Not) (Not (body_view c.deref-in-Not.result.now)) (rw (c.in-Not.is, ← c.deref-in-Not.ensures) refl) (λ s k x h. opposes c.args.rules.now (class_shown c.args.store.now) s (body_view c.deref-in-Not.result.now) k c.args.self.now.todo x h) c.requires.typed

pub operands-requires-clause-typed : goal.operands-requires-clause-typed
operands-requires-clause-typed c = (c.args.rules.now, class_shown c.args.store.now, c.requires.over, part_enters c.args.rules.now (class_shown c.args.store.now) c.args.self.now c.args.body.now c.deref-in-Compare.result.now (Right (binary.Compare c.in-Compare.o) c.deref-in-Compare-2.result) (Compare (order_view c.in-Compare.o) (body_view c.deref-in-Compare.result.now) (body_view c.deref-in-Compare-2.result.now)) (rw (c.in-Compare.is, ← c.deref-in-Compare.ensures, ← c.deref-in-Compare-2.ensures) refl) (λ s k x h. compares c.args.rules.now (class_shown c.args.store.now) s (body_view c.deref-in-Compare.result.now) c.deref-in-Compare-2.result c.in-Compare.o k c.args.self.now.todo x h) c.requires.typed)

pub returns-in-Compare-clause-typed : goal.returns-in-Compare-clause-typed
returns-in-Compare-clause-typed c = c.operands.ensures.typed c.args.rules.now (class_shown c.args.store.now) c.requires.over (part_enters c.args.rules.now (class_shown c.args.store.now) c.args.self.now c.args.body.now c.deref-in-Compare.result.now (Right (binary.Compare c.in-Compare.o) c.deref-in-Compare-2.result) (Compare (order_view c.in-Compare.o) (body_view c.deref-in-Compare.result.now) (body_view c.deref-in-Compare-2.result.now)) (rw (c.in-Compare.is, ← c.deref-in-Compare.ensures, ← c.deref-in-Compare-2.ensures) refl) (λ s k x h. compares c.args.rules.now (class_shown c.args.store.now) s (body_view c.deref-in-Compare.result.now) c.deref-in-Compare-2.result c.in-Compare.o k c.args.self.now.todo x h) c.requires.typed)

pub operands-requires-in-Join-clause-typed : goal.operands-requires-in-Join-clause-typed
operands-requires-in-Join-clause-typed c = (c.args.rules.now, class_shown c.args.store.now, c.requires.over, part_enters c.args.rules.now (class_shown c.args.store.now) c.args.self.now c.args.body.now c.deref-in-Join.result.now (Right binary.Join c.deref-in-Join-2.result) (Join (body_view c.deref-in-Join.result.now) (body_view c.deref-in-Join-2.result.now)) (rw (c.in-Join.is, ← c.deref-in-Join.ensures, ← c.deref-in-Join-2.ensures) refl) (λ s k x h. joins c.args.rules.now (class_shown c.args.store.now) s (body_view c.deref-in-Join.result.now) c.deref-in-Join-2.result k c.args.self.now.todo x h) c.requires.typed)

pub returns-in-Join-clause-typed : goal.returns-in-Join-clause-typed
returns-in-Join-clause-typed c = c.operands-in-Join.ensures.typed c.args.rules.now (class_shown c.args.store.now) c.requires.over (part_enters c.args.rules.now (class_shown c.args.store.now) c.args.self.now c.args.body.now c.deref-in-Join.result.now (Right binary.Join c.deref-in-Join-2.result) (Join (body_view c.deref-in-Join.result.now) (body_view c.deref-in-Join-2.result.now)) (rw (c.in-Join.is, ← c.deref-in-Join.ensures, ← c.deref-in-Join-2.ensures) refl) (λ s k x h. joins c.args.rules.now (class_shown c.args.store.now) s (body_view c.deref-in-Join.result.now) c.deref-in-Join-2.result k c.args.self.now.todo x h) c.requires.typed)

pub operands-requires-in-JoinInt-clause-typed : goal.operands-requires-in-JoinInt-clause-typed
operands-requires-in-JoinInt-clause-typed c = (c.args.rules.now, class_shown c.args.store.now, c.requires.over, part_enters c.args.rules.now (class_shown c.args.store.now) c.args.self.now c.args.body.now c.deref-in-JoinInt.result.now (Right binary.JoinInt c.deref-in-JoinInt-2.result) (JoinInt (body_view c.deref-in-JoinInt.result.now) (body_view c.deref-in-JoinInt-2.result.now)) (rw (c.in-JoinInt.is, ← c.deref-in-JoinInt.ensures, ← c.deref-in-JoinInt-2.ensures) refl) (λ s k x h. joins_int c.args.rules.now (class_shown c.args.store.now) s (body_view c.deref-in-JoinInt.result.now) c.deref-in-JoinInt-2.result k c.args.self.now.todo x h) c.requires.typed)

pub returns-in-JoinInt-clause-typed : goal.returns-in-JoinInt-clause-typed
returns-in-JoinInt-clause-typed c = c.operands-in-JoinInt.ensures.typed c.args.rules.now (class_shown c.args.store.now) c.requires.over (part_enters c.args.rules.now (class_shown c.args.store.now) c.args.self.now c.args.body.now c.deref-in-JoinInt.result.now (Right binary.JoinInt c.deref-in-JoinInt-2.result) (JoinInt (body_view c.deref-in-JoinInt.result.now) (body_view c.deref-in-JoinInt-2.result.now)) (rw (c.in-JoinInt.is, ← c.deref-in-JoinInt.ensures, ← c.deref-in-JoinInt-2.ensures) refl) (λ s k x h. joins_int c.args.rules.now (class_shown c.args.store.now) s (body_view c.deref-in-JoinInt.result.now) c.deref-in-JoinInt-2.result k c.args.self.now.todo x h) c.requires.typed)

pub compared-requires-clause-typed : goal.compared-requires-clause-typed
compared-requires-clause-typed c = (c.args.rules.now, class_shown c.args.store.now, c.requires.over, part_enters c.args.rules.now (class_shown c.args.store.now) c.args.self.now c.args.body.now c.deref-in-Same.result.now (Right binary.Same c.deref-in-Same-2.result) (Same (body_view c.deref-in-Same.result.now) (body_view c.deref-in-Same-2.result.now)) (rw (c.in-Same.is, ← c.deref-in-Same.ensures, ← c.deref-in-Same-2.ensures) refl) (λ s k x h. same c.args.rules.now (class_shown c.args.store.now) s (body_view c.deref-in-Same.result.now) c.deref-in-Same-2.result k c.args.self.now.todo x h) c.requires.typed)

pub returns-in-Same-clause-typed : goal.returns-in-Same-clause-typed
returns-in-Same-clause-typed c = c.compared.ensures.typed c.args.rules.now (class_shown c.args.store.now) c.requires.over (part_enters c.args.rules.now (class_shown c.args.store.now) c.args.self.now c.args.body.now c.deref-in-Same.result.now (Right binary.Same c.deref-in-Same-2.result) (Same (body_view c.deref-in-Same.result.now) (body_view c.deref-in-Same-2.result.now)) (rw (c.in-Same.is, ← c.deref-in-Same.ensures, ← c.deref-in-Same-2.ensures) refl) (λ s k x h. same c.args.rules.now (class_shown c.args.store.now) s (body_view c.deref-in-Same.result.now) c.deref-in-Same-2.result k c.args.self.now.todo x h) c.requires.typed)

pub compared-requires-in-Differ-clause-typed : goal.compared-requires-in-Differ-clause-typed
compared-requires-in-Differ-clause-typed c = (c.args.rules.now, class_shown c.args.store.now, c.requires.over, part_enters c.args.rules.now (class_shown c.args.store.now) c.args.self.now c.args.body.now c.deref-in-Differ.result.now (Right binary.Differ c.deref-in-Differ-2.result) (Differ (body_view c.deref-in-Differ.result.now) (body_view c.deref-in-Differ-2.result.now)) (rw (c.in-Differ.is, ← c.deref-in-Differ.ensures, ← c.deref-in-Differ-2.ensures) refl) (λ s k x h. differs c.args.rules.now (class_shown c.args.store.now) s (body_view c.deref-in-Differ.result.now) c.deref-in-Differ-2.result k c.args.self.now.todo x h) c.requires.typed)

pub returns-in-Differ-clause-typed : goal.returns-in-Differ-clause-typed
returns-in-Differ-clause-typed c = c.compared-in-Differ.ensures.typed c.args.rules.now (class_shown c.args.store.now) c.requires.over (part_enters c.args.rules.now (class_shown c.args.store.now) c.args.self.now c.args.body.now c.deref-in-Differ.result.now (Right binary.Differ c.deref-in-Differ-2.result) (Differ (body_view c.deref-in-Differ.result.now) (body_view c.deref-in-Differ-2.result.now)) (rw (c.in-Differ.is, ← c.deref-in-Differ.ensures, ← c.deref-in-Differ-2.ensures) refl) (λ s k x h. differs c.args.rules.now (class_shown c.args.store.now) s (body_view c.deref-in-Differ.result.now) c.deref-in-Differ-2.result k c.args.self.now.todo x h) c.requires.typed)

pub returns-in-And-clause-typed : goal.returns-in-And-clause-typed
returns-in-And-clause-typed c = put_typed c.args.rules.now (class_shown c.args.store.now) _ c.args.self.now _ c.deref-in-And-2.result (And c.deref-in-And.result) c.then.ensures (part_enters c.args.rules.now (class_shown c.args.store.now) c.args.self.now c.args.body.now c.deref-in-And-2.result.now (And c.deref-in-And.result) (model.And (body_view c.deref-in-And-2.result.now) (body_view c.deref-in-And.result.now)) (rw (c.in-And.is, ← c.deref-in-And.ensures, ← c.deref-in-And-2.ensures) refl) (λ s k x h. conjoins c.args.rules.now (class_shown c.args.store.now) s (body_view c.deref-in-And-2.result.now) c.deref-in-And.result k c.args.self.now.todo x h) c.requires.typed)

pub returns-in-Or-clause-typed : goal.returns-in-Or-clause-typed
returns-in-Or-clause-typed c = put_typed c.args.rules.now (class_shown c.args.store.now) _ c.args.self.now _ c.deref-in-Or-2.result (Or c.deref-in-Or.result) c.then-in-Or.ensures (part_enters c.args.rules.now (class_shown c.args.store.now) c.args.self.now c.args.body.now c.deref-in-Or-2.result.now (Or c.deref-in-Or.result) (model.Or (body_view c.deref-in-Or-2.result.now) (body_view c.deref-in-Or.result.now)) (rw (c.in-Or.is, ← c.deref-in-Or.ensures, ← c.deref-in-Or-2.ensures) refl) (λ s k x h. disjoins c.args.rules.now (class_shown c.args.store.now) s (body_view c.deref-in-Or-2.result.now) c.deref-in-Or.result k c.args.self.now.todo x h) c.requires.typed)

pub returns-in-Choose-clause-typed : goal.returns-in-Choose-clause-typed
returns-in-Choose-clause-typed c = put_typed c.args.rules.now (class_shown c.args.store.now) _ c.args.self.now _ c.deref-in-Choose-3.result (Choose c.deref-in-Choose.result c.deref-in-Choose-2.result) c.then-in-Choose.ensures (part_enters c.args.rules.now (class_shown c.args.store.now) c.args.self.now c.args.body.now c.deref-in-Choose-3.result.now (Choose c.deref-in-Choose.result c.deref-in-Choose-2.result) (model.Choose (body_view c.deref-in-Choose-3.result.now) (body_view c.deref-in-Choose.result.now) (body_view c.deref-in-Choose-2.result.now)) (rw (c.in-Choose.is, ← c.deref-in-Choose.ensures, ← c.deref-in-Choose-2.ensures, ← c.deref-in-Choose-3.ensures) refl) (λ s k x h. chooses c.args.rules.now (class_shown c.args.store.now) s (body_view c.deref-in-Choose-3.result.now) c.deref-in-Choose.result c.deref-in-Choose-2.result k c.args.self.now.todo x h) c.requires.typed)

pub compared-requires-in-Equals-clause-typed : goal.compared-requires-in-Equals-clause-typed
compared-requires-in-Equals-clause-typed c = (c.args.rules.now, class_shown c.args.store.now, c.requires.over, part_enters c.args.rules.now (class_shown c.args.store.now) c.args.self.now c.args.body.now c.deref-in-Equals.result.now (Right binary.Equals c.deref-in-Equals-2.result) (Equals (body_view c.deref-in-Equals.result.now) (body_view c.deref-in-Equals-2.result.now)) (rw (c.in-Equals.is, ← c.deref-in-Equals.ensures, ← c.deref-in-Equals-2.ensures) refl) (λ s k x h. equals c.args.rules.now (class_shown c.args.store.now) s (body_view c.deref-in-Equals.result.now) c.deref-in-Equals-2.result k c.args.self.now.todo x h) c.requires.typed)

pub returns-in-Equals-clause-typed : goal.returns-in-Equals-clause-typed
returns-in-Equals-clause-typed c = c.compared-in-Equals.ensures.typed c.args.rules.now (class_shown c.args.store.now) c.requires.over (part_enters c.args.rules.now (class_shown c.args.store.now) c.args.self.now c.args.body.now c.deref-in-Equals.result.now (Right binary.Equals c.deref-in-Equals-2.result) (Equals (body_view c.deref-in-Equals.result.now) (body_view c.deref-in-Equals-2.result.now)) (rw (c.in-Equals.is, ← c.deref-in-Equals.ensures, ← c.deref-in-Equals-2.ensures) refl) (λ s k x h. equals c.args.rules.now (class_shown c.args.store.now) s (body_view c.deref-in-Equals.result.now) c.deref-in-Equals-2.result k c.args.self.now.todo x h) c.requires.typed)

pub operand-requires-in-InstanceOf-clause-typed : goal.operand-requires-in-InstanceOf-clause-typed
operand-requires-in-InstanceOf-clause-typed c = part_enters c.args.rules.now (class_shown c.args.store.now) c.args.self.now c.args.body.now c.deref-in-InstanceOf.result.now (Use (unary.InstanceOf c.in-InstanceOf.class)) (InstanceOf (body_view c.deref-in-InstanceOf.result.now) c.in-InstanceOf.class) (rw (c.in-InstanceOf.is, ← c.deref-in-InstanceOf.ensures) refl) (λ s k x h. tests c.args.rules.now (class_shown c.args.store.now) s (body_view c.deref-in-InstanceOf.result.now) c.in-InstanceOf.class k c.args.self.now.todo x h) c.requires.typed

pub operand-requires-in-CastTo-clause-typed : goal.operand-requires-in-CastTo-clause-typed
operand-requires-in-CastTo-clause-typed c = part_enters c.args.rules.now (class_shown c.args.store.now) c.args.self.now c.args.body.now c.deref-in-CastTo.result.now (Use (unary.CastTo c.in-CastTo.class)) (CastTo c.in-CastTo.class (body_view c.deref-in-CastTo.result.now)) (rw (c.in-CastTo.is, ← c.deref-in-CastTo.ensures) refl) (λ s k x h. casts c.args.rules.now (class_shown c.args.store.now) s (body_view c.deref-in-CastTo.result.now) c.in-CastTo.class k c.args.self.now.todo x h) c.requires.typed

pub operand-requires-in-Child-clause-typed : goal.operand-requires-in-Child-clause-typed
operand-requires-in-Child-clause-typed c = part_enters c.args.rules.now (class_shown c.args.store.now) c.args.self.now c.args.body.now c.deref-in-Child.result.now (Use (unary.Child c.in-Child.part)) (Child (body_view c.deref-in-Child.result.now) c.in-Child.part) (rw (c.in-Child.is, ← c.deref-in-Child.ensures) refl) (λ s k x h. asks_child c.args.rules.now (class_shown c.args.store.now) s (body_view c.deref-in-Child.result.now) c.in-Child.part k c.args.self.now.todo x h) c.requires.typed

pub operands-requires-in-Element-clause-typed : goal.operands-requires-in-Element-clause-typed
operands-requires-in-Element-clause-typed c = (c.args.rules.now, class_shown c.args.store.now, c.requires.over, part_enters c.args.rules.now (class_shown c.args.store.now) c.args.self.now c.args.body.now c.deref-in-Element.result.now (Right (binary.Element c.in-Element.part) c.deref-in-Element-2.result) (Element (body_view c.deref-in-Element.result.now) c.in-Element.part (body_view c.deref-in-Element-2.result.now)) (rw (c.in-Element.is, ← c.deref-in-Element.ensures, ← c.deref-in-Element-2.ensures) refl) (λ s k x h. asks_element c.args.rules.now (class_shown c.args.store.now) s (body_view c.deref-in-Element.result.now) c.in-Element.part c.deref-in-Element-2.result k c.args.self.now.todo x h) c.requires.typed)

pub returns-in-Element-clause-typed : goal.returns-in-Element-clause-typed
returns-in-Element-clause-typed c = c.operands-in-Element.ensures.typed c.args.rules.now (class_shown c.args.store.now) c.requires.over (part_enters c.args.rules.now (class_shown c.args.store.now) c.args.self.now c.args.body.now c.deref-in-Element.result.now (Right (binary.Element c.in-Element.part) c.deref-in-Element-2.result) (Element (body_view c.deref-in-Element.result.now) c.in-Element.part (body_view c.deref-in-Element-2.result.now)) (rw (c.in-Element.is, ← c.deref-in-Element.ensures, ← c.deref-in-Element-2.ensures) refl) (λ s k x h. asks_element c.args.rules.now (class_shown c.args.store.now) s (body_view c.deref-in-Element.result.now) c.in-Element.part c.deref-in-Element-2.result k c.args.self.now.todo x h) c.requires.typed)

pub operand-requires-in-Count-clause-typed : goal.operand-requires-in-Count-clause-typed
operand-requires-in-Count-clause-typed c = part_enters c.args.rules.now (class_shown c.args.store.now) c.args.self.now c.args.body.now c.deref-in-Count.result.now (Use (unary.Count c.in-Count.part)) (Count (body_view c.deref-in-Count.result.now) c.in-Count.part) (rw (c.in-Count.is, ← c.deref-in-Count.ensures) refl) (λ s k x h. asks_count c.args.rules.now (class_shown c.args.store.now) s (body_view c.deref-in-Count.result.now) c.in-Count.part k c.args.self.now.todo x h) c.requires.typed

pub operand-requires-in-Has-clause-typed : goal.operand-requires-in-Has-clause-typed
operand-requires-in-Has-clause-typed c = part_enters c.args.rules.now (class_shown c.args.store.now) c.args.self.now c.args.body.now c.deref-in-Has.result.now (Use (unary.Has c.in-Has.part)) (Has (body_view c.deref-in-Has.result.now) c.in-Has.part) (rw (c.in-Has.is, ← c.deref-in-Has.ensures) refl) (λ s k x h. asks_has c.args.rules.now (class_shown c.args.store.now) s (body_view c.deref-in-Has.result.now) c.in-Has.part k c.args.self.now.todo x h) c.requires.typed

pub operand-requires-in-Passed-clause-typed : goal.operand-requires-in-Passed-clause-typed
operand-requires-in-Passed-clause-typed c = part_enters c.args.rules.now (class_shown c.args.store.now) c.args.self.now c.args.body.now c.deref-in-Passed.result.now (Use unary.Passed) (Passed (body_view c.deref-in-Passed.result.now)) (rw (c.in-Passed.is, ← c.deref-in-Passed.ensures) refl) (λ s k x h. passes c.args.rules.now (class_shown c.args.store.now) s (body_view c.deref-in-Passed.result.now) k c.args.self.now.todo x h) c.requires.typed

pub returns-in-Exists-clause-typed : goal.returns-in-Exists-clause-typed
returns-in-Exists-clause-typed c = put_typed c.args.rules.now (class_shown c.args.store.now) _ c.args.self.now _ c.deref-in-Exists.result (Elements fold.Exists c.in-Exists.part c.deref-in-Exists-2.result) c.over.ensures (part_enters c.args.rules.now (class_shown c.args.store.now) c.args.self.now c.args.body.now c.deref-in-Exists.result.now (Elements fold.Exists c.in-Exists.part c.deref-in-Exists-2.result) (Exists (body_view c.deref-in-Exists.result.now) c.in-Exists.part (body_view c.deref-in-Exists-2.result.now)) (rw (c.in-Exists.is, ← c.deref-in-Exists.ensures, ← c.deref-in-Exists-2.ensures) refl) (λ s k x h. exists c.args.rules.now (class_shown c.args.store.now) s (body_view c.deref-in-Exists.result.now) c.in-Exists.part c.deref-in-Exists-2.result k c.args.self.now.todo x h) c.requires.typed)

pub returns-in-First-clause-typed : goal.returns-in-First-clause-typed
returns-in-First-clause-typed c = put_typed c.args.rules.now (class_shown c.args.store.now) _ c.args.self.now _ c.deref-in-First.result (Elements fold.First c.in-First.part c.deref-in-First-2.result) c.over-in-First.ensures (part_enters c.args.rules.now (class_shown c.args.store.now) c.args.self.now c.args.body.now c.deref-in-First.result.now (Elements fold.First c.in-First.part c.deref-in-First-2.result) (First (body_view c.deref-in-First.result.now) c.in-First.part (body_view c.deref-in-First-2.result.now)) (rw (c.in-First.is, ← c.deref-in-First.ensures, ← c.deref-in-First-2.ensures) refl) (λ s k x h. first c.args.rules.now (class_shown c.args.store.now) s (body_view c.deref-in-First.result.now) c.in-First.part c.deref-in-First-2.result k c.args.self.now.todo x h) c.requires.typed)

pub returns-in-Sum-clause-typed : goal.returns-in-Sum-clause-typed
returns-in-Sum-clause-typed c = put_typed c.args.rules.now (class_shown c.args.store.now) _ c.args.self.now _ c.deref-in-Sum.result (Elements (fold.Sum (pos 0)) c.in-Sum.part c.deref-in-Sum-2.result) c.over-in-Sum.ensures (part_enters c.args.rules.now (class_shown c.args.store.now) c.args.self.now c.args.body.now c.deref-in-Sum.result.now (Elements (fold.Sum (pos 0)) c.in-Sum.part c.deref-in-Sum-2.result) (Sum (body_view c.deref-in-Sum.result.now) c.in-Sum.part (body_view c.deref-in-Sum-2.result.now)) (rw (c.in-Sum.is, ← c.deref-in-Sum.ensures, ← c.deref-in-Sum-2.ensures) refl) (λ s k x h. sums c.args.rules.now (class_shown c.args.store.now) s (body_view c.deref-in-Sum.result.now) c.in-Sum.part c.deref-in-Sum-2.result (pos 0) k c.args.self.now.todo (omega arith) x h) c.requires.typed)

pub returns-in-Int-clause-typed : goal.returns-in-Int-clause-typed
returns-in-Int-clause-typed c = at_hand_takes c.args.rules.now (class_shown c.args.store.now) (contents c.args.store.now) c.requires.over c.args.self.now c.args.body.now _ c.requires.typed (rw (c.in-Int.is, c.int_value.ensures) refl)

pub returns-in-Truth-clause-typed : goal.returns-in-Truth-clause-typed
returns-in-Truth-clause-typed c = at_hand_takes c.args.rules.now (class_shown c.args.store.now) (contents c.args.store.now) c.requires.over c.args.self.now c.args.body.now _ c.requires.typed (rw c.in-Truth.is refl)

pub returns-in-Null-clause-typed : goal.returns-in-Null-clause-typed
returns-in-Null-clause-typed c = at_hand_takes c.args.rules.now (class_shown c.args.store.now) (contents c.args.store.now) c.requires.over c.args.self.now c.args.body.now _ c.requires.typed (rw c.in-Null.is refl)

pub returns-in-This-clause-typed : goal.returns-in-This-clause-typed
returns-in-This-clause-typed c = at_hand_takes c.args.rules.now (class_shown c.args.store.now) (contents c.args.store.now) c.requires.over c.args.self.now c.args.body.now _ c.requires.typed (rw c.in-This.is refl)

pub returns-in_ok-text_value-in-Text-clause-typed : goal.returns-in_ok-text_value-in-Text-clause-typed
returns-in_ok-text_value-in-Text-clause-typed c =
    at_hand_takes c.args.rules.now (class_shown c.args.store.now) (contents c.args.store.now) c.requires.over c.args.self.now c.args.body.now _ c.requires.typed (rw (c.in-Text.is, c.in_ok-text_value-in-Text.ensures) refl)

pub name-requires : goal.name-requires
name-requires c = record { there = name_there c.args.rules.now (class_shown c.args.store.now) c.args.self.now c.args.body.now c.in-Name.position (rw c.in-Name.is refl) c.requires.typed }

pub returns-in-Name-clause-typed : goal.returns-in-Name-clause-typed
returns-in-Name-clause-typed c = entered_same c.args.rules.now (class_shown c.args.store.now) (contents c.args.store.now) c.requires.over c.args.self.now c.args.body.now _ c.requires.typed (rw c.in-Name.is (c.name.ensures.told (contents c.args.store.now)))

pub index-requires-clause-child : goal.index-requires-clause-child
index-requires-clause-child c = index_there c.args.rules.now (class_shown c.args.store.now) c.args.self.now c.args.body.now (rw c.in-IndexName.is refl) c.requires.typed

pub returns-in-IndexName-clause-typed : goal.returns-in-IndexName-clause-typed
returns-in-IndexName-clause-typed c = entered_told c.args.rules.now (class_shown c.args.store.now) (contents c.args.store.now) c.requires.over c.args.self.now _ c.args.body.now _ c.requires.typed (rw c.in-IndexName.is c.index.ensures.told)

pub returns-in-SeekAny-clause-same : goal.returns-in-SeekAny-clause-same
returns-in-SeekAny-clause-same c =
    let is : body_view c.args.body.now ≡ SeekAny (body_view c.deref-in-SeekAny.result.now) c.deref-in-SeekAny-2.result.now.part (key_view c.deref-in-SeekAny-2.result.now.key) (sought_view c.deref-in-SeekAny-2.result.now.sought) (body_view c.deref-in-SeekAny-3.result.now) =
    rw (c.in-SeekAny.is, ← c.deref-in-SeekAny.ensures, ← c.deref-in-SeekAny-2.ensures, ← c.deref-in-SeekAny-3.ensures) refl in
    entered c.args.rules.now.classes _ _ c.args.self.now _ (body_view c.args.body.now) c.deref-in-SeekAny.result (Under search.Any c.deref-in-SeekAny-2.result c.deref-in-SeekAny-3.result) c.under.ensures refl
    (ap (λ e. ev c.args.rules.now.classes e (place_of c.args.self.now)) is ∙ any_shape c.args.rules.now.classes (place_of c.args.self.now) (body_view c.deref-in-SeekAny.result.now) c.deref-in-SeekAny-2.result.now (body_view c.deref-in-SeekAny-3.result.now))

pub returns-in-SeekAny-clause-typed : goal.returns-in-SeekAny-clause-typed
returns-in-SeekAny-clause-typed c =
    let is : body_view c.args.body.now ≡ SeekAny (body_view c.deref-in-SeekAny.result.now) c.deref-in-SeekAny-2.result.now.part (key_view c.deref-in-SeekAny-2.result.now.key) (sought_view c.deref-in-SeekAny-2.result.now.sought) (body_view c.deref-in-SeekAny-3.result.now) =
    rw (c.in-SeekAny.is, ← c.deref-in-SeekAny.ensures, ← c.deref-in-SeekAny-2.ensures, ← c.deref-in-SeekAny-3.ensures) refl in
    put_typed c.args.rules.now (class_shown c.args.store.now) _ c.args.self.now _ c.deref-in-SeekAny.result (Under search.Any c.deref-in-SeekAny-2.result c.deref-in-SeekAny-3.result) c.under.ensures
    (part_enters c.args.rules.now (class_shown c.args.store.now) c.args.self.now c.args.body.now c.deref-in-SeekAny.result.now (Under search.Any c.deref-in-SeekAny-2.result c.deref-in-SeekAny-3.result)
    (SeekAny (body_view c.deref-in-SeekAny.result.now) c.deref-in-SeekAny-2.result.now.part (key_view c.deref-in-SeekAny-2.result.now.key) (sought_view c.deref-in-SeekAny-2.result.now.sought) (body_view c.deref-in-SeekAny-3.result.now)) is
    (λ s k x h. seeks_any c.args.rules.now (class_shown c.args.store.now) s (body_view c.deref-in-SeekAny.result.now) c.deref-in-SeekAny-2.result c.deref-in-SeekAny-3.result k c.args.self.now.todo x h) c.requires.typed)

pub returns-in-SeekFirst-clause-same : goal.returns-in-SeekFirst-clause-same
returns-in-SeekFirst-clause-same c =
    let is : body_view c.args.body.now ≡ SeekFirst (body_view c.deref-in-SeekFirst.result.now) c.deref-in-SeekFirst-2.result.now.part (key_view c.deref-in-SeekFirst-2.result.now.key) (sought_view c.deref-in-SeekFirst-2.result.now.sought) (body_view c.deref-in-SeekFirst-3.result.now) =
    rw (c.in-SeekFirst.is, ← c.deref-in-SeekFirst.ensures, ← c.deref-in-SeekFirst-2.ensures, ← c.deref-in-SeekFirst-3.ensures) refl in
    entered c.args.rules.now.classes _ _ c.args.self.now _ (body_view c.args.body.now) c.deref-in-SeekFirst.result (Under search.First c.deref-in-SeekFirst-2.result c.deref-in-SeekFirst-3.result) c.under-in-SeekFirst.ensures refl
    (ap (λ e. ev c.args.rules.now.classes e (place_of c.args.self.now)) is ∙ first_shape c.args.rules.now.classes (place_of c.args.self.now) (body_view c.deref-in-SeekFirst.result.now) c.deref-in-SeekFirst-2.result.now (body_view c.deref-in-SeekFirst-3.result.now))

pub returns-in-SeekFirst-clause-typed : goal.returns-in-SeekFirst-clause-typed
returns-in-SeekFirst-clause-typed c =
    let is : body_view c.args.body.now ≡ SeekFirst (body_view c.deref-in-SeekFirst.result.now) c.deref-in-SeekFirst-2.result.now.part (key_view c.deref-in-SeekFirst-2.result.now.key) (sought_view c.deref-in-SeekFirst-2.result.now.sought) (body_view c.deref-in-SeekFirst-3.result.now) =
    rw (c.in-SeekFirst.is, ← c.deref-in-SeekFirst.ensures, ← c.deref-in-SeekFirst-2.ensures, ← c.deref-in-SeekFirst-3.ensures) refl in
    put_typed c.args.rules.now (class_shown c.args.store.now) _ c.args.self.now _ c.deref-in-SeekFirst.result (Under search.First c.deref-in-SeekFirst-2.result c.deref-in-SeekFirst-3.result) c.under-in-SeekFirst.ensures
    (part_enters c.args.rules.now (class_shown c.args.store.now) c.args.self.now c.args.body.now c.deref-in-SeekFirst.result.now (Under search.First c.deref-in-SeekFirst-2.result c.deref-in-SeekFirst-3.result)
    (SeekFirst (body_view c.deref-in-SeekFirst.result.now) c.deref-in-SeekFirst-2.result.now.part (key_view c.deref-in-SeekFirst-2.result.now.key) (sought_view c.deref-in-SeekFirst-2.result.now.sought) (body_view c.deref-in-SeekFirst-3.result.now)) is
    (λ s k x h. seeks_first c.args.rules.now (class_shown c.args.store.now) s (body_view c.deref-in-SeekFirst.result.now) c.deref-in-SeekFirst-2.result c.deref-in-SeekFirst-3.result k c.args.self.now.todo x h) c.requires.typed)
