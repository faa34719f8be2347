use Rattle.std.proofs.Common.{◌+◌, ◌∙◌, refl, ap, sym}
use Rattle.at_body.specs.declared.todo.Unary.TheVariants as unary
use Rattle.at_body.specs.declared.todo.Binary.TheVariants as binary
use Rattle.at_body.specs.declared.todo.Todo.TheVariants.{Use, Right, Arguments}
use Rattle.at_body.specs.Rest.{load, ev, place_of}
use Rattle.at_body.specs.Size.{size, sizes}
use Rattle.at_rules.specs.Bodies.{body_view, bodies_view}
use Rattle.at_rules.specs.declared.body.Body.{items_hidden-the_row-Body-0}
use Rattle.at_body.proofs.Entering.{bounded, brought, call_view}
use Rattle.at_model.specs.Bodies.{TokenOf, Arithmetic, Call}
use Rattle.at_rules.specs.Bodies.{operator_view}
use Rattle.at_body.specs.Typed.{class_shown}
use Rattle.at_body.proofs.of_typing.TypedParts.{part_enters, asks_token, computes, calls}
use Rattle.at_body.proofs.trial.Trial.enter.Goals as goal

pub returns-in-TokenOf-clause-same : goal.returns-in-TokenOf-clause-same
returns-in-TokenOf-clause-same c = brought c.args.rules.now.classes _ _ c.args.self.now _ (body_view c.args.body.now) (body_view c.deref.result.now) (Use (unary.Token c.in-TokenOf.part)) c.operand.ensures.same refl (rw (c.in-TokenOf.is, ← c.deref.ensures) refl)

pub returns-in-Arithmetic-clause-same : goal.returns-in-Arithmetic-clause-same
returns-in-Arithmetic-clause-same c = brought c.args.rules.now.classes _ _ c.args.self.now _ (body_view c.args.body.now) (body_view c.deref-in-Arithmetic.result.now) (Right (binary.Arithmetic c.in-Arithmetic.operator) c.deref-in-Arithmetic-2.result) (c.operands.ensures.same c.args.rules.now.classes) refl (rw (c.in-Arithmetic.is, ← c.deref-in-Arithmetic.ensures, ← c.deref-in-Arithmetic-2.ensures) refl)

pub returns-in-TokenOf-clause-less : goal.returns-in-TokenOf-clause-less
returns-in-TokenOf-clause-less c = bounded _ _ (load c.args.self.now.todo) (size (body_view c.deref.result.now) + 2) (size (body_view c.args.body.now)) c.operand.ensures.less (rw (c.in-TokenOf.is, ← c.deref.ensures) refl)

pub returns-in-Arithmetic-clause-less : goal.returns-in-Arithmetic-clause-less
returns-in-Arithmetic-clause-less c = bounded _ _ (load c.args.self.now.todo) (size (body_view c.deref-in-Arithmetic.result.now) + size (body_view c.deref-in-Arithmetic-2.result.now) + 3) (size (body_view c.args.body.now)) c.operands.ensures.less (rw (c.in-Arithmetic.is, ← c.deref-in-Arithmetic.ensures, ← c.deref-in-Arithmetic-2.ensures) refl)

pub operand-requires-clause-typed : goal.operand-requires-clause-typed
operand-requires-clause-typed c = part_enters c.args.rules.now (class_shown c.args.store.now) c.args.self.now c.args.body.now c.deref.result.now (Use (unary.Token c.in-TokenOf.part)) (TokenOf (body_view c.deref.result.now) c.in-TokenOf.part) (rw (c.in-TokenOf.is, ← c.deref.ensures) refl) (λ s k x h. asks_token c.args.rules.now (class_shown c.args.store.now) s (body_view c.deref.result.now) c.in-TokenOf.part k c.args.self.now.todo x h) c.requires.typed

pub operands-requires-clause-typed : goal.operands-requires-clause-typed
operands-requires-clause-typed c = (c.args.rules.now, class_shown c.args.store.now, c.requires.over, part_enters c.args.rules.now (class_shown c.args.store.now) c.args.self.now c.args.body.now c.deref-in-Arithmetic.result.now (Right (binary.Arithmetic c.in-Arithmetic.operator) c.deref-in-Arithmetic-2.result) (Arithmetic (operator_view c.in-Arithmetic.operator) (body_view c.deref-in-Arithmetic.result.now) (body_view c.deref-in-Arithmetic-2.result.now)) (rw (c.in-Arithmetic.is, ← c.deref-in-Arithmetic.ensures, ← c.deref-in-Arithmetic-2.ensures) refl) (λ s k x h. computes c.args.rules.now (class_shown c.args.store.now) s (body_view c.deref-in-Arithmetic.result.now) c.deref-in-Arithmetic-2.result c.in-Arithmetic.operator k c.args.self.now.todo x h) c.requires.typed)

pub returns-in-Arithmetic-clause-typed : goal.returns-in-Arithmetic-clause-typed
returns-in-Arithmetic-clause-typed c = c.operands.ensures.typed c.args.rules.now (class_shown c.args.store.now) c.requires.over (part_enters c.args.rules.now (class_shown c.args.store.now) c.args.self.now c.args.body.now c.deref-in-Arithmetic.result.now (Right (binary.Arithmetic c.in-Arithmetic.operator) c.deref-in-Arithmetic-2.result) (Arithmetic (operator_view c.in-Arithmetic.operator) (body_view c.deref-in-Arithmetic.result.now) (body_view c.deref-in-Arithmetic-2.result.now)) (rw (c.in-Arithmetic.is, ← c.deref-in-Arithmetic.ensures, ← c.deref-in-Arithmetic-2.ensures) refl) (λ s k x h. computes c.args.rules.now (class_shown c.args.store.now) s (body_view c.deref-in-Arithmetic.result.now) c.deref-in-Arithmetic-2.result c.in-Arithmetic.operator k c.args.self.now.todo x h) c.requires.typed)

pub returns-in-Call-clause-same : goal.returns-in-Call-clause-same
returns-in-Call-clause-same c = brought c.args.rules.now.classes _ _ c.args.self.now _ (body_view c.args.body.now) (body_view c.deref-in-Call.result.now) (Arguments c.in-Call.attribute c.deref-in-Call-2.result) (c.call.ensures.same c.args.rules.now.classes) refl
    (ap (λ e. ev c.args.rules.now.classes e (place_of c.args.self.now)) (call_view _ _ _ _ _ _ _ _ c.in-Call.is (items_hidden-the_row-Body-0 c.in-Call.passed ∙ sym c.deref-in-Call-2.ensures.value) c.deref-in-Call.ensures))

pub returns-in-Call-clause-less : goal.returns-in-Call-clause-less
returns-in-Call-clause-less c = bounded _ _ (load c.args.self.now.todo) (size (body_view c.deref-in-Call.result.now) + sizes (bodies_view c.deref-in-Call-2.result.now) + 3) (size (body_view c.args.body.now)) c.call.ensures.less
    (sym (ap size (call_view _ _ _ _ _ _ _ _ c.in-Call.is (items_hidden-the_row-Body-0 c.in-Call.passed ∙ sym c.deref-in-Call-2.ensures.value) c.deref-in-Call.ensures)))

pub returns-in-Call-clause-typed : goal.returns-in-Call-clause-typed
returns-in-Call-clause-typed c = c.call.ensures.typed c.args.rules.now (class_shown c.args.store.now) c.requires.over (part_enters c.args.rules.now (class_shown c.args.store.now) c.args.self.now c.args.body.now c.deref-in-Call.result.now (Arguments c.in-Call.attribute c.deref-in-Call-2.result) (Call (body_view c.deref-in-Call.result.now) c.in-Call.attribute (bodies_view c.deref-in-Call-2.result.now))
    (call_view _ _ _ _ _ _ _ _ c.in-Call.is (items_hidden-the_row-Body-0 c.in-Call.passed ∙ sym c.deref-in-Call-2.ensures.value) c.deref-in-Call.ensures) (λ s k x h. calls c.args.rules.now (class_shown c.args.store.now) s (body_view c.deref-in-Call.result.now) c.in-Call.attribute c.deref-in-Call-2.result k c.args.self.now.todo x h) c.requires.typed)

pub enter_any-requires-clause-other : goal.enter_any-requires-clause-other
enter_any-requires-clause-other c = record { no_token = c.in_default.not-TokenOf; no_arithmetic = c.in_default.not-Arithmetic; no_call = c.in_default.not-Call }
