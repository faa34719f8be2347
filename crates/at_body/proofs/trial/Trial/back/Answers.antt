use Rattle.at_store.specs.Shown.{contents}
use Rattle.std.proofs.Common.{ap, map, refl, subst, sym, []}
use Rattle.at_model.specs.Run.{Ref}
use Rattle.at_model.specs.Follow.{follow}
use Rattle.at_body.specs.Values.{value_view}
use Rattle.at_rules.specs.Bodies.{bodies_view}
use Rattle.at_body.proofs.Uses.{followed, one_more, unbound}
use Rattle.at_body.specs.Typed.{class_shown}
use Rattle.at_body.specs.Typed.{Calls, Folds}
use Rattle.at_body.proofs.of_typing.TypedAnswers.{use_operand, operands_fit}
use Rattle.at_body.proofs.of_typing.TypedSteps.{use_told, operates_told}
use Rattle.at_body.proofs.of_typing.TypedUses.{operands_there, and_tests, or_tests, choices, receiver_is, receives, passes}
use Rattle.at_body.specs.Seeking.{fold_of}
use Rattle.at_body.proofs.of_typing.TypedFolds.{holder_is, folds_over, is_told, element_told}
use Rattle.at_body.proofs.of_typing.TypedSeeks.{folds_under}
use Rattle.at_body.proofs.of_typing.TypedSeeks as seeks
use Rattle.at_body.proofs.trial.Trial.back.Goals as goal

pub returns-in-Right-clause-same : goal.returns-in-Right-clause-same
returns-in-Right-clause-same c = rw c.in-Right.is (c.right_operand.ensures.same c.args.rules.now.classes)

pub returns-in-Arguments-clause-same : goal.returns-in-Arguments-clause-same
returns-in-Arguments-clause-same c = let h = rw c.node.ensures at c.first_argument.ensures.same c.args.rules.now.classes in rw c.in-Arguments.is (followed _ (contents c.args.store.now) _ _ _ _ _ refl h c.first_argument.ensures.reads)

pub returns-in-Argument-clause-same : goal.returns-in-Argument-clause-same
returns-in-Argument-clause-same c = rw c.in-Argument.is (followed _ (contents c.args.store.now) _ _ _ _ _ (one_more _ c.args.self.now c.in-Argument.call.value.attribute (Ref c.in-Argument.call.value.node) (value_view c.args.value) (map value_view c.in-Argument.call.value.done.items) (bodies_view c.in-Argument.others.now)) (c.pass.ensures.same c.args.rules.now.classes) c.pass.ensures.reads)

pub returns-in-Elements-clause-same : goal.returns-in-Elements-clause-same
returns-in-Elements-clause-same c = let h = rw c.node-in-Elements.ensures at c.elements.ensures.same c.args.rules.now.classes in rw c.in-Elements.is h

pub returns-in-Element-clause-same : goal.returns-in-Element-clause-same
returns-in-Element-clause-same c = rw c.in-Element.is (unbound _ (contents c.args.store.now) _ c.args.self.now _ c.in-Element.fold c.in-Element.body c.in-Element.node c.in-Element.others (value_view c.args.value) c.pop.new.self c.pop.ensures.left (c.decide.ensures.same c.args.rules.now.classes) c.decide.ensures.reads)

pub returns-in-Apply-clause-same : goal.returns-in-Apply-clause-same
returns-in-Apply-clause-same c = rw c.in-Apply.is (c.binary.ensures.same c.args.rules.now.classes)

pub returns-in-And-clause-same : goal.returns-in-And-clause-same
returns-in-And-clause-same c = rw c.in-And.is (ap (follow (contents c.args.store.now) c.args.self.now.reads) (c.and.ensures.same c.args.rules.now.classes c.args.self.now))

pub returns-in-Or-clause-same : goal.returns-in-Or-clause-same
returns-in-Or-clause-same c = rw c.in-Or.is (ap (follow (contents c.args.store.now) c.args.self.now.reads) (c.or.ensures.same c.args.rules.now.classes c.args.self.now))

pub returns-in-Choose-clause-same : goal.returns-in-Choose-clause-same
returns-in-Choose-clause-same c = rw c.in-Choose.is (ap (follow (contents c.args.store.now) c.args.self.now.reads) (c.choose.ensures.same c.args.rules.now.classes c.args.self.now))

pub returns-in-Right-clause-less : goal.returns-in-Right-clause-less
returns-in-Right-clause-less c = rw c.in-Right.is c.right_operand.ensures.less

pub returns-in-Arguments-clause-less : goal.returns-in-Arguments-clause-less
returns-in-Arguments-clause-less c = rw c.in-Arguments.is c.first_argument.ensures.less

pub returns-in-Argument-clause-less : goal.returns-in-Argument-clause-less
returns-in-Argument-clause-less c = rw c.in-Argument.is c.pass.ensures.less

pub unary-requires-clause-operand : goal.unary-requires-clause-operand
unary-requires-clause-operand c = let h = rw c.in-Use.is at c.requires.typed in use_operand c.args.rules.now (class_shown c.args.store.now) c.args.self.now c.in-Use.unary (value_view c.args.value) h

pub returns-in-Use-clause-typed : goal.returns-in-Use-clause-typed
returns-in-Use-clause-typed c = let h = rw c.in-Use.is at c.requires.typed in use_told c.args.rules.now (class_shown c.args.store.now) (contents c.args.store.now) c.requires.over c.args.self.now _ c.in-Use.unary (value_view c.args.value) _ h c.unary.ensures.told

pub right_operand-requires-clause-typed : goal.right_operand-requires-clause-typed
right_operand-requires-clause-typed c = let h = rw c.in-Right.is at c.requires.typed in (c.args.rules.now, class_shown c.args.store.now, c.requires.over, h)

pub returns-in-Right-clause-typed : goal.returns-in-Right-clause-typed
returns-in-Right-clause-typed c = let h = rw c.in-Right.is at c.requires.typed in c.right_operand.ensures.typed c.args.rules.now (class_shown c.args.store.now) c.requires.over h

pub binary-requires-clause-operands : goal.binary-requires-clause-operands
binary-requires-clause-operands c = let h = rw c.in-Apply.is at c.requires.typed in operands_fit c.args.rules.now (class_shown c.args.store.now) c.args.self.now c.in-Apply.binary (value_view c.in-Apply.left) (value_view c.args.value) (operands_there c.args.rules.now (class_shown c.args.store.now) c.args.self.now c.in-Apply.binary c.in-Apply.left (value_view c.args.value) h)

pub returns-in-Apply-clause-typed : goal.returns-in-Apply-clause-typed
returns-in-Apply-clause-typed c = let h = rw c.in-Apply.is at c.requires.typed in operates_told c.args.rules.now (class_shown c.args.store.now) (contents c.args.store.now) c.requires.over c.args.self.now _ c.in-Apply.binary (value_view c.in-Apply.left) (value_view c.args.value) _ (operands_there c.args.rules.now (class_shown c.args.store.now) c.args.self.now c.in-Apply.binary c.in-Apply.left (value_view c.args.value) h) c.binary.ensures.told

pub and-requires : goal.and-requires
and-requires c = let h = rw c.in-And.is at c.requires.typed in and_tests c.args.rules.now (class_shown c.args.store.now) c.args.self.now c.in-And.right (value_view c.args.value) h

pub returns-in-And-clause-typed : goal.returns-in-And-clause-typed
returns-in-And-clause-typed c = let h = rw c.in-And.is at c.requires.typed in c.and.ensures.typed c.args.rules.now (class_shown c.args.store.now) c.args.self.now h

pub or-requires : goal.or-requires
or-requires c = let h = rw c.in-Or.is at c.requires.typed in or_tests c.args.rules.now (class_shown c.args.store.now) c.args.self.now c.in-Or.right (value_view c.args.value) h

pub returns-in-Or-clause-typed : goal.returns-in-Or-clause-typed
returns-in-Or-clause-typed c = let h = rw c.in-Or.is at c.requires.typed in c.or.ensures.typed c.args.rules.now (class_shown c.args.store.now) c.args.self.now h

pub choose-requires : goal.choose-requires
choose-requires c = let h = rw c.in-Choose.is at c.requires.typed in (choices c.args.rules.now (class_shown c.args.store.now) c.args.self.now c.in-Choose.yes c.in-Choose.no (value_view c.args.value) h).test

pub returns-in-Choose-clause-typed : goal.returns-in-Choose-clause-typed
returns-in-Choose-clause-typed c = let h = rw c.in-Choose.is at c.requires.typed in c.choose.ensures.typed c.args.rules.now (class_shown c.args.store.now) c.args.self.now h

pub node-requires : goal.node-requires
node-requires c = let h = rw c.in-Arguments.is at c.requires.typed in receiver_is c.args.rules.now (class_shown c.args.store.now) c.args.self.now c.in-Arguments.attribute c.in-Arguments.arguments (value_view c.args.value) h

pub returns-in-Arguments-clause-typed : goal.returns-in-Arguments-clause-typed
returns-in-Arguments-clause-typed c = let h = rw c.in-Arguments.is at c.requires.typed in c.first_argument.ensures.typed c.args.rules.now (class_shown c.args.store.now) (subst (λ n. Calls c.args.rules.now (class_shown c.args.store.now) c.args.self.now c.in-Arguments.attribute n [] (bodies_view c.in-Arguments.arguments.now)) (sym c.node.ensures) (receives c.args.rules.now (class_shown c.args.store.now) c.args.self.now c.in-Arguments.attribute c.in-Arguments.arguments (value_view c.args.value) h))

pub returns-in-Argument-clause-typed : goal.returns-in-Argument-clause-typed
returns-in-Argument-clause-typed c = let h = rw c.in-Argument.is at c.requires.typed in c.pass.ensures.typed c.args.rules.now (class_shown c.args.store.now) (passes c.args.rules.now (class_shown c.args.store.now) c.args.self.now c.in-Argument.call c.in-Argument.others (value_view c.args.value) h)

pub node-requires-in-Elements : goal.node-requires-in-Elements
node-requires-in-Elements c = let h = rw c.in-Elements.is at c.requires.typed in holder_is c.args.rules.now (class_shown c.args.store.now) c.args.self.now c.in-Elements.fold c.in-Elements.part c.in-Elements.body (value_view c.args.value) h

pub returns-in-Elements-clause-typed : goal.returns-in-Elements-clause-typed
returns-in-Elements-clause-typed c = let h = rw c.in-Elements.is at c.requires.typed in c.elements.ensures.typed c.args.rules.now (class_shown c.args.store.now) c.requires.over (subst (λ n. Folds c.args.rules.now (class_shown c.args.store.now) c.args.self.now c.in-Elements.fold c.in-Elements.part c.in-Elements.body.now n) (sym c.node-in-Elements.ensures) (folds_over c.args.rules.now (class_shown c.args.store.now) c.args.self.now c.in-Elements.fold c.in-Elements.part c.in-Elements.body (value_view c.args.value) h))

pub decide-requires : goal.decide-requires
decide-requires c = let h = rw c.in-Element.is at c.requires.typed in record { told = is_told c.args.rules.now (class_shown c.args.store.now) _ c.in-Element.fold c.in-Element.body.now c.in-Element.node c.in-Element.others.now (value_view c.args.value) (element_told c.args.rules.now (class_shown c.args.store.now) c.args.self.now c.in-Element.fold c.in-Element.body c.in-Element.node c.in-Element.others (value_view c.args.value) c.pop.new.self c.pop.ensures.left h) }

pub returns-in-Element-clause-typed : goal.returns-in-Element-clause-typed
returns-in-Element-clause-typed c = let h = rw c.in-Element.is at c.requires.typed in c.decide.ensures.typed c.args.rules.now (class_shown c.args.store.now) (element_told c.args.rules.now (class_shown c.args.store.now) c.args.self.now c.in-Element.fold c.in-Element.body c.in-Element.node c.in-Element.others (value_view c.args.value) c.pop.new.self c.pop.ensures.left h)

pub returns-in-Under-clause-same : goal.returns-in-Under-clause-same
returns-in-Under-clause-same c = let h = rw c.node-in-Under.ensures at c.elements_under.ensures.same c.args.rules.now.classes in rw c.in-Under.is h

pub node-requires-in-Under : goal.node-requires-in-Under
node-requires-in-Under c = let h = rw c.in-Under.is at c.requires.typed in seeks.holder_is c.args.rules.now (class_shown c.args.store.now) c.args.self.now c.in-Under.search c.in-Under.lookup c.in-Under.body (value_view c.args.value) h

pub returns-in-Under-clause-typed : goal.returns-in-Under-clause-typed
returns-in-Under-clause-typed c = let h = rw c.in-Under.is at c.requires.typed in c.elements_under.ensures.typed c.args.rules.now (class_shown c.args.store.now) c.requires.over
    (subst (λ n. Folds c.args.rules.now (class_shown c.args.store.now) c.args.self.now (fold_of c.in-Under.search) c.in-Under.lookup.now.part c.in-Under.body.now n) (sym c.node-in-Under.ensures)
    (folds_under c.args.rules.now (class_shown c.args.store.now) c.args.self.now c.in-Under.search c.in-Under.lookup c.in-Under.body (value_view c.args.value) h))

pub behind-requires : goal.behind-requires
behind-requires c = let h = rw c.in-Among.is at c.requires.typed in record { typed = (c.args.rules.now, class_shown c.args.store.now, h) }

pub returns-clause-same : goal.returns-clause-same
returns-clause-same c = rw c.in-Among.is (followed _ (contents c.args.store.now) _ _ _ _ _ refl (c.behind.ensures.same c.args.rules.now.classes) c.behind.ensures.reads)

pub returns-clause-less : goal.returns-clause-less
returns-clause-less c = rw c.in-Among.is c.behind.ensures.less

pub returns-clause-typed : goal.returns-clause-typed
returns-clause-typed c = let h = rw c.in-Among.is at c.requires.typed in c.behind.ensures.typed c.args.rules.now (class_shown c.args.store.now) h
