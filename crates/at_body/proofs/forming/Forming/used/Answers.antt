use Rattle.std.proofs.Common.{◌≡◌, ◌∙◌, [], ap, arith, map, refl, subst, sym}
use Rattle.at_model.specs.Bodies.{truth_of}
use Rattle.at_model.specs.Run.{Ref}
use Rattle.at_rules.specs.Bodies.{body_view, bodies_view}
use Rattle.at_store.specs.Shown.{contents}
use Rattle.at_body.specs.TypedForms.{Calls, Folds, IsTypedDoing}
use Rattle.at_body.specs.Values.{value_view}
use Rattle.at_body.proofs.FormRuns.{goes_on, lighter_by, one_argument}
use Rattle.at_body.proofs.FormKinds.{argument_calls, choice_forms, choice_truth, formula_truth, known_typed, node_folds, node_ref, receiver_calls, receiver_ref}
use Rattle.at_body.proofs.FormSeeks as seeks
use Rattle.at_body.proofs.forming.Forming.used.Goals as goal

pub turned-requires : goal.turned-requires
turned-requires c = let (r, a, o, h) = c.requires.typed in let h' = rw c.in-Formula.is at h in formula_truth r a c.args.self.now c.in-Formula.positive (value_view c.args.value) h'

pub choose-requires : goal.choose-requires
choose-requires c = let (r, a, o, h) = c.requires.typed in let h' = rw c.in-Choose.is at h in choice_truth r a c.args.self.now c.in-Choose.positive c.in-Choose.yes c.in-Choose.no (value_view c.args.value) h'

pub node-requires : goal.node-requires
node-requires c = let (r, a, o, h) = c.requires.typed in let h' = rw c.in-Arguments.is at h in receiver_ref r a c.args.self.now c.in-Arguments.attribute c.in-Arguments.arguments (value_view c.args.value) h'

pub node-requires-in-Elements : goal.node-requires-in-Elements
node-requires-in-Elements c = let (r, a, o, h) = c.requires.typed in let h' = rw c.in-Elements.is at h in node_ref r a c.args.self.now c.in-Elements.positive c.in-Elements.part c.in-Elements.body (value_view c.args.value) h'

pub returns-in-Formula-clause-typed : goal.returns-in-Formula-clause-typed
returns-in-Formula-clause-typed c = λ rules at over h. let h' = rw c.in-Formula.is at h in known_typed rules at (contents c.args.store.now) c.known.result c.args.self.now _ h'.kinds c.turned.result h'.stands c.known.ensures

pub returns-in-Choose-clause-typed : goal.returns-in-Choose-clause-typed
returns-in-Choose-clause-typed c = λ rules at over h. let h' = rw c.in-Choose.is at h in
    rw c.choose.ensures (choice_forms rules at c.args.self.now c.in-Choose.positive (truth_of (value_view c.args.value)) c.in-Choose.yes c.in-Choose.no (value_view c.args.value) h')

pub returns-in-Arguments-clause-same : goal.returns-in-Arguments-clause-same
returns-in-Arguments-clause-same c = λ rules. let h = rw c.node.ensures at c.first_argument.ensures.does in
    rw c.in-Arguments.is (goes_on (contents c.args.store.now) rules c.first_argument.result _ _ _ _
    c.first_argument.new.self refl h)

pub returns-in-Arguments-clause-less : goal.returns-in-Arguments-clause-less
returns-in-Arguments-clause-less c =
    rw c.in-Arguments.is (lighter_by c.first_argument.result _ _ _ _ c.first_argument.new.self (omega arith)
    c.first_argument.ensures.does)

pub returns-in-Arguments-clause-typed : goal.returns-in-Arguments-clause-typed
returns-in-Arguments-clause-typed c = λ rules at over h. let h' = rw c.in-Arguments.is at h in c.first_argument.ensures.typed rules at (contents c.args.store.now) over
    (subst (λ n. Calls rules at c.args.self.now c.in-Arguments.attribute n [] (bodies_view c.in-Arguments.arguments.now)) (sym c.node.ensures) (receiver_calls rules at c.args.self.now c.in-Arguments.attribute c.in-Arguments.arguments (value_view c.args.value) h'))

pub returns-in-Argument-clause-same : goal.returns-in-Argument-clause-same
returns-in-Argument-clause-same c = λ rules. rw c.in-Argument.is (goes_on (contents c.args.store.now) rules
    c.pass.result _ _ _ _ c.pass.new.self
    (one_argument rules c.args.self.now c.in-Argument.call.value.attribute (Ref c.in-Argument.call.value.node)
    (value_view c.args.value) (map value_view c.in-Argument.call.value.done.items)
    (bodies_view c.in-Argument.others.now)) c.pass.ensures.does)

pub returns-in-Argument-clause-less : goal.returns-in-Argument-clause-less
returns-in-Argument-clause-less c = rw c.in-Argument.is (lighter_by c.pass.result _ _ _ _ c.pass.new.self (omega arith)
    c.pass.ensures.does)

pub returns-in-Argument-clause-typed : goal.returns-in-Argument-clause-typed
returns-in-Argument-clause-typed c = λ rules at over h. let h' = rw c.in-Argument.is at h in c.pass.ensures.typed rules at (contents c.args.store.now) over (argument_calls rules at c.args.self.now c.in-Argument.call c.in-Argument.others (value_view c.args.value) h')

pub returns-in-Elements-clause-same : goal.returns-in-Elements-clause-same
returns-in-Elements-clause-same c = λ rules. let h = rw c.node-in-Elements.ensures at c.elements.ensures.same rules in rw c.in-Elements.is h

pub returns-in-Elements-clause-typed : goal.returns-in-Elements-clause-typed
returns-in-Elements-clause-typed c = λ rules at over h. let h' = rw c.in-Elements.is at h in c.elements.ensures.typed rules at over
    (subst (λ n. Folds rules at c.args.self.now c.in-Elements.part c.in-Elements.body.now n) (sym c.node-in-Elements.ensures) (node_folds rules at c.args.self.now c.in-Elements.positive c.in-Elements.part c.in-Elements.body (value_view c.args.value) h'))

pub node-requires-in-Under : goal.node-requires-in-Under
node-requires-in-Under c = let (r, a, o, h) = c.requires.typed in let h' = rw c.in-Under.is at h in seeks.node_ref r a c.args.self.now c.in-Under.positive c.in-Under.lookup c.in-Under.body (value_view c.args.value) h'

pub returns-clause-same : goal.returns-clause-same
returns-clause-same c = λ rules. let h = rw c.node-in-Under.ensures at c.elements_under.ensures.same rules in rw c.in-Under.is h

pub returns-clause-typed : goal.returns-clause-typed
returns-clause-typed c = λ rules at over h. let h' = rw c.in-Under.is at h in c.elements_under.ensures.typed rules at over
    (subst (λ n. Folds rules at c.args.self.now c.in-Under.lookup.now.part c.in-Under.body.now n) (sym c.node-in-Under.ensures) (seeks.node_folds rules at c.args.self.now c.in-Under.positive c.in-Under.lookup c.in-Under.body (value_view c.args.value) h'))
