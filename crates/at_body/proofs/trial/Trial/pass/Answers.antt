use Rattle.at_model.specs.Run.{Ref}
use Rattle.at_rules.specs.Bodies.{bodies_view}
use Rattle.at_body.proofs.Entering.{passed_on}
use Rattle.std.proofs.Common.{map, subst, sym, ap, ◌∙◌, [], ◌∷◌}
use Rattle.std.proofs.lemmas.List.{map-append}
use Rattle.at_body.specs.Values.{value_view}
use Rattle.at_body.specs.Typed.{Calls}
use Rattle.at_body.proofs.trial.Trial.pass.Goals as goal

pub returns-clause-same : goal.returns-clause-same
returns-clause-same c = λ classes. rw (← c.deref_mut.ensures.value) (passed_on classes _ c.args.self.now _ c.deref_mut.result.now.attribute (Ref c.deref_mut.result.now.node) c.args.value c.deref_mut.result.now.done.items c.push.new.self.items (bodies_view c.args.others.now) c.in_ok-push.ensures.items (c.next_argument.ensures.same classes))

pub returns-clause-typed : goal.returns-clause-typed
returns-clause-typed c = rw (← c.deref_mut.ensures.value) (λ r a h. c.next_argument.ensures.typed r a (subst (λ vs. Calls r a c.args.self.now c.deref_mut.result.now.attribute c.deref_mut.result.now.node vs (bodies_view c.args.others.now)) (sym (ap (map value_view) c.in_ok-push.ensures.items ∙ map-append value_view c.deref_mut.result.now.done.items (c.args.value ∷ []))) h))
