use Rattle.at_store.specs.Shown.{contents}
use Rattle.std.proofs.Common.{◌≡◌, [], nat_eq, map}
use Rattle.at_model.specs.Rules.{by_inherited, attribute_name}
use Rattle.at_model.specs.Follow.{follow}
use Rattle.std.specs.Prelude.{IsSome}
use Rattle.at_body.specs.Typed.{class_shown}
use Rattle.at_body.specs.Starting.{inherited_form_of}
use Rattle.at_body.specs.TypedStart.{HasEquation}
use Rattle.at_body.specs.Values.{value_view}
use Rattle.at_body.proofs.trial.Trial.climb.Given as goal

abbrev pub invariant-loop-height : goal.invariant-loop-height
invariant-loop-height l = record {
  idle : l.self.todo ≡ [];
  unbound : l.self.bound ≡ [];
  arguments : l.self.arguments ≡ l.initial.self.arguments;
  there : IsSome (class_shown l.store l.self.this);
  above : HasEquation l.rules (class_shown l.store) (contents l.store) (attribute_name l.rules l.attribute) l.height l.self.this;
  formed : follow (contents l.store) l.initial.self.reads (inherited_form_of l.rules l.attribute (map value_view l.initial.self.arguments) l.initial.height l.initial.self.this)
      ≡ follow (contents l.store) l.self.reads (inherited_form_of l.rules l.attribute (map value_view l.self.arguments) l.height l.self.this);
  same : follow (contents l.store) l.initial.self.reads (by_inherited l.rules nat_eq (attribute_name l.rules l.attribute) (map value_view l.initial.self.arguments) l.initial.height l.initial.self.this)
      ≡ follow (contents l.store) l.self.reads (by_inherited l.rules nat_eq (attribute_name l.rules l.attribute) (map value_view l.self.arguments) l.height l.self.this);
}

abbrev pub decreases-loop-height : goal.decreases-loop-height
decreases-loop-height l = l.height
