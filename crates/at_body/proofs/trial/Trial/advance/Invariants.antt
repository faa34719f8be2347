use Rattle.at_store.specs.Shown.{contents}
use Rattle.std.proofs.Common.{◌≡◌, ◌≤◌}
use Rattle.at_model.specs.Follow.{follow}
use Rattle.at_body.specs.Rest.{rest, weight}
use Rattle.at_body.specs.Typed.{IsTypedNow, class_shown}
use Rattle.at_body.proofs.trial.Trial.advance.Given as goal

abbrev pub invariant-loop-now : goal.invariant-loop-now
invariant-loop-now l = record {
  same : follow (contents l.store) l.initial.self.reads (rest l.rules.classes l.initial.now l.initial.self) ≡ follow (contents l.store) l.self.reads (rest l.rules.classes l.now l.self);
  less : weight l.now l.self ≤ weight l.initial.now l.initial.self;
  typed : IsTypedNow l.rules (class_shown l.store) l.now l.self;
}

abbrev pub decreases-loop-now : goal.decreases-loop-now
decreases-loop-now l = weight l.now l.self
