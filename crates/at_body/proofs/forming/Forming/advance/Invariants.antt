use Rattle.at_store.specs.Shown.{contents}
use Rattle.std.proofs.Common.{◌≡◌, ◌≤◌}
use Rattle.at_model.specs.Follow.{follow}
use Rattle.at_body.specs.Forms.{rest, weight}
use Rattle.at_body.specs.Typed.{class_shown}
use Rattle.at_body.specs.TypedForms.{IsTypedDoing}
use Rattle.at_body.proofs.forming.Forming.advance.Given as goal

abbrev pub invariant-loop-doing : goal.invariant-loop-doing
invariant-loop-doing l = record {
  same : follow (contents l.store) l.initial.self.trial.reads (rest l.rules l.initial.doing l.initial.self) ≡ follow (contents l.store) l.self.trial.reads (rest l.rules l.doing l.self);
  less : weight l.doing l.self ≤ weight l.initial.doing l.initial.self;
  typed : IsTypedDoing l.rules (class_shown l.store) (contents l.store) l.doing l.self;
}

abbrev pub decreases-loop-doing : goal.decreases-loop-doing
decreases-loop-doing l = weight l.doing l.self
