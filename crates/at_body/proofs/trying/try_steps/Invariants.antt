use Rattle.at_store.specs.Shown.{contents}
use Rattle.std.proofs.Common.{◌≡◌, nat_eq}
use Rattle.at_model.specs.Run.{tried, reads}
use Rattle.at_model.specs.Rules.{evaluation}
use Rattle.at_body.specs.Rest.{reached, left}
use Rattle.at_body.specs.Trying.{onward}
use Rattle.at_body.specs.Typed.{IsTypedStep, class_shown}
use Rattle.at_body.proofs.trying.try_steps.Given as goal

abbrev pub invariant-loop-step : goal.invariant-loop-step
invariant-loop-step g l = record {
  found : (tried (contents l.store) (g.K.Known.value_of l.known) (evaluation l.rules nat_eq l.inst), reads (contents l.store) (g.K.Known.value_of l.known) (evaluation l.rules nat_eq l.inst))
      ≡ onward (contents l.store) (g.K.Known.value_of l.known) (reached l.rules.classes l.step l.trial, l.trial.reads);
  typed : IsTypedStep l.rules (class_shown l.store) l.step l.trial;
}

abbrev pub decreases-loop-step : goal.decreases-loop-step
decreases-loop-step g l = left l.step l.trial
