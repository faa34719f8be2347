use Rattle.at_store.specs.Shown.{contents}
use Rattle.std.proofs.Common.{◌≡◌, nat_eq}
use Rattle.at_model.specs.Run.{tried, reads}
use Rattle.at_model.specs.of_fixpoints.Evaluations.{evaluation}
use Rattle.at_body.specs.Forms.{reached, left}
use Rattle.at_body.specs.Trying.{onward}
use Rattle.at_body.specs.Typed.{class_shown}
use Rattle.at_body.specs.TypedForms.{IsTypedProgress}
use Rattle.at_body.proofs.trying_formula.try_forming.Given as goal

abbrev pub invariant-loop-progress : goal.invariant-loop-progress
invariant-loop-progress g l =
    let look = contents l.store in
    let known = g.K.Known.value_of l.known in
    let formula = (evaluation l.rules nat_eq).formula l.inst in
    record {
      found : (tried look known formula, reads look known formula)
          ≡ onward look known (reached l.rules l.progress l.forming, l.forming.trial.reads);
      typed : IsTypedProgress l.rules (class_shown l.store) look l.progress l.forming;
    }

abbrev pub decreases-loop-progress : goal.decreases-loop-progress
decreases-loop-progress g l = left l.progress l.forming
