use Rattle.std.proofs.Common.{ℕ}
use Rattle.at_model.specs.Run.{Instance}
use Rattle.at_store.specs.Shown.{contents}
use Rattle.at_body.specs.Forms.{left}
use Rattle.at_body.specs.Typed.{class_shown}
use Rattle.at_body.specs.TypedForms.{IsTypedProgress}
use Rattle.at_demand.specs.Forming.{HasPassedToForm}
use Rattle.at_evaluate.specs.Valued.{AreValued}
use Rattle.at_demand.specs.Only.{TakesOnly}
use Rattle.at_demand.proofs.formation.Formation.go_on.Given as goal

abbrev pub invariant-loop-progress : goal.invariant-loop-progress
invariant-loop-progress g l = record {
  kept : AreValued (g.K.Keeper.contents l.keeper) l.self.demanded.kept.items;
  passed : (i : Instance ℕ) → HasPassedToForm l.rules (contents l.store) l.found.entries i l.initial.self l.fn.progress → HasPassedToForm l.rules (contents l.store) l.found.entries i l.self l.progress;
  only : (i : Instance ℕ) → HasPassedToForm l.rules (contents l.store) l.found.entries i l.initial.self l.fn.progress → TakesOnly l.rules (contents l.store) l.found.entries i l.initial.self.demanded → TakesOnly l.rules (contents l.store) l.found.entries i l.self.demanded;
  typed : IsTypedProgress l.rules (class_shown l.store) (contents l.store) l.progress l.self.forming;
}

abbrev pub decreases-loop-progress : goal.decreases-loop-progress
decreases-loop-progress g l = left l.progress l.self.forming
