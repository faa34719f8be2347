use Rattle.std.proofs.Common.{◌≡◌, ℕ, None}
use Rattle.at_model.specs.Run.{Instance}
use Rattle.at_model.specs.Rules.{start_of}
use Rattle.at_store.specs.Shown.{contents}
use Rattle.at_body.specs.Rest.{left}
use Rattle.at_body.specs.Typed.{IsTypedStep, class_shown}
use Rattle.at_evaluate.specs.Valued.{AreValued}
use Rattle.at_demand.specs.UnderWay.{HasStepped}
use Rattle.at_demand.specs.Covering.{HasPassedTo}
use Rattle.at_demand.specs.Only.{TakesOnly}
use Rattle.at_demand.proofs.evaluation.Frame.go_on.Given as goal

abbrev pub invariant-loop-step : goal.invariant-loop-step
invariant-loop-step g l = record {
  kept : AreValued (g.K.Keeper.contents l.keeper) l.self.demanded.kept.items;
  stepped : (i : Instance ℕ) → HasStepped l.rules (contents l.store) i l.initial.self.trial l.fn.step → HasStepped l.rules (contents l.store) i l.self.trial l.step;
  passed : (i : Instance ℕ) → HasPassedTo l.rules (contents l.store) l.found.entries i l.initial.self l.fn.step → HasPassedTo l.rules (contents l.store) l.found.entries i l.self l.step;
  only : (i : Instance ℕ) → start_of l.rules i.attribute ≡ None → HasStepped l.rules (contents l.store) i l.initial.self.trial l.fn.step → TakesOnly l.rules (contents l.store) l.found.entries i l.initial.self.demanded → TakesOnly l.rules (contents l.store) l.found.entries i l.self.demanded;
  typed : IsTypedStep l.rules (class_shown l.store) l.step l.self.trial;
}

abbrev pub decreases-loop-step : goal.decreases-loop-step
decreases-loop-step g l = left l.step l.self.trial
