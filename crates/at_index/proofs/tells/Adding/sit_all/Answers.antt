use Rattle.at_index.proofs.Common.{refl}
use Rattle.at_index.proofs.of_runs.Along.{over_holds}
use Rattle.at_index.proofs.of_runs.Reaching.{holds_all, holds_then}
use Rattle.at_index.proofs.of_runs.Seats.{seated_keeps}
use Rattle.at_index.proofs.tells.Adding.sit_all.Goals as goal

pub loop-location-init : goal.loop-location-init
loop-location-init g c = record { seated = c.requires; holds = λ l. holds_all refl; short = λ h. h }

pub returns-then-not-is_free-clause-seated : goal.returns-then-not-is_free-clause-seated
returns-then-not-is_free-clause-seated g c = seated_keeps c.loop-location.invariant.seated c.is_free.ensures.keeps

pub returns-then-not-is_free-clause-holds : goal.returns-then-not-is_free-clause-holds
returns-then-not-is_free-clause-holds g c k =
    holds_then (c.loop-location.invariant.holds k) (over_holds c.loop-location.seats.items _ _ c.is_free.ensures.keeps.lists k)

pub sit-requires-clause-seated : goal.sit-requires-clause-seated
sit-requires-clause-seated g c = seated_keeps c.loop-location.invariant.seated c.is_free.ensures.keeps

pub returns-in_err-sit-clause-holds : goal.returns-in_err-sit-clause-holds
returns-in_err-sit-clause-holds g c k =
    holds_then (c.loop-location.invariant.holds k)
    (holds_then (over_holds c.loop-location.seats.items _ _ c.is_free.ensures.keeps.lists k) (holds_all (c.sit.ensures.same k)))

pub loop-location-preserved : goal.loop-location-preserved
loop-location-preserved g c =
    let l = c.loop-location in
    record {
      seated = c.sit.ensures.seated;
      holds = λ k. holds_then (l.invariant.holds k)
          (holds_then (over_holds l.seats.items _ _ c.is_free.ensures.keeps.lists k) (holds_all (c.sit.ensures.same k)));
      short = λ h. c.sit.ensures.short (l.invariant.short h);
    }
