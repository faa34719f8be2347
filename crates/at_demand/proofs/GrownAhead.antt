-- What comes to be kept before a turn: what can be kept again, and what an evaluation in one go puts.
use Rattle.std.proofs.Common.{◌≡◌, ◌<◌, ◌^◌, ℕ, [], subst, sym}
use Rattle.at_model.specs.Rules.{Rules}
use Rattle.at_model.specs.Run.{Instance}
use Rattle.at_store.specs.Shown.{IsIdle, Shown, contents}
use Rattle.at_cache.specs.Kept.{Entries}
use Rattle.at_cache.specs.Traced.{Memories}
use Rattle.at_demand.specs.Again.{HasKeptAgain}
use Rattle.at_evaluate.specs.Inner.{Gains}
use Rattle.at_evaluate.specs.InParts.{HasGrown, Held, IsHeld, held}
use Rattle.at_evaluate.specs.Made.{Makes}
use Rattle.at_evaluate.specs.Led.{AreLed}
use Rattle.at_evaluate.specs.Traces.{StayJustified}
use Rattle.at_evaluate.proofs.of_nesting.Grown.{grown_settled, grown_then}
use Rattle.at_evaluate.proofs.of_traces.Settled.{LastKept}

pub grown_again : (rules : Rules) (s : Shown) → IsIdle s → (i : Instance ℕ) (old new : Entries) (m n : Memories) (w x k l : ℕ)
    → IsHeld rules (contents s) (held old m [] w k) → w < 2 ^ 64 → LastKept m old → HasKeptAgain m n old new w x i → l ≡ k
    → HasGrown rules s i (held old m [] w k) (held new n [] x l)
grown_again rules s idle i old new m n w x k l is few last kept same =
    subst (λ j. HasGrown rules s i (held old m [] w k) (held new n [] x j)) (sym same)
    (grown_settled rules s idle i (held old m [] w k) new n kept.count x is few last kept.settled kept.counts kept.stay kept.alike)

-- and then it was evaluated
pub grown_at_once : {rules : Rules} {s : Shown} {i : Instance ℕ} {old mid : Held} (new : Held) → HasGrown rules s i old mid
    → Gains rules s i mid.entries new.entries mid.found new.found mid.work new.work → AreLed rules s i mid.entries new.entries
    → StayJustified rules s i mid.memories new.memories → Makes mid.entries new.entries mid.memories new.memories mid.made new.made
    → HasGrown rules s i old new
grown_at_once {rules} {s} {i} {old} {mid} new a gains led traces makes =
    grown_then {rules = rules} {s = s} {i = i} {old = old} {mid = mid} {new = new} a (record { gains = gains; demanded = led; traces = traces; makes = makes })
