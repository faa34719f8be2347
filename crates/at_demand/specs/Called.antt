-- What is kept, and the work, by the paths of nodes: as `at_model` speaks of them.
use Rattle.std.specs.Prelude.{◌≡◌, ◌↔◌, ℕ, ◌+◌, ◌-◌, ◌^◌, ◌<◌, min}
use Rattle.at_model.specs.Paths.{Node}
use Rattle.at_model.specs.Run.{Instance}
use Rattle.at_model.specs.Rules.{Rules}
use Rattle.at_model.specs.Alike.{InstanceLike, Names}
use Rattle.at_model.specs.Machine.{State, Verdict}
use Rattle.at_model.specs.Sparing.{KeptAfter, IsWork}
use Rattle.at_store.specs.Shown.{Shown, path}
use Rattle.at_cache.specs.Kept.{Entries}
use Rattle.at_evaluate.specs.Valued.{IsKept}

-- the kept instances, with the path of each node
abbrev pub KeptBy : Shown → Entries → Instance Node → Type 0
KeptBy s entries j = (i : Instance ℕ) × IsKept entries i × InstanceLike (Names (path s)) i j

-- Just what the verdict leaves and adds is kept after it, and the work grows by that of the verdict, up to the greatest number.
pub record Keeps (rules : Rules) (s : State) (v : Verdict) (before after : Instance Node → Type 0) (work later : ℕ) : Type 0 where
  pub kept : (j : Instance Node) → after j ↔ KeptAfter rules s v before j
  pub more : ℕ
  pub is_work : IsWork rules s v before more
  pub grows : work < 2 ^ 64 → later ≡ min (work + more) (2 ^ 64 - 1)
