-- What an engine does to what is kept, and to the work, by the paths of nodes.
use Rattle.std.specs.Prelude.{◌≡◌, ℕ, Bool, true, false, List, Option, Some, None, Result, Ok, Err}
use Rattle.std.specs.List.{AllByRecursion}
use Rattle.at_model.specs.Paths.{Node}
use Rattle.at_model.specs.Rules.{Rules}
use Rattle.at_model.specs.Run.{Contents, Instance}
use Rattle.at_model.specs.Machine.{Verdict, after}
use Rattle.at_rules.specs.Circular.{HasNoneCircular}
use Rattle.at_store.specs.Shown.{contents}
use Rattle.at_cache.specs.Kept.{Entries}
use Rattle.at_evaluate.specs.Sparing.{AreSpare}
use Rattle.at_demand.specs.Called.{KeptBy, Keeps}
use Rattle.at_demand.specs.Groups.{KeepsGroups}
use Rattle.at_demand.specs.Turns.{IsSparingTurns}
use Rattle.at_demand.specs.declared.question.Question.{Question}
use Rattle.at_engine.specs.Engines.{most_of, rules_of, state_of}
use Rattle.at_engine.specs.Following.{IsAtOnce}
use Rattle.at_engine.specs.KeptOver.{AreWaiting, Grows, HasVerdict, IsWorthFor, IsWorthIn}
use Rattle.at_engine.specs.declared.engine.Engine.{Engine}
use Rattle.at_engine.specs.declared.posts.Posted.{Posted}

-- the kept instances, with the path of each node
abbrev pub kept_of : {K : Type 0} → (entries : K → Entries) → Engine K → Instance Node → Type 0
kept_of entries e = KeptBy e.store (entries e.demand.keeper)

-- how many instances were kept so far, up to the greatest number
abbrev pub work_of : {K : Type 0} → Engine K → ℕ
work_of e = e.demand.work

-- nothing else stands with what was done for the question than what its evaluations come to
abbrev pub IsSparingOn : Rules → Contents ℕ → Entries → Option Question → Type 0
IsSparingOn rules look entries None = Unit {0}
IsSparingOn rules look entries (Some q) = IsSparingTurns rules look entries q

-- what is kept is spare, and so is what was done for open questions
pub record IsSpareWith (rules : Rules) (look : Contents ℕ) (entries : Entries) (posted : List Posted) : Type 0 where
  pub kept : AreSpare rules look entries
  pub posted' : AllByRecursion (λ p. IsSparingOn rules look entries p.question) posted

-- so it is, and nothing is let go of for a bound: there is none
pub record IsSpare {K : Type 0} (entries : K → Entries) (e : Engine K) : Type 0 where
  pub unbounded : most_of e ≡ None
  pub spare : IsSpareWith e.rules (contents e.store) (entries e.demand.keeper) e.posts.items.items

-- memory didn't run out, or no attribute is circular: what belongs together is kept together
abbrev pub KeepsWhole : Rules → (out_of_memory : Bool) → Type 0
KeepsWhole rules false = Unit {0}
KeepsWhole rules true = HasNoneCircular rules

-- nothing goes, and only what is worth keeping for the verdict comes
abbrev pub GrowsOver : {K : Type 0} → (entries : K → Entries) → Verdict → (old new : Engine K) → Type 0
GrowsOver entries v old new = Grows (IsWorthFor (rules_of old) (state_of old) v) (kept_of entries old) (kept_of entries new) (work_of old) (work_of new)

-- just what the verdict leaves and adds is kept, and the work grows by its work
abbrev pub KeepsOver : {K : Type 0} → (entries : K → Entries) → Verdict → (old new : Engine K) → Type 0
KeepsOver entries v old new = Keeps (rules_of old) (state_of old) v (kept_of entries old) (kept_of entries new) (work_of old) (work_of new)

-- What is kept is spare, and it is what the verdict leaves and adds. Where memory ran out it is some of that, and spare where no attribute
-- is circular.
abbrev pub Spares : {K T E : Type 0} → (entries : K → Entries) → Verdict → Result T E → (old new : Engine K) → Type 0
Spares entries v (Ok x) old new = IsSpare entries new × KeepsOver entries v old new
Spares entries v (Err e) old new = (HasNoneCircular (rules_of old) → IsSpare entries new) × GrowsOver entries v old new

-- so it is where the verdict waits for no turns; else what is kept is spare, where groups are kept whole
abbrev pub SparesVerdict : {K T E : Type 0} → (entries : K → Entries) → Verdict → Result T E → (old new : Engine K) → Type 0
SparesVerdict entries v r old new = (KeepsGroups (rules_of old) r → IsSpare entries new) × (IsAtOnce v → Spares entries v r old new)

-- the bytes come to a verdict, and just what that leaves and adds is kept
pub record KeepsLine {K : Type 0} (entries : K → Entries) (bytes : List ℕ) (old new : Engine K) : Type 0 where
  pub becomes : Verdict
  pub is_verdict : HasVerdict (rules_of old) (state_of old) bytes becomes
  pub state : state_of new ≡ after (state_of old) becomes
  pub keeps : KeepsOver entries becomes old new

-- nothing goes, and only what is worth keeping for the bytes comes
abbrev pub GrowsLine : {K : Type 0} → (entries : K → Entries) → List ℕ → (old new : Engine K) → Type 0
GrowsLine entries bytes old new = Grows (IsWorthIn (rules_of old) (state_of old) bytes) (kept_of entries old) (kept_of entries new) (work_of old) (work_of new)

-- the bytes wait for no question that is open
abbrev pub AreAtOnce : {K : Type 0} → Engine K → List ℕ → Type 0
AreAtOnce e bytes = AreWaiting (rules_of e) (state_of e) bytes → ⊥

-- so `SparesVerdict` is of the bytes of a line
abbrev pub SparesLine : {K T E : Type 0} → (entries : K → Entries) → List ℕ → Result T E → (old new : Engine K) → Type 0
SparesLine entries bytes (Ok x) old new = IsSpare entries new × (AreAtOnce old bytes → KeepsLine entries bytes old new)
SparesLine entries bytes (Err e) old new = (HasNoneCircular (rules_of old) → IsSpare entries new) × (AreAtOnce old bytes → GrowsLine entries bytes old new)

-- the same, where the line may be named as one for which memory ran out
abbrev pub KeepsServed : {K : Type 0} → (entries : K → Entries) → (out_of_memory : Bool) → List ℕ → (old new : Engine K) → Type 0
KeepsServed entries false bytes old new = AreAtOnce old bytes → KeepsLine entries bytes old new
KeepsServed entries true bytes old new = AreAtOnce old bytes → GrowsLine entries bytes old new
