-- How far a question has come, level by level of strict demands, and what is true of it between turns.
use Rattle.std.specs.Prelude.{◌≡◌, ◌⊎◌, ℕ, ◌≤◌, List, [], ◌∷◌, ◌++◌, map, reverse, slice_get, Option, Some, None, IsSome}
use Rattle.std.specs.Global.{Box}
use Rattle.std.specs.Map.{keys_of}
use Rattle.at_model.specs.Instances.{AnyText}
use Rattle.at_model.specs.Meaning.{Among, Finds, Outcome, Reaches}
use Rattle.at_model.specs.Rules.{Rules, start_of}
use Rattle.at_model.specs.Run.{Value, Instance, Location, Contents, FaultKind, Known}
use Rattle.at_model.specs.Support.{Sees}
use Rattle.at_model.specs.TypedRuns.{IsWellTyped}
use Rattle.at_model.specs.of_fixpoints.Fixpoints.{End, EndsSo, HasValue, LeadsOver, Made, Spoilt}
use Rattle.at_model.specs.of_fixpoints.Formulas.{Formula, Forms, atoms}
use Rattle.at_model.specs.of_fixpoints.Resting.{Leads}
use Rattle.at_model.specs.of_fixpoints.Searched.{IsClosedIn, IsFresh, IsInOrder, IsMade, IsOn, tried_at}
use Rattle.at_model.specs.of_fixpoints.Searching.{Level, Search, most_turns, under}
use Rattle.at_store.specs.Located.{loc_view}
use Rattle.at_store.specs.Shown.{Shown, contents}
use Rattle.at_body.specs.Typed.{class_shown}
use Rattle.at_cache.specs.Kept.{Entries}
use Rattle.at_search.specs.LedTo.{IsMet}
use Rattle.at_search.specs.Recorded.{AreFacts, AreWhole, IsMarked, IsRecordedForm, MetFrom, Recorded, seen_by, todo_of}
use Rattle.at_search.specs.declared.ended.Ended.{Ended}
use Rattle.at_search.specs.declared.ended.Fault.{Fault}
use Rattle.at_search.specs.declared.ended.Formed.{Formed}
use Rattle.at_search.specs.declared.search.Search.{Search as SearchCode}
use Rattle.at_demand.specs.declared.evaluation.Find.{Find}
use Rattle.at_demand.specs.declared.question.Question.{Question}
use Rattle.at_evaluate.specs.Valued.{IsKept, kept_values, meaning}
use Rattle.at_demand.specs.Known.{known_in}
use Rattle.at_evaluate.specs.Meant.{AreRightValues}

-- a level: no search as yet, or one
abbrev pub LevelCode : Type 0
LevelCode = Option (Box SearchCode)

-- what was strictly demanded: the instance itself, where there is no search
abbrev pub root_in : LevelCode → Instance ℕ → Instance ℕ
root_in None i = i
root_in (Some b) i = b.value.root

-- those that the search has seen, the last one first; those that it has to do, the next one first; the fault that it has met
abbrev pub seen_in : LevelCode → List (Instance ℕ)
seen_in None = []
seen_in (Some b) = seen_by b.value

abbrev pub todo_in : LevelCode → List (Instance ℕ)
todo_in None = []
todo_in (Some b) = todo_of b.value

abbrev pub fault_in : LevelCode → Option Fault
fault_in None = None
fault_in (Some b) = b.value.fault

-- nothing is to do
abbrev pub IsDoneIn : LevelCode → Type 0
IsDoneIn l = todo_in l ≡ []

-- a search has seen its root
abbrev pub IsRooted : LevelCode → Type 0
IsRooted None = Unit {0}
IsRooted (Some b) = Among b.value.root (seen_by b.value)

-- the level at which the equation of i is tried
abbrev pub level_of : Instance ℕ → LevelCode → Level ℕ
level_of i l = record { root = root_in l i; seen = seen_in l; next = i; todo = todo_in l }

-- those below the last one, the nearest first
abbrev pub levels_of : List (Instance ℕ × LevelCode) → List (Level ℕ)
levels_of waiting = map (λ (e : Instance ℕ × LevelCode). level_of e.0 e.1) (reverse waiting)

-- all levels
abbrev pub all_levels : Question → List (Level ℕ)
all_levels q = level_of q.inst q.level ∷ levels_of q.waiting.entries

-- what was asked: the root of the first level
abbrev pub asked_by : Question → Instance ℕ
asked_by q = elim (slice_get q.waiting.entries 0) [ None ↦ root_in q.level q.inst | Some e ↦ root_in e.1 e.0 ]

-- the values that are kept, or that it has found
abbrev pub known_to : Entries → Question → Known ℕ
known_to entries q = known_in entries q.found.entries

-- The search that the question stands for: its levels are those; the equations that have ended there are recorded to have ended, or are
-- those of known instances; and the values that were told there are known, all that are known and aren't kept among them. The equations of these
-- have ended.
pub record IsSearch (entries : Entries) (q : Question) (s : Search ℕ) : Type 0 where
  pub last : s.last ≡ level_of q.inst q.level
  pub below : s.below ≡ levels_of q.waiting.entries
  pub ended : (i : Instance ℕ) → Among i s.ended → Among i (keys_of q.ended.entries) ⊎ IsSome (known_to entries q i)
  pub recorded : (i : Instance ℕ) → Among i (keys_of q.ended.entries) → Among i s.ended
  pub told : (i : Instance ℕ) (v : Value ℕ) → Among (i, Finds v) s.told → known_to entries q i ≡ Some v
  pub known : (i : Instance ℕ) (v : Value ℕ) → known_to entries q i ≡ Some v → (kept_values entries i ≡ Some v) ⊎ Among (i, Finds v) s.told
  pub spent : (i : Instance ℕ) → IsSome (known_to entries q i) → IsKept entries i ⊎ Among i s.ended

-- what the equation of i took: it is one of the kept ones, or was found at one of the positions
abbrev pub IsUsed : List (Instance ℕ × Find) → Formed → Instance ℕ → Type 0
IsUsed found f j = Among j f.kept.items ⊎ ((p : ℕ) × (g : Find) × Among p f.finds.items × (slice_get found p ≡ Some (j, g)))

-- The equation of i looks at just the locations that stand with its formula, and demands no other instances than stand there; to these it leads.
pub record IsFormOf (rules : Rules) (look : Contents ℕ) (entries : Entries) (found : List (Instance ℕ × Find)) (i : Instance ℕ) (f : Formed)
    : Type 0 where
  pub reads : (l : Location ℕ) → Sees look (HasValue look (meaning rules)) ((meaning rules).formula i) l → Among l (map loc_view f.reads.items)
  pub demands : (j : Instance ℕ) → Reaches look (HasValue look (meaning rules)) ((meaning rules).formula i) j → IsUsed found f j
  pub sees : (l : Location ℕ) → Among l (map loc_view f.reads.items) → Sees look (HasValue look (meaning rules)) ((meaning rules).formula i) l
  pub kept : (j : Instance ℕ) → Among j f.kept.items → IsKept entries j × Leads look (meaning rules) i j
  pub finds : (p : ℕ) → Among p f.finds.items → (j : Instance ℕ) × (g : Find) × (slice_get found p ≡ Some (j, g)) × Leads look (meaning rules) i j

-- What is recorded of equations is so on the tree, with what each looked at and took, and just circular instances have formulas there; and what
-- is known holds, and is whole.
pub record AreFactsOf (rules : Rules) (look : Contents ℕ) (entries : Entries) (q : Question) : Type 0 where
  pub ends : AreFacts look (meaning rules) q.ended.entries
  pub forms : (i : Instance ℕ) (f : Formed) → IsRecordedForm q.ended.entries i f → IsFormOf rules look entries q.found.entries i f
  pub circular : (i : Instance ℕ) (f : Formed) → IsRecordedForm q.ended.entries i f → IsSome (start_of rules i.attribute)
  pub values : AreRightValues look (meaning rules) (known_to entries q)
  pub wholes : AreWhole look (meaning rules) (known_to entries q)

-- A search has come so far from its root: that was seen, is known, or is to do; and so is, in its order, each of which the formula of one that was
-- seen asks. The equation of each that was seen is recorded; it has a formula, where no fault was met.
pub record IsCovered (known : Known ℕ) (ended : List (Instance ℕ × Ended)) (root : Instance ℕ) (seen todo : List (Instance ℕ))
    (fault : Option Fault) : Type 0 where
  pub first : IsMet (λ k. IsSome (known k)) seen todo root
  pub ends : (i : Instance ℕ) → Among i seen → (e : End ℕ (Formula ℕ)) × Recorded ended i e × (fault ≡ None → IsMade e)
  pub order : IsInOrder (Recorded ended) (λ k. IsSome (known k)) seen todo

-- The fault of a level is the one that a search from its root meets, or what is met from here is met from the root; all start as the root does.
-- Where it is a search, that has seen its root.
pub record IsLevel (rules : Rules) (look : Contents ℕ) (known : Known ℕ) (ended : List (Instance ℕ × Ended)) (i : Instance ℕ) (l : LevelCode)
    : Type 0 where
  pub covered : IsCovered known ended (root_in l i) (seen_in l) (i ∷ todo_in l) (fault_in l)
  pub met : MetFrom look (meaning rules) (root_in l i) (seen_in l) (i ∷ todo_in l) (fault_in l)
  pub alike : (j : Instance ℕ) → Among j (seen_in l ++ i ∷ todo_in l) → start_of rules j.attribute ≡ start_of rules (root_in l i).attribute
  pub rooted : IsRooted l

-- so it is of the last level, and of those of all that wait
pub record AreLevels (rules : Rules) (look : Contents ℕ) (entries : Entries) (q : Question) : Type 0 where
  pub last : IsLevel rules look (known_to entries q) q.ended.entries q.inst q.level
  pub below : (i : Instance ℕ) (l : LevelCode) → Among (i, l) q.waiting.entries → IsLevel rules look (known_to entries q) q.ended.entries i l

-- from it formulas lead to one whose equation has a fault
abbrev pub LeadsToFault : List (Instance ℕ × Ended) → Instance ℕ → Type 0
LeadsToFault ended i = (j at : Instance ℕ) × (k : FaultKind) × LeadsOver (Recorded ended) i j × Recorded ended j (Spoilt k at)

-- formulas lead from it to finitely many, and the equation of each of them ends
abbrev pub HasAllEnded : Contents ℕ → Forms ℕ → Instance ℕ → Type 0
HasAllEnded look forms i = IsClosedIn (EndsSo look forms) (λ e. Unit {0}) i

-- what the formula of a marked one asks for is known, or its equation has ended, too
abbrev pub HaveAsked : Known ℕ → List (Instance ℕ × Ended) → Type 0
HaveAsked known ended = (i j : Instance ℕ) (f : Formula ℕ) → IsMarked ended i → Recorded ended i (Made f) → Among j (atoms f)
    → IsSome (known j) ⊎ Among j (keys_of ended)

-- Each equation that has ended is that of an instance that is known, or marked whole, or seen at a level under way. The equations of all to
-- which formulas lead from one that is marked end, and where that isn't known they lead to a fault.
pub record AreWholeOrSeen (rules : Rules) (look : Contents ℕ) (entries : Entries) (q : Question) : Type 0 where
  pub placed : (i : Instance ℕ) → Among i (keys_of q.ended.entries)
      → IsSome (known_to entries q i) ⊎ (IsMarked q.ended.entries i ⊎ Among i (under (all_levels q)))
  pub marked : (i : Instance ℕ) → IsMarked q.ended.entries i → HasAllEnded look (meaning rules) i
  pub spoilt : (i : Instance ℕ) → IsMarked q.ended.entries i → known_to entries q i ≡ None → LeadsToFault q.ended.entries i
  pub asked : HaveAsked (known_to entries q) q.ended.entries

-- all that it tries, has seen, or is to look at
abbrev pub IsAbout : Question → Instance ℕ → Type 0
IsAbout q i = Among i (under (all_levels q)) ⊎ ((j : Instance ℕ) × (l : LevelCode) × Among (j, l) ((q.inst, q.level) ∷ q.waiting.entries)
    × (Among i (todo_in l) ⊎ (i ≡ root_in l j)))

-- The question stands for a search on the tree: its levels have come so far, what is recorded is so, no equation is tried twice to its end,
-- what was asked leads to all that was told, and at most so many turns were given.
pub record StandsFor (rules : Rules) (s : Shown) (entries : Entries) (q : Question) (u : Search ℕ) : Type 0 where
  pub is : IsSearch entries q u
  pub on : IsOn (contents s) (meaning rules) (asked_by q) u
  pub fresh : IsFresh (contents s) (meaning rules) (asked_by q) (tried_at (u.last ∷ u.below)) u.ended
  pub facts : AreFactsOf rules (contents s) entries q
  pub levels : AreLevels rules (contents s) entries q
  pub whole : AreWholeOrSeen rules (contents s) entries q
  pub typed : (i : Instance ℕ) → IsAbout q i → IsWellTyped rules (class_shown s) AnyText i
  pub reached : (i : Instance ℕ) (o : Outcome ℕ) → Among (i, o) u.told → Leads (contents s) (meaning rules) (asked_by q) i
  pub few : q.turns ≤ most_turns u

-- it stands for some search
abbrev pub StandsByLevels : Rules → Shown → Entries → Question → Type 0
StandsByLevels rules s entries q = (u : Search ℕ) × StandsFor rules s entries q u
