-- How a question's search goes on between two tries: what is known of an instance that is looked at or demanded, and where the search comes to.
use Rattle.std.specs.Prelude.{◌≡◌, ◌⊎◌, ℕ, ◌+◌, ◌*◌, ◌<◌, ◌≤◌, cond, length, true, List, [], ◌∷◌, ◌++◌, Option, Some, None, IsSome, IfOk, IfSome, OnOk, Result, Ok}
use Rattle.std.specs.Map.{keys_of, lookup}
use Rattle.std.specs.Option.{option_map}
use Rattle.at_model.specs.Instances.{AnyText}
use Rattle.at_model.specs.Meaning.{Among, Answer as ModelAnswer, Circle, Faults, Finds, Outcome, Outcomes}
use Rattle.at_model.specs.Rules.{Rules, is_lazy, start_of}
use Rattle.at_model.specs.Run.{Instance, Contents, Known, Value}
use Rattle.at_model.specs.TypedRuns.{IsWellTyped}
use Rattle.at_model.specs.of_fixpoints.Circles.{HasNone, IsOpen}
use Rattle.at_model.specs.of_fixpoints.Fixpoints.{EndsSo, HasValue, Holds, Meets, Spoilt}
use Rattle.at_model.specs.of_fixpoints.Formulas.{Forms}
use Rattle.at_model.specs.of_fixpoints.Resting.{Comes, Leads}
use Rattle.at_model.specs.of_fixpoints.Searched.{AreStacked, HasCome, IsFresh, tried_at}
use Rattle.at_model.specs.Turning.{Turned as ChainTurned}
use Rattle.at_model.specs.of_fixpoints.Searching.{Follows, IsStuck, Looked, Search, Turned, under}
use Rattle.at_rules.specs.Circular.{HasNoneCircular}
use Rattle.at_store.specs.Shown.{Shown, contents}
use Rattle.at_body.specs.Same.{same_instance}
use Rattle.at_body.specs.Typed.{class_shown}
use Rattle.at_body.specs.Values.{fault_view}
use Rattle.at_cache.specs.Kept.{Entries}
use Rattle.at_cache.specs.Traced.{Memories}
use Rattle.at_search.specs.LedTo.{LeadsOut}
use Rattle.at_search.specs.Recorded.{IsMarked, IsSettled, MetFrom, cost_of, is_in}
use Rattle.at_search.specs.declared.ended.Ended.{Ended}
use Rattle.at_search.specs.declared.ended.Ending.TheVariants as ending
use Rattle.at_search.specs.declared.ended.Fault.{Fault}
use Rattle.at_demand.specs.declared.answer.Answer.{Answer}
use Rattle.at_demand.specs.declared.answer.Answer.TheVariants as answer
use Rattle.at_demand.specs.declared.demand.searching.Left.{Left}
use Rattle.at_demand.specs.declared.demand.searching.Left.TheVariants as left
use Rattle.at_demand.specs.declared.demand.searching.Look.{Look}
use Rattle.at_demand.specs.declared.demand.searching.Look.TheVariants as look_is
use Rattle.at_demand.specs.declared.demand.searching.Resolved.{Resolved}
use Rattle.at_demand.specs.declared.demand.searching.Resolved.TheVariants as resolved
use Rattle.at_demand.specs.declared.demand.searching.Searched.{Searched}
use Rattle.at_demand.specs.declared.demand.searching.Searched.TheVariants as searched
use Rattle.at_demand.specs.declared.evaluation.Find.{Find}
use Rattle.at_demand.specs.declared.question.Question.{Question}
use Rattle.at_demand.specs.declared.trials.Trials.{Trials}
use Rattle.at_demand.specs.InTurns.{PutsInTurns}
use Rattle.at_demand.specs.Answerable.{CanTurnWith, IsAnswerable}
use Rattle.at_demand.specs.Answered.{HasWorthyFor, IsOfUse}
use Rattle.at_demand.specs.ChainSteps.{HasEnded, HasLostSeen, HasRisen, IsRisen, IsUnchanged, KeepsChain}
use Rattle.at_demand.specs.Covering.{AreWhole}
use Rattle.at_demand.specs.Groups.{KeepsGroups, Tells}
use Rattle.at_demand.specs.KeptTrials.{Fit, FitAfter, HasDropped, HasNoted, IsNotedAs}
use Rattle.at_evaluate.specs.Valued.{ArePlain, IsKept, KeepsEntries, equations, kept_values, meaning}
use Rattle.at_demand.specs.Known.{FoundKept, IsFound, answer_view}
use Rattle.at_demand.specs.Levels.{AreFactsOf, AreWholeOrSeen, IsAbout, IsCovered, IsDoneIn, IsLevel, LevelCode, StandsFor, all_levels, asked_by, fault_in, known_to, levels_of, root_in, seen_in, todo_in}
use Rattle.at_evaluate.specs.Meant.{AreRightValues}
use Rattle.at_demand.specs.Only.{AreLean}
use Rattle.at_evaluate.specs.Right.{AreRight, IsThere}
use Rattle.at_evaluate.specs.Sparing.{AddsWorthy, AreSpare, Counts}
use Rattle.at_demand.specs.Worth.{AreSettled}
use Rattle.at_demand.specs.Turns.{HasComeAbout, HaveMet, IsFollowed, IsMet, IsSparingTurns, under_way}

-- what was said of finds stands
pub record AreSoundFinds (rules : Rules) (s : Shown) (entries : Entries) (q : Question) : Type 0 where
  pub whole : AreWhole rules (contents s) q.found.entries
  pub took : FoundKept entries q.found.entries

-- what is known of an instance can be told: what is recorded and known holds, and each equation that has ended is placed
pub record CanResolve (rules : Rules) (s : Shown) (entries : Entries) (q : Question) : Type 0 where
  pub answerable : IsAnswerable rules s entries
  pub facts : AreFactsOf rules (contents s) entries q
  pub finds : AreSoundFinds rules s entries q
  pub whole : AreWholeOrSeen rules (contents s) entries q

-- its equation is tried
abbrev pub IsTried : Question → Instance ℕ → Type 0
IsTried q i = Among i (keys_of q.waiting.entries ++ q.inst ∷ [])

-- its equation has ended, but it isn't settled, and formulas lead from it to one whose equation hasn't ended
abbrev pub IsUnderWay : Entries → Question → Instance ℕ → Type 0
IsUnderWay entries q i = Among i (keys_of q.ended.entries) × (¬ (IsMarked q.ended.entries i))
    × LeadsOut (IsSettled (known_to entries q) q.ended.entries) q.ended.entries i

-- What is known of it: a value; a fault, which is its outcome; it is tried, or formulas lead from it to one whose equation hasn't ended; or
-- nothing, and its equation wasn't tried yet.
abbrev pub IsResolved : Rules → Contents ℕ → (before after : Entries) → (old new : Question) → Instance ℕ → Resolved → Type 0
IsResolved rules look before after old new i resolved.Known = IsSome (known_to after new i)
IsResolved rules look before after old new i (resolved.Spoilt f) = Holds look (meaning rules) i (Faults (fault_view f.kind) f.at)
    × Among i (keys_of new.ended.entries)
IsResolved rules look before after old new i resolved.Back = (IsTried old i ⊎ IsUnderWay before old i)
    × (known_to after new i ≡ known_to before old i)
IsResolved rules look before after old new i resolved.Open = (IsTried old i → ⊥) × (lookup (same_instance i) old.ended.entries ≡ None)
    × (known_to after new i ≡ known_to before old i)

-- a search, depth first, from the instance meets that fault
abbrev pub IsMetFault : Contents ℕ → Forms ℕ → Instance ℕ → Resolved → Type 0
IsMetFault look forms i resolved.Known = ⊥
IsMetFault look forms i (resolved.Spoilt f) = Meets (EndsSo look forms) [] (i ∷ []) (fault_view f.kind) f.at
IsMetFault look forms i resolved.Back = ⊥
IsMetFault look forms i resolved.Open = ⊥

-- a value or a fault is told where an equation has ended
abbrev pub TellsOfEnded : Question → Resolved → Type 0
TellsOfEnded old resolved.Known = ¬ (old.ended.entries ≡ [])
TellsOfEnded old (resolved.Spoilt f) = ¬ (old.ended.entries ≡ [])
TellsOfEnded old resolved.Back = Unit {0}
TellsOfEnded old resolved.Open = Unit {0}

-- It is told so; meanwhile what was seen, has ended and has a value may be known from now on, and no more than that. Nothing changes where no
-- equation has ended.
pub record HasResolved {E : Type 0} (rules : Rules) (s : Shown) (before after : Entries) (former latter : Memories) (earlier later : ℕ)
    (old new : Question) (i : Instance ℕ) (r : Result Resolved E) : Type 0 where
  pub tells : Tells rules s before after former latter earlier later old new (under (all_levels old)) (KeepsGroups rules r)
  pub can : OnOk r (CanResolve rules s after new)
  pub is : IfOk r (IsResolved rules (contents s) before after old new i)
  pub ended : IfOk r (TellsOfEnded old)
  pub since : (j : Instance ℕ) → IsSome (known_to after new j) → IsSome (known_to before old j) ⊎ Among j (keys_of old.ended.entries)
  pub idle : old.ended.entries ≡ [] → (after ≡ before) × (latter ≡ former) × (later ≡ earlier) × (new ≡ old)

-- the fault was told of the instance, whose equation has ended
abbrev pub WasTold : Question → Trials → Instance ℕ → Fault → Type 0
WasTold q t i f = IsNotedAs t.noted.entries i f × Among i (keys_of q.ended.entries)

-- the trials stay, and perhaps a fault for which this holds is noted of the instance
pub record NotesWhere (Is : Fault → Type 0) (i : Instance ℕ) (t u : Trials) : Type 0 where
  pub frames : u.frames.items ≡ t.frames.items
  pub awaited : u.awaited ≡ t.awaited
  pub noted : (u.noted.entries ≡ t.noted.entries) ⊎ ((f : Fault) × Is f × HasNoted t.noted.entries u.noted.entries i f)

-- one that is known of it, or told
abbrev pub NotesOf : Resolved → Instance ℕ → (t u : Trials) → Type 0
NotesOf a i t u = NotesWhere (λ f. a ≡ resolved.Spoilt f) i t u

abbrev pub NotesTold : {E : Type 0} → Result Resolved E → Instance ℕ → (t u : Trials) → Type 0
NotesTold told i t u = NotesWhere (λ f. told ≡ Ok (resolved.Spoilt f)) i t u

-- what is to be done with one that a search looks at
abbrev pub IsLookedAt : Rules → Contents ℕ → (before after : Entries) → (old new : Question) → Instance ℕ → Look → Type 0
IsLookedAt rules look before after old new i look_is.Passed = Among i (seen_in old.level) ⊎ IsSome (known_to after new i)
IsLookedAt rules look before after old new i look_is.Ended = (Among i (seen_in old.level) → ⊥) × Among i (keys_of new.ended.entries)
    × (known_to after new i ≡ None) × ((f : Fault) × Holds look (meaning rules) i (Faults (fault_view f.kind) f.at))
IsLookedAt rules look before after old new i look_is.Untried = (Among i (seen_in old.level) → ⊥) × (IsTried old i → ⊥)
    × (lookup (same_instance i) old.ended.entries ≡ None) × (known_to after new i ≡ None)
IsLookedAt rules look before after old new i look_is.Back = (Among i (seen_in old.level) → ⊥) × (known_to after new i ≡ None)
    × (IsTried old i ⊎ IsUnderWay before old i)

-- by what is known of it
abbrev pub look_of : Resolved → Look
look_of resolved.Known = look_is.Passed
look_of (resolved.Spoilt f) = look_is.Ended
look_of resolved.Back = look_is.Back
look_of resolved.Open = look_is.Untried

pub record HasLookedAt {E : Type 0} (rules : Rules) (s : Shown) (before after : Entries) (former latter : Memories) (earlier later : ℕ)
    (old new : Question) (i : Instance ℕ) (r : Result Look E) : Type 0 where
  pub tells : Tells rules s before after former latter earlier later old new (under (all_levels old)) (KeepsGroups rules r)
  pub can : OnOk r (CanResolve rules s after new)
  pub is : IfOk r (IsLookedAt rules (contents s) before after old new i)
  pub since : (j : Instance ℕ) → IsSome (known_to after new j) → IsSome (known_to before old j) ⊎ Among j (keys_of old.ended.entries)

-- The question, between two tries, stands for this one of the model: its last level has no instance whose equation is tried.
pub record IsLooked (entries : Entries) (q : Question) (l : Looked ℕ) : Type 0 where
  pub root : l.root ≡ root_in q.level q.inst
  pub seen : l.seen ≡ seen_in q.level
  pub todo : l.todo ≡ todo_in q.level
  pub below : l.below ≡ levels_of q.waiting.entries
  pub ended : (i : Instance ℕ) → Among i l.ended → Among i (keys_of q.ended.entries) ⊎ IsSome (known_to entries q i)
  pub recorded : (i : Instance ℕ) → Among i (keys_of q.ended.entries) → Among i l.ended
  pub told : (i : Instance ℕ) (v : Value ℕ) → Among (i, Finds v) l.told → known_to entries q i ≡ Some v
  pub known : (i : Instance ℕ) (v : Value ℕ) → known_to entries q i ≡ Some v → (kept_values entries i ≡ Some v) ⊎ Among (i, Finds v) l.told
  pub spent : (i : Instance ℕ) → IsSome (known_to entries q i) → IsKept entries i ⊎ Among i l.ended

-- What is true between two tries: the last level's search has come so far from its root, and the levels below stand as they stood. It is `StandsFor` without
-- the instance whose equation is tried: the one that was tried has ended, and was seen, or is known. This turn isn't counted yet.
pub record StandsBetween (rules : Rules) (s : Shown) (entries : Entries) (q : Question) (l : Looked ℕ) : Type 0 where
  pub is : IsLooked entries q l
  pub come : HasCome (contents s) (meaning rules) (under l.below) l.root l.seen l.todo
  pub stacked : AreStacked (contents s) (meaning rules) l.root l.below
  pub rooted : Among l.root l.seen
  pub tried : Among q.inst l.seen ⊎ IsSome (known_to entries q q.inst)
  pub last : Among q.inst l.ended
  pub told : (i : Instance ℕ) (o : Outcome ℕ) → Among (i, o) l.told → Holds (contents s) (meaning rules) i o
  pub reached : (i : Instance ℕ) (o : Outcome ℕ) → Among (i, o) l.told → Leads (contents s) (meaning rules) (asked_by q) i
  pub few : q.turns + 2 ≤ 2 * length l.ended + length l.below
  pub fresh : IsFresh (contents s) (meaning rules) (asked_by q) (tried_at l.below) l.ended
  pub covered : IsCovered (known_to entries q) q.ended.entries l.root l.seen l.todo (fault_in q.level)
  pub met : MetFrom (contents s) (meaning rules) l.root l.seen l.todo (fault_in q.level)
  pub below : (i : Instance ℕ) (d : LevelCode) → Among (i, d) q.waiting.entries
      → IsLevel rules (contents s) (known_to entries q) q.ended.entries i d
  pub can : CanResolve rules s entries q
  pub typed : (i : Instance ℕ) → IsAbout q i → IsWellTyped rules (class_shown s) AnyText i

-- the search of the last level can go on
pub record CanSearch (rules : Rules) (s : Shown) (entries : Entries) (q : Question) : Type 0 where
  pub looked : Looked ℕ
  pub stands : StandsBetween rules s entries q looked

-- and the trials are those of the ones that wait; only where attributes are circular does a search go along
pub record CanGoAlong (rules : Rules) (s : Shown) (entries : Entries) (q : Question) (t : Trials) : Type 0 where
  pub off : HasNoneCircular rules → ⊥
  pub search : CanSearch rules s entries q
  pub none : t.awaited ≡ None
  pub fit : Fit rules s entries q t

-- what a level has seen can be solved: all start as the first one, and their equations have ended
pub record IsSolvable (rules : Rules) (ended : List (Instance ℕ × Ended)) (l : LevelCode) : Type 0 where
  pub alike : (i j : Instance ℕ) → Among i (seen_in l) → Among j (seen_in l) → start_of rules i.attribute ≡ start_of rules j.attribute
  pub recorded : (i : Instance ℕ) → Among i (seen_in l) → Among i (keys_of ended)

-- The search of a level stands before that one, which wants what has no outcome; so its root has none.
pub record IsStuckAt (look : Contents ℕ) (forms : Forms ℕ) (known : Known ℕ) (ended : List (Instance ℕ × Ended)) (root : Instance ℕ)
    (l : LevelCode) (n : Instance ℕ) : Type 0 where
  pub stuck : IsStuck look forms n
  pub none : HasNone look forms root
  pub covered : IsCovered known ended root (seen_in l) (n ∷ todo_in l) (fault_in l)

-- each of these that has a value is known
abbrev pub KnowsValued : Rules → Contents ℕ → Entries → Question → (Instance ℕ → Type 0) → Type 0
KnowsValued rules look entries q These = (i : Instance ℕ) (v : Value ℕ) → These i → HasValue look (meaning rules) i v
    → IsSome (known_to entries q i)

-- a level under way has seen it
abbrev pub IsSeenBy : Question → Instance ℕ → Type 0
IsSeenBy q i = (j : Instance ℕ) × (l : LevelCode) × Among (j, l) ((q.inst, q.level) ∷ q.waiting.entries) × Among i (seen_in l)

-- The question can be answered by a circle: what its levels have seen can be solved, and what was asked leads to that, and to what was found. Each
-- level stands before one that wants what has no outcome.
pub record CanClose (rules : Rules) (s : Shown) (entries : Entries) (q : Question) : Type 0 where
  pub answerable : IsAnswerable rules s entries
  pub facts : AreFactsOf rules (contents s) entries q
  pub finds : AreSoundFinds rules s entries q
  pub levels : (i : Instance ℕ) (l : LevelCode) → Among (i, l) ((q.inst, q.level) ∷ q.waiting.entries) → IsSolvable rules q.ended.entries l
  pub led : (i : Instance ℕ) → Among i (under (all_levels q)) → Leads (contents s) (meaning rules) (asked_by q) i
  pub held : (i : Instance ℕ) → IsSome (known_to entries q i) → IsKept entries i ⊎ Leads (contents s) (meaning rules) (asked_by q) i
  pub last : (n : Instance ℕ)
      × IsStuckAt (contents s) (meaning rules) (known_to entries q) q.ended.entries (root_in q.level q.inst) q.level n
  pub below : (i : Instance ℕ) (l : LevelCode) → Among (i, l) q.waiting.entries
      → IsStuckAt (contents s) (meaning rules) (known_to entries q) q.ended.entries (root_in l i) l i

-- Where the search has come to: an equation to be tried; one that is under way at a lower level, and has no outcome; or its end, where all is
-- passed. For the model this is how far `Follows` comes within the level.
abbrev pub HasSearchedTo : Rules → Shown → Entries → (old new : Question) → Searched → Type 0
HasSearchedTo rules s after old new searched.Next = (u : Search ℕ) × StandsFor rules s after new u
HasSearchedTo rules s after old new (searched.Back i) = IsOpen (contents s) (meaning rules) (under (levels_of old.waiting.entries)) i
    × CanClose rules s after new × KeepsChain old new × (keys_of new.ended.entries ≡ keys_of old.ended.entries)
HasSearchedTo rules s after old new searched.Over = IsDoneIn new.level × CanSearch rules s after new × KeepsChain old new
    × (keys_of new.ended.entries ≡ keys_of old.ended.entries)

-- levels under way had seen it, or its equation had ended
abbrev pub WasSeenBy : Question → Instance ℕ → Type 0
WasSeenBy old i = Among i (under (all_levels old)) ⊎ Among i (keys_of old.ended.entries)

-- What became of what is known since: what came are values of instances that levels under way had seen, or whose equations had ended. That stays
-- right and sound, and spare where groups are kept whole; the work counts it, and nothing is traced.
pub record GainsBetween (rules : Rules) (s : Shown) (before after : Entries) (former latter : Memories) (earlier later : ℕ)
    (old new : Question) (Whole : Type 0) : Type 0 where
  pub stays : KeepsEntries before after
  pub finds : (more : List (Instance ℕ × Find)) × (new.found.entries ≡ old.found.entries ++ more)
  pub right : AreRightValues (contents s) (meaning rules) (kept_values after)
  pub there : IsThere s (asked_by old) → AreRight rules s before → AreRight rules s after
  pub plain : ArePlain rules after
  pub sound : AreSoundFinds rules s before old → AreSoundFinds rules s after new
  pub came : (i : Instance ℕ) → IsSome (known_to after new i) → IsSome (known_to before old i) ⊎ WasSeenBy old i
  pub last : (i : Instance ℕ) → (kept_values after i ≡ kept_values before i) ⊎ (WasSeenBy old i × IsKept after i
      × (is_lazy rules i.attribute ≡ true))
  pub others : (i : Instance ℕ) → IsSome (after i) → IsSome (before i) ⊎ (IsKept after i ⊎ IsFound new.found.entries i)
  pub worthy : AddsWorthy rules (contents s) (asked_by old) before after
  pub spare : Whole → AreSpare rules (contents s) before → AreLean rules (contents s) old.found.entries
      → AreSettled rules before old.found.entries → AreSpare rules (contents s) after
  pub lean : AreLean rules (contents s) old.found.entries → AreLean rules (contents s) new.found.entries
  pub settled : AreSettled rules before old.found.entries → AreSettled rules after new.found.entries
  pub counts : Counts before after earlier later
  pub traces : PutsInTurns former latter

-- from there it follows so for the model, where these values are kept
abbrev pub FollowsSo : Rules → Contents ℕ → Entries → Looked ℕ → Search ℕ → Option (ModelAnswer ℕ) → Type 0
FollowsSo rules look kept l u o = Follows look (meaning rules) (kept_values kept) l u o

-- each value that is known now was kept then, or is told
abbrev pub AreKeptOrTold : (before after : Entries) → Question → Looked ℕ → Type 0
AreKeptOrTold before after q l = (i : Instance ℕ) (v : Value ℕ) → known_to after q i ≡ Some v
    → (kept_values before i ≡ Some v) ⊎ Among (i, Finds v) l.told

-- for the model: the level's search goes on so from there, over what is passed and what has ended before, and what follows from where it has
-- come to follows from there
abbrev pub GoesOnSo : Rules → Shown → (before after : Entries) → Looked ℕ → Question → Type 0
GoesOnSo rules s before after l new = (m : Looked ℕ) × StandsBetween rules s after new m × AreKeptOrTold before after new m
    × ((u : Search ℕ) (o : Option (ModelAnswer ℕ)) → FollowsSo rules (contents s) before m u o → FollowsSo rules (contents s) before l u o)

-- so far it goes, or to where it comes to
abbrev pub GoesSo : Rules → Shown → (before after : Entries) → Looked ℕ → Question → Searched → Type 0
GoesSo rules s before after l new searched.Next = (u : Search ℕ) × StandsFor rules s after new u
    × FollowsSo rules (contents s) before l u None
GoesSo rules s before after l new (searched.Back i) = (u : Search ℕ) × FollowsSo rules (contents s) before l u (Some (Circle i))
GoesSo rules s before after l new searched.Over = GoesOnSo rules s before after l new

-- so it is for the model from wherever the question stood, by what was kept at first: what came to be kept since was told
abbrev pub FromFirst : Rules → Shown → Entries → Question → (Entries → Looked ℕ → Type 0) → Type 0
FromFirst rules s before old P = (first : Entries) (l : Looked ℕ) → KeepsEntries first before → StandsBetween rules s before old l
    → AreKeptOrTold first before old l → P first l

-- it follows so, and stands, where it isn't answered
abbrev pub FollowsTo : Rules → Shown → (before after : Entries) → Looked ℕ → Question → Option (ModelAnswer ℕ) → Type 0
FollowsTo rules s before after l new None = (u : Search ℕ) × StandsFor rules s after new u
    × FollowsSo rules (contents s) before l u None
FollowsTo rules s before after l new (Some a) = (u : Search ℕ) × FollowsSo rules (contents s) before l u (Some a)

-- No turn is counted, and none is passed over; those that wait are of those that waited, each for the one that it waited for.
pub record StaysOn (old new : Question) : Type 0 where
  pub turns : new.turns ≡ old.turns
  pub passed : new.passed.entries ≡ old.passed.entries
  pub met : (rules : Rules) (look : Contents ℕ) (entries : Entries) (found : List (Instance ℕ × Find))
      → HaveMet rules look entries found old.waiting.entries (root_in old.level old.inst)
      → HaveMet rules look entries found new.waiting.entries (root_in new.level new.inst)

-- all is followed still
abbrev pub FollowsOn : Rules → Shown → (before after : Entries) → (old new : Question) → Type 0
FollowsOn rules s before after old new = IsFollowed rules (contents s) before old → IsFollowed rules (contents s) after new

-- so it is but where the search has come back: that is the last one at which it looks
abbrev pub FollowsIn : Rules → Shown → (before after : Entries) → (old new : Question) → Searched → Type 0
FollowsIn rules s before after old new searched.Next = FollowsOn rules s before after old new
FollowsIn rules s before after old new (searched.Back i) = IsFollowed rules (contents s) before old
    → HasComeAbout rules (contents s) after new
FollowsIn rules s before after old new searched.Over = FollowsOn rules s before after old new

pub record HasSearched {E : Type 0} (rules : Rules) (s : Shown) (before after : Entries) (former latter : Memories) (earlier later : ℕ)
    (old new : Question) (r : Result Searched E) : Type 0 where
  pub gains : GainsBetween rules s before after former latter earlier later old new (KeepsGroups rules r)
  pub waiting : new.waiting.entries ≡ old.waiting.entries
  pub root : root_in new.level new.inst ≡ root_in old.level old.inst
  pub stays : OnOk r (StaysOn old new)
  pub followed : IfOk r (FollowsIn rules s before after old new)
  pub to : IfOk r (HasSearchedTo rules s after old new)
  pub follows : IfOk r (λ e. FromFirst rules s before old (λ first l. GoesSo rules s first after l new e))

-- how much it takes to go over what is recorded of an equation, with what that leads to; and over all of these that weren't seen
abbrev pub cost_at : List (Instance ℕ × Ended) → Instance ℕ → ℕ
cost_at ended i = elim (lookup (same_instance i) ended) [ None ↦ 0 | Some x ↦ cost_of x ]

abbrev pub cost_left : List (Instance ℕ × Ended) → (seen keys : List (Instance ℕ)) → ℕ
cost_left ended seen [] = 0
cost_left ended seen (k ∷ ks) = cond (is_in seen k) 0 (cost_at ended k) + cost_left ended seen ks

-- how much the search of the last level still has to go through
abbrev pub left_to_do : Question → ℕ
left_to_do q = cost_left q.ended.entries (seen_in q.level) (keys_of q.ended.entries) + length (todo_in q.level)

-- the search of the last level has come further, and can go on
pub record ComesOn (rules : Rules) (s : Shown) (before after : Entries) (old new : Question) : Type 0 where
  pub chain : KeepsChain old new
  pub ended : keys_of new.ended.entries ≡ keys_of old.ended.entries
  pub can : CanSearch rules s after new
  pub follows : FromFirst rules s before old (λ first l. GoesOnSo rules s first after l new)

-- it has looked at one to do, and has come further by that, or to where it comes to
pub record HasSearchedOn {E : Type 0} (rules : Rules) (s : Shown) (before after : Entries) (former latter : Memories)
    (earlier later : ℕ) (old new : Question) (r : Result (Option Searched) E) : Type 0 where
  pub gains : GainsBetween rules s before after former latter earlier later old new (KeepsGroups rules r)
  pub waiting : new.waiting.entries ≡ old.waiting.entries
  pub root : root_in new.level new.inst ≡ root_in old.level old.inst
  pub stays : OnOk r (StaysOn old new)
  pub followed : IfOk r (elim [
    | None ↦ FollowsOn rules s before after old new
    | Some e ↦ FollowsIn rules s before after old new e
  ])
  pub on : IfOk r (elim [
    | None ↦ ComesOn rules s before after old new × (left_to_do new < left_to_do old)
    | Some e ↦ HasSearchedTo rules s after old new e × FromFirst rules s before old (λ first l. GoesSo rules s first after l new e)
  ])

-- so it can be for the last level, where what is recorded and known holds
pub record CanSolveLevel (rules : Rules) (s : Shown) (entries : Entries) (q : Question) : Type 0 where
  pub answerable : IsAnswerable rules s entries
  pub facts : AreFactsOf rules (contents s) entries q
  pub finds : AreSoundFinds rules s entries q
  pub last : IsSolvable rules q.ended.entries q.level

-- the search of the last level has nothing to do any more
pub record IsLevelOver (rules : Rules) (look : Contents ℕ) (entries : Entries) (q : Question) : Type 0 where
  pub done : IsDoneIn q.level
  pub covered : IsCovered (known_to entries q) q.ended.entries (root_in q.level q.inst) (seen_in q.level) (todo_in q.level) (fault_in q.level)
  pub whole : AreWholeOrSeen rules look entries q

-- The last level has seen nothing any more: what it had seen is marked whole, and known where it has a value. Where its search was over that is
-- as it has to be; and where it stood before one that wants what has no outcome, each that has a value is known.
pub record HasSolvedLevel {E : Type 0} (rules : Rules) (s : Shown) (before after : Entries) (former latter : Memories)
    (earlier later : ℕ) (old new : Question) (r : Result Unit E) : Type 0 where
  pub mid : Question
  pub lost : HasLostSeen old mid
  pub tells : Tells rules s before after former latter earlier later mid new (seen_in old.level) (KeepsGroups rules r)
  pub marked : OnOk r ((i : Instance ℕ) → Among i (seen_in old.level) → IsMarked new.ended.entries i)
  pub can : OnOk r (IsLevelOver rules (contents s) before old → CanResolve rules s after new)
  pub told : OnOk r ((n : Instance ℕ)
      → IsStuckAt (contents s) (meaning rules) (known_to before old) old.ended.entries (root_in old.level old.inst) old.level n
      → KnowsValued rules (contents s) after new (λ i. Among i (seen_in old.level)))

-- the last level is off, and its root is known: the one that waited for it is told that; or that is the answer
pub record HasRisenTo {E : Type 0} (before after : Entries) (former latter : Memories) (earlier later : ℕ) (old new : Question) (t u : Trials)
    (r : Result (Option Answer) E) : Type 0 where
  pub entries : after ≡ before
  pub traces : latter ≡ former
  pub work : later ≡ earlier
  pub risen : IfOk r (elim [
    | None ↦ HasRisen old new (Some (root_in old.level old.inst)) × (u ≡ record t { awaited = Some (root_in old.level old.inst) })
    | Some a ↦ (old.waiting.entries ≡ []) × IsUnchanged old new × (v : Value ℕ) × (known_to before old (root_in old.level old.inst) ≡ Some v)
        × (answer_view a ≡ Outcomes (Finds v))
  ])

-- so it is: what its levels had seen may be known from now on
pub record HasClosed {E : Type 0} (rules : Rules) (s : Shown) (before after : Entries) (former latter : Memories) (earlier later : ℕ)
    (old new : Question) (at : Instance ℕ) (r : Result (Option Answer) E) : Type 0 where
  pub gains : GainsBetween rules s before after former latter earlier later old new (KeepsGroups rules r)
  pub stays : OnOk r (StaysOn old new)
  pub is : IfOk r (λ o. o ≡ Some (answer.Circular at))
  pub told : OnOk r (KnowsValued rules (contents s) after new (λ i. IsSeenBy old i))
  pub plainly : old.ended.entries ≡ [] → (new ≡ old) × (after ≡ before)

-- the search of the last level is over
pub record CanLeave (rules : Rules) (s : Shown) (entries : Entries) (q : Question) (t : Trials) : Type 0 where
  pub along : CanGoAlong rules s entries q t
  pub done : IsDoneIn q.level

-- the last one that waits wasn't seen at its level
abbrev pub IsLastUnseen : List (Instance ℕ × LevelCode) → Type 0
IsLastUnseen waiting = (front : List (Instance ℕ × LevelCode)) (i : Instance ℕ) (l : LevelCode) → waiting ≡ front ++ (i, l) ∷ []
    → Among i (seen_in l) → ⊥

-- the last level is off, and the equation of the one that waited has ended by that fault; or none waited, and that is the answer
abbrev pub HasFallen : (old new : Question) → (t u : Trials) → Fault → Left → Type 0
HasFallen old new t u f (left.Told None) = ⊥
HasFallen old new t u f (left.Told (Some a)) = (old.waiting.entries ≡ []) × IsUnchanged old new
    × (answer_view a ≡ Outcomes (Faults (fault_view f.kind) f.at))
HasFallen old new t u f left.Fallen = (mid : Question) × (i : Instance ℕ) × IsRisen old mid i × HasEnded mid (ending.Spoilt f) new × HasDropped t u

-- The search goes on in the level below, which has seen one more.
pub record GoesDown (rules : Rules) (s : Shown) (before after : Entries) (old new : Question) (u : Trials) : Type 0 where
  pub can : CanGoAlong rules s after new u
  pub asked : asked_by new ≡ asked_by old
  pub fewer : length new.waiting.entries < length old.waiting.entries
  pub levels : (i : Instance ℕ) → Among i (under (all_levels new)) → Among i (under (all_levels old))
  pub ended : (i : Instance ℕ) → Among i (keys_of new.ended.entries) → Among i (keys_of old.ended.entries) ⊎ Among i (under (all_levels old))
  pub follows : FromFirst rules s before old (λ first l. GoesOnSo rules s first after l new)

-- so it does, or it is told
abbrev pub HasLeftSo : Rules → Shown → (before after : Entries) → (old new : Question) → Trials → Left → Type 0
HasLeftSo rules s before after old new u (left.Told o) = FitAfter rules s after new u o
    × FromFirst rules s before old (λ first l. FollowsTo rules s first after l new (option_map answer_view o))
HasLeftSo rules s before after old new u left.Fallen = GoesDown rules s before after old new u

-- so it is where the question isn't answered; else all that is worthy of it is kept
abbrev pub LeavesAll : Rules → Shown → (before after : Entries) → (old new : Question) → Left → Type 0
LeavesAll rules s before after old new (left.Told None) = IsSparingTurns rules (contents s) before old
    → IsFollowed rules (contents s) after new
LeavesAll rules s before after old new (left.Told (Some a)) = AreSpare rules (contents s) before
    → IsSparingTurns rules (contents s) before old → HasWorthyFor rules (contents s) (asked_by old) (answer_view a) after
LeavesAll rules s before after old new left.Fallen = IsSparingTurns rules (contents s) before old
    → IsFollowed rules (contents s) after new

pub record HasLeft {E : Type 0} (rules : Rules) (s : Shown) (before after : Entries) (former latter : Memories) (earlier later : ℕ)
    (old new : Question) (u : Trials) (r : Result Left E) : Type 0 where
  pub gains : GainsBetween rules s before after former latter earlier later old new (KeepsGroups rules r)
  pub stays : OnOk r (StaysOn old new)
  pub all : IfOk r (LeavesAll rules s before after old new)
  pub so : IfOk r (HasLeftSo rules s before after old new u)

-- what a search leaves as it is, and that what was found is sound: no turn is counted
pub record StaysSo (rules : Rules) (s : Shown) (after : Entries) (old new : Question) : Type 0 where
  pub turns : new.turns ≡ old.turns
  pub passed : new.passed.entries ≡ old.passed.entries
  pub finds : AreSoundFinds rules s after new

-- What a search leaves beside what it is for the model: what came to be kept is of instances that had been seen. It stays
-- spare, and has all that is worthy, for an answer.
pub record LeavesSo {E : Type 0} (rules : Rules) (s : Shown) (before after : Entries) (old new : Question)
    (r : Result (Option Answer) E) : Type 0 where
  pub stays : OnOk r (StaysSo rules s after old new)
  pub last : (i : Instance ℕ) → (kept_values after i ≡ kept_values before i) ⊎ (WasSeenBy old i × IsKept after i
      × (is_lazy rules i.attribute ≡ true))
  pub others : (i : Instance ℕ) → IsSome (after i) → IsSome (before i) ⊎ (IsKept after i ⊎ (IsFound old.found.entries i ⊎ WasSeenBy old i))
  pub all : AreSpare rules (contents s) before → IsSparingTurns rules (contents s) before old
      → IfOk r (λ o. IfSome o (λ a. HasWorthyFor rules (contents s) (asked_by old) (answer_view a) after))
  pub sparing : AreSpare rules (contents s) before → IsSparingTurns rules (contents s) before old
      → IfOk r (λ o. IsOfUse rules o (IsSparingTurns rules (contents s) after new))

-- The search has gone along behind a try: it stands at another one, or the question is answered. It is what `Follows` says of the model.
pub record HasGoneAlong {E : Type 0} (rules : Rules) (s : Shown) (before after : Entries) (former latter : Memories) (earlier later : ℕ)
    (old new : Question) (t : Trials) (r : Result (Option Answer) E) : Type 0 where
  pub gains : GainsBetween rules s before after former latter earlier later old new (KeepsGroups rules r)
  pub follows : FromFirst rules s before old (λ first l. IfOk r (λ o. FollowsTo rules s first after l new (option_map answer_view o)))
  pub fit : IfOk r (FitAfter rules s after new t)
  pub leaves : LeavesSo rules s before after old new r

-- a turn can be given, where what was asked isn't kept
pub record CanTurnOn (rules : Rules) (s : Shown) (entries : Entries) (q : Question) (t : Trials) : Type 0 where
  pub turns : CanTurnWith rules s entries q t
  pub unasked : kept_values entries (asked_by q) ≡ None

-- the equation of the last one can be tried: it isn't kept
pub record CanTryLast (rules : Rules) (s : Shown) (entries : Entries) (q : Question) (t : Trials) : Type 0 where
  pub turns : CanTurnWith rules s entries q t
  pub unkept : kept_values entries q.inst ≡ None

-- The equation of the last one has that fault, behind those of others, perhaps; where no attribute is circular it is its own. What it came to
-- is met, or has ended.
pub record CanSpoil (rules : Rules) (s : Shown) (entries : Entries) (q : Question) (t : Trials) (f : Fault) : Type 0 where
  pub turns : CanTurnWith rules s entries q t
  pub none : t.awaited ≡ None
  pub own : HasNoneCircular rules → f.at ≡ q.inst
  pub followed : (j : Instance ℕ) → Comes (contents s) (meaning rules) q.inst j → IsMet entries q.found.entries j ⊎ Among j (keys_of q.ended.entries)
  pub ends : EndsSo (contents s) (meaning rules) q.inst (Spoilt (fault_view f.kind) f.at)

-- It was given a turn so: where no attribute is circular, a turn of its chain; and else of the search for which it stood, by what was kept at any
-- time before, where what came to be known since was told.
pub record TurnsBy {E : Type 0} (rules : Rules) (s : Shown) (before after : Entries) (old new : Question) (r : Result (Option Answer) E) : Type 0 where
  pub plainly : HasNoneCircular rules → IfOk r (λ o. ChainTurned (contents s) (equations rules) (kept_values before) (under_way old) (under_way new)
      (option_map answer_view o))
  pub searched : (first : Entries) (u : Search ℕ) → KeepsEntries first before → StandsFor rules s before old u
      → ((i : Instance ℕ) (v : Value ℕ) → known_to before old i ≡ Some v → (kept_values first i ≡ Some v) ⊎ Among (i, Finds v) u.told)
      → IfOk r (λ o. (v : Search ℕ) × Turned (contents s) (meaning rules) (kept_values first) u v (option_map answer_view o)
      × (o ≡ None → StandsFor rules s after new v))

-- the question goes along so
pub record HasSpoilt {E : Type 0} (rules : Rules) (s : Shown) (before after : Entries) (former latter : Memories) (earlier later : ℕ)
    (old new : Question) (t : Trials) (f : Fault) (r : Result (Option Answer) E) : Type 0 where
  pub gains : GainsBetween rules s before after former latter earlier later old new (KeepsGroups rules r)
  pub turned : TurnsBy rules s before after old new r
  pub fit : IfOk r (FitAfter rules s after new t)
  pub leaves : LeavesSo rules s before after old new r
  pub plainly : old.ended.entries ≡ [] → (new ≡ old) × (after ≡ before)
