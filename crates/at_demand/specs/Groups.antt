-- What becomes of instances that are solved together: a group, in which formulas lead from each to each, is kept or found by its first member.
use Rattle.std.specs.Prelude.{◌≡◌, ◌⊎◌, ℕ, Bool, true, List, [], ◌∷◌, ◌++◌, map, length, slice_get, Option, Some, None, IsSome, IfOk, OnOk, Result, Ok, Err}
use Rattle.std.specs.Borrow.{Bor}
use Rattle.std.specs.Map.{keys_of, lookup}
use Rattle.at_model.specs.Meaning.{Among}
use Rattle.at_model.specs.Rules.{Rules, is_lazy, start_of}
use Rattle.at_model.specs.Run.{Instance, Contents, Truth}
use Rattle.at_model.specs.of_fixpoints.Fixpoints.{HasValue, LeadsOver}
use Rattle.at_model.specs.of_fixpoints.Formulas.{atoms}
use Rattle.at_rules.specs.Circular.{HasNoneCircular}
use Rattle.at_store.specs.Located.{loc_view}
use Rattle.at_store.specs.declared.node.Loc.{Loc}
use Rattle.at_store.specs.Shown.{Shown, contents}
use Rattle.at_body.specs.Pieces.{asked}
use Rattle.at_body.specs.Same.{same_instance}
use Rattle.at_body.specs.Values.{value_view}
use Rattle.at_body.specs.declared.formula.Piece.{Piece}
use Rattle.at_body.specs.declared.value.Value.TheVariants as value
use Rattle.indexmap.specs.IndexMap.{insert_entry}
use Rattle.at_cache.specs.Kept.{Entries}
use Rattle.at_cache.specs.Traced.{Memories}
use Rattle.at_search.specs.LedTo.{AreClosedIn}
use Rattle.at_search.specs.Recorded.{IsRecordedForm, Recorded}
use Rattle.at_search.specs.Solved.{IsSpoilt, IsStopped}
use Rattle.at_search.specs.declared.ended.Ended.{Ended}
use Rattle.at_search.specs.declared.ended.Formed.{Formed}
use Rattle.at_search.specs.declared.solving.Solved.{Solved}
use Rattle.at_demand.specs.declared.evaluation.Demanded.{Demanded}
use Rattle.at_demand.specs.declared.evaluation.Find.{Find}
use Rattle.at_demand.specs.declared.question.Question.{Question}
use Rattle.at_demand.specs.InTurns.{PutsInTurns}
use Rattle.at_demand.specs.Answerable.{IsAnswerable, RestsOnKept}
use Rattle.at_demand.specs.ChainSteps.{HasMarkedAll, KeepsChain}
use Rattle.at_evaluate.specs.Right.{AreCovered, AreRight, IsThere}
use Rattle.at_demand.specs.Covering.{AreWhole, IsDemanded, IsWhole}
use Rattle.at_evaluate.specs.Valued.{ArePlain, IsKept, KeepsEntries, kept_values, meaning}
use Rattle.at_demand.specs.Known.{FoundKept, IsFound, MayAdd, AreThere}
use Rattle.at_demand.specs.Levels.{AreFactsOf, IsUsed, known_to}
use Rattle.at_evaluate.specs.Meant.{AreRightValues}
use Rattle.at_demand.specs.Only.{AreLean, IsLean}
use Rattle.at_evaluate.specs.Sparing.{AreOnly, AreSpare, Counts}
use Rattle.at_demand.specs.Worth.{AreSettled, MayGain}

-- the value from which the first of these starts, where it is circular
abbrev pub start_in : Rules → List (Instance ℕ) → Option Bool
start_in rules [] = None
start_in rules (i ∷ is) = start_of rules i.attribute

-- the instances at the positions of the members of a group
abbrev pub IsMember : List (Instance ℕ) → List Solved → Instance ℕ → Bool → Type 0
IsMember insts group i b = (m : Solved) × Among m group × (slice_get insts m.position ≡ Some i) × (m.value ≡ b)

-- no group is kept in part: a call has not failed, or no attribute is circular
abbrev pub KeepsGroups : {T E : Type 0} → Rules → Result T E → Type 0
KeepsGroups rules (Ok x) = Unit {0}
KeepsGroups rules (Err e) = HasNoneCircular rules

-- What became of what is kept and found since: all that is new there are values of these instances. What is kept stays right, and
-- spare where groups are kept whole; the work counts it, and nothing is traced. The chain stays, and how equations ended.
pub record Tells (rules : Rules) (s : Shown) (before after : Entries) (former latter : Memories) (earlier later : ℕ)
    (old new : Question) (these : List (Instance ℕ)) (Whole : Type 0) : Type 0 where
  pub chain : KeepsChain old new
  pub level : new.level ≡ old.level
  pub ended : keys_of new.ended.entries ≡ keys_of old.ended.entries
  pub endings : (i : Instance ℕ) (x : Ended) → lookup (same_instance i) old.ended.entries ≡ Some x
      → (y : Ended) × (lookup (same_instance i) new.ended.entries ≡ Some y) × (y.ending ≡ x.ending)
  pub passed : new.passed.entries ≡ old.passed.entries
  pub turns : new.turns ≡ old.turns
  pub stays : KeepsEntries before after
  pub finds : (more : List (Instance ℕ × Find)) × (new.found.entries ≡ old.found.entries ++ more)
  pub told : (i : Instance ℕ) → IsSome (known_to after new i) → IsSome (known_to before old i) ⊎ Among i these
  pub kept : (i : Instance ℕ) → IsKept after i → IsKept before i ⊎ (Among i these × (is_lazy rules i.attribute ≡ true))
  pub entries : (i : Instance ℕ) → IsSome (after i) → IsSome (before i) ⊎ (IsKept after i ⊎ IsFound old.found.entries i)
  pub values : AreRightValues (contents s) (meaning rules) (known_to after new)
  pub facts : AreFactsOf rules (contents s) before old → AreFactsOf rules (contents s) after new
  pub whole : AreWhole rules (contents s) old.found.entries → AreWhole rules (contents s) new.found.entries
  pub took : FoundKept after new.found.entries
  pub right : AreThere rules s old.found.entries → ((i : Instance ℕ) → Among i these → IsThere s i) → AreRight rules s before → AreRight rules s after
  pub plain : ArePlain rules after
  pub lean : AreLean rules (contents s) old.found.entries → AreLean rules (contents s) new.found.entries
  pub settled : AreSettled rules before old.found.entries → AreSettled rules after new.found.entries
  pub only : AreLean rules (contents s) old.found.entries → AreOnly rules (contents s) before → AreOnly rules (contents s) after
  pub spare : Whole → AreSpare rules (contents s) before → AreLean rules (contents s) old.found.entries
      → AreSettled rules before old.found.entries → AreSpare rules (contents s) after
  pub counts : Counts before after earlier later
  pub traces : PutsInTurns former latter

-- Instances can be solved: all start alike; and what is known and recorded holds.
pub record CanBeSolved (rules : Rules) (s : Shown) (entries : Entries) (q : Question) (insts : List (Instance ℕ)) : Type 0 where
  pub answerable : IsAnswerable rules s entries
  pub facts : AreFactsOf rules (contents s) entries q
  pub finds : AreWhole rules (contents s) q.found.entries
  pub took : FoundKept entries q.found.entries
  pub alike : (i : Instance ℕ) → Among i insts → start_of rules i.attribute ≡ start_in rules insts
  pub recorded : (i : Instance ℕ) → Among i insts → Among i (keys_of q.ended.entries)

-- so they can, and are circular
pub record CanSolve (rules : Rules) (s : Shown) (entries : Entries) (q : Question) (insts : List (Instance ℕ)) : Type 0 where
  pub answerable : IsAnswerable rules s entries
  pub facts : AreFactsOf rules (contents s) entries q
  pub finds : AreWhole rules (contents s) q.found.entries
  pub took : FoundKept entries q.found.entries
  pub circular : (i : Instance ℕ) → Among i insts → IsSome (start_of rules i.attribute)
  pub alike : (i : Instance ℕ) → Among i insts → start_of rules i.attribute ≡ start_in rules insts
  pub recorded : (i : Instance ℕ) → Among i insts → Among i (keys_of q.ended.entries)

-- it is known now; or formulas led from it to a fault, or to one that is marked whole and wasn't known
abbrev pub IsKnownOrSpoilt : (before after : Entries) → (old new : Question) → Instance ℕ → Type 0
IsKnownOrSpoilt before after old new i = IsSome (known_to after new i) ⊎ IsSpoilt (known_to before old) old.ended.entries i

-- each of these is known now, or formulas led from it to one that was stopped
abbrev pub AreKnownOrStopped : (before after : Entries) → (old new : Question) → List (Instance ℕ) → Type 0
AreKnownOrStopped before after old new insts = (i : Instance ℕ) → Among i insts
    → IsSome (known_to after new i) ⊎ IsStopped (known_to before old) old.ended.entries insts i

-- Each of these is told its value from which formulas lead to formulas alone, as far as they are recorded: in all else nothing changes.
pub record HasSolved {E : Type 0} (rules : Rules) (s : Shown) (before after : Entries) (former latter : Memories) (earlier later : ℕ)
    (old new : Question) (insts : List (Instance ℕ)) (r : Result Unit E) : Type 0 where
  pub tells : Tells rules s before after former latter earlier later old new insts (KeepsGroups rules r)
  pub same : new.ended.entries ≡ old.ended.entries
  pub each : OnOk r (AreKnownOrStopped before after old new insts)
  pub rest : AreClosedIn (known_to before old) old.ended.entries insts
      → OnOk r ((i : Instance ℕ) → Among i insts → IsKnownOrSpoilt before after old new i)

-- so it is, and all of them are marked whole
pub record HasMarkedSolved {E : Type 0} (rules : Rules) (s : Shown) (before after : Entries) (former latter : Memories)
    (earlier later : ℕ) (old new : Question) (insts : List (Instance ℕ)) (r : Result Unit E) : Type 0 where
  pub tells : Tells rules s before after former latter earlier later old new insts (KeepsGroups rules r)
  pub rest : AreClosedIn (known_to before old) old.ended.entries insts
      → OnOk r ((i : Instance ℕ) → Among i insts → IsKnownOrSpoilt before after old new i)
  pub each : OnOk r (AreKnownOrStopped before after old new insts)
  pub marked : OnOk r ((mid : Question) × (mid.ended.entries ≡ old.ended.entries) × HasMarkedAll insts mid new)

-- A group can be kept: each member has a place, isn't known, and has its value; formulas lead from each to each, and what the formula of one asks for is
-- known, or a member.
pub record CanKeepGroup (rules : Rules) (s : Shown) (entries : Entries) (q : Question) (insts : List (Instance ℕ)) (group : List Solved)
    : Type 0 where
  pub can : CanSolve rules s entries q insts
  pub placed : (m : Solved) → Among m group → IsSome (slice_get insts m.position)
  pub unknown : (i : Instance ℕ) (b : Bool) → IsMember insts group i b → known_to entries q i ≡ None
  pub values : (i : Instance ℕ) (b : Bool) → IsMember insts group i b → HasValue (contents s) (meaning rules) i (Truth b)
  pub closed : (i j : Instance ℕ) (b : Bool) (f : Formed) → IsMember insts group i b → IsRecordedForm q.ended.entries i f → Among j (atoms f.formula)
      → IsSome (known_to entries q j) ⊎ ((c : Bool) × IsMember insts group j c)
  pub together : (i j : Instance ℕ) (b c : Bool) → IsMember insts group i b → IsMember insts group j c → LeadsOver (Recorded q.ended.entries) i j

-- so it is, and each member is known
pub record HasKeptGroup {E : Type 0} (rules : Rules) (s : Shown) (before after : Entries) (former latter : Memories) (earlier later : ℕ)
    (old new : Question) (insts : List (Instance ℕ)) (group : List Solved) (r : Result Unit E) : Type 0 where
  pub tells : Tells rules s before after former latter earlier later old new insts (KeepsGroups rules r)
  pub same : new.ended.entries ≡ old.ended.entries
  pub told : OnOk r ((i : Instance ℕ) (b : Bool) → IsMember insts group i b → IsSome (known_to after new i))
  pub only : (i : Instance ℕ) → IsSome (known_to after new i) → IsSome (known_to before old i) ⊎ ((b : Bool) × IsMember insts group i b)

-- the demanded ones may have the instance beside what they had, where it is known
abbrev pub AddsUse : Entries → Question → Instance ℕ → (old new : Demanded) → Type 0
AddsUse entries q j old new =
    (IsKept entries j × (new.kept.items ≡ old.kept.items ++ j ∷ []) × (new.finds.items ≡ old.finds.items))
    ⊎ (((p : ℕ) × (f : Find) × (slice_get q.found.entries p ≡ Some (j, f)) × (new.kept.items ≡ old.kept.items) × (new.finds.items ≡ old.finds.items ++ p ∷ []))
    ⊎ ((known_to entries q j ≡ None) × (new ≡ old)))

-- so it is of each that the pieces ask for, in order
abbrev pub AddsAll : Entries → Question → List (Instance ℕ) → (old new : Demanded) → Type 0
AddsAll entries q [] old new = new ≡ old
AddsAll entries q (j ∷ js) old new = (mid : Demanded) × AddsUse entries q j old mid × AddsAll entries q js mid new

abbrev pub AddsAtoms : Entries → Question → List Piece → (old new : Demanded) → Type 0
AddsAtoms entries q ps old new = AddsAll entries q (asked ps) old new

-- The find has what the equation read and took beside what it had, and those of the formula's instances that are known.
pub record AddsUses (entries : Entries) (q : Question) (f : Formed) (old new : Find) : Type 0 where
  pub value : new.value ≡ old.value
  pub reads : new.reads.items ≡ old.reads.items ++ f.reads.items
  pub mid : Demanded
  pub kept : mid.kept.items ≡ old.demanded.kept.items ++ f.kept.items
  pub finds : mid.finds.items ≡ old.demanded.finds.items ++ f.finds.items
  pub atoms : AddsAll entries q (atoms f.formula) mid new.demanded

-- it is that of the instance at the position, or there is none
abbrev pub IsFormedAt : List (Instance ℕ × Ended) → List (Instance ℕ) → ℕ → Option (Bor Formed) → Type 0
IsFormedAt ended insts p None = (i : Instance ℕ) (f : Formed) → slice_get insts p ≡ Some i → IsRecordedForm ended i f → ⊥
IsFormedAt ended insts p (Some f) = (i : Instance ℕ) × (slice_get insts p ≡ Some i) × IsRecordedForm ended i f.now

-- what the equation of the member read and used came to the find, where it gave a formula
abbrev pub AddsMember : Entries → Question → List (Instance ℕ) → Solved → (old new : Find) → Type 0
AddsMember entries q insts m old new =
    ((i : Instance ℕ) × (f : Formed) × (slice_get insts m.position ≡ Some i) × IsRecordedForm q.ended.entries i f × AddsUses entries q f old new)
    ⊎ (((i : Instance ℕ) (f : Formed) → slice_get insts m.position ≡ Some i → IsRecordedForm q.ended.entries i f → ⊥) × (new ≡ old))

-- so the equation of a member is recorded to have ended
abbrev pub HasMember : Question → List (Instance ℕ) → List Solved → (Formed → Type 0) → Type 0
HasMember q insts group Is = (i : Instance ℕ) × (b : Bool) × (d : Formed) × IsMember insts group i b × IsRecordedForm q.ended.entries i d × Is d

-- all that the equations of the members read and took stands with the find, and those known ones for which their formulas ask
pub record RestsOn (entries : Entries) (q : Question) (insts : List (Instance ℕ)) (group : List Solved) (f : Find) : Type 0 where
  pub reads : (i : Instance ℕ) (b : Bool) (d : Formed) (l : Loc) → IsMember insts group i b → IsRecordedForm q.ended.entries i d
      → Among l d.reads.items → Among l f.reads.items
  pub uses : (i j : Instance ℕ) (b : Bool) (d : Formed) → IsMember insts group i b → IsRecordedForm q.ended.entries i d
      → IsUsed q.found.entries d j ⊎ (Among j (atoms d.formula) × IsSome (known_to entries q j)) → IsDemanded q.found.entries f.demanded j

-- and nothing else
pub record IsOnlyOf (entries : Entries) (q : Question) (insts : List (Instance ℕ)) (group : List Solved) (f : Find) : Type 0 where
  pub reads : (l : Loc) → Among l f.reads.items → HasMember q insts group (λ d. Among l d.reads.items)
  pub kept : (j : Instance ℕ) → Among j f.demanded.kept.items
      → HasMember q insts group (λ d. Among j d.kept.items ⊎ (IsKept entries j × Among j (atoms d.formula)))
  pub finds : (p : ℕ) → Among p f.demanded.finds.items → HasMember q insts group (λ d. Among p d.finds.items
      ⊎ ((j : Instance ℕ) × (g : Find) × (slice_get q.found.entries p ≡ Some (j, g)) × Among j (atoms d.formula)))

-- The find of a group: its first member's value, with all that the equations of the members read and took, and those known ones for which
-- their formulas ask; and nothing else.
pub record IsFindOf (entries : Entries) (q : Question) (insts : List (Instance ℕ)) (group : List Solved) (b : Bool) (f : Find) : Type 0 where
  pub value : f.value ≡ value.Bool b
  pub rests : RestsOn entries q insts group f
  pub only : IsOnlyOf entries q insts group f

-- just the use of that one was taken, of what is kept or at the place
abbrev pub UsesFirst : Instance ℕ → Option ℕ → Demanded → Type 0
UsesFirst i None d = (d.kept.items ≡ i ∷ []) × (d.finds.items ≡ [])
UsesFirst i (Some p) d = (d.kept.items ≡ []) × (d.finds.items ≡ p ∷ [])

-- another member's find has its value, and the use of the first one
pub record IsOtherFind (first : Instance ℕ) (place : Option ℕ) (b : Bool) (f : Find) : Type 0 where
  pub value : f.value ≡ value.Bool b
  pub reads : map loc_view f.reads.items ≡ []
  pub uses : UsesFirst first place f.demanded

-- The find's value is kept for the instance where it is lazy, or the find comes behind those that were found.
pub record IsKeptOrFound (rules : Rules) (before after : Entries) (former latter : Memories) (earlier later : ℕ)
    (old new : Question) (i : Instance ℕ) (f : Find) : Type 0 where
  pub adds : MayAdd before after i (value_view f.value)
  pub covers : (look : Contents ℕ) → AreWhole rules look old.found.entries → IsWhole rules look old.found.entries i f → AreCovered rules look before
      → AreCovered rules look after
  pub gains : MayGain rules old.found.entries before after i
  pub only : (look : Contents ℕ) → AreLean rules look old.found.entries → IsLean rules look old.found.entries i f
      → AreOnly rules look before → AreOnly rules look after
  pub plain : ArePlain rules after
  pub counts : Counts before after earlier later
  pub traces : PutsInTurns former latter
  pub finds : (new.found.entries ≡ old.found.entries) ⊎ ((new.found.entries ≡ insert_entry same_instance old.found.entries i f)
      × (is_lazy rules i.attribute ≡ true → IsKept after i))
  pub same : new ≡ record old { found = new.found }

-- the find comes to those that were found, at the place behind them; or those stay
pub record HasPutLast {E : Type 0} (old new : Question) (i : Instance ℕ) (f : Find) (r : Result ℕ E) : Type 0 where
  pub finds : (new.found.entries ≡ old.found.entries) ⊎ (new.found.entries ≡ insert_entry same_instance old.found.entries i f)
  pub same : new ≡ record old { found = new.found }
  pub place : IfOk r (λ p. (p ≡ length old.found.entries) × (new.found.entries ≡ insert_entry same_instance old.found.entries i f))

-- the find of a group's first member can be kept, or found
pub record CanBeFirst (rules : Rules) (entries : Entries) (q : Question) (i : Instance ℕ) (f : Find) : Type 0 where
  pub rests : RestsOnKept entries q.found.entries f
  pub unknown : known_to entries q i ≡ None
  pub plain : ArePlain rules entries

-- it is kept so; or it is the last one of those that were found, at the place
pub record HasKeptFirst {E : Type 0} (rules : Rules) (before after : Entries) (former latter : Memories) (earlier later : ℕ)
    (old new : Question) (i : Instance ℕ) (f : Find) (r : Result (Option ℕ) E) : Type 0 where
  pub kept : IsKeptOrFound rules before after former latter earlier later old new i f
  pub place : IfOk r (elim [
    | None ↦ (kept_values after i ≡ Some (value_view f.value)) × (new ≡ old)
    | Some p ↦ (p ≡ length old.found.entries) × (new.found.entries ≡ insert_entry same_instance old.found.entries i f)
  ])

-- the first one is kept, or was found at the place
abbrev pub IsFirstAt : Entries → Question → Instance ℕ → Option ℕ → Type 0
IsFirstAt entries q i None = IsKept entries i
IsFirstAt entries q i (Some p) = (f : Find) × (slice_get q.found.entries p ≡ Some (i, f))

-- another member can be, where the first one is known: it is kept, or stands at that place
pub record CanBeOther (rules : Rules) (entries : Entries) (q : Question) (first : Instance ℕ) (place : Option ℕ) : Type 0 where
  pub finds : FoundKept entries q.found.entries
  pub known : IsFirstAt entries q first place
  pub plain : ArePlain rules entries

-- nothing has changed
pub record StaysAsIs (before after : Entries) (former latter : Memories) (earlier later : ℕ) (old new : Question) : Type 0 where
  pub entries : after ≡ before
  pub memories : latter ≡ former
  pub work : later ≡ earlier
  pub question : new ≡ old

-- a member is kept, or found, by the use of the first one
pub record KeepsOther (rules : Rules) (before after : Entries) (former latter : Memories) (earlier later : ℕ) (old new : Question)
    (insts : List (Instance ℕ)) (first : Instance ℕ) (place : Option ℕ) (m : Solved) : Type 0 where
  pub inst : Instance ℕ
  pub find : Find
  pub at : slice_get insts m.position ≡ Some inst
  pub unknown : known_to before old inst ≡ None
  pub is : IsOtherFind first place m.value find
  pub kept : IsKeptOrFound rules before after former latter earlier later old new inst find

-- so it is, or nothing has changed; it is known then
pub record HasKeptOther {E : Type 0} (rules : Rules) (before after : Entries) (former latter : Memories) (earlier later : ℕ)
    (old new : Question) (insts : List (Instance ℕ)) (first : Instance ℕ) (place : Option ℕ) (m : Solved) (r : Result Unit E) : Type 0 where
  pub kept : StaysAsIs before after former latter earlier later old new
      ⊎ KeepsOther rules before after former latter earlier later old new insts first place m
  pub told : OnOk r ((i : Instance ℕ) → slice_get insts m.position ≡ Some i → IsSome (known_to after new i))
