-- Which instances of a system are solved, and what that tells.
use Rattle.std.specs.Prelude.{◌≡◌, ◌⊎◌, ◌↔◌, ◌++◌, ℕ, ◌≤◌, Bool, true, false, List, [], ◌∷◌, Option, None, Some, IsSome, get_or, length, map, not, slice_get, unwrap_or, Vec}
use Rattle.at_model.specs.Run.{Value, Truth, Instance, Contents, FaultKind, Known}
use Rattle.at_model.specs.Bodies.{bool_eq}
use Rattle.at_model.specs.Meaning.{Among}
use Rattle.at_model.specs.of_fixpoints.Formulas.{Formula, Forms, atoms}
use Rattle.at_model.specs.of_fixpoints.Fixpoints.{Made, Spoilt, LeadsOver, AreFormed, EndsSo, HasValue}
use Rattle.at_model.specs.of_fixpoints.Sets.{AreOfOneStart}
use Rattle.at_solve.specs.Components.{listed_at}
use Rattle.at_solve.specs.Derivations.{Derives}
use Rattle.at_search.specs.declared.ended.Ended.{Ended}
use Rattle.at_search.specs.declared.system.System.{System}
use Rattle.at_search.specs.declared.solving.Solved.{Solved}
use Rattle.at_search.specs.Recorded.{Recorded, IsMarked, AreFacts, AreWhole}

-- it is open, or has no position
abbrev pub is_open_at : List Bool → ℕ → Bool
is_open_at open' q = get_or open' q true

-- none of these is open
abbrev pub AreClosed : List Bool → List ℕ → Type 0
AreClosed open' targets = (m : ℕ) → Among m targets → is_open_at open' m ≡ false

-- it isn't open, and leads to nothing that is
abbrev pub IsShutAt : System → ℕ → Type 0
IsShutAt s q = (is_open_at s.open.items q ≡ false) × AreClosed s.open.items (listed_at s.edges.items q)

-- so it is of each of these
abbrev pub AreShut : System → List ℕ → Type 0
AreShut s group = (q : ℕ) → Among q group → IsShutAt s q

-- just that one is open beside the others
pub record HasOpenedAt (q : ℕ) (old new : List Bool) : Type 0 where
  pub size : length new ≡ length old
  pub here : is_open_at new q ≡ true
  pub others : (m : ℕ) → (m ≡ q → ⊥) → is_open_at new m ≡ is_open_at old m

-- All of the group are shut, and nothing changes; or one isn't, and just these are open beside the others.
pub record HasOpenedAll (group : List ℕ) (old new : System) : Type 0 where
  pub heads : new.heads ≡ old.heads
  pub edges : new.edges ≡ old.edges
  pub conditions : new.conditions ≡ old.conditions
  pub size : length new.open.items ≡ length old.open.items
  pub opened : (m : ℕ) → Among m group → is_open_at new.open.items m ≡ true
  pub others : (m : ℕ) → (Among m group → ⊥) → is_open_at new.open.items m ≡ is_open_at old.open.items m

abbrev pub HasShut : List ℕ → (old new : System) → Bool → Type 0
HasShut group old new true = AreShut old group × (new ≡ old)
HasShut group old new false = (AreShut old group → ⊥) × HasOpenedAll group old new

-- the value of what starts so: the other one where that is derived
abbrev pub value_at : Bool → List Bool → ℕ → Bool
value_at start derived q = not (bool_eq (get_or derived q false) start)

-- an instance is told this value, in the group at this place
abbrev pub IsSolvedIn : {Z : Type 0} → List (Instance ℕ) → List (Vec Solved Z) → ℕ → Instance ℕ → Bool → Type 0
IsSolvedIn {Z} insts groups k i b = (g : Vec Solved Z) × (s : Solved) × (slice_get groups k ≡ Some g) × Among s g.items
    × (slice_get insts s.position ≡ Some i) × (s.value ≡ b)

-- in one of them
abbrev pub IsSolved : {Z : Type 0} → List (Instance ℕ) → List (Vec Solved Z) → Instance ℕ → Bool → Type 0
IsSolved insts groups i b = (k : ℕ) × IsSolvedIn insts groups k i b

-- What is recorded is so on the tree, what is known is right, and these instances start so.
pub record AreRight (look : Contents ℕ) (forms : Forms ℕ) (start : Bool) (known : Known ℕ) (ended : List (Instance ℕ × Ended))
    (insts : List (Instance ℕ)) : Type 0 where
  pub facts : AreFacts look forms ended
  pub values : (i : Instance ℕ) (v : Value ℕ) → known i ≡ Some v → HasValue look forms i v
  pub wholes : AreWhole look forms known
  pub starts : (i : Instance ℕ) → Among i insts → forms.starts i.attribute ≡ Some start
  pub alike : AreOfOneStart look forms

-- each instance is told its value
abbrev pub AreTold : {Z : Type 0} → Contents ℕ → Forms ℕ → List (Instance ℕ) → List (Vec Solved Z) → Type 0
AreTold look forms insts groups = (i : Instance ℕ) (b : Bool) → IsSolved insts groups i b → HasValue look forms i (Truth b)

-- what the formula of an instance asks for is known, or is told with it or before
abbrev pub AreInOrder : {Z : Type 0} → Known ℕ → List (Instance ℕ × Ended) → List (Instance ℕ) → List (Vec Solved Z) → Type 0
AreInOrder known ended insts groups = (k : ℕ) (i j : Instance ℕ) (b : Bool) (f : Formula ℕ) → IsSolvedIn insts groups k i b →
    Recorded ended i (Made f) → Among j (atoms f) → IsSome (known j) ⊎ ((l : ℕ) × (c : Bool) × (l ≤ k) × IsSolvedIn insts groups l j c)

-- In a group formulas lead from each to each, and each has a place among the instances. None of those that are told is known, and none is told
-- in another group, too.
pub record AreGroups {Z : Type 0} (known : Known ℕ) (ended : List (Instance ℕ × Ended)) (insts : List (Instance ℕ)) (groups : List (Vec Solved Z))
    : Type 0 where
  pub together : (k : ℕ) (i j : Instance ℕ) (b c : Bool) → IsSolvedIn insts groups k i b → IsSolvedIn insts groups k j c
      → LeadsOver (Recorded ended) i j
  pub unknown : (k : ℕ) (i : Instance ℕ) (b : Bool) → IsSolvedIn insts groups k i b → known i ≡ None
  pub once : (k l : ℕ) (i : Instance ℕ) (b c : Bool) → IsSolvedIn insts groups k i b → IsSolvedIn insts groups l i c → k ≡ l
  pub placed : (k : ℕ) (g : Vec Solved Z) (m : Solved) → slice_get groups k ≡ Some g → Among m g.items → IsSome (slice_get insts m.position)

-- it is told some value
abbrev pub IsToldSome : {Z : Type 0} → List (Instance ℕ) → List (Vec Solved Z) → Instance ℕ → Type 0
IsToldSome insts groups i = (b : Bool) × IsSolved insts groups i b

-- each that isn't known, and from which formulas lead to formulas alone, is told some value
abbrev pub AreAllTold : {Z : Type 0} → Contents ℕ → Forms ℕ → Known ℕ → List (Instance ℕ) → List (Vec Solved Z) → Type 0
AreAllTold look forms known insts groups = (i : Instance ℕ) → Among i insts → known i ≡ None → AreFormed (EndsSo look forms) i →
    IsToldSome insts groups i

-- its equation is recorded to have come to a fault
abbrev pub HasFault : List (Instance ℕ × Ended) → Instance ℕ → Type 0
HasFault ended i = (k : FaultKind) × (at : Instance ℕ) × Recorded ended i (Spoilt k at)

-- formulas lead from it to an instance that isn't known, and whose equation came to a fault, or that is marked whole
pub record IsSpoilt (known : Known ℕ) (ended : List (Instance ℕ × Ended)) (i : Instance ℕ) : Type 0 where
  pub to : Instance ℕ
  pub led : LeadsOver (Recorded ended) i to
  pub unknown : known to ≡ None
  pub why : HasFault ended to ⊎ IsMarked ended to

-- Formulas lead from it to one of these that isn't known, and that has no formula, or asks for what isn't known and isn't one of these.
pub record IsStopped (known : Known ℕ) (ended : List (Instance ℕ × Ended)) (insts : List (Instance ℕ)) (i : Instance ℕ) : Type 0 where
  pub by : Instance ℕ
  pub among : Among by insts
  pub unknown : known by ≡ None
  pub led : LeadsOver (Recorded ended) i by
  pub why : ((f : Formula ℕ) → Recorded ended by (Made f) → ⊥)
      ⊎ ((f : Formula ℕ) × (j : Instance ℕ) × Recorded ended by (Made f) × Among j (atoms f) × (known j ≡ None) × (¬ (Among j insts)))

-- each by itself is told some value, or is known, or is stopped
abbrev pub AreToldOrStopped : {Z : Type 0} → Known ℕ → List (Instance ℕ × Ended) → List (Instance ℕ) → List (Vec Solved Z) → Type 0
AreToldOrStopped known ended insts groups = (i : Instance ℕ) → Among i insts →
    IsToldSome insts groups i ⊎ (IsSome (known i) ⊎ IsStopped known ended insts i)

-- each is told some value, or is known, or spoilt
abbrev pub AreToldOrSpoilt : {Z : Type 0} → Known ℕ → List (Instance ℕ × Ended) → List (Instance ℕ) → List (Vec Solved Z) → Type 0
AreToldOrSpoilt known ended insts groups = (i : Instance ℕ) → Among i insts →
    IsToldSome insts groups i ⊎ (IsSome (known i) ⊎ IsSpoilt known ended i)

-- what is told at a position
abbrev pub solved_at : (start : Bool) (derived : List Bool) → ℕ → Solved
solved_at start derived q = record { position = q; value = value_at start derived q }

-- A group is shut, and is told with the values that are derived; or it isn't, and its members are open.
abbrev pub HasSolved : {Z : Type 0} → (group : List ℕ) → (derived : List Bool) → (old new : System) → (before after : List (Vec Solved Z)) → Type 0
HasSolved {Z} group derived old new before after =
    (AreShut old group × (new ≡ old) × ((v : Vec Solved Z) × (v.items ≡ map (solved_at old.conditions.start derived) group)
    × (after ≡ before ++ v ∷ [])))
    ⊎ ((AreShut old group → ⊥) × HasOpenedAll group old new × (after ≡ before))

-- None of these positions is open, and they lead to none but these.
abbrev pub AreShutIn : System → List ℕ → Type 0
AreShutIn s positions = (m : ℕ) → Among m positions →
    (is_open_at s.open.items m ≡ false) × ((k : ℕ) → Among k (listed_at s.edges.items m) → Among k positions)

-- these are derived of all conditions of the system
abbrev pub AreDerived : System → List Bool → Type 0
AreDerived s derived = (p : ℕ) → (get_or derived p false ≡ true) ↔ Derives (s.heads.items ++ s.conditions.parts.items) p
