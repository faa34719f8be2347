-- What is true of a question's search on its tree.
use Rattle.std.specs.Prelude.{◌≡◌, ◌⊎◌, List, [], ◌∷◌, ◌++◌}
use Rattle.at_model.specs.Run.{Instance, Contents, FaultKind}
use Rattle.at_model.specs.Meaning.{Outcome, Among, Distinct, Reaches}
use Rattle.at_model.specs.of_fixpoints.Formulas.{Formula, atoms, Forms}
use Rattle.at_model.specs.of_fixpoints.Fixpoints.{End, Made, Spoilt, LeadsOver, Meets, Holds, HasValue, EndsSo}
use Rattle.at_model.specs.of_fixpoints.Circles.{IsOpen, Closes}
use Rattle.at_model.specs.of_fixpoints.Resting.{Leads}
use Rattle.at_model.specs.of_fixpoints.Searching.{Level, Search, asked, asked_in, under}

-- the equation gives a formula
abbrev pub IsMade : {N : Type 0} → End N (Formula N) → Type 0
IsMade (Made f) = Unit {0}
IsMade (Spoilt k at) = ⊥

-- The equation of i ends in such a way, and what its formula leads to is all of this kind.
pub record EndsWell {N : Type 0} (E : Instance N → End N (Formula N) → Type 0) (Good : End N (Formula N) → Type 0)
    (Next : Instance N → Type 0) (i : Instance N) : Type 0 where
  pub end : End N (Formula N)
  pub ends : E i end
  pub good : Good end
  pub next : (k : Instance N) → Among k (asked_in end) → Next k

-- so it is of each of these, and they lead to none but these
abbrev pub AreClosed : {N : Type 0} → (Instance N → End N (Formula N) → Type 0) → (End N (Formula N) → Type 0) →
    List (Instance N) → Type 0
AreClosed {N} E Good W = (i : Instance N) → Among i W → EndsWell E Good (λ k. Among k W) i

-- it is one of such a list
abbrev pub IsClosedIn : {N : Type 0} → (Instance N → End N (Formula N) → Type 0) → (End N (Formula N) → Type 0) →
    Instance N → Type 0
IsClosedIn {N} E Good i = (W : List (Instance N)) × AreClosed E Good W × Among i W

-- it leads by formulas to finitely many, each of which has a formula
abbrev pub IsWhole : {N : Type 0} → Contents N → Forms N → Instance N → Type 0
IsWhole look forms i = IsClosedIn (EndsSo look forms) IsMade i

-- it stands in the list before the other one first does
abbrev pub Before : {A : Type 0} → A → A → List A → Type 0
Before a b [] = ⊥
Before a b (c ∷ cs) = (¬ (c ≡ b)) × ((a ≡ c) ⊎ Before a b cs)

-- equations of these alone
abbrev pub Within : {N : Type 0} → (Instance N → End N (Formula N) → Type 0) → List (Instance N) → Instance N →
    End N (Formula N) → Type 0
Within E seen i e = Among i seen × E i e

-- What was seen leads to nothing but what is whole, was seen, or is to do; and where one of its formula is left to do, it leads to all
-- that is to be done before that.
pub record IsInOrder {N : Type 0} (E : Instance N → End N (Formula N) → Type 0) (Whole : Instance N → Type 0)
    (seen todo : List (Instance N)) : Type 0 where
  pub covered : (s u : Instance N) (f : Formula N) → Among s seen → E s (Made f) → Among u (atoms f) →
      Whole u ⊎ (Among u seen ⊎ Among u todo)
  pub leads : (s u : Instance N) (f : Formula N) → Among s seen → E s (Made f) → Among u (atoms f) → Among u todo →
      (¬ (Among u seen)) → (¬ (Whole u)) → (t : Instance N) → Before t u todo → LeadsOver (Within E seen) s t

-- a search from there meets a fault
abbrev pub HasMet : {N : Type 0} → Contents N → Forms N → Instance N → Type 0
HasMet {N} look forms root = (k : FaultKind) × (at : Instance N) × Meets (EndsSo look forms) [] (root ∷ []) k at

-- A search from the root of a level, over those under way below, has seen these, and has these to do: what closes from here closes
-- from the root; it has met a fault, or what is met from here is met from the root. None that was seen is under way below, where
-- that has no outcome.
pub record HasCome {N : Type 0} (look : Contents N) (forms : Forms N) (below : List (Instance N)) (root : Instance N)
    (seen todo : List (Instance N)) : Type 0 where
  pub closes : (j : Instance N) → Closes look forms below seen todo j → Closes look forms below [] (root ∷ []) j
  pub meets : HasMet look forms root
      ⊎ ((k : FaultKind) (at : Instance N) → Meets (EndsSo look forms) seen todo k at → Meets (EndsSo look forms) [] (root ∷ []) k at)
  pub ended : (i : Instance N) → Among i seen → (e : End N (Formula N)) × EndsSo look forms i e
  pub shut : (i : Instance N) → Among i seen → (¬ (IsOpen look forms below i))
  pub order : IsInOrder (EndsSo look forms) (IsWhole look forms) seen todo
  pub led : (i : Instance N) → Among i (seen ++ todo) → LeadsOver (EndsSo look forms) root i

-- the level's search has come so far
abbrev pub IsAt : {N : Type 0} → Contents N → Forms N → List (Instance N) → Level N → Type 0
IsAt look forms below l = HasCome look forms below l.root l.seen (l.next ∷ l.todo) × (¬ (Among l.next l.seen)) × (¬ (IsOpen look forms below l.next))

-- each level is that of a demand of the one below, of what wasn't under way
abbrev pub AreStacked : {N : Type 0} → Contents N → Forms N → Instance N → List (Level N) → Type 0
AreStacked look forms root [] = Unit {0}
AreStacked look forms root (l ∷ ls) = Reaches look (HasValue look forms) (forms.formula l.next) root
    × (¬ (Among root (under (l ∷ ls)))) × IsAt look forms (under ls) l × AreStacked look forms l.root ls

-- formulas lead from it to the next one of one of these levels
pub data LeadsToNext {N : Type 0} (look : Contents N) (forms : Forms N) : List (Level N) → Instance N → Type 0 where
  here : {l : Level N} {ls : List (Level N)} {i : Instance N} → LeadsOver (EndsSo look forms) i l.next →
      LeadsToNext look forms (l ∷ ls) i
  below : {l : Level N} {ls : List (Level N)} {i : Instance N} → LeadsToNext look forms ls i → LeadsToNext look forms (l ∷ ls) i

-- The question q has come so far on this tree: each level's search has, the levels are those of demands, and what was told holds.
pub record IsOn {N : Type 0} (look : Contents N) (forms : Forms N) (q : Instance N) (s : Search N) : Type 0 where
  pub starts : asked s ≡ q
  pub last : IsAt look forms (under s.below) s.last
  pub stacked : AreStacked look forms s.last.root s.below
  pub told : (i : Instance N) (o : Outcome N) → Among (i, o) s.told → Holds look forms i o
  pub ended : (i : Instance N) → Among i s.ended → (e : End N (Formula N)) × EndsSo look forms i e

-- the instances whose equations are tried at these levels
abbrev pub tried_at : {N : Type 0} → List (Level N) → List (Instance N)
tried_at [] = []
tried_at (l ∷ ls) = l.next ∷ tried_at ls

-- No equation is tried twice: those that are tried, and those that have ended, are apart, and what was asked leads to each.
pub record IsFresh {N : Type 0} (look : Contents N) (forms : Forms N) (q : Instance N) (tried ended : List (Instance N)) : Type 0 where
  pub apart : Distinct (tried ++ ended)
  pub led : (i : Instance N) → Among i (tried ++ ended) → Leads look forms q i
