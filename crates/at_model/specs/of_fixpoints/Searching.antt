-- A question of circular attributes that is given turns: a search, level by level of strict demands; how far it has come, and what
-- one turn may do. Where no attribute is circular each level has one instance, and the levels are the chain of `Turning`.
use Rattle.std.specs.Prelude.{◌≡◌, ◌⊎◌, ℕ, suc, ◌+◌, ◌*◌, List, [], ◌∷◌, ◌++◌, length, Option, Some, None}
use Rattle.at_model.specs.Run.{Value, Instance, Contents, FaultKind, Known}
use Rattle.at_model.specs.Meaning.{Outcome, Finds, Faults, Among, Reaches, Answer, Outcomes, Circle}
use Rattle.at_model.specs.of_fixpoints.Formulas.{Formula, atoms, Forms}
use Rattle.at_model.specs.of_fixpoints.Fixpoints.{End, Made, Spoilt, LeadsOver, Holds, HasValue, EndsSo}
use Rattle.at_model.specs.of_fixpoints.Circles.{HasNone, IsOpen}
use Rattle.at_model.specs.of_fixpoints.Resting.{Comes}

-- A level: what is demanded, the instances that were looked at, the one whose equation is tried, and those to be looked at behind it.
pub record Level (N : Type 0) : Type 0 where
  pub root : Instance N
  pub seen : List (Instance N)
  pub next : Instance N
  pub todo : List (Instance N)

-- the level of a demand, as it begins
abbrev pub begun : {N : Type 0} → Instance N → Level N
begun i = record { root = i; seen = []; next = i; todo = [] }

-- all that levels look at, or have looked at, from the nearest level down
abbrev pub under : {N : Type 0} → List (Level N) → List (Instance N)
under [] = []
under (l ∷ ls) = l.next ∷ (l.seen ++ under ls)

-- How far a question has come: its last level, and those below, the nearest first. The instances whose equations have ended, and
-- the outcomes that were found.
pub record Search (N : Type 0) : Type 0 where
  pub last : Level N
  pub below : List (Level N)
  pub ended : List (Instance N)
  pub told : List (Instance N × Outcome N)

-- the question as it is posted
abbrev pub posted : {N : Type 0} → Instance N → Search N
posted q = record { last = begun q; below = []; ended = []; told = [] }

-- what is demanded at the lowest level: what was asked
abbrev pub root_of : {N : Type 0} → Instance N → List (Level N) → Instance N
root_of root [] = root
root_of root (l ∷ ls) = root_of l.root ls

abbrev pub asked : {N : Type 0} → Search N → Instance N
asked s = root_of s.last.root s.below

-- its value is kept, or was found
abbrev pub IsValued : {N : Type 0} → Known N → List (Instance N × Outcome N) → Instance N → Type 0
IsValued {N} kept told i = (v : Value N) × ((kept i ≡ Some v) ⊎ Among (i, Finds v) told)

-- the first one of those to do for which this doesn't hold, and those behind it
pub data First {A : Type 0} (Done : A → Type 0) : List A → A → List A → Type 0 where
  this : (a : A) (rest : List A) → (¬ (Done a)) → First Done (a ∷ rest) a rest
  passes : (a : A) {todo : List A} {b : A} {rest : List A} → Done a → First Done todo b rest → First Done (a ∷ todo) b rest

-- it holds for all of them
abbrev pub AreAll : {A : Type 0} → (A → Type 0) → List A → Type 0
AreAll {A} Done todo = (a : A) → Among a todo → Done a

-- what the formula of an equation leads to
abbrev pub asked_in : {N : Type 0} → End N (Formula N) → List (Instance N)
asked_in (Made f) = atoms f
asked_in (Spoilt k at) = []

-- A question between two tries: what is demanded at its last level, those that were looked at there, and those to be looked at; the
-- levels below; the instances whose equations have ended; the outcomes that were found.
pub record Looked (N : Type 0) : Type 0 where
  pub root : Instance N
  pub seen : List (Instance N)
  pub todo : List (Instance N)
  pub below : List (Level N)
  pub ended : List (Instance N)
  pub told : List (Instance N × Outcome N)

-- it was seen at the last level, or has a value that is known
abbrev pub IsPassed : {N : Type 0} → Known N → Looked N → Instance N → Type 0
IsPassed kept s i = Among i s.seen ⊎ IsValued kept s.told i

-- the question behind the try of the last level's next one, which has ended so
abbrev pub behind : {N : Type 0} → Search N → End N (Formula N) → Looked N
behind s e = record {
  root = s.last.root;
  seen = s.last.next ∷ s.last.seen;
  todo = asked_in e ++ s.last.todo;
  below = s.below;
  ended = s.last.next ∷ s.ended;
  told = s.told;
}

-- the question where the last level's next one is passed
abbrev pub past : {N : Type 0} → Search N → Looked N
past s = record {
  root = s.last.root;
  seen = s.last.seen;
  todo = s.last.todo;
  below = s.below;
  ended = s.last.next ∷ s.ended;
  told = s.told;
}

-- the question at an instance of the last level, with those behind it
abbrev pub gone_to : {N : Type 0} → Looked N → Instance N → List (Instance N) → Search N
gone_to s i rest = record {
  last = record { root = s.root; seen = s.seen; next = i; todo = rest };
  below = s.below;
  ended = s.ended;
  told = s.told;
}

-- the question past that instance, whose equation ended so before
abbrev pub gone_over : {N : Type 0} → Looked N → Instance N → List (Instance N) → End N (Formula N) → Looked N
gone_over s i rest e = record s { seen = i ∷ s.seen; todo = asked_in e ++ rest }

-- the question at the level below the last one, with these outcomes
abbrev pub fallen_to : {N : Type 0} → Looked N → Level N → List (Level N) → List (Instance N × Outcome N) → Search N
fallen_to s l ls told = record { last = l; below = ls; ended = s.ended; told = told }

-- all to which those that were seen at the last level lead is known, or was seen there
abbrev pub IsReady : {N : Type 0} → Contents N → Forms N → Known N → Looked N → Type 0
IsReady {N} look forms kept s = (i j : Instance N) → Among i s.seen → Comes look forms i j → IsPassed kept s j

-- What the second list has beside the first one are outcomes of these.
pub record Adds {N : Type 0} (look : Contents N) (forms : Forms N) (these : List (Instance N))
    (told more : List (Instance N × Outcome N)) : Type 0 where
  pub stays : (i : Instance N) (o : Outcome N) → Among (i, o) told → Among (i, o) more
  pub holds : (i : Instance N) (o : Outcome N) → Among (i, o) more → Among (i, o) told ⊎ (Among i these × Holds look forms i o)

-- the equation of one to which formulas lead from i demands k
pub record Wants {N : Type 0} (look : Contents N) (forms : Forms N) (i k : Instance N) : Type 0 where
  pub by : Instance N
  pub led : LeadsOver (EndsSo look forms) i by
  pub demands : Reaches look (HasValue look forms) (forms.formula by) k

-- what it wants has no outcome, so it has none
abbrev pub IsStuck : {N : Type 0} → Contents N → Forms N → Instance N → Type 0
IsStuck {N} look forms i = (k : Instance N) × Wants look forms i k × HasNone look forms k

-- What becomes of a question between two tries: it goes to the first of those to do that isn't passed, over those whose equations
-- have ended already; or that is under way at a lower level and has no outcome, and closes a circle. Where all are passed the level
-- goes, with its outcome, which is the question's, or is told to the level below. What is whole of the levels may be told in between.
pub data Follows {N : Type 0} (look : Contents N) (forms : Forms N) (kept : Known N) :
    Looked N → Search N → Option (Answer N) → Type 0 where
  goes_to : {s : Looked N} {i : Instance N} {rest : List (Instance N)} → First (IsPassed kept s) s.todo i rest →
      (¬ (IsOpen look forms (under s.below) i)) → (¬ (Among i s.ended)) → Follows look forms kept s (gone_to s i rest) None
  goes_over : {s : Looked N} {new : Search N} {i : Instance N} {rest : List (Instance N)} {o : Option (Answer N)}
      (e : End N (Formula N)) → First (IsPassed kept s) s.todo i rest → (¬ (IsOpen look forms (under s.below) i)) →
      Among i s.ended → EndsSo look forms i e → Follows look forms kept (gone_over s i rest e) new o →
      Follows look forms kept s new o
  comes_back : {s : Looked N} {i : Instance N} {rest : List (Instance N)} → First (IsPassed kept s) s.todo i rest →
      Among i (under s.below) → IsStuck look forms i → Follows look forms kept s (gone_to s i rest) (Some (Circle i))
  has_found : {s : Looked N} (new : Search N) (v : Value N) → AreAll (IsPassed kept s) s.todo → s.below ≡ [] →
      HasValue look forms s.root v → IsReady look forms kept s → Follows look forms kept s new (Some (Outcomes (Finds v)))
  has_failed : {s : Looked N} (new : Search N) (k : FaultKind) (at : Instance N) → AreAll (IsPassed kept s) s.todo →
      s.below ≡ [] → Holds look forms s.root (Faults k at) → Follows look forms kept s new (Some (Outcomes (Faults k at)))
  finds : {s : Looked N} (l : Level N) (ls : List (Level N)) (v : Value N) (told : List (Instance N × Outcome N)) →
      AreAll (IsPassed kept s) s.todo → s.below ≡ l ∷ ls → HasValue look forms s.root v → IsReady look forms kept s →
      Adds look forms s.seen s.told told → Among (s.root, Finds v) told → Follows look forms kept s (fallen_to s l ls told) None
  faults : {s : Looked N} {new : Search N} {o : Option (Answer N)} (l : Level N) (ls : List (Level N)) (k : FaultKind)
      (at : Instance N) → AreAll (IsPassed kept s) s.todo → s.below ≡ l ∷ ls → Holds look forms s.root (Faults k at) →
      Follows look forms kept (behind (fallen_to s l ls ((s.root, Faults k at) ∷ s.told)) (Spoilt k at)) new o →
      Follows look forms kept s new o
  tells : {s : Looked N} {new : Search N} {o : Option (Answer N)} (told : List (Instance N × Outcome N)) →
      Adds look forms (s.seen ++ under s.below) s.told told → Follows look forms kept (record s { told = told }) new o →
      Follows look forms kept s new o

-- One turn, where these values are kept: the question's own is kept; or the equation of the last level's next one is tried. It ends,
-- and the question follows; or it demands one that is under way and has no outcome, or one that isn't known, at a level of its own.
-- Where the next one is kept since, no equation is tried. What is whole of the levels may be told in between.
pub data Turned {N : Type 0} (look : Contents N) (forms : Forms N) (kept : Known N) : (s new : Search N) →
    Option (Answer N) → Type 0 where
  is_kept : {s : Search N} (v : Value N) → kept (asked s) ≡ Some v → HasValue look forms (asked s) v →
      Turned look forms kept s s (Some (Outcomes (Finds v)))
  passed : {s new : Search N} {o : Option (Answer N)} (v : Value N) → kept s.last.next ≡ Some v →
      Follows look forms kept (past s) new o → Turned look forms kept s new o
  ends : {s new : Search N} {o : Option (Answer N)} (e : End N (Formula N)) → EndsSo look forms s.last.next e →
      Follows look forms kept (behind s e) new o → Turned look forms kept s new o
  closes : {s : Search N} (j : Instance N) → Reaches look (HasValue look forms) (forms.formula s.last.next) j →
      IsOpen look forms (under (s.last ∷ s.below)) j → Turned look forms kept s s (Some (Circle j))
  deepens : {s : Search N} (j : Instance N) → Reaches look (HasValue look forms) (forms.formula s.last.next) j →
      (¬ (Among j (under (s.last ∷ s.below)))) → (¬ (IsValued kept s.told j)) → (¬ (Among j s.ended)) →
      Turned look forms kept s (record s { last = begun j; below = s.last ∷ s.below }) None
  settles : {s new : Search N} {o : Option (Answer N)} (told : List (Instance N × Outcome N)) →
      Adds look forms (under (s.last ∷ s.below)) s.told told → Turned look forms kept (record s { told = told }) new o →
      Turned look forms kept s new o

-- so many turns without an answer, whatever is kept at each of them
pub data Silent {N : Type 0} (look : Contents N) (forms : Forms N) : ℕ → Search N → Search N → Type 0 where
  none : (s : Search N) → Silent look forms 0 s s
  one_more : {n : ℕ} {s mid new : Search N} (kept : Known N) →
      ((i : Instance N) (v : Value N) → kept i ≡ Some v → HasValue look forms i v) → Silent look forms n s mid →
      Turned look forms kept mid new None → Silent look forms (suc n) s new

-- how many they can be: two for each equation that has ended, and one for each level that waits
abbrev pub most_turns : {N : Type 0} → Search N → ℕ
most_turns s = 2 * length s.ended + length s.below
