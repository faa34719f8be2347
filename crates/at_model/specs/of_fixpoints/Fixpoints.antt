-- Outcomes where attributes are circular: the least fixpoint of those that start from false, the greatest of those that start
-- from true (Magnusson and Hedin 2007, "Circular reference attributed grammars"), as what a finite derivation gives.
use Rattle.std.specs.Prelude.{◌≡◌, ◌⊎◌, ℕ, zero, suc, Bool, true, false, not, List, [], ◌∷◌, ◌++◌, Option, Some, None}
use Rattle.at_model.specs.Run.{Value, Truth, Instance, Contents, FaultKind, Run, Gives, Fails, Looks, Demands}
use Rattle.at_model.specs.Meaning.{Outcome, Finds, Faults, Among}
use Rattle.at_model.specs.of_fixpoints.Formulas.{Formula, Known, Asks, Both, Either, atoms, Forms}

-- how an evaluation ends: with what it gives, or with the fault of an instance
pub data End (N : Type 0) (A : Type 0) : Type 0 where
  Made : A → End N A
  Spoilt : FaultKind → Instance N → End N A

-- the evaluation of i ends so, where each demand has such an outcome
abbrev pub Ends : {N A : Type 0} → Contents N → (Instance N → Outcome N → Type 0) → Instance N → Run N A → End N A → Type 0
Ends look Has i (Gives a) e = Made a ≡ e
Ends look Has i (Fails f) e = Spoilt f i ≡ e
Ends look Has i (Looks l k) e = Ends look Has i (k (look l)) e
Ends {N} look Has i (Demands j k) e =
    ((v : Value N) × Has j (Finds v) × Ends look Has i (k v) e)
    ⊎ ((f : FaultKind) × (at : Instance N) × Has j (Faults f at) × (Spoilt f at ≡ e))

-- formulas lead from one instance to another, in any number of steps
pub data LeadsOver {N : Type 0} (has : Instance N → End N (Formula N) → Type 0) : Instance N → Instance N → Type 0 where
  stays : (i : Instance N) → LeadsOver has i i
  goes : (i j k : Instance N) (f : Formula N) → has i (Made f) → Among j (atoms f) → LeadsOver has j k → LeadsOver has i k

-- each instance to which formulas lead from this one has a formula
abbrev pub AreFormed : {N : Type 0} → (Instance N → End N (Formula N) → Type 0) → Instance N → Type 0
AreFormed {N} has i = (j : Instance N) → LeadsOver has i j → (f : Formula N) × has j (Made f)

-- the equation of each of them ends
abbrev pub AreEnded : {N : Type 0} → (Instance N → End N (Formula N) → Type 0) → Instance N → Type 0
AreEnded {N} has i = (j : Instance N) → LeadsOver has i j → (e : End N (Formula N)) × has j e

-- A search, depth first, meets a fault: of those to do each that was not seen, its own equation first, then the instances of
-- its formula. The first that has no formula for a fault ends it.
pub data Meets {N : Type 0} (has : Instance N → End N (Formula N) → Type 0) :
    (seen todo : List (Instance N)) → FaultKind → Instance N → Type 0 where
  again : (i : Instance N) {seen todo : List (Instance N)} {k : FaultKind} {at : Instance N} →
      Among i seen → Meets has seen todo k at → Meets has seen (i ∷ todo) k at
  formed : (i : Instance N) (f : Formula N) {seen todo : List (Instance N)} {k : FaultKind} {at : Instance N} →
      (¬ (Among i seen)) → has i (Made f) → Meets has (i ∷ seen) (atoms f ++ todo) k at → Meets has seen (i ∷ todo) k at
  spoilt : (i : Instance N) {seen todo : List (Instance N)} {k : FaultKind} {at : Instance N} →
      (¬ (Among i seen)) → has i (Spoilt k at) → Meets has seen (i ∷ todo) k at

-- the formula leaves the start value: a finite derivation from the formulas of instances gives the other one
pub data Leaves {N : Type 0} (has : Instance N → Formula N → Type 0) : (start : Bool) → Formula N → Type 0 where
  known : (b : Bool) → Leaves has b (Known (Truth (not b)))
  asks : (b : Bool) (i : Instance N) (f : Formula N) → has i f → Leaves has b f → Leaves has b (Asks i)
  true_both : {f g : Formula N} → Leaves has false f → Leaves has false g → Leaves has false (Both f g)
  true_left : {f g : Formula N} → Leaves has false f → Leaves has false (Either f g)
  true_right : {f g : Formula N} → Leaves has false g → Leaves has false (Either f g)
  false_left : {f g : Formula N} → Leaves has true f → Leaves has true (Both f g)
  false_right : {f g : Formula N} → Leaves has true g → Leaves has true (Both f g)
  false_both : {f g : Formula N} → Leaves has true f → Leaves has true g → Leaves has true (Either f g)

-- the value of such an instance: by the fixpoint where it is circular, else its own
abbrev pub Valued : {N : Type 0} → (Instance N → Formula N → Type 0) → Option Bool → Instance N → Value N → Type 0
Valued has None i v = has i (Known v)
Valued has (Some b) i v =
    (Leaves has b (Asks i) × (v ≡ Truth (not b))) ⊎ ((¬ (Leaves has b (Asks i))) × (v ≡ Truth b))

-- the outcome of an instance, where equations end so
abbrev pub HoldsOver : {N : Type 0} → (Instance N → End N (Formula N) → Type 0) → Option Bool → Instance N → Outcome N → Type 0
HoldsOver has start i (Finds v) = AreFormed has i × Valued (λ j f. has j (Made f)) start i v
HoldsOver has start i (Faults k at) = AreEnded has i × Meets has [] (i ∷ []) k at

-- the outcome of an instance, by demands that are nested less than this deep
abbrev pub HoldsAt : {N : Type 0} → Contents N → Forms N → ℕ → Instance N → Outcome N → Type 0
HoldsAt look forms zero i o = ⊥
HoldsAt look forms (suc n) i o =
    HoldsOver (λ j e. Ends look (HoldsAt look forms n) j (forms.formula j) e) (forms.starts i.attribute) i o

-- how the equation of each instance ends, by demands that are nested less than this deep
abbrev pub EndsAt : {N : Type 0} → Contents N → Forms N → ℕ → Instance N → End N (Formula N) → Type 0
EndsAt look forms n i e = Ends look (HoldsAt look forms n) i (forms.formula i) e

-- the instance has the outcome
abbrev pub Holds : {N : Type 0} → Contents N → Forms N → Instance N → Outcome N → Type 0
Holds look forms i o = (n : ℕ) × HoldsAt look forms n i o

-- the instance has the value
abbrev pub HasValue : {N : Type 0} → Contents N → Forms N → Instance N → Value N → Type 0
HasValue look forms i v = Holds look forms i (Finds v)

-- how the equation of the instance ends
abbrev pub EndsSo : {N : Type 0} → Contents N → Forms N → Instance N → End N (Formula N) → Type 0
EndsSo look forms i e = (n : ℕ) × EndsAt look forms n i e

-- the equation of the instance has the formula
abbrev pub HasForm : {N : Type 0} → Contents N → Forms N → Instance N → Formula N → Type 0
HasForm look forms i f = EndsSo look forms i (Made f)
