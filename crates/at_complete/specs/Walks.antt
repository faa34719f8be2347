-- Walks over classes, each of which is met once: a mark for each class that was met, and those of them that wait to be looked at.
use Rattle.std.specs.Prelude.{◌≡◌, ℕ, suc, ◌+◌, ◌<◌, ◌⊎◌, Bool, true, false, ◌||◌, ◌&&◌, not, cond, nat_eq, nat_lt, List, [], ◌∷◌, length, get_or}
use Rattle.std.specs.List.{list_any}
use Rattle.at_complete.specs.declared.walk.Walk.{Walk}

abbrev pub is_in : ℕ → List ℕ → Bool
is_in c cs = list_any (nat_eq c) cs

-- the class was met
abbrev pub has_met : List Bool → ℕ → Bool
has_met met c = get_or met c false

-- how many were
abbrev pub met_count : List Bool → ℕ
met_count [] = 0
met_count (b ∷ bs) = cond b (suc (met_count bs)) (met_count bs)

-- from the one state to the other, just those classes that pass the test are met too, and each one waits that wasn't met before
pub record Meets (test : ℕ → Bool) (met after : List Bool) (pending waiting : List ℕ) : Type 0 where
  pub size : length after ≡ length met
  pub met_too : (c : ℕ) → has_met after c ≡ (has_met met c || (nat_lt c (length met) && test c))
  pub waits : (c : ℕ) → is_in c waiting ≡ (is_in c pending || (has_met after c && not (has_met met c)))
  pub count : met_count after + length pending ≡ met_count met + length waiting

-- The walk is over: all classes of the start were met, each class that was met passes the test, and all those are met to which it leads
pub record Walked (n : ℕ) (start : ℕ → Bool) (leads : ℕ → ℕ → Bool) (passes : ℕ → Bool) (Good : ℕ → Type 0) (met : List Bool) : Type 0 where
  pub size : length met ≡ n
  pub good : (c : ℕ) → has_met met c ≡ true → Good c
  pub started : (c : ℕ) → c < n → start c ≡ true → has_met met c ≡ true
  pub passed : (c : ℕ) → has_met met c ≡ true → passes c ≡ true
  pub closed : (c d : ℕ) → has_met met c ≡ true → d < n → leads c d ≡ true → has_met met d ≡ true

-- after so many steps, all that is still to be looked at waits
pub record Walking (n : ℕ) (start : ℕ → Bool) (leads : ℕ → ℕ → Bool) (passes : ℕ → Bool) (Good : ℕ
    → Type 0) (i : ℕ) (met : List Bool) (pending : List ℕ) : Type 0 where
  pub size : length met ≡ n
  pub count : i + length pending ≡ met_count met
  pub known : (c : ℕ) → is_in c pending ≡ true → has_met met c ≡ true
  pub good : (c : ℕ) → has_met met c ≡ true → Good c
  pub started : (c : ℕ) → c < n → start c ≡ true → has_met met c ≡ true
  pub looked : (c : ℕ) → has_met met c ≡ true → (is_in c pending ≡ true) ⊎ ((passes c ≡ true) × ((d : ℕ) → d < n → leads c d ≡ true → has_met met d ≡ true))

-- the same between two states of a walk
abbrev pub MeetsFrom : (ℕ → Bool) → Walk → Walk → Type 0
MeetsFrom test old new = Meets test old.met.items new.met.items old.pending.items new.pending.items
