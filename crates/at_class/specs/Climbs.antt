-- What is known of classes while those are looked for that are above themselves: a mark for each class, and a way up.
use Rattle.std.specs.Prelude.{◌≡◌, ℕ, suc, ◌+◌, ◌≤◌, ◌⊎◌, Bool, true, false, ◌||◌, cond, nat_eq, List, [], ◌∷◌, length, get_or, Option, Some}
use Rattle.std.specs.List.{list_any, list_all}
use Rattle.at_model.specs.Classes.{Classes, parent_of, chain_within}
use Rattle.at_model.specs.Declarations.{above}
use Rattle.at_class.specs.declared.circles.Mark.{Mark}
use Rattle.at_class.specs.declared.circles.Mark.TheVariants.{Unmet, OnWay, Clear, Circular}
use Rattle.at_class.specs.declared.circles.Circles.{Circles}

abbrev pub is_above_itself : Classes → ℕ → Bool
is_above_itself classes c = list_any (nat_eq c) (above classes c)

-- a number that no class has isn't above itself
abbrev pub mark_at : List Mark → ℕ → Mark
mark_at marks c = get_or marks c Clear

abbrev pub is_met : Mark → Bool
is_met Unmet = false
is_met OnWay = true
is_met Clear = true
is_met Circular = true

abbrev pub is_settled : Mark → Bool
is_settled Unmet = false
is_settled OnWay = false
is_settled Clear = true
is_settled Circular = true

abbrev pub is_circular : Mark → Bool
is_circular Unmet = false
is_circular OnWay = false
is_circular Clear = false
is_circular Circular = true

-- how many fail the test
abbrev pub left_by : (Mark → Bool) → List Mark → ℕ
left_by test [] = 0
left_by test (m ∷ ms) = cond (test m) (left_by test ms) (suc (left_by test ms))

-- each of these is the superclass of the one before it; the way up goes from the one to the other
abbrev pub Leads : Classes → Option ℕ → List ℕ → Option ℕ → Type 0
Leads classes from [] to = from ≡ to
Leads classes from (c ∷ cs) to = (from ≡ Some c) × Leads classes (parent_of classes c) cs to

-- the class is settled, if there is one
abbrev pub IsSettledAt : List Mark → Option ℕ → Type 0
IsSettledAt marks next = (b : ℕ) → next ≡ Some b → is_settled (mark_at marks b) ≡ true

-- what is settled is right, and all above it is settled; what is met is settled or on the way
pub record IsMarked (classes : Classes) (marks : List Mark) (way : List ℕ) : Type 0 where
  pub count : length marks ≡ length classes
  pub met : (c : ℕ) → is_met (mark_at marks c) ≡ true → (is_settled (mark_at marks c) || list_any (nat_eq c) way) ≡ true
  pub closed : (c : ℕ) → is_settled (mark_at marks c) ≡ true → IsSettledAt marks (parent_of classes c)
  pub right : (c : ℕ) → is_settled (mark_at marks c) ≡ true → is_circular (mark_at marks c) ≡ is_above_itself classes c

-- between two ways
abbrev pub IsResting : Classes → Circles → Type 0
IsResting classes k = IsMarked classes k.marks.items [] × (k.way.items ≡ [])

-- the way up from the class, which goes on there
pub record Climbing (classes : Classes) (from : ℕ) (marks : List Mark) (way : List ℕ) (next : Option ℕ) : Type 0 where
  pub marked : IsMarked classes marks way
  pub leads : Leads classes (Some from) way next
  pub room : length way + left_by is_met marks ≤ length classes
  pub begun : (next ≡ Some from) ⊎ (is_met (mark_at marks from) ≡ true)

-- it ends where there is no superclass, or at one that is met
pub record Climbed (classes : Classes) (from : ℕ) (marks : List Mark) (way : List ℕ) (end : Option ℕ) : Type 0 where
  pub marked : IsMarked classes marks way
  pub leads : Leads classes (Some from) way end
  pub room : length way ≤ length classes
  pub begun : is_met (mark_at marks from) ≡ true
  pub ends : (b : ℕ) → end ≡ Some b → is_met (mark_at marks b) ≡ true

-- the circle is gone round, up to there; the class there, and all above it, are above themselves, if it isn't settled
pub record GoingRound (classes : Classes) (from : ℕ) (marks : List Mark) (way : List ℕ) (end next : Option ℕ) : Type 0 where
  pub count : length marks ≡ length classes
  pub met : (c : ℕ) → is_met (mark_at marks c) ≡ true → (is_settled (mark_at marks c) || list_any (nat_eq c) way) ≡ true
  pub closed : (c b : ℕ) → is_settled (mark_at marks c) ≡ true → parent_of classes c ≡ Some b → (is_settled (mark_at marks b) ≡ true) ⊎ (next ≡ Some b)
  pub right : (c : ℕ) → is_settled (mark_at marks c) ≡ true → is_circular (mark_at marks c) ≡ is_above_itself classes c
  pub round : (b : ℕ) → next ≡ Some b → (is_settled (mark_at marks b) ≡ true)
      ⊎ ((m : ℕ) → list_all (is_above_itself classes) (chain_within m classes (Some b)) ≡ true)
  pub ended : (b : ℕ) → end ≡ Some b → (is_settled (mark_at marks b) ≡ true) ⊎ (next ≡ Some b)
  pub leads : Leads classes (Some from) way end
  pub begun : is_met (mark_at marks from) ≡ true

-- what is left of the way ends at what is settled, or where there is no superclass
pub record Descending (classes : Classes) (from : ℕ) (marks : List Mark) (way : List ℕ) : Type 0 where
  pub marked : IsMarked classes marks way
  pub end : Option ℕ
  pub leads : Leads classes (Some from) way end
  pub ends : IsSettledAt marks end
  pub begun : is_met (mark_at marks from) ≡ true
