-- Numbers of classes, depth first: what a class's interval tells, and what is known while the classes are numbered.
use Rattle.std.specs.Prelude.{◌≡◌, ℕ, ◌<◌, ◌≤◌, ◌↔◌, Bool, true, false, ◌&&◌, nat_eq, nat_le, nat_lt}
use Rattle.std.specs.Prelude.{List, length, get_or, Option, Some}
use Rattle.std.specs.List.{list_any}
use Rattle.at_model.specs.Classes.{Classes, chain_within, is_sub}
use Rattle.at_model.specs.WellFormed.{IsHierarchy}
use Rattle.at_class.specs.Ways.{AreLed}
use Rattle.at_class.specs.declared.intervals.Interval.{Interval}
use Rattle.at_class.specs.declared.intervals.Numbering.{Numbering}

abbrev pub is_empty : Interval → Bool
is_empty i = nat_le i.end i.first

abbrev pub has : Interval → ℕ → Bool
has i n = nat_le i.first n && nat_lt n i.end

abbrev pub empty : Interval
empty = record { first = 0; end = 0 }

-- a number that no class has has no interval
abbrev pub interval_at : List Interval → ℕ → Interval
interval_at intervals c = get_or intervals c empty

-- a class with an interval is another one, or below it, just where that one's interval has its number
abbrev pub AreIntervals : Classes → List Interval → Type 0
AreIntervals classes intervals = (c b : ℕ) → is_empty (interval_at intervals c) ≡ false
    → is_sub classes c b ≡ has (interval_at intervals b) (interval_at intervals c).first

-- the class stands on the way up from there
abbrev pub IsOn : Classes → ℕ → Option ℕ → Type 0
IsOn classes b from = list_any (nat_eq b) (chain_within (length classes) classes from) ≡ true

abbrev pub Has : Interval → ℕ → Type 0
Has i n = (i.first ≤ n) × (n < i.end)

-- it isn't closed: it ends behind all numbers
abbrev pub IsOpen : ℕ → Interval → Type 0
IsOpen end i = (i.first < end) × (end ≤ i.end)

-- the numbers below `next` were given, and all will be below `end`; the intervals that are open are those of the lowest class and
-- of the classes above it
pub record AreNumbered (classes : Classes) (end next : ℕ) (at : ℕ → Interval) (lowest : Option ℕ) : Type 0 where
  pub hierarchy : IsHierarchy classes
  pub led : AreLed classes
  pub given : (c : ℕ) → (at c).first < (at c).end → (at c).first < next
  pub closed : (c : ℕ) → (at c).end < end → (at c).end ≤ next
  pub rising : (b : ℕ) → IsOn classes b lowest ↔ IsOpen end (at b)
  pub right : (c b : ℕ) → (at c).first < (at c).end → IsOn classes b (Some c) ↔ Has (at b) (at c).first

abbrev pub IsNumbering : Classes → ℕ → Numbering → Type 0
IsNumbering classes next k = AreNumbered classes k.end next (interval_at k.intervals.items) k.lowest
