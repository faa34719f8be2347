-- What a class table holds.
use Rattle.std.specs.Prelude.{◌≡◌, ℕ, ◌<◌, Bool, false, List, length, map, drop, get_or, zip, option_map, option_and_then, unwrap_or, String, string_bytes}
use Rattle.std.specs.List.{slice_get}
use Rattle.at_model.specs.Classes.{Classes, Class as ModelClass, AreSound, parts}
use Rattle.at_model.specs.Edits.{is_fixed_part}
use Rattle.at_model.specs.Paths.{ArePartsApart}
use Rattle.at_model.specs.WellFormed.{IsHierarchy}
use Rattle.at_class.specs.declared.class.Class.{Class}
use Rattle.at_class.specs.declared.entry.Entry.{Entry}
use Rattle.at_class.specs.declared.intervals.Interval.{Interval}
use Rattle.at_class.specs.Intervals.{AreIntervals}
use Rattle.at_class.specs.View.{part_view, classes_view}

-- how many components are inherited: as many as the superclass has
abbrev pub inherited_count : List Entry → Entry → ℕ
inherited_count es e = unwrap_or (option_map (λ (above : Entry). length above.parts.items) (option_and_then (slice_get es) e.parent)) 0

-- the class that an entry and its name stand for: its own components are those behind the inherited ones
abbrev pub entry_view : {A : Type 0} → List Entry → String A → Entry → ModelClass
entry_view es name e = record {
  name = string_bytes name;
  is_abstract = e.is_abstract;
  parent = e.parent;
  own = drop (inherited_count es e) (map part_view e.parts.items);
}

abbrev pub table_view : {A : Type 0} → List (String A) → List Entry → Classes
table_view names es = map (λ p. entry_view es p.0 p.1) (zip names es)

-- what is kept of a class: all but its name and, in place of its own components, all of them
pub record IsEntry (classes : Classes) (c : ℕ) (k : Class) (e : Entry) : Type 0 where
  pub is_abstract : e.is_abstract ≡ k.is_abstract
  pub parent : e.parent ≡ k.parent
  pub parts : map part_view e.parts.items ≡ parts classes c

-- these are kept of the first so many classes
pub record AreEntries (ks : List Class) (es : List Entry) (n : ℕ) : Type 0 where
  pub count : length es ≡ n
  pub each : (c : ℕ) (k : Class) (e : Entry) → c < n → IsEntry (classes_view ks) c (get_or ks c k) (get_or es c e)

-- no component is fixed
abbrev pub HasNoneFixed : Classes → Type 0
HasNoneFixed classes = (c part : ℕ) → is_fixed_part classes c part ≡ false

-- there is a name for each entry, each entry has all components of its class, the intervals are those of the classes, the
-- start is the first class, the classes are as a grammar without faults declares them, and where it isn't said that some component is
-- fixed none is
pub record IsTable {A : Type 0} (names : List (String A)) (es : List Entry) (is : List Interval) (start : ℕ) (has_fixed : Bool) : Type 0 where
  pub count : length names ≡ length es
  pub parts : (c : ℕ) (e : Entry) → c < length es → map part_view (get_or es c e).parts.items ≡ parts (table_view names es) c
  pub numbers : AreIntervals (table_view names es) is
  pub first : start ≡ 0
  pub sound : AreSound (table_view names es)
  pub hierarchy : IsHierarchy (table_view names es)
  pub apart : ArePartsApart (table_view names es)
  pub free : has_fixed ≡ false → HasNoneFixed (table_view names es)
