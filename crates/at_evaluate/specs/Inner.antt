-- Instances that are evaluated within the one that asks, in one go: what they are told, and what comes to what is kept.
use Rattle.std.specs.Prelude.{◌≡◌, ◌⊎◌, ⊤, ℕ, Bool, true, false, not, List, ◌++◌, Option, Some, None, IsSome, Contains}
use Rattle.std.specs.Map.{lookup}
use Rattle.std.specs.Option.{option_map}
use Rattle.at_model.specs.Run.{Value, Instance, Location, Contents, Known}
use Rattle.at_model.specs.Rules.{Rules, is_lazy}
use Rattle.at_evaluate.specs.Meant.{AreCircularWell, AreRightValues}
use Rattle.at_model.specs.Nested.{Evaluates, Tells}
use Rattle.at_store.specs.Shown.{Shown, contents}
use Rattle.at_body.specs.Same.{same_instance}
use Rattle.at_body.specs.Values.{value_view}
use Rattle.at_body.specs.declared.value.Value.{Value as ValueCode}
use Rattle.at_cache.specs.Kept.{Entries}
use Rattle.at_evaluate.specs.declared.direct.Level.{Level}
use Rattle.at_evaluate.specs.Valued.{equations, meaning, kept_values, ArePlain}
use Rattle.at_evaluate.specs.Right.{AreRight, IsThere}
use Rattle.at_evaluate.specs.Sparing.{AddsWorthy, AreSpare, Counts}

-- an instance is evaluated in the one that asks where its attribute isn't lazy
abbrev pub is_inner : Rules → Instance ℕ → Bool
is_inner rules j = not (is_lazy rules j.attribute)

-- the values that are remembered of such instances
abbrev pub remembered : List (Instance ℕ × ValueCode) → Known ℕ
remembered found i = option_map value_view (lookup (same_instance i) found)

-- the value that is kept, or else the one that is remembered
abbrev pub known_by : Entries → List (Instance ℕ × ValueCode) → Known ℕ
known_by entries found i = elim (kept_values entries i) [ Some v ↦ Some v | None ↦ remembered found i ]

-- What is kept and what is remembered holds, and all of it has entries; one without a value is of an attribute that isn't lazy, and so
-- is what is remembered. Circular attributes are lazy.
pub record AreKnown (rules : Rules) (look : Contents ℕ) (entries : Entries) (found : List (Instance ℕ × ValueCode)) : Type 0 where
  pub circular : AreCircularWell rules
  pub right : AreRightValues look (meaning rules) (kept_values entries)
  pub plain : ArePlain rules entries
  pub finds : AreRightValues look (meaning rules) (remembered found)
  pub stands : (i : Instance ℕ) (v : Value ℕ) → remembered found i ≡ Some v → IsSome (entries i)
  pub inner : (i : Instance ℕ) (v : Value ℕ) → remembered found i ≡ Some v → is_lazy rules i.attribute ≡ false

-- what is remembered stays so
abbrev pub StayRemembered : (old new : List (Instance ℕ × ValueCode)) → Type 0
StayRemembered old new = (i : Instance ℕ) (v : Value ℕ) → remembered old i ≡ Some v → remembered new i ≡ Some v

-- the evaluation of i comes to v with inner ones; they and it look at the locations ls and take us of what is known
abbrev pub IsEvaluated : Rules → Contents ℕ → Known ℕ → Instance ℕ → Value ℕ → List (Location ℕ) → List (Instance ℕ) → Type 0
IsEvaluated rules look known i v ls us = (depth : ℕ) × Evaluates look (equations rules) known (is_inner rules) depth (equations rules i) v ls us

-- the demand of j is told v: the known value, for which j itself is taken, or that of its evaluation as an inner one, with what
-- this looks at and takes
abbrev pub IsGiven : Rules → Contents ℕ → Known ℕ → Instance ℕ → Value ℕ → List (Location ℕ) → List (Instance ℕ) → Type 0
IsGiven rules look known j v ls us = (depth : ℕ) × Tells look (equations rules) known (is_inner rules) depth j v ls us

-- The evaluation of a level is told v of j: what was looked at and taken for that stands with it now, behind what stood there.
pub record HasTold (rules : Rules) (look : Contents ℕ) (known : Known ℕ) (old new : Level) (j : Instance ℕ) (v : Value ℕ) : Type 0 where
  pub looks : List (Location ℕ)
  pub takes : List (Instance ℕ)
  pub given : IsGiven rules look known j v looks takes
  pub reads : new.reads ≡ old.reads ++ looks
  pub uses : new.uses.items ≡ old.uses.items ++ takes

-- the known value is told, or nothing has changed
abbrev pub HasRecalled : Rules → Contents ℕ → Known ℕ → (old new : Level) → Instance ℕ → Option ValueCode → Type 0
HasRecalled rules look known old new j None = new ≡ old
HasRecalled rules look known old new j (Some v) = HasTold rules look known old new j (value_view v)

-- What is kept was `old` and is `new` now: what came is worthy of i, and the work counts it; all is right still, and
-- spare where it was. What was remembered is so still.
pub record Gains (rules : Rules) (s : Shown) (i : Instance ℕ) (old new : Entries) (before after : List (Instance ℕ × ValueCode))
    (work later : ℕ) : Type 0 where
  pub worthy : AddsWorthy rules (contents s) i old new
  pub known : AreKnown rules (contents s) new after
  pub still : StayRemembered before after
  pub stays : IsThere s i → AreRight rules s old → AreRight rules s new
  pub spare : AreSpare rules (contents s) old → AreSpare rules (contents s) new
  pub counts : Counts old new work later

-- each of the instances is of a lazy attribute
abbrev pub AreLazy : Rules → List (Instance ℕ) → Type 0
AreLazy rules us = (u : Instance ℕ) → Contains us u → is_lazy rules u.attribute ≡ true

-- there is none, or it is one of these
abbrev pub IsOneOf : (a b : Option (Value ℕ)) → Option ValueCode → Type 0
IsOneOf a b None = ⊤
IsOneOf a b (Some v) = (a ≡ Some (value_view v)) ⊎ (b ≡ Some (value_view v))
