-- A fact that has one proof at most, so that a value may carry it.
use Rattle.std.specs.Prelude.{◌≡◌, ◌⊎◌, ℕ, Bool, true, List, Option, Some, None}
use Rattle.std.proofs.Common.{ap, sym, ◌∙◌, inl, inr}
use Rattle.std.proofs.Props.{props}
use mathlib.Core.Bool.{Bool-set}
use mathlib.Core.HLevel.{Σ_prop_path}
use Rattle.at_store.specs.Memory.{Info, IsKept, Kept, Place, is_waiting}
use Rattle.at_store.specs.Shown.{IsIdle, Shown}

info_set : IsSet (Option Info)
info_set = Prim.hlevel props

abbrev class_in : Option Info → ℕ
class_in None = 0
class_in (Some i) = i.class

-- a node's class is the one that its memory has
module _ (memory : ℕ → Option Info) (k : ℕ) (place : Place) (cells : List Kept) where
  abbrev of_class : ℕ → Info
  of_class class = record { class = class; up = place.0; index = place.1; cells = cells }

  abbrev kept : (class : ℕ) × (memory k ≡ Some (of_class class)) → IsKept memory k place cells
  kept p = record { class = p.0; is = p.1 }

  pub kept_prop : IsProp (IsKept memory k place cells)
  kept_prop x y =
      let same = ap class_in (sym x.is ∙ y.is) in
      ap kept (Σ_prop_path (λ class. info_set (memory k) (Some (of_class class))) {u = (x.class, x.is)} {v = (y.class, y.is)} same)

-- no tree waits, so a number that is taken is one of the tree
pub covered_prop : (b : Bool) (k : ℕ) → IsProp ((b ≡ true) ⊎ (is_waiting k None ≡ true))
covered_prop b k (inl p) (inl q) = ap inl (Bool-set b true p q)
covered_prop b k (inl p) (inr e) = absurd cc
covered_prop b k (inr e) y = absurd cc

pub idle_prop : (s : Shown) → IsProp (IsIdle s)
idle_prop s = Prim.hlevel (kept_prop, covered_prop, props)
