-- A tree that is planted in an empty memory is kept there, and shown.
use Rattle.std.proofs.Common.{◌≡◌, ℕ, zero, suc, [], get_or, ◌≤◌, Bool, true, false, ◌&&◌, nat_le, Option, Some, None, ◌⊎◌, inl, refl, sym, ap, ◌∙◌, subst, arith, is_some}
use Rattle.std.proofs.lemmas.Bool.Decides.{nat_tests}
use Rattle.at_model.specs.Trees.{Tree, class_of, nodes, depth}
use Rattle.at_model.specs.Edits.{is_within_limits, tokens_short}
use Rattle.at_store.specs.Numbers.{path_in, relabel}
use Rattle.at_store.specs.Memory.{Info, top, Keeps, class_in, place_in, reindexed}
use Rattle.at_store.specs.Planting.{IsPlanted}
use Rattle.at_store.specs.Shown.{Shown, IsIdle, numbers, tree}
use Rattle.slab.specs.Slab.{Slab}
use Rattle.at_store.specs.declared.entry.Entry.{Entry}
use Rattle.at_store.specs.View.{IsUnmarked, info_of, marked, memory_of, stored_of}
use Rattle.at_store.specs.Waiting.{IsBrought}
use Rattle.at_store.proofs.Classes.{shallow_numbers}
use Rattle.at_store.proofs.of_planting.Planted.{planted_waits}
use Rattle.at_store.proofs.of_planting.Growing.{grown_kept}

second : (a b c : Bool) → (a && b && c) ≡ true → b ≡ true
second true true c e = refl
second true false c e = e
second false b c e = absurd cc

at_most : (a b : ℕ) → nat_le a b ≡ true → a ≤ b
at_most a b e = grind (arith, nat_tests)

low : (t : Tree) → is_within_limits t ≡ true → depth t ≤ 512
low t e = at_most (depth t) 512 (second (nat_le (nodes t) _) (nat_le (depth t) 512) (tokens_short t) e)

pub planted_kept : (before after : ℕ → Option Info) (t w : Tree) → ((k : ℕ) → before k ≡ None) → IsPlanted before after top t w → is_within_limits t ≡ true → Keeps after w None
planted_kept before after t w free p limits = record {
  stored = p.stored;
  apart = p.apart;
  waits = tt;
  covered = λ k i e. covered k i e (is_some (path_in k w)) refl;
  shallow = shallow_numbers (class_in after) 512 w (subst (λ x. depth x ≤ 512) (sym p.classes) (low t limits));
}
  where
    covered : (k : ℕ) (i : Info) → after k ≡ Some i → (b : Bool) → is_some (path_in k w) ≡ b → (is_some (path_in k w) ≡ true) ⊎ (false ≡ true)
    covered k i e true there = inl there
    covered k i e false out = let f : Some i ≡ None = sym e ∙ p.rest k out ∙ free k in absurd cc

-- a store with this tree, in which no edit waits
pub record IsLoaded (s : Shown) (t : Tree) : Type 0 where
  pub waiting : s.waiting ≡ None
  pub leaving : s.leaving ≡ None
  pub before : ℕ → Option Info
  pub free : (k : ℕ) → before k ≡ None
  pub planted : (w : Tree) × (class_of w ≡ s.root) × IsPlanted before (memory_of s.slab) top t w
  pub limits : is_within_limits t ≡ true
  pub allowed : nat_le (nodes t) s.limit ≡ true
  pub unmarked : IsUnmarked s.slab

module _ (s : Shown) (t : Tree) (h : IsLoaded s t) where
  abbrev w : Tree
  w = h.planted.0

  kept : Keeps (memory_of s.slab) w None
  kept = planted_kept h.before (memory_of s.slab) t w h.free h.planted.2 h.limits

  grown : numbers s ≡ w
  grown = grown_kept (memory_of s.slab) w s.root kept h.planted.1

  pub loaded_tree : tree s ≡ t
  loaded_tree = ap (relabel (class_in (memory_of s.slab))) grown ∙ h.planted.2.classes

  pub loaded_idle : IsIdle s
  loaded_idle = record {
    waiting = h.waiting;
    leaving = h.leaving;
    keeps = subst (λ x. Keeps (memory_of s.slab) x None) (sym grown) kept;
    limits = ap is_within_limits loaded_tree ∙ h.limits;
    allowed = ap (λ (u : Tree). nat_le (nodes u) s.limit) loaded_tree ∙ h.allowed;
    unmarked = h.unmarked;
  }

none_there : (k : ℕ) (d : Option Entry) → get_or [] k d ≡ d
none_there zero d = refl
none_there (suc k) d = refl

pub empty_memory : (s : Slab Entry) → s.slots ≡ [] → (k : ℕ) → memory_of s k ≡ None
empty_memory s e k = ap (λ xs. reindexed (place_in (stored_of s)) k (info_of (get_or xs k None))) e ∙ ap (λ o. reindexed (place_in (stored_of s)) k (info_of o)) (none_there k None)

pub empty_unmarked : (s : Slab Entry) → s.slots ≡ [] → IsUnmarked s
empty_unmarked s e k = ap (λ xs. marked (get_or xs k None)) e ∙ ap marked (none_there k None)
