-- A whole tree is freed: the one that stood there, where another comes in its place, or the one that waited.
use Rattle.std.proofs.Common.{◌≡◌, ℕ, Bool, true, false, cond, [], Option, Some, None, ◌⊎◌, inl, inr, refl, sym, ap, ◌∙◌, is_some}
use Rattle.at_model.specs.Trees.{Tree, class_of}
use Rattle.at_model.specs.Paths.{Node, tree_at}
use Rattle.at_model.specs.Edits.{Set, left_by}
use Rattle.at_store.specs.Numbers.{path_in}
use Rattle.at_store.specs.Memory.{Info, Place, top, Stored, Keeps, IsShallow}
use Rattle.at_store.proofs.Found.{named}

freed_none : (b : Bool) (o : Option Info) (i : Info) → cond b None o ≡ Some i → (b ≡ false) × (o ≡ Some i)
freed_none true o i e = absurd cc
freed_none false o i e = (refl, e)

-- a tree stays stored where only numbers are freed that don't stand in it
module _ (memory later : ℕ → Option Info) (x : Tree) (freed : (k : ℕ) → later k ≡ cond (is_some (path_in k x)) None (memory k)) where
  pub stored_still : (place : Place) (s : Tree) → Stored memory place s → ((n : Node) (v : Tree) → tree_at s n ≡ Some v → is_some (path_in (class_of v) x) ≡ false) → Stored later place s
  stored_still place s h out n v is =
      let k = h n v is in
      record { class = k.class; is = freed (class_of v) ∙ ap (λ b. cond b None (memory (class_of v))) (out n v is) ∙ k.is }

  -- the waiting tree takes the place of the root
  pub root_set : (w : Tree) → Keeps memory x (Some w) → IsShallow 512 w → Keeps later (left_by x (Set [] w)) None
  root_set w h shallow = record {
    stored = stored_still top w h.waits.0 out;
    apart = h.waits.1.0;
    waits = tt;
    covered = covered;
    shallow = shallow;
  }
    where
      out : (n : Node) (v : Tree) → tree_at w n ≡ Some v → is_some (path_in (class_of v) x) ≡ false
      out n v is = by_path (path_in (class_of v) x) refl
        where
          by_path : (o : Option Node) → path_in (class_of v) x ≡ o → is_some o ≡ false
          by_path None e = refl
          by_path (Some m) e = let f : Some n ≡ None = sym (named w h.waits.1.0 n v is) ∙ h.waits.1.1 (class_of v) m e in absurd cc

      covered : (k : ℕ) (i : Info) → later k ≡ Some i → (is_some (path_in k w) ≡ true) ⊎ (false ≡ true)
      covered k i e =
          let (outside, was) = freed_none (is_some (path_in k x)) (memory k) i (sym (freed k) ∙ e) in
          elim (h.covered k i was) [
            | inl there ↦ (let f : true ≡ false = sym there ∙ outside in absurd cc)
            | inr there ↦ inl there
          ]

  -- the waiting tree is given up
  pub given_up : (s : Tree) → Keeps memory s (Some x) → Keeps later s None
  given_up s h = record {
    stored = stored_still top s h.stored out;
    apart = h.apart;
    waits = tt;
    covered = covered;
    shallow = h.shallow;
  }
    where
      out : (n : Node) (v : Tree) → tree_at s n ≡ Some v → is_some (path_in (class_of v) x) ≡ false
      out n v is = ap is_some (h.waits.1.1 (class_of v) n (named s h.apart n v is))

      covered : (k : ℕ) (i : Info) → later k ≡ Some i → (is_some (path_in k s) ≡ true) ⊎ (false ≡ true)
      covered k i e =
          let (outside, was) = freed_none (is_some (path_in k x)) (memory k) i (sym (freed k) ∙ e) in
          elim (h.covered k i was) [
            | inl there ↦ inl there
            | inr there ↦ (let f : true ≡ false = sym there ∙ outside in absurd cc)
          ]
