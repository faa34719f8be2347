-- What is kept stays right over an edit that is done, where it stands for no location that the edit touches.
use Rattle.std.proofs.Common.{◌≡◌, ℕ, true, false, Bool, Some, Ok, sym, ap, ◌∙◌, subst}
use Rattle.at_model.specs.Trees.{Tree, conforms}
use Rattle.at_model.specs.Paths.{Node}
use Rattle.at_model.specs.Run.{Instance, Location}
use Rattle.at_model.specs.Rules.{Rules}
use Rattle.at_model.specs.Classes.{Classes}
use Rattle.at_model.specs.of_fixpoints.Resting.{Supports}
use Rattle.at_model.specs.Alike.{LocationLike, Names}
use Rattle.at_model.specs.Edits.{Edit, edited, left_by}
use Rattle.at_model.specs.Touches.{touches_in}
use Rattle.at_model.proofs.of_edits.Conforming.{accepted}
use Rattle.at_store.specs.Memory.{class_in}
use Rattle.at_store.specs.View.{memory_of}
use Rattle.at_store.specs.Shown.{Shown, IsIdle, contents, numbers, path, tree}
use Rattle.at_store.specs.Preparing.{IsCommitted}
use Rattle.at_store.proofs.Found.{path_injective}
use Rattle.at_store.proofs.Reading.{shown_there}
use Rattle.at_store.proofs.Relabelled.{contents_alike}
use Rattle.at_cache.specs.Kept.{Kept, Entries, LeavesUntouched, value_at}
use Rattle.at_evaluate.specs.Valued.{meaning, kept_values}
use Rattle.at_evaluate.specs.Right.{AreRight, IsValued}
use Rattle.at_evaluate.proofs.Entered.{entered, is_there, there as is_entry}
use Rattle.at_demand.proofs.of_keeping.Staying.{IsOver, there_later, value_later, support_before}

-- what an accepted edit leaves is the tree that it is said to leave
left_is : (classes : Classes) (t : Tree) (e : Edit) (u : Tree) → edited classes t e ≡ Ok u → left_by t e ≡ u
left_is classes t e u is = (accepted classes t e u is).left

module _ (rules : Rules) (old new : Shown) (e : Edit) (t : Tree) (idle : IsIdle old) (ok : conforms rules.classes (tree old) 0 ≡ true) (accepted : edited rules.classes (tree old) e ≡ Ok t) (done : IsCommitted old e new) where
  pub over : IsOver rules.classes e (tree old) (tree new) (path old) (path new) (contents old) (contents new)
  over = record {
    conforming = ok;
    accepted = subst (λ u. edited rules.classes (tree old) e ≡ Ok u) (sym (left_is rules.classes (tree old) e t accepted) ∙ sym done.tree_is) accepted;
    there = λ k n p. let (u, is, number, found) = shown_there old k n p in (_, found);
    apart = path_injective (numbers new);
    goes = done.paths;
    shown = contents_alike (class_in (memory_of old.slab)) (numbers old) idle.keeps.apart;
    shown_later = contents_alike (class_in (memory_of new.slab)) (numbers new) done.idle.keeps.apart;
  }

  module _ (says : Location ℕ → Bool → Type 0)
      (true_to : (l : Location ℕ) (m : Location Node) → says l false → LocationLike (Names (path old)) l m
      → touches_in (tree old) e m ≡ false)
      (before later : Entries) (right : AreRight rules old before) (leaves : LeavesUntouched says before later) where
    -- an entry that is left
    module _ (i : Instance ℕ) (k : Kept) (left : later i ≡ Some k) where
      was : before i ≡ Some k
      was = (leaves i k left).0

      free : (l : Location ℕ) → Supports (contents old) (meaning rules) l i → (m : Location Node)
          → LocationLike (Names (path old)) l m → touches_in (tree old) e m ≡ false
      free l rests m like = true_to l m ((leaves i k left).1 l (right.covers i k was l rests)) like

      had : IsValued rules old i
      had = right.valued i k was

    pub kept_right : AreRight rules new later
    kept_right = record {
      values = λ i v kept. let (k, left) = is_entry (later i) (entered later i (is_there (kept_values later i) v kept)) in
          let (j, like) = right.there i k (was i k left) in
          value_later rules over i j like (free i k left) v (right.values i v (ap value_at (was i k left ∙ sym left) ∙ kept));
      valued = λ i k left. let (v, has) = had i k left in let (j, like) = right.there i k (was i k left) in (v, value_later rules over i j like (free i k left) v has);
      there = λ i k left. let (j, like) = right.there i k (was i k left) in there_later rules over i j like (free i k left);
      covers = λ i k left l rests. let (j, like) = right.there i k (was i k left) in
          let (v, has) = had i k left in right.covers i k (was i k left) l (support_before rules over i j like (free i k left) v has l rests);
      plain = λ i k left none. right.plain i k (was i k left) none;
    }
