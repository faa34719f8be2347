-- What becomes of an idle store of a conforming tree over an edit that is tried: it is idle again, and its tree conforms.
use Rattle.std.proofs.Common.{◌≡◌, ◌∙◌, true, is_some, sym, subst, Option, None, Some, Ok, refl}
use Rattle.at_model.specs.Classes.{Classes}
use Rattle.at_model.specs.Edits.{Edit as EditOf, edited, left_by}
use Rattle.at_model.specs.Paths.{Node}
use Rattle.at_model.specs.Trees.{Tree, conforms}
use Rattle.at_model.proofs.of_edits.Edited.{accepted_conforms}
use Rattle.at_store.specs.declared.edit.Edit.{Edit}
use Rattle.at_store.specs.declared.edit.Prepared.{Prepared}
use Rattle.at_store.specs.declared.edit.Refusal.{Refusal}
use Rattle.at_store.specs.Checking.{IsAsked, IsRefused}
use Rattle.at_store.specs.Preparing.{Does, IsCancelled, IsCommitted, IsPrepared}
use Rattle.at_store.specs.Refusing.{edit_at, node_of, target_of}
use Rattle.at_store.specs.Shown.{IsIdle, Shown, path, tree}
use Rattle.at_model.proofs.of_edits.Conforming.{accepted}

-- the store is idle, and its tree conforms
abbrev pub Stands : Classes → Shown → Type 0
Stands classes s = IsIdle s × (conforms classes (tree s) 0 ≡ true)

-- what is there has a path
path_there : (o : Option Node) → is_some o ≡ true → (n : Node) × (o ≡ Some n)
path_there None e = absurd cc
path_there (Some n) e = (n, refl)

-- what is left of an accepted edit is what the edit leaves
left_is : (classes : Classes) (t : Tree) (e : EditOf) (u : Tree) → edited classes t e ≡ Ok u → u ≡ left_by t e
left_is classes t e u h = sym (accepted classes t e u h).left

module _ (classes : Classes) (old : Shown) (edit : Edit) (idle : IsIdle old) (conforming : conforms classes (tree old) 0 ≡ true)
    (there : is_some (path old (node_of edit)) ≡ true) (target : is_some (path old (target_of edit)) ≡ true) where
  stays : (new : Shown) → tree new ≡ tree old → conforms classes (tree new) 0 ≡ true
  stays new same = subst (λ (t : Tree). conforms classes t 0 ≡ true) (sym same) conforming

  asked : (n m : Node) → path old (node_of edit) ≡ Some n → path old (target_of edit) ≡ Some m → IsAsked classes old edit n m
  asked n m found to = record { idle = idle; conforming = conforming; found = found; target = to }

  pub stands_refused : (new : Shown) (r : Refusal) → ((n m : Node) → IsAsked classes old edit n m → IsRefused classes old (edit_at n m edit) new r) → Stands classes new
  stands_refused new r refuses =
      let (n, found) = path_there (path old (node_of edit)) there in
      let (m, to) = path_there (path old (target_of edit)) target in
      let is = refuses n m (asked n m found to) in
      (is.idle, stays new is.tree_stays)

  module _ (mid : Shown) (q : Prepared) (ready : (n m : Node) → IsAsked classes old edit n m → IsPrepared classes old (edit_at n m edit) (Does q) mid) where
    pub stands_given_up : (new : Shown) → ((cs : Classes) (s : Shown) (e : EditOf) → IsPrepared cs s e (Does q) mid → IsCancelled s new) → Stands classes new
    stands_given_up new cancels =
        let (n, found) = path_there (path old (node_of edit)) there in
        let (m, to) = path_there (path old (target_of edit)) target in
        let is = cancels classes old (edit_at n m edit) (ready n m (asked n m found to)) in
        (is.idle, stays new is.tree_stays)

    pub stands_done : (new : Shown) → ((cs : Classes) (s : Shown) (e : EditOf) → IsPrepared cs s e (Does q) mid → IsCommitted s e new) → Stands classes new
    stands_done new commits =
        let (n, found) = path_there (path old (node_of edit)) there in
        let (m, to) = path_there (path old (target_of edit)) target in
        let e = edit_at n m edit in
        let prepared = ready n m (asked n m found to) in
        let is = commits classes old e prepared in
        let made = accepted_conforms classes (tree old) e prepared.left conforming prepared.accepted in
        (is.idle, subst (λ (t : Tree). conforms classes t 0 ≡ true) (sym (is.tree_is ∙ sym (left_is classes (tree old) e prepared.left prepared.accepted))) made.0)
