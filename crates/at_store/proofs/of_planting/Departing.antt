-- A node that a prepared edit takes away is marked.
use Rattle.std.proofs.Common.{◌≡◌, ◌∙◌, ◌||◌, ℕ, Bool, true, false, nat_eq, Option, Some, None, is_none, option_map, refl, sym, ap}
use Rattle.at_model.specs.Alike as alike
use Rattle.at_model.specs.Classes.{Classes}
use Rattle.at_model.specs.Edits.{Edit, carried}
use Rattle.at_model.specs.Paths.{Node, tree_at}
use Rattle.at_model.specs.Run.{Contents, Is, Up}
use Rattle.at_model.specs.Touches.{touches}
use Rattle.at_model.proofs.of_edits.Edited.{gone_where_touched}
use Rattle.at_store.specs.Marked.{change_in, told}
use Rattle.at_store.specs.Memory.{class_in}
use Rattle.at_store.specs.Numbers.{relabel}
use Rattle.at_store.specs.Preparing.{Does, IsPrepared}
use Rattle.at_store.specs.Shown.{Shown, numbers, path, tree}
use Rattle.at_store.specs.Touching.{Change, at_parent, touches_by}
use Rattle.at_store.specs.Touching as change
use Rattle.at_store.specs.View.{leaves_in, memory_of}
use Rattle.at_store.specs.declared.edit.Prepared.{Prepared}
use Rattle.at_store.proofs.Found.{number_found}
use Rattle.at_store.proofs.Relabelled.{relabelled-tree_at}
use Rattle.at_store.proofs.of_edits.TouchesTold.{are_marked, touches_told}

left_alone : (a b : Bool) → b ≡ false → (a || b) ≡ true → a ≡ true
left_alone true b off on = refl
left_alone false true off on = absurd cc
left_alone false false off on = on

nowhere : (o : Option (ℕ × ℕ)) → at_parent (λ p. false) o ≡ false
nowhere None = refl
nowhere (Some p) = refl

no_move : (o : Option (ℕ × ℕ)) → (false || at_parent (λ p. false) o || false || at_parent (λ p. false) o || false) ≡ false
no_move None = refl
no_move (Some p) = refl

-- whether a node is there at all is touched by its mark alone
by_mark : (look : Contents ℕ) (leaves : ℕ → Bool) (c : Change ℕ) (k : ℕ) → touches_by nat_eq look leaves c (Is k) ≡ true → leaves k ≡ true
by_mark look leaves (change.Set node) k on = left_alone (leaves k) _ (nowhere (look (Up node))) on
by_mark look leaves (change.Put node part) k on = absurd cc
by_mark look leaves (change.Drop node) k on = left_alone (leaves k) _ (nowhere (look (Up node))) (left_alone _ _ (nowhere (look (Up node))) on)
by_mark look leaves (change.Insert node part) k on = absurd cc
by_mark look leaves (change.Token node part) k on = absurd cc
by_mark look leaves (change.Move node to part) k on = let never : false ≡ true = sym (no_move (look (Up node))) ∙ on in absurd cc

module _ (classes : Classes) (old mid : Shown) (e : Edit) (q : Prepared) (p : IsPrepared classes old e (Does q) mid) where
  pub marked_where_gone : (k : ℕ) (n : Node) → path old k ≡ Some n → carried e n ≡ None → leaves_in mid.slab k ≡ true
  marked_where_gone k n at' gone =
      let (v, found, number) = number_found (numbers old) k n at' in
      let f = class_in (memory_of old.slab) in
      let there : tree_at (tree old) n ≡ Some (relabel f v) = relabelled-tree_at f (numbers old) n ∙ ap (option_map (relabel f)) found in
      let touched : touches e (Is n) ≡ true = sym (gone_where_touched classes (tree old) p.left e p.accepted n (relabel f v) there) ∙ ap is_none gone in
      by_mark (told (memory_of mid.slab)) (leaves_in mid.slab) (change_in q) k
      (touches_told classes old mid e q p (leaves_in mid.slab) (are_marked classes old mid e q p) (Is k) (Is n) (alike.is at') ∙ touched)
