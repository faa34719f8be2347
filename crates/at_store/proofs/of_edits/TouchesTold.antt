-- What a prepared edit touches, told by the memory and by marks, is what the edit touches.
use Rattle.std.proofs.Common.{◌≡◌, ℕ, Bool, ◌||◌, ◌&&◌, nat_eq, Option, Some, refl, sym, ap, ◌∙◌, subst, is_some}
use Rattle.at_model.specs.Classes.{Classes}
use Rattle.at_model.specs.Trees.{Tree, class_of}
use Rattle.at_model.specs.Paths.{Node, tree_at}
use Rattle.at_model.specs.Run.{Contents, Drawer, Idx, Is, Location, Slot, Tok, Up}
use Rattle.at_model.specs.Alike.{LocationLike, Names}
use Rattle.at_model.specs.Alike as alike
use Rattle.at_model.specs.Edits.{Edit}
use Rattle.at_model.specs.Touches.{node_of, touches}
use Rattle.at_store.specs.Numbers.{contents, path_in, relabel_edit}
use Rattle.at_store.specs.Memory.{Info, Stored, class_in, place_at, top, up_in}
use Rattle.at_store.specs.View.{leaves_in, memory_of}
use Rattle.at_store.specs.Shown.{Shown, numbers, path, tree}
use Rattle.at_store.specs.Marked.{change_in, told}
use Rattle.at_store.specs.Preparing.{Does, IsPrepared, stands_in}
use Rattle.at_store.specs.Touching.{AreMarked, Change, ChangeLike, at_parent, change_of, gone, is_index_of, is_slot_of, is_up_of, touches_by}
use Rattle.at_store.specs.Touching as change
use Rattle.at_store.specs.declared.edit.Prepared.{Prepared}
use Rattle.at_store.specs.declared.edit.Prepared.TheVariants as plan
use Rattle.at_store.proofs.Found.{named, number_found}
use Rattle.at_store.proofs.Looked.{parent_is}
use Rattle.at_store.proofs.of_edits.Touched.{touched}

-- the node of which a change speaks
abbrev pub changed : Change ℕ → ℕ
changed (change.Set node) = node
changed (change.Put node part) = node
changed (change.Drop node) = node
changed (change.Insert node part) = node
changed (change.Token node part) = node
changed (change.Move node to part) = node

pub changed_there : (R : ℕ → Node → Type 0) (c : Change ℕ) (d : Change Node) → ChangeLike R c d → (n : Node) × R (changed c) n
changed_there R _ _ (change.set {m = m} r) = (m, r)
changed_there R _ _ (change.put {m = m} part r) = (m, r)
changed_there R _ _ (change.drop {m = m} r) = (m, r)
changed_there R _ _ (change.insert {m = m} part r) = (m, r)
changed_there R _ _ (change.token {m = m} part r) = (m, r)
changed_there R _ _ (change.move {m = m} part r q) = (m, r)

pub node_there : (R : ℕ → Node → Type 0) (l : Location ℕ) (m : Location Node) → LocationLike R l m → R (node_of l) (node_of m)
node_there R _ _ (alike.is r) = r
node_there R _ _ (alike.tok part r) = r
node_there R _ _ (alike.slot part r) = r
node_there R _ _ (alike.up r) = r
node_there R _ _ (alike.idx r) = r
node_there R _ _ (alike.drawer part key mark r) = r

-- only the parents of the two nodes are looked at
module _ (look other : Contents ℕ) (leaves : ℕ → Bool) where
  index_alike : (l : Location ℕ) → look (Up (node_of l)) ≡ other (Up (node_of l)) → (a part : ℕ) → is_index_of nat_eq look a part l ≡ is_index_of nat_eq other a part l
  index_alike (Is n) e a part = refl
  index_alike (Tok n p) e a part = refl
  index_alike (Slot n p) e a part = refl
  index_alike (Up n) e a part = refl
  index_alike (Drawer n p key mark) e a part = refl
  index_alike (Idx n) e a part = ap (at_parent (λ p. nat_eq a p.0 && nat_eq part p.1)) e

  told_alike : (c : Change ℕ) (l : Location ℕ) → look (Up (changed c)) ≡ other (Up (changed c)) → look (Up (node_of l))
      ≡ other (Up (node_of l)) → touches_by nat_eq look leaves c l ≡ touches_by nat_eq other leaves c l
  told_alike (change.Set node) l e f = ap (λ (o : Option (ℕ × ℕ)). leaves (node_of l) || at_parent (λ p. is_slot_of nat_eq p.0 p.1 l) o) e
  told_alike (change.Put node part) l e f = refl
  told_alike (change.Drop node) l e f =
      ap (λ (o : Option (ℕ × ℕ)). leaves (node_of l) || at_parent (λ p. is_slot_of nat_eq p.0 p.1 l) o || at_parent (λ p. is_index_of nat_eq look p.0 p.1 l) o) e ∙
      (λ i. leaves (node_of l) || at_parent (λ p. is_slot_of nat_eq p.0 p.1 l) (other (Up node)) || at_parent (λ p. index_alike l f p.0 p.1 i) (other (Up node)))
  told_alike (change.Insert node part) l e f = ap (λ (b : Bool). is_slot_of nat_eq node part l || b) (index_alike l f node part)
  told_alike (change.Token node part) l e f = refl
  told_alike (change.Move node to part) l e f =
      ap (λ (o : Option (ℕ × ℕ)). is_up_of nat_eq node l || at_parent (λ p. is_slot_of nat_eq p.0 p.1 l) o
      || is_slot_of nat_eq to part l || at_parent (λ p. is_index_of nat_eq look p.0 p.1 l) o
      || is_index_of nat_eq look to part l) e ∙
      (λ i. is_up_of nat_eq node l || at_parent (λ p. is_slot_of nat_eq p.0 p.1 l) (other (Up node)) || is_slot_of
      nat_eq to part l || at_parent (λ p. index_alike l f p.0 p.1 i) (other (Up node)) || index_alike l f to part i)

pub up_stored : (memory : ℕ → Option Info) (s : Tree) → Stored memory top s → (k : ℕ) (n : Node) → path_in k s ≡ Some n → up_in (memory k) ≡ (place_at top s n).0
up_stored memory s h k n p =
    let (u, is, number) = number_found s k n p in
    ap (λ j. up_in (memory j)) (sym number) ∙ ap up_in (h n u is).is

module _ (classes : Classes) (old mid : Shown) (e : Edit) where
  abbrev s : Tree
  s = numbers old

  pub change_is : (q : Prepared) → IsPrepared classes old e (Does q) mid → ChangeLike (Names (path old)) (change_in q) (change_of e)
  change_is (plan.Set node new) p = by_place p.does.place
      (ap (λ x. change_of (relabel_edit (class_in (memory_of mid.slab)) x)) p.does.is)
      (ap (λ j. path_in j s) (sym p.does.number) ∙ named s p.keeps.apart p.does.place p.does.gone p.does.there)
    where
      by_place : (n : Node) → change_of (relabel_edit (class_in (memory_of mid.slab)) p.numbered) ≡ change.Set n
          → path_in node s ≡ Some n → ChangeLike (Names (path old)) (change.Set node) (change_of e)
      by_place n is there = subst (ChangeLike (Names (path old)) (change.Set node)) (sym (sym (ap change_of p.same) ∙ is)) (change.set there)
  change_is (plan.Put node part new) p = by_place p.does.place
      (ap (λ x. change_of (relabel_edit (class_in (memory_of mid.slab)) x)) p.does.is)
      (ap (λ j. path_in j s) (sym p.does.number) ∙ named s p.keeps.apart p.does.place p.does.parent p.does.found)
    where
      by_place : (n : Node) → change_of (relabel_edit (class_in (memory_of mid.slab)) p.numbered) ≡ change.Put n part
          → path_in node s ≡ Some n → ChangeLike (Names (path old)) (change.Put node part) (change_of e)
      by_place n is there = subst (ChangeLike (Names (path old)) (change.Put node part)) (sym (sym (ap change_of p.same) ∙ is)) (change.put part there)
  change_is (plan.Drop node) p = by_place p.does.place
      (ap (λ x. change_of (relabel_edit (class_in (memory_of mid.slab)) x)) p.does.is)
      (ap (λ j. path_in j s) (sym p.does.number) ∙ named s p.keeps.apart p.does.place p.does.gone p.does.there)
    where
      by_place : (n : Node) → change_of (relabel_edit (class_in (memory_of mid.slab)) p.numbered) ≡ change.Drop n
          → path_in node s ≡ Some n → ChangeLike (Names (path old)) (change.Drop node) (change_of e)
      by_place n is there = subst (ChangeLike (Names (path old)) (change.Drop node)) (sym (sym (ap change_of p.same) ∙ is)) (change.drop there)
  change_is (plan.Insert node part index new) p =
      by_place p.does.place (ap (λ x. change_of (relabel_edit (class_in (memory_of mid.slab)) x)) p.does.is)
      (ap (λ j. path_in j s) (sym p.does.number) ∙ named s p.keeps.apart p.does.place p.does.parent p.does.found)
    where
      by_place : (n : Node) → change_of (relabel_edit (class_in (memory_of mid.slab)) p.numbered) ≡ change.Insert n part
          → path_in node s ≡ Some n → ChangeLike (Names (path old)) (change.Insert node part) (change_of e)
      by_place n is there = subst (ChangeLike (Names (path old)) (change.Insert node part)) (sym (sym (ap change_of p.same) ∙ is)) (change.insert part there)
  change_is (plan.Token node part value) p =
      by_place p.does.place (ap (λ x. change_of (relabel_edit (class_in (memory_of mid.slab)) x)) p.does.is)
      (ap (λ j. path_in j s) (sym p.does.number) ∙ named s p.keeps.apart p.does.place p.does.parent p.does.found)
    where
      by_place : (n : Node) → change_of (relabel_edit (class_in (memory_of mid.slab)) p.numbered) ≡ change.Token n part
          → path_in node s ≡ Some n → ChangeLike (Names (path old)) (change.Token node part) (change_of e)
      by_place n is there = subst (ChangeLike (Names (path old)) (change.Token node part)) (sym (sym (ap change_of p.same) ∙ is)) (change.token part there)
  change_is (plan.Move node to part index) p = by_place p.does.place p.does.target
      (ap (λ x. change_of (relabel_edit (class_in (memory_of mid.slab)) x)) p.does.is) (ap (λ j. path_in j s)
      (sym p.does.number) ∙ named s p.keeps.apart p.does.place p.does.moved p.does.there) p.does.stands
    where
      by_place : (n m : Node) → change_of (relabel_edit (class_in (memory_of mid.slab)) p.numbered)
          ≡ change.Move n m part → path_in node s ≡ Some n → path_in to s ≡ Some m
          → ChangeLike (Names (path old)) (change.Move node to part) (change_of e)
      by_place n m is there also = subst (ChangeLike (Names (path old)) (change.Move node to part)) (sym (sym (ap change_of p.same) ∙ is)) (change.move part there also)

  -- just what goes with the node that the change removes is marked
  of_gone : {Does : Tree → Edit → Type 0} (p : IsPrepared classes old e Does mid) (node : ℕ) (place : Node) (x : Tree) → gone s p.numbered ≡ Some x → tree_at s place ≡ Some x → class_of x ≡ node →
      (other : ℕ) (n : Node) (y : Tree) → Some node ≡ Some other → path_in other s ≡ Some n → tree_at s n ≡ Some y → (k : ℕ) → leaves_in mid.slab k ≡ is_some (path_in k y)
  of_gone p node place x goes stands number other n y is at' found k =
      let same : node ≡ other = cc in
      let path : Some place ≡ Some n = sym (named s p.keeps.apart place x stands) ∙ ap (λ j. path_in j s) (number ∙ same) ∙ at' in
      let way : place ≡ n = cc in
      let tree : Some x ≡ Some y = sym stands ∙ ap (tree_at s) way ∙ found in
      let alike : x ≡ y = cc in
      p.marks k ∙ ap (stands_in k) goes ∙ ap (λ t. is_some (path_in k t)) alike

  pub are_marked : (q : Prepared) → IsPrepared classes old e (Does q) mid → AreMarked s (leaves_in mid.slab) (change_in q)
  are_marked (plan.Set node new) p = λ other n y is at' found k there. of_gone p node p.does.place p.does.gone
      (ap (gone s) p.does.is ∙ p.does.there) p.does.there p.does.number other n y is at' found k
  are_marked (plan.Put node part new) p = λ other n y is at' found k there. absurd cc
  are_marked (plan.Drop node) p = λ other n y is at' found k there. of_gone p node p.does.place p.does.gone (ap (gone s) p.does.is ∙ p.does.there) p.does.there p.does.number other n y is at' found k
  are_marked (plan.Insert node part index new) p = λ other n y is at' found k there. absurd cc
  are_marked (plan.Token node part value) p = λ other n y is at' found k there. absurd cc
  are_marked (plan.Move node to part index) p = λ other n y is at' found k there. absurd cc

  pub touches_told : (q : Prepared) → IsPrepared classes old e (Does q) mid → (leaves : ℕ → Bool)
      → AreMarked s leaves (change_in q) → (l : Location ℕ) (m : Location Node) → LocationLike (Names (path old)) l m →
      touches_by nat_eq (told (memory_of mid.slab)) leaves (change_in q) l ≡ touches e m
  touches_told q p leaves marked l m like =
      let same = change_is q p in
      let (n, stands) = changed_there (Names (path old)) (change_in q) (change_of e) same in
      told_alike (told (memory_of mid.slab)) (contents s (tree old)) leaves (change_in q) l (up_alike (changed
      (change_in q)) n stands) (up_alike (node_of l) (node_of m) (node_there (Names (path old)) l m like)) ∙
      touched s (class_in (memory_of old.slab)) p.keeps.apart leaves (change_in q) e l m same marked like
    where
      up_alike : (k : ℕ) (n : Node) → path_in k s ≡ Some n → up_in (memory_of mid.slab k) ≡ contents s (tree old) (Up k)
      up_alike k n there =
          up_stored (memory_of mid.slab) s p.keeps.stored k n there ∙ sym (up_stored (memory_of old.slab) s p.was_idle.keeps.stored k n there) ∙ parent_is (memory_of old.slab) s p.was_idle.keeps k
