-- What leaves is listed child by child, in the order of its steps.
use Rattle.std.proofs.Common.{◌≡◌, ℕ, suc, Bool, true, false, ◌||◌, cond, nat_eq, List, [], ◌∷◌, ◌++◌, Option, Some, None, Contains, refl, sym, ap, ◌∙◌, eqb-true, is_some, option_and_then}
use Rattle.std.specs.List.{slice_get}
use Rattle.std.proofs.lemmas.List.Folds.{list_any-append}
use Rattle.std.proofs.lemmas.Map.Views.{Contains-from_any}
use Rattle.at_model.specs.Classes.{Classes}
use Rattle.at_model.specs.Edits as model
use Rattle.at_model.specs.Trees.{Tree, class_of}
use Rattle.at_model.specs.Paths.{Node, tree_at}
use Rattle.at_store.specs.Checking.{IsAsked}
use Rattle.at_store.specs.Leaving.{AreAllBelow, AreListedBelow, is_listed, taken_by}
use Rattle.at_store.specs.Memory.{Info, IsShallow, IsSpreadTo, Place, Stored, class_in, kids_in, top}
use Rattle.at_store.specs.Numbers.{IsApart, path_in, relabel_edit}
use Rattle.at_store.specs.Preparing.{Does, IsPrepared, stands_in}
use Rattle.at_store.specs.Refusing.{edit_at, node_of}
use Rattle.at_store.specs.Shown.{Shown, numbers}
use Rattle.at_store.specs.Touching.{change_of, removed}
use Rattle.at_store.specs.View.{leaves_in, memory_of}
use Rattle.at_store.specs.declared.edit.Edit.{Edit}
use Rattle.at_store.specs.declared.edit.Edit.TheVariants as edit
use Rattle.at_store.specs.declared.edit.Prepared.{Prepared}
use Rattle.at_store.proofs.of_planting.Composed.{child_stored}
use Rattle.at_store.proofs.Found.{number_found}
use Rattle.at_store.proofs.of_planting.Freeing.{child_apart, child_numbered, spread_child, spread_root}
use Rattle.at_store.proofs.of_planting.MarkedLemmas.{child_shallow, kids_there, subtree_shallow}
use Rattle.at_store.proofs.of_edits.Removed.{subtree_apart, subtree_stored}

-- one more in the list
one_listed : (nodes : List ℕ) (n k : ℕ) → is_listed (nodes ++ n ∷ []) k ≡ cond (nat_eq k n) true (is_listed nodes k)
one_listed nodes n k = list_any-append (nat_eq k) nodes (n ∷ []) ∙ either (is_listed nodes k) (nat_eq k n)
  where
    either : (a b : Bool) → (a || (b || false)) ≡ cond b true a
    either true true = refl
    either true false = refl
    either false true = refl
    either false false = refl

-- the root is listed
pub root_listed : (before later : List ℕ) (x : Tree) → later ≡ before ++ class_of x ∷ [] → IsSpreadTo true (is_listed before) (is_listed later) x (0, 0)
root_listed before later x pushed = spread_root true (is_listed before) (is_listed later) x (λ k. ap (λ ns. is_listed ns k) pushed ∙ one_listed before (class_of x) k)

-- one more child is listed
pub child_listed : (first : ℕ → Bool) (memory : ℕ → Option Info) (mid later : List ℕ) (levels : ℕ) (place : Place)
    (x : Tree) (node part i k : ℕ) → class_of x ≡ node → IsApart x → Stored memory place x → IsShallow (suc levels) x →
    slice_get (kids_in (memory node) part) i ≡ Some k → IsSpreadTo true first (is_listed mid) x (part, i)
    → AreListedBelow k levels memory mid later → IsSpreadTo true first (is_listed later) x (part, suc i)
child_listed first memory mid later levels place x node part i k same apart stored shallow at' h listed =
    let (y, child, number) = child_numbered x part i k (ap (λ ns. slice_get ns i) (sym (kids_there memory place x node part same stored)) ∙ at') in
    spread_child true first (is_listed mid) (is_listed later) x y (part, i) apart child h
    (listed (Some (class_of x, part), i) y number (child_apart x y (part, i) apart child) (child_stored memory place x (part, i) y stored child) (child_shallow levels x y (part, i) child shallow))

-- an edit takes away the same nodes, whatever it brings
same_removed : (f : ℕ → ℕ) (e : model.Edit) → removed (change_of (relabel_edit f e)) ≡ removed (change_of e)
same_removed f (model.Set n t) = refl
same_removed f (model.Put n part t) = refl
same_removed f (model.Drop n) = refl
same_removed f (model.Insert n part index t) = refl
same_removed f (model.Token n part v) = refl
same_removed f (model.Move n to part index) = refl

module _ (classes : Classes) (old new : Shown) (asked : Edit) (n m : Node) (h : IsAsked classes old asked n m) (q : Prepared) (p : IsPrepared classes old (edit_at n m asked) (Does q) new) where
  abbrev s : Tree
  s = numbers old

  goes : (o : Option Node) → removed (change_of (edit_at n m asked)) ≡ o → (k : ℕ) → leaves_in new.slab k ≡ stands_in k (option_and_then (tree_at s) o)
  goes o is k = p.marks k ∙ ap (λ (r : Option Node). stands_in k (option_and_then (tree_at s) r))
      (sym (same_removed (class_in (memory_of new.slab)) p.numbered) ∙ ap (λ e. removed (change_of e)) p.same ∙ is)

  -- where nothing goes, nothing is marked
  none_goes : (nodes : List ℕ) → removed (change_of (edit_at n m asked)) ≡ None → (k : ℕ) → leaves_in new.slab k ≡ true → Contains nodes k
  none_goes nodes is k marked = let f : true ≡ false = sym marked ∙ goes None is k in absurd cc

  one_goes : (nodes : List ℕ) → removed (change_of (edit_at n m asked)) ≡ Some n → AreListedBelow (node_of asked) 512
      (memory_of old.slab) [] nodes → (k : ℕ) → leaves_in new.slab k ≡ true → Contains nodes k
  one_goes nodes is listed k marked =
      let keeps = h.idle.keeps in
      let (u, there, number) = number_found s (node_of asked) n h.found in
      let (place, below) = subtree_stored (memory_of old.slab) top s n u keeps.stored there in
      let stands : is_some (path_in k u) ≡ true = sym (goes (Some n) is k ∙ ap (stands_in k) there) ∙ marked in
      let has = listed place u number (subtree_apart s n u keeps.apart there) below (subtree_shallow 512 s n u keeps.shallow there) k ∙ ap (λ b. cond b true false) stands in
      Contains-from_any eqb-true k nodes has

-- each node that leaves is listed
pub all_listed : (classes : Classes) (old new : Shown) (asked : Edit) (n m : Node) → IsAsked classes old asked n m
    → (q : Prepared) → IsPrepared classes old (edit_at n m asked) (Does q) new → (nodes : List ℕ)
    → AreAllBelow (taken_by asked) (memory_of old.slab) nodes →
    (k : ℕ) → leaves_in new.slab k ≡ true → Contains nodes k
all_listed classes old new (edit.Set node tree) n m h q p nodes listed = one_goes classes old new (edit.Set node tree) n m h q p nodes refl listed
all_listed classes old new (edit.Put node part tree) n m h q p nodes listed = none_goes classes old new (edit.Put node part tree) n m h q p nodes refl
all_listed classes old new (edit.Drop node) n m h q p nodes listed = one_goes classes old new (edit.Drop node) n m h q p nodes refl listed
all_listed classes old new (edit.Insert node part index tree) n m h q p nodes listed = none_goes classes old new (edit.Insert node part index tree) n m h q p nodes refl
all_listed classes old new (edit.Token node part value) n m h q p nodes listed = none_goes classes old new (edit.Token node part value) n m h q p nodes refl
all_listed classes old new (edit.Move node to part index) n m h q p nodes listed = none_goes classes old new (edit.Move node to part index) n m h q p nodes refl
