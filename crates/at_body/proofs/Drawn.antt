-- What stands in a drawer, by numbers.
use Rattle.std.proofs.Common.{◌≡◌, ◌≤◌, ◌+◌, ℕ, Bool, true, false, cond, List, [], ◌∷◌, length, map, Option, Some, None, refl, ap, sym, ◌∙◌, subst, arith}
use Rattle.at_model.specs.Alike.{AlikeAt, IsInjective, ListLike, Names, drawer, end, is, more, slot, tok}
use Rattle.at_model.specs.Drawers.{Key, stands_under}
use Rattle.at_model.specs.Meaning.{content}
use Rattle.at_model.specs.Paths.{Node}
use Rattle.at_model.specs.Run.{Drawer, Is, Location, Slot, Tok}
use Rattle.at_model.specs.Seeking.{AreDrawn, is_in_drawer, those}
use Rattle.at_model.proofs.of_seeking.DrawnFrom.{are_drawn}
use Rattle.at_store.specs.Memory.{class_in}
use Rattle.at_store.specs.Numbers.{number_at}
use Rattle.at_store.specs.Shown.{IsIdle, Shown, contents, numbers, path, tree}
use Rattle.at_store.specs.View.{memory_of}
use Rattle.at_store.proofs.Found.{path_injective}
use Rattle.at_store.proofs.Relabelled.{contents_alike}

-- those of a list are as many at most
pub those_fewer : (f : ℕ → Bool) (ns : List ℕ) → length (those f ns) ≤ length ns
those_fewer f [] = omega arith
those_fewer f (n ∷ ns) = by_test (f n) (those_fewer f ns)
  where
    by_test : (b : Bool) → length (those f ns) ≤ length ns → length (cond b (n ∷ those f ns) (those f ns)) ≤ length (n ∷ ns)
    by_test true fewer = omega (arith, fewer)
    by_test false fewer = omega (arith, fewer)

module _ (name : ℕ → Option Node) where
  -- one list alone has these names
  same_list : IsInjective name → (ns ms : List ℕ) (ps : List Node) → ListLike (Names name) ns ps → ListLike (Names name) ms ps → ns ≡ ms
  same_list one _ _ _ end end = refl
  same_list one _ _ _ (more {a = n} {b = p} {as' = ns} {bs = ps} r rs) (more {a = m} {as' = ms} s ss) =
      ap (λ k. k ∷ ns) (one n m p r s) ∙ ap (λ ks. m ∷ ks) (same_list one ns ms ps rs ss)

  those_like : (f : ℕ → Bool) (g : Node → Bool) → ((n : ℕ) (p : Node) → Names name n p → f n ≡ g p) → (ns : List ℕ) (ps : List Node) →
      ListLike (Names name) ns ps → ListLike (Names name) (those f ns) (those g ps)
  those_like f g same _ _ end = end
  those_like f g same _ _ (more {a = n} {b = p} {as' = ns} {bs = ps} r rs) =
      subst (λ b. ListLike (Names name) (those f (n ∷ ns)) (cond b (p ∷ those g ps) (those g ps))) (same n p r) (by_test (f n) (those_like f g same ns ps rs))
    where
      by_test : (b : Bool) → ListLike (Names name) (those f ns) (those g ps) →
          ListLike (Names name) (cond b (n ∷ those f ns) (those f ns)) (cond b (p ∷ those g ps) (those g ps))
      by_test true h = more r h
      by_test false h = h

-- in a drawer of a store stand the children of the component that stand under the mark
pub drawn : (s : Shown) → IsIdle s → AreDrawn (contents s)
drawn s idle k part key mark = by_path (path s k) refl
  where
    alike : (l : Location ℕ) → AlikeAt (Names (path s)) (contents s) (content (tree s)) l
    alike = contents_alike (class_in (memory_of s.slab)) (numbers s) idle.keeps.apart

    same : (n : ℕ) (p : Node) → Names (path s) n p → is_in_drawer (contents s) key mark n ≡ is_in_drawer (content (tree s)) key mark p
    same n p r =
        let x : contents s (Is n) ≡ content (tree s) (Is p) = alike (Is n) (Is p) (is r) in
        let y : contents s (Tok n key.token) ≡ content (tree s) (Tok p key.token) = alike (Tok n key.token) (Tok p key.token) (tok key.token r) in
        ap (λ c. stands_under key mark c (contents s (Tok n key.token))) x ∙ ap (λ v. stands_under key mark (content (tree s) (Is p)) v) y

    shown : (Node → List Node) → Option Node → List ℕ
    shown at o = elim o [ None ↦ [] | Some n ↦ map (number_at (numbers s)) (at n) ]

    in_drawer : Node → List Node
    in_drawer n = content (tree s) (Drawer n part key mark)

    in_slot : Node → List Node
    in_slot n = content (tree s) (Slot n part)

    by_path : (o : Option Node) → path s k ≡ o → contents s (Drawer k part key mark) ≡ those (is_in_drawer (contents s) key mark) (contents s (Slot k part))
    by_path None e = ap (shown in_drawer) e ∙ sym (ap (λ o. those (is_in_drawer (contents s) key mark) (shown in_slot o)) e)
    by_path (Some n) e =
        same_list (path s) (path_injective (numbers s)) (contents s (Drawer k part key mark)) (those (is_in_drawer (contents s) key mark) (contents s (Slot k part)))
        (content (tree s) (Drawer n part key mark)) (alike (Drawer k part key mark) (Drawer n part key mark) (drawer part key mark e))
        (subst (ListLike (Names (path s)) (those (is_in_drawer (contents s) key mark) (contents s (Slot k part)))) (sym (are_drawn (tree s) n part key mark))
        (those_like (path s) (is_in_drawer (contents s) key mark) (is_in_drawer (content (tree s)) key mark) same
        (contents s (Slot k part)) (content (tree s) (Slot n part)) (alike (Slot k part) (Slot n part) (slot part e))))
