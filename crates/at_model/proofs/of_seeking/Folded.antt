-- A fold that looks into a drawer shortens the fold over the list.
use Rattle.std.proofs.Common.{◌≡◌, ℕ, List, Option, Some, None, refl, sym, subst}
use Rattle.at_model.specs.Drawers.{Key, mark_of}
use Rattle.at_model.specs.Run.{Value, Instance, Slot, Drawer, Contents, Run, Gives, Fails, Looks, ◌>>=◌, Null}
use Rattle.at_model.specs.Bodies.{ref_of, text_of, elements_of, drawer_of}
use Rattle.at_model.specs.Seeking.{those, is_in_drawer, AreDrawn, Shortens, fails, looks_less, looks_more}

module _ {N A : Type 0} (look : Contents N) (Plain : Instance N → Value N → Type 0) (drawn : AreDrawn look) (part : ℕ) (key : Key)
    (m : ℕ) (k h : List N → Run N A) where
  -- what is made of the list shortens to what is made of those of it that stand in the drawer
  abbrev pub FoldsOver : N → Type 0
  FoldsOver n = Shortens look Plain (k (look (Slot n part))) (h (those (is_in_drawer look key m) (look (Slot n part))))

  looked_into : (n : N) → FoldsOver n
      → Shortens look Plain (Looks (Slot n part) (λ ns. Gives ns >>= k)) (Looks (Drawer n part key m) (λ ns. Gives ns >>= h))
  looked_into n s =
      looks_less (Slot n part) _ _ (looks_more (Drawer n part key m) _ _
      (subst (λ (ns : List N). Shortens look Plain (k (look (Slot n part))) (h ns)) (sym (drawn n part key m)) s))

  by_node : (o : Option N) → ((n : N) → o ≡ Some n → FoldsOver n) → Shortens look Plain
      ((elim o [ None ↦ Fails Null | Some n ↦ Gives n ] >>= λ n. Looks (Slot n part) (λ ns. Gives ns)) >>= k)
      ((elim o [ None ↦ Fails Null | Some n ↦ Gives n ] >>= λ n. Looks (Drawer n part key m) (λ ns. Gives ns)) >>= h)
  by_node None each = fails Null
  by_node (Some n) each = looked_into n (each n refl)

pub folded : {N A : Type 0} (look : Contents N) (Plain : Instance N → Value N → Type 0) (drawn : AreDrawn look) (part : ℕ) (key : Key)
    (v w : Value N) (k h : List N → Run N A) → ((n : N) → ref_of v ≡ Some n → FoldsOver look Plain drawn part key (mark_of (text_of w)) k h n)
    → Shortens look Plain (elements_of part v >>= k) (drawer_of part key v w >>= h)
folded look Plain drawn part key v w k h each = by_node look Plain drawn part key (mark_of (text_of w)) k h (ref_of v) each
