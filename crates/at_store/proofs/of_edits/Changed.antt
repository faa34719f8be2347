-- A memory after a change of one cell: it keeps the changed tree.
use Rattle.std.proofs.Common.{◌≡◌, ℕ, ◌+◌, ◌<◌, Bool, true, false, nat_eq, cond, List, [], ◌∷◌, ◌++◌, Option, Some, None, ◌⊎◌, inl, inr, refl, sym, ap, ◌∙◌, is_some}
use Rattle.std.specs.Prelude.{map, is_none}
use Rattle.std.specs.List.{slice_get}
use Rattle.std.proofs.lemmas.Bool.{eq-eqb}
use Rattle.at_model.specs.Trees.{Tree, Cell, class_of, children}
use Rattle.at_model.specs.Paths.{Node, tree_at, cell_at}
use Rattle.at_model.specs.Edits.{with_cell, with_node, moved_under}
use Rattle.at_model.proofs.WayUp.{snoc, parent_of-snoc}
use Rattle.at_model.proofs.of_edits.Moving.{Way, KeepsParts}
use Rattle.at_model.proofs.of_edits.Untouched.{FitsAt}
use Rattle.at_store.specs.Numbers.{path_in, number_at, IsApart}
use Rattle.at_store.specs.Memory.{Info, Kept, kept, kept_of, Place, top, place_at, IsKept, Stored, Keeps, IsShallow, is_waiting, with_kept, with_place, with_index, rewritten, placed, renumbered}
use Rattle.at_store.proofs.Found.{number_found, met, got}
use Rattle.at_store.proofs.of_edits.Origins.{OriginsAt, AreNew, apart_after, number_kept}
use Rattle.at_store.proofs.of_edits.Stored.{index_at, own_index, moved_itself, new_there, stored_after}
use Rattle.at_store.proofs.of_edits.Renumbered.{not_eq, renumbered_moved, renumbered_new, from_renumbered}

index_kept : (i part : ℕ) (c : Kept) (o : Option Info) → with_index i (with_kept part c o) ≡ with_kept part c (with_index i o)
index_kept i part c None = refl
index_kept i part c (Some x) = refl

pub from_kept : (part : ℕ) (c : Kept) (o : Option Info) (i : Info) → with_kept part c o ≡ Some i → (j : Info) × (o ≡ Some j)
from_kept part c None i e = absurd cc
from_kept part c (Some j) i e = (j, refl)

pub from_place : (place : Place) (o : Option Info) (i : Info) → with_place place o ≡ Some i → (j : Info) × (o ≡ Some j)
from_place place None i e = absurd cc
from_place place (Some j) i e = (j, refl)

pub from_cond : (b : Bool) (o q : Option Info) (i : Info) → ((i : Info) → o ≡ Some i → (j : Info) × (q ≡ Some j)) → cond b o q ≡ Some i → (j : Info) × (q ≡ Some j)
from_cond true o q i h e = h i e
from_cond false o q i h e = (i, e)

not_gone : (b : Bool) (o : Option Info) (i : Info) → cond b None o ≡ Some i → (b ≡ false) × (o ≡ Some i)
not_gone true o i e = absurd cc
not_gone false o i e = (refl, e)

pub at_same : (n part : ℕ) (c : Kept) (o : Option Info) → rewritten n part c n o ≡ with_kept part c o
at_same n part c o = ap (λ b. cond b (with_kept part c o) o) (eq-eqb n n refl)

pub at_other : (n part : ℕ) (c : Kept) (k : ℕ) (o : Option Info) → (k ≡ n → ⊥) → rewritten n part c k o ≡ o
at_other n part c k o h = ap (λ b. cond b (with_kept part c o) o) (not_eq k n h)

-- a tree that is set at another place
module _ (memory later : ℕ → Option Info) (w : Tree) (before place : Place) (apart : IsApart w) (stored : Stored memory before w)
    (changes : (n : Node) (v : Tree) → tree_at w n ≡ Some v → later (class_of v) ≡ placed (class_of w) place (class_of v) (memory (class_of v))) where
  same_place : (k : Node) (s : Way) → place_at before w (k ++ s ∷ []) ≡ place_at place w (k ++ s ∷ [])
  same_place k s =
      let shown : Place → Option (Node × Way) → Place = λ above o. elim o [ None ↦ above | Some p ↦ (Some (number_at w p.0, p.1.0), p.1.1) ] in
      ap (shown before) (parent_of-snoc k s) ∙ sym (ap (shown place) (parent_of-snoc k s))

  pub stored_there : Stored later place w
  stored_there n x is = by_end (snoc n)
    where
      no_end : (a : Node) (r : Way) → a ++ r ∷ [] ≡ [] → ⊥
      no_end [] r e = cc
      no_end (x ∷ a) r e = cc

      by_end : (n ≡ []) ⊎ ((k : Node) × (s : Way) × (n ≡ k ++ s ∷ [])) → IsKept later (class_of x) (place_at place w n) (kept_of x)
      by_end (inl none) =
          let e : Some w ≡ Some x = ap (tree_at w) (sym none) ∙ is in
          let f : w ≡ x = cc in
          let k = stored [] w refl in
          let above : place ≡ place_at place w n = ap (place_at place w) (sym none) in
          let here : later (class_of w) ≡ with_place place (memory (class_of w)) = changes [] w refl ∙ ap (λ b. cond b
          (with_place place (memory (class_of w))) (memory (class_of w))) (eq-eqb (class_of w) (class_of w) refl) in
          record {
            class = k.class;
            is = ap later (ap class_of (sym f)) ∙ here ∙ ap (with_place place) k.is
                ∙ (λ i. Some (record { class = k.class; up = (above i).0; index = (above i).1; cells = kept_of (f i) }));
          }
      by_end (inr (a, r, e)) =
          let k = stored n x is in
          let not_root : class_of x ≡ class_of w → ⊥ = λ q. (let f : n ≡ [] = apart n [] x w is refl q in no_end a r (sym e ∙ f)) in
          let above : place_at before w n ≡ place_at place w n = ap (place_at before w) e ∙ same_place a r ∙ ap (place_at place w) (sym e) in
          let here : later (class_of x) ≡ memory (class_of x) = changes n x is
          ∙ ap (λ b. cond b (with_place place (memory (class_of x))) (memory (class_of x)))
          (not_eq (class_of x) (class_of w) not_root) in
          record { class = k.class; is = here ∙ k.is ∙ (λ i. Some (record { class = k.class; up = (above i).0; index = (above i).1; cells = kept_of x })) }

-- One cell of a node is written, what is new comes to its place, the children behind are renumbered, and what is gone is freed.
module _ (g : Cell → Cell) (part : ℕ) (past : Way → Option Way) (IsNew : Tree → ℕ → Type 0)
    (keeps : KeepsParts past part) (t : Tree) (p : Node) (fits : FitsAt g part past t p)
    (origins : OriginsAt g part past IsNew t p) (news : AreNew g part past IsNew keeps t)
    (u : Tree) (c : Cell) (found : tree_at t p ≡ Some u) (here : cell_at u part ≡ Some c) (from : ℕ) (behind : List ℕ)
    (behind_is : (j : ℕ) → slice_get behind j ≡ slice_get (map class_of (children (g c))) (from + j))
    (before : (s w : Way) → s.0 ≡ part → past s ≡ Some w → w.1 < from → w.1 ≡ s.1)
    (front : (y : Tree) (j : ℕ) → IsNew y j → j < from)
    (memory later : ℕ → Option Info) (waiting : Option Tree) (h : Keeps memory t waiting) (gone : ℕ → Bool) (place : ℕ → Option Info → Option Info)
    (changes : (k : ℕ) → later k ≡ cond (gone k) None (renumbered behind from k (place k (rewritten (class_of u) part (kept (g c)) k (memory k)))))
    (place_old : (n : Node) (v : Tree) → tree_at t n ≡ Some v → (o : Option Info) → place (class_of v) o ≡ o)
    (place_some : (k : ℕ) (o : Option Info) (i : Info) → place k o ≡ Some i → (j : Info) × (o ≡ Some j))
    (gone_old : (n : Node) (v : Tree) → tree_at t n ≡ Some v → gone (class_of v) ≡ is_none (moved_under p past n))
    (gone_new : (x : Tree) (j : ℕ) → IsNew x j → (m : Node) (v : Tree) → tree_at x m ≡ Some v → gone (class_of v) ≡ false) where
  abbrev after : Tree
  after = with_node (with_cell g part) t p

  abbrev written : ℕ → Option Info
  written k = rewritten (class_of u) part (kept (g c)) k (memory k)

  survivor : (n m : Node) (v : Tree) → tree_at t n ≡ Some v → moved_under p past n ≡ Some m → later (class_of v) ≡ renumbered behind from (class_of v) (written (class_of v))
  survivor n m v was moves =
      let k = class_of v in
      changes k ∙ ap (λ b. cond b None (renumbered behind from k (place k (written k)))) (gone_old n v was ∙ ap is_none moves) ∙ ap (renumbered behind from k) (place_old n v was (written k))

  changed : later (class_of u) ≡ with_kept part (kept (g c)) (memory (class_of u))
  changed =
      let k = class_of u in
      let itself = moved_itself g part past p in
      let own : with_index (index_at 0 p) (with_kept part (kept (g c)) (memory k))
      ≡ with_kept part (kept (g c)) (memory k) = index_kept (index_at 0 p) part (kept (g c)) (memory k)
      ∙ ap (with_kept part (kept (g c))) (own_index memory top t h.stored p u found) in
      survivor p p u found itself ∙ ap (renumbered behind from k) (at_same k part (kept (g c)) (memory k)) ∙
      renumbered_moved g part past IsNew keeps t p h.apart fits origins news u c found here from behind behind_is before p p u found itself (with_kept part (kept (g c)) (memory k)) own ∙ own

  elsewhere : (n m : Node) (v : Tree) → tree_at t n ≡ Some v → moved_under p past n ≡ Some m → (n ≡ p → ⊥) → later (class_of v) ≡ with_index (index_at 0 m) (memory (class_of v))
  elsewhere n m v was moves other =
      let k = class_of v in
      survivor n m v was moves ∙ ap (renumbered behind from k) (at_other (class_of u) part (kept (g c)) k (memory k) (λ e. other (h.apart n p v u was found e))) ∙
      renumbered_moved g part past IsNew keeps t p h.apart fits origins news u c found here from behind behind_is before n m v was moves (memory k) (own_index memory top t h.stored n v was)

  -- of what is new only the place is another
  pub later_new : (x : Tree) (j : ℕ) → IsNew x j → (m : Node) (v : Tree) → tree_at x m ≡ Some v → later (class_of v) ≡ place (class_of v) (memory (class_of v))
  later_new x j new m v is =
      let k = class_of v in
      changes k ∙ ap (λ b. cond b None (renumbered behind from k (place k (written k)))) (gone_new x j new m v is) ∙
      renumbered_new g part past IsNew keeps t p h.apart fits origins news u c found here from behind behind_is before x j new front m v is (place k (written k)) ∙
      ap (place k) (at_other (class_of u) part (kept (g c)) k (memory k) (λ e. news.fresh x j new p m u v found is (sym e)))

  module _ (brought : (x : Tree) (j : ℕ) → IsNew x j → Stored later (Some (class_of u, part), j) x × (slice_get (children (g c)) j ≡ Some x))
      (waits : (k : ℕ) → is_waiting k waiting ≡ true → (x : Tree) × (j : ℕ) × IsNew x j × (is_some (path_in k x) ≡ true)) (shallow : IsShallow 512 after) where
    was_live : (k : ℕ) (i : Info) → later k ≡ Some i → (gone k ≡ false) × ((j : Info) × (memory k ≡ Some j))
    was_live k i e =
        let (stays, a) = not_gone (gone k) (renumbered behind from k (place k (written k))) i (sym (changes k) ∙ e) in
        let (x, b) = from_renumbered behind from k (place k (written k)) i a in
        let (y, d) = place_some k (written k) x b in
        (stays, from_cond (nat_eq k (class_of u)) (with_kept part (kept (g c)) (memory k)) (memory k) y (from_kept part (kept (g c)) (memory k)) d)

    covered : (k : ℕ) (i : Info) → later k ≡ Some i → is_some (path_in k after) ≡ true
    covered k i e = let (stays, live) = was_live k i e in elim (h.covered k live.0 live.1) [
      | inl there ↦ in_tree stays (got (path_in k t) there)
      | inr there ↦ (let (x, j, new, found_x) = waits k there in in_new x j new (got (path_in k x) found_x))
    ]
      where
        by_move : (n : Node) → path_in k t ≡ Some n → (o : Option Node) → moved_under p past n ≡ o → is_none o ≡ false → is_some (path_in k after) ≡ true
        by_move n is None moves stays = absurd cc
        by_move n is (Some m) moves stays = ap is_some (number_kept g part past IsNew keeps t p h.apart fits origins news k n m is moves)

        in_tree : gone k ≡ false → (n : Node) × (path_in k t ≡ Some n) → is_some (path_in k after) ≡ true
        in_tree stays (n, is) =
            let (v, at', number) = number_found t k n is in
            by_move n is (moved_under p past n) refl (sym (gone_old n v at') ∙ ap gone number ∙ stays)

        in_new : (x : Tree) (j : ℕ) → IsNew x j → (n : Node) × (path_in k x ≡ Some n) → is_some (path_in k after) ≡ true
        in_new x j new (n, is) =
            let (y, at', number) = number_found x k n is in
            met k after (p ++ (part, j) ∷ n) (y, new_there g part past IsNew keeps t p h.apart fits origins news memory later u c found here h.stored changed elsewhere brought x j n new ∙ at', number)

    pub keeps_after : Keeps later after None
    keeps_after = record {
      stored = stored_after g part past IsNew keeps t p h.apart fits origins news memory later u c found here h.stored changed elsewhere brought;
      apart = apart_after g part past IsNew keeps t p h.apart fits origins news;
      waits = tt;
      covered = λ k i e. inl (covered k i e);
      shallow = shallow;
    }
