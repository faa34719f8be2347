-- What an edit writes, where the indexes are passed over.
use Rattle.std.proofs.Common.{◌≡◌, ◌≤◌, ℕ, Bool, true, false, List, [], ◌∷◌, suc, cond, drop, length, nat_eq, Option, Some, None, refl, sym, ap, ◌∙◌, subst}
use Rattle.std.specs.List.{insert, remove}
use Rattle.at_model.specs.Edits.{changed_at}
use Rattle.at_store.specs.Memory.{AreAlike, Form, Info, Kept, Kids, Place, cell_in, come_to, cut_in, indexed, kids_in, numbers_in, placed, placed_in, raised, reindexed, relinked, renumbered, replaced, rewritten, taken_out, top, with_index, with_kept, with_kids, with_place, with_up}
use Rattle.at_store.proofs.of_edits.Reserved.{list_written}

relinked_index : (n part : ℕ) (f : List ℕ → List ℕ) (k : ℕ) (o : Option Info) → with_index 0 (relinked n part f k o) ≡ relinked n part f k (with_index 0 o)
relinked_index n part f k o = by_test (nat_eq k n) o
  where
    by_test : (b : Bool) (o : Option Info) → with_index 0 (cond b (with_kids part f o) o) ≡ cond b (with_kids part f (with_index 0 o)) (with_index 0 o)
    by_test true None = refl
    by_test true (Some i) = refl
    by_test false o = refl

raised_index : (n : ℕ) (up : Option (ℕ × ℕ)) (k : ℕ) (o : Option Info) → with_index 0 (raised n up k o) ≡ raised n up k (with_index 0 o)
raised_index n up k o = by_test (nat_eq k n) o
  where
    by_test : (b : Bool) (o : Option Info) → with_index 0 (cond b (with_up up o) o) ≡ cond b (with_up up (with_index 0 o)) (with_index 0 o)
    by_test true None = refl
    by_test true (Some i) = refl
    by_test false o = refl

placed_index : (n : ℕ) (place : Place) (k : ℕ) (o : Option Info) → with_index 0 (placed n place k o) ≡ raised n place.0 k (with_index 0 o)
placed_index n place k o = by_test (nat_eq k n) o
  where
    by_test : (b : Bool) (o : Option Info) → with_index 0 (cond b (with_place place o) o) ≡ cond b (with_up place.0 (with_index 0 o)) (with_index 0 o)
    by_test true None = refl
    by_test true (Some i) = refl
    by_test false o = refl

pub indexed_index : (n index k : ℕ) (o : Option Info) → with_index 0 (indexed n index k o) ≡ with_index 0 o
indexed_index n index k o = by_test (nat_eq k n) o
  where
    by_test : (b : Bool) (o : Option Info) → with_index 0 (cond b (with_index index o) o) ≡ with_index 0 o
    by_test true None = refl
    by_test true (Some i) = refl
    by_test false o = refl

renumbered_index : (ns : List ℕ) (index k : ℕ) (o : Option Info) → with_index 0 (renumbered ns index k o) ≡ with_index 0 o
renumbered_index [] index k o = refl
renumbered_index (n ∷ ns) index k o = renumbered_index ns (suc index) k (indexed n index k o) ∙ indexed_index n index k o

kids_kept : (index part : ℕ) (o : Option Info) → kids_in (with_index index o) part ≡ kids_in o part
kids_kept index part None = refl
kids_kept index part (Some i) = refl

pub kids_alike : (a b : ℕ → Option Info) → AreAlike a b → (node part : ℕ) → kids_in (a node) part ≡ kids_in (b node) part
kids_alike a b same node part = sym (kids_kept 0 part (a node)) ∙ ap (λ o. kids_in o part) (same node) ∙ kids_kept 0 part (b node)

-- what passes the indexes over
module _ (g : ℕ → Option Info → Option Info) (passes : (k : ℕ) (o : Option Info) → with_index 0 (g k o) ≡ g k (with_index 0 o)) where
  pub alike_by : (a b : ℕ → Option Info) → AreAlike a b → AreAlike (λ k. g k (a k)) (λ k. g k (b k))
  alike_by a b same k = passes k (a k) ∙ ap (g k) (same k) ∙ sym (passes k (b k))

pub placed_alike : (n : ℕ) (place : Place) (a b : ℕ → Option Info) → AreAlike a b → AreAlike (λ k. placed n place k (a k)) (λ k. placed n place k (b k))
placed_alike n place a b same k = placed_index n place k (a k) ∙ ap (raised n place.0 k) (same k) ∙ sym (placed_index n place k (b k))

-- a child goes
pub gap_alike : (parent part index : ℕ) (memory old mid new : ℕ → Option Info) → AreAlike memory old → ((k : ℕ) → mid k ≡ relinked parent part (λ ns. remove ns index) k (old k)) → AreAlike mid new →
    AreAlike (taken_out (Some (parent, part)) index memory) new
gap_alike parent part index memory old mid new same cut more k =
    let f : List ℕ → List ℕ = λ ns. remove ns index in
    renumbered_index (drop index (kids_in (cut_in parent part index memory parent) part)) index k (cut_in parent part index memory k) ∙
    alike_by (λ j o. relinked parent part f j o) (λ j o. relinked_index parent part f j o) memory old same k ∙ ap (with_index 0) (sym (cut k)) ∙ more k

-- another child comes
pub come_alike : (node part index new : ℕ) (form : Form) (kids : List ℕ) (memory old mid up later : ℕ → Option Info) → AreAlike memory old → cell_in (memory node) part ≡ Some (Kids form kids) →
    ((k : ℕ) → mid k ≡ relinked node part (λ ns. insert ns index new) k (old k)) → ((k : ℕ) → up k ≡ raised new (Some (node, part)) k (mid k)) → AreAlike up later →
    AreAlike (come_to node part index new (Kids form (insert kids index new)) memory) later
come_alike node part index new form kids memory old mid up later same here comes goes_up more k =
    let f : List ℕ → List ℕ = λ ns. insert ns index new in
    let c : Kept = Kids form (insert kids index new) in
    renumbered_index (drop index (kids_in (placed_in node part new c memory node) part)) index k (placed_in node part new c memory k) ∙
    ap (λ o. with_index 0 (raised new (Some (node, part)) k o)) (sym (list_written memory node part f form kids here k)) ∙
    alike_by (λ j o. raised new (Some (node, part)) j (relinked node part f j o))
    (λ j o. raised_index new (Some (node, part)) j (relinked node part f j o)
    ∙ ap (raised new (Some (node, part)) j) (relinked_index node part f j o)) memory old same k ∙
    ap (with_index 0) (sym (goes_up k ∙ ap (raised new (Some (node, part)) k) (comes k))) ∙ more k

-- another child in the place of one
pub put_alike : (parent part index new number : ℕ) (memory old mid up later : ℕ → Option Info) → AreAlike memory old
    → ((k : ℕ) → mid k ≡ relinked parent part (λ ns. changed_at (λ was. new) ns index) k (old k)) →
    ((k : ℕ) → up k ≡ raised new (Some (parent, part)) k (mid k)) → ((k : ℕ) → later k ≡ indexed new number k (up k)) → AreAlike (replaced (Some (parent, part)) index new memory) later
put_alike parent part index new number memory old mid up later same sets goes_up numbers k =
    let f : List ℕ → List ℕ = λ ns. changed_at (λ was. new) ns index in
    placed_index new (Some (parent, part), index) k (relinked parent part f k (memory k)) ∙
    ap (raised new (Some (parent, part)) k) (alike_by (λ j o. relinked parent part f j o) (λ j o. relinked_index parent part f j o) memory old same k ∙ ap (with_index 0) (sym (sets k))) ∙
    sym (raised_index new (Some (parent, part)) k (mid k)) ∙ ap (with_index 0) (sym (goes_up k)) ∙ sym (indexed_index new number k (up k)) ∙ ap (with_index 0) (sym (numbers k))
