-- A memory in which each node has its place among the children as its index.
use Rattle.std.proofs.Common.{◌≡◌, ◌<◌, ◌⊎◌, arith, length, ℕ, zero, suc, Bool, true, false, List, [], ◌∷◌, ◌++◌, ◌+◌, cond, nat_eq, nat_lt, option_map, Option, Some, None, inl, inr, refl, sym, ap, ◌∙◌, subst, is_some}
use Rattle.std.specs.Prelude.{map}
use Rattle.std.specs.List.{slice_get}
use Rattle.std.proofs.lemmas.Bool.{cases_eq, eq-eqb, ltb-false, ltb-true, ne_eqb}
use Rattle.at_model.specs.Trees.{Tree, cells_of, class_of, from_cells}
use Rattle.at_model.specs.Paths.{Node, tree_at, cell_at, children_at, parent_of}
use Rattle.at_model.proofs.of_edits.Moving.{Way}
use Rattle.at_model.proofs.of_edits.Surviving.{parent_is}
use Rattle.at_model.proofs.Options.{led}
use Rattle.at_model.proofs.of_edits.Untouched.{tree_at-append}
use Rattle.at_model.proofs.WithinTree.{tree_at-snoc}
use Rattle.at_store.specs.Numbers.{IsApart, path_in, relabel}
use Rattle.at_store.specs.Planting.{IsPlanted}
use Rattle.at_store.specs.Memory.{AreAlike, IsOnceAmong, StandsOnce, arranged, beside, or_first, place_among, place_in, reindexed, Info, Kept, rewritten, with_kept, IsFreed, Keeps, Place, Stored, cells_in, class_in, index_in, kept_of, kids_in, numbers_in, place_at, top, up_in, with_index}
use Rattle.slab.specs.Slab.{Slab, get}
use Rattle.at_store.specs.declared.entry.Entry.{Entry}
use Rattle.at_store.specs.View.{info_of, memory_of, stored_of, up_view, viewed}
use Rattle.at_store.proofs.Found.{got, met, number_found}
use Rattle.at_store.proofs.Looked.{absent, kept_at, same_kids}
use Rattle.at_store.proofs.Slots.{class_at}
use Rattle.at_store.proofs.of_edits.Removed.{place_below}

kids_kept : (index part : ℕ) (o : Option Info) → kids_in (with_index index o) part ≡ kids_in o part
kids_kept index part None = refl
kids_kept index part (Some i) = refl

beside_alike : (a b : ℕ → Option Info) → AreAlike a b → (up : Option (ℕ × ℕ)) → beside a up ≡ beside b up
beside_alike a b same None = refl
beside_alike a b same (Some p) = sym (kids_kept 0 p.1 (a p.0)) ∙ ap (λ o. kids_in o p.1) (same p.0) ∙ kids_kept 0 p.1 (b p.0)

pub beside_arranged : (memory : ℕ → Option Info) (up : Option (ℕ × ℕ)) → beside (arranged memory) up ≡ beside memory up
beside_arranged memory None = refl
beside_arranged memory (Some p) = by_node (memory p.0)
  where
    by_node : (o : Option Info) → kids_in (reindexed (place_in memory) p.0 o) p.1 ≡ kids_in o p.1
    by_node None = refl
    by_node (Some i) = refl

-- the indexes that were are passed over
pub arranged_alike : (a b : ℕ → Option Info) → AreAlike a b → (k : ℕ) → arranged a k ≡ arranged b k
arranged_alike a b same k = by_cases (a k) (b k) (same k)
  where
    by_cases : (o q : Option Info) → with_index 0 o ≡ with_index 0 q → reindexed (place_in a) k o ≡ reindexed (place_in b) k q
    by_cases None None e = refl
    by_cases None (Some j) e = absurd cc
    by_cases (Some i) None e = absurd cc
    by_cases (Some i) (Some j) e =
        let class : i.class ≡ j.class = ap class_at e in
        let up : i.up ≡ j.up = ap up_in e in
        let cells : i.cells ≡ j.cells = ap cells_in e in
        let index : place_in a k i.up i.index ≡ place_in b k j.up j.index = ap (λ ns. or_first (place_among k ns)) (ap (beside a) up ∙ beside_alike a b same j.up) in
        λ t. Some (record { class = class t; up = up t; index = index t; cells = cells t })

pub arranged_same : (a b : ℕ → Option Info) → ((k : ℕ) → b k ≡ a k) → (k : ℕ) → arranged b k ≡ arranged a k
arranged_same a b same = arranged_alike b a (λ k. ap (with_index 0) (same k))

-- a child whose number no other one has
pub place_of_child : (ts : List Tree) (i : ℕ) (u : Tree) → slice_get ts i ≡ Some u → ((j : ℕ) (v : Tree) → slice_get ts j ≡ Some v → class_of v ≡ class_of u → j ≡ i)
    → place_among (class_of u) (map class_of ts) ≡ Some i
place_of_child [] i u e once = absurd cc
place_of_child (t ∷ ts) zero u e once =
    let same : t ≡ u = cc in
    ap (λ b. cond b (Some 0) (option_map suc (place_among (class_of u) (map class_of ts)))) (eq-eqb (class_of u) (class_of t) (ap class_of (sym same)))
place_of_child (t ∷ ts) (suc i) u e once = elim (cases_eq (class_of u) (class_of t)) [
  | inl p ↦ (let f : zero ≡ suc i = once 0 t refl (sym p) in absurd cc)
  | inr q ↦ ap (λ b. cond b (Some 0) (option_map suc (place_among (class_of u) (map class_of ts)))) (ne_eqb (class_of u) (class_of t) q)
      ∙ ap (option_map suc) (place_of_child ts i u e (λ j v is number. let f : suc j ≡ suc i = once (suc j) v is number in cc))
]

map_there : (ts : List Tree) (i k : ℕ) → slice_get (map class_of ts) i ≡ Some k → (t : Tree) × (slice_get ts i ≡ Some t) × (class_of t ≡ k)
map_there [] i k e = absurd cc
map_there (t ∷ ts) zero k e = (t, refl, cc)
map_there (t ∷ ts) (suc i) k e = map_there ts i k e

once_among : (ts : List Tree) (i : ℕ) (u : Tree) → slice_get ts i ≡ Some u → ((j : ℕ) (v : Tree)
    → slice_get ts j ≡ Some v → class_of v ≡ class_of u → j ≡ i) → IsOnceAmong (class_of u) (map class_of ts)
once_among ts i u at' once j e = let (v, there, number) = map_there ts j (class_of u) e in ap or_first (place_of_child ts i u at' once) ∙ sym (once j v there number)

-- what was found, or not, so far
pub found_here : (ns : List ℕ) (k i : ℕ) → ((j : ℕ) → j < i → slice_get ns j ≡ Some k → ⊥) → slice_get ns i ≡ Some k → place_among k ns ≡ Some i
found_here [] k i none e = absurd cc
found_here (n ∷ ns) k zero none e =
    let same : n ≡ k = cc in
    ap (λ b. cond b (Some 0) (option_map suc (place_among k ns))) (eq-eqb k n (sym same))
found_here (n ∷ ns) k (suc i) none e = elim (cases_eq k n) [
  | inl p ↦ absurd (none zero (omega arith) (ap Some (sym p)))
  | inr q ↦ ap (λ b. cond b (Some 0) (option_map suc (place_among k ns))) (ne_eqb k n q) ∙ ap (option_map suc) (found_here ns k i (λ j less at'. none (suc j) (omega (arith, less)) at') e)
]

-- one more that is another
pub one_less_found : (ns : List ℕ) (k i n : ℕ) → ((j : ℕ) → j < i → slice_get ns j ≡ Some k → ⊥) → slice_get ns i ≡ Some n → nat_eq n k ≡ false → (j : ℕ) → j < i + 1 → slice_get ns j ≡ Some k → ⊥
one_less_found ns k i n none at' other j less e = elim (cases_eq j i) [
  | inl p ↦ (
      let same : n ≡ k = (let f : Some n ≡ Some k = sym at' ∙ ap (slice_get ns) (sym p) ∙ e in cc) in
      let f : true ≡ false = sym (eq-eqb n k same) ∙ other in absurd cc)
  | inr q ↦ none j (below j i less q) e
]
  where
    below : (j i : ℕ) → j < i + 1 → (j ≡ i → ⊥) → j < i
    below j i less q = by_order (nat_lt j i) refl
      where
        by_order : (b : Bool) → nat_lt j i ≡ b → j < i
        by_order true e = ltb-true j i e
        by_order false e = let f = ltb-false j i e in absurd (q (omega (arith, f, less)))

pub found_nowhere : (ns : List ℕ) (k : ℕ) → ((j : ℕ) → j < length ns → slice_get ns j ≡ Some k → ⊥) → place_among k ns ≡ None
found_nowhere [] k none = refl
found_nowhere (n ∷ ns) k none = elim (cases_eq k n) [
  | inl p ↦ absurd (none zero (omega arith) (ap Some (sym p)))
  | inr q ↦ ap (λ b. cond b (Some 0) (option_map suc (place_among k ns))) (ne_eqb k n q) ∙ ap (option_map suc) (found_nowhere ns k (λ j less at'. none (suc j) (omega (arith, less)) at'))
]

module _ (memory : ℕ → Option Info) (s : Tree) (stored : Stored memory top s) (apart : IsApart s) where
  -- the children of a node that is stored
  pub kids_stored : (n : Node) (u : Tree) (part : ℕ) → tree_at s n ≡ Some u → kids_in (memory (class_of u)) part ≡ map class_of (children_at u part)
  kids_stored n u part is = ap (λ o. kids_in o part) (stored n u is).is ∙ ap numbers_in (kept_at (from_cells (cells_of u)) part) ∙ same_kids (cell_at u part)

  -- a node stands among the children where its path says, and nowhere else
  pub stands_there : (n : Node) (u : Tree) → tree_at s n ≡ Some u → (o : Option (Node × Way)) → parent_of n ≡ o
      → (or_first (place_among (class_of u) (beside memory (place_at top s n).0)) ≡ (place_at top s n).1) × IsOnceAmong (class_of u) (beside memory (place_at top s n).0)
  stands_there n u is None none =
      let on_top : place_at top s n ≡ top = ap (λ (o : Option (Node × Way)). elim o [
        | None ↦ top
        | Some q ↦
            (Some ((elim (tree_at s q.0) [ None ↦ 0 | Some v ↦ class_of v ]), q.1.0), q.1.1)
      ]) none in (
        ap (λ (p : Place). or_first (place_among (class_of u) (beside memory p.0))) on_top ∙ ap (λ (p : Place). p.1) (sym on_top),
        subst (λ (p : Place). IsOnceAmong (class_of u) (beside memory p.0)) (sym on_top) (λ j e. let f : None ≡ Some (class_of u) = e in absurd cc),
      )
  stands_there n u is (Some (above, way)) under =
      let snoc : n ≡ above ++ way ∷ [] = parent_is n (above, way) under in
      let there : tree_at s (above ++ way ∷ []) ≡ Some u = ap (tree_at s) (sym snoc) ∙ is in
      let (p, found, child) = above_child above way u there in
      let stands : place_at top s n ≡ (Some (class_of p, way.0), way.1) = place_below s p n above way under found in
      let kids = kids_stored above p way.0 found in
      let once : (j : ℕ) (v : Tree) → slice_get (children_at p way.0) j ≡ Some v → class_of v ≡ class_of u → j ≡ way.1 = λ j v at' number.
      let same : above ++ (way.0, j) ∷ [] ≡ above ++ way ∷ [] = apart (above ++ (way.0, j) ∷ []) (above ++ way ∷ []) v u (tree_at-snoc s above (way.0, j) p found ∙ at') there number in
      last_same above (way.0, j) way same in (
        ap (λ (q : Place). or_first (place_among (class_of u) (beside memory q.0))) stands ∙ ap (λ ns. or_first (place_among (class_of u) ns)) kids
            ∙ ap or_first (place_of_child (children_at p way.0) way.1 u child once) ∙ ap (λ (q : Place). q.1) (sym stands),
        subst (λ (q : Place). IsOnceAmong (class_of u) (beside memory q.0)) (sym stands) (subst (λ (ns : List ℕ).
            IsOnceAmong (class_of u) ns) (sym kids) (once_among (children_at p way.0) way.1 u child once)),
      )
    where
      last_same : (front : Node) (a b : Way) → front ++ a ∷ [] ≡ front ++ b ∷ [] → a.1 ≡ b.1
      last_same [] a b e = let f : a ≡ b = cc in ap (λ (w : Way). w.1) f
      last_same (x ∷ front) a b e = let f : front ++ a ∷ [] ≡ front ++ b ∷ [] = cc in last_same front a b f

      above_child : (above : Node) (way : Way) (u : Tree) → tree_at s (above ++ way ∷ []) ≡ Some u → (p : Tree) × (tree_at s above ≡ Some p) × (slice_get (children_at p way.0) way.1 ≡ Some u)
      above_child above way u there =
          let (p, found, below) = led (λ z. tree_at z (way ∷ [])) (tree_at s above) u (sym (tree_at-append s above (way ∷ [])) ∙ there) in
          let (v, child, end) = led (λ z. tree_at z []) (slice_get (children_at p way.0) way.1) u below in
          let same : v ≡ u = cc in
          (p, found, child ∙ ap Some same)

  pub stands_once : (n : Node) (u : Tree) (k : ℕ) → tree_at s n ≡ Some u → class_of u ≡ k → StandsOnce memory k
  stands_once n u k is number = subst (StandsOnce memory) number
      (subst (λ (up : Option (ℕ × ℕ)). IsOnceAmong (class_of u) (beside memory up)) (sym (ap up_in (stored n u is).is)) (stands_there n u is (parent_of n) refl).1)

  pub arranged_itself : (n : Node) (u : Tree) → tree_at s n ≡ Some u → arranged memory (class_of u) ≡ memory (class_of u)
  arranged_itself n u is =
      let k = stored n u is in
      ap (reindexed (place_in memory) (class_of u)) k.is
      ∙ (λ t. Some (record { class = k.class; up = (place_at top s n).0; index = (stands_there n u is (parent_of n) refl).0 t; cells = kept_of u })) ∙ sym k.is

-- a memory that keeps a tree is arranged
pub arranged_kept : (memory : ℕ → Option Info) (s : Tree) → Keeps memory s None → (k : ℕ) → arranged memory k ≡ memory k
arranged_kept memory s h k = by_memory (memory k) refl
  where
    by_memory : (o : Option Info) → memory k ≡ o → arranged memory k ≡ memory k
    by_memory None e = ap (reindexed (place_in memory) k) e ∙ sym e
    by_memory (Some i) e = by_path (path_in k s) refl (h.covered k i e)
      where
        by_path : (o : Option Node) → path_in k s ≡ o → (is_some (path_in k s) ≡ true) ⊎ (false ≡ true) → arranged memory k ≡ memory k
        by_path None none (inl there) = let f : false ≡ true = sym (ap is_some none) ∙ there in absurd cc
        by_path o none (inr there) = absurd cc
        by_path (Some n) at' (inl there) =
            let (u, is, number) = number_found s k n at' in
            ap (arranged memory) (sym number) ∙ arranged_itself memory s h.stored h.apart n u is ∙ ap memory number

-- the index of a node that is there
pub stands_as_kept : (slab : Slab Entry) (k found : ℕ) (e : Entry) → get slab k ≡ Some e →
    (IsOnceAmong k (beside (memory_of slab) (up_view e.up)) → found ≡ or_first (place_among k
    (beside (memory_of slab) (up_view e.up)))) → StandsOnce (memory_of slab) k → found ≡ index_in (memory_of slab k)
stands_as_kept slab k found e is as_among once =
    let here : memory_of slab k ≡ reindexed (place_in (stored_of slab)) k (info_of (Some e)) = ap (λ o. reindexed (place_in (stored_of slab)) k (info_of o)) is in
    let up : up_in (memory_of slab k) ≡ up_view e.up = ap up_in here in
    as_among (subst (λ (u : Option (ℕ × ℕ)). IsOnceAmong k (beside (memory_of slab) u)) up once) ∙ ap (λ ns.
    or_first (place_among k ns)) (beside_arranged (stored_of slab) (up_view e.up)) ∙ sym (ap index_in here)

-- each node of a memory that keeps a tree stands once
pub once_kept : (memory : ℕ → Option Info) (s : Tree) → Keeps memory s None → (k : ℕ) → StandsOnce memory k
once_kept memory s h k = by_path (path_in k s) refl
  where
    by_path : (o : Option Node) → path_in k s ≡ o → StandsOnce memory k
    by_path None none = subst (λ (up : Option (ℕ × ℕ)). IsOnceAmong k (beside memory up)) (sym (ap up_in (absent memory s h k none))) (λ j e. let f : None ≡ Some k = e in absurd cc)
    by_path (Some n) at' = let (u, is, number) = number_found s k n at' in stands_once memory s h.stored h.apart n u k is number

-- a component that is written
pub rewritten_alike : (n part : ℕ) (c : Kept) (a b : ℕ → Option Info) → AreAlike a b → AreAlike (λ k. rewritten n part c k (a k)) (λ k. rewritten n part c k (b k))
rewritten_alike n part c a b same k = passes (a k) ∙ ap (rewritten n part c k) (same k) ∙ sym (passes (b k))
  where
    by_test : (t : Bool) (o : Option Info) → with_index 0 (cond t (with_kept part c o) o) ≡ cond t (with_kept part c (with_index 0 o)) (with_index 0 o)
    by_test true None = refl
    by_test true (Some i) = refl
    by_test false o = refl

    passes : (o : Option Info) → with_index 0 (rewritten n part c k o) ≡ rewritten n part c k (with_index 0 o)
    passes o = by_test (nat_eq k n) o

-- what is like a memory that keeps a tree shows just that
pub settled : (stored memory : ℕ → Option Info) (s : Tree) → AreAlike memory stored → Keeps memory s None → (k : ℕ) → arranged stored k ≡ memory k
settled stored memory s alike h k = sym (arranged_alike memory stored alike k) ∙ arranged_kept memory s h k

-- a memory with other indexes
pub reindexed_alike : (f : ℕ → Option (ℕ × ℕ) → ℕ → ℕ) (memory : ℕ → Option Info) → AreAlike (λ k. reindexed f k (memory k)) memory
reindexed_alike f memory k = by_node (memory k)
  where
    by_node : (o : Option Info) → with_index 0 (reindexed f k o) ≡ with_index 0 o
    by_node None = refl
    by_node (Some i) = refl

pub arranged_is : (memory : ℕ → Option Info) → AreAlike (arranged memory) memory
arranged_is memory = reindexed_alike (place_in memory) memory

class_arranged : (memory : ℕ → Option Info) (k : ℕ) → class_in (arranged memory) k ≡ class_in memory k
class_arranged memory k = by_node (memory k)
  where
    by_node : (o : Option Info) → elim (reindexed (place_in memory) k o) as (λ _. ℕ) [ None ↦ 0 | Some i ↦ i.class ] ≡ elim o as (λ _. ℕ) [ None ↦ 0 | Some i ↦ i.class ]
    by_node None = refl
    by_node (Some i) = refl

-- a number that stands outside a tree isn't among the children of a node of it
outside_kids : (memory : ℕ → Option Info) (place : Place) (x : Tree) → Stored memory place x → (k n part : ℕ)
    → is_some (path_in n x) ≡ true → is_some (path_in k x) ≡ false → place_among k (kids_in (memory n) part) ≡ None
outside_kids memory place x stored k n part inside outside =
    let (q, at') = got (path_in n x) inside in
    let (u, is, number) = number_found x n q at' in
    let kids : kids_in (memory n) part ≡ map class_of (children_at u part) =
    ap (λ j. kids_in (memory j) part) (sym number) ∙ ap (λ o. kids_in o part) (stored q u is).is
    ∙ ap numbers_in (kept_at (from_cells (cells_of u)) part) ∙ same_kids (cell_at u part) in
    ap (place_among k) kids ∙ found_nowhere (map class_of (children_at u part)) k (λ j less e.
    let (v, child, same) = map_there (children_at u part) j k e in
    let f : true ≡ false = sym (met k x (q ++ (part, j) ∷ []) (v, tree_at-snoc x q (part, j) u is ∙ child, same)) ∙ outside in absurd cc)

-- where nothing has changed but in a tree, whose nodes came or went, a number outside it stands where it stood
abbrev kids_same_in : (before after : ℕ → Option Info) → ℕ → Type 0
kids_same_in before after n = (part : ℕ) → kids_in (before n) part ≡ kids_in (after n) part

same_beside : (before after : ℕ → Option Info) (k : ℕ) (x : Tree)
    → ((n : ℕ) → is_some (path_in n x) ≡ false → kids_same_in before after n) → ((n part : ℕ) → is_some (path_in n x)
    ≡ true → place_among k (kids_in (before n) part) ≡ None × (place_among k (kids_in (after n) part) ≡ None))
    → (up : Option (ℕ × ℕ)) → place_among k (beside before up) ≡ place_among k (beside after up)
same_beside before after k x out ins None = refl
same_beside before after k x out ins (Some p) = by_test (is_some (path_in p.0 x)) refl
  where
    by_test : (b : Bool) → is_some (path_in p.0 x) ≡ b → place_among k (kids_in (before p.0) p.1) ≡ place_among k (kids_in (after p.0) p.1)
    by_test true e = (ins p.0 p.1 e).0 ∙ sym (ins p.0 p.1 e).1
    by_test false e = ap (place_among k) (out p.0 e p.1)

-- a tree that is planted is arranged
pub planted_arranged : (before after : ℕ → Option Info) (t w : Tree) → IsPlanted before after top t w → IsPlanted (arranged before) (arranged after) top t w
planted_arranged before after t w p = record {
  stored = λ n u is. (let k = p.stored n u is in record { class = k.class; is = arranged_itself after w p.stored p.apart n u is ∙ k.is });
  apart = p.apart;
  fresh = λ k e. ap (reindexed (place_in before) k) (p.fresh k e);
  rest = rest;
  classes = ap (λ (f : ℕ → ℕ). relabel f w) (λ i k. class_arranged after k i) ∙ p.classes;
}
  where
    rest : (k : ℕ) → is_some (path_in k w) ≡ false → arranged after k ≡ arranged before k
    rest k out = ap (reindexed (place_in after) k) (p.rest k out) ∙ by_node (before k)
      where
        by_node : (o : Option Info) → reindexed (place_in after) k o ≡ reindexed (place_in before) k o
        by_node None = refl
        by_node (Some i) =
            let same = same_beside after before k w (λ n e part. ap (λ o. kids_in o part) (p.rest n e))
            (λ n part e. (
              outside_kids after top w p.stored k n part e out,
              ap (λ o. place_among k (kids_in o part)) (p.fresh n e),
            )) i.up in
            λ t. Some (record { class = i.class; up = i.up; index = or_first (same t); cells = i.cells })

-- what is freed below a node is arranged
pub freed_arranged : (node : ℕ) (old new : Slab Entry) → ((f : ℕ → Option (ℕ × ℕ) → ℕ → ℕ) → IsFreed node (viewed f old) (viewed f new)) → IsFreed node (memory_of old) (memory_of new)
freed_arranged node old new freed place x same apart stored k = arranged_so (stored_of new k) refl ∙ gone k
  where
    f : ℕ → Option (ℕ × ℕ) → ℕ → ℕ
    f = place_in (stored_of old)

    gone : (k : ℕ) → viewed (place_in (stored_of old)) new k ≡ cond (is_some (path_in k x)) None (memory_of old k)
    gone = freed (place_in (stored_of old)) place x same apart stored

    kids_viewed : (s : Slab Entry) (n part : ℕ) → kids_in (viewed (place_in (stored_of old)) s n) part ≡ kids_in (stored_of s n) part
    kids_viewed s n part = by_node (stored_of s n)
      where
        by_node : (o : Option Info) → kids_in (reindexed (place_in (stored_of old)) n o) part ≡ kids_in o part
        by_node None = refl
        by_node (Some i) = refl

    arranged_so : (o : Option Info) → stored_of new k ≡ o → memory_of new k ≡ viewed (place_in (stored_of old)) new k
    arranged_so None e = ap (reindexed (place_in (stored_of new)) k) e ∙ sym (ap (reindexed (place_in (stored_of old)) k) e)
    arranged_so (Some i) e = ap (reindexed (place_in (stored_of new)) k) e ∙ by_test (is_some (path_in k x)) refl ∙ sym (ap (reindexed (place_in (stored_of old)) k) e)
      where
        here : viewed (place_in (stored_of old)) new k ≡ reindexed (place_in (stored_of old)) k (Some i)
        here = ap (reindexed (place_in (stored_of old)) k) e

        by_test : (b : Bool) → is_some (path_in k x) ≡ b → reindexed (place_in (stored_of new)) k (Some i) ≡ reindexed (place_in (stored_of old)) k (Some i)
        by_test true inside = let g : None ≡ Some _ = sym (ap (λ b. cond b None (memory_of old k)) inside) ∙ sym (gone k) ∙ here in absurd cc
        by_test false out =
            let same_place = same_beside (stored_of new) (stored_of old) k x
            (λ n e part. sym (kids_viewed new n part) ∙ ap (λ o. kids_in o part) (gone n ∙ ap (λ b. cond b None (memory_of old n)) e) ∙ kids_viewed old n part)
            (λ n part e. (
              ap (place_among k) (sym (kids_viewed new n part) ∙ ap (λ o. kids_in o part) (gone n ∙ ap (λ b. cond b None (memory_of old n)) e)),
              ap (place_among k) (sym (kids_viewed old n part)) ∙ outside_kids (memory_of old) place x stored k n part e out,
            )) i.up in
            λ t. Some (record { class = i.class; up = i.up; index = or_first (same_place t); cells = i.cells })

-- what is freed, with the numbers in the place of indexes
pub freed_stored : (node : ℕ) (old new : Slab Entry) → ((f : ℕ → Option (ℕ × ℕ) → ℕ → ℕ) → IsFreed node (viewed f old) (viewed f new)) → IsFreed node (stored_of old) (stored_of new)
freed_stored node old new freed = subst (λ (m : ℕ → Option Info). IsFreed node m (stored_of new)) (as_stored old)
    (subst (λ (m : ℕ → Option Info). IsFreed node (viewed itself old) m) (as_stored new) (freed itself))
  where
    itself : ℕ → Option (ℕ × ℕ) → ℕ → ℕ
    itself k up index = index

    by_node : (k : ℕ) (o : Option Info) → reindexed itself k o ≡ o
    by_node k None = refl
    by_node k (Some i) = refl

    as_stored : (s : Slab Entry) → viewed itself s ≡ stored_of s
    as_stored s = λ i k. by_node k (stored_of s k) i
