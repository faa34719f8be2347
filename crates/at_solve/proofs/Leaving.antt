-- The last group is a component.
use Rattle.std.proofs.Common.{◌≡◌, ℕ, zero, suc, ◌+◌, ◌<◌, ◌≤◌, ◌⊎◌, inl, inr, List, [], ◌∷◌, ◌++◌, length, refl, ap, sym, ◌∙◌, subst, arith, true≢false, Bool, true, false, Some, Global}
use Rattle.std.specs.Prelude.{drop, take, get_or, slice_get, Vec, unwrap_or}
use Rattle.at_model.specs.Meaning.{Among}
use Rattle.std.proofs.lemmas.List.{length-take}
use Rattle.std.specs.Prelude.{min}
use Rattle.at_solve.specs.declared.search.Group.{Group}
use Rattle.at_solve.specs.declared.search.Mark.{Mark}
use Rattle.at_solve.specs.declared.search.Mark.TheVariants.{Unmet, OnPath, Listed}
use Rattle.at_solve.specs.declared.search.Search.{Search}
use Rattle.at_solve.specs.Components.{listed_at, IsEdge, Leads}
use Rattle.at_solve.specs.Searching.{At, Belongs, HasListed, IsFound, IsGoneTo, IsPath, Searches, cost_from, is_unmet, mark_at, weight}
use Rattle.at_solve.proofs.SpreadingLemmas.{same_or}
use Rattle.at_solve.proofs.Places.{at_within, at_once, at_take, at_taken, among_dropped, dropped_at}
use Rattle.at_solve.proofs.Entering.{path_at, found_at}
use Rattle.at_solve.proofs.Merging.{before_or_behind}

among_or : (u : ℕ) (xs : List ℕ) → Among u xs ⊎ (Among u xs → ⊥)
among_or u [] = inr (λ h. h)
among_or u (x ∷ xs) = elim (same_or u x) [
  | inl e ↦ inl (inl e)
  | inr other ↦ elim (among_or u xs) [
    | inl h ↦ inl (inr h)
    | inr off ↦ inr (elim [ inl e ↦ other e | inr h ↦ off h ])
  ]
]

abbrev place_of : Mark → ℕ
place_of Unmet = 0
place_of (OnPath q) = q
place_of Listed = 0

abbrev is_listed : Mark → Bool
is_listed Unmet = false
is_listed (OnPath q) = false
is_listed Listed = true

-- the lists with one more
pub list_front : {Y : Type 0} (lists : List (Vec ℕ Y)) (v : Vec ℕ Y) (k : ℕ) → k < length lists → listed_at (lists ++ v ∷ []) k ≡ listed_at lists k
list_front [] v k less = absurd (omega (arith, less))
list_front (w ∷ ws) v zero less = refl
list_front (w ∷ ws) v (suc k) less = list_front ws v k (omega (arith, less))

pub list_last : {Y : Type 0} (lists : List (Vec ℕ Y)) (v : Vec ℕ Y) → listed_at (lists ++ v ∷ []) (length lists) ≡ v.items
list_last [] v = refl
list_last (w ∷ ws) v = list_last ws v

list_within : {Y : Type 0} (lists : List (Vec ℕ Y)) (u k : ℕ) → Among u (listed_at lists k) → k < length lists
list_within [] u k h = absurd h
list_within (w ∷ ws) u zero h = omega arith
list_within (w ∷ ws) u (suc k) h = omega (arith, list_within ws u k h)

-- in one of the lists before, or in the last one
list_or : {Y : Type 0} (lists : List (Vec ℕ Y)) (v : Vec ℕ Y) (u k : ℕ) → Among u (listed_at (lists ++ v ∷ []) k) → (Among u (listed_at lists k) × (k < length lists)) ⊎ (Among u v.items × (k ≡ length lists))
list_or [] v u zero h = inr (h, refl)
list_or [] v u (suc k) h = absurd h
list_or (w ∷ ws) v u zero h = inl (h, omega arith)
list_or (w ∷ ws) v u (suc k) h = elim (list_or ws v u k h) [ inl (a, less) ↦ inl (a, omega (arith, less)) | inr (a, is) ↦ inr (a, ap suc is) ]

at_mark : (marks : List Mark) (u : ℕ) → u < length marks → mark_at marks u ≡ Listed → At marks u Listed
at_mark [] u less is = absurd (omega (arith, less))
at_mark (m ∷ ms) zero less is = ap Some is
at_mark (m ∷ ms) (suc u) less is = at_mark ms u (omega (arith, less)) is

module _ {Y Z : Type 0} (edges : List (Vec ℕ Z)) (n : ℕ) (marks new : List Mark) (path todo : List ℕ) (groups : List Group) (lists : List (Vec ℕ Y)) (list : Vec ℕ Y) (k : ℕ) (group : Group)
    (s : IsPath edges n (λ w. ⊥) marks path todo groups) (f : IsFound edges n marks lists) (is_last : At groups k group) (count : length groups ≡ k + 1) (none : length todo ≤ group.todo)
    (size : length new ≡ length marks) (marked : (u : ℕ) → Among u (drop group.nodes path) → At new u Listed)
    (others : (u : ℕ) → (Among u (drop group.nodes path) → ⊥) → slice_get new u ≡ slice_get marks u) (items : list.items ≡ drop group.nodes path) where
  abbrev part : List ℕ
  part = drop group.nodes path

  abbrev front : List ℕ
  front = take group.nodes path

  abbrev fewer : List Group
  fewer = take k groups

  old : (l : ℕ) (g : Group) → At fewer l g → At groups l g × (l < k)
  old l g h = at_take groups k l g h

  before : (i u : ℕ) → At front i u → At path i u × (i < group.nodes)
  before i u h = at_take path group.nodes i u h

  on_part : (u : ℕ) → Among u part → (i : ℕ) × (group.nodes ≤ i) × At path i u
  on_part u h = dropped_at path group.nodes u h

  -- it is one of the groups before, or that one
  each : (P : Group → Type 0) → ((l : ℕ) (g : Group) → At fewer l g → P g) → P group → (l : ℕ) (g : Group) → At groups l g → P g
  each P left here l g a = elim (before_or_behind l k) [
    | inl less ↦ left l g (at_taken groups k l g a less)
    | inr from ↦ let same : l ≡ k = omega (arith, from, at_within groups l g a, count) in
        subst P (at_once groups k group g is_last (subst (λ z. At groups z g) same a)) here
  ]

  -- what isn't in the part stays
  not_there : (p u : ℕ) → At path p u → p < group.nodes → Among u part → ⊥
  not_there p u at less h = let (i, from, stood) = on_part u h in
      omega (arith, ap place_of (at_once marks u (OnPath p) (OnPath i) (s.placed p u at) (s.placed i u stood)), from, less)

  placed_then : (p u : ℕ) → At front p u → At new u (OnPath p)
  placed_then p u h = let (at, less) = before p u h in others u (not_there p u at less) ∙ s.placed p u at

  unlisted : {p : ℕ} → Listed ≡ OnPath p → ⊥
  unlisted is = true≢false (ap is_listed is)

  stands_then : (u p : ℕ) → At new u (OnPath p) → At front p u
  stands_then u p h = elim (among_or u part) [
    | inl in_part ↦ absurd (unlisted (at_once new u Listed (OnPath p) (marked u in_part) h))
    | inr off ↦ let at = s.stands u p (sym (others u off) ∙ h) in elim (before_or_behind p group.nodes) [
      | inl less ↦ at_taken path group.nodes p u at less
      | inr from ↦ absurd (off (among_dropped path group.nodes p u at from))
    ]
  ]

  listed_then : (w : ℕ) → mark_at marks w ≡ Listed → mark_at new w ≡ Listed
  listed_then w is = elim (among_or w part) [
    | inl in_part ↦ ap (λ o. unwrap_or o Listed) (marked w in_part)
    | inr off ↦ ap (λ o. unwrap_or o Listed) (others w off) ∙ is
  ]

  gone_then : (i u w : ℕ) → At front i u → IsEdge edges u w → w < n → ⊥ ⊎ IsGoneTo new front todo fewer i w
  gone_then i u w h edge less = let (at, first) = before i u h in inr (elim (s.gone i u w at edge less) [
    | inl off ↦ absurd off
    | inr (inl is) ↦ inl (listed_then w is)
    | inr (inr (inl (p, stood, reach))) ↦ elim (before_or_behind p group.nodes) [
      | inl left ↦ inr (inl (p, at_taken path group.nodes p w stood left, λ l g a. reach l g (old l g a).0))
      | inr from ↦ inl (ap (λ o. unwrap_or o Listed) (marked w (among_dropped path group.nodes p w stood from)))
    ]
    | inr (inr (inr (q, waited, reach))) ↦ inr (inr (q, waited, λ l g a. reach l g (old l g a).0))
  ])

  from_then : (q w : ℕ) → At todo q w → (i : ℕ) × (u : ℕ) × At front i u × IsEdge edges u w × Belongs fewer i q
  from_then q w waited = let (i, u, at, edge, one) = s.from q w waited in elim (one k group is_last) [
    | inl (late, behind) ↦ absurd (omega (arith, late, none, at_within todo q w waited))
    | inr (early, front_of) ↦ (i, u, at_taken path group.nodes i u at front_of, edge, λ l g a. one l g (old l g a).0)
  ]

  min_left : (a b : ℕ) → a < b → min a b ≡ a
  min_left a b less = omega (arith, less)

  front_length : length front ≡ group.nodes
  front_length = length-take group.nodes path ∙ min_left group.nodes (length path) (s.within k group is_last).0

  pub left_path : IsPath edges n (λ w. ⊥) new front todo fewer
  left_path = record {
    placed = placed_then;
    stands = stands_then;
    on = λ i j u v from a b. s.on i j u v from (before i u a).0 (before j v b).0;
    back = λ i j u v from one a b. s.back i j u v from (each (λ g. (g.nodes ≤ i) ⊎ (j < g.nodes)) one (inr (before j v b).1)) (before i u a).0 (before j v b).0;
    gone = gone_then;
    from = from_then;
    within = λ l g a. (omega (arith, (s.rising l k g group (old l g a).1 (old l g a).0 is_last).0, front_length), (s.within l g (old l g a).0).1);
    rising = λ l m g h less a b. s.rising l m g h less (old l g a).0 (old m h b).0;
    begins = λ i u h. let (at, less) = before i u h in let (l, g, a, is) = s.begins i u at in elim (before_or_behind l k) [
      | inl left ↦ (l, g, at_taken groups k l g a left, is)
      | inr from ↦ let same : l ≡ k = omega (arith, from, at_within groups l g a, count) in
          absurd (omega (arith, less, is, ap (λ (z : Group). z.nodes) (at_once groups k group g is_last (subst (λ z. At groups z g) same a))))
    ];
  }

  in_list : (u : ℕ) → Among u part → Among u (listed_at (lists ++ list ∷ []) (length lists))
  in_list u h = subst (Among u) (sym (list_last lists list ∙ items)) h

  in_front : (u m : ℕ) → Among u (listed_at lists m) → Among u (listed_at (lists ++ list ∷ []) m)
  in_front u m h = subst (Among u) (sym (list_front lists list m (list_within lists u m h))) h

  both_in : (u m : ℕ) → Among u (listed_at lists m) → Among u list.items → ⊥
  both_in u m h in_it = let (i, from, at) = on_part u (subst (Among u) items in_it) in
      unlisted (at_once marks u Listed (OnPath i) (f.marked u m h) (s.placed i u at))

  joined_then : (u v : ℕ) → Among u part → Among v part → Leads edges u v
  joined_then u v h g =
      let (i, behind, at) = on_part u h in let (j, later, to) = on_part v g in
      elim (before_or_behind i j) [
        | inl less ↦ s.on i j u v (omega (arith, less)) at to
        | inr from ↦ s.back j i v u from (each (λ z. (z.nodes ≤ j) ⊎ (i < z.nodes)) (λ l z a. inl (omega (arith, (s.rising l k z group (old l z a).1 (old l z a).0 is_last).0, later))) (inl later)) to at
      ]

  behind_then : (u v : ℕ) → Among u part → IsEdge edges u v → v < n → (l : ℕ) × (l ≤ length lists) × Among v (listed_at (lists ++ list ∷ []) l)
  behind_then u v h edge less = let (i, from, at) = on_part u h in elim (s.gone i u v at edge less) [
    | inl off ↦ absurd off
    | inr (inl is) ↦ let (l, in_it) = f.listed v (at_mark marks v (omega (arith, less, f.size)) is) in (l, omega (arith, list_within lists v l in_it), in_front v l in_it)
    | inr (inr (inl (p, stood, reach))) ↦ (length lists, omega arith, in_list v (among_dropped path group.nodes p v stood (reach k group is_last from)))
    | inr (inr (inr (q, waited, reach))) ↦ absurd (omega (arith, reach k group is_last from, none, at_within todo q v waited))
  ]

  pub left_found : IsFound edges n new (lists ++ list ∷ [])
  left_found = record {
    size = size ∙ f.size;
    listed = λ u h. elim (among_or u part) [
      | inl in_part ↦ (length lists, in_list u in_part)
      | inr off ↦ let (l, in_it) = f.listed u (sym (others u off) ∙ h) in (l, in_front u l in_it)
    ];
    marked = λ u m h. elim (list_or lists list u m h) [
      | inl (in_it, less) ↦ elim (among_or u part) [
        | inl in_part ↦ marked u in_part
        | inr off ↦ others u off ∙ f.marked u m in_it
      ]
      | inr (in_it, is) ↦ marked u (subst (Among u) items in_it)
    ];
    once = λ u m l h g. elim (list_or lists list u m h) [
      | inl (a, less) ↦ elim (list_or lists list u l g) [
        | inl (b, more) ↦ f.once u m l a b
        | inr (b, is) ↦ absurd (both_in u m a b)
      ]
      | inr (a, is) ↦ elim (list_or lists list u l g) [
        | inl (b, more) ↦ absurd (both_in u l b a)
        | inr (b, at) ↦ is ∙ sym at
      ]
    ];
    joined = λ u v m h g. elim (list_or lists list u m h) [
      | inl (a, less) ↦ elim (list_or lists list v m g) [
        | inl (b, more) ↦ f.joined u v m a b
        | inr (b, is) ↦ absurd (omega (arith, less, is))
      ]
      | inr (a, is) ↦ elim (list_or lists list v m g) [
        | inl (b, more) ↦ absurd (omega (arith, more, is))
        | inr (b, at) ↦ joined_then u v (subst (Among u) items a) (subst (Among v) items b)
      ]
    ];
    behind = λ u v m h edge less. elim (list_or lists list u m h) [
      | inl (a, few) ↦ let (l, most, in_it) = f.behind u v m a edge less in (l, most, in_front v l in_it)
      | inr (a, is) ↦ let (l, most, in_it) = behind_then u v (subst (Among u) items a) edge less in (l, omega (arith, most, is), in_it)
    ];
  }

-- one more of them is listed
pub one_more_listed : (nodes : List ℕ) (n d : ℕ) (old mid new : List Mark) → n < length nodes → HasListed (take n nodes) old mid → length new ≡ length mid
    → (get_or nodes n d < length mid → At new (get_or nodes n d) Listed) → ((u : ℕ) → (u ≡ get_or nodes n d → ⊥) → slice_get new u ≡ slice_get mid u)
    → HasListed (take (n + 1) nodes) old new
one_more_listed nodes n d old mid new less s size here others = record {
  size = size ∙ s.size;
  listed = λ u h room. elim (same_or u (get_or nodes n d)) [
    | inl e ↦ subst (λ z. At new z Listed) (sym e) (here (omega (arith, s.size, ap (λ z. z) e, room)))
    | inr other ↦ others u other ∙ s.listed u (fewer_of nodes n u (λ e. other e) h) room
  ];
  others = λ u off. others u (λ e. off (last_of nodes n u less e)) ∙ s.others u (λ h. off (more_of nodes n u h));
}
  where
    fewer_of : (xs : List ℕ) (m u : ℕ) → (u ≡ get_or xs m d → ⊥) → Among u (take (m + 1) xs) → Among u (take m xs)
    fewer_of xs m u other h = let next : m + 1 ≡ suc m = omega arith in by xs m other (subst (λ k. Among u (take k xs)) next h)
      where
        by : (xs : List ℕ) (m : ℕ) → (u ≡ get_or xs m d → ⊥) → Among u (take (suc m) xs) → Among u (take m xs)
        by [] m other h = absurd h
        by (x ∷ xs) zero other (inl e) = absurd (other e)
        by (x ∷ xs) zero other (inr h) = absurd h
        by (x ∷ xs) (suc m) other (inl e) = inl e
        by (x ∷ xs) (suc m) other (inr h) = inr (by xs m other h)

    more_of : (xs : List ℕ) (m u : ℕ) → Among u (take m xs) → Among u (take (m + 1) xs)
    more_of xs m u h = let next : suc m ≡ m + 1 = omega arith in subst (λ k. Among u (take k xs)) next (by xs m h)
      where
        by : (xs : List ℕ) (m : ℕ) → Among u (take m xs) → Among u (take (suc m) xs)
        by [] zero h = absurd h
        by [] (suc m) h = absurd h
        by (x ∷ xs) zero h = absurd h
        by (x ∷ xs) (suc m) (inl e) = inl e
        by (x ∷ xs) (suc m) (inr h) = inr (by xs m h)

    last_of : (xs : List ℕ) (m u : ℕ) → m < length xs → u ≡ get_or xs m d → Among u (take (m + 1) xs)
    last_of xs m u room e = let next : suc m ≡ m + 1 = omega arith in subst (λ k. Among u (take k xs)) next (by xs m room e)
      where
        by : (xs : List ℕ) (m : ℕ) → m < length xs → u ≡ get_or xs m d → Among u (take (suc m) xs)
        by [] m room e = absurd (omega (arith, room))
        by (x ∷ xs) zero room e = inl e
        by (x ∷ xs) (suc m) room e = inr (by xs m (omega (arith, room)) e)

-- those of the part are on the path, so there are marks of them
part_listed : {Z : Type 0} (edges : List (Vec ℕ Z)) (n : ℕ) (marks new : List Mark) (path todo : List ℕ) (groups : List Group) (m : ℕ) → IsPath edges n (λ w. ⊥) marks path todo groups
    → HasListed (drop m path) marks new → (u : ℕ) → Among u (drop m path) → At new u Listed
part_listed edges n marks new path todo groups m s h u in_part = let (i, from, at) = dropped_at path m u in_part in
    h.listed u in_part (at_within marks u (OnPath i) (s.placed i u at))

pub left_search : {Z : Type 0} (edges : List (Vec ℕ Z)) (old new : Search) (group : Group) (k : ℕ) (list : Vec ℕ Global) → At old.groups.items k group → length old.groups.items ≡ k + 1
    → length old.todo.items ≤ group.todo → list.items ≡ drop group.nodes old.path.items → HasListed list.items old.marks.items new.marks.items
    → new.path.items ≡ take group.nodes old.path.items → new.todo.items ≡ old.todo.items → new.groups.items ≡ take k old.groups.items → new.lists.items ≡ old.lists.items ++ list ∷ []
    → Searches edges (λ w. ⊥) old → Searches edges (λ w. ⊥) new
left_search edges old new group k list is_last count none items h path todo groups lists s =
    let part : HasListed (drop group.nodes old.path.items) old.marks.items new.marks.items = subst (λ ns. HasListed ns old.marks.items new.marks.items) items h in
    let marked = part_listed edges (length edges) old.marks.items new.marks.items old.path.items old.todo.items old.groups.items group.nodes s.path part in
    record {
      path = path_at edges (length edges) (λ w. ⊥) _ new.marks.items _ new.path.items _ new.todo.items _ new.groups.items refl path todo groups
          (left_path edges (length edges) old.marks.items new.marks.items old.path.items old.todo.items old.groups.items old.lists.items list k group s.path s.found is_last count none part.size marked part.others items);
      found = found_at edges (length edges) _ new.marks.items _ new.lists.items refl lists
          (left_found edges (length edges) old.marks.items new.marks.items old.path.items old.todo.items old.groups.items old.lists.items list k group s.path s.found is_last count none part.size marked part.others items);
    }

pub left_met : {Z : Type 0} (edges : List (Vec ℕ Z)) (old : Search) (new : List Mark) (group : Group) (list : Vec ℕ Global) → list.items ≡ drop group.nodes old.path.items
    → HasListed list.items old.marks.items new → Searches edges (λ w. ⊥) old → (u : ℕ) → is_unmet (mark_at old.marks.items u) ≡ false → is_unmet (mark_at new u) ≡ false
left_met edges old new group list items h s u met =
    let part : HasListed (drop group.nodes old.path.items) old.marks.items new = subst (λ ns. HasListed ns old.marks.items new) items h in
    elim (among_or u (drop group.nodes old.path.items)) [
      | inl in_part ↦ ap (λ o. is_unmet (unwrap_or o Listed)) (part_listed edges (length edges) old.marks.items new old.path.items old.todo.items old.groups.items group.nodes s.path part u in_part)
      | inr off ↦ ap (λ o. is_unmet (unwrap_or o Listed)) (part.others u off) ∙ met
    ]

cost_most : {Z : Type 0} (edges : List (Vec ℕ Z)) (marks new : List Mark) (n : ℕ) → length new ≡ length marks → ((u : ℕ) → (slice_get new u ≡ slice_get marks u) ⊎ At new u Listed)
    → cost_from edges new n ≤ cost_from edges marks n
cost_most edges [] [] n size each = omega arith
cost_most edges [] (m ∷ ms) n size each = absurd (omega (arith, size))
cost_most edges (m ∷ ms) [] n size each = absurd (omega (arith, size))
cost_most edges (m ∷ ms) (k ∷ ks) n size each =
    let rest = cost_most edges ms ks (suc n) (omega (arith, size)) (λ u. each (suc u)) in
    elim (each 0) [
      | inl same ↦ let is : k ≡ m = cc in rw is (omega (arith, rest))
      | inr gone ↦ let is : k ≡ Listed = cc in rw is (omega (arith, rest))
    ]

pub left_weight : {Z : Type 0} (edges : List (Vec ℕ Z)) (old new : Search) (group : Group) (k : ℕ) (list : Vec ℕ Global) → length old.groups.items ≡ k + 1
    → list.items ≡ drop group.nodes old.path.items → HasListed list.items old.marks.items new.marks.items → new.todo.items ≡ old.todo.items → new.groups.items ≡ take k old.groups.items
    → Searches edges (λ w. ⊥) old → weight edges new < weight edges old
left_weight edges old new group k list count items h todo groups s =
    let part : HasListed (drop group.nodes old.path.items) old.marks.items new.marks.items = subst (λ ns. HasListed ns old.marks.items new.marks.items) items h in
    let most = cost_most edges old.marks.items new.marks.items 0 part.size (λ u. elim (among_or u (drop group.nodes old.path.items)) [
      | inl in_part ↦ inr (part_listed edges (length edges) old.marks.items new.marks.items old.path.items old.todo.items old.groups.items group.nodes s.path part u in_part)
      | inr off ↦ inl (part.others u off)
    ]) in
    let fewer : length (take k old.groups.items) ≤ k = omega (arith, length-take k old.groups.items) in
    omega (arith, most, fewer, count, ap length todo, ap length groups)
