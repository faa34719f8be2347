-- One more group on the path.
use Rattle.std.proofs.Common.{◌≡◌, ℕ, zero, suc, ◌+◌, ◌<◌, ◌≤◌, ◌⊎◌, inl, inr, List, [], ◌∷◌, ◌++◌, length, length-append, refl, ap, sym, ◌∙◌, subst, arith, true≢false, Bool, true, false, Option, Some, None}
use Rattle.std.specs.Prelude.{set, slice_get, Vec, unwrap_or}
use Rattle.at_model.specs.Meaning.{Among}
use Rattle.at_solve.specs.declared.search.Group.{Group}
use Rattle.at_solve.specs.declared.search.Mark.{Mark}
use Rattle.at_solve.specs.declared.search.Mark.TheVariants.{Unmet, OnPath, Listed}
use Rattle.std.proofs.lemmas.List.{length-set}
use Rattle.at_solve.specs.declared.search.Search.{Search}
use Rattle.at_solve.specs.Components.{listed_at, IsEdge, Leads, stays, goes}
use Rattle.at_solve.specs.Searching.{At, Belongs, IsFound, IsGoneTo, IsPath, LeadsFromLast, Reaches, Searches, Together, cost_from, is_unmet, mark_at, weight}
use Rattle.at_solve.proofs.SpreadingLemmas.{same_or}
use Rattle.at_solve.proofs.Places.{at_within, at_once, at_front, at_last, at_or, at_or_last, at_behind, set_here, set_there}

pub further : {Z : Type 0} (edges : List (Vec ℕ Z)) (u v w : ℕ) → Leads edges u v → IsEdge edges v w → Leads edges u w
further edges u v w (stays _) e = goes u w w e (stays w)
further edges u v w (goes _ m _ first more) e = goes u m w first (further edges m v w more e)

pub onward : {Z : Type 0} (edges : List (Vec ℕ Z)) (u v w : ℕ) → Leads edges u v → Leads edges v w → Leads edges u w
onward edges u v w (stays _) more = more
onward edges u v w (goes _ m _ first rest) more = goes u m w first (onward edges m v w rest more)

-- each on the path leads to that one
pub lead_to : {Z : Type 0} (edges : List (Vec ℕ Z)) (n : ℕ) (Next : ℕ → Type 0) (marks : List Mark) (path todo : List ℕ) (groups : List Group) → IsPath edges n Next marks path todo groups
    → (m u : ℕ) → At path m u → ((k : ℕ) (g : Group) → At groups k g → g.nodes ≤ m) → (i v : ℕ) → At path i v → Leads edges v u
lead_to edges n Next marks path todo groups s m u stands last i v at = by (before i m)
  where
    before : (i m : ℕ) → (i ≤ m) ⊎ (m ≤ i)
    before zero m = inl (omega arith)
    before (suc i) zero = inr (omega arith)
    before (suc i) (suc m) = elim (before i m) [ inl l ↦ inl (omega (arith, l)) | inr l ↦ inr (omega (arith, l)) ]

    by : (i ≤ m) ⊎ (m ≤ i) → Leads edges v u
    by (inl l) = s.on i m v u l at stands
    by (inr l) = s.back m i u v l (λ k g h. inl (last k g h)) stands at

module _ {Z : Type 0} (edges : List (Vec ℕ Z)) (n : ℕ) (Next : ℕ → Type 0) (marks : List Mark) (path todo : List ℕ) (groups : List Group) (node : ℕ) (group : Group)
    (s : IsPath edges n Next marks path todo groups) (next : (w : ℕ) → Next w → w ≡ node) (unmet : At marks node Unmet) (lead : LeadsFromLast edges path groups node)
    (nodes : group.nodes ≡ length path) (waits : group.todo ≡ length todo) where
  -- what is known then, the path, and what is to be looked at
  abbrev marked : List Mark
  marked = set marks node (OnPath (length path))

  abbrev longer : List ℕ
  longer = path ++ node ∷ []

  abbrev later : List ℕ
  later = todo ++ listed_at edges node

  abbrev more : List Group
  more = groups ++ group ∷ []

  not_node : (p u : ℕ) → At path p u → u ≡ node → ⊥
  not_node p u at e = unlike (at_once marks node Unmet (OnPath p) unmet (subst (λ z. At marks z (OnPath p)) e (s.placed p u at)))
    where
      unlike : Unmet ≡ OnPath p → ⊥
      unlike is = true≢false (ap is_unmet is)

  placed_then : (p u : ℕ) → At longer p u → At marked u (OnPath p)
  placed_then p u at = elim (at_or_last path node p u at) [
    | inl h ↦ set_there marks node u (OnPath (length path)) (not_node p u h) ∙ s.placed p u h
    | inr (is, e) ↦ subst (λ z. At marked z (OnPath p)) (sym e) (subst (λ q. At marked node (OnPath q)) (sym is) (set_here marks node (OnPath (length path)) (at_within marks node Unmet unmet)))
  ]

  stands_then : (u p : ℕ) → At marked u (OnPath p) → At longer p u
  stands_then u p h = elim (same_or u node) [
    | inl e ↦ subst (λ z. At longer p z) (sym e) (subst (λ q. At longer q node) (place (at_once marked node (OnPath (length path)) (OnPath p) (set_here marks node (OnPath (length path)) (at_within marks node Unmet unmet)) (subst (λ z. At marked z (OnPath p)) e h))) (at_last path node))
    | inr other ↦ at_front path (node ∷ []) p u (s.stands u p (sym (set_there marks node u (OnPath (length path)) other) ∙ h))
  ]
    where
      place_of : Mark → ℕ
      place_of Unmet = 0
      place_of (OnPath q) = q
      place_of Listed = 0

      place : OnPath (length path) ≡ OnPath p → length path ≡ p
      place is = ap place_of is

  -- a place before the end of the path is that of a node that was there
  before_then : (i u : ℕ) → At longer i u → i < length path → At path i u
  before_then i u at less = elim (at_or_last path node i u at) [ inl h ↦ h | inr (is, e) ↦ absurd (omega (arith, less, is)) ]

  leads_node : (i u : ℕ) → At path i u → Leads edges u node
  leads_node i u at = elim lead [
    | inl none ↦ absurd (empty (subst (λ ps. At ps i u) none at))
    | inr (m, v, stood, edge, last) ↦ further edges u v node (lead_to edges n Next marks path todo groups s m v stood last i u at) edge
  ]
    where
      empty : At [] i u → ⊥
      empty e = cc

  on_then : (i j u v : ℕ) → i ≤ j → At longer i u → At longer j v → Leads edges u v
  on_then i j u v from at to = elim (at_or_last path node j v to) [
    | inl h ↦ s.on i j u v from (before_then i u at (omega (arith, from, at_within path j v h))) h
    | inr (is, e) ↦ subst (Leads edges u) (sym e) (elim (at_or_last path node i u at) [
      | inl h ↦ leads_node i u h
      | inr (at_end, f) ↦ subst (λ z. Leads edges z node) (sym f) (stays node)
    ])
  ]

  old_group : (k : ℕ) (g : Group) → At groups k g → At more k g
  old_group k g at = at_front groups (group ∷ []) k g at

  back_then : (i j u v : ℕ) → i ≤ j → Together more i j → At longer i u → At longer j v → Leads edges v u
  back_then i j u v from one at to = elim (at_or_last path node j v to) [
    | inl h ↦ s.back i j u v from (λ k g a. one k g (old_group k g a)) (before_then i u at (omega (arith, from, at_within path j v h))) h
    | inr (is, e) ↦ elim (one (length groups) group (at_last groups group)) [
      | inr behind ↦ absurd (omega (arith, behind, nodes, is))
      | inl before ↦ elim (at_or_last path node i u at) [
        | inl h ↦ absurd (omega (arith, before, nodes, at_within path i u h))
        | inr (at_end, f) ↦ subst (Leads edges v) (sym f) (subst (λ z. Leads edges z node) (sym e) (stays node))
      ]
    ]
  ]

  -- each of the groups then begins at or before that place, if those before do
  all_then : (P : Group → Type 0) → ((k : ℕ) (g : Group) → At groups k g → P g) → P group → (k : ℕ) (g : Group) → At more k g → P g
  all_then P old new k g at = elim (at_or_last groups group k g at) [ inl h ↦ old k g h | inr (is, e) ↦ subst P (sym e) new ]

  gone_then : (i u w : ℕ) → At longer i u → IsEdge edges u w → w < n → ⊥ ⊎ IsGoneTo marked longer later more i w
  gone_then i u w at edge less = inr (elim (at_or_last path node i u at) [
    | inl h ↦ elim (s.gone i u w h edge less) [
      | inl looked ↦ inr (inl (
        length path,
        subst (At longer (length path)) (sym (next w looked)) (at_last path node),
        all_then (λ g. g.nodes ≤ i → g.nodes ≤ length path) (λ k g a l. omega (arith, (s.within k g a).0)) (λ l. omega (arith, nodes)),
      ))
      | inr (inl is) ↦ inl (listed_then w is)
      | inr (inr (inl (p, stood, reach))) ↦ inr (inl (
        p,
        at_front path (node ∷ []) p w stood,
        all_then (λ g. g.nodes ≤ i → g.nodes ≤ p) reach (λ l. absurd (omega (arith, l, nodes, at_within path i u h))),
      ))
      | inr (inr (inr (q, waited, reach))) ↦ inr (inr (
        q,
        at_front todo (listed_at edges node) q w waited,
        all_then (λ g. g.nodes ≤ i → g.todo ≤ q) reach (λ l. absurd (omega (arith, l, nodes, at_within path i u h))),
      ))
    ]
    | inr (is, e) ↦ let (q, from, waited) = at_behind todo (listed_at edges node) w (subst (λ z. IsEdge edges z w) e edge) in
        inr (inr (q, waited, all_then (λ g. g.nodes ≤ i → g.todo ≤ q) (λ k g a l. omega (arith, (s.within k g a).1, from)) (λ l. omega (arith, waits, from))))
  ])
    where
      listed_then : (w : ℕ) → mark_at marks w ≡ Listed → mark_at marked w ≡ Listed
      listed_then w is = elim (same_or w node) [
        | inr other ↦ ap (λ o. unwrap_or o Listed) (set_there marks node w (OnPath (length path)) other) ∙ is
        | inl e ↦ absurd (true≢false (ap is_unmet (sym (ap (λ o. unwrap_or o Listed) unmet) ∙ subst (λ z. mark_at marks z ≡ Listed) e is)))
      ]

  from_then : (q w : ℕ) → At later q w → (i : ℕ) × (u : ℕ) × At longer i u × IsEdge edges u w × Belongs more i q
  from_then q w at = elim (at_or todo (listed_at edges node) q w at) [
    | inl h ↦ let (i, u, stood, edge, one) = s.from q w h in (
      i,
      u,
      at_front path (node ∷ []) i u stood,
      edge,
      all_then (λ g. ((g.todo ≤ q) × (g.nodes ≤ i)) ⊎ ((q < g.todo) × (i < g.nodes))) one
          (inr (omega (arith, at_within todo q w h, waits), omega (arith, at_within path i u stood, nodes))),
    )
    | inr (from, h) ↦ (
      length path,
      node,
      at_last path node,
      h,
      all_then (λ g. ((g.todo ≤ q) × (g.nodes ≤ length path)) ⊎ ((q < g.todo) × (length path < g.nodes)))
          (λ k g a. inl (omega (arith, (s.within k g a).1, from), omega (arith, (s.within k g a).0))) (inl (omega (arith, waits, from), omega (arith, nodes))),
    )
  ]

  within_then : (k : ℕ) (g : Group) → At more k g → (g.nodes < length longer) × (g.todo ≤ length later)
  within_then = all_then (λ g. (g.nodes < length longer) × (g.todo ≤ length later))
      (λ k g a. (omega (arith, (s.within k g a).0, length-append path (node ∷ [])), omega (arith, (s.within k g a).1, length-append todo (listed_at edges node))))
      (omega (arith, nodes, length-append path (node ∷ [])), omega (arith, waits, length-append todo (listed_at edges node)))

  rising_then : (k l : ℕ) (g h : Group) → k < l → At more k g → At more l h → (g.nodes < h.nodes) × (g.todo ≤ h.todo)
  rising_then k l g h less at to = elim (at_or_last groups group l h to) [
    | inl b ↦ elim (at_or_last groups group k g at) [
      | inl a ↦ s.rising k l g h less a b
      | inr (is, e) ↦ absurd (omega (arith, less, is, at_within groups l h b))
    ]
    | inr (is, e) ↦ elim (at_or_last groups group k g at) [
      | inl a ↦ subst (λ z. (g.nodes < z.nodes) × (g.todo ≤ z.todo)) (sym e) (omega (arith, (s.within k g a).0, nodes), omega (arith, (s.within k g a).1, waits))
      | inr (at_end, f) ↦ absurd (omega (arith, less, is, at_end))
    ]
  ]

  begins_then : (i u : ℕ) → At longer i u → (k : ℕ) × (g : Group) × At more k g × (g.nodes ≡ 0)
  begins_then i u at = by path refl
    where
      by : (ps : List ℕ) → path ≡ ps → (k : ℕ) × (g : Group) × At more k g × (g.nodes ≡ 0)
      by [] is = (length groups, group, at_last groups group, nodes ∙ ap length is)
      by (p ∷ ps) is = let (k, g, a, zero_at) = s.begins 0 p (ap (λ qs. slice_get qs 0) is) in (k, g, old_group k g a, zero_at)

  pub entered : IsPath edges n (λ w. ⊥) marked longer later more
  entered = record {
    placed = placed_then;
    stands = stands_then;
    on = on_then;
    back = back_then;
    gone = gone_then;
    from = from_then;
    within = within_then;
    rising = rising_then;
    begins = begins_then;
  }

-- what was found stays found where a node is marked that wasn't met
pub found_still : {Y Z : Type 0} (edges : List (Vec ℕ Z)) (n : ℕ) (marks : List Mark) (lists : List (Vec ℕ Y)) (node p : ℕ) → At marks node Unmet → IsFound edges n marks lists
    → IsFound edges n (set marks node (OnPath p)) lists
found_still edges n marks lists node p unmet f = record {
  size = length-set marks node (OnPath p) ∙ f.size;
  listed = λ u h. elim (same_or u node) [
    | inl e ↦ absurd (unlike (at_once (set marks node (OnPath p)) node (OnPath p) Listed (set_here marks node (OnPath p) (at_within marks node Unmet unmet)) (subst (λ z. At (set marks node (OnPath p)) z Listed) e h)))
    | inr other ↦ f.listed u (sym (set_there marks node u (OnPath p) other) ∙ h)
  ];
  marked = λ u k h. elim (same_or u node) [
    | inl e ↦ absurd (true≢false (ap is_unmet (at_once marks node Unmet Listed unmet (subst (λ z. At marks z Listed) e (f.marked u k h)))))
    | inr other ↦ set_there marks node u (OnPath p) other ∙ f.marked u k h
  ];
  once = f.once;
  joined = f.joined;
  behind = f.behind;
}
  where
    on_path : Mark → Bool
    on_path Unmet = false
    on_path (OnPath q) = true
    on_path Listed = false

    unlike : OnPath p ≡ Listed → ⊥
    unlike is = true≢false (ap on_path is)

-- the same under other names
pub path_at : {Z : Type 0} (edges : List (Vec ℕ Z)) (n : ℕ) (Next : ℕ → Type 0) (m m2 : List Mark) (p p2 t t2 : List ℕ) (g g2 : List Group)
    → m2 ≡ m → p2 ≡ p → t2 ≡ t → g2 ≡ g → IsPath edges n Next m p t g → IsPath edges n Next m2 p2 t2 g2
path_at edges n Next m m2 p p2 t t2 g g2 em ep et eg h = subst (λ z. IsPath edges n Next z p2 t2 g2) (sym em) (subst (λ z. IsPath edges n Next m z t2 g2) (sym ep)
    (subst (λ z. IsPath edges n Next m p z g2) (sym et) (subst (IsPath edges n Next m p t) (sym eg) h)))

pub found_at : {Y Z : Type 0} (edges : List (Vec ℕ Z)) (n : ℕ) (m m2 : List Mark) (l l2 : List (Vec ℕ Y)) → m2 ≡ m → l2 ≡ l → IsFound edges n m l → IsFound edges n m2 l2
found_at edges n m m2 l l2 em el h = subst (λ z. IsFound edges n z l2) (sym em) (subst (IsFound edges n m) (sym el) h)

pub entered_search : {Z : Type 0} (edges : List (Vec ℕ Z)) (old new : Search) (node : ℕ) (group : Group) → Searches edges (λ w. w ≡ node) old → At old.marks.items node Unmet
    → LeadsFromLast edges old.path.items old.groups.items node → group.nodes ≡ length old.path.items → group.todo ≡ length old.todo.items
    → new.marks.items ≡ set old.marks.items node (OnPath (length old.path.items)) → new.path.items ≡ old.path.items ++ node ∷ []
    → new.todo.items ≡ old.todo.items ++ listed_at edges node → new.groups.items ≡ old.groups.items ++ group ∷ [] → new.lists.items ≡ old.lists.items
    → Searches edges (λ w. ⊥) new
entered_search edges old new node group s unmet lead nodes waits marks path todo groups lists = record {
  path = path_at edges (length edges) (λ w. ⊥) _ new.marks.items _ new.path.items _ new.todo.items _ new.groups.items marks path todo groups
      (entered edges (length edges) (λ w. w ≡ node) old.marks.items old.path.items old.todo.items old.groups.items node group s.path (λ w h. h) unmet lead nodes waits);
  found = found_at edges (length edges) _ new.marks.items _ new.lists.items marks lists
      (found_still edges (length edges) old.marks.items old.lists.items node (length old.path.items) unmet s.found);
}

-- one that is met now needn't be gone through
pub cost_less : {Z : Type 0} (edges : List (Vec ℕ Z)) (marks : List Mark) (u node p : ℕ) → At marks node Unmet
    → cost_from edges (set marks node (OnPath p)) u + suc (suc (length (listed_at edges (u + node)))) ≡ cost_from edges marks u
cost_less edges [] u node p unmet = absurd cc
cost_less edges (m ∷ ms) u zero p unmet =
    let is : m ≡ Unmet = cc in
    let at : u + 0 ≡ u = omega arith in
    rw (is, at) (omega arith)
cost_less edges (m ∷ ms) u (suc node) p unmet =
    let at : u + suc node ≡ suc u + node = omega arith in
    rw at (omega (arith, cost_less edges ms (suc u) node p unmet))

pub entered_weight : {Z : Type 0} (edges : List (Vec ℕ Z)) (old new : Search) (node : ℕ) (group : Group) → At old.marks.items node Unmet
    → new.marks.items ≡ set old.marks.items node (OnPath (length old.path.items)) → new.todo.items ≡ old.todo.items ++ listed_at edges node
    → new.groups.items ≡ old.groups.items ++ group ∷ [] → weight edges new + 1 ≤ weight edges old
entered_weight edges old new node group unmet marks todo groups =
    let less = cost_less edges old.marks.items 0 node (length old.path.items) unmet in
    let costs = ap (λ ms. cost_from edges ms 0) marks in
    let targets = ap (λ m. length (listed_at edges m)) (plus_none node) in
    omega (arith, less, costs, targets, ap length todo, length-append old.todo.items (listed_at edges node), ap length groups, length-append old.groups.items (group ∷ []))
  where
    plus_none : (m : ℕ) → 0 + m ≡ m
    plus_none m = omega arith
