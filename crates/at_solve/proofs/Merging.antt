-- The last groups of the path become one.
use Rattle.std.proofs.Common.{◌≡◌, ℕ, zero, suc, ◌+◌, ◌<◌, ◌≤◌, ◌⊎◌, inl, inr, List, [], ◌∷◌, ◌++◌, length, refl, ap, sym, ◌∙◌, subst, arith, true≢false, Bool, true, false, Option, Some, None}
use Rattle.std.specs.Prelude.{take, slice_get, Vec}
use Rattle.at_model.specs.Meaning.{Among}
use Rattle.at_solve.specs.declared.search.Group.{Group}
use Rattle.at_solve.specs.declared.search.Mark.{Mark}
use Rattle.at_solve.specs.declared.search.Mark.TheVariants.{Unmet, OnPath, Listed}
use Rattle.at_solve.specs.declared.search.Search.{Search}
use Rattle.at_solve.specs.Components.{listed_at, IsEdge, Leads}
use Rattle.at_solve.specs.Searching.{At, Belongs, HasMerged, IsFound, IsGoneTo, IsPath, LeadsFromLast, Reaches, Searches, Together, is_unmet, mark_at}
use Rattle.at_solve.proofs.Places.{at_within, at_once, at_take, at_taken}
use Rattle.at_solve.proofs.Entering.{further, onward, lead_to, path_at, found_at}

pub before_or_behind : (i m : ℕ) → (i < m) ⊎ (m ≤ i)
before_or_behind zero zero = inr (omega arith)
before_or_behind zero (suc m) = inl (omega arith)
before_or_behind (suc i) zero = inr (omega arith)
before_or_behind (suc i) (suc m) = elim (before_or_behind i m) [ inl l ↦ inl (omega (arith, l)) | inr l ↦ inr (omega (arith, l)) ]

module _ {Z : Type 0} (edges : List (Vec ℕ Z)) (n : ℕ) (marks : List Mark) (path todo : List ℕ) (groups : List Group) (node place : ℕ)
    (s : IsPath edges n (λ w. w ≡ node) marks path todo groups) (there : At marks node (OnPath place)) (lead : LeadsFromLast edges path groups node)
    (k : ℕ) (gone : (l : ℕ) (g : Group) → k ≤ l → At groups l g → place < g.nodes) (stays_on : (k ≡ 0) ⊎ ((j : ℕ) × (g : Group) × (k ≡ j + 1) × At groups j g × (g.nodes ≤ place))) where
  abbrev fewer : List Group
  fewer = take k groups

  stands : At path place node
  stands = s.stands node place there

  old : (l : ℕ) (g : Group) → At fewer l g → At groups l g × (l < k)
  old l g h = at_take groups k l g h

  first : (l : ℕ) (g : Group) → At fewer l g → g.nodes ≤ place
  first l g h = let (at, less) = old l g h in elim stays_on [
    | inl is ↦ absurd (omega (arith, less, is))
    | inr (j, last, is, stood, most) ↦ elim (before_or_behind l j) [
      | inl l-less ↦ omega (arith, (s.rising l j g last l-less at stood).0, most)
      | inr from ↦ let same : l ≡ j = omega (arith, from, less, is) in
          subst (λ z. z.nodes ≤ place) (at_once groups j last g stood (subst (λ z. At groups z g) same at)) most
    ]
  ]

  leads_node : (i u : ℕ) → At path i u → Leads edges u node
  leads_node i u at = elim lead [
    | inl none ↦ absurd (empty (subst (λ ps. At ps i u) none at))
    | inr (m, v, stood, edge, last) ↦ further edges u v node (lead_to edges n (λ w. w ≡ node) marks path todo groups s m v stood last i u at) edge
  ]
    where
      empty : At [] i u → ⊥
      empty e = cc

  back_then : (i j u v : ℕ) → i ≤ j → Together fewer i j → At path i u → At path j v → Leads edges v u
  back_then i j u v from one at to = elim (before_or_behind j place) [
    | inl front ↦ s.back i j u v from (λ l g a. elim (before_or_behind l k) [
      | inr taken ↦ inr (omega (arith, gone l g taken a, front))
      | inl left ↦ one l g (at_taken groups k l g a left)
    ]) at to
    | inr end ↦ onward edges v node u (leads_node j v to) (elim (before_or_behind i place) [
      | inr behind ↦ s.on place i node u behind stands at
      | inl less ↦ s.back i place u node (omega (arith, less)) (λ l g a. elim (before_or_behind l k) [
        | inr taken ↦ inr (gone l g taken a)
        | inl left ↦ elim (one l g (at_taken groups k l g a left)) [
          | inl within_it ↦ inl within_it
          | inr beyond ↦ absurd (omega (arith, beyond, end, first l g (at_taken groups k l g a left)))
        ]
      ]) at stands
    ])
  ]

  pub merged : IsPath edges n (λ w. ⊥) marks path todo fewer
  merged = record {
    placed = s.placed;
    stands = s.stands;
    on = s.on;
    back = back_then;
    gone = λ i u w at edge less. inr (elim (s.gone i u w at edge less) [
      | inl is ↦ inr (inl (place, subst (At path place) (sym is) stands, λ l g a begun. first l g a))
      | inr (inl is) ↦ inl is
      | inr (inr (inl (p, stood, reach))) ↦ inr (inl (p, stood, λ l g a. reach l g (old l g a).0))
      | inr (inr (inr (q, waited, reach))) ↦ inr (inr (q, waited, λ l g a. reach l g (old l g a).0))
    ]);
    from = λ q w waited. let (i, u, at, edge, one) = s.from q w waited in (i, u, at, edge, λ l g a. one l g (old l g a).0);
    within = λ l g a. s.within l g (old l g a).0;
    rising = λ l m g h less a b. s.rising l m g h less (old l g a).0 (old m h b).0;
    begins = λ i u at. let (l, g, a, is) = s.begins i u at in elim (before_or_behind l k) [
      | inl left ↦ (l, g, at_taken groups k l g a left, is)
      | inr taken ↦ absurd (omega (arith, gone l g taken a, is))
    ];
  }

pub merged_search : {Z : Type 0} (edges : List (Vec ℕ Z)) (old new : Search) (node place : ℕ) → Searches edges (λ w. w ≡ node) old → At old.marks.items node (OnPath place)
    → LeadsFromLast edges old.path.items old.groups.items node → HasMerged place old.groups.items new.groups.items
    → new.marks.items ≡ old.marks.items → new.path.items ≡ old.path.items → new.todo.items ≡ old.todo.items → new.lists.items ≡ old.lists.items
    → Searches edges (λ w. ⊥) new
merged_search edges old new node place s there lead (k, groups, gone, stays_on) marks path todo lists = record {
  path = path_at edges (length edges) (λ w. ⊥) _ new.marks.items _ new.path.items _ new.todo.items _ new.groups.items marks path todo groups
      (merged edges (length edges) old.marks.items old.path.items old.todo.items old.groups.items node place s.path there lead k gone stays_on);
  found = found_at edges (length edges) _ new.marks.items _ new.lists.items marks lists s.found;
}
