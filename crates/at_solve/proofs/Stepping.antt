-- One step of a search.
use Rattle.std.proofs.Common.{◌≡◌, ℕ, zero, suc, ◌+◌, ◌<◌, ◌≤◌, ◌⊎◌, inl, inr, List, [], ◌∷◌, ◌++◌, length, length-append, refl, ap, sym, ◌∙◌, subst, arith, true≢false, Bool, true, false, Option, Some, None}
use Rattle.std.specs.Prelude.{slice_get, replicate, Vec, unwrap_or}
use Rattle.std.proofs.lemmas.List.{length-replicate}
use Rattle.at_model.specs.Meaning.{Among}
use Rattle.at_solve.specs.declared.search.Group.{Group}
use Rattle.at_solve.specs.declared.search.Mark.{Mark}
use Rattle.at_solve.specs.declared.search.Mark.TheVariants.{Unmet, OnPath, Listed}
use Rattle.at_solve.specs.declared.search.Search.{Search}
use Rattle.at_solve.specs.Components.{AreComponents, listed_at, IsEdge, Leads}
use Rattle.at_solve.specs.Searching.{At, Belongs, IsFound, IsGoneTo, IsPath, LeadsFromLast, Reaches, Searches, is_unmet, mark_at}
use Rattle.at_solve.proofs.Places.{at_within, at_once, at_front, at_last, at_or_last}
use Rattle.at_solve.proofs.Entering.{path_at, found_at}
use Rattle.at_solve.proofs.Merging.{before_or_behind}

-- what is known of a node that is there
pub mark_there : (marks : List Mark) (u : ℕ) (m : Mark) → (m ≡ Listed → ⊥) → m ≡ mark_at marks u → At marks u m
mark_there [] u m other is = absurd (other is)
mark_there (k ∷ ks) zero m other is = ap Some (sym is)
mark_there (k ∷ ks) (suc u) m other is = mark_there ks u m other is

abbrev is_place : Mark → Bool
is_place Unmet = false
is_place (OnPath q) = true
is_place Listed = false

pub on_path : (p : ℕ) → OnPath p ≡ Listed → ⊥
on_path p is = true≢false (ap is_place is)

abbrev is_new : Mark → Bool
is_new Unmet = true
is_new (OnPath q) = false
is_new Listed = false

pub unmet_off : Unmet ≡ Listed → ⊥
unmet_off is = true≢false (ap is_new is)

-- what is looked at is listed already
pub passed_search : {Z : Type 0} (edges : List (Vec ℕ Z)) (s : Search) (node : ℕ) → mark_at s.marks.items node ≡ Listed → Searches edges (λ w. w ≡ node) s → Searches edges (λ w. ⊥) s
passed_search edges s node listed h = record {
  path = record {
    placed = h.path.placed;
    stands = h.path.stands;
    on = h.path.on;
    back = h.path.back;
    gone = λ i u w at edge less. elim (h.path.gone i u w at edge less) [
      | inl is ↦ inr (inl (ap (mark_at s.marks.items) is ∙ listed))
      | inr more ↦ inr more
    ];
    from = h.path.from;
    within = h.path.within;
    rising = h.path.rising;
    begins = h.path.begins;
  };
  found = h.found;
}

module _ {Z : Type 0} (edges : List (Vec ℕ Z)) (n : ℕ) (marks : List Mark) (path todo now : List ℕ) (groups : List Group) (node k : ℕ) (group : Group)
    (s : IsPath edges n (λ w. ⊥) marks path todo groups) (is_last : At groups k group) (count : length groups ≡ k + 1) (is : todo ≡ now ++ node ∷ []) (some : group.todo < length todo) where
  -- each group waits for no less
  most : (l : ℕ) (g : Group) → At groups l g → g.todo ≤ length now
  most l g a = elim (before_or_behind l k) [
    | inl less ↦ omega (arith, (s.rising l k g group less a is_last).1, some, ap length is, length-append now (node ∷ []))
    | inr from ↦ let same : l ≡ k = omega (arith, from, at_within groups l g a, count) in
        omega (arith, ap (λ (z : Group). z.todo) (at_once groups k group g is_last (subst (λ z. At groups z g) same a)), some, ap length is, length-append now (node ∷ []))
  ]

  pub popped_lead : LeadsFromLast edges path groups node
  popped_lead = let (i, u, at, edge, one) = s.from (length now) node (subst (λ ts. At ts (length now) node) (sym is) (at_last now node)) in
      inr (
        i,
        u,
        at,
        edge,
        λ l g a. elim (one l g a) [
          | inl (late, begun) ↦ begun
          | inr (early, off) ↦ absurd (omega (arith, early, most l g a))
        ],
      )

  pub popped_path : IsPath edges n (λ w. w ≡ node) marks path now groups
  popped_path = record {
    placed = s.placed;
    stands = s.stands;
    on = s.on;
    back = s.back;
    gone = λ i u w at edge less. elim (s.gone i u w at edge less) [
      | inl off ↦ absurd off
      | inr (inl listed) ↦ inr (inl listed)
      | inr (inr (inl stood)) ↦ inr (inr (inl stood))
      | inr (inr (inr (q, waited, reach))) ↦ elim (at_or_last now node q w (subst (λ ts. At ts q w) is waited)) [
        | inl h ↦ inr (inr (inr (q, h, reach)))
        | inr (at_end, e) ↦ inl e
      ]
    ];
    from = λ q w waited. s.from q w (subst (λ ts. At ts q w) (sym is) (at_front now (node ∷ []) q w waited));
    within = λ l g a. ((s.within l g a).0, most l g a);
    rising = s.rising;
    begins = s.begins;
  }

pub popped_search : {Z : Type 0} (edges : List (Vec ℕ Z)) (old new : Search) (node k : ℕ) (group : Group) → At old.groups.items k group → length old.groups.items ≡ k + 1
    → old.todo.items ≡ new.todo.items ++ node ∷ [] → group.todo < length old.todo.items → new.marks.items ≡ old.marks.items → new.path.items ≡ old.path.items
    → new.groups.items ≡ old.groups.items → new.lists.items ≡ old.lists.items → Searches edges (λ w. ⊥) old → Searches edges (λ w. w ≡ node) new
popped_search edges old new node k group is_last count is some marks path groups lists s = record {
  path = path_at edges (length edges) (λ w. w ≡ node) _ new.marks.items _ new.path.items _ new.todo.items _ new.groups.items marks path refl groups
      (popped_path edges (length edges) old.marks.items old.path.items old.todo.items new.todo.items old.groups.items node k group s.path is_last count is some);
  found = found_at edges (length edges) _ new.marks.items _ new.lists.items marks lists s.found;
}

unmet_replicate : (n u : ℕ) (m : Mark) → At (replicate n Unmet) u m → m ≡ Unmet
unmet_replicate zero u m h = absurd cc
unmet_replicate (suc n) zero m h = cc
unmet_replicate (suc n) (suc u) m h = unmet_replicate n u m h

-- in the beginning
pub begun_search : {Z : Type 0} (edges : List (Vec ℕ Z)) (s : Search) → s.marks.items ≡ replicate (length edges) Unmet → s.path.items ≡ [] → s.todo.items ≡ [] → s.groups.items ≡ [] → s.lists.items ≡ []
    → (Next : ℕ → Type 0) → Searches edges Next s
begun_search {Z} edges s marks path todo groups lists Next = record {
  path = path_at edges (length edges) Next _ s.marks.items _ s.path.items _ s.todo.items _ s.groups.items marks path todo groups nothing;
  found = found_at edges (length edges) _ s.marks.items _ s.lists.items marks lists none;
}
  where
    fresh : List Mark
    fresh = replicate (length edges) Unmet

    is_free : Mark → Bool
    is_free Unmet = true
    is_free (OnPath p) = false
    is_free Listed = false

    nothing : IsPath edges (length edges) Next (replicate (length edges) Unmet) [] [] []
    nothing = record {
      placed = λ p u h. absurd (empty p u h);
      stands = λ u p h. absurd (true≢false (sym (ap is_unmet (unmet_replicate (length edges) u (OnPath p) h))));
      on = λ i j u v from h g. absurd (empty i u h);
      back = λ i j u v from one h g. absurd (empty i u h);
      gone = λ i u w h edge less. absurd (empty i u h);
      from = λ q w h. absurd (empty q w h);
      within = λ k g h. absurd (no_group k g h);
      rising = λ k l g h less a b. absurd (no_group k g a);
      begins = λ i u h. absurd (empty i u h);
    }
      where
        empty : (p u : ℕ) → At [] p u → ⊥
        empty p u h = cc

        no_group : (k : ℕ) (g : Group) → At [] k g → ⊥
        no_group k g h = cc

    none : {Y : Type 0} → IsFound {Y = Y} edges (length edges) (replicate (length edges) Unmet) []
    none = record {
      size = length-replicate (length edges) Unmet;
      listed = λ u h. absurd (true≢false (sym (ap is_unmet (unmet_replicate (length edges) u Listed h))));
      marked = λ u k h. absurd h;
      once = λ u k l h g. absurd h;
      joined = λ u v k h g. absurd h;
      behind = λ u v k h edge less. absurd h;
    }

-- where no group is left there is no path
pub resting : {Z : Type 0} (edges : List (Vec ℕ Z)) (Next : ℕ → Type 0) (s : Search) → Searches edges Next s → s.groups.items ≡ [] → s.path.items ≡ []
resting edges Next s h none = by s.path.items refl
  where
    no_group : (k : ℕ) (g : Group) → At [] k g → ⊥
    no_group k g a = cc

    by : (ps : List ℕ) → s.path.items ≡ ps → s.path.items ≡ []
    by [] is = is
    by (p ∷ ps) is = let (k, g, a, more) = h.path.begins 0 p (ap (λ qs. slice_get qs 0) is) in absurd (no_group k g (subst (λ gs. At gs k g) none a))

-- what isn't unmet then is listed
pub all_listed_then : {Z : Type 0} (edges : List (Vec ℕ Z)) (s : Search) → Searches edges (λ w. ⊥) s → s.groups.items ≡ [] → ((u : ℕ) → u < length edges → is_unmet (mark_at s.marks.items u) ≡ false)
    → AreComponents edges (length edges) s.lists.items
all_listed_then edges s h none met = record {
  whole = λ u less. h.found.listed u (at_mark u less (mark_at s.marks.items u) refl);
  once = h.found.once;
  joined = h.found.joined;
  behind = h.found.behind;
}
  where
    no_place : (p u : ℕ) → At s.path.items p u → ⊥
    no_place p u a = off (subst (λ ps. At ps p u) (resting edges (λ w. ⊥) s h none) a)
      where
        off : At [] p u → ⊥
        off e = cc

    slot : (ms : List Mark) (u : ℕ) → u < length ms → At ms u (mark_at ms u)
    slot [] u less = absurd (omega (arith, less))
    slot (m ∷ ms) zero less = refl
    slot (m ∷ ms) (suc u) less = slot ms u (omega (arith, less))

    at_mark : (u : ℕ) → u < length edges → (m : Mark) → mark_at s.marks.items u ≡ m → At s.marks.items u Listed
    at_mark u less Unmet is = absurd (true≢false (sym (ap is_unmet is) ∙ met u less))
    at_mark u less (OnPath p) is = absurd (no_place p u (h.path.stands u p (subst (At s.marks.items u) is (slot s.marks.items u (omega (arith, less, h.found.size))))))
    at_mark u less Listed is = subst (At s.marks.items u) is (slot s.marks.items u (omega (arith, less, h.found.size)))

-- there is nothing that is looked at
pub with_next : {Z : Type 0} (edges : List (Vec ℕ Z)) (s : Search) (Next : ℕ → Type 0) → Searches edges (λ w. ⊥) s → Searches edges Next s
with_next edges s Next h = record {
  path = record {
    placed = h.path.placed;
    stands = h.path.stands;
    on = h.path.on;
    back = h.path.back;
    gone = λ i u w at edge less. elim (h.path.gone i u w at edge less) [ inl off ↦ absurd off | inr more ↦ inr more ];
    from = h.path.from;
    within = h.path.within;
    rising = h.path.rising;
    begins = h.path.begins;
  };
  found = h.found;
}
