-- Edges of a run, some of which go, and one of which comes.
use Rattle.at_index.proofs.Common.{◌≡◌, ◌⊎◌, inl, inr, ℕ, List, [], ◌∷◌, ◌++◌, Bool, true, false, cond, Option, None, Some, Contains, slice_get, slice_set, nat_eq, if◌then◌else◌, refl, sym, ap, ◌∙◌, subst, eqb-true, cases_eq, eq-eqb, and_from, Contains-append_left, Contains-push_cases, Contains-cons_cases, Edge, Reach, Run, Seat, Adds, Gains, edges_on, edges_past, is_live, is_within, lies, Keeps, both}
use Rattle.at_index.proofs.Lists.{head_of, none_in}
use Rattle.at_index.proofs.Gained.{get_other, get_same}
use Rattle.at_index.proofs.RowLists.{along_from, along_to}

module _ {X : Type 0} {live : X → Bool} where
  pub holds_all : {old new : List X} → new ≡ old → Keeps live old new
  holds_all is = record { keeps = λ x c on. subst (λ xs. Contains xs x) (sym is) c; from = λ x c. subst (λ xs. Contains xs x) is c }

  pub holds_then : {old mid new : List X} → Keeps live old mid → Keeps live mid new → Keeps live old new
  holds_then a b = record { keeps = λ x c on. b.keeps x (a.keeps x c on) on; from = λ x c. a.from x (b.from x c) }

  pub holds_popped : {old new : List X} (x : X) → old ≡ new ++ x ∷ [] → live x ≡ false → Keeps live old new
  holds_popped {old} {new} x is stale = record {
    keeps = λ y c on. elim (Contains-push_cases new x y (subst (λ ys. Contains ys y) is c)) [
      | inl d ↦ d
      | inr same ↦ absurd (let off = ap live same in cc)
    ];
    from = λ y c. subst (λ ys. Contains ys y) (sym is) (Contains-append_left new (x ∷ []) y c);
  }

pub past_from : (place : ℕ) (rs : List Reach) (y : Edge) → Contains (edges_past place rs) y
    → (r : Reach) × Contains rs r × (lies r.behind r.last place ≡ true) × (r.edge ≡ y)
past_from place rs y c =
    let (r, d, e) = along_from (λ r. if lies r.behind r.last place then r.edge ∷ [] else []) rs y c in
    let (on, is) = by r (lies r.behind r.last place) refl e in
    (r, d, on, is)
  where
    by : (r : Reach) (b : Bool) → lies r.behind r.last place ≡ b → Contains (cond b (r.edge ∷ []) []) y
        → (lies r.behind r.last place ≡ true) × (r.edge ≡ y)
    by r true h e = (h, elim (Contains-cons_cases r.edge y [] e) [ inl same ↦ same | inr d ↦ absurd (none_in y d) ])
    by r false h e = absurd (none_in y e)

pub past_to : (place : ℕ) (rs : List Reach) (r : Reach) → Contains rs r → lies r.behind r.last place ≡ true → Contains (edges_past place rs) r.edge
past_to place rs r c on = along_to (λ r. if lies r.behind r.last place then r.edge ∷ [] else []) rs r r.edge c
    (subst (λ b. Contains (cond b (r.edge ∷ []) []) r.edge) (sym on) (head_of r.edge []))

-- the edges over a seat where its run is that one
pub on_are : (runs : List Run) (s : Seat) (r : Run) → slice_get runs s.run ≡ Some r → edges_on runs s ≡ edges_past s.place r.edges.items
on_are runs s r h = ap (λ (o : Option Run). elim o as (λ _. List Edge) [ None ↦ [] | Some r ↦ edges_past s.place r.edges.items ]) h

pub on_same : (xs ys : List Run) (s : Seat) → slice_get xs s.run ≡ slice_get ys s.run → edges_on xs s ≡ edges_on ys s
on_same xs ys s h = ap (λ (o : Option Run). elim o as (λ _. List Edge) [ None ↦ [] | Some r ↦ edges_past s.place r.edges.items ]) h

-- one run has other edges
module _ {tells : Edge → Bool} (x : Reach) (old new : List Run) (run : ℕ) (was v : Run) (there : slice_get old run ≡ Some was) (so : new ≡ slice_set old run v)
    (gains : Gains tells x was.edges.items v.edges.items) where
  now : slice_get new run ≡ Some v
  now = ap (λ xs. slice_get xs run) so ∙ get_same old run v was there

  off : (s : Seat) → (s.run ≡ run → ⊥) → edges_on new s ≡ edges_on old s
  off s differs = on_same new old s (ap (λ xs. slice_get xs s.run) so ∙ get_other old run s.run v differs)

  before : (s : Seat) → s.run ≡ run → edges_on old s ≡ edges_past s.place was.edges.items
  before s same = on_are old s was (ap (slice_get old) same ∙ there)

  after : (s : Seat) → s.run ≡ run → edges_on new s ≡ edges_past s.place v.edges.items
  after s same = on_are new s v (ap (slice_get new) same ∙ now)

  pub adds_reach : Adds tells x.edge (is_within run x.behind x.last) (edges_on old) (edges_on new)
  adds_reach = record {
    keeps = λ s y c on. elim (cases_eq s.run run) [
      | inl same ↦
          let (r, d, over, is) = past_from s.place was.edges.items y (subst (λ es. Contains es y) (before s same) c) in
          let stays = gains.keeps r d (ap (is_live tells x.edge) is ∙ on) in
          subst (λ es. Contains es y) (sym (after s same)) (subst (Contains (edges_past s.place v.edges.items)) is (past_to s.place v.edges.items r stays over))
      | inr differs ↦ subst (λ es. Contains es y) (sym (off s differs)) c
    ];
    only = λ s y c. elim (cases_eq s.run run) [
      | inl same ↦ comes s same y (past_from s.place v.edges.items y (subst (λ es. Contains es y) (after s same) c))
      | inr differs ↦ inl (subst (λ es. Contains es y) (off s differs) c)
    ];
  }
    where
      comes : (s : Seat) → s.run ≡ run → (y : Edge) → (r : Reach) × Contains v.edges.items r × (lies r.behind r.last s.place ≡ true) × (r.edge ≡ y)
          → Contains (edges_on old s) y ⊎ ((y ≡ x.edge) × (is_within run x.behind x.last s ≡ true))
      comes s same y (r, d, over, is) = elim (gains.only r d) [
        | inl e ↦ inl (subst (λ es. Contains es y) (sym (before s same)) (subst (Contains (edges_past s.place was.edges.items)) is (past_to s.place was.edges.items r e over)))
        | inr alike ↦ inr (sym is ∙ ap (λ (z : Reach). z.edge) alike, and_within s same (subst (λ (z : Reach). lies z.behind z.last s.place ≡ true) alike over))
      ]
        where
          and_within : (s : Seat) → s.run ≡ run → lies x.behind x.last s.place ≡ true → is_within run x.behind x.last s ≡ true
          and_within s same over = and_from (nat_eq s.run run) (lies x.behind x.last s.place) (eq-eqb s.run run same) over

  pub reach_there : Contains v.edges.items x → (s : Seat) → is_within run x.behind x.last s ≡ true → Contains (edges_on new s) x.edge
  reach_there c s h =
      let (same, over) = both (nat_eq s.run run) (lies x.behind x.last s.place) h in
      subst (λ es. Contains es x.edge) (sym (after s (eqb-true s.run run same))) (past_to s.place v.edges.items x c over)
