-- The edges over the seats of nodes, beside those of their own facets.
use Rattle.at_index.proofs.Common.{◌≡◌, ◌⊎◌, inl, inr, ℕ, ◌+◌, List, [], ◌∷◌, ◌++◌, append-nil, ◌&&◌, Bool, true, false, true≢false, not, cond, Option, None, Some, Contains, slice_get, nat_eq, if◌then◌else◌, refl, sym, ap, ◌∙◌, subst, arith, eqb-true, cases_Bool, and_from, Location, Idx, SmallVec, Edge, Readers, Reach, Run, Seat, AreNoted, Asked, is_index, looks_at, sees, node_at, is_listed, edges_at, is_of_index, stands_for, edges_on, edges_over, edges_past, is_seen, lies, both}
use Rattle.at_index.specs.declared.scope.Scope.{Scope}
use Rattle.at_index.proofs.of_runs.Following.{lies_in, no_index}
use Rattle.at_index.proofs.Locations.{stands_at, stands_index}
use Rattle.at_index.proofs.of_runs.Reaching.{on_are}
use Rattle.at_index.proofs.Lists.{none_in}

pub seen_node : (node : ℕ) (s : Scope) (l : Location ℕ) → sees s node l ≡ true → node_at l ≡ node
seen_node node s l h = sym (eqb-true node (node_at l) (both _ _ h).0)

-- the edges over the seat of a node
pub over_at : (seats : List Seat) (runs : List Run) (l : Location ℕ) (seat : Seat) → slice_get seats (node_at l) ≡ Some seat
    → edges_over seats runs l ≡ cond (is_seen (node_at l) seat l) (edges_on runs seat) []
over_at seats runs l seat h = ap (λ (o : Option Seat). elim o as (λ _. List Edge) [ None ↦ [] | Some s ↦ if is_seen (node_at l) s l then edges_on runs s else [] ]) h

pub over_none : (seats : List Seat) (runs : List Run) (l : Location ℕ) → slice_get seats (node_at l) ≡ None → edges_over seats runs l ≡ []
over_none seats runs l h = ap (λ (o : Option Seat). elim o as (λ _. List Edge) [ None ↦ [] | Some s ↦ if is_seen (node_at l) s l then edges_on runs s else [] ]) h

-- none is over an index
pub over_index : (seats : List Seat) (runs : List Run) (n : ℕ) → edges_over seats runs (Idx n) ≡ []
over_index seats runs n = by (slice_get seats n)
  where
    by : (o : Option Seat) → elim o as (λ _. List Edge) [ None ↦ [] | Some s ↦ if is_seen n s (Idx n) then edges_on runs s else [] ] ≡ []
    by None = refl
    by (Some s) = refl

module _ (own : List (SmallVec Readers)) (seats : List Seat) (runs : List Run) (nodes : List ℕ) where
  index_alone : (n : ℕ) → edges_at own (Idx n) ++ edges_over seats runs (Idx n) ≡ edges_at own (Idx n)
  index_alone n = ap (λ es. edges_at own (Idx n) ++ es) (over_index seats runs n) ∙ append-nil (edges_at own (Idx n))

  -- what is noted goes by the edges of nodes alone
  pub noted_to : AreNoted (λ l. edges_at own l ++ edges_over seats runs l) nodes → AreNoted (edges_at own) nodes
  noted_to noted n x h = noted n x (subst (λ es. is_listed x es ≡ true) (sym (index_alone n)) h)

  pub noted_from : AreNoted (edges_at own) nodes → AreNoted (λ l. edges_at own l ++ edges_over seats runs l) nodes
  noted_from noted n x h = noted n x (subst (λ es. is_listed x es ≡ true) (index_alone n) h)

over_there : (seats : List Seat) (runs : List Run) (node : ℕ) (seat : Seat) → slice_get seats node ≡ Some seat → (l : Location ℕ) → node_at l ≡ node
    → edges_over seats runs l ≡ cond (is_seen (node_at l) seat l) (edges_on runs seat) []
over_there seats runs node seat there l at = over_at seats runs l seat (ap (slice_get seats) at ∙ there)

module _ {says : Location ℕ → Bool → Type 0} (s : Scope) (seats : List Seat) (runs : List Run) (node : ℕ) (seat : Seat) (there : slice_get seats node ≡ Some seat) where
  pub over_touched : is_of_index seat.facet ≡ false → (l : Location ℕ) × (stands_for node seat.facet l ≡ true) × says l true
      → Asked says (sees s node) (edges_over seats runs) (edges_on runs seat)
  over_touched own (k, stands, said) = record {
    from = λ x c. (k, said, subst (λ es. Contains es x) (sym (over_there seats runs node seat there k at ∙ ap (λ b. cond b (edges_on runs seat) []) seen)) c);
    all = λ l h. inr (λ x c. by (is_seen (node_at l) seat l) x (subst (λ es. Contains es x) (over_there seats runs node seat there l (seen_node node s l h)) c));
  }
    where
      at : node_at k ≡ node
      at = stands_at node seat.facet k stands

      seen : is_seen (node_at k) seat k ≡ true
      seen = and_from (not (is_index k)) (stands_for (node_at k) seat.facet k) (ap not (no_index node seat.facet k own stands))
          (subst (λ n. stands_for n seat.facet k ≡ true) (sym at) stands)

      by : (b : Bool) (x : Edge) → Contains (cond b (edges_on runs seat) []) x → Contains (edges_on runs seat) x
      by true x c = c
      by false x c = absurd (none_in x c)

  pub over_untouched : ((l : Location ℕ) → stands_for node seat.facet l ≡ true → looks_at s l ≡ true → says l false)
      → Asked says (sees s node) (edges_over seats runs) []
  over_untouched said = record {
    from = λ x c. absurd (none_in x c);
    all = λ l h. by l h (is_seen (node_at l) seat l) refl;
  }
    where
      by : (l : Location ℕ) → sees s node l ≡ true → (b : Bool) → is_seen (node_at l) seat l ≡ b
          → says l false ⊎ ((x : Edge) → Contains (edges_over seats runs l) x → Contains [] x)
      by l h true on =
          let (same, looked) = both (nat_eq node (node_at l)) (looks_at s l) h in
          inl (said l (subst (λ n. stands_for n seat.facet l ≡ true) (seen_node node s l h) (both (not (is_index l)) (stands_for (node_at l) seat.facet l) on).1) looked)
      by l h false off = inr (λ x c. subst (λ es. Contains es x) (over_there seats runs node seat there l (seen_node node s l h) ∙ ap (λ b. cond b (edges_on runs seat) []) off) c)

not_behind : (behind last place : ℕ) → place ≡ 0 → lies behind last place ≡ false
not_behind behind last place is = elim (cases_Bool (lies behind last place)) [
  | inl on ↦ absurd (let a = (lies_in behind last place on).0 in omega (arith, a, is))
  | inr off ↦ off
]

-- no edge is over the place 0
pub on_nowhere : (runs : List Run) (seat : Seat) → seat.place ≡ 0 → edges_on runs seat ≡ []
on_nowhere runs seat is = by (slice_get runs seat.run) refl
  where
    no_place : (xs : List Reach) → edges_past seat.place xs ≡ []
    no_place [] = refl
    no_place (x ∷ xs) = ap (λ b. cond b (x.edge ∷ []) [] ++ edges_past seat.place xs) (not_behind x.behind x.last seat.place is) ∙ no_place xs

    by : (o : Option Run) → slice_get runs seat.run ≡ o → edges_on runs seat ≡ []
    by None h = ap (λ (o : Option Run). elim o as (λ _. List Edge) [ None ↦ [] | Some r ↦ edges_past seat.place r.edges.items ]) h
    by (Some r) h = on_are runs seat r h ∙ no_place r.edges.items

pub either_empty : (b : Bool) {es : List Edge} → es ≡ [] → cond b es [] ≡ []
either_empty true is = is
either_empty false is = refl

-- a seat that is looked at as the index has no edge that is seen
pub not_seen : (n : ℕ) (seat : Seat) (l : Location ℕ) → is_of_index seat.facet ≡ true → node_at l ≡ n → is_seen (node_at l) seat l ≡ false
not_seen n seat l index at = by (is_index l) (stands_for (node_at l) seat.facet l) refl refl
  where
    by : (a b : Bool) → is_index l ≡ a → stands_for (node_at l) seat.facet l ≡ b → (not (is_index l) && stands_for (node_at l) seat.facet l) ≡ false
    by true b e f = ap (λ z. not z && stands_for (node_at l) seat.facet l) e
    by false false e f = ap (λ z. not z && stands_for (node_at l) seat.facet l) e ∙ f
    by false true e f = absurd (true≢false (sym index ∙ sym (stands_index (node_at l) seat.facet l f) ∙ e))
