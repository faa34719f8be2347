-- A flush begins at the nodes that places name.
use Rattle.at_cache.proofs.Common.{◌≡◌, ◌⊎◌, inl, inr, ℕ, ◌+◌, ◌<◌, List, [], ◌∷◌, ◌++◌, ◌||◌, Bool, true, false, true≢false, Option, None, Some, Contains, take, slice_get, get_or, length, nat_eq, refl, sym, ap, ◌∙◌, subst, eqb-true, cond, list_any, cases_eq, eq-eqb, and_from, or_cases, take_more, Contains-append_cases, Contains-append_left, Contains-append_right, SmallVec, Location, Is, Tok, Slot, Up, Idx, Drawer, Places, is_drawer_at, is_index_among, is_node, named, names_around, Cut, Edge, Readers, AllReaders, AreNoted, Asked, looks_at, sees, GoesOn, edges_to, Begins, node_at, edges_among, edges_at, among_others, either_empty, not_seen, on_nowhere, over_at, seat_none, seen_at, is_of_index, edges_on, edges_over, is_seen, Seat, asked_both, any_of, some_of, none_in, both, has, edges_are, no_edges}
use Rattle.at_model.specs.Touches.{node_of}
use Rattle.at_store.specs.declared.places.Changing.{Changing}
use Rattle.at_cache.specs.declared.cut.Loss.TheVariants as loss
use Rattle.at_index.specs.declared.scope.Scope.{Scope}
use Rattle.at_index.specs.declared.scope.Scope.TheVariants as scope
use Rattle.at_index.specs.declared.run.Run.{Run}
use Rattle.at_cache.proofs.of_cut.Passing.{over_none, over_then}

any_push : (p : ℕ → Bool) (node : ℕ) (ns : List ℕ) → list_any p (ns ++ node ∷ []) ≡ true → (list_any p ns || p node) ≡ true
any_push p node [] h = elim (or_cases (p node) false h) [ inl e ↦ e | inr e ↦ absurd (true≢false (sym e)) ]
any_push p node (n ∷ ns) h = by (p n) h (any_push p node ns)
  where
    by : (b : Bool) → (b || list_any p (ns ++ node ∷ [])) ≡ true → (list_any p (ns ++ node ∷ []) ≡ true → (list_any p ns || p node) ≡ true) → ((b || list_any p ns) || p node) ≡ true
    by true e on = refl
    by false e on = on e

module _ {says : Location ℕ → Bool → Type 0} {lists : Location ℕ → List Edge} where
  -- nothing is asked for
  pub goes_not : {seen : Location ℕ → Bool} → Asked says seen lists [] → (first : Option ℕ) (c : Cut) → GoesOn says seen lists first c first c
  goes_not asked first c = ([], over_none loss.Both first c, asked)

  -- nothing is seen of which there is an edge
  pub goes_nowhere : {seen : Location ℕ → Bool} (first : Option ℕ) (c : Cut) → ((l : Location ℕ) → seen l ≡ true → (x : Edge) → Contains (lists l) x → ⊥) → GoesOn says seen lists first c first c
  goes_nowhere first c none = goes_not (record { from = λ x c. absurd (none_in x c); all = λ l s. inr (λ x c. absurd (none l s x c)) }) first c

  -- first the one is seen and then the other
  pub goes_further : {seen also : Location ℕ → Bool} {first mid last : Option ℕ} {a b c : Cut} → GoesOn says seen lists first a mid b → GoesOn says also lists mid b last c → GoesOn says (λ l. seen l || also l) lists first a last c
  goes_further {seen} {also} (more, done, asked) (rest, ended, then_asked) = (
    more ++ rest,
    over_then loss.Both done ended,
    record {
      from = λ x c. elim (Contains-append_cases more rest x c) [ inl d ↦ asked.from x d | inr d ↦ then_asked.from x d ];
      all = λ l s. elim (or_cases (seen l) (also l) s) [
        | inl h ↦ elim (asked.all l h) [ inl said ↦ inl said | inr all ↦ inr (λ x c. Contains-append_left more rest x (all x c)) ]
        | inr h ↦ elim (then_asked.all l h) [ inl said ↦ inl said | inr all ↦ inr (λ x c. Contains-append_right more rest x (all x c)) ]
      ];
    },
  )

  -- of what else is seen there is no edge
  pub goes_as : {seen also : Location ℕ → Bool} {first later : Option ℕ} {a b : Cut} → ((l : Location ℕ) → also l ≡ true → (seen l ≡ true) ⊎ ((x : Edge) → Contains (lists l) x → ⊥)) → GoesOn says seen lists first a later b → GoesOn says also lists first a later b
  goes_as within (more, done, asked) = (
    more,
    done,
    record {
      from = asked.from;
      all = λ l s. elim (within l s) [ inl h ↦ asked.all l h | inr none ↦ inr (λ x c. absurd (none x c)) ];
    },
  )

  -- one node more
  pub goes_next : (nodes : List ℕ) (i : ℕ) (node : ℕ) (s : Scope) → node ≡ get_or nodes i node → i < length nodes → {first mid last : Option ℕ} {p q r : Cut}
      → GoesOn says (λ l. list_any (λ n. sees s n l) (take i nodes)) lists first p mid q → GoesOn says (sees s node) lists mid q last r
      → GoesOn says (λ l. list_any (λ n. sees s n l) (take (i + 1) nodes)) lists first p last r
  goes_next nodes i node s is less a b = goes_as (λ l h. inl (any_push (λ n. sees s n l) node (take i nodes) (subst (λ ns. list_any (λ n. sees s n l) ns ≡ true) (take_more nodes i node less ∙ ap (λ n. take i nodes ++ n ∷ []) (sym is)) h))) (goes_further a b)

module _ {says : Location ℕ → Bool → Type 0} (readers : List (SmallVec Readers)) (node : ℕ) (s : Scope) where
  -- the readers of the node, among those of all
  pub goes_at : (v : SmallVec Readers) → slice_get readers node ≡ Some v → {first later : Option ℕ} {a b : Cut} → GoesOn says (looks_at s) (edges_among node v.items) first a later b → GoesOn says (sees s node) (edges_at readers) first a later b
  goes_at v there (more, done, asked) = (
    more,
    done,
    record {
      from = λ x c. let (l, said, d) = asked.from x c in (l, said, subst (λ es. Contains es x) (sym (edges_here l (of_node l x d))) d);
      all = λ l h. elim (asked.all l (both _ _ h).1) [
        | inl said ↦ inl said
        | inr all ↦ inr (λ x c. all x (subst (λ es. Contains es x) (edges_here l (seen_at node s l h)) c))
      ];
    },
  )
    where
      of_node : (l : Location ℕ) (x : Edge) → Contains (edges_among node v.items l) x → node_at l ≡ node
      of_node l x d = elim (cases_eq (node_at l) node) [ inl same ↦ same | inr differs ↦ absurd (none_in x (subst (λ es. Contains es x) (among_others node v.items l differs) d)) ]

      edges_here : (l : Location ℕ) → node_at l ≡ node → edges_at readers l ≡ edges_among node v.items l
      edges_here l same = edges_are readers l v (ap (slice_get readers) same ∙ there) ∙ ap (λ k. edges_among k v.items l) same

  pub goes_past : slice_get readers node ≡ None → (first : Option ℕ) (c : Cut) → GoesOn says (sees s node) (edges_at readers) first c first c
  goes_past none first c = goes_nowhere first c (λ l h x c. none_in x (subst (λ es. Contains es x) (no_edges readers l (ap (slice_get readers) (seen_at node s l h) ∙ none)) c))

seen_index : (nodes : List ℕ) (n : ℕ) → list_any (nat_eq n) nodes ≡ true → list_any (λ k. sees scope.Index k (Idx n)) nodes ≡ true
seen_index nodes n h =
    let (k, c, is) = some_of (nat_eq n) nodes h in
    any_of (λ k. sees scope.Index k (Idx n)) nodes k c (and_from _ _ (eq-eqb k n (sym (eqb-true n k is))) refl)

seen_node : (node : ℕ) (l : Location ℕ) → nat_eq node (node_of l) ≡ true → sees scope.All node l ≡ true
seen_node node l h = and_from _ _ (ap (nat_eq node) (by l) ∙ h) refl
  where
    by : (l : Location ℕ) → node_at l ≡ node_of l
    by (Is n) = refl
    by (Tok n part) = refl
    by (Slot n part) = refl
    by (Up n) = refl
    by (Idx n) = refl
    by (Drawer n part key mark) = refl

seen_nodes : (nodes : List ℕ) (l : Location ℕ) → list_any (nat_eq (node_of l)) nodes ≡ true → list_any (λ n. sees scope.All n l) nodes ≡ true
seen_nodes nodes l h =
    let (k, c, is) = some_of (nat_eq (node_of l)) nodes h in
    any_of (λ n. sees scope.All n l) nodes k c (seen_node k l (eq-eqb k (node_of l) (sym (eqb-true (node_of l) k is))))

module _ {says : Location ℕ → Bool → Type 0} {lists : Location ℕ → List Edge} {first later : Option ℕ} {a b : Cut} where
  -- the children are looked at
  pub goes_to_children : (children : List ℕ) → GoesOn says (λ l. list_any (λ k. sees scope.Index k l) children) lists first a later b → GoesOn says (is_index_among children) lists first a later b
  goes_to_children children = goes_as by
    where
      by : (l : Location ℕ) → is_index_among children l ≡ true → (list_any (λ k. sees scope.Index k l) children ≡ true) ⊎ ((x : Edge) → Contains (lists l) x → ⊥)
      by (Is n) h = absurd (true≢false (sym h))
      by (Tok n part) h = absurd (true≢false (sym h))
      by (Slot n part) h = absurd (true≢false (sym h))
      by (Up n) h = absurd (true≢false (sym h))
      by (Drawer n part key mark) h = absurd (true≢false (sym h))
      by (Idx n) h = inl (seen_index children n h)

  -- the nodes are looked at of which the index was read
  pub goes_to_noted : (nodes children : List ℕ) → AreNoted lists nodes → GoesOn says (λ l. list_any (λ k. sees scope.Index k l) nodes) lists first a later b → GoesOn says (is_index_among children) lists first a later b
  goes_to_noted nodes children noted = goes_as by
    where
      listed : (n : ℕ) (b : Bool) → list_any (nat_eq n) nodes ≡ b → (list_any (λ k. sees scope.Index k (Idx n)) nodes ≡ true) ⊎ ((x : Edge) → Contains (lists (Idx n)) x → ⊥)
      listed n true h = inl (seen_index nodes n h)
      listed n false h = inr (λ x c. true≢false (sym (noted n x (has (lists (Idx n)) x c)) ∙ h))

      by : (l : Location ℕ) → is_index_among children l ≡ true → (list_any (λ k. sees scope.Index k l) nodes ≡ true) ⊎ ((x : Edge) → Contains (lists l) x → ⊥)
      by (Is n) h = absurd (true≢false (sym h))
      by (Tok n part) h = absurd (true≢false (sym h))
      by (Slot n part) h = absurd (true≢false (sym h))
      by (Up n) h = absurd (true≢false (sym h))
      by (Drawer n part key mark) h = absurd (true≢false (sym h))
      by (Idx n) h = listed n (list_any (nat_eq n) nodes) refl

  -- one node is looked at, if there is one
  pub goes_to_node : (moved : Option ℕ) (node : ℕ) → moved ≡ Some node → GoesOn says (sees scope.All node) lists first a later b → GoesOn says (λ l. is_node moved (node_of l)) lists first a later b
  goes_to_node moved node is = goes_as (λ l h. inl (seen_node node l (subst (λ o. is_node o (node_of l) ≡ true) is h)))

  pub goes_to_nodes : (nodes : List ℕ) → GoesOn says (λ l. list_any (λ k. sees scope.All k l) nodes) lists first a later b → GoesOn says (λ l. list_any (nat_eq (node_of l)) nodes) lists first a later b
  goes_to_nodes nodes = goes_as (λ l h. inl (seen_nodes nodes l h))

module _ {says : Location ℕ → Bool → Type 0} {lists : Location ℕ → List Edge} where
  pub goes_to_none : (moved : Option ℕ) → moved ≡ None → (first : Option ℕ) (c : Cut) → GoesOn says (λ l. is_node moved (node_of l)) lists first c first c
  goes_to_none moved is first c = goes_nowhere first c (λ l h. absurd (true≢false (sym h ∙ ap (λ o. is_node o (node_of l)) is)))

  -- a node and its children
  pub goes_around : (changing : Option Changing) (c : Changing) → changing ≡ Some c → {first mid last : Option ℕ} {p q r : Cut}
      → GoesOn says (sees scope.All c.node) lists first p mid q → GoesOn says (is_index_among c.children.now) lists mid q last r → GoesOn says (names_around changing) lists first p last r
  goes_around changing c is here around = goes_as (λ l h. inl (subst (λ o. names_around o l ≡ true) is h)) (goes_further (goes_to_node (Some c.node) c.node refl here) around)

  pub goes_around_none : (changing : Option Changing) → changing ≡ None → (first : Option ℕ) (c : Cut) → GoesOn says (names_around changing) lists first c first c
  goes_around_none changing is first c = goes_nowhere first c (λ l h. absurd (true≢false (sym h ∙ ap (λ o. names_around o l) is)))

  -- all that is named
  pub goes_to_named : (p : Places) {f0 f1 f2 f3 f4 f5 : Option ℕ} {m0 m1 m2 m3 m4 m5 : Cut}
      → GoesOn says (λ l. list_any (λ k. sees scope.All k l) p.leaving.now) lists f0 m0 f1 m1 → GoesOn says (λ l. is_node p.moved (node_of l)) lists f1 m1 f2 m2
      → GoesOn says (names_around p.target) lists f2 m2 f3 m3 → GoesOn says (names_around p.source) lists f3 m3 f4 m4
      → GoesOn says (is_drawer_at p.keyed) lists f4 m4 f5 m5 → GoesOn says (named p) lists f0 m0 f5 m5
  goes_to_named p a b c d e = goes_further (goes_further (goes_further (goes_further (goes_to_nodes p.leaving.now a) b) c) d) e

module _ {says : Location ℕ → Bool → Type 0} {seen : Location ℕ → Bool} {lists : Location ℕ → List Edge} {start : List Edge} where
  -- what isn't seen has the answer `false`, or no edge
  pub begins_by : Asked says seen lists start
      → ((l : Location ℕ) → seen l ≡ false → says l false ⊎ ((x : Edge) → Contains (lists l) x → ⊥))
      → Begins says lists start
  begins_by a others = record { from = a.from; all = λ l. by l (seen l) refl }
    where
      by : (l : Location ℕ) (b : Bool) → seen l ≡ b → says l false ⊎ ((x : Edge) → Contains (lists l) x → Contains start x)
      by l true s = a.all l s
      by l false s = elim (others l s) [ inl said ↦ inl said | inr none ↦ inr (λ x c. absurd (none x c)) ]

-- a node that sits nowhere, or whose index is looked at there, has no edge that is seen
pub goes_past_seat : {says : Location ℕ → Bool → Type 0} (s : Scope) (seats : List Seat) (runs : List Run) (node : ℕ)
    → ((seat : Seat) → slice_get seats node ≡ Some seat → (seat.place ≡ 0) ⊎ (is_of_index seat.facet ≡ true))
    → (first : Option ℕ) (c : Cut) → GoesOn says (sees s node) (edges_over seats runs) first c first c
goes_past_seat s seats runs node none first c = goes_nowhere first c (λ l h x c.
    let at = seen_at node s l h in none_in x (subst (λ es. Contains es x) (by l at (slice_get seats node) refl) c))
  where
    by : (l : Location ℕ) → node_at l ≡ node → (o : Option Seat) → slice_get seats node ≡ o → edges_over seats runs l ≡ []
    by l at None h = seat_none seats runs l (ap (slice_get seats) at ∙ h)
    by l at (Some seat) h = over_at seats runs l seat (ap (slice_get seats) at ∙ h) ∙ elim (none seat h) [
      | inl is ↦ either_empty (is_seen (node_at l) seat l) (on_nowhere runs seat is)
      | inr index ↦ ap (λ b. cond b (edges_on runs seat) []) (not_seen node seat l index at)
    ]

-- one list after the other, of the same locations
pub goes_both : {says : Location ℕ → Bool → Type 0} {seen : Location ℕ → Bool} {lists more all : Location ℕ → List Edge} {first mid later : Option ℕ} {a b c : Cut}
    → ((l : Location ℕ) → all l ≡ lists l ++ more l) → GoesOn says seen lists first a mid b → GoesOn says seen more mid b later c → GoesOn says seen all first a later c
goes_both is (edges, done, asked) (rest, ended, then_asked) = (edges ++ rest, over_then loss.Both done ended, asked_both is asked then_asked)

-- nothing was ever looked at
pub goes_unread : {says : Location ℕ → Bool → Type 0} (rs : AllReaders) → ((l : Location ℕ) → edges_to rs l ≡ [])
    → {seen : Location ℕ → Bool} (first : Option ℕ) (c : Cut) → GoesOn says seen (edges_to rs) first c first c
goes_unread rs none first c = goes_nowhere first c (λ l h x c. none_in x (subst (λ es. Contains es x) (none l) c))
