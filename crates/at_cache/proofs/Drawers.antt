-- What is asked of the desks of a node.
use Rattle.at_cache.proofs.Common.{◌≡◌, ◌⊎◌, inl, inr, ℕ, ◌+◌, List, [], ◌∷◌, ◌++◌, Bool, true, false, true≢false, cond, Option, None, Some, Contains, take, slice_get, nat_eq, if◌then◌else◌, refl, sym, ap, ◌∙◌, subst, append-nil, and_from, take_more, Contains-append_left, get_or_from_slice_get, slice_get_within, lookup, Location, Is, Tok, Slot, Up, Idx, Drawer, both, loc_view, is_drawer_at, is_node, named, Places, Edge, AllReaders, Answers, Asked, is_index, sees, desk_edges, drawer_at, edges_in_desks, edges_in, edges_to, edges_at, edges_over, node_at, same_location, asked_both, no_edges, head_of, none_in, same_location-is, same_location-itself, over_none, seen_at, Cut, Begins, AreNamed, GoesOn, GoesOver}
use Rattle.at_model.specs.Drawers.{Key}
use Rattle.at_store.specs.declared.node.Loc.{Loc}
use Rattle.at_store.specs.declared.node.Loc.TheVariants as loc
use Rattle.at_index.specs.declared.desk.Desks.{Desks}
use Rattle.at_index.specs.declared.desk.Spot.{Spot}
use Rattle.at_index.specs.declared.edge.Edges.{Edges}
use Rattle.at_index.specs.declared.scope.Scope.TheVariants as scope
use Rattle.at_index.proofs.DeskEdges.{at_drawer, in_more, of_desk, over_drawer}
use Rattle.at_cache.specs.declared.cut.Loss.TheVariants as loss
use Rattle.at_cache.proofs.Naming.{begins_by, goes_nowhere}

module _ (n : ℕ) where
  -- where an edge is, there is a drawer of the node
  pub desk_there : (ds : List (Spot × Edges)) (l : Location ℕ) (x : Edge) → Contains (edges_in_desks n ds l) x → (s : Spot) × (l ≡ drawer_at n s)
  desk_there [] l x c = absurd (none_in x c)
  desk_there (d ∷ ds) l x c = by (same_location l (drawer_at n d.0)) refl (desk_there ds l x)
    where
      by : (b : Bool) → same_location l (drawer_at n d.0) ≡ b → (Contains (edges_in_desks n ds l) x → (s : Spot) × (l ≡ drawer_at n s)) → (s : Spot) × (l ≡ drawer_at n s)
      by true h rest = (d.0, same_location-is l (drawer_at n d.0) h)
      by false h rest = rest (subst (λ b. Contains (cond b (edges_in d.1) [] ++ edges_in_desks n ds l) x) h c)

  module _ {says : Location ℕ → Bool → Type 0} {seen : Location ℕ → Bool} (d : Spot × Edges) where
    asked_touched : says (drawer_at n d.0) true → Asked says seen (of_desk n d) (edges_in d.1)
    asked_touched said = record {
      from = λ x c. (drawer_at n d.0, said, subst (λ b. Contains (cond b (edges_in d.1) []) x) (sym (same_location-itself (drawer_at n d.0))) c);
      all = λ l s. inr (λ x c. by (same_location l (drawer_at n d.0)) x c);
    }
      where
        by : (b : Bool) (x : Edge) → Contains (cond b (edges_in d.1) []) x → Contains (edges_in d.1) x
        by true x c = c
        by false x c = absurd (none_in x c)

    asked_untouched : says (drawer_at n d.0) false → Asked says seen (of_desk n d) []
    asked_untouched said = record { from = λ x c. absurd (none_in x c); all = λ l s. by l (same_location l (drawer_at n d.0)) refl }
      where
        by : (l : Location ℕ) (b : Bool) → same_location l (drawer_at n d.0) ≡ b
            → says l false ⊎ ((x : Edge) → Contains (cond b (edges_in d.1) []) x → Contains [] x)
        by l true h = inl (subst (λ m. says m false) (sym (same_location-is l (drawer_at n d.0) h)) said)
        by l false h = inr (λ x c. c)

-- one desk more is asked
module _ {says : Location ℕ → Bool → Type 0} {seen : Location ℕ → Bool} (n : ℕ) (ds : List (Spot × Edges)) (i : ℕ) (s : Spot) (es : Edges) (is : slice_get ds i ≡ Some (s, es)) {edges : List Edge} (asked : Asked says seen (edges_in_desks n (take i ds)) edges) where
  on_more : (lists : List Edge) → Asked says seen (edges_in_desks n (take i ds ++ (s, es) ∷ [])) lists → Asked says seen (edges_in_desks n (take (i + 1) ds)) lists
  on_more lists a =
      subst (λ (fs : List (Spot × Edges)). Asked says seen (edges_in_desks n fs) lists)
      (ap (λ (e : Spot × Edges). take i ds ++ e ∷ []) (sym (get_or_from_slice_get ds i (s, es) (s, es) is)) ∙ sym (take_more ds i (s, es) (slice_get_within ds i (s, es) is))) a

  pub asked_next_touched : (l : Location ℕ) → l ≡ drawer_at n s → says l true → Asked says seen (edges_in_desks n (take (i + 1) ds)) (edges ++ edges_in es)
  asked_next_touched l at said =
      on_more (edges ++ edges_in es) (asked_both (in_more n (take i ds) (s, es)) asked (asked_touched n (s, es) (subst (λ m. says m true) at said)))

  pub asked_next_untouched : (l : Location ℕ) → l ≡ drawer_at n s → says l false → Asked says seen (edges_in_desks n (take (i + 1) ds)) edges
  asked_next_untouched l at said =
      on_more edges (subst (Asked says seen (edges_in_desks n (take i ds ++ (s, es) ∷ []))) (append-nil edges)
      (asked_both (in_more n (take i ds) (s, es)) asked (asked_untouched n (s, es) (subst (λ m. says m false) at said))))

module _ {says : Location ℕ → Bool → Type 0} (all : List (ℕ × Desks)) (node : ℕ) where
  -- the desks of the node, among those of all
  pub goes_over_desks : (ds : List (Spot × Edges)) → ((l : Location ℕ) → node_at l ≡ node → desk_edges all l ≡ edges_in_desks node ds l)
      → {first later : Option ℕ} {a b : Cut} → GoesOn says (λ l. true) (edges_in_desks node ds) first a later b
      → GoesOn says (sees scope.All node) (desk_edges all) first a later b
  goes_over_desks ds are (more, done, asked) = (
    more,
    done,
    record {
      from = λ x c. let (l, said, d) = asked.from x c in (l, said, subst (λ es. Contains es x) (sym (are l (of_node l x d))) d);
      all = λ l h. elim (asked.all l refl) [
        | inl said ↦ inl said
        | inr every ↦ inr (λ x c. every x (subst (λ es. Contains es x) (are l (seen_at node scope.All l h)) c))
      ];
    },
  )
    where
      of_node : (l : Location ℕ) (x : Edge) → Contains (edges_in_desks node ds l) x → node_at l ≡ node
      of_node l x d = let (s, is) = desk_there node ds l x d in ap node_at is

  -- it has none
  pub goes_past_desks : ((l : Location ℕ) → node_at l ≡ node → desk_edges all l ≡ []) → (first : Option ℕ) (c : Cut)
      → GoesOn says (sees scope.All node) (desk_edges all) first c first c
  goes_past_desks none first c = goes_nowhere first c (λ l h x c. none_in x (subst (λ es. Contains es x) (none l (seen_at node scope.All l h)) c))

  -- an index has none
  pub goes_past_index : (first : Option ℕ) (c : Cut) → GoesOn says (sees scope.Index node) (desk_edges all) first c first c
  goes_past_index first c = goes_nowhere first c (λ l h. by l (both _ _ h).1)
    where
      by : (l : Location ℕ) → is_index l ≡ true → (x : Edge) → Contains (desk_edges all l) x → ⊥
      by (Is n) h x c = none_in x c
      by (Tok n part) h x c = none_in x c
      by (Slot n part) h x c = none_in x c
      by (Up n) h x c = none_in x c
      by (Idx n) h x c = none_in x c
      by (Drawer n part key mark) h x c = true≢false (sym h)

-- the edges of a drawer are those of its desk
desk_alone : (rs : AllReaders) (n part : ℕ) (key : Key) (mark : ℕ) → edges_to rs (Drawer n part key mark) ≡ desk_edges rs.desks.entries (Drawer n part key mark)
desk_alone rs n part key mark =
    let l = Drawer n part key mark in
    let desk = desk_edges rs.desks.entries l in
    ap (λ es. (desk ++ es) ++ edges_over rs.seats.items rs.runs.items l) (at_drawer rs.own.items n part key mark)
    ∙ ap (λ es. (desk ++ []) ++ es) (over_drawer rs.seats.items rs.runs.items n part key mark)
    ∙ append-nil (desk ++ []) ∙ append-nil desk

module _ {says : Location ℕ → Bool → Type 0} (rs : AllReaders) where
  -- the drawers of one node are looked at, if there is one
  pub goes_to_drawers : (keyed : Option ℕ) (node : ℕ) → keyed ≡ Some node → {first later : Option ℕ} {a b : Cut}
      → GoesOn says (sees scope.All node) (desk_edges rs.desks.entries) first a later b
      → GoesOn says (is_drawer_at keyed) (edges_to rs) first a later b
  goes_to_drawers keyed node is (more, done, asked) = (
    more,
    done,
    record {
      from = λ x c. let (l, said, d) = asked.from x c in (
        l,
        said,
        Contains-append_left (desk_edges rs.desks.entries l ++ edges_at rs.own.items l) _ x
            (Contains-append_left (desk_edges rs.desks.entries l) (edges_at rs.own.items l) x d),
      );
      all = by;
    },
  )
    where
      by : (l : Location ℕ) → is_drawer_at keyed l ≡ true → says l false ⊎ ((x : Edge) → Contains (edges_to rs l) x → Contains more x)
      by (Is n) h = absurd (true≢false (sym h))
      by (Tok n part) h = absurd (true≢false (sym h))
      by (Slot n part) h = absurd (true≢false (sym h))
      by (Up n) h = absurd (true≢false (sym h))
      by (Idx n) h = absurd (true≢false (sym h))
      by (Drawer n part key mark) h = elim (asked.all (Drawer n part key mark) (and_from _ _ (subst (λ o. is_node o n ≡ true) is h) refl)) [
        | inl said ↦ inl said
        | inr every ↦ inr (λ x c. every x (subst (λ es. Contains es x) (desk_alone rs n part key mark) c))
      ]

  pub goes_to_no_drawers : (keyed : Option ℕ) → keyed ≡ None → (first : Option ℕ) (c : Cut) → GoesOn says (is_drawer_at keyed) (edges_to rs) first c first c
  goes_to_no_drawers keyed is first c = goes_nowhere first c (λ l h. absurd (by l (subst (λ o. is_drawer_at o l ≡ true) is h)))
    where
      by : (l : Location ℕ) → is_drawer_at None l ≡ true → ⊥
      by (Is n) h = true≢false (sym h)
      by (Tok n part) h = true≢false (sym h)
      by (Slot n part) h = true≢false (sym h)
      by (Up n) h = true≢false (sym h)
      by (Idx n) h = true≢false (sym h)
      by (Drawer n part key mark) h = true≢false (sym h)

-- a drawer that has an edge is one that can be looked at
pub drawer_there : (rs : AllReaders) (l : Location ℕ) (x : Edge) → Contains (desk_edges rs.desks.entries l) x → (y : Loc) × (loc_view y ≡ l)
drawer_there rs (Is n) x c = absurd (none_in x c)
drawer_there rs (Tok n part) x c = absurd (none_in x c)
drawer_there rs (Slot n part) x c = absurd (none_in x c)
drawer_there rs (Up n) x c = absurd (none_in x c)
drawer_there rs (Idx n) x c = absurd (none_in x c)
drawer_there rs (Drawer n part key mark) x c = by (lookup (nat_eq n) rs.desks.entries) c
  where
    by : (o : Option Desks) → Contains (elim o as (λ _. List Edge) [ None ↦ [] | Some d ↦ edges_in_desks n d.spots.entries (Drawer n part key mark) ]) x
        → (y : Loc) × (loc_view y ≡ Drawer n part key mark)
    by None d = absurd (none_in x d)
    by (Some ds) d =
        let (s, is) = desk_there n ds.spots.entries (Drawer n part key mark) x d in
        (loc.Drawer n s.part s.first s.token s.classes s.mark, sym is)

-- nothing was looked at
pub none_read : (rs : AllReaders) → rs.own.items ≡ [] → rs.seats.items ≡ [] → rs.desks.entries ≡ [] → (l : Location ℕ) → edges_to rs l ≡ []
none_read rs own seats desks l =
    ap (λ es. (desk_edges rs.desks.entries l ++ edges_at rs.own.items l) ++ es) (over_none rs.seats.items rs.runs.items l (ap (λ (ss : List _). slice_get ss (node_at l)) seats))
    ∙ append-nil _
    ∙ ap (λ es. desk_edges rs.desks.entries l ++ es) (no_edges rs.own.items l (ap (λ (vs : List _). slice_get vs (node_at l)) own))
    ∙ append-nil _
    ∙ ap (λ ds. desk_edges ds l) desks
    ∙ none_of l
  where
    none_of : (l : Location ℕ) → desk_edges [] l ≡ []
    none_of (Is n) = refl
    none_of (Tok n part) = refl
    none_of (Slot n part) = refl
    none_of (Up n) = refl
    none_of (Idx n) = refl
    none_of (Drawer n part key mark) = refl

-- what isn't named has the answer `false`
pub begins_named : {post : Loc → Bool → Type 0} (rs : AllReaders) {later : Option ℕ} {a b : Cut} (p : Places)
    → AreNamed p post → GoesOn (Answers post) (named p) (edges_to rs) None a later b
    → (start : List Edge) × GoesOver loss.Both start None a later b × Begins (Answers post) (edges_to rs) start
begins_named {post} rs p answers (start, done, asked) = (start, done, begins_by asked by)
  where
    untouched : (l : Location ℕ) → named p l ≡ false → (y : Loc) × (loc_view y ≡ l) → Answers post l false
    untouched l h (y, is) = (y, is, answers y (subst (λ m. named p m ≡ false) (sym is) h))

    -- a drawer that can't be looked at has no edge
    at_drawer : (l : Location ℕ) → named p l ≡ false → edges_to rs l ≡ desk_edges rs.desks.entries l
        → (es : List Edge) → edges_to rs l ≡ es → Answers post l false ⊎ ((x : Edge) → Contains (edges_to rs l) x → ⊥)
    at_drawer l h alone [] is = inr (λ x c. none_in x (subst (λ es. Contains es x) is c))
    at_drawer l h alone (x ∷ xs) is =
        inl (untouched l h (drawer_there rs l x (subst (λ es. Contains es x) (sym is ∙ alone) (head_of x xs))))

    by : (l : Location ℕ) → named p l ≡ false → Answers post l false ⊎ ((x : Edge) → Contains (edges_to rs l) x → ⊥)
    by (Is n) h = inl (loc.Is n, refl, answers (loc.Is n) h)
    by (Tok n part) h = inl (loc.Tok n part, refl, answers (loc.Tok n part) h)
    by (Slot n part) h = inl (loc.Slot n part, refl, answers (loc.Slot n part) h)
    by (Up n) h = inl (loc.Up n, refl, answers (loc.Up n) h)
    by (Idx n) h = inl (loc.Idx n, refl, answers (loc.Idx n) h)
    by (Drawer n part key mark) h = at_drawer (Drawer n part key mark) h (desk_alone rs n part key mark) (edges_to rs (Drawer n part key mark)) refl
