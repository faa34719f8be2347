-- Desks: the edges that they have of a location, and one edge more.
use Rattle.at_index.proofs.Common.{◌≡◌, inl, inr, ℕ, ◌+◌, ◌<◌, List, [], ◌∷◌, ◌++◌, Bool, true, false, cond, Option, None, Some, IfSome, Bor, Contains, nat_eq, length, slice_get, get_or, swap_remove, take, IsPermutation, if◌then◌else◌, append-nil, refl, sym, ap, ◌∙◌, subst, eqb-true, cases_eq, ne_eqb, flat_map-append, Contains-append_cases, Contains-append_left, Contains-append_right, Contains-permutation, IsPermutation-swap_remove, IsPermutation-sym, none-some, same_Some, slice_get_within, get_or_from_slice_get, Contains-cons, Contains-cons_cases, SmallVec, Location, Is, Tok, Slot, Up, Idx, Drawer, both, ghosts, Edge, Edges, Facet, Readers, Row, Run, Seat, desk_edges, drawer_at, edges_in_desks, edges_in, Keeps, Lists, Reads, edges_among, edges_at, stands_for, edges_along, edges_of, ListsBut, edges_on, edges_over, is_seen, node_at, same_location}
use Rattle.std.specs.Map.{lookup, set_value}
use Rattle.std.specs.Option.{option_copied}
use Rattle.at_model.specs.Drawers as model
use Rattle.at_index.specs.declared.desk.Desks.{Desks}
use Rattle.at_index.specs.declared.desk.Spot.{Spot}
use Rattle.at_index.specs.declared.facet.Facet.TheVariants as facet
use Rattle.at_index.proofs.Gained.{lists_before, lists_behind, lists_if}
use Rattle.at_index.proofs.Listing.{keeps_itself, listed_one, lists_same, reads_on, reads_unchanged}
use Rattle.at_index.proofs.Lists.{head_of, none_in}
use Rattle.at_index.proofs.Locations.{same_location-is, same_location-itself}
use Rattle.at_index.proofs.RowLists.{along_from, along_more, along_to}

-- equal spots are the same
pub same_spot : (s r : Spot) → ghosts.eq s r ≡ true → r ≡ s
same_spot s r h =
    let (part, a) = both _ _ h in
    let (first, b) = both _ _ a in
    let (token, c) = both _ _ b in
    let (classes, mark) = both _ _ c in
    let same : s ≡ r = λ i. record {
      part = eqb-true s.part r.part part i;
      first = eqb-true s.first r.first first i;
      token = eqb-true s.token r.token token i;
      classes = eqb-true s.classes r.classes classes i;
      mark = eqb-true s.mark r.mark mark i;
    } in
    sym same

-- the edges of one desk
abbrev pub of_desk : ℕ → Spot × Edges → Location ℕ → List Edge
of_desk n d l = if same_location l (drawer_at n d.0) then edges_in d.1 else []

-- What has no drawer has no edges at desks.
module _ (n : ℕ) (l : Location ℕ) (off : (s : Spot) → same_location l (drawer_at n s) ≡ false) where
  pub none_of : (es : List (Spot × Edges)) → [] ≡ edges_in_desks n es l
  none_of [] = refl
  none_of (e ∷ es) = none_of es ∙ ap (λ b. cond b (edges_in e.1) [] ++ edges_in_desks n es l) (sym (off e.0))

-- the edges of a location, where its node has these desks
pub desks_are : (all : List (ℕ × Desks)) (n : ℕ) (d : Desks) → lookup (nat_eq n) all ≡ Some d → (l : Location ℕ) → node_at l ≡ n
    → desk_edges all l ≡ edges_in_desks n d.spots.entries l
desks_are all n d there (Is m) at = none_of n (Is m) (λ s. refl) d.spots.entries
desks_are all n d there (Tok m part) at = none_of n (Tok m part) (λ s. refl) d.spots.entries
desks_are all n d there (Slot m part) at = none_of n (Slot m part) (λ s. refl) d.spots.entries
desks_are all n d there (Up m) at = none_of n (Up m) (λ s. refl) d.spots.entries
desks_are all n d there (Idx m) at = none_of n (Idx m) (λ s. refl) d.spots.entries
desks_are all n d there (Drawer m part key mark) at =
    ap (λ (k : ℕ). elim (lookup (nat_eq k) all) as (λ _. List Edge) [ None ↦ [] | Some e ↦ edges_in_desks k e.spots.entries (Drawer m part key mark) ]) at
    ∙ ap (λ (o : Option Desks). elim o as (λ _. List Edge) [ None ↦ [] | Some e ↦ edges_in_desks n e.spots.entries (Drawer m part key mark) ]) there

pub found : (all : List (ℕ × Desks)) (n : ℕ) (o : Option (Bor Desks)) → option_copied o ≡ lookup (nat_eq n) all
    → IfSome o (λ d. (l : Location ℕ) → node_at l ≡ n → desk_edges all l ≡ edges_in_desks n d.now.spots.entries l)
found all n None is = tt
found all n (Some d) is = desks_are all n d.now (sym is)

pub desks_none : (all : List (ℕ × Desks)) (n : ℕ) → lookup (nat_eq n) all ≡ None → (l : Location ℕ) → node_at l ≡ n → desk_edges all l ≡ []
desks_none all n none (Is m) at = refl
desks_none all n none (Tok m part) at = refl
desks_none all n none (Slot m part) at = refl
desks_none all n none (Up m) at = refl
desks_none all n none (Idx m) at = refl
desks_none all n none (Drawer m part key mark) at =
    ap (λ (o : Option Desks). elim o as (λ _. List Edge) [ None ↦ [] | Some e ↦ edges_in_desks m e.spots.entries (Drawer m part key mark) ])
    (ap (λ k. lookup (nat_eq k) all) at ∙ none)

pub desks_same : (old new : List (ℕ × Desks)) (l : Location ℕ) → lookup (nat_eq (node_at l)) new ≡ lookup (nat_eq (node_at l)) old
    → desk_edges new l ≡ desk_edges old l
desks_same old new (Is m) same = refl
desks_same old new (Tok m part) same = refl
desks_same old new (Slot m part) same = refl
desks_same old new (Up m) same = refl
desks_same old new (Idx m) same = refl
desks_same old new (Drawer m part key mark) same =
    ap (λ (o : Option Desks). elim o as (λ _. List Edge) [ None ↦ [] | Some e ↦ edges_in_desks m e.spots.entries (Drawer m part key mark) ]) same

-- no facet stands for a drawer
no_facet : (n m part : ℕ) (key : model.Key) (mark : ℕ) (f : Facet) → stands_for n f (Drawer m part key mark) ≡ false
no_facet n m part key mark (facet.Near set) = refl
no_facet n m part key mark (facet.Tok p) = refl
no_facet n m part key mark (facet.Slot p) = refl
no_facet n m part key mark facet.Idx = refl

pub at_drawer : (own : List (SmallVec Readers)) (n part : ℕ) (key : model.Key) (mark : ℕ) → edges_at own (Drawer n part key mark) ≡ []
at_drawer own n part key mark = by (slice_get own n)
  where
    among : (rs : List Readers) → edges_among n rs (Drawer n part key mark) ≡ []
    among [] = refl
    among (r ∷ rs) = ap (λ b. cond b (edges_in r.edges) [] ++ edges_among n rs (Drawer n part key mark)) (no_facet n n part key mark r.facet) ∙ among rs

    by : (o : Option (SmallVec Readers)) → elim o as (λ _. List Edge) [ None ↦ [] | Some v ↦ edges_among n v.items (Drawer n part key mark) ] ≡ []
    by None = refl
    by (Some v) = among v.items

pub over_drawer : (seats : List Seat) (runs : List Run) (n part : ℕ) (key : model.Key) (mark : ℕ) → edges_over seats runs (Drawer n part key mark) ≡ []
over_drawer seats runs n part key mark = by (slice_get seats n)
  where
    by : (o : Option Seat) → elim o as (λ _. List Edge) [ None ↦ [] | Some s ↦ if is_seen n s (Drawer n part key mark) then edges_on runs s else [] ] ≡ []
    by None = refl
    by (Some s) = ap (λ b. cond b (edges_on runs s) []) (no_facet n n part key mark s.facet)

-- one desk more
module _ (n : ℕ) (es : List (Spot × Edges)) where
  pub in_more : (d : Spot × Edges) (l : Location ℕ) → edges_in_desks n (es ++ d ∷ []) l ≡ edges_in_desks n es l ++ of_desk n d l
  in_more d l = flat_map-append (λ e. of_desk n e l) es (d ∷ []) ∙ ap (λ xs. edges_in_desks n es l ++ xs) (append-nil (of_desk n d l))

-- at one location an edge comes
module _ {tells : Edge → Bool} {x : Edge} (at : Location ℕ) (old new : Location ℕ → List Edge) where
  reads_one : ((l : Location ℕ) → Lists tells x (old l) (new l)) → ((l : Location ℕ) → same_location l at ≡ false → new l ≡ old l)
      → Reads tells x (at ∷ []) old new
  reads_one lists others =
      reads_on (at ∷ []) (λ l. same_location l at) others (reads_unchanged tells x (at ∷ []) old) lists
      (λ l h. subst (Contains (at ∷ [])) (sym (same_location-is l at h)) (head_of at []))

-- a drawer comes to have a desk
module _ (n : ℕ) (spot : Spot) (x : Edge) (v : Edges) (alone : edges_in v ≡ x ∷ []) (es new : List (Spot × Edges)) (so : new ≡ es ++ (spot, v) ∷ []) where
  more : (l : Location ℕ) → edges_in_desks n new l ≡ edges_in_desks n es l ++ cond (same_location l (drawer_at n spot)) (x ∷ []) []
  more l =
      ap (λ ds. edges_in_desks n ds l) so ∙ in_more n es (spot, v) l
      ∙ ap (λ ys. edges_in_desks n es l ++ cond (same_location l (drawer_at n spot)) ys []) alone

  off_more : (l : Location ℕ) → same_location l (drawer_at n spot) ≡ false → edges_in_desks n new l ≡ edges_in_desks n es l
  off_more l off = more l ∙ ap (λ b. edges_in_desks n es l ++ cond b (x ∷ []) []) off ∙ append-nil (edges_in_desks n es l)

  lists_more : (tells : Edge → Bool) (l : Location ℕ) (b : Bool) → same_location l (drawer_at n spot) ≡ b → Lists tells x (edges_in_desks n es l) (edges_in_desks n new l)
  lists_more tells l true h = listed_one (keeps_itself tells (edges_in_desks n es l)) (more l ∙ ap (λ b. edges_in_desks n es l ++ cond b (x ∷ []) []) h)
  lists_more tells l false h = lists_same (off_more l h)

  pub new_reads : (tells : Edge → Bool) → Reads tells x (drawer_at n spot ∷ []) (edges_in_desks n es) (edges_in_desks n new)
  new_reads tells = reads_one (drawer_at n spot) (edges_in_desks n es) (edges_in_desks n new) (λ l. lists_more tells l (same_location l (drawer_at n spot)) refl) off_more

  pub new_has : Contains (edges_in_desks n new (drawer_at n spot)) x
  new_has =
      subst (λ ys. Contains ys x)
      (sym (more (drawer_at n spot) ∙ ap (λ b. edges_in_desks n es (drawer_at n spot) ++ cond b (x ∷ []) []) (same_location-itself (drawer_at n spot))))
      (Contains-append_right (edges_in_desks n es (drawer_at n spot)) (x ∷ []) x (head_of x []))

-- a desk has other edges
module _ (n : ℕ) (spot : Spot) (v w : Edges) where
  set_lists : {tells : Edge → Bool} {x : Edge} (es : List (Spot × Edges)) → lookup (ghosts.eq spot) es ≡ Some v → Lists tells x (edges_in v) (edges_in w)
      → (l : Location ℕ) → Lists tells x (edges_in_desks n es l) (edges_in_desks n (set_value (ghosts.eq spot) es w) l)
  set_lists [] there lists l = absurd (none-some v there)
  set_lists {tells} {x} (e ∷ es) there lists l = by (ghosts.eq spot e.0) there (λ h. set_lists es h lists l)
    where
      by : (b : Bool) → cond b (Some e.1) (lookup (ghosts.eq spot) es) ≡ Some v
          → (lookup (ghosts.eq spot) es ≡ Some v → Lists tells x (edges_in_desks n es l) (edges_in_desks n (set_value (ghosts.eq spot) es w) l))
          → Lists tells x (of_desk n e l ++ edges_in_desks n es l) (edges_in_desks n (cond b ((e.0, w) ∷ es) (e ∷ set_value (ghosts.eq spot) es w)) l)
      by true h rest =
          lists_behind (edges_in_desks n es l) (lists_if (same_location l (drawer_at n e.0))
          (subst (λ (u : Edges). Lists tells x (edges_in u) (edges_in w)) (sym (same_Some e.1 v h)) lists))
      by false h rest = lists_before (of_desk n e l) (rest h)

  set_others : (es : List (Spot × Edges)) (l : Location ℕ) → same_location l (drawer_at n spot) ≡ false
      → edges_in_desks n (set_value (ghosts.eq spot) es w) l ≡ edges_in_desks n es l
  set_others [] l off = refl
  set_others (e ∷ es) l off = by (ghosts.eq spot e.0) refl (set_others es l off)
    where
      by : (b : Bool) → ghosts.eq spot e.0 ≡ b → edges_in_desks n (set_value (ghosts.eq spot) es w) l ≡ edges_in_desks n es l
          → edges_in_desks n (cond b ((e.0, w) ∷ es) (e ∷ set_value (ghosts.eq spot) es w)) l ≡ of_desk n e l ++ edges_in_desks n es l
      by true is rest =
          let it : same_location l (drawer_at n e.0) ≡ false = ap (λ (s : Spot). same_location l (drawer_at n s)) (same_spot spot e.0 is) ∙ off in
          ap (λ b. cond b (edges_in w) [] ++ edges_in_desks n es l) it ∙ sym (ap (λ b. cond b (edges_in e.1) [] ++ edges_in_desks n es l) it)
      by false is rest = ap (λ ys. of_desk n e l ++ ys) rest

  pub set_has : {x : Edge} (es : List (Spot × Edges)) → lookup (ghosts.eq spot) es ≡ Some v → Contains (edges_in w) x
      → Contains (edges_in_desks n (set_value (ghosts.eq spot) es w) (drawer_at n spot)) x
  set_has [] there c = absurd (none-some v there)
  set_has {x} (e ∷ es) there c = by (ghosts.eq spot e.0) refl there (λ h. set_has es h c)
    where
      by : (b : Bool) → ghosts.eq spot e.0 ≡ b → cond b (Some e.1) (lookup (ghosts.eq spot) es) ≡ Some v
          → (lookup (ghosts.eq spot) es ≡ Some v → Contains (edges_in_desks n (set_value (ghosts.eq spot) es w) (drawer_at n spot)) x)
          → Contains (edges_in_desks n (cond b ((e.0, w) ∷ es) (e ∷ set_value (ghosts.eq spot) es w)) (drawer_at n spot)) x
      by true is h rest =
          let on : same_location (drawer_at n spot) (drawer_at n e.0) ≡ true =
          ap (λ (s : Spot). same_location (drawer_at n spot) (drawer_at n s)) (same_spot spot e.0 is) ∙ same_location-itself (drawer_at n spot) in
          Contains-append_left (of_desk n (e.0, w) (drawer_at n spot)) (edges_in_desks n es (drawer_at n spot)) x
          (subst (λ b. Contains (cond b (edges_in w) []) x) (sym on) c)
      by false is h rest = Contains-append_right (of_desk n e (drawer_at n spot)) (edges_in_desks n (set_value (ghosts.eq spot) es w) (drawer_at n spot)) x (rest h)

  pub set_reads : {tells : Edge → Bool} {x : Edge} (es : List (Spot × Edges)) → lookup (ghosts.eq spot) es ≡ Some v → Lists tells x (edges_in v) (edges_in w)
      → Reads tells x (drawer_at n spot ∷ []) (edges_in_desks n es) (edges_in_desks n (set_value (ghosts.eq spot) es w))
  set_reads es there lists = reads_one (drawer_at n spot) (edges_in_desks n es) (edges_in_desks n (set_value (ghosts.eq spot) es w)) (set_lists es there lists) (set_others es)

-- desks of which no edge tells of anything go
module _ {tells : Edge → Bool} where
  pub idle_more : (rs : List Row) (i : ℕ) (d : Row) → i < length rs → Keeps tells (edges_along (take i rs)) [] → Keeps tells (edges_of (get_or rs i d)) []
      → Keeps tells (edges_along (take (i + 1) rs)) []
  idle_more rs i d less before here =
      subst (λ es. Keeps tells es []) (along_more rs i d less)
      (record {
        keeps = λ y c live. elim (Contains-append_cases (edges_along (take i rs)) (edges_of (get_or rs i d)) y c) [
          | inl e ↦ before.keeps y e live
          | inr e ↦ here.keeps y e live
        ];
        from = λ y c. absurd (none_in y c);
      })

  idle_if : (b : Bool) {es : List Edge} → Keeps tells es [] → Keeps tells (cond b es []) []
  idle_if true k = k
  idle_if false k = keeps_itself tells []

  pub desk_goes : (es new : List (Spot × Edges)) (i : ℕ) (d : Spot × Edges) → slice_get es i ≡ Some d → Keeps tells (edges_in d.1) []
      → new ≡ swap_remove es i d → (n : ℕ) (l : Location ℕ) → Keeps tells (edges_in_desks n es l) (edges_in_desks n new l)
  desk_goes es new i d there idle swapped n l =
      let shuffled : IsPermutation es (d ∷ new) =
      subst (λ ys. IsPermutation es (d ∷ ys)) (sym swapped)
      (IsPermutation-swap_remove es i d (slice_get_within es i d there) (sym (get_or_from_slice_get es i d d there))) in
      let empties : Keeps tells (of_desk n d l) [] = idle_if (same_location l (drawer_at n d.0)) idle in
      record {
        keeps = λ y c live.
            let (e, has, f) = along_from (λ e. of_desk n e l) es y c in
            elim (Contains-cons_cases d e new (Contains-permutation es (d ∷ new) e shuffled has)) [
              | inl alike ↦ absurd (none_in y (empties.keeps y (subst (λ (z : Spot × Edges). Contains (of_desk n z l) y) (sym alike) f) live))
              | inr rest ↦ along_to (λ e. of_desk n e l) new e y rest f
            ];
        from = λ y c.
            let (e, has, f) = along_from (λ e. of_desk n e l) new y c in
            along_to (λ e. of_desk n e l) es e y (Contains-permutation (d ∷ new) es e (IsPermutation-sym es (d ∷ new) shuffled) (Contains-cons d e new has)) f;
      }

-- the desks of one node are others
module _ (old new : List (ℕ × Desks)) (node : ℕ) (before after : List (Spot × Edges))
    (was : (l : Location ℕ) → node_at l ≡ node → desk_edges old l ≡ edges_in_desks node before l)
    (now : (l : Location ℕ) → node_at l ≡ node → desk_edges new l ≡ edges_in_desks node after l)
    (others : (l : Location ℕ) → (node_at l ≡ node → ⊥) → desk_edges new l ≡ desk_edges old l) where
  node_reads : {tells : Edge → Bool} {x : Edge} (ls : List (Location ℕ)) → Reads tells x ls (edges_in_desks node before) (edges_in_desks node after)
      → Reads tells x ls (desk_edges old) (desk_edges new)
  node_reads {tells} {x} ls r = record {
    keeps = λ l y c live. elim (cases_eq (node_at l) node) [
      | inl at ↦ subst (λ es. Contains es y) (sym (now l at)) (r.keeps l y (subst (λ es. Contains es y) (was l at) c) live)
      | inr differs ↦ subst (λ es. Contains es y) (sym (others l differs)) c
    ];
    only = λ l y c. elim (cases_eq (node_at l) node) [
      | inl at ↦ elim (r.only l y (subst (λ es. Contains es y) (now l at) c)) [
        | inl d ↦ inl (subst (λ es. Contains es y) (sym (was l at)) d)
        | inr e ↦ inr e
      ]
      | inr differs ↦ inl (subst (λ es. Contains es y) (others l differs) c)
    ];
  }

-- desks go, and then an edge comes
pub kept_reads : {L : Type 0} {tells : Edge → Bool} {x : Edge} {ls : List L} {old mid new : L → List Edge} → ((l : L) → Keeps tells (old l) (mid l))
    → Reads tells x ls mid new → Reads tells x ls old new
kept_reads kept r = record {
  keeps = λ l y c live. r.keeps l y ((kept l).keeps y c live) live;
  only = λ l y c. elim (r.only l y c) [ inl d ↦ inl ((kept l).from y d) | inr e ↦ inr e ];
}

-- the node has other desks, and all others have theirs
module _ (old new : List (ℕ × Desks)) (node : ℕ) (e : Desks) (now : lookup (nat_eq node) new ≡ Some e)
    (same : (q : ℕ) → nat_eq node q ≡ false → lookup (nat_eq q) new ≡ lookup (nat_eq q) old) where
  others_are : (l : Location ℕ) → (node_at l ≡ node → ⊥) → desk_edges new l ≡ desk_edges old l
  others_are l differs = desks_same old new l (same (node_at l) (ne_eqb node (node_at l) (λ is. differs (sym is))))

  pub node_changed : {tells : Edge → Bool} {x : Edge} (ls : List (Location ℕ)) (d : Desks) → lookup (nat_eq node) old ≡ Some d
      → Reads tells x ls (edges_in_desks node d.spots.entries) (edges_in_desks node e.spots.entries) → Reads tells x ls (desk_edges old) (desk_edges new)
  node_changed ls d was r = node_reads old new node d.spots.entries e.spots.entries (desks_are old node d was) (desks_are new node e now) others_are ls r

  pub node_comes : {tells : Edge → Bool} {x : Edge} (ls : List (Location ℕ)) → lookup (nat_eq node) old ≡ None
      → Reads tells x ls (edges_in_desks node []) (edges_in_desks node e.spots.entries) → Reads tells x ls (desk_edges old) (desk_edges new)
  node_comes ls none r = node_reads old new node [] e.spots.entries (desks_none old node none) (desks_are new node e now) others_are ls r

  pub node_gains : (x : Edge) (spot : Spot) → Contains (edges_in_desks node e.spots.entries (drawer_at node spot)) x → Contains (desk_edges new (drawer_at node spot)) x
  node_gains x spot c = subst (λ es. Contains es x) (sym (desks_are new node e now (drawer_at node spot) refl)) c

-- the first of the locations comes to have it, and the others are left
pub first_in : {L : Type 0} {x y : L} (xs : List L) → y ≡ x → (l : L) → Contains (x ∷ []) l → Contains (y ∷ xs) l
first_in {L} {x} {y} xs is l c = elim (Contains-cons_cases x l [] c) [
  | inl same ↦ subst (Contains (y ∷ xs)) (is ∙ same) (head_of y xs)
  | inr d ↦ absurd (none_in l d)
]

pub first_listed : {x : Edge} {l : Location ℕ} (m : Location ℕ) (ls : List (Location ℕ)) (lists : Location ℕ → List Edge) → m ≡ l → Contains (lists l) x
    → ListsBut x (m ∷ ls) ls lists
first_listed {x} {l} m ls lists is has = record {
  all = λ k c. elim (Contains-cons_cases m k ls c) [
    | inl same ↦ inl (subst (λ j. Contains (lists j) x) (sym is ∙ same) has)
    | inr d ↦ inr d
  ];
  rest = λ k c. Contains-cons m k ls c;
}

pub but_more : {x : Edge} {ls left : List (Location ℕ)} {new : Location ℕ → List Edge} (more : Location ℕ → List Edge) → ListsBut x ls left new
    → ListsBut x ls left (λ l. new l ++ more l)
but_more {x} {new = new} more b = record {
  all = λ l c. elim (b.all l c) [ inl d ↦ inl (Contains-append_left (new l) (more l) x d) | inr d ↦ inr d ];
  rest = b.rest;
}
