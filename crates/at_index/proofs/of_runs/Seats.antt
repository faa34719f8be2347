-- Nodes come to sit in runs.
use Rattle.at_index.proofs.Common.{◌-◌, get_or, nat_lt, take, ◌≡◌, ◌⊎◌, inl, inr, ℕ, zero, suc, ◌+◌, ◌<◌, ◌≤◌, List, [], ◌∷◌, ◌++◌, true, false, cond, Option, None, Some, Contains, slice_get, slice_set, length, nat_eq, refl, sym, ap, ◌∙◌, subst, arith, Bool, cases_Bool, cases_eq, eq-eqb, ltb-true, none-some, same_Some, slice_get_read, slice_get_within, Location, Edge, Reach, Run, Seat, node_at, AreApart, AreGiven, ArePast, AreSeated, Follows, HoldsReach, IsFree, KeepsRuns, count_of, edges_on, edges_over, edges_past, is_live, is_seen, lies, Keeps, Contains-cons}
use Rattle.at_index.proofs.Lists.{head_of, none_in}
use Rattle.at_index.proofs.of_runs.Following.{lies_in}
use Rattle.at_index.proofs.Gained.{get_other, get_same}
use Rattle.at_index.proofs.of_runs.Over.{either_empty, on_nowhere, over_at, over_none}
use Rattle.at_index.proofs.of_runs.Reaching.{holds_all, holds_then, on_are, on_same, past_from, past_to}

-- one element more
module _ {X : Type 0} where
  pub pushed_at : (xs : List X) (x : X) (k : ℕ) (y : X) → slice_get (xs ++ x ∷ []) k ≡ Some y → (slice_get xs k ≡ Some y) ⊎ ((y ≡ x) × (k ≡ length xs))
  pushed_at [] x zero y h = inr (sym (same_Some x y h), refl)
  pushed_at [] x (suc k) y h = absurd (none-some y h)
  pushed_at (z ∷ zs) x zero y h = inl h
  pushed_at (z ∷ zs) x (suc k) y h = elim (pushed_at zs x k y h) [ inl d ↦ inl d | inr (is, at) ↦ inr (is, ap suc at) ]

  pub pushed_stays : (xs : List X) (x : X) (k : ℕ) (y : X) → slice_get xs k ≡ Some y → slice_get (xs ++ x ∷ []) k ≡ Some y
  pushed_stays [] x k y h = absurd (none-some y h)
  pushed_stays (z ∷ zs) x zero y h = h
  pushed_stays (z ∷ zs) x (suc k) y h = pushed_stays zs x k y h

pub lent : {X : Type 0} (xs : List X) (k : ℕ) (x : X) → true ≡ nat_lt k (length xs) → x ≡ get_or xs k x → slice_get xs k ≡ Some x
lent xs k x inside is = slice_get_read xs (length xs) k x refl (ltb-true k (length xs) (sym inside)) is

pub none_long : {X : Type 0} (xs : List X) → length xs ≡ 0 → xs ≡ []
none_long [] h = refl
none_long (x ∷ xs) h = absurd (omega (arith, h))

-- the last one goes
last_at : {X : Type 0} (xs : List X) (n : ℕ) (x : X) → slice_get xs n ≡ Some x → length xs ≡ suc n → xs ≡ take n xs ++ x ∷ []
last_at [] n x h long = absurd (none-some x h)
last_at (y ∷ []) zero x h long = ap (λ z. z ∷ []) (same_Some y x h)
last_at (y ∷ z ∷ zs) zero x h long = absurd (omega (arith, long))
last_at (y ∷ ys) (suc n) x h long = ap (λ zs. y ∷ zs) (last_at ys n x h (omega (arith, long)))

pub popped : {X : Type 0} (xs ys : List X) (n : ℕ) (x : X) → n ≡ length xs → ys ≡ take (n - 1) xs → Some x ≡ slice_get xs (length xs - 1) → xs ≡ ys ++ x ∷ []
popped xs ys n x same rest last =
    let less = slice_get_within xs (length xs - 1) x (sym last) in
    let long : length xs ≡ suc (length xs - 1) = omega (arith, less) in
    last_at xs (length xs - 1) x (sym last) long ∙ ap (λ zs. zs ++ x ∷ []) (sym (rest ∙ ap (λ k. take (k - 1) xs) same))

on_zero : (s : Seat) → s.place ≡ 0 → nat_eq s.place 0 ≡ false → ⊥
on_zero s is off = let on = eq-eqb s.place 0 is in absurd cc

-- one seat more, which is nowhere
module _ (seats : List Seat) (seat : Seat) (is : seat.place ≡ 0) where
  pub apart_pushed : AreApart seats → AreApart (seats ++ seat ∷ [])
  apart_pushed apart m n s t a b off same_run same_place = elim (pushed_at seats seat m s a) [
    | inl c ↦ elim (pushed_at seats seat n t b) [
      | inl d ↦ apart m n s t c d off same_run same_place
      | inr (alike, at) ↦ absurd (on_zero s (same_place ∙ ap (λ (z : Seat). z.place) alike ∙ is) off)
    ]
    | inr (alike, at) ↦ absurd (on_zero s (ap (λ (z : Seat). z.place) alike ∙ is) off)
  ]

  pub given_pushed : (runs : List Run) → AreGiven seats runs → AreGiven (seats ++ seat ∷ []) runs
  given_pushed runs given n s a = elim (pushed_at seats seat n s a) [
    | inl c ↦ given n s c
    | inr (alike, at) ↦ let zero_is : s.place ≡ 0 = ap (λ (z : Seat). z.place) alike ∙ is in omega (arith, zero_is)
  ]

  pub over_pushed : (runs : List Run) (l : Location ℕ) → edges_over (seats ++ seat ∷ []) runs l ≡ edges_over seats runs l
  over_pushed runs l = by (slice_get seats (node_at l)) (slice_get (seats ++ seat ∷ []) (node_at l)) refl refl
    where
      by : (o p : Option Seat) → slice_get seats (node_at l) ≡ o → slice_get (seats ++ seat ∷ []) (node_at l) ≡ p
          → edges_over (seats ++ seat ∷ []) runs l ≡ edges_over seats runs l
      by (Some s) p a b = over_at (seats ++ seat ∷ []) runs l s (pushed_stays seats seat (node_at l) s a) ∙ sym (over_at seats runs l s a)
      by None None a b = over_none (seats ++ seat ∷ []) runs l b ∙ sym (over_none seats runs l a)
      by None (Some s) a b = elim (pushed_at seats seat (node_at l) s b) [
        | inl c ↦ absurd (none-some s (sym a ∙ c))
        | inr (alike, at) ↦ over_at (seats ++ seat ∷ []) runs l s b
            ∙ either_empty (is_seen (node_at l) s l) (on_nowhere runs s (ap (λ (z : Seat). z.place) alike ∙ is)) ∙ sym (over_none seats runs l a)
      ]

-- the count of a run
pub count_is : (runs : List Run) (k : ℕ) (r : Run) → slice_get runs k ≡ Some r → count_of runs k ≡ r.count
count_is runs k r h = ap (λ (o : Option Run). elim o as (λ _. ℕ) [ None ↦ 0 | Some r ↦ r.count ]) h

pub count_none : (runs : List Run) (k : ℕ) → slice_get runs k ≡ None → count_of runs k ≡ 0
count_none runs k h = ap (λ (o : Option Run). elim o as (λ _. ℕ) [ None ↦ 0 | Some r ↦ r.count ]) h

pub count_same : (xs ys : List Run) (k : ℕ) → slice_get xs k ≡ slice_get ys k → count_of xs k ≡ count_of ys k
count_same xs ys k h = ap (λ (o : Option Run). elim o as (λ _. ℕ) [ None ↦ 0 | Some r ↦ r.count ]) h

pub has_run : (runs : List Run) (k n : ℕ) → n ≤ count_of runs k → 0 < n → k < length runs
has_run runs k n least more = by (slice_get runs k) refl
  where
    by : (o : Option Run) → slice_get runs k ≡ o → k < length runs
    by None h = absurd (let none = count_none runs k h in omega (arith, none, least, more))
    by (Some r) h = slice_get_within runs k r h

pub counted : {seats : List Seat} (runs : List Run) {run behind last : ℕ} {locations left : List (Location ℕ)} → AreGiven seats runs
    → Follows seats run behind last locations left → behind < last → last ≤ count_of runs run
counted {seats} runs {run} {behind} {last} given f more =
    let (n, s, there, inside, at) = f.seated more in
    subst (λ p. p ≤ count_of runs run) at (subst (λ k. s.place ≤ count_of runs k) inside (given n s there))

-- one run is another one
module _ (old new : List Run) (run : ℕ) (was v : Run) (there : slice_get old run ≡ Some was) (so : new ≡ slice_set old run v) where
  pub set_here : slice_get new run ≡ Some v
  set_here = ap (λ xs. slice_get xs run) so ∙ get_same old run v was there

  pub set_other : (k : ℕ) → (k ≡ run → ⊥) → slice_get new k ≡ slice_get old k
  set_other k differs = ap (λ xs. slice_get xs k) so ∙ get_other old run k v differs

  pub set_given : was.count ≤ v.count → (k : ℕ) → count_of old k ≤ count_of new k
  set_given more k = elim (cases_eq k run) [
    | inl same ↦
        let a = count_is old k was (ap (slice_get old) same ∙ there) in
        let b = count_is new k v (ap (slice_get new) same ∙ set_here) in
        omega (arith, a, b, more)
    | inr differs ↦ let e = count_same new old k (set_other k differs) in omega (arith, e)
  ]

  pub set_past : was.count ≤ v.count → ((x : Reach) → Contains v.edges.items x → Contains was.edges.items x ⊎ (x.last ≤ was.count)) → ArePast old → ArePast new
  set_past more from past k r h x c = elim (cases_eq k run) [
    | inl same ↦
        let alike : v ≡ r = same_Some v r (sym set_here ∙ sym (ap (slice_get new) same) ∙ h) in
        let d : Contains v.edges.items x = subst (λ (z : Run). Contains z.edges.items x) (sym alike) c in
        let least : x.last ≤ was.count = elim (from x d) [ inl e ↦ past run was there x e | inr e ↦ e ] in
        let e : v.count ≡ r.count = ap (λ (z : Run). z.count) alike in
        omega (arith, least, more, e)
    | inr differs ↦ past k r (sym (set_other k differs) ∙ h) x c
  ]

  pub set_on : v.edges.items ≡ was.edges.items → (s : Seat) → edges_on new s ≡ edges_on old s
  set_on is s = elim (cases_eq s.run run) [
    | inl same ↦ on_are new s v (ap (slice_get new) same ∙ set_here) ∙ ap (edges_past s.place) is ∙ sym (on_are old s was (ap (slice_get old) same ∙ there))
    | inr differs ↦ on_same new old s (set_other s.run differs)
  ]

  -- it has lost edges alone
  pub set_keeps : {tells : Edge → Bool} {x : Edge} → v.count ≡ was.count → HoldsReach tells x was.edges.items v.edges.items → KeepsRuns tells x old new
  set_keeps {tells} {x} alike holds = record {
    lists = λ s. elim (cases_eq s.run run) [
      | inl same ↦ lost s (on_are old s was (ap (slice_get old) same ∙ there)) (on_are new s v (ap (slice_get new) same ∙ set_here))
      | inr differs ↦ holds_all (on_same new old s (set_other s.run differs))
    ];
    given = set_given (omega (arith, alike));
    past = set_past (omega (arith, alike)) (λ y d. inl (holds.from y d));
  }
    where
      lost : (s : Seat) → edges_on old s ≡ edges_past s.place was.edges.items → edges_on new s ≡ edges_past s.place v.edges.items
          → Keeps (is_live tells x) (edges_on old s) (edges_on new s)
      lost s a b = record {
        keeps = λ y c on.
            let (r, d, over, is) = past_from s.place was.edges.items y (subst (λ es. Contains es y) a c) in
            subst (λ es. Contains es y) (sym b) (subst (Contains (edges_past s.place v.edges.items)) is
            (past_to s.place v.edges.items r (holds.keeps r d (ap (is_live tells x) is ∙ on)) over));
        from = λ y c.
            let (r, d, over, is) = past_from s.place v.edges.items y (subst (λ es. Contains es y) b c) in
            subst (λ es. Contains es y) (sym a) (subst (Contains (edges_past s.place was.edges.items)) is
            (past_to s.place was.edges.items r (holds.from r d) over));
      }

  -- it has none
  pub set_idle : v.edges.items ≡ [] → (s : Seat) → s.run ≡ run → edges_on new s ≡ []
  set_idle none s same = on_are new s v (ap (slice_get new) same ∙ set_here) ∙ ap (edges_past s.place) none

-- runs that stay, and those that lose edges more than once
pub runs_stay : {tells : Edge → Bool} {x : Edge} {old new : List Run} → new ≡ old → KeepsRuns tells x old new
runs_stay {old} is = record {
  lists = λ s. holds_all (ap (λ rs. edges_on rs s) is);
  given = λ k. let e = ap (λ rs. count_of rs k) is in omega (arith, e);
  past = λ p. subst ArePast (sym is) p;
}

pub runs_then : {tells : Edge → Bool} {x : Edge} {old mid new : List Run} → KeepsRuns tells x old mid → KeepsRuns tells x mid new → KeepsRuns tells x old new
runs_then a b = record {
  lists = λ s. holds_then (a.lists s) (b.lists s);
  given = λ k. let c = a.given k in let d = b.given k in omega (arith, c, d);
  past = λ p. b.past (a.past p);
}

on_none : (runs : List Run) (s : Seat) → slice_get runs s.run ≡ None → edges_on runs s ≡ []
on_none runs s h = ap (λ (o : Option Run). elim o as (λ _. List Edge) [ None ↦ [] | Some r ↦ edges_past s.place r.edges.items ]) h

-- one run more, with no edge
module _ (old : List Run) (r : Run) (none : r.edges.items ≡ []) where
  pub run_pushed : {tells : Edge → Bool} {x : Edge} → KeepsRuns tells x old (old ++ r ∷ [])
  run_pushed = record {
    lists = λ s. holds_all (by s (slice_get old s.run) (slice_get (old ++ r ∷ []) s.run) refl refl);
    given = λ k. more k (slice_get old k) refl;
    past = λ p k q h x c. elim (pushed_at old r k q h) [
      | inl d ↦ p k q d x c
      | inr (is, at) ↦ absurd (none_in x (subst (λ es. Contains es x) (ap (λ (z : Run). z.edges.items) is ∙ none) c))
    ];
  }
    where
      by : (s : Seat) (o p : Option Run) → slice_get old s.run ≡ o → slice_get (old ++ r ∷ []) s.run ≡ p → edges_on (old ++ r ∷ []) s ≡ edges_on old s
      by s (Some q) p a b = on_are (old ++ r ∷ []) s q (pushed_stays old r s.run q a) ∙ sym (on_are old s q a)
      by s None None a b = on_same (old ++ r ∷ []) old s (b ∙ sym a)
      by s None (Some q) a b = elim (pushed_at old r s.run q b) [
        | inl c ↦ absurd (none-some q (sym a ∙ c))
        | inr (is, at) ↦ on_are (old ++ r ∷ []) s q b ∙ ap (edges_past s.place) (ap (λ (z : Run). z.edges.items) is ∙ none) ∙ sym (on_none old s a)
      ]

      more : (k : ℕ) (o : Option Run) → slice_get old k ≡ o → count_of old k ≤ count_of (old ++ r ∷ []) k
      more k None a = let e = count_none old k a in omega (arith, e)
      more k (Some q) a =
          let e = count_is old k q a in
          let f = count_is (old ++ r ∷ []) k q (pushed_stays old r k q a) in
          omega (arith, e, f)

-- lists of the same edges
pub over_runs : (seats : List Seat) (old new : List Run) → ((s : Seat) → edges_on new s ≡ edges_on old s) → (l : Location ℕ)
    → edges_over seats new l ≡ edges_over seats old l
over_runs seats old new same l = by (slice_get seats (node_at l)) refl
  where
    by : (o : Option Seat) → slice_get seats (node_at l) ≡ o → edges_over seats new l ≡ edges_over seats old l
    by None h = over_none seats new l h ∙ sym (over_none seats old l h)
    by (Some s) h = over_at seats new l s h ∙ ap (λ es. cond (is_seen (node_at l) s l) es []) (same s) ∙ sym (over_at seats old l s h)

-- no edge is over the next place
pub beyond : (runs : List Run) (s : Seat) → ArePast runs → s.place ≡ count_of runs s.run + 1 → edges_on runs s ≡ []
beyond runs s past next = by (slice_get runs s.run) refl
  where
    off : (behind last : ℕ) → last < s.place → lies behind last s.place ≡ false
    off behind last less = elim (cases_Bool (lies behind last s.place)) [
      | inl on ↦ absurd (let b = (lies_in behind last s.place on).1 in omega (arith, less, b))
      | inr is ↦ is
    ]

    none : (xs : List Reach) → ((x : Reach) → Contains xs x → x.last < s.place) → edges_past s.place xs ≡ []
    none [] less = refl
    none (x ∷ xs) less =
        ap (λ b. cond b (x.edge ∷ []) [] ++ edges_past s.place xs) (off x.behind x.last (less x (head_of x xs)))
        ∙ none xs (λ y c. less y (Contains-cons x y xs c))

    by : (o : Option Run) → slice_get runs s.run ≡ o → edges_on runs s ≡ []
    by None h = on_none runs s h
    by (Some r) h = on_are runs s r h ∙ none r.edges.items (λ x c.
        let least = past s.run r h x c in
        let count = count_is runs s.run r h in
        omega (arith, least, count, next))

-- a node sits in the next place
module _ (seats new : List Seat) (node : ℕ) (was v : Seat) (there : slice_get seats node ≡ Some was) (so : new ≡ slice_set seats node v) where
  seat_here : slice_get new node ≡ Some v
  seat_here = ap (λ xs. slice_get xs node) so ∙ get_same seats node v was there

  seat_other : (k : ℕ) → (k ≡ node → ⊥) → slice_get new k ≡ slice_get seats k
  seat_other k differs = ap (λ xs. slice_get xs k) so ∙ get_other seats node k v differs

  is_here : (k : ℕ) (s : Seat) → k ≡ node → slice_get new k ≡ Some s → s ≡ v
  is_here k s same h = same_Some s v (sym h ∙ ap (slice_get new) same ∙ seat_here)

  pub sits_apart : (runs : List Run) → AreApart seats → AreGiven seats runs → v.place ≡ count_of runs v.run + 1 → AreApart new
  sits_apart runs apart given next m n s t a b off same_run same_place = elim (cases_eq m node) [
    | inl here ↦ elim (cases_eq n node) [
      | inl there ↦ here ∙ sym there
      | inr differs ↦ absurd (taken n t s differs b (is_here m s here a) (sym same_run) (sym same_place))
    ]
    | inr differs ↦ elim (cases_eq n node) [
      | inl there ↦ absurd (taken m s t differs a (is_here n t there b) same_run same_place)
      | inr others ↦ apart m n s t (sym (seat_other m differs) ∙ a) (sym (seat_other n others) ∙ b) off same_run same_place
    ]
  ]
    where
      taken : (k : ℕ) (s t : Seat) → (k ≡ node → ⊥) → slice_get new k ≡ Some s → t ≡ v → s.run ≡ t.run → s.place ≡ t.place → ⊥
      taken k s t differs a is same_run same_place =
          let least : s.place ≤ count_of runs s.run = given k s (sym (seat_other k differs) ∙ a) in
          let run : count_of runs s.run ≡ count_of runs v.run = ap (count_of runs) (same_run ∙ ap (λ (z : Seat). z.run) is) in
          let place : s.place ≡ v.place = same_place ∙ ap (λ (z : Seat). z.place) is in
          omega (arith, least, run, place, next)

  pub sits_given : (runs later : List Run) → ((k : ℕ) → count_of runs k ≤ count_of later k) → AreGiven seats runs → v.place ≡ count_of later v.run
      → AreGiven new later
  sits_given runs later more given is n s h = elim (cases_eq n node) [
    | inl same ↦
        let alike = is_here n s same h in
        let place : s.place ≡ v.place = ap (λ (z : Seat). z.place) alike in
        let count : count_of later v.run ≡ count_of later s.run = ap (λ (z : Seat). count_of later z.run) (sym alike) in
        omega (arith, is, place, count)
    | inr differs ↦
        let least : s.place ≤ count_of runs s.run = given n s (sym (seat_other n differs) ∙ h) in
        let up = more s.run in
        omega (arith, least, up)
  ]

  pub sits_same : (runs : List Run) → edges_on runs was ≡ [] → edges_on runs v ≡ [] → (l : Location ℕ) → edges_over new runs l ≡ edges_over seats runs l
  sits_same runs before after l = elim (cases_eq (node_at l) node) [
    | inl same ↦
        over_at new runs l v (ap (slice_get new) same ∙ seat_here) ∙ either_empty (is_seen (node_at l) v l) after
        ∙ sym (over_at seats runs l was (ap (slice_get seats) same ∙ there) ∙ either_empty (is_seen (node_at l) was l) before)
    | inr differs ↦ by (slice_get seats (node_at l)) refl differs
  ]
    where
      by : (o : Option Seat) → slice_get seats (node_at l) ≡ o → (node_at l ≡ node → ⊥) → edges_over new runs l ≡ edges_over seats runs l
      by None h differs = over_none new runs l (seat_other (node_at l) differs ∙ h) ∙ sym (over_none seats runs l h)
      by (Some s) h differs = over_at new runs l s (seat_other (node_at l) differs ∙ h) ∙ sym (over_at seats runs l s h)

pub free_pushed : (seats : List Seat) (seat : Seat) → seat.place ≡ 0 → (runs : List Run) (node : ℕ) → IsFree seats runs node → IsFree (seats ++ seat ∷ []) runs node
free_pushed seats seat is runs node free s h = elim (pushed_at seats seat node s h) [
  | inl d ↦ free s d
  | inr (alike, at) ↦ on_nowhere runs s (ap (λ (z : Seat). z.place) alike ∙ is)
]

pub seated_on : {seats : List Seat} {old new : List Run} → AreSeated seats old
    → ((k : ℕ) → count_of old k ≤ count_of new k) → (ArePast old → ArePast new) → AreSeated seats new
seated_on a given past = record {
  apart = a.apart;
  given = λ n s h. let c = a.given n s h in let d = given s.run in omega (arith, c, d);
  past = past a.past;
}

pub seated_keeps : {tells : Edge → Bool} {x : Edge} {seats : List Seat} {old new : List Run} → AreSeated seats old → KeepsRuns tells x old new → AreSeated seats new
seated_keeps a keeps = seated_on a keeps.given keeps.past
