-- Edges of runs are made anew, one behind the other.
use Rattle.at_evict.proofs.Common.{◌≡◌, inl, inr, ℕ, ◌<◌, ◌+◌, List, [], ◌∷◌, ◌++◌, ◌&&◌, Bool, true, false, true≢false, cond, not, nat_eq, nat_lt, Option, None, Some, Contains, get_or, take, length, slice_get, slice_set, refl, sym, ap, ◌∙◌, subst, eqb-true, arith, list_any, eq-eqb, le-ltb, ltb-false, and_from, take_more, Contains-append_cases, Contains-append_left, Contains-append_right, Contains-push, Contains-push_cases, none-some, Location, Edge, Reach, Seat, HasUser, Refolded, told_of, Memory, node_at, is_current, same_edge, AreRerun, Covers, GoNoFurther, IsOver, IsRerun, Reaches, is_as_wide, targets_of, AreSeated, edges_on, edges_over, edges_past, is_seen, lies, both, some_of, none_in, get_same}
use Rattle.at_index.specs.declared.run.Run.{Run}
use Rattle.at_evict.proofs.of_folding.Gathering.{only_one, told_same}
use Rattle.at_evict.proofs.of_folding.Nodes.{refolded_append, refolded_none}
use Rattle.at_index.proofs.of_runs.Following.{in_lies, lies_in}
use Rattle.at_index.proofs.of_runs.Reaching.{past_from, past_to}
use Rattle.at_index.proofs.of_runs.Seats.{set_given, set_past}

-- what is folded where the edge tells of an entry
module _ (there : Edge → Bool) (into : ℕ → List ℕ) (x : Edge) where
  pub targets_on : there x ≡ true → targets_of there into x ≡ into x.slot
  targets_on is = ap (λ b. cond b (into x.slot) []) is

  pub targets_off : there x ≡ false → targets_of there into x ≡ []
  targets_off is = ap (λ b. cond b (into x.slot) []) is

  target_from : (r : ℕ) → Contains (targets_of there into x) r → (there x ≡ true) × Contains (into x.slot) r
  target_from r c = by (there x) refl
    where
      by : (b : Bool) → there x ≡ b → (there x ≡ true) × Contains (into x.slot) r
      by true is = (is, subst (λ ts. Contains ts r) (targets_on is) c)
      by false is = absurd (none_in r (subst (λ ts. Contains ts r) (targets_off is) c))

not_on : (b : Bool) → not b ≡ true → b ≡ false
not_on true h = absurd (true≢false (sym h))
not_on false h = refl

-- what is as wide
module _ (q r : Reach) (h : is_as_wide q r ≡ true) where
  pub wide_same : q.edge ≡ r.edge
  wide_same =
      let (same, wide) = both (same_edge q.edge r.edge) (not (nat_lt r.behind q.behind) && not (nat_lt q.last r.last)) h in
      let (slots, stamps) = both (nat_eq q.edge.slot r.edge.slot) (nat_eq q.edge.stamp r.edge.stamp) same in
      λ i. record { slot = eqb-true q.edge.slot r.edge.slot slots i; stamp = eqb-true q.edge.stamp r.edge.stamp stamps i }

  pub wide_lies : (p : ℕ) → lies r.behind r.last p ≡ true → lies q.behind q.last p ≡ true
  wide_lies p on =
      let (same, wide) = both (same_edge q.edge r.edge) (not (nat_lt r.behind q.behind) && not (nat_lt q.last r.last)) h in
      let (a, b) = both (not (nat_lt r.behind q.behind)) (not (nat_lt q.last r.last)) wide in
      let front = ltb-false r.behind q.behind (not_on (nat_lt r.behind q.behind) a) in
      let back = ltb-false q.last r.last (not_on (nat_lt q.last r.last) b) in
      let (behind, within) = lies_in r.behind r.last p on in
      in_lies q.behind q.last p (omega (arith, front, behind)) (omega (arith, back, within))

pub wide_itself : (r : Reach) → is_as_wide r r ≡ true
wide_itself r =
    and_from (same_edge r.edge r.edge) (not (nat_lt r.behind r.behind) && not (nat_lt r.last r.last))
    (and_from (nat_eq r.edge.slot r.edge.slot) (nat_eq r.edge.stamp r.edge.stamp) (eq-eqb r.edge.slot r.edge.slot refl) (eq-eqb r.edge.stamp r.edge.stamp refl))
    (and_from (not (nat_lt r.behind r.behind)) (not (nat_lt r.last r.last)) (ap not (le-ltb r.behind r.behind (omega arith))) (ap not (le-ltb r.last r.last (omega arith))))

-- one of those at the end is as wide
pub covers_near : (r : Reach) (front back edges : List Reach) → edges ≡ front ++ back → list_any (λ q. is_as_wide q r) back ≡ true → Covers r edges edges
covers_near r front back edges is h =
    let (q, c, wide) = some_of (λ q. is_as_wide q r) back h in record {
      kept = λ q c. c;
      over = (q, subst (λ es. Contains es q) (sym is) (Contains-append_right front back q c), wide);
      from = λ q c. inl c;
    }

pub covers_pushed : (r : Reach) (old new : List Reach) → new ≡ old ++ r ∷ [] → Covers r old new
covers_pushed r old new is = record {
  kept = λ q c. subst (λ es. Contains es q) (sym is) (Contains-append_left old (r ∷ []) q c);
  over = (r, subst (λ es. Contains es r) (sym is) (Contains-push old r), wide_itself r);
  from = λ q c. elim (Contains-push_cases old r q (subst (λ es. Contains es q) is c)) [ inl d ↦ inl d | inr same ↦ inr (sym same) ];
}

-- edges to what is in slots
module _ (m : Memory) (r : Reach) where
  still_over : (y : Edge) (old new : List Reach) → ((q : Reach) → Contains old q → Contains new q) → IsOver (record r { edge = y }) old → IsOver (record r { edge = y }) new
  still_over y old new kept (q, c, wide) = (q, kept q c, wide)

  pub reaches_none : (edges : List Reach) → Reaches m [] r edges edges
  reaches_none edges = record { kept = λ q c. c; has = λ y c is. absurd (none_in y.slot c); from = λ q c. inl c }

  pub reaches_then : (xs ys : List ℕ) (old mid new : List Reach) → Reaches m xs r old mid → Reaches m ys r mid new → Reaches m (xs ++ ys) r old new
  reaches_then xs ys old mid new a b = record {
    kept = λ q c. b.kept q (a.kept q c);
    has = λ y c is. elim (Contains-append_cases xs ys y.slot c) [ inl d ↦ still_over y mid new b.kept (a.has y d is) | inr d ↦ b.has y d is ];
    from = λ q c. elim (b.from q c) [
      | inl d ↦ elim (a.from q d) [ inl e ↦ inl e | inr (is, e, f, g) ↦ inr (is, Contains-append_left xs ys q.edge.slot e, f, g) ]
      | inr (is, e, f, g) ↦ inr (is, Contains-append_right xs ys q.edge.slot e, f, g)
    ];
  }

  pub reaches_more : (xs : List ℕ) (i d : ℕ) (old mid new : List Reach) → i < length xs → Reaches m (take i xs) r old mid
      → Reaches m (get_or xs i d ∷ []) r mid new → Reaches m (take (i + 1) xs) r old new
  reaches_more xs i d old mid new less a b = subst (λ ys. Reaches m ys r old new) (sym (take_more xs i d less)) (reaches_then (take i xs) (get_or xs i d ∷ []) old mid new a b)

  -- of a slot in which there is none
  pub reaches_gone : (s : ℕ) (edges : List Reach) → m s ≡ None → Reaches m (s ∷ []) r edges edges
  reaches_gone s edges none = record {
    kept = λ q c. c;
    has = λ y c is. let (e, found, stamp) = told_of m y is in absurd (none-some e (sym none ∙ ap m (sym (only_one s y.slot c)) ∙ found));
    from = λ q c. inl c;
  }

  pub reaches_one : (x : Edge) (old new : List Reach) → is_current m x ≡ true → Covers (record r { edge = x }) old new → Reaches m (x.slot ∷ []) r old new
  reaches_one x old new is c = record {
    kept = c.kept;
    has = λ y d on. subst (λ (z : Edge). IsOver (record r { edge = z }) new) (told_same m x y is on (sym (only_one x.slot y.slot d))) c.over;
    from = λ q d. elim (c.from q d) [
      | inl e ↦ inl e
      | inr same ↦ inr (
        subst (λ (z : Reach). is_current m z.edge ≡ true) (sym same) is,
        subst (λ (z : Reach). Contains (x.slot ∷ []) z.edge.slot) (sym same) (Contains-push [] x.slot),
        ap (λ (z : Reach). z.behind) same,
        ap (λ (z : Reach). z.last) same,
      )
    ];
  }

module _ (m : Memory) (into : ℕ → List ℕ) where
  pub rerun_none : AreRerun m into [] []
  rerun_none = record { over = λ p. refolded_none (is_current m) into; further = λ q c. absurd (none_in q c) }

  -- one edge more
  rerun_then : (xs : List Reach) (r : Reach) (old new : List Reach) → AreRerun m into xs old → Reaches m (targets_of (is_current m) into r.edge) r old new
      → AreRerun m into (xs ++ r ∷ []) new
  rerun_then xs r old new a b = record {
    over = λ p. record {
      has = λ y u is. has p y u is;
      from = λ y c. from p y c;
    };
    further = λ q c. elim (b.from q c) [
      | inl d ↦ let (s, e, same) = a.further q d in (s, Contains-append_left xs (r ∷ []) s e, same)
      | inr (is, d, e, f) ↦ (r, Contains-push xs r, f)
    ];
  }
    where
      has : (p : ℕ) (y : Edge) → HasUser (is_current m) into (edges_past p (xs ++ r ∷ [])) y.slot → is_current m y ≡ true → Contains (edges_past p new) y
      has p y (x, c, is, d) on =
          let (s, e, over, same) = past_from p (xs ++ r ∷ []) x c in
          elim (Contains-push_cases xs r s e) [
            | inl f ↦
                let (t, g, lie, alike) = past_from p old y ((a.over p).has y (x, subst (Contains (edges_past p xs)) same (past_to p xs s f over), is, d) on) in
                subst (Contains (edges_past p new)) alike (past_to p new t (b.kept t g) lie)
            | inr last ↦
                let edge : r.edge ≡ x = ap (λ (z : Reach). z.edge) last ∙ same in
                let target = subst (λ (z : Edge). Contains (targets_of (is_current m) into z) y.slot) (sym edge)
                (subst (λ ts. Contains ts y.slot) (sym (targets_on (is_current m) into x is)) d) in
                let (q, g, wide) = b.has y target on in
                let lie : lies r.behind r.last p ≡ true = subst (λ (z : Reach). lies z.behind z.last p ≡ true) (sym last) over in
                subst (Contains (edges_past p new)) (wide_same q (record r { edge = y }) wide) (past_to p new q g (wide_lies q (record r { edge = y }) wide p lie))
          ]

      from : (p : ℕ) (y : Edge) → Contains (edges_past p new) y → (is_current m y ≡ true) × HasUser (is_current m) into (edges_past p (xs ++ r ∷ [])) y.slot
      from p y c =
          let (q, d, lie, same) = past_from p new y c in
          elim (b.from q d) [
            | inl e ↦
                let (is, (x, f, on, g)) = (a.over p).from y (subst (Contains (edges_past p old)) same (past_to p old q e lie)) in
                let (s, h, over, alike) = past_from p xs x f in
                (is, (x, subst (Contains (edges_past p (xs ++ r ∷ []))) alike (past_to p (xs ++ r ∷ []) s (Contains-append_left xs (r ∷ []) s h) over), on, g))
            | inr (is, e, f, g) ↦
                let (on, h) = target_from (is_current m) into r.edge q.edge.slot e in
                let over : lies r.behind r.last p ≡ true = subst (λ n. lies n r.last p ≡ true) f (subst (λ n. lies q.behind n p ≡ true) g lie) in (
                  subst (λ (z : Edge). is_current m z ≡ true) same is,
                  (r.edge, past_to p (xs ++ r ∷ []) r (Contains-push xs r) over, on, subst (λ (z : Edge). Contains (into r.edge.slot) z.slot) same h),
                )
          ]

  pub rerun_more : (xs : List Reach) (i : ℕ) (d : Reach) (old new : List Reach) → i < length xs → AreRerun m into (take i xs) old
      → Reaches m (targets_of (is_current m) into (get_or xs i d).edge) (get_or xs i d) old new → AreRerun m into (take (i + 1) xs) new
  rerun_more xs i d old new less a b = subst (λ rs. AreRerun m into rs new) (sym (take_more xs i d less)) (rerun_then (take i xs) (get_or xs i d) old new a b)

  -- where each run is so
  pub runs_rerun : (old new : List Run) → ((k : ℕ) → IsRerun m into (slice_get old k) (slice_get new k)) → (s : Seat)
      → Refolded (is_current m) into (edges_on old s) (edges_on new s)
  runs_rerun old new h s = by (slice_get old s.run) (slice_get new s.run) (h s.run)
    where
      on : Option Run → List Edge
      on o = elim o as (λ _. List Edge) [ None ↦ [] | Some r ↦ edges_past s.place r.edges.items ]

      by : (o p : Option Run) → IsRerun m into o p → Refolded (is_current m) into (on o) (on p)
      by None p none = subst (λ q. Refolded (is_current m) into [] (on q)) (sym none) (refolded_none (is_current m) into)
      by (Some r) p some = let (q, is, lists) = some in subst (λ q. Refolded (is_current m) into (edges_past s.place r.edges.items) (on q)) (sym is) (lists.over s.place)

  -- one run more
  pub one_run : (rs : List Run) (k : ℕ) (was v : Run) → slice_get rs k ≡ Some was → AreRerun m into was.edges.items v.edges.items
      → IsRerun m into (slice_get rs k) (slice_get (slice_set rs k v) k)
  one_run rs k was v at h = subst (λ o. IsRerun m into o (slice_get (slice_set rs k v) k)) (sym at) (v, get_same rs k v was at, h)

  either : (b : Bool) (old new : List Edge) → Refolded (is_current m) into old new → Refolded (is_current m) into (cond b old []) (cond b new [])
  either true old new h = h
  either false old new h = refolded_none (is_current m) into

  -- and so is each location
  over_rerun : (seats : List Seat) (old new : List Run) → ((s : Seat) → Refolded (is_current m) into (edges_on old s) (edges_on new s)) → (l : Location ℕ)
      → Refolded (is_current m) into (edges_over seats old l) (edges_over seats new l)
  over_rerun seats old new h l = by (slice_get seats (node_at l))
    where
      over : List Run → Option Seat → List Edge
      over runs o = elim o as (λ _. List Edge) [ None ↦ [] | Some s ↦ cond (is_seen (node_at l) s l) (edges_on runs s) [] ]

      by : (o : Option Seat) → Refolded (is_current m) into (over old o) (over new o)
      by None = refolded_none (is_current m) into
      by (Some s) = either (is_seen (node_at l) s l) (edges_on old s) (edges_on new s) (h s)

  pub all_rerun : (own later : Location ℕ → List Edge) (seats : List Seat) (old new : List Run)
      → ((l : Location ℕ) → Refolded (is_current m) into (own l) (later l))
      → ((s : Seat) → Refolded (is_current m) into (edges_on old s) (edges_on new s))
      → (l : Location ℕ) → Refolded (is_current m) into (own l ++ edges_over seats old l) (later l ++ edges_over seats new l)
  all_rerun own later seats old new h g l =
      refolded_append (is_current m) into (own l) (later l) (edges_over seats old l) (edges_over seats new l) (h l) (over_rerun seats old new g l)

-- one run goes no further
pub seated_set : {seats : List Seat} (old new : List Run) (k : ℕ) (was v : Run) → slice_get old k ≡ Some was → new ≡ slice_set old k v → v.count ≡ was.count
    → GoNoFurther was.edges.items v.edges.items → AreSeated seats old → AreSeated seats new
seated_set old new k was v there so alike further a = record {
  apart = a.apart;
  given = λ n s h. let least = a.given n s h in let more = set_given old new k was v there so (omega (arith, alike)) s.run in omega (arith, least, more);
  past = set_past old new k was v there so (omega (arith, alike)) (λ x c.
      let (y, d, same) = further x c in let least = a.past k was there y d in inr (omega (arith, same, least))) a.past;
}
