-- Locations that go over a part of a run.
use Rattle.at_index.proofs.Common.{◌≡◌, inl, inr, ℕ, ◌+◌, ◌<◌, ◌≤◌, List, ◌&&◌, Bool, true, false, not, true≢false, Option, None, Some, Contains, slice_get, nat_eq, nat_lt, refl, sym, ap, ◌∙◌, subst, arith, eqb-true, cases_Bool, cases_lt, eq-eqb, lt-ltb, le-ltb, ltb-false, ltb-true, and_from, same_Some, Location, Facet, Seat, is_index, node_at, IsFirst, is_of_index, stands_for, AreApart, Follows, SitsAt, is_reached, is_seen, is_within, lies, both}
use Rattle.at_index.proofs.Locations.{stands_at, stands_index}

-- the node of a location sits in that part of the run
pub record Sits (seats : List Seat) (run behind last : ℕ) (l : Location ℕ) : Type 0 where
  pub seat : Seat
  pub there : slice_get seats (node_at l) ≡ Some seat
  pub seen : is_seen (node_at l) seat l ≡ true
  pub inside : seat.run ≡ run
  pub after : behind < seat.place
  pub upto : seat.place ≤ last

not_true : (b : Bool) → not b ≡ true → b ≡ false
not_true true h = absurd (true≢false (sym h))
not_true false h = refl

pub lies_in : (behind last place : ℕ) → lies behind last place ≡ true → (behind < place) × (place ≤ last)
lies_in behind last place h =
    let (a, b) = both (nat_lt behind place) (not (nat_lt last place)) h in
    (ltb-true behind place a, ltb-false last place (not_true (nat_lt last place) b))

pub in_lies : (behind last place : ℕ) → behind < place → place ≤ last → lies behind last place ≡ true
in_lies behind last place a b = and_from (nat_lt behind place) (not (nat_lt last place)) (lt-ltb behind place a) (ap not (le-ltb last place b))

module _ (seats : List Seat) (run behind last : ℕ) (l : Location ℕ) where
  pub sits : is_reached seats run behind last l ≡ true → Sits seats run behind last l
  sits h = by (slice_get seats (node_at l)) refl h
    where
      by : (o : Option Seat) → slice_get seats (node_at l) ≡ o
          → elim o as (λ _. Bool) [ None ↦ false | Some s ↦ is_seen (node_at l) s l && is_within run behind last s ] ≡ true
          → Sits seats run behind last l
      by None is h = absurd (true≢false (sym h))
      by (Some s) is h =
          let (seen, within) = both (is_seen (node_at l) s l) (is_within run behind last s) h in
          let (same, lie) = both (nat_eq s.run run) (lies behind last s.place) within in
          let (a, b) = lies_in behind last s.place lie in
          record { seat = s; there = is; seen = seen; inside = eqb-true s.run run same; after = a; upto = b }

  pub reached : Sits seats run behind last l → is_reached seats run behind last l ≡ true
  reached a =
      ap (λ (o : Option Seat). elim o as (λ _. Bool) [ None ↦ false | Some s ↦ is_seen (node_at l) s l && is_within run behind last s ]) a.there
      ∙ and_from (is_seen (node_at l) a.seat l) (is_within run behind last a.seat) a.seen
      (and_from (nat_eq a.seat.run run) (lies behind last a.seat.place) (eq-eqb a.seat.run run a.inside) (in_lies behind last a.seat.place a.after a.upto))

-- what a facet stands for that isn't the index
pub no_index : (n : ℕ) (f : Facet) (l : Location ℕ) → is_of_index f ≡ false → stands_for n f l ≡ true → is_index l ≡ false
no_index n f l off stands = stands_index n f l stands ∙ off

not_zero : (p : ℕ) → 0 < p → nat_eq p 0 ≡ false
not_zero p more = elim (cases_Bool (nat_eq p 0)) [ inl on ↦ absurd (let z = eqb-true p 0 on in omega (arith, z, more)) | inr off ↦ off ]

-- nothing is gone over yet
pub follows_none : (seats : List Seat) (run behind : ℕ) (locations : List (Location ℕ)) → Follows seats run behind behind locations locations
follows_none seats run behind locations = record {
  from = λ l h. let s = sits seats run behind behind l h in absurd (let a = s.after in let b = s.upto in omega (arith, a, b));
  all = λ l c. inr c;
  rest = λ l c. c;
  on = omega arith;
  seated = λ h. absurd (omega (arith, h));
}

-- one place more
pub follows_more : {seats : List Seat} {run behind last place node : ℕ} {locations rest left : List (Location ℕ)} {f : Facet} → AreApart seats
    → Follows seats run behind last locations rest → IsFirst rest node f left → place ≡ last + 1 → SitsAt seats run place node f
    → Follows seats run behind place locations left
follows_more {seats} {run} {behind} {last} {place} {node} {locations} {rest} {left} {f} apart was first is_next next = subst (λ n. Follows seats run behind n locations left) (sym is_next) (record {
  from = λ l h. reads l (sits seats run behind (last + 1) l h);
  all = λ l c. elim (was.all l c) [
    | inl h ↦ let s = sits seats run behind last l h in
        inl (reached seats run behind (last + 1) l (record {
          seat = s.seat;
          there = s.there;
          seen = s.seen;
          inside = s.inside;
          after = s.after;
          upto = (let b = s.upto in omega (arith, b));
        }))
    | inr d ↦ elim (first.all l d) [ inl stands ↦ inl (here l stands) | inr e ↦ inr e ]
  ];
  rest = λ l c. was.rest l (first.rest l c);
  on = (let o = was.on in omega (arith, o));
  seated = λ h. (node, next.seat, next.there, next.inside, next.at ∙ is_next);
})
  where
    here : (l : Location ℕ) → stands_for node f l ≡ true → is_reached seats run behind (last + 1) l ≡ true
    here l stands =
        let at : node_at l ≡ node = stands_at node f l stands in
        let t = next.seat in
        let on = was.on in
        let on_last = next.at ∙ is_next in
        let it : stands_for (node_at l) t.facet l ≡ true = subst (λ n. stands_for n t.facet l ≡ true) (sym at) (subst (λ g. stands_for node g l ≡ true) (sym next.facet) stands) in
        reached seats run behind (last + 1) l (record {
          seat = t;
          there = ap (slice_get seats) at ∙ next.there;
          seen = and_from (not (is_index l)) (stands_for (node_at l) t.facet l) (ap not (no_index node f l next.own stands)) it;
          inside = next.inside;
          after = omega (arith, on, on_last);
          upto = omega (arith, on_last);
        })

    reads : (l : Location ℕ) → Sits seats run behind (last + 1) l → Contains locations l
    reads l s = elim (cases_lt s.seat.place (last + 1)) [
      | inl less ↦ was.from l (reached seats run behind last l (record {
        seat = s.seat;
        there = s.there;
        seen = s.seen;
        inside = s.inside;
        after = s.after;
        upto = omega (arith, less);
      }))
      | inr more ↦ was.rest l (first.from l (stands l s (let b = s.upto in omega (arith, more, b))))
    ]
      where
        stands : (l : Location ℕ) (s : Sits seats run behind (last + 1) l) → s.seat.place ≡ last + 1 → stands_for node f l ≡ true
        stands l s is =
            let t = next.seat in
            let at : node_at l ≡ node = apart (node_at l) node s.seat t s.there next.there (not_zero s.seat.place (let a = s.after in omega (arith, a))) (s.inside ∙ sym next.inside) (is ∙ sym (next.at ∙ is_next)) in
            let same : s.seat ≡ t = same_Some s.seat t (sym s.there ∙ ap (slice_get seats) at ∙ next.there) in
            let seen : stands_for (node_at l) s.seat.facet l ≡ true = (both (not (is_index l)) (stands_for (node_at l) s.seat.facet l) s.seen).1 in
            subst (λ n. stands_for n f l ≡ true) at (subst (λ g. stands_for (node_at l) g l ≡ true) (ap (λ (z : Seat). z.facet) same ∙ next.facet) seen)
