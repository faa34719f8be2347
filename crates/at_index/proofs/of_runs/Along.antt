-- One edge over a part of a run, in the lists of locations.
use Rattle.at_index.proofs.Common.{◌≡◌, ◌⊎◌, inl, inr, ℕ, List, [], ◌&&◌, Bool, true, false, true≢false, cond, Option, None, Some, Contains, slice_get, refl, sym, ap, ◌∙◌, subst, Location, Edge, Run, Seat, node_at, Adds, AddsReads, Follows, ListsBut, edges_on, edges_over, is_reached, is_seen, is_within, Keeps, and_from, both}
use Rattle.at_index.proofs.of_runs.Over.{over_at, over_none}
use Rattle.at_index.proofs.Lists.{none_in}

-- the seat over which an edge of the location is
pub record IsOver (seats : List Seat) (runs : List Run) (l : Location ℕ) (y : Edge) : Type 0 where
  pub seat : Seat
  pub there : slice_get seats (node_at l) ≡ Some seat
  pub seen : is_seen (node_at l) seat l ≡ true
  pub on : Contains (edges_on runs seat) y

pub is_over : (seats : List Seat) (runs : List Run) (l : Location ℕ) (y : Edge) → Contains (edges_over seats runs l) y → IsOver seats runs l y
is_over seats runs l y c = by (slice_get seats (node_at l)) refl
  where
    within : (s : Seat) → slice_get seats (node_at l) ≡ Some s → (b : Bool) → is_seen (node_at l) s l ≡ b → Contains (cond b (edges_on runs s) []) y → IsOver seats runs l y
    within s h true seen d = record { seat = s; there = h; seen = seen; on = d }
    within s h false seen d = absurd (none_in y d)

    by : (o : Option Seat) → slice_get seats (node_at l) ≡ o → IsOver seats runs l y
    by None h = absurd (none_in y (subst (λ es. Contains es y) (over_none seats runs l h) c))
    by (Some s) h = within s h (is_seen (node_at l) s l) refl (subst (λ es. Contains es y) (over_at seats runs l s h) c)

pub over_is : {seats : List Seat} {runs : List Run} {l : Location ℕ} {y : Edge} → IsOver seats runs l y → Contains (edges_over seats runs l) y
over_is {seats} {runs} {l} {y} a = subst (λ es. Contains es y) (sym (over_at seats runs l a.seat a.there ∙ ap (λ b. cond b (edges_on runs a.seat) []) a.seen)) a.on

-- runs that lose edges alone
pub over_holds : {live : Edge → Bool} (seats : List Seat) (old new : List Run) → ((s : Seat) → Keeps live (edges_on old s) (edges_on new s))
    → (l : Location ℕ) → Keeps live (edges_over seats old l) (edges_over seats new l)
over_holds seats old new h l = record {
  keeps = λ y c on. let a = is_over seats old l y c in
      over_is (record { seat = a.seat; there = a.there; seen = a.seen; on = (h a.seat).keeps y a.on on });
  from = λ y c. let a = is_over seats new l y c in
      over_is (record { seat = a.seat; there = a.there; seen = a.seen; on = (h a.seat).from y a.on });
}

module _ {x : Edge} {run behind last : ℕ} {locations left : List (Location ℕ)} (seats : List Seat) (new : List Run)
    (follows : Follows seats run behind last locations left) where
  -- where it comes the location is one of them
  pub adds_along : {tells : Edge → Bool} (old : List Run) → Adds tells x (is_within run behind last) (edges_on old) (edges_on new)
      → AddsReads tells x locations (edges_over seats old) (edges_over seats new)
  adds_along {tells} old a = record {
    keeps = λ l y c on. let o = is_over seats old l y c in
        over_is (record { seat = o.seat; there = o.there; seen = o.seen; on = a.keeps o.seat y o.on on });
    only = λ l y c. comes l y (is_over seats new l y c);
  }
    where
      comes : (l : Location ℕ) (y : Edge) → IsOver seats new l y → Contains (edges_over seats old l) y ⊎ ((y ≡ x) × Contains locations l)
      comes l y o = elim (a.only o.seat y o.on) [
        | inl d ↦ inl (over_is (record { seat = o.seat; there = o.there; seen = o.seen; on = d }))
        | inr (is, within) ↦ inr (
          is,
          follows.from l (
              ap (λ (o : Option Seat). elim o as (λ _. Bool) [ None ↦ false | Some s ↦ is_seen (node_at l) s l && is_within run behind last s ]) o.there
              ∙ and_from (is_seen (node_at l) o.seat l) (is_within run behind last o.seat) o.seen within),
        )
      ]

  -- it stands at all that aren't left
  pub lists_along : ((s : Seat) → is_within run behind last s ≡ true → Contains (edges_on new s) x) → ListsBut x locations left (edges_over seats new)
  lists_along has = record {
    all = λ l c. elim (follows.all l c) [ inl h ↦ inl (there l h) | inr d ↦ inr d ];
    rest = follows.rest;
  }
    where
      there : (l : Location ℕ) → is_reached seats run behind last l ≡ true → Contains (edges_over seats new l) x
      there l h = by (slice_get seats (node_at l)) refl h
        where
          by : (o : Option Seat) → slice_get seats (node_at l) ≡ o
              → elim o as (λ _. Bool) [ None ↦ false | Some s ↦ is_seen (node_at l) s l && is_within run behind last s ] ≡ true
              → Contains (edges_over seats new l) x
          by None is h = absurd (true≢false (sym h))
          by (Some s) is h =
              let (seen, within) = both (is_seen (node_at l) s l) (is_within run behind last s) h in
              over_is (record { seat = s; there = is; seen = seen; on = has s within })
