-- A question of circular attributes has few turns: each tries an equation that wasn't tried, or comes to a demand of another one.
use Rattle.std.proofs.Common.{◌≡◌, ℕ, suc, ◌+◌, ◌*◌, ◌≤◌, List, [], ◌∷◌, ◌++◌, length, Option, Some, None, inl, inr, refl, sym, subst, ap, arith}
use Rattle.at_model.specs.Run.{Value, Instance, Contents, Known}
use Rattle.at_model.specs.Meaning.{Among, Answer, Faults}
use Rattle.at_model.proofs.Reached.{front_among, back_among, either_among}
use Rattle.at_model.proofs.Members.{distinct_between, length_both, no_more}
use Rattle.at_model.specs.of_fixpoints.Formulas.{Forms}
use Rattle.at_model.specs.of_fixpoints.Fixpoints.{Spoilt, LeadsOver, stays, EndsSo, HasValue}
use Rattle.at_model.specs.of_fixpoints.Circles.{HasNone}
use Rattle.at_model.specs.of_fixpoints.Resting.{Leads}
use Rattle.at_model.specs.of_fixpoints.Resting as led
use Rattle.at_model.specs.of_fixpoints.Searching.{Level, Search, Looked, posted, asked, asked_in, under, behind, past, gone_to, gone_over, fallen_to, First, this, passes, Follows, Turned, Silent, most_turns}
use Rattle.at_model.specs.of_fixpoints.Searching as turn
use Rattle.at_model.specs.of_fixpoints.Searched.{IsWhole, IsOn, IsFresh, LeadsToNext, here, below, tried_at}
use Rattle.at_model.proofs.of_searching.Thinning.{IsTold}
use Rattle.at_model.proofs.of_searching.Strictly.{stuck_none}
use Rattle.at_model.proofs.of_searching.Closing.{stuck_below}
use Rattle.at_model.proofs.of_searching.Turned.{IsBetween, leads_over, leads_by, root_led}
use Rattle.at_model.proofs.of_searching.Turned as turned

first_in : {A : Type 0} {Done : A → Type 0} {todo : List A} {b : A} {rest : List A} → First Done todo b rest → Among b todo
first_in (this b rest n) = inl refl
first_in (passes a done f) = inr (first_in f)

module _ {N : Type 0} (look : Contents N) (forms : Forms N) where
  -- what is tried at a level is under way there
  tried_next : (ls : List (Level N)) (i : Instance N) → Among i (tried_at ls) →
      LeadsToNext look forms ls i × Among i (under ls)
  tried_next [] i h = absurd h
  tried_next (l ∷ ls) i (inl e) = (here (subst (λ z. LeadsOver (EndsSo look forms) z l.next) (sym e) (stays l.next)), inl e)
  tried_next (l ∷ ls) i (inr h) =
      let (n, u) = tried_next ls i h in (below n, inr (back_among i l.seen (under ls) u))

  tried_length : (ls : List (Level N)) → length (tried_at ls) ≡ length ls
  tried_length [] = refl
  tried_length (l ∷ ls) = ap suc (tried_length ls)

  -- the equation of the first one that is tried has ended
  pub ended_fresh : (q i : Instance N) (tried ended : List (Instance N)) → IsFresh look forms q (i ∷ tried) ended →
      IsFresh look forms q tried (i ∷ ended)
  ended_fresh q i tried ended f = record {
    apart = distinct_between tried i ended f.apart.1 f.apart.0;
    led = λ j h. elim (either_among j tried (i ∷ ended) h) [
      | inl a ↦ f.led j (inr (front_among j tried ended a))
      | inr (inl e) ↦ f.led j (inl e)
      | inr (inr a) ↦ f.led j (inr (back_among j tried ended a))
    ];
  }

  -- one more is tried
  pub tried_fresh : (q i : Instance N) (tried ended : List (Instance N)) → IsFresh look forms q tried ended →
      (¬ (Among i tried)) → (¬ (Among i ended)) → Leads look forms q i → IsFresh look forms q (i ∷ tried) ended
  tried_fresh q i tried ended f off fresh l = record {
    apart = ((λ h. elim (either_among i tried ended h) [ inl a ↦ off a | inr a ↦ fresh a ]), f.apart);
    led = λ j h. elim h [ inl e ↦ subst (λ z. Leads look forms q z) (sym e) l | inr a ↦ f.led j a ];
  }

module _ {N : Type 0} (look : Contents N) (forms : Forms N) (told : IsTold (Instance N)) (kept : Known N)
    (right : (i : Instance N) (v : Value N) → kept i ≡ Some v → HasValue look forms i v) (q : Instance N)
    (whole : (i : Instance N) (v : Value N) → Leads look forms q i → HasValue look forms i v → IsWhole look forms i)
    (valued : (i : Instance N) → IsWhole look forms i → HasNone look forms i → ⊥) where
  abbrev Counts : Looked N → Search N → Type 0
  Counts s new = IsFresh look forms q (tried_at (new.last ∷ new.below)) new.ended
      × (2 * length s.ended + length s.below ≤ most_turns new + 1)

  follows_fresh : (s : Looked N) (new : Search N) (o : Option (Answer N)) → IsBetween look forms q s →
      IsFresh look forms q (tried_at s.below) s.ended → Follows look forms kept s new o → o ≡ None → Counts s new
  follows_fresh s _ _ b f (turn.goes_to {i = i} {rest = rest} first shut off) e =
      let (c, fresh) = turned.first_at look forms told kept right q whole valued s b i rest first in
      let apart : ¬ (Among i (tried_at s.below)) = λ h.
      let (n, u) = tried_next look forms s.below i h in
      let stuck = stuck_below look forms s.root s.below i b.stacked (c.led i (back_among i s.seen (i ∷ rest) (inl refl))) n in
      shut (u, stuck_none look forms i i (stays i) stuck) in (
        tried_fresh look forms q i (tried_at s.below) s.ended f apart off
            (turned.led_to look forms told kept right q whole valued s b i (first_in first)),
        omega arith,
      )
  follows_fresh s new o b f (turn.goes_over {i = i} {rest = rest} d first shut a x y) e =
      follows_fresh (gone_over s i rest d) new o
      (turned.over_on look forms told kept right q whole valued s b i rest d first shut x) f y e
  follows_fresh s _ _ b f (turn.comes_back first u x) e = absurd cc
  follows_fresh s _ _ b f (turn.has_found new v all none h r) e = absurd cc
  follows_fresh s _ _ b f (turn.has_failed new k at all none h) e = absurd cc
  follows_fresh s _ _ b f (turn.finds l ls v more all on h r adds m) e =
      let size : length s.below ≡ suc (length ls) = ap length on in
      (subst (λ z. IsFresh look forms q (tried_at z) s.ended) on f, omega (arith, size))
  follows_fresh s new o b f (turn.faults l ls k at all on h y) e =
      let size : length s.below ≡ suc (length ls) = ap length on in
      let below_fresh = subst (λ z. IsFresh look forms q (tried_at z) s.ended) on f in
      let (g, n) = follows_fresh (behind (fallen_to s l ls ((s.root, Faults k at) ∷ s.told)) (Spoilt k at)) new o
      (turned.behind_on look forms told kept right q whole valued (fallen_to s l ls ((s.root, Faults k at) ∷ s.told))
      (turned.fallen_on look forms told kept right q whole valued s b l ls ((s.root, Faults k at) ∷ s.told) on
      (turned.with_fault look forms told kept right q whole valued s b k at h)) (Spoilt k at)
      (turned.spoilt_below look forms told kept right q whole valued s b l ls on k at h))
      (ended_fresh look forms q l.next (tried_at ls) s.ended below_fresh) y e in
      (g, omega (arith, size, n))
  follows_fresh s new o b f (turn.tells more a y) e =
      follows_fresh (record s { told = more }) new o (turned.told_on look forms told kept right q whole valued s b more a) f y e

  -- a turn without an answer counts one, and no equation is tried twice
  pub turned_fresh : (s new : Search N) (o : Option (Answer N)) → IsOn look forms q s →
      IsFresh look forms q (tried_at (s.last ∷ s.below)) s.ended → Turned look forms kept s new o → o ≡ None →
      IsFresh look forms q (tried_at (new.last ∷ new.below)) new.ended × (most_turns s + 1 ≤ most_turns new)
  turned_fresh s _ _ b f (turn.is_kept v k h) e = absurd cc
  turned_fresh s new o b f (turn.passed v k y) e =
      let (g, n) = follows_fresh (past s) new o (turned.past_on look forms told kept right q whole valued s b v k)
      (ended_fresh look forms q s.last.next (tried_at s.below) s.ended f) y e in
      (g, omega (arith, n))
  turned_fresh s new o b f (turn.ends d x y) e =
      let (g, n) = follows_fresh (behind s d) new o (turned.behind_on look forms told kept right q whole valued s b d x)
      (ended_fresh look forms q s.last.next (tried_at s.below) s.ended f) y e in
      (g, omega (arith, n))
  turned_fresh s _ _ b f (turn.closes j r i) e = absurd cc
  turned_fresh s _ _ b f (turn.deepens j r off unknown fresh) e =
      let l = leads_by look forms q s.last.next j (f.led s.last.next (inl refl)) (led.goes s.last.next j j (inl r) (led.stays j)) in (
        tried_fresh look forms q j (tried_at (s.last ∷ s.below)) s.ended f
            (λ h. off (tried_next look forms (s.last ∷ s.below) j h).1) fresh l,
        omega arith,
      )
  turned_fresh s new o b f (turn.settles more a y) e =
      turned_fresh (record s { told = more }) new o (turned.settled_on look forms told kept right q whole valued s b more a) f y e

module _ {N : Type 0} (look : Contents N) (forms : Forms N) (told : IsTold (Instance N)) (q : Instance N)
    (whole : (i : Instance N) (v : Value N) → Leads look forms q i → HasValue look forms i v → IsWhole look forms i)
    (valued : (i : Instance N) → IsWhole look forms i → HasNone look forms i → ⊥) (all : List (Instance N))
    (place : (i : Instance N) → Leads look forms q i → Among i all) where
  silent_counts : (n : ℕ) (s : Search N) → Silent look forms n (posted q) s →
      IsOn look forms q s × IsFresh look forms q (tried_at (s.last ∷ s.below)) s.ended × (n ≤ most_turns s)
  silent_counts n _ (turn.none _) = (
    turned.begun_on look forms told q,
    record {
      apart = ((λ h. h), tt);
      led = λ i h. elim h [ inl e ↦ subst (λ z. Leads look forms q z) (sym e) (led.stays q) | inr u ↦ absurd u ];
    },
    omega arith,
  )
  silent_counts _ new (turn.one_more {n} {s} {mid} kept right x y) =
      let (on, f, le) = silent_counts n mid x in
      let (g, one) = turned_fresh look forms told kept right q whole valued mid new None on f y refl in
      (turned.turned_on look forms told kept right q whole valued mid new None on y refl, g, omega (arith, le, one))

  -- twice the number of all instances is two more than the turns without an answer
  pub few_turns : (n : ℕ) (s : Search N) → Silent look forms n (posted q) s → n + 2 ≤ 2 * length all
  few_turns n s x =
      let (on, f, le) = silent_counts n s x in
      let fits = no_more (tried_at (s.last ∷ s.below) ++ s.ended) all f.apart (λ i h. place i (f.led i h)) in
      let size = length_both (tried_at (s.last ∷ s.below)) s.ended in
      let tried = tried_length look forms s.below in
      omega (arith, le, fits, size, tried)
