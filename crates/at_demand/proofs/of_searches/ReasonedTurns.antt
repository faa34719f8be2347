-- A turn leaves a search with reason, where a circle answers the question; and what comes to be known by it has one.
use Rattle.std.proofs.Common.{◌≡◌, ℕ, List, [], ◌∷◌, ◌++◌, Option, Some, None, inl, inr, refl, sym, ap, subst}
use Rattle.at_model.specs.Run.{Instance, Contents, Known, Value}
use Rattle.at_model.specs.Meaning.{Outcome, Finds, Faults, Among, Answer}
use Rattle.at_model.proofs.Reached.{front_among, back_among, either_among}
use Rattle.at_model.specs.of_fixpoints.Formulas.{Formula, Forms}
use Rattle.at_model.specs.of_fixpoints.Fixpoints.{End, Spoilt, EndsSo, HasValue, Holds}
use Rattle.at_model.specs.of_fixpoints.Circles.{Circular, HasNone, IsOpen}
use Rattle.at_model.specs.of_fixpoints.Met.{HasLookedAt, HaveLookedAt}
use Rattle.at_model.specs.of_fixpoints.Resting.{Leads}
use Rattle.at_model.specs.of_fixpoints.Resting as led
use Rattle.at_model.specs.of_fixpoints.Searched.{IsOn, IsWhole}
use Rattle.at_model.specs.of_fixpoints.Searching.{Level, Search, Looked, posted, under, behind, past, gone_over, fallen_to, First, this, passes, IsPassed, Adds, Follows, Turned}
use Rattle.at_model.specs.of_fixpoints.Searching as turn
use Rattle.at_model.proofs.of_searching.LookedSteps.{looked_begun, looked_again, looked_past, looked_on}
use Rattle.at_model.proofs.of_searching.Turned.{IsBetween, leads_over}
use Rattle.at_model.proofs.of_searching.Turned as turned
use Rattle.at_evaluate.specs.Led.{DemandsOn}
use Rattle.at_demand.specs.Reasons.{HasReason, HasReasons, IsReached}
use Rattle.at_demand.specs.Turns.{MayComeIn}
use Rattle.at_demand.proofs.Marking.{told_among}
use Rattle.at_demand.proofs.of_searches.LookedAlong.{have_looked_more, led_list}
use Rattle.at_demand.proofs.of_searches.Reasoning.{reason_led, reached_reason, reached_along, level_down, one_reached, levels_reached, lower_reached}

-- so it is between two tries
pub record HasReasonsBetween (look : Contents ℕ) (forms : Forms ℕ) (first : Known ℕ) (q : Instance ℕ) (s : Looked ℕ) :
    Type 0 where
  pub looked : HasLookedAt look forms (HasReason look forms first q) (under s.below) s.root s.seen s.todo
  pub below : HaveLookedAt look forms (HasReason look forms first q) s.below
  pub told : (i : Instance ℕ) (o : Outcome ℕ) → Among (i, o) s.told → HasReason look forms first q i
  pub ended : (i : Instance ℕ) → Among i s.ended → IsReached look forms first q i

-- as it is posted
pub reasons_posted : (look : Contents ℕ) (forms : Forms ℕ) (first : Known ℕ) (q : Instance ℕ) → HasReasons look forms
    first q (posted q)
reasons_posted look forms first q = record {
  looked = (looked_begun look forms told_among (HasReason look forms first q) [] q, tt);
  told = λ i o a. absurd a;
  ended = λ i a. absurd a;
}

module _ (look : Contents ℕ) (forms : Forms ℕ) (first : Known ℕ) (q c : Instance ℕ) (circle : Circular look forms q c)
  where
    abbrev Told : Instance ℕ → Type 0
    Told i = HasReason look forms first q i

    -- what is under way is reached
    pub on_reached : (u : Search ℕ) → IsOn look forms q u → HasReasons look forms first q u → (x : Instance ℕ) →
        Among x (under (u.last ∷ u.below)) → IsReached look forms first q x
    on_reached u on r x a = levels_reached look forms first q c circle u.last u.below on.last on.stacked on.starts
        r.looked x a

    -- what a turn lets come has a reason
    pub came_reason : (u : Search ℕ) → IsOn look forms q u → HasReasons look forms first q u → (j : Instance ℕ) (v :
        Value ℕ) → MayComeIn u j →
        HasValue look forms j v → Told j
    came_reason u on r j v (inl a) h = reached_reason look forms first q c circle j (Finds v) (on_reached u on r j a) h
    came_reason u on r j v (inr a) h = reached_reason look forms first q c circle j (Finds v) (r.ended j a) h

    -- and what comes while the next one is evaluated in one go, along demands
    pub demanded_reason : (u : Search ℕ) → IsOn look forms q u → HasReasons look forms first q u → (j : Instance ℕ) (v :
        Value ℕ) →
        DemandsOn look forms u.last.next j → HasValue look forms j v → Told j
    demanded_reason u on r j v d h = reached_reason look forms first q c circle j (Finds v)
        (reached_along look forms first q c circle u.last.next j (on_reached u on r u.last.next (inl refl)) d) h

    -- outcomes of what was reached are told
    adds_reason : (these : List (Instance ℕ)) (old more : List (Instance ℕ × Outcome ℕ)) → Adds look forms these old
        more →
        ((i : Instance ℕ) → Among i these → IsReached look forms first q i) →
        ((i : Instance ℕ) (o : Outcome ℕ) → Among (i, o) old → Told i) → (i : Instance ℕ) (o : Outcome ℕ) → Among (i, o)
        more → Told i
    adds_reason these old more a reached told i o m = elim (a.holds i o m) [
      | inl t ↦ told i o t
      | inr (w, h) ↦ reached_reason look forms first q c circle i o (reached i w) h
    ]

    -- behind a try of the next one that has ended so
    behind_reasons : (u : Search ℕ) → IsOn look forms q u → HasReasons look forms first q u → (e : End ℕ (Formula ℕ)) →
        EndsSo look forms u.last.next e → HasReasonsBetween look forms first q (behind u e)
    behind_reasons u on r e x = let (come, fresh, shut) = on.last in record {
      looked = looked_on look forms told_among (HasReason look forms first q) (under u.below) u.last.root u.last.seen
          u.last.next u.last.todo
          r.looked.0 e x fresh shut;
      below = r.looked.1;
      told = r.told;
      ended = λ i a. elim a [
        | inl p ↦ on_reached u on r i (inl p)
        | inr b ↦ r.ended i b
      ];
    }

    seen_between : (s : Looked ℕ) → IsBetween look forms q s → HasReasonsBetween look forms first q s → (x : Instance ℕ)
        → Among x s.seen →
        IsReached look forms first q x
    seen_between s b r x a = one_reached look forms first q c circle s.root s.below b.stacked b.starts r.below x
        (b.come.led x (front_among x s.seen s.todo a)) (r.looked.looked x a)

    all_between : (s : Looked ℕ) → IsBetween look forms q s → HasReasonsBetween look forms first q s → (x : Instance ℕ) →
        Among x (s.seen ++ under s.below) → IsReached look forms first q x
    all_between s b r x a = elim (either_among x s.seen (under s.below) a) [
      | inl h ↦ seen_between s b r x h
      | inr h ↦ lower_reached look forms first q c circle s.root s.below b.stacked b.starts r.below x h
    ]

    -- what the level demands has a reason, where it has an outcome
    root_reason : (s : Looked ℕ) → IsBetween look forms q s → HasReasonsBetween look forms first q s → (o : Outcome ℕ) →
        Holds look forms s.root o →
        Told s.root
    root_reason s b r o h = elim (level_down look forms first q c circle s.root s.below b.stacked b.starts r.below) [
      | inl d ↦ d
      | inr (none, down) ↦ absurd (none o h)
    ]

    -- at the level below, with such outcomes
    fallen_reasons : (s : Looked ℕ) (l : Level ℕ) (ls : List (Level ℕ)) (more : List (Instance ℕ × Outcome ℕ)) → s.below
        ≡ l ∷ ls →
        HasReasonsBetween look forms first q s → ((i : Instance ℕ) (o : Outcome ℕ) → Among (i, o) more → Told i) →
        HasReasons look forms first q (fallen_to s l ls more)
    fallen_reasons s l ls more e r told = record {
      looked = subst (λ ms. HaveLookedAt look forms (HasReason look forms first q) ms) e r.below;
      told = told;
      ended = r.ended;
    }

    fault_reason : (s : Looked ℕ) (k : Outcome ℕ) → Told s.root → ((i : Instance ℕ) (o : Outcome ℕ) → Among (i, o)
        s.told → Told i) →
        (i : Instance ℕ) (o : Outcome ℕ) → Among (i, o) ((s.root, k) ∷ s.told) → Told i
    fault_reason s k root told i o (inl p) =
        let same : i ≡ s.root = ap (λ (x : Instance ℕ × Outcome ℕ). x.0) p in subst (λ z. Told z) (sym same) root
    fault_reason s k root told i o (inr a) = told i o a

    more_told : (s : Looked ℕ) (more : List (Instance ℕ × Outcome ℕ)) → HasReasonsBetween look forms first q s →
        ((i : Instance ℕ) (o : Outcome ℕ) → Among (i, o) more → Told i) → HasReasonsBetween look forms first q (record s
        { told = more })
    more_told s more r told = record { looked = r.looked; below = r.below; told = told; ended = r.ended }

    module _ (kept : Known ℕ) (right : (i : Instance ℕ) (v : Value ℕ) → kept i ≡ Some v → HasValue look forms i v)
        (reasons : (i : Instance ℕ) (v : Value ℕ) → kept i ≡ Some v → Told i)
        (whole : (i : Instance ℕ) (v : Value ℕ) → Leads look forms q i → HasValue look forms i v → IsWhole look forms i)
        (valued : (i : Instance ℕ) → IsWhole look forms i → HasNone look forms i → ⊥) where
      -- one that is known is passed
      known_off : (below : List (Instance ℕ)) (root : Instance ℕ) (seen : List (Instance ℕ)) (i : Instance ℕ) (todo :
          List (Instance ℕ)) (v : Value ℕ) →
          HasValue look forms i v → Leads look forms q i → Told i → HasLookedAt look forms (HasReason look forms first
          q) below root seen (i ∷ todo) →
          HasLookedAt look forms (HasReason look forms first q) below root seen todo
      known_off below root seen i todo v has l told h =
          let (W, closed, leads, there) = led_list look forms i (whole i v l has) in
          looked_past look forms told_among (HasReason look forms first q) below root seen i todo h W closed (λ k a.
          valued k (W, closed, a))
          (λ k a. reason_led look forms first q c circle i k told (leads_over look forms i k k (leads k a) (led.stays
          k))) there

      passed_off : (s : Looked ℕ) → IsBetween look forms q s → HasReasonsBetween look forms first q s → (i : Instance ℕ)
          (todo : List (Instance ℕ)) →
          Leads look forms q i → IsPassed kept s i → HasLookedAt look forms (HasReason look forms first q) (under
          s.below) s.root s.seen (i ∷ todo) →
          HasLookedAt look forms (HasReason look forms first q) (under s.below) s.root s.seen todo
      passed_off s b r i todo l (inl a) h =
          looked_again look forms told_among (HasReason look forms first q) (under s.below) s.root s.seen i todo h
          (b.come.shut i a) a
      passed_off s b r i todo l (inr (v, inl k)) h = known_off (under s.below) s.root s.seen i todo v (right i v k) l
          (reasons i v k) h
      passed_off s b r i todo l (inr (v, inr t)) h = known_off (under s.below) s.root s.seen i todo v (b.told i (Finds
          v) t) l (r.told i (Finds v) t) h

      -- up to the first one that isn't
      first_looked : (s : Looked ℕ) → IsBetween look forms q s → HasReasonsBetween look forms first q s → (todo : List
          (Instance ℕ)) (i : Instance ℕ)
          (rest : List (Instance ℕ)) → ((j : Instance ℕ) → Among j todo → Leads look forms q j) →
          HasLookedAt look forms (HasReason look forms first q) (under s.below) s.root s.seen todo → First (IsPassed
          kept s) todo i rest →
          HasLookedAt look forms (HasReason look forms first q) (under s.below) s.root s.seen (i ∷ rest)
      first_looked s b r _ _ _ l h (this i rest n) = h
      first_looked s b r _ i rest l h (passes j {todo} done f) =
          first_looked s b r todo i rest (λ k a. l k (inr a)) (passed_off s b r j todo (l j (inl refl)) done h) f

      gone_looked : (s : Looked ℕ) → IsBetween look forms q s → HasReasonsBetween look forms first q s → (i : Instance
          ℕ) (rest : List (Instance ℕ)) →
          First (IsPassed kept s) s.todo i rest → HasLookedAt look forms (HasReason look forms first q) (under s.below)
          s.root s.seen (i ∷ rest)
      gone_looked s b r i rest f = first_looked s b r s.todo i rest (turned.led_to look forms told_among kept right q
          whole valued s b) r.looked f

      over_reasons : (s : Looked ℕ) → IsBetween look forms q s → HasReasonsBetween look forms first q s → (i : Instance
          ℕ) (rest : List (Instance ℕ))
          (e : End ℕ (Formula ℕ)) → First (IsPassed kept s) s.todo i rest → (¬ (IsOpen look forms (under s.below) i)) →
          EndsSo look forms i e →
          HasReasonsBetween look forms first q (gone_over s i rest e)
      over_reasons s b r i rest e f shut x =
          let (come, fresh) = turned.first_at look forms told_among kept right q whole valued s b i rest f in record {
            looked = looked_on look forms told_among (HasReason look forms first q) (under s.below) s.root s.seen i rest
                (gone_looked s b r i rest f)
                e x fresh shut;
            below = r.below;
            told = r.told;
            ended = r.ended;
          }

      -- what follows between two tries
      follow_reasons : (s : Looked ℕ) (new : Search ℕ) (o : Option (Answer ℕ)) → IsBetween look forms q s →
          HasReasonsBetween look forms first q s →
          Follows look forms kept s new o → o ≡ None → HasReasons look forms first q new
      follow_reasons s _ _ b r (turn.goes_to {i = i} {rest = rest} f shut off) e =
          record { looked = (gone_looked s b r i rest f, r.below); told = r.told; ended = r.ended }
      follow_reasons s new o b r (turn.goes_over {i = i} {rest = rest} d f shut a x y) e =
          follow_reasons (gone_over s i rest d) new o (turned.over_on look forms told_among kept right q whole valued s
          b i rest d f shut x)
          (over_reasons s b r i rest d f shut x) y e
      follow_reasons s _ _ b r (turn.comes_back f a x) e = absurd cc
      follow_reasons s _ _ b r (turn.has_found new v all below h ready) e = absurd cc
      follow_reasons s _ _ b r (turn.has_failed new k at all below h) e = absurd cc
      follow_reasons s _ _ b r (turn.finds l ls v more all below h ready adds m) e =
          fallen_reasons s l ls more below r (adds_reason s.seen s.told more adds (seen_between s b r) r.told)
      follow_reasons s new o b r (turn.faults l ls k at all below h y) e =
          let told = (s.root, Faults k at) ∷ s.told in
          let on = turned.fallen_on look forms told_among kept right q whole valued s b l ls told below
          (turned.with_fault look forms told_among kept right q whole valued s b k at h) in
          let ends = turned.spoilt_below look forms told_among kept right q whole valued s b l ls below k at h in
          follow_reasons (behind (fallen_to s l ls told) (Spoilt k at)) new o
          (turned.behind_on look forms told_among kept right q whole valued (fallen_to s l ls told) on (Spoilt k at) ends)
          (behind_reasons (fallen_to s l ls told) on (fallen_reasons s l ls told below r
          (fault_reason s (Faults k at) (root_reason s b r (Faults k at) h) r.told)) (Spoilt k at) ends) y e
      follow_reasons s new o b r (turn.tells more a y) e =
          follow_reasons (record s { told = more }) new o (turned.told_on look forms told_among kept right q whole
          valued s b more a)
          (more_told s more r (adds_reason (s.seen ++ under s.below) s.told more a (all_between s b r) r.told)) y e

      past_reasons : (u : Search ℕ) → IsOn look forms q u → HasReasons look forms first q u → (v : Value ℕ) → kept
          u.last.next ≡ Some v →
          HasReasonsBetween look forms first q (past u)
      past_reasons u on r v k = record {
        looked = known_off (under u.below) u.last.root u.last.seen u.last.next u.last.todo v (right u.last.next v k)
            (last_led u on) (reasons u.last.next v k) r.looked.0;
        below = r.looked.1;
        told = r.told;
        ended = λ i a. elim a [ inl p ↦ on_reached u on r i (inl p) | inr b ↦ r.ended i b ];
      }
        where
          last_led : (u : Search ℕ) → IsOn look forms q u → Leads look forms q u.last.next
          last_led u on = let (come, fresh, shut) = on.last in
              subst (λ z. Leads look forms z u.last.next) on.starts
              (turned.leads_by look forms (turn.asked u) u.last.root u.last.next (turned.root_led look forms u.last.root
              u.below on.stacked)
              (leads_over look forms u.last.root u.last.next u.last.next
              (come.led u.last.next (back_among u.last.next u.last.seen (u.last.next ∷ u.last.todo) (inl refl)))
              (led.stays u.last.next)))

      -- a turn leaves it so
      pub turn_reasons : (u new : Search ℕ) (o : Option (Answer ℕ)) → IsOn look forms q u → HasReasons look forms first
          q u →
          Turned look forms kept u new o → o ≡ None → HasReasons look forms first q new
      turn_reasons u _ _ on r (turn.is_kept v k h) e = absurd cc
      turn_reasons u new o on r (turn.passed v k y) e =
          follow_reasons (past u) new o (turned.past_on look forms told_among kept right q whole valued u on v k)
          (past_reasons u on r v k) y e
      turn_reasons u new o on r (turn.ends d x y) e =
          follow_reasons (behind u d) new o (turned.behind_on look forms told_among kept right q whole valued u on d x)
          (behind_reasons u on r d x) y e
      turn_reasons u _ _ on r (turn.closes j reach i) e = absurd cc
      turn_reasons u _ _ on r (turn.deepens j reach off unknown fresh) e = record {
        looked = (
          looked_begun look forms told_among (HasReason look forms first q) (under (u.last ∷ u.below)) j,
          r.looked,
        );
        told = r.told;
        ended = r.ended;
      }
      turn_reasons u new o on r (turn.settles more a y) e =
          turn_reasons (record u { told = more }) new o (turned.settled_on look forms told_among kept right q whole
          valued u on more a)
          (record {
            looked = r.looked;
            told = adds_reason (under (u.last ∷ u.below)) u.told more a (on_reached u on r) r.told;
            ended = r.ended;
          }) y e

-- So it is where more was known at first: what other questions have kept in between.
module _ (look : Contents ℕ) (forms : Forms ℕ) (first more : Known ℕ)
    (grows : (i : Instance ℕ) (v : Value ℕ) → first i ≡ Some v → more i ≡ Some v) (q : Instance ℕ) where
  reason_more : (i : Instance ℕ) → HasReason look forms first q i → HasReason look forms more q i
  reason_more i (inl (a, v, known, l)) = inl (a, v, grows a v known, l)
  reason_more i (inr met) = inr met

  reached_more : (i : Instance ℕ) → IsReached look forms first q i → IsReached look forms more q i
  reached_more i (inl r) = inl (reason_more i r)
  reached_more i (inr l) = inr l

  pub reasons_more : (u : Search ℕ) → HasReasons look forms first q u → HasReasons look forms more q u
  reasons_more u r = record {
    looked = have_looked_more look forms (HasReason look forms first q) (HasReason look forms more q) reason_more
        (u.last ∷ u.below) r.looked;
    told = λ i o a. reason_more i (r.told i o a);
    ended = λ i a. reached_more i (r.ended i a);
  }
