-- A try of the last one begins, and goes on once more is known of what it waits for.
use Rattle.std.proofs.Common.{◌≡◌, ◌⊎◌, ◌<◌, ◌^◌, ℕ, List, ◌∷◌, ◌++◌, Option, Some, None, Ok, inl, inr, refl, sym, ap, ◌∙◌, subst}
use Rattle.std.specs.Prelude.{IsSome}
use Rattle.std.specs.Map.{keys_of}
use Rattle.std.specs.declared.alloc.AllocError.{AllocError}
use Rattle.at_model.specs.Meaning.{Among, Finds, Outcome}
use Rattle.at_model.specs.Rules.{Rules}
use Rattle.at_model.specs.Run.{Value, Instance}
use Rattle.at_model.specs.of_fixpoints.Resting.{Leads}
use Rattle.at_model.specs.of_fixpoints.Searched.{tried_at}
use Rattle.at_model.specs.of_fixpoints.Searching.{Adds, Level, Search, under}
use Rattle.at_model.proofs.Reached.{back_among}
use Rattle.at_rules.specs.Circular.{HasNoneCircular}
use Rattle.at_store.specs.Shown.{Shown, contents}
use Rattle.at_body.specs.Typed.{class_shown}
use Rattle.at_cache.specs.Kept.{Entries}
use Rattle.at_cache.specs.Traced.{Memories}
use Rattle.at_demand.specs.declared.demand.searching.Resolved.{Resolved}
use Rattle.at_demand.specs.declared.evaluation.Find.{Find}
use Rattle.at_demand.specs.declared.question.Question.{Question}
use Rattle.at_demand.specs.declared.trials.Trials.{Trials}
use Rattle.at_demand.specs.declared.trying.Going.{Going}
use Rattle.at_demand.specs.declared.trying.Trying.{Trying}
use Rattle.at_demand.specs.InTurns.{PutsInTurns}
use Rattle.at_demand.specs.Answerable.{CanTurn, CanTurnWith, IsAnswerable}
use Rattle.at_demand.specs.Attempts.{IsGoing}
use Rattle.at_demand.specs.Forming.{waits_for}
use Rattle.at_demand.specs.Groups.{Tells}
use Rattle.at_evaluate.specs.Valued.{IsKept, kept_values, meaning}
use Rattle.at_demand.specs.Known.{known_in}
use Rattle.at_demand.specs.KeptTrials.{AreTrials, Fit, FitAt}
use Rattle.at_demand.specs.Levels.{StandsFor, all_levels, asked_by, known_to, level_of, levels_of, root_in}
use Rattle.at_demand.specs.Searches.{AreSoundFinds, CanResolve, CanTryLast, GainsBetween, HasResolved, WasSeenBy}
use Rattle.at_demand.specs.Sound.{AreSound}
use Rattle.at_demand.specs.Turns.{HaveMet, IsSparingTurns, IsStanding, IsStandingPlainly, passed_of}
use Rattle.at_evaluate.proofs.Entered.{is_there, not_none, there, value_on}
use Rattle.at_demand.proofs.Fitting.{going_more, more_trials}
use Rattle.at_demand.proofs.Recalling.{known_kept}
use Rattle.at_demand.proofs.of_levels.FromTry.{led_levels}
use Rattle.at_demand.proofs.of_levels.GainedBetween.{gains_nothing, gains_then, gains_told}
use Rattle.at_demand.proofs.of_levels.StayingOn.{stays_same, stays_then, stays_told}
use Rattle.at_demand.proofs.of_steps.Met.{have_more, met_more}
use Rattle.at_demand.proofs.of_steps.TriedTold.{adds_now, asked_told, followed_told, known_or_told, stands_since, told_now}
use Rattle.at_demand.proofs.of_steps.TryUnderWay.{IsTrying, with_told}
use Rattle.at_demand.proofs.of_traces.TurnsPut.{puts_then}

abbrev with_outcome : Outcome ℕ → Instance ℕ → Instance ℕ × Outcome ℕ
with_outcome o i = (i, o)

abbrev with_value : Value ℕ → Instance ℕ → Instance ℕ × Value ℕ
with_value v i = (i, v)

-- what is kept is known
pub kept_known : (entries : Entries) (found : List (Instance ℕ × Find)) (i : Instance ℕ) → IsKept entries i → IsSome (known_in entries found i)
kept_known entries found i k =
    let (v, e) = there (kept_values entries i) k in is_there (known_in entries found i) v (known_kept entries found i v v (sym e) refl)

-- where the last one isn't kept it isn't known, since its equation hasn't ended
module _ (rules : Rules) (s : Shown) (entries : Entries) (q : Question) (u : Search ℕ) (st : StandsFor rules s entries q u) where
  pub unended_last : Among q.inst u.ended → ⊥
  unended_last a =
      let fresh = st.fresh in
      fresh.apart.0 (subst (λ (l : Level ℕ). Among l.next (tried_at u.below ++ u.ended)) (sym st.is.last)
      (back_among q.inst (tried_at u.below) u.ended a))

  pub unknown_last : kept_values entries q.inst ≡ None → known_to entries q q.inst ≡ None
  unknown_last none = by (known_to entries q q.inst) refl
    where
      by : (o : Option (Value ℕ)) → known_to entries q q.inst ≡ o → known_to entries q q.inst ≡ None
      by None e = e
      by (Some v) e = absurd (elim (st.is.spent q.inst (is_there (known_to entries q q.inst) v e)) [
        | inl k ↦ not_none (kept_values entries q.inst) k none
        | inr a ↦ unended_last a
      ])

-- what is kept and stands with a question that can be given a turn
module _ (rules : Rules) (s : Shown) (entries : Entries) (q : Question) (turn : CanTurn rules s entries q) where
  pub sound_at : AreSound rules s entries
  sound_at = record { right = turn.answerable.right; whole = turn.wholes }

  pub search_at : (u : Search ℕ) × StandsFor rules s entries q u
  search_at = turn.standing.levels sound_at

  pub finds_at : AreSoundFinds rules s entries q
  finds_at = record { whole = turn.standing.whole; took = turn.standing.kept }

  pub resolves_at : CanResolve rules s entries q
  resolves_at = let (u, st) = search_at in record { answerable = turn.answerable; facts = st.facts; finds = finds_at; whole = st.whole }

-- It begins.
pub begins_trying : (rules : Rules) (s : Shown) (entries : Entries) (m : Memories) (w : ℕ) (q : Question) (v : Trials) →
    CanTryLast rules s entries q v → w < 2 ^ 64 → (t : Trials) → t.awaited ≡ None → Fit rules s entries q t → (g : Going) →
    IsGoing rules (class_shown s) (contents s) entries q.found.entries q.inst g → IsTrying rules s entries entries m m w w q q t g
begins_trying rules s entries m w q v can small t none fit g going =
    let turns = can.turns in
    let turn = turns.turns in
    let (u, st) = search_at rules s entries q turn in
    record {
      turns = record { turns = turn; fit = fit };
      unkept = can.unkept;
      unknown = unknown_last rules s entries q u st can.unkept;
      none = none;
      going = going;
      gains = gains_nothing rules s entries m w q q turn.answerable small refl;
      stays = stays_same q;
      sparing = λ z. z;
      asked = refl;
      levels = λ i a. inl a;
      ended = λ i k. inr k;
      came = λ u st. (u.told, st, record { stays = λ i o h. h; holds = λ i o h. inl h }, λ i v e. st.is.known i v e);
      plainly = λ none. (refl, refl);
    }

module _ (rules : Rules) (s : Shown) (before mid : Entries) (f m : Memories) (w x : ℕ) (old q : Question) (t : Trials) (g : Going)
    (c : IsTrying rules s before mid f m w x old q t g) where
  -- it has come to where it waits, and nothing is kept since
  pub waits_trying : (after : Entries) (l : Memories) (y : ℕ) → PutsInTurns m l → after ≡ mid → y ≡ x → (h : Going) →
      IsGoing rules (class_shown s) (contents s) mid q.found.entries q.inst h → IsTrying rules s before after f l w y old q t h
  waits_trying after l y traced same counted h going =
      subst (λ es. IsTrying rules s before es f l w y old q t h) (sym same)
      (subst (λ z. IsTrying rules s before mid f l w z old q t h) (sym counted) (record {
        turns = c.turns;
        unkept = c.unkept;
        unknown = c.unknown;
        none = c.none;
        going = going;
        gains = let b = c.gains in record {
          stays = b.stays;
          finds = b.finds;
          right = b.right;
          there = b.there;
          plain = b.plain;
          sound = b.sound;
          came = b.came;
          last = b.last;
          others = b.others;
          worthy = b.worthy;
          spare = b.spare;
          lean = b.lean;
          settled = b.settled;
          counts = b.counts;
          traces = puts_then f m l b.traces traced;
        };
        stays = c.stays;
        sparing = c.sparing;
        asked = c.asked;
        levels = c.levels;
        ended = c.ended;
        came = c.came;
        plainly = c.plainly;
      }))

  pub turn_at : CanTurn rules s mid q
  turn_at = let turns = c.turns in turns.turns

  pub standing_at : IsStanding rules s mid q
  standing_at = let turn = turn_at in turn.standing

  pub answerable_at : IsAnswerable rules s mid
  answerable_at = let turn = turn_at in turn.answerable

  pub stands_at : (u : Search ℕ) × StandsFor rules s mid q u
  stands_at = search_at rules s mid q turn_at

  -- what was asked leads to all that its levels have seen, and to what is known and isn't kept
  pub led_at : (i : Instance ℕ) → Among i (under (all_levels q)) → Leads (contents s) (meaning rules) (asked_by q) i
  led_at i a =
      let (u, st) = stands_at in
      led_levels rules s mid q u st i (subst (λ ls. Among i (under ls)) (sym (ap (λ (l : Level ℕ). l ∷ u.below) st.is.last
      ∙ ap (λ ls. level_of q.inst q.level ∷ ls) st.is.below)) a)

  pub held_at : (i : Instance ℕ) → IsSome (known_to mid q i) → IsKept mid i ⊎ Leads (contents s) (meaning rules) (asked_by q) i
  held_at i some = by (there (known_to mid q i) some)
    where
      by : ((v : Value ℕ) × (known_to mid q i ≡ Some v)) → IsKept mid i ⊎ Leads (contents s) (meaning rules) (asked_by q) i
      by (v, e) = let (u, st) = stands_at in
          elim (st.is.known i v e) [ inl k ↦ inl (is_there (kept_values mid i) v k) | inr a ↦ inr (st.reached i (Finds v) a) ]

  -- more was told, of what it waits for, and what leads to that
  module _ {Whole : Type 0} (last : Entries) (n : Memories) (y : ℕ) (new : Question)
      (h : Tells rules s mid last m n x y q new (under (all_levels q)) Whole) where
    told_gains : GainsBetween rules s mid last m n x y q new Whole
    told_gains = let (u, st) = stands_at in let answerable = answerable_at in
        gains_told rules s mid last m n x y q new (under (all_levels q)) h answerable.basis.idle st.facts.values held_at (λ i a. a) led_at new refl

    pub gains_since : GainsBetween rules s before last f n w y old new Whole
    gains_since = gains_then rules s before mid last f m n w x y old q new c.gains told_gains c.asked c.levels c.ended

  module _ (last : Entries) (n : Memories) (y : ℕ) (new : Question) (i : Instance ℕ) (a : Resolved)
      (h : HasResolved {E = AllocError} rules s mid last m n x y q new i (Ok a)) where
    tells : Tells rules s mid last m n x y q new (under (all_levels q)) (Unit {0})
    tells = h.tells

    can : CanResolve rules s last new
    can = h.can

    chain_same : (none : HasNoneCircular rules) → (new ≡ q) × (last ≡ mid)
    chain_same none = let st = standing_at in let p = st.plainly none in let (kept, traces, work, same) = h.idle p.ended in (same, kept)

    -- the one that is tried isn't known still
    unknown_now : known_to last new new.inst ≡ None
    unknown_now = by (known_to last new new.inst) refl
      where
        unended : Among q.inst (keys_of q.ended.entries) → ⊥
        unended k = let (u, st) = stands_at in unended_last rules s mid q u st (st.is.recorded q.inst k)

        by : (o : Option (Value ℕ)) → known_to last new new.inst ≡ o → known_to last new new.inst ≡ None
        by None e = e
        by (Some v) e = absurd (elim (h.since q.inst (subst (λ j. IsSome (known_to last new j)) tells.chain.inst (is_there (known_to last new new.inst) v e))) [
          | inl k ↦ not_none (known_to mid q q.inst) k c.unknown
          | inr k ↦ unended k
        ])

    unkept_now : kept_values last new.inst ≡ None
    unkept_now = by (kept_values last new.inst) refl
      where
        by : (o : Option (Value ℕ)) → kept_values last new.inst ≡ o → kept_values last new.inst ≡ None
        by None e = e
        by (Some v) e = absurd (not_none (known_to last new new.inst) (kept_known last new.found.entries new.inst (is_there (kept_values last new.inst) v e)) unknown_now)

    standing_now : IsStanding rules s last new
    standing_now = let st = standing_at in record {
      levels = λ sound. let (u, stands) = stands_at in (
        with_told u (told_now rules s mid last m n x y q new tells u stands),
        stands_since rules s mid last m n x y q new tells u stands h.since can,
      );
      plainly = λ none. let (same, kept) = chain_same none in subst (λ p. IsStandingPlainly rules s p) (sym same) (st.plainly none);
      kept = can.finds.took;
      passed = λ j v b. value_on mid last tells.stays j v (st.passed j v (subst (λ ps. Among (with_value v j) (passed_of ps)) tells.passed b));
      whole = can.finds.whole;
    }

    fit_now : Fit rules s last new t
    fit_now = let turns = c.turns in let fit = turns.fit in record {
      chain = subst (λ o. FitAt rules s last new t.frames.items o) (sym c.none)
          (subst (λ ws. AreTrials rules (class_shown s) (contents s) last new.found.entries ws (root_in new.level
          new.inst) t.frames.items) (sym tells.chain.waiting)
          (subst (λ r. AreTrials rules (class_shown s) (contents s) last new.found.entries q.waiting.entries r
          t.frames.items) (sym root)
          (more_trials rules (class_shown s) (contents s) mid last tells.stays q.found.entries new.found.entries
          tells.finds q.waiting.entries
          (root_in q.level q.inst) t.frames.items
          (subst (λ o. FitAt rules s mid q t.frames.items o) c.none fit.chain))));
      noted = fit.noted;
    }
      where
        root : root_in new.level new.inst ≡ root_in q.level q.inst
        root = ap (λ d. root_in d new.inst) tells.level ∙ ap (λ j. root_in q.level j) tells.chain.inst

    turn_now : CanTurnWith rules s last new t
    turn_now = record {
      turns = record {
        answerable = can.answerable;
        standing = standing_now;
        wholes = λ j k. can.facts.wholes j (kept_known last new.found.entries j k);
      };
      fit = fit_now;
    }

    spares_now : IsSparingTurns rules (contents s) mid q → IsSparingTurns rules (contents s) last new
    spares_now z = record {
      lean = tells.lean z.lean;
      settled = tells.settled z.settled;
      met = subst (λ ws. HaveMet rules (contents s) last new.found.entries ws (root_in new.level new.inst)) (sym tells.chain.waiting)
          (subst (λ r. HaveMet rules (contents s) last new.found.entries q.waiting.entries r)
          (sym (ap (λ d. root_in d new.inst) tells.level ∙ ap (λ j. root_in q.level j) tells.chain.inst))
          (have_more rules (contents s) mid last q.found.entries new.found.entries (met_more mid last tells.stays q.found.entries new.found.entries tells.finds)
          q.waiting.entries (root_in q.level q.inst) z.met));
      followed = followed_told rules s mid last m n x y q new tells z.followed;
    }

    levels_now : (j : Instance ℕ) → Among j (under (all_levels new)) → WasSeenBy old j
    levels_now j b = c.levels j (subst (λ i. Among j (under (level_of i q.level ∷ levels_of q.waiting.entries))) tells.chain.inst
        (subst (λ d. Among j (under (level_of new.inst d ∷ levels_of q.waiting.entries))) tells.level
        (subst (λ ws. Among j (under (level_of new.inst new.level ∷ levels_of ws))) tells.chain.waiting b)))

    came_now : (u : Search ℕ) → StandsFor rules s before old u → (told : List (Instance ℕ × Outcome ℕ))
        × StandsFor rules s last new (with_told u told) × Adds (contents s) (meaning rules) (under (u.last ∷ u.below)) u.told told
        × ((j : Instance ℕ) (v : Value ℕ) → known_to last new j ≡ Some v → (kept_values before j ≡ Some v) ⊎ Among (with_outcome (Finds v) j) told)
    came_now u st =
        let (told, stands, adds, since) = c.came u st in (
          told_now rules s mid last m n x y q new tells (with_told u told) stands,
          stands_since rules s mid last m n x y q new tells (with_told u told) stands h.since can,
          adds_both told (told_now rules s mid last m n x y q new tells (with_told u told) stands) adds
              (adds_now rules s mid last m n x y q new tells (with_told u told) stands),
          λ j v e. elim (known_or_told rules s mid last m n x y q new tells (with_told u told) stands j v e) [
            | inl k ↦ elim (since j v (known_kept mid q.found.entries j v v (sym k) refl)) [
              | inl b ↦ inl b
              | inr b ↦ inr (let more = adds_now rules s mid last m n x y q new tells (with_told u told) stands in more.stays j (Finds v) b)
            ]
            | inr b ↦ inr b
          ],
        )
      where
        adds_both : (told more : List (Instance ℕ × Outcome ℕ)) → Adds (contents s) (meaning rules) (under (u.last ∷ u.below)) u.told told →
            Adds (contents s) (meaning rules) (under (u.last ∷ u.below)) told more → Adds (contents s) (meaning rules) (under (u.last ∷ u.below)) u.told more
        adds_both told more a b = record {
          stays = λ j o k. b.stays j o (a.stays j o k);
          holds = λ j o k. elim (b.holds j o k) [ inl z ↦ a.holds j o z | inr z ↦ inr z ];
        }

    -- and so it goes on
    pub tries_on : (waits : Trying) (j : Instance ℕ) → g ≡ waits_for waits j → IsTrying rules s before last f n w y old new t g
    tries_on waits j is = record {
      turns = turn_now;
      unkept = unkept_now;
      unknown = unknown_now;
      none = c.none;
      going = subst (λ z. IsGoing rules (class_shown s) (contents s) last new.found.entries new.inst z) (sym is)
          (going_more rules (class_shown s) (contents s) mid last tells.stays q.found.entries new.found.entries tells.finds new.inst waits j
          (subst (λ k. IsGoing rules (class_shown s) (contents s) mid q.found.entries k (waits_for waits j)) (sym tells.chain.inst)
          (subst (λ z. IsGoing rules (class_shown s) (contents s) mid q.found.entries q.inst z) is c.going)));
      gains = gains_since last n y new tells;
      stays = stays_then old q new c.stays (stays_told q new tells.chain tells.level tells.turns tells.passed);
      sparing = λ z. spares_now (c.sparing z);
      asked = asked_told rules s mid last m n x y q new tells ∙ c.asked;
      levels = levels_now;
      ended = λ j k. c.ended j (subst (λ ks. Among j ks) tells.ended k);
      came = came_now;
      plainly = λ none. let (same, kept) = chain_same none in let (one, two) = c.plainly none in (same ∙ one, kept ∙ two);
    }
