-- The last one waits for another one, of which nothing is known: that is tried at a level of its own.
use Rattle.std.proofs.Common.{◌≡◌, ℕ, List, [], ◌∷◌, ◌++◌, Option, Some, None, Result, Ok, Err, inl, inr, refl, sym, ap, ◌∙◌, subst, append-nil}
use Rattle.std.specs.Prelude.{IfOk}
use Rattle.std.specs.Map.{keys_of, lookup}
use Rattle.std.specs.declared.alloc.AllocError.{AllocError}
use Rattle.at_model.specs.Instances.{AnyText}
use Rattle.at_model.specs.Meaning as plain
use Rattle.at_model.specs.Meaning.{Among, Reaches}
use Rattle.at_model.specs.Rules.{Rules}
use Rattle.at_model.specs.Run.{Value, Instance, Contents}
use Rattle.at_model.specs.Turning as chain
use Rattle.at_model.specs.Turning.{IsKnown, IsOn as ChainIsOn, Turned as ChainTurned, UnderWay, asked}
use Rattle.at_model.specs.TypedRuns.{IsWellTyped}
use Rattle.at_model.specs.of_fixpoints.Fixpoints.{HasValue}
use Rattle.at_model.specs.of_fixpoints.Searching.{IsValued, Level, Search, Turned, begun}
use Rattle.at_model.specs.of_fixpoints.Searching as search
use Rattle.at_model.proofs.Reached.{either_among}
use Rattle.at_model.proofs.of_machines.Bounded.{stays_on as chain_stays}
use Rattle.at_rules.specs.Circular.{HasNoneCircular}
use Rattle.at_store.specs.Shown.{Shown, contents}
use Rattle.at_body.specs.Same.{same_instance}
use Rattle.at_body.specs.Typed.{class_shown}
use Rattle.at_cache.specs.Kept.{Entries}
use Rattle.at_cache.specs.Traced.{Memories}
use Rattle.at_demand.proofs.of_levels.Followed.{followed_deeper}
use Rattle.at_demand.specs.declared.answer.Answer.{Answer as AnswerCode}
use Rattle.at_demand.specs.declared.question.Question.{Question}
use Rattle.at_demand.specs.declared.trials.Trials.{Trials}
use Rattle.at_demand.specs.declared.trying.Going.{Going}
use Rattle.at_demand.specs.declared.trying.Trying.{Trying}
use Rattle.at_demand.specs.Answerable.{CanTurn}
use Rattle.at_demand.specs.Answered.{GainsAtMost, HasTurnedOn}
use Rattle.at_demand.specs.Attempts.{IsGoing}
use Rattle.at_demand.specs.ChainSteps.{IsDeeper}
use Rattle.at_demand.specs.Covering.{AreWhole}
use Rattle.at_demand.specs.Forming.{waits_for}
use Rattle.at_demand.specs.Known.{FoundKept}
use Rattle.at_evaluate.specs.Valued.{KeepsEntries, equations, kept_values, meaning}
use Rattle.at_demand.specs.KeptTrials.{AreTrials, Fit, FitAt}
use Rattle.at_demand.specs.LastTried.{IsDeeperLast}
use Rattle.at_demand.specs.Levels.{LevelCode, StandsFor, known_to, level_of, levels_of, root_in}
use Rattle.at_demand.specs.Only.{AreLean}
use Rattle.at_demand.specs.Searches.{IsTried, TurnsBy}
use Rattle.at_demand.specs.Worth.{AreSettled}
use Rattle.at_demand.specs.Turns.{HaveMet, IsSparingTurns, IsStanding, found_of, passed_of, under_way}
use Rattle.at_evaluate.proofs.Entered.{is_there, not_none, value_on}
use Rattle.at_demand.proofs.Fitting.{noted_same, push_trial}
use Rattle.at_demand.proofs.Keys.{keys_push, no_key}
use Rattle.at_demand.proofs.Recalling.{known_kept}
use Rattle.at_demand.proofs.of_levels.ClosedLevels.{risen_levels}
use Rattle.at_demand.proofs.of_levels.FromTry.{not_under, stands_deeper, waits_new}
use Rattle.at_demand.proofs.of_searches.Returning.{with_level}
use Rattle.at_demand.proofs.of_steps.Counted.{StandsSo, broken_on, counted_so}
use Rattle.at_demand.proofs.of_steps.Met.{met_push}
use Rattle.at_demand.proofs.of_steps.PlainComes.{comes_off}
use Rattle.at_demand.proofs.of_steps.SpoiltFrom.{turned_by}
use Rattle.at_demand.proofs.of_steps.TriedGains.{at_most, chain_idle, known_key}
use Rattle.at_demand.proofs.of_steps.TriedOn.{kept_known, sound_at, standing_at, stands_at}
use Rattle.at_demand.proofs.of_steps.TryUnderWay.{IsTrying}
use Rattle.at_demand.proofs.of_steps.WaitsMet.{waits_met}

again : (look : Contents ℕ) (equation : plain.Equations ℕ) (q : Instance ℕ) (u : UnderWay ℕ) → ChainIsOn look equation q u → ChainIsOn look equation (asked u) u
again look equation q u on = subst (λ x. ChainIsOn look equation x u) (sym on.starts) on

abbrev with_value : Value ℕ → Instance ℕ → Instance ℕ × Value ℕ
with_value v i = (i, v)

module _ (rules : Rules) (s : Shown) (before last : Entries) (f n : Memories) (w y : ℕ) (old q : Question) (t : Trials) (g : Going)
    (c : IsTrying rules s before last f n w y old q t g) (turn : CanTurn rules s before old) (waits : Trying) (j : Instance ℕ) (is : g ≡ waits_for waits j)
    (unknown : known_to last q j ≡ None) (untried : IsTried q j → ⊥) (empty : lookup (same_instance j) q.ended.entries ≡ None)
    (reaches : Reaches (contents s) (HasValue (contents s) (meaning rules)) ((meaning rules).formula q.inst) j)
    (typed : IsWellTyped rules (class_shown s) AnyText j) where
  st : IsStanding rules s last q
  st = standing_at rules s before last f n w y old q t g c

  gains : GainsAtMost rules s before last w y old (Unit {0})
  gains = at_most rules s before last f n w y old q c.gains (λ none. let p = c.plainly none in chain_idle rules before last old p.1)

  going : IsGoing rules (class_shown s) (contents s) last q.found.entries q.inst (waits_for waits j)
  going = subst (λ z. IsGoing rules (class_shown s) (contents s) last q.found.entries q.inst z) is c.going

  -- memory is wanting
  pub deeper_fails : (new : Question) (u : Trials) (e : AllocError) → HasTurnedOn {E = AllocError} rules s before last w y old new u (Err e)
  deeper_fails new u e = broken_on rules s turn.answerable.basis before last w y old new u (Err e) e refl (λ none. tt) gains

  module _ (new : Question) (h : IsDeeper q new j) where
    waits_now : new.waiting.entries ≡ q.waiting.entries ++ with_level q.level q.inst ∷ []
    waits_now = let (u, x) = stands_at rules s before last f n w y old q t g c in
        waits_new rules s last q u x j unknown reaches untried empty typed new h

    -- as a turn of the search, whatever was kept at first
    deepens : (first : Entries) (u : Search ℕ) → KeepsEntries first last → (x : StandsFor rules s last q u) →
        Turned (contents s) (meaning rules) (kept_values first) u (record u { last = begun j; below = u.last ∷ u.below }) None
    deepens first u keeps x = search.deepens j
        (subst (λ (l : Level ℕ). Reaches (contents s) (HasValue (contents s) (meaning rules)) ((meaning rules).formula l.next) j) (sym x.is.last) reaches)
        (not_under rules s last q u x j unknown reaches untried empty typed new h) unvalued unended
      where
        known_not : (v : Value ℕ) → known_to last q j ≡ Some v → ⊥
        known_not v e = not_none (known_to last q j) (is_there (known_to last q j) v e) unknown

        unvalued : IsValued (kept_values first) u.told j → ⊥
        unvalued (v, inl k) = known_not v (known_kept last q.found.entries j v v (sym (value_on first last keeps j v k)) refl)
        unvalued (v, inr a) = known_not v (x.is.told j v a)

        unended : Among j u.ended → ⊥
        unended a = elim (x.is.ended j a) [ inl k ↦ no_key q.ended.entries j empty k | inr k ↦ not_none (known_to last q j) k unknown ]

    -- as one of the chain
    chained : HasNoneCircular rules → ChainTurned (contents s) (equations rules) (kept_values last) (under_way q) (under_way new) None
    chained none =
        let P : List (Instance ℕ) → Instance ℕ → List (Instance ℕ × Value ℕ) → Type 0 = λ ws i vs.
        ChainTurned (contents s) (equations rules) (kept_values last) (under_way q) (record { waiting = ws; last = i; found = vs }) None in
        let there : P (keys_of q.waiting.entries ++ q.inst ∷ []) j (found_of q.found.entries ++ passed_of q.passed.entries) =
        chain.deepens j (comes_off rules (contents s) none q.inst j (inl reaches)) untried unknown_chain in
        let ws : keys_of q.waiting.entries ++ q.inst ∷ [] ≡ keys_of new.waiting.entries =
        sym (ap keys_of waits_now ∙ keys_push q.waiting.entries q.inst q.level) in
        let vs : found_of q.found.entries ++ passed_of q.passed.entries ≡ found_of new.found.entries ++ passed_of new.passed.entries =
        sym (ap (λ fs. found_of fs ++ passed_of new.passed.entries) h.finds.found ∙ ap (λ ps. found_of q.found.entries ++ passed_of ps) h.finds.passed) in
        subst (λ z. P (keys_of new.waiting.entries) new.inst z) vs
        (subst (λ z. P (keys_of new.waiting.entries) z (found_of q.found.entries ++ passed_of q.passed.entries)) (sym h.inst)
        (subst (λ z. P z j (found_of q.found.entries ++ passed_of q.passed.entries)) ws there))
      where
        unknown_chain : IsKnown (kept_values last) (found_of q.found.entries ++ passed_of q.passed.entries) j → ⊥
        unknown_chain (inl (v, e)) = not_none (known_to last q j) (kept_known last q.found.entries j (is_there (kept_values last j) v e)) unknown
        unknown_chain (inr a) = not_none (known_to last q j) (known_key rules s last q st j a) unknown

    turns : TurnsBy {E = AllocError} rules s last last q new (Ok None)
    turns = record {
      plainly = chained;
      searched = λ first u keeps x since. (
        record u { last = begun j; below = u.last ∷ u.below },
        deepens first u keeps x,
        λ e. stands_deeper rules s last q u x j unknown reaches untried empty typed new h,
      );
    }

    stands_so : StandsSo rules s last new
    stands_so = record {
      plainly = λ none. let p = st.plainly none in
          record {
            ended = h.finds.ended ∙ p.ended;
            level = h.level;
            levels = λ i l a. level_at none i l (subst (λ ws. Among (with_level l i) ws) waits_now a);
            on = again (contents s) (equations rules) (asked (under_way q)) (under_way new)
                (chain_stays (contents s) (equations rules) (asked (under_way q)) (under_way q) p.on (kept_values last) (under_way new) None (chained none));
          };
      kept = subst (λ fs. FoundKept last fs) (sym h.finds.found) st.kept;
      passed = λ i v a. st.passed i v (subst (λ ps. Among (with_value v i) (passed_of ps)) h.finds.passed a);
      whole = subst (λ fs. AreWhole rules (contents s) fs) (sym h.finds.found) st.whole;
    }
      where
        level_at : HasNoneCircular rules → (i : Instance ℕ) (l : LevelCode) →
            Among (with_level l i) (q.waiting.entries ++ with_level q.level q.inst ∷ []) → l ≡ None
        level_at none i l a = elim (either_among (with_level l i) q.waiting.entries (with_level q.level q.inst ∷ []) a) [
          | inl b ↦ (let p = st.plainly none in p.levels i l b)
          | inr b ↦ elim b [
            | inl e ↦ (let p = st.plainly none in ap (λ (z : Instance ℕ × LevelCode). z.1) e ∙ p.level)
            | inr z ↦ absurd z
          ]
        ]

    root_new : root_in new.level new.inst ≡ j
    root_new = ap (λ d. root_in d new.inst) h.level ∙ h.inst

    spares_on : IsSparingTurns rules (contents s) last q → IsSparingTurns rules (contents s) last new
    spares_on z = record {
      lean = subst (λ fs. AreLean rules (contents s) fs) (sym h.finds.found) z.lean;
      settled = subst (λ fs. AreSettled rules last fs) (sym h.finds.found) z.settled;
      met = subst (λ fs. HaveMet rules (contents s) last fs new.waiting.entries (root_in new.level new.inst)) (sym h.finds.found)
          (subst (λ r. HaveMet rules (contents s) last q.found.entries new.waiting.entries r) (sym root_new)
          (subst (λ ws. HaveMet rules (contents s) last q.found.entries ws j) (sym waits_now)
          (met_push rules (contents s) last q.found.entries q.waiting.entries (with_level q.level q.inst) j z.met
          (waits_met rules (class_shown s) (contents s) last q.found.entries q.inst waits j going))));
      followed = followed_deeper rules (contents s) last last q new (λ m some. refl) (
        [],
        h.finds.found ∙ sym
            (append-nil q.found.entries),
      )
          (λ i k. subst (λ es. Among i (keys_of es)) (sym h.finds.ended) k) (λ i k. subst (λ es. Among i
          (keys_of es)) h.finds.ended k) j
          (ap (λ d. level_of new.inst d) h.level ∙ ap (λ i. level_of i None) h.inst)
          (ap (λ ws. levels_of ws) waits_now ∙ sym (risen_levels q.waiting.entries q.inst q.level)) z.followed;
    }

    chain_on : (u : Trials) → u.frames.items ≡ t.frames.items ++ waits ∷ [] → u.awaited ≡ t.awaited → FitAt rules s
        last new u.frames.items u.awaited
    chain_on u frames await = subst (λ o. FitAt rules s last new u.frames.items o) (sym (await ∙ c.none))
        (subst (λ fs. FitAt rules s last new fs None) (sym frames)
        (subst (λ fs. AreTrials rules (class_shown s) (contents s) last fs new.waiting.entries (root_in new.level new.inst) (t.frames.items ++ waits ∷ [])) (sym h.finds.found)
        (subst (λ r. AreTrials rules (class_shown s) (contents s) last q.found.entries new.waiting.entries r (t.frames.items ++ waits ∷ [])) (sym root_new)
        (subst (λ ws. AreTrials rules (class_shown s) (contents s) last q.found.entries ws j (t.frames.items ++ waits ∷ [])) (sym waits_now)
        (push_trial rules (class_shown s) (contents s) last q.found.entries q.waiting.entries (with_level q.level q.inst) j t.frames.items waits
        (let turns = c.turns in let fit = turns.fit in subst (λ o. FitAt rules s last q t.frames.items o) c.none
        fit.chain) going)))))

    fit_on : (u : Trials) → u.frames.items ≡ t.frames.items ++ waits ∷ [] → u.awaited ≡ t.awaited → u.noted.entries ≡
        t.noted.entries → Fit rules s last new u
    fit_on u frames await noted = record {
      chain = chain_on u frames await;
      noted = noted_same rules (contents s) t.noted.entries u.noted.entries noted (let turns = c.turns in let fit =
          turns.fit in fit.noted);
    }

    goes_deeper : (u : Trials) → IsDeeperLast q new t u waits j → HasTurnedOn {E = AllocError} rules s before last w y old new u (Ok None)
    goes_deeper u d = counted_so rules s turn.answerable.basis before last w y old new u gains (sound_at rules s before old turn) turn.standing
        (h.finds.turns ∙ (let stays = c.stays in stays.turns))
        (turned_by rules s before last last f n n w y y old q t g c new (Ok None) (Ok None) turns)
        stands_so (fit_on u d.frames d.awaited d.noted) (λ spare z. spares_on (c.sparing z))

  -- whatever it comes to
  pub deeper_last : (new : Question) (u : Trials) (r : Result (Option AnswerCode) AllocError) → IfOk r (λ o. o ≡ None) →
      IfOk r (λ o. IsDeeperLast q new t u waits j) → HasTurnedOn {E = AllocError} rules s before last w y old new u r
  deeper_last new u (Err e) none d = deeper_fails new u e
  deeper_last new u (Ok o) none d = subst (λ z. HasTurnedOn {E = AllocError} rules s before last w y old new u (Ok z)) (sym none)
      (goes_deeper new d.deeper u d)
