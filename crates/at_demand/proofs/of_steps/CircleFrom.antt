-- The last one waits for one that is tried, or under way, and isn't known: a circle answers the question.
use Rattle.std.proofs.Common.{◌≡◌, ◌⊎◌, ℕ, List, [], ◌∷◌, ◌++◌, Option, Some, None, Result, Ok, Err, inl, inr, refl, sym, ap, ◌∙◌, subst}
use Rattle.std.specs.Prelude.{IfOk, IfSome, OnOk, IsSome}
use Rattle.std.specs.Map.{keys_of}
use Rattle.std.specs.declared.alloc.AllocError.{AllocError}
use Rattle.at_model.specs.Meaning.{Among, Circle, Reaches}
use Rattle.at_model.specs.Rules.{Rules}
use Rattle.at_model.specs.Run.{Instance, Value}
use Rattle.at_model.specs.Turning as chain
use Rattle.at_model.specs.Turning.{Turned as ChainTurned}
use Rattle.at_model.specs.of_fixpoints.Circles.{IsOpen}
use Rattle.at_model.specs.of_fixpoints.Fixpoints.{HasValue, stays}
use Rattle.at_model.specs.of_fixpoints.Searching.{Level, Search, Turned, under}
use Rattle.at_model.specs.of_fixpoints.Searching as search
use Rattle.at_rules.specs.Circular.{HasNoneCircular}
use Rattle.at_store.specs.Shown.{Shown, contents}
use Rattle.at_body.specs.Typed.{class_shown}
use Rattle.at_cache.specs.Kept.{Entries}
use Rattle.at_cache.specs.Traced.{Memories}
use Rattle.at_demand.proofs.of_levels.Followed.{come_waiting}
use Rattle.at_demand.proofs.of_levels.MetKept.{met_kept}
use Rattle.at_demand.specs.declared.answer.Answer.{Answer as AnswerCode}
use Rattle.at_demand.specs.declared.answer.Answer.TheVariants as answer
use Rattle.at_demand.specs.declared.demand.searching.Resolved.TheVariants as resolved
use Rattle.at_demand.specs.declared.question.Question.{Question}
use Rattle.at_demand.specs.declared.trials.Trials.{Trials}
use Rattle.at_demand.specs.declared.trying.Going.{Going}
use Rattle.at_demand.specs.declared.trying.Trying.{Trying}
use Rattle.at_demand.specs.Answerable.{CanTurn}
use Rattle.at_demand.specs.Answered.{HasTurnedOn, HasWorthyFor, HasWorthyMet, IsOfUse}
use Rattle.at_demand.specs.Attempts.{IsGoing}
use Rattle.at_demand.specs.Forming.{waits_for}
use Rattle.at_demand.specs.KeptTrials.{FitAfter}
use Rattle.at_demand.specs.Known.{answer_view}
use Rattle.at_evaluate.specs.Valued.{equations, kept_values, meaning}
use Rattle.at_demand.specs.Levels.{LevelCode, StandsFor, all_levels, asked_by, known_to, level_of, levels_of, root_in}
use Rattle.at_demand.specs.Searches.{CanClose, HasClosed, HasResolved, IsResolved, IsSeenBy, IsTried, IsUnderWay, LeavesSo, StaysOn, StaysSo, TurnsBy}
use Rattle.at_evaluate.specs.Sparing.{AreSpare, HasWorthy}
use Rattle.at_demand.specs.Turns.{HaveMet, IsSparingTurns, IsStanding, IsStandingPlainly, under_way}
use Rattle.at_demand.proofs.of_levels.CameBetween.{others_before}
use Rattle.at_demand.proofs.of_levels.ChainCircle.{circle_worthy}
use Rattle.at_demand.proofs.of_levels.FromTry.{close_standing, opens_back}
use Rattle.at_demand.proofs.of_searches.Reaching.{asked_at}
use Rattle.at_demand.proofs.of_searches.Returning.{with_level}
use Rattle.at_demand.proofs.of_steps.PlainComes.{comes_off}
use Rattle.at_demand.proofs.of_steps.SpoiltFrom.{goes_from}
use Rattle.at_demand.proofs.of_steps.TriedOn.{finds_at, search_at, sound_at, standing_at, stands_at, tries_on, turn_at}
use Rattle.at_demand.proofs.of_steps.TryUnderWay.{IsTrying}
use Rattle.at_demand.proofs.of_steps.WaitsMet.{waits_met}

no_answer : (a : AnswerCode) → Some a ≡ None → ⊥
no_answer a e = cc

-- what was asked is one of those that wait, or the last one
asked_among : (ws : List (Instance ℕ × LevelCode)) (d : LevelCode) (i : Instance ℕ) → d ≡ None →
    ((j : Instance ℕ) (l : LevelCode) → Among (with_level l j) ws → l ≡ None) → Among (asked_at ws d i) (keys_of ws ++ i ∷ [])
asked_among [] d i e all = inl (ap (λ z. root_in z i) e)
asked_among (w ∷ ws) d i e all = inl (ap (λ z. root_in z w.0) (all w.0 w.1 (inl refl)))

module _ (rules : Rules) (s : Shown) (before mid : Entries) (f m : Memories) (w x : ℕ) (old q : Question) (t : Trials) (g : Going)
    (c : IsTrying rules s before mid f m w x old q t g) (last : Entries) (n : Memories) (y : ℕ) (new : Question) (i : Instance ℕ)
    (h : HasResolved {E = AllocError} rules s mid last m n x y q new i (Ok resolved.Back)) (waits : Trying) (is : g ≡ waits_for waits i)
    (unknown : known_to mid q i ≡ None)
    (demands : Reaches (contents s) (HasValue (contents s) (meaning rules)) ((meaning rules).formula q.inst) i) where
  later : IsTrying rules s before last f n w y old new t g
  later = tries_on rules s before mid f m w x old q t g c last n y new i resolved.Back h waits i is

  turn_new : CanTurn rules s last new
  turn_new = turn_at rules s before last f n w y old new t g later

  st : IsStanding rules s last new
  st = standing_at rules s before last f n w y old new t g later

  back : IsTried q i ⊎ IsUnderWay mid q i
  back = let r : IsResolved rules (contents s) mid last q new i resolved.Back = h.is in r.0

  demands_new : Reaches (contents s) (HasValue (contents s) (meaning rules)) ((meaning rules).formula new.inst) i
  demands_new = let tells = h.tells in
      subst (λ j. Reaches (contents s) (HasValue (contents s) (meaning rules)) ((meaning rules).formula j) i) (sym tells.chain.inst) demands

  levels_same : all_levels q ≡ all_levels new
  levels_same = let tells = h.tells in
      sym (ap (λ j. level_of j new.level ∷ levels_of new.waiting.entries) tells.chain.inst
      ∙ ap (λ d. level_of q.inst d ∷ levels_of new.waiting.entries) tells.level ∙ ap (λ ws. level_of q.inst q.level ∷ levels_of ws) tells.chain.waiting)

  opens : IsOpen (contents s) (meaning rules) (under (all_levels new)) i
  opens =
      let (u, z) = stands_at rules s before mid f m w x old q t g c in
      subst (λ ls. IsOpen (contents s) (meaning rules) (under ls) i)
      (ap (λ (l : Level ℕ). l ∷ u.below) z.is.last ∙ ap (λ ls. level_of q.inst q.level ∷ ls) z.is.below ∙ levels_same)
      (opens_back rules s mid q u z i unknown demands back)

  pub can_close : CanClose rules s last new
  can_close = let (u, z) = search_at rules s last new turn_new in close_standing rules s last new u z
      turn_new.answerable (finds_at rules s last new turn_new)
      (i, record { by = new.inst; led = stays new.inst; demands = demands_new }, opens.1)

  -- where no attribute is circular it is one of the chain
  tried_plainly : HasNoneCircular rules → IsTried new i
  tried_plainly none = let tells = h.tells in
      subst (λ j. Among i (keys_of new.waiting.entries ++ j ∷ [])) (sym tells.chain.inst)
      (subst (λ ws. Among i (keys_of ws ++ q.inst ∷ [])) (sym tells.chain.waiting) (elim back [
        | inl a ↦ a
        | inr d ↦ absurd (let p = plain in subst (λ es. Among i (keys_of es)) p.ended d.0)
      ]))
    where
      plain : IsStandingPlainly rules s q
      plain = let z = standing_at rules s before mid f m w x old q t g c in z.plainly none

  -- it is answered so
  module _ (end : Entries) (o : Memories) (z : ℕ) (last_one : Question) (r : Result (Option AnswerCode) AllocError)
      (d : HasClosed {E = AllocError} rules s last end n o y z new last_one i r) where
    closed_plainly : HasNoneCircular rules → (last_one ≡ new) × (end ≡ last)
    closed_plainly none = let p = st.plainly none in d.plainly p.ended

    turned : (p : Result (Option AnswerCode) AllocError) → IfOk p (λ a. a ≡ Some (answer.Circular i)) → TurnsBy {E = AllocError} rules s last end new last_one p
    turned (Err e) same = record { plainly = λ none. tt; searched = λ first u keeps a since. tt }
    turned (Ok a) same = subst (λ b. TurnsBy {E = AllocError} rules s last end new last_one (Ok b)) (sym same) (record {
      plainly = λ none. let (one, two) = closed_plainly none in
          subst (λ p. ChainTurned (contents s) (equations rules) (kept_values last) (under_way new) (under_way p) (Some (Circle i))) (sym one)
          (chain.closes i (comes_off rules (contents s) none new.inst i (inl demands_new)) (tried_plainly none));
      searched = λ first u keeps a since. (u, closes first u a, λ e. absurd (no_answer (answer.Circular i) e));
    })
      where
        closes : (first : Entries) (u : Search ℕ) → StandsFor rules s last new u → Turned (contents s) (meaning rules) (kept_values first) u u (Some (Circle i))
        closes first u a = search.closes i
            (subst (λ (l : Level ℕ). Reaches (contents s) (HasValue (contents s) (meaning rules)) ((meaning rules).formula l.next) i) (sym a.is.last) demands_new)
            (subst (λ ls. IsOpen (contents s) (meaning rules) (under ls) i)
            (sym (ap (λ (l : Level ℕ). l ∷ u.below) a.is.last ∙ ap (λ ls. level_of new.inst new.level ∷ ls) a.is.below)) opens)

    -- all that is worthy is kept, where no attribute is circular
    worthy : AreSpare rules (contents s) last → IsSparingTurns rules (contents s) last new → HasNoneCircular rules →
        HasWorthy rules (contents s) (asked_by new) end
    worthy spare had none =
        let (one, two) = closed_plainly none in
        let p = st.plainly none in
        let circular = turn_new.answerable.basis.circular in
        subst (λ es. HasWorthy rules (contents s) (asked_by new) es) (sym two)
        (circle_worthy rules (contents s) last new.found.entries none circular.lazy st.whole had.settled spare new.waiting.entries new.inst i
        (λ j l a. ap (λ b. root_in b j) (p.levels j l a))
        (subst (λ b. HaveMet rules (contents s) last new.found.entries new.waiting.entries (root_in b new.inst)) p.level had.met)
        (waits_met rules (class_shown s) (contents s) last new.found.entries new.inst waits i
        (subst (λ b. IsGoing rules (class_shown s) (contents s) last new.found.entries new.inst b) is (let l = later in l.going)))
        (tried_plainly none) (asked_by new) (asked_among new.waiting.entries new.level new.inst p.level p.levels))

    -- all that is worthy and that the search has met is kept
    worthy_met : AreSpare rules (contents s) last → IsSparingTurns rules (contents s) last new →
        ((j : Instance ℕ) (v : Value ℕ) → IsSeenBy new j → HasValue (contents s) (meaning rules) j v → IsSome
        (known_to end last_one j)) →
        HasWorthyMet rules (contents s) (asked_by new) end
    worthy_met spare had told =
        let (u, z) = search_at rules s last new turn_new in
        let gains = d.gains in
        met_kept rules s last end new last_one can_close
        (come_waiting rules s last new u z i demands_new opens
        (waits_met rules (class_shown s) (contents s) last new.found.entries new.inst waits i
        (subst (λ b. IsGoing rules (class_shown s) (contents s) last new.found.entries new.inst b) is
        (let l = later in l.going))) had.followed)
        had.met had.settled spare gains.stays told (gains.settled had.settled)

    leaves : LeavesSo {E = AllocError} rules s last end new last_one r
    leaves = record {
      stays = stays_so r d.stays;
      last = let gains = d.gains in gains.last;
      others = others_before rules s last end n o y z new last_one d.gains;
      all = λ spare had. all_so r d.is d.told spare had;
      sparing = λ spare had. spares_so r d.is had;
    }
      where
        stays_so : (p : Result (Option AnswerCode) AllocError) → OnOk p (StaysOn new last_one) → OnOk p (StaysSo rules s end new last_one)
        stays_so (Err e) on = tt
        stays_so (Ok a) on = record { turns = on.turns; passed = on.passed; finds = let gains = d.gains in gains.sound (finds_at rules s last new turn_new) }

        all_so : (p : Result (Option AnswerCode) AllocError) → IfOk p (λ a. a ≡ Some (answer.Circular i)) → OnOk p
            ((j : Instance ℕ) (v : Value ℕ) →
            IsSeenBy new j → HasValue (contents s) (meaning rules) j v → IsSome (known_to end last_one j)) →
            AreSpare rules (contents s) last →
            IsSparingTurns rules (contents s) last new → IfOk p (λ a. IfSome a (λ b. HasWorthyFor rules (contents s) (asked_by new) (answer_view b) end))
        all_so (Err e) same told spare had = tt
        all_so (Ok a) same told spare had = subst (λ b. IfSome b (λ v. HasWorthyFor rules (contents s)
            (asked_by new) (answer_view v) end)) (sym same)
            (worthy spare had, worthy_met spare had told)

        spares_so : (p : Result (Option AnswerCode) AllocError) → IfOk p (λ a. a ≡ Some (answer.Circular i)) → IsSparingTurns rules (contents s) last new →
            IfOk p (λ a. IsOfUse rules a (IsSparingTurns rules (contents s) end last_one))
        spares_so (Err e) same had = tt
        spares_so (Ok a) same had = subst (λ b. IsOfUse rules b (IsSparingTurns rules (contents s) end last_one)) (sym same) (λ none.
            let (one, two) = closed_plainly none in
            subst (λ p. IsSparingTurns rules (contents s) end p) (sym one) (subst (λ es. IsSparingTurns rules (contents s) es new) (sym two) had))

    fit_so : (p : Result (Option AnswerCode) AllocError) → IfOk p (λ a. a ≡ Some (answer.Circular i)) → (v : Trials) → IfOk p (FitAfter rules s end last_one v)
    fit_so (Err e) same v = tt
    fit_so (Ok a) same v = subst (λ b. FitAfter rules s end last_one v b) (sym same) tt

    pub circle_last : CanTurn rules s before old → (v : Trials) → HasTurnedOn {E = AllocError} rules s before end w z old last_one v r
    circle_last turn v = goes_from rules s before last end f n o w y z old new t g later last_one r turn.answerable.basis
        (sound_at rules s before old turn) turn.standing v d.gains leaves (turned r d.is) (fit_so r d.is v) closed_plainly
