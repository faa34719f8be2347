-- A turn whose last instance came to be kept, at a level that is no search.
use Rattle.std.proofs.Common.{◌≡◌, ◌<◌, ◌^◌, ℕ, Bool, true, false, List, [], ◌∷◌, ◌++◌, Option, Some, None, Result, Ok, Err, inl, inr, refl, sym, ap, ◌∙◌, subst, true≢false, append-nil}
use Rattle.std.specs.Prelude.{IfOk, IsSome, is_some, not}
use Rattle.std.specs.Map.{keys_of}
use Rattle.std.specs.declared.alloc.AllocError.{AllocError}
use Rattle.indexmap.specs.IndexMap.{insert_entry}
use Rattle.at_model.specs.Meaning as model
use Rattle.at_model.specs.Meaning.{Among, Equations, Finds, Outcomes}
use Rattle.at_model.specs.Rules.{Rules}
use Rattle.at_model.specs.Run.{Value, Instance, Contents}
use Rattle.at_model.specs.Turning as chain
use Rattle.at_model.specs.Turning.{UnderWay, IsOn as ChainIsOn, Turned as ChainTurned, asked}
use Rattle.at_model.specs.of_fixpoints.Fixpoints.{HasValue}
use Rattle.at_model.specs.of_fixpoints.Searching.{Search, Turned}
use Rattle.at_model.proofs.of_machines.Bounded.{stays_on as chain_stays}
use Rattle.at_rules.specs.Circular.{HasNoneCircular}
use Rattle.at_store.specs.Shown.{Shown, contents}
use Rattle.at_body.specs.Same.{same_instance}
use Rattle.at_body.specs.Typed.{class_shown}
use Rattle.at_body.specs.Values.{value_view}
use Rattle.at_body.specs.declared.value.Value.{Value as ValueCode}
use Rattle.at_cache.specs.Kept.{Entries}
use Rattle.at_demand.proofs.of_levels.Followed.{followed_off}
use Rattle.at_demand.specs.declared.answer.Answer.{Answer as AnswerCode}
use Rattle.at_demand.specs.declared.answer.Answer.TheVariants as answer
use Rattle.at_demand.specs.declared.question.Question.{Question}
use Rattle.at_demand.specs.declared.trials.Trials.{Trials}
use Rattle.at_demand.specs.declared.trying.Trying.{Trying}
use Rattle.at_demand.specs.Answerable.{IsBasis}
use Rattle.at_demand.specs.Answered.{HasTurnedOn, HasWorthyFor}
use Rattle.at_demand.specs.ChainSteps.{HasPassedOn, IsPassedTo, IsUnchanged}
use Rattle.at_demand.specs.Covering.{AreWhole}
use Rattle.at_evaluate.specs.Valued.{ArePlain, equations, kept_values, meaning}
use Rattle.at_demand.specs.Known.{FoundKept, known_in}
use Rattle.at_demand.specs.KeptTrials.{AreTrials, Fit, FitAt, IsNotedRight}
use Rattle.at_demand.specs.LastTried.{AwaitsLast, IsPassedOver}
use Rattle.at_demand.specs.Levels.{LevelCode, StandsFor, asked_by, level_of, levels_of, root_in}
use Rattle.at_demand.specs.Only.{AreLean}
use Rattle.at_demand.specs.Sound.{AreSound}
use Rattle.at_demand.specs.Worth.{AreSettled}
use Rattle.at_demand.specs.Turns.{HasTurnedBy, HaveMet, IsSparingTurns, IsStanding, found_of, passed_of, under_way}
use Rattle.at_evaluate.proofs.Entered.{is_there}
use Rattle.at_demand.proofs.Fitting.{ended_fit, noted_same}
use Rattle.at_demand.proofs.Gaining.{asked_kept}
use Rattle.at_demand.proofs.Recalling.{known_kept}
use Rattle.at_demand.proofs.Standing.{asked_typed, plain_holds}
use Rattle.at_demand.proofs.Turned.{last_two, one_passed, passed_one, with_view}
use Rattle.at_demand.proofs.of_searches.Reaching.{asked_at}
use Rattle.at_demand.proofs.of_levels.Resolving.{facts_same}
use Rattle.at_demand.proofs.of_searches.Returning.{with_level}
use Rattle.at_demand.proofs.of_levels.Wholes.{fresh_on, stays_on}
use Rattle.at_demand.proofs.of_steps.Ascending.{below_pop, ends_kept, risen, rises_kept, search_is, stands_risen, start_is, waited}
use Rattle.at_demand.proofs.of_steps.Counted.{StandsSo, answered_so, broken_on, counted_so}
use Rattle.at_demand.proofs.of_steps.Met.{met_pop}
use Rattle.at_demand.proofs.of_steps.Turning.{gains_none}
use Rattle.at_demand.proofs.of_steps.Unchanged.{sparing_same, standing_same, way_stays}

again : (look : Contents ℕ) (equation : Equations ℕ) (q : Instance ℕ) (u : UnderWay ℕ) → ChainIsOn look equation q u → ChainIsOn look equation (asked u) u
again look equation q u on = subst (λ x. ChainIsOn look equation x u) (sym on.starts) on

no_answer : (a : AnswerCode) → Some a ≡ None → ⊥
no_answer a e = cc

module _ (rules : Rules) (s : Shown) (basis : IsBasis rules s) (entries : Entries) (w : ℕ) (few : w < 2 ^ 64) (plain : ArePlain rules entries)
    (sound : AreSound rules s entries) (old : Question) (st : IsStanding rules s entries old) (level : old.level ≡ None) (v : ValueCode)
    (kept : kept_values entries old.inst ≡ Some (value_view v)) (new : Question) (t : Trials) where
  has : HasValue (contents s) (meaning rules) old.inst (value_view v)
  has = sound.right old.inst (value_view v) kept

  has_plainly : HasNoneCircular rules → model.HasValue (contents s) (equations rules) old.inst (value_view v)
  has_plainly none = plain_holds rules none (contents s) old.inst (Finds (value_view v)) has

  module _ (r : IsPassedTo old new v) where
    waits : old.waiting.entries ≡ new.waiting.entries ++ with_level new.level new.inst ∷ []
    waits = r.waits

    at_root : root_in old.level old.inst ≡ old.inst
    at_root = ap (λ d. root_in d old.inst) level

    passed : new.passed.entries ≡ insert_entry same_instance old.passed.entries old.inst v
    passed = r.passed ∙ ap (λ i. insert_entry same_instance old.passed.entries i v) at_root

    -- as a turn of the chain
    chained : HasNoneCircular rules → ChainTurned (contents s) (equations rules) (kept_values entries) (under_way old) (under_way new) None
    chained none =
        let p = st.plainly none in
        chain.ascends (keys_of new.waiting.entries) new.inst (value_view v) (found_of new.found.entries ++ passed_of new.passed.entries)
        (last_two old.waiting.entries new.waiting.entries new.inst new.level waits) (has_plainly none) (inl kept)
        (one_passed (contents s) (equations rules) (asked (under_way old)) old p.on new v r.found passed)

    -- as one of the search
    rises : (u : Search ℕ) (x : StandsFor rules s entries old u) → Turned (contents s) (meaning rules) (kept_values entries) u
        (risen rules s entries entries old new level waits r.ended u x (value_view v)) None
    rises u x = subst (λ z. Turned (contents s) (meaning rules) (kept_values entries) z
        (risen rules s entries entries old new level waits r.ended u x (value_view v)) None)
        (sym (start_is rules s entries entries old new level waits r.ended u x))
        (rises_kept (contents s) (meaning rules) (kept_values entries) old.inst (value_view v) u.ended u.told has kept
        (level_of new.inst new.level) (levels_of new.waiting.entries))

    stands : (u : Search ℕ) (x : StandsFor rules s entries old u) → StandsFor rules s entries new
        (risen rules s entries entries old new level waits r.ended u x (value_view v))
    stands u x =
        let typed = asked_typed rules s basis entries old sound st in
        stands_risen rules s entries entries old new level waits r.ended u x (value_view v)
        (known_kept entries new.found.entries old.inst (value_view v) (value_view v) (sym kept) refl)
        (λ i y e. ap (λ fs. known_in entries fs i) r.found ∙ e)
        (λ i y e. elim (x.is.known i y (sym (ap (λ fs. known_in entries fs i) r.found) ∙ e)) [ inl k ↦ inl k | inr a ↦ inr (inr a) ])
        (λ i k. elim (x.is.spent i (subst (λ fs. IsSome (known_in entries fs i)) r.found k)) [ inl a ↦ inl a | inr b ↦ inr (inr b) ])
        (facts_same rules (contents s) entries old new r.ended r.found x.facts) r.turns
        (stays_on rules s basis.idle basis.formed basis.sound (asked_by old) typed (kept_values entries) sound.right u
        (risen rules s entries entries old new level waits r.ended u x (value_view v)) x.on (rises u x))
        (fresh_on rules s basis.idle basis.formed basis.sound (asked_by old) typed (kept_values entries) sound.right u
        (risen rules s entries entries old new level waits r.ended u x (value_view v)) x.on x.fresh (rises u x))

    turned : HasTurnedBy {E = AllocError} rules s entries entries old new (Ok None)
    turned = record {
      plainly = chained;
      searched = λ u x. (risen rules s entries entries old new level waits r.ended u x (value_view v), rises u x, λ e. stands u x);
    }

    so : StandsSo rules s entries new
    so = record {
      plainly = λ none. let p = st.plainly none in
          record {
            ended = r.ended ∙ p.ended;
            level = p.levels new.inst new.level (waited rules s entries entries old new level waits r.ended new.inst new.level (inl refl));
            levels = λ i l h. p.levels i l (waited rules s entries entries old new level waits r.ended i l (inr h));
            on = again (contents s) (equations rules) (asked (under_way old)) (under_way new)
                (chain_stays (contents s) (equations rules) (asked (under_way old)) (under_way old) p.on (kept_values entries) (under_way new)
                None (chained none));
          };
      kept = subst (λ fs. FoundKept entries fs) (sym r.found) st.kept;
      passed = λ i y a. elim (passed_one old.passed.entries old.inst v i y (subst (λ ps. Among (with_view y i) (passed_of ps)) passed a)) [
        | inl b ↦ st.passed i y b
        | inr (e, f) ↦ ap (λ j. kept_values entries j) e ∙ kept ∙ ap (λ z. Some z) (sym f)
      ];
      whole = subst (λ fs. AreWhole rules (contents s) fs) (sym r.found) st.whole;
    }

    sparing : IsSparingTurns rules (contents s) entries old → IsSparingTurns rules (contents s) entries new
    sparing x = record {
      lean = subst (λ fs. AreLean rules (contents s) fs) (sym r.found) x.lean;
      settled = subst (λ fs. AreSettled rules entries fs) (sym r.found) x.settled;
      met = subst (λ fs. HaveMet rules (contents s) entries fs new.waiting.entries (root_in new.level new.inst)) (sym r.found)
          (met_pop rules (contents s) entries old.found.entries new.waiting.entries (with_level new.level new.inst) (root_in old.level old.inst)
          (subst (λ ws. HaveMet rules (contents s) entries old.found.entries ws (root_in old.level old.inst)) waits x.met));
      followed = followed_off rules (contents s) entries entries old new (λ m some. refl) (
        [],
        r.found ∙ sym
            (append-nil old.found.entries),
      )
          (λ j k. subst (λ es. Among j (keys_of es)) (sym r.ended) k) (λ j k. subst (λ es. Among j
          (keys_of es)) r.ended k)
          (below_pop rules s entries entries old new level waits r.ended) x.followed;
    }

    -- the trials are those of the ones that wait, and the one that is the last now
    fit_passed : (frames : List Trying) → FitAt rules s entries old frames None → FitAt rules s entries new frames
        (Some old.inst)
    fit_passed frames fit = subst (λ fs. AreTrials rules (class_shown s) (contents s) entries fs
        (new.waiting.entries ++ with_level new.level new.inst ∷ []) old.inst frames) (sym r.found)
        (subst (λ ws. AreTrials rules (class_shown s) (contents s) entries old.found.entries ws old.inst frames) waits
        (subst (λ i. AreTrials rules (class_shown s) (contents s) entries old.found.entries old.waiting.entries i
        frames) at_root fit))

    pub passes_on : Fit rules s entries new t → HasTurnedOn {E = AllocError} rules s entries entries w w old new
        t (Ok None)
    passes_on fit = counted_so rules s basis entries entries w w old new t
        (gains_none rules s entries w few old sound.right plain) sound st r.turns turned so fit (λ spare x.
        sparing x)

  -- or that answers the question
  module _ (r : IsUnchanged old new) (alone : old.waiting.entries ≡ []) where
    first_is : asked_by old ≡ old.inst
    first_is = ap (λ ws. asked_at ws old.level old.inst) alone ∙ ap (λ d. root_in d old.inst) level

    ends : (u : Search ℕ) → StandsFor rules s entries old u →
        Turned (contents s) (meaning rules) (kept_values entries) u u (Some (Outcomes (Finds (value_view v))))
    ends u x =
        let is = search_is u old.inst [] (x.is.last ∙ ap (λ d. level_of old.inst d) level) (x.is.below ∙ ap (λ ws. levels_of ws) alone) in
        subst (λ z. Turned (contents s) (meaning rules) (kept_values entries) z z (Some (Outcomes (Finds (value_view v))))) (sym is)
        (ends_kept (contents s) (meaning rules) (kept_values entries) old.inst (value_view v) u.ended u.told has kept)

    chain_ends : HasNoneCircular rules → ChainTurned (contents s) (equations rules) (kept_values entries) (under_way old) (under_way new)
        (Some (Outcomes (Finds (value_view v))))
    chain_ends none = subst (λ u. ChainTurned (contents s) (equations rules) (kept_values entries) (under_way old) u
        (Some (Outcomes (Finds (value_view v))))) (sym (way_stays rules s entries old new r))
        (chain.finds (value_view v) (ap keys_of alone) (has_plainly none) (inl kept))

    pub ends_on : HasTurnedOn {E = AllocError} rules s entries entries w w old new t (Ok (Some (answer.Value v)))
    ends_on = answered_so rules s basis entries entries w w old new t (gains_none rules s entries w few old sound.right plain)
        (answer.Value v)
        (record { plainly = chain_ends; searched = λ u x. (u, ends u x, λ e. absurd (no_answer (answer.Value v) e)) })
        (λ none. standing_same rules s entries old new r st)
        (λ spare x. subst (λ i. HasWorthyFor rules (contents s) i (Outcomes (Finds (value_view v))) entries) (sym first_is)
        (asked_kept rules (contents s) old.inst entries (is_there (kept_values entries old.inst) (value_view v) kept) spare.deep))
        (λ spare x none. sparing_same rules s entries old new r x)

  -- whatever it comes to, where these fit without the trial of the last one
  module _ (mid : Trials) (fit : FitAt rules s entries old mid.frames.items None) (noted : IsNotedRight rules
      (contents s) mid.noted.entries)
      (await : AwaitsLast old mid t) where
    passed_on : (o : Option AnswerCode) → HasPassedOn old v new o → HasTurnedOn {E = AllocError} rules s entries
        entries w w old new t (Ok o)
    passed_on None r = passes_on r (subst (λ (z : Trials). Fit rules s entries new z) (sym await)
        (record { chain = fit_passed r mid.frames.items fit; noted = noted }))
    passed_on (Some a) r = subst (λ b. HasTurnedOn {E = AllocError} rules s entries entries w w old new t (Ok
        (Some b))) (sym r.is)
        (ends_on r.same r.alone)

  -- or memory is wanting
  pub passed_over : (u : Trials) → Fit rules s entries old u → (r : Result (Option AnswerCode) AllocError) → IfOk r
      (IsPassedOver old new u t v) →
      HasTurnedOn {E = AllocError} rules s entries entries w w old new t r
  passed_over u fit (Ok o) (mid, ended, (passed, await)) = passed_on mid (ended_fit rules s entries old u mid ended fit)
      (noted_same rules (contents s) u.noted.entries mid.noted.entries ended.noted fit.noted) await o passed
  passed_over u fit (Err e) h = broken_on rules s basis entries entries w w old new t (Err e) e refl
      (λ none. none) (gains_none rules s entries w few old sound.right plain)

-- a level that is none
pub none_is : (d : LevelCode) (b : Bool) → is_some d ≡ not b → b ≡ true → d ≡ None
none_is None b is e = refl
none_is (Some l) b is e = absurd (true≢false (is ∙ ap not e))

pub not_none_level : (d : LevelCode) (b : Bool) → is_some d ≡ not b → b ≡ false → d ≡ None → ⊥
not_none_level None b is e f = absurd (true≢false (sym (is ∙ ap not e)))
not_none_level (Some l) b is e f = cc
