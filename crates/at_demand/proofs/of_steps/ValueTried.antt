-- The last one has come to its value: that is kept, or was found.
use Rattle.std.proofs.Common.{◌≡◌, ◌⊎◌, ℕ, List, [], ◌∷◌, ◌++◌, Option, Some, None, Result, Ok, Err, inl, inr, refl, sym, ap, ◌∙◌, subst, append-nil}
use Rattle.std.specs.Prelude.{IfOk, IsSome}
use Rattle.std.specs.Map.{lookup}
use Rattle.std.specs.Option.{option_map}
use Rattle.std.specs.declared.alloc.AllocError.{AllocError}
use Rattle.indexmap.specs.IndexMap.{insert_entry}
use Rattle.at_model.specs.Meaning.{Among, Finds, Outcomes, Reaches}
use Rattle.at_model.specs.Rules.{Rules, start_of}
use Rattle.at_model.specs.Run.{Value, Instance}
use Rattle.at_model.specs.Turning.{IsOneMore, asked}
use Rattle.at_model.specs.of_fixpoints.Fixpoints.{HasValue}
use Rattle.at_model.specs.of_fixpoints.Resting.{Comes, Leads}
use Rattle.at_model.proofs.Reached.{back_among}
use Rattle.at_model.proofs.of_formulas.UniqueOutcomes.{once}
use Rattle.at_rules.specs.Circular.{AreCircularLazy, HasNoneCircular}
use Rattle.at_store.specs.Shown.{Shown, contents}
use Rattle.at_body.specs.Same.{same_instance}
use Rattle.at_body.specs.Values.{value_view}
use Rattle.at_body.specs.declared.value.Value.{Value as ValueCode}
use Rattle.at_cache.specs.Kept.{Entries}
use Rattle.at_cache.specs.Traced.{Memories}
use Rattle.at_demand.specs.declared.answer.Answer.{Answer as AnswerCode}
use Rattle.at_demand.specs.declared.evaluation.Find.{Find}
use Rattle.at_demand.specs.declared.question.Question.{Question}
use Rattle.at_demand.specs.declared.trials.Trials.{Trials}
use Rattle.at_demand.specs.declared.trying.Going.{Going}
use Rattle.at_demand.specs.declared.trying.Tried.{Tried}
use Rattle.at_demand.specs.declared.trying.Tried.TheVariants as tried
use Rattle.at_demand.specs.InTurns.{PutsInTurns}
use Rattle.at_demand.specs.Answerable.{CanTurn, IsBasis}
use Rattle.at_demand.specs.Answered.{HasTurnedOn, HasWorthyFor}
use Rattle.at_demand.specs.Attempts.{HasFound}
use Rattle.at_demand.specs.ChainSteps.{IsEnded, IsPassedTo, IsSettledTo}
use Rattle.at_demand.specs.Covering.{AreWhole, Extends, IsDemanded}
use Rattle.at_evaluate.specs.Valued.{AreValued, IsKept, KeepsEntries, equations, kept_values, meaning}
use Rattle.at_demand.specs.Known.{FoundKept, IsFound, answer_view, found_values, known_in}
use Rattle.at_demand.specs.KeptTrials.{Fit, FitAt, IsNotedRight}
use Rattle.at_demand.specs.LastTried.{AwaitsLast, IsPassedLast, IsSettledLast}
use Rattle.at_demand.specs.Levels.{asked_by, known_to, root_in}
use Rattle.at_evaluate.specs.Meant.{AreRightValues}
use Rattle.at_demand.specs.Only.{AreLean}
use Rattle.at_demand.specs.Worth.{AreSettled}
use Rattle.at_evaluate.specs.Sparing.{AreSpare, IsWorthy}
use Rattle.at_demand.specs.Tries.{HasCarriedOn}
use Rattle.at_demand.specs.Turns.{IsSparingTurns, IsStanding, found_of, passed_of, under_way}
use Rattle.at_demand.proofs.Attempted.{whole_alone}
use Rattle.at_evaluate.proofs.Entered.{entered, is_there, not_none, valued_on, value_on}
use Rattle.at_demand.proofs.Extending.{among_at}
use Rattle.at_demand.proofs.Gaining.{is_kept, known_below}
use Rattle.at_demand.proofs.Keys.{goes_last, lookup_push, no_key, found_once}
use Rattle.at_demand.proofs.Leading.{valueless}
use Rattle.at_demand.proofs.OnlyLemmas.{lean_push}
use Rattle.at_demand.proofs.Orderly.{neither}
use Rattle.at_demand.proofs.Passing.{whole_push}
use Rattle.at_demand.proofs.Recalling.{known_found, known_kept}
use Rattle.at_demand.proofs.Turned.{one_found, one_passed, passed_one, with_view}
use Rattle.at_demand.proofs.of_levels.Plain.{comes_by_demand}
use Rattle.at_demand.proofs.of_steps.Counted.{answered_so, broken_on, counted_so}
use Rattle.at_demand.proofs.of_steps.Grown.{spares_grown, stands_grown}
use Rattle.at_demand.proofs.of_steps.RisenOn.{HasValued, first_is, fit_risen, level, spares_risen, stands_so, turns_answered, turns_risen}
use Rattle.at_demand.proofs.of_steps.SpoiltFrom.{turned_by}
use Rattle.at_demand.proofs.of_steps.TriedGains.{carried_most}
use Rattle.at_demand.proofs.of_steps.TriedOn.{sound_at, standing_at, turn_at}
use Rattle.at_demand.proofs.of_steps.TryUnderWay.{IsTrying}
use Rattle.at_demand.proofs.of_steps.Unchanged.{sparing_same, standing_same}

abbrev with_find : Find → Instance ℕ → Instance ℕ × Find
with_find f i = (i, f)

same_value : (v w : Value ℕ) → Finds v ≡ Finds w → v ≡ w
same_value v w e = cc

-- one that demands itself has no value
no_self : (rules : Rules) (s : Shown) (i : Instance ℕ) (v : Value ℕ) → start_of rules i.attribute ≡ None → HasValue (contents s) (meaning rules) i v →
    Comes (contents s) (meaning rules) i i → ⊥
no_self rules s i v none has c = valueless (contents s) (meaning rules) (λ k. k ≡ i) (λ k. ⊥)
    (λ k e. inr (
      i,
      refl,
      subst (λ z. Reaches (contents s) (HasValue (contents s) (meaning rules)) ((meaning rules).formula z) i) (sym e)
          (comes_by_demand rules (contents s) i none i c),
    )) (λ k w stuck h. stuck) i v refl has

-- what is known since is kept, or was known
module _ (before after : Entries) (keeps : KeepsEntries before after) (found : List (Instance ℕ × Find)) (i : Instance ℕ) (w : Value ℕ) where
  abbrev pub or_found : Option (Value ℕ) → Option (Value ℕ)
  or_found o = elim o [ Some v ↦ Some v | None ↦ found_values found i ]

  pub known_cases : known_in after found i ≡ Some w → (kept_values after i ≡ Some w) ⊎ (known_in before found i ≡ Some w)
  known_cases e = by (kept_values after i) refl e
    where
      old : (p : Option (Value ℕ)) → kept_values before i ≡ p → kept_values after i ≡ None → found_values found i ≡ Some w → known_in before found i ≡ Some w
      old None f none h = ap or_found f ∙ h
      old (Some v) f none h = absurd (not_none (kept_values after i) (is_there (kept_values after i) v (value_on before after keeps i v f)) none)

      by : (o : Option (Value ℕ)) → kept_values after i ≡ o → or_found o ≡ Some w → (kept_values after i ≡ Some w) ⊎ (known_in before found i ≡ Some w)
      by (Some v) k h = inl (k ∙ h)
      by None k h = inr (old (kept_values before i) refl k h)

-- with a find more it is that one's, too
module _ (before after : Entries) (keeps : KeepsEntries before after) (found : List (Instance ℕ × Find)) (i j : Instance ℕ) (d : Find) (w : Value ℕ) where
  abbrev pub WasKnown : Type 0
  WasKnown = (kept_values after j ≡ Some w) ⊎ ((known_in before found j ≡ Some w) ⊎ ((j ≡ i) × (w ≡ value_view d.value)))

  pub known_push : known_in after (found ++ with_find d i ∷ []) j ≡ Some w → WasKnown
  known_push e = elim (known_cases before after keeps (found ++ with_find d i ∷ []) j w e) [ inl k ↦ inl k | inr k ↦ by (kept_values before j) refl k ]
    where
      of_find : (o : Option Find) → lookup (same_instance j) (found ++ with_find d i ∷ []) ≡ o → option_map (λ (f : Find). value_view f.value) o ≡ Some w →
          kept_values before j ≡ None → WasKnown
      of_find None at h none = absurd cc
      of_find (Some f) at h none =
          let is : value_view f.value ≡ w = cc in
          elim (lookup_push found i j d f at) [
            | inl was ↦ inr (inl (known_found before found j w f (sym none) (sym was) (sym is)))
            | inr (same, e) ↦ inr (inr (same, sym is ∙ ap (λ (g : Find). value_view g.value) (sym e)))
          ]

      by : (o : Option (Value ℕ)) → kept_values before j ≡ o → or_found before after keeps (found ++ with_find d i ∷ []) j w o ≡ Some w → WasKnown
      by (Some v) k h = inl (value_on before after keeps j w (k ∙ h))
      by None k h = of_find (lookup (same_instance j) (found ++ with_find d i ∷ [])) refl h k

-- where it has that value, that is what is known
pub known_last : (rules : Rules) (s : Shown) (entries : Entries) (found : List (Instance ℕ × Find)) (i : Instance ℕ) (d : Find) →
    AreRightValues (contents s) (meaning rules) (kept_values entries) → HasValue (contents s) (meaning rules) i (value_view d.value) →
    lookup (same_instance i) found ≡ None → known_in entries (found ++ with_find d i ∷ []) i ≡ Some (value_view d.value)
known_last rules s entries found i d right has none = by (kept_values entries i) refl
  where
    found_it : (f : Find) × (lookup (same_instance i) (found ++ with_find d i ∷ []) ≡ Some f)
    found_it = let (p, less, at) = among_at (with_find d i) (found ++ with_find d i ∷ []) (back_among (with_find d i) found (with_find d i ∷ []) (inl refl)) in
        found_once (found ++ with_find d i ∷ []) i (p, d, at)

    by : (o : Option (Value ℕ)) → kept_values entries i ≡ o → known_in entries (found ++ with_find d i ∷ []) i ≡ Some (value_view d.value)
    by (Some w) k = known_kept entries (found ++ with_find d i ∷ []) i (value_view d.value) w (sym k)
        (same_value (value_view d.value) w (once (contents s) (meaning rules) i (Finds (value_view d.value)) (Finds w) has (right i w k)))
    by None k = let (f, at) = found_it in elim (lookup_push found i i d f at) [
      | inl was ↦ absurd (not_none (lookup (same_instance i) found) (is_there (lookup (same_instance i) found) f was) none)
      | inr (same, e) ↦ known_found entries (found ++ with_find d i ∷ []) i (value_view d.value) f (sym k) (sym at) (ap (λ (g : Find). value_view g.value) e)
    ]

module _ (rules : Rules) (s : Shown) (before mid last : Entries) (f m l : Memories) (w x y : ℕ) (old q : Question) (t : Trials) (g : Going)
    (c : IsTrying rules s before mid f m w x old q t g) (turn : CanTurn rules s before old) (traced : PutsInTurns m l) (a : Tried)
    (h : HasCarriedOn {E = AllocError} rules s mid last x y q.found.entries q.inst (Ok a)) (d : Find)
    (has : HasFound rules (contents s) mid q.found.entries q.inst d) (none : start_of rules q.inst.attribute ≡ None) where
  basis : IsBasis rules s
  basis = turn.answerable.basis

  keeps : KeepsEntries mid last
  keeps = let gains = h.gains in gains.stays

  st : IsStanding rules s mid q
  st = standing_at rules s before mid f m w x old q t g c

  demanded : (j : Instance ℕ) → IsDemanded q.found.entries d.demanded j → IsKept mid j ⊎ IsFound q.found.entries j
  demanded j (inl b) = inl (is_kept mid d.demanded.kept.items j has.kept b)
  demanded j (inr (p, e, b, at)) = inr (p, e, at)

  valued : HasValued rules s mid q (value_view d.value)
  valued = record {
    turn = turn_at rules s before mid f m w x old q t g c;
    none = none;
    has = has.value;
    ready = λ j b.
        let whole = whole_alone rules (contents s) q.found.entries q.inst d none has.whole in
        elim (whole.demands q.inst j (inl refl) b) [
          | inl e ↦ elim e [
            | inl same ↦ absurd (no_self rules s q.inst (value_view d.value) none has.value (subst (λ z. Comes (contents s) (meaning rules) q.inst z) same b))
            | inr u ↦ absurd u
          ]
          | inr e ↦ demanded j e
        ];
  }

  at_root : root_in q.level q.inst ≡ q.inst
  at_root = ap (λ z. root_in z q.inst) (level rules s mid last q q (value_view d.value) valued keeps)

  took_on : FoundKept last q.found.entries
  took_on i e at = valued_on mid last keeps e.demanded.kept.items (st.kept i e at)

  spare_mid : AreSpare rules (contents s) before → IsSparingTurns rules (contents s) before old → AreSpare rules (contents s) mid
  spare_mid spare z = let gains = c.gains in gains.spare tt spare z.lean z.settled

  -- the frames that wait
  fit_at : FitAt rules s mid q t.frames.items None
  fit_at = let turns = c.turns in subst (λ o. FitAt rules s mid q t.frames.items o) c.none (let fit = turns.fit in
      fit.chain)

  noted_at : IsNotedRight rules (contents s) t.noted.entries
  noted_at = let turns = c.turns in let fit = turns.fit in fit.noted

  gained : (i : Instance ℕ) → (kept_values last i ≡ kept_values mid i) ⊎ (q.inst ≡ i)
  gained i = let gains = h.gains in elim (gains.lazy i) [ inl e ↦ inl e | inr e ↦ inr e.0 ]

  -- memory is wanting
  pub value_fails : (new : Question) (u : Trials) (e : AllocError) → HasTurnedOn {E = AllocError} rules s before last w y old new u (Err e)
  value_fails new u e = broken_on rules s basis before last w y old new u (Err e) e refl (λ none. tt)
      (carried_most rules s before mid last f m l w x y old q t g c (Ok a) h traced {Whole = Unit {0}})

  -- none waited for it: it is the answer
  module _ (found : List (Instance ℕ × Find)) (whole : AreWhole rules (contents s) found)
      (settled : AreSpare rules (contents s) before → IsSparingTurns rules (contents s) before old → AreSettled rules last found)
      (met : IsSome (last q.inst) ⊎ IsFound found q.inst) where
    pub value_answers : (new : Question) (u : Trials) (v : ValueCode) (b : AnswerCode) → v ≡ d.value → IsEnded q new v b →
        HasTurnedOn {E = AllocError} rules s before last w y old new u (Ok (Some b))
    value_answers new u v b same r = answered_so rules s basis before last w y old new u
        (carried_most rules s before mid last f m l w x y old q t g c (Ok a) h traced {Whole = Unit {0}}) b
        (turned_by rules s before mid last f m l w x y old q t g c new (Ok (Some b)) (Ok (Some b))
        (turns_answered rules s mid last q new (value_view d.value) valued keeps r.same r.alone b is))
        (λ none. standing_same rules s last q new r.same (stands_grown rules s mid last keeps q st))
        (λ spare z. subst (λ o. HasWorthyFor rules (contents s) (asked_by old) o last) (sym is) (worthy spare z))
        (λ spare z none. sparing_same rules s last q new r.same (spares_grown rules s mid last keeps q (c.sparing z)))
      where
        is : answer_view b ≡ Outcomes (Finds (value_view d.value))
        is = ap (λ p. answer_view p) r.is ∙ ap (λ p. Outcomes (Finds (value_view p))) same

        first : asked_by old ≡ q.inst
        first = sym c.asked ∙ first_is rules s mid last q new (value_view d.value) valued keeps r.same r.alone

        well : AreCircularLazy rules
        well = let circular = basis.circular in circular.lazy

        worthy : AreSpare rules (contents s) before → IsSparingTurns rules (contents s) before old → (i : Instance ℕ) →
            IsWorthy rules (contents s) (asked_by old) i → IsKept last i
        worthy spare z i b =
            let after = h.spare (spare_mid spare z) (let y = c.sparing z in y.lean) (let y = c.sparing z in y.settled) in
            known_below rules (contents s) last found well whole (settled spare z) after.deep q.inst i met
            (subst (λ j. Leads (contents s) (meaning rules) j i) first b.reached) b.lazy

-- It came to be kept.
module _ (rules : Rules) (s : Shown) (before mid last : Entries) (f m l : Memories) (w x y : ℕ) (old q : Question) (t : Trials) (g : Going)
    (c : IsTrying rules s before mid f m w x old q t g) (turn : CanTurn rules s before old) (traced : PutsInTurns m l) (v : ValueCode)
    (h : HasCarriedOn {E = AllocError} rules s mid last x y q.found.entries q.inst (Ok (tried.Kept v))) (new : Question) (u : Trials) where
  settled_kept : AreSpare rules (contents s) before → IsSparingTurns rules (contents s) before old → AreSettled rules last q.found.entries
  settled_kept spare z = let y = c.sparing z in h.settles (let gains = c.gains in gains.spare tt spare z.lean z.settled) y.settled

  module _ (d : Find) (same : d.value ≡ v) (has : HasFound rules (contents s) mid q.found.entries q.inst d) (none : start_of rules q.inst.attribute ≡ None)
      (kept : kept_values last q.inst ≡ Some (value_view v)) where
    value_is : value_view v ≡ value_view d.value
    value_is = ap (λ p. value_view p) (sym same)

    kept_as : kept_values last q.inst ≡ Some (value_view d.value)
    kept_as = kept ∙ ap (λ p. Some p) value_is

    valued_kept : HasValued rules s mid q (value_view d.value)
    valued_kept = valued rules s before mid last f m l w x y old q t g c turn traced (tried.Kept v) h d has none

    keeps_kept : KeepsEntries mid last
    keeps_kept = let gains = h.gains in gains.stays

    module _ (r : IsPassedTo q new v) (await : AwaitsLast q t u) where
      passed_is : new.passed.entries ≡ insert_entry same_instance q.passed.entries q.inst v
      passed_is = r.passed ∙ ap (λ i. insert_entry same_instance q.passed.entries i v)
          (at_root rules s before mid last f m l w x y old q t g c turn traced (tried.Kept v) h d has none)

      only_kept : (i : Instance ℕ) (z : Value ℕ) → known_to last new i ≡ Some z →
          (kept_values last i ≡ Some z) ⊎ ((known_to mid q i ≡ Some z) ⊎ ((i ≡ q.inst) × (z ≡ value_view d.value)))
      only_kept i z e = elim (known_cases mid last keeps_kept q.found.entries i z (subst (λ fs. known_in last fs i ≡ Some z) r.found e)) [
        | inl k ↦ inl k
        | inr k ↦ inr (inl k)
      ]

      more_kept : HasNoneCircular rules → IsOneMore (with_view (value_view d.value) q.inst) (found_of q.found.entries ++ passed_of q.passed.entries)
          (found_of new.found.entries ++ passed_of new.passed.entries)
      more_kept plain =
          let st = standing_at rules s before mid f m w x old q t g c in
          let p = st.plainly plain in
          subst (λ z. IsOneMore (with_view z q.inst) (found_of q.found.entries ++ passed_of q.passed.entries)
          (found_of new.found.entries ++ passed_of new.passed.entries)) value_is
          (one_passed (contents s) (equations rules) (asked (under_way q)) q p.on new v r.found passed_is)

      finds_kept : Extends q.found.entries new.found.entries
      finds_kept = ([], r.found ∙ sym (append-nil q.found.entries))

      known_kept_so : known_to last new q.inst ≡ Some (value_view d.value)
      known_kept_so = known_kept last new.found.entries q.inst (value_view d.value) (value_view d.value) (sym kept_as) refl

      pub passes_last : HasTurnedOn {E = AllocError} rules s before last w y old new u (Ok None)
      passes_last =
          let st = standing_at rules s before mid f m w x old q t g c in
          let took = took_on rules s before mid last f m l w x y old q t g c turn traced (tried.Kept v) h d has none in
          counted_so rules s turn.answerable.basis before last w y old new u
          (carried_most rules s before mid last f m l w x y old q t g c (Ok (tried.Kept v)) h traced {Whole = Unit {0}})
          (sound_at rules s before old turn) turn.standing (r.turns ∙ (let stays = c.stays in stays.turns))
          (turned_by rules s before mid last f m l w x y old q t g c new (Ok None) (Ok None)
          (turns_risen rules s mid last q new (value_view d.value) valued_kept keeps_kept r.waits r.ended r.turns h.right
          (gained rules s before mid last f m l w x y old q t g c turn traced (tried.Kept v) h d has none) finds_kept known_kept_so only_kept more_kept))
          (stands_so rules s mid last q new (value_view d.value) valued_kept keeps_kept r.waits r.ended r.turns h.right
          (gained rules s before mid last f m l w x y old q t g c turn traced (tried.Kept v) h d has none) finds_kept known_kept_so only_kept more_kept
          (subst (λ fs. FoundKept last fs) (sym r.found) took) passed_now (subst (λ fs. AreWhole rules (contents s) fs) (sym r.found) st.whole))
          (subst (λ (z : Trials). Fit rules s last new z) (sym await)
          (record {
            chain = fit_risen rules s mid last q new (value_view d.value) valued_kept keeps_kept r.waits r.ended
                r.turns h.right
                (gained rules s before mid last f m l w x y old q t g c turn traced (tried.Kept v) h d has none)
                finds_kept known_kept_so only_kept
                more_kept t.frames.items (fit_at rules s before mid last f m l w x y old q t g c turn traced
                (tried.Kept v) h d has none);
            noted = noted_at rules s before mid last f m l w x y old q t g c turn traced (tried.Kept v) h d has
                none;
          }))
          (λ spare z. spares_risen rules s mid last q new (value_view d.value) valued_kept keeps_kept r.waits r.ended r.turns h.right
          (gained rules s before mid last f m l w x y old q t g c turn traced (tried.Kept v) h d has none) finds_kept known_kept_so only_kept more_kept
          (subst (λ fs. AreLean rules (contents s) fs) (sym r.found) (let y = c.sparing z in y.lean))
          (subst (λ fs. AreSettled rules last fs) (sym r.found) (settled_kept spare z)) (c.sparing z))
        where
          passed_now : (i : Instance ℕ) (z : Value ℕ) → Among (with_view z i) (passed_of new.passed.entries) → kept_values last i ≡ Some z
          passed_now i z b = elim (passed_one q.passed.entries q.inst v i z (subst (λ ps. Among (with_view z i) (passed_of ps)) passed_is b)) [
            | inl e ↦ (let st = standing_at rules s before mid f m w x old q t g c in value_on mid last keeps_kept i z (st.passed i z e))
            | inr (e, p) ↦ ap (λ j. kept_values last j) e ∙ kept ∙ ap (λ k. Some k) (sym p)
          ]

    kept_so : (o : Option AnswerCode) → IsPassedLast q new t u v o → HasTurnedOn {E = AllocError} rules s before last w y old new u (Ok o)
    kept_so None (r, await) = passes_last r await
    kept_so (Some b) (r, await) = value_answers rules s before mid last f m l w x y old q t g c turn traced (tried.Kept v) h d has none q.found.entries
        (let st = standing_at rules s before mid f m w x old q t g c in st.whole) settled_kept
        (inl (entered last q.inst (is_there (kept_values last q.inst) (value_view v) kept))) new u v b (sym same) r

    kept_by : (r : Result (Option AnswerCode) AllocError) → IfOk r (IsPassedLast q new t u v) →
        HasTurnedOn {E = AllocError} rules s before last w y old new u r
    kept_by (Ok o) z = kept_so o z
    kept_by (Err e) z = value_fails rules s before mid last f m l w x y old q t g c turn traced (tried.Kept v) h d has none new u e

  pub kept_last : (r : Result (Option AnswerCode) AllocError) → IfOk r (IsPassedLast q new t u v) →
      HasTurnedOn {E = AllocError} rules s before last w y old new u r
  kept_last r z = let (d, same, has, none, kept) = h.tried in kept_by d same has none kept r z

-- It was found.
module _ (rules : Rules) (s : Shown) (before mid last : Entries) (f m l : Memories) (w x y : ℕ) (old q : Question) (t : Trials) (g : Going)
    (c : IsTrying rules s before mid f m w x old q t g) (turn : CanTurn rules s before old) (traced : PutsInTurns m l) (d : Find)
    (h : HasCarriedOn {E = AllocError} rules s mid last x y q.found.entries q.inst (Ok (tried.Found d))) (new : Question) (u : Trials) where
  settled_found : AreSpare rules (contents s) before → IsSparingTurns rules (contents s) before old →
      AreSettled rules last (q.found.entries ++ with_find d q.inst ∷ [])
  settled_found spare z = let y = c.sparing z in h.settles (let gains = c.gains in gains.spare tt spare z.lean z.settled) y.settled

  unfound : lookup (same_instance q.inst) q.found.entries ≡ None
  unfound = let n = neither mid q.found.entries q.inst c.unknown in n.1

  found_at : IsFound (q.found.entries ++ with_find d q.inst ∷ []) q.inst
  found_at =
      let (p, less, at) = among_at (with_find d q.inst) (q.found.entries ++ with_find d q.inst ∷ [])
      (back_among (with_find d q.inst) q.found.entries (with_find d q.inst ∷ []) (inl refl)) in (p, d, at)

  module _ (has : HasFound rules (contents s) mid q.found.entries q.inst d) (none : start_of rules q.inst.attribute ≡ None) where
    valued_found : HasValued rules s mid q (value_view d.value)
    valued_found = valued rules s before mid last f m l w x y old q t g c turn traced (tried.Found d) h d has none

    keeps_found : KeepsEntries mid last
    keeps_found = let gains = h.gains in gains.stays

    whole_found : AreWhole rules (contents s) (q.found.entries ++ with_find d q.inst ∷ [])
    whole_found = let st = standing_at rules s before mid f m w x old q t g c in
        whole_push rules (contents s) q.found.entries q.inst d st.whole has.whole

    module _ (r : IsSettledTo q new d) (await : AwaitsLast q t u) where
      found_as : new.found.entries ≡ insert_entry same_instance q.found.entries q.inst d
      found_as = r.found ∙ ap (λ i. insert_entry same_instance q.found.entries i d)
          (at_root rules s before mid last f m l w x y old q t g c turn traced (tried.Found d) h d has none)

      found_is : new.found.entries ≡ q.found.entries ++ with_find d q.inst ∷ []
      found_is = found_as ∙ goes_last q.found.entries q.inst d (no_key q.found.entries q.inst unfound)

      finds_more : Extends q.found.entries new.found.entries
      finds_more = (with_find d q.inst ∷ [], found_is)

      known_now : known_to last new q.inst ≡ Some (value_view d.value)
      known_now = subst (λ fs. known_in last fs q.inst ≡ Some (value_view d.value)) (sym found_is)
          (known_last rules s last q.found.entries q.inst d h.right has.value unfound)

      only_found : (i : Instance ℕ) (z : Value ℕ) → known_to last new i ≡ Some z →
          (kept_values last i ≡ Some z) ⊎ ((known_to mid q i ≡ Some z) ⊎ ((i ≡ q.inst) × (z ≡ value_view d.value)))
      only_found i z e = known_push mid last keeps_found q.found.entries q.inst i d z (subst (λ fs. known_in last fs i ≡ Some z) found_is e)

      more_found : HasNoneCircular rules → IsOneMore (with_view (value_view d.value) q.inst) (found_of q.found.entries ++ passed_of q.passed.entries)
          (found_of new.found.entries ++ passed_of new.passed.entries)
      more_found plain =
          let st = standing_at rules s before mid f m w x old q t g c in
          let p = st.plainly plain in
          one_found (contents s) (equations rules) (asked (under_way q)) q p.on new d found_as r.passed

      took_now : FoundKept last new.found.entries
      took_now = subst (λ fs. FoundKept last fs) (sym found_is) (λ i e at. elim (lookup_push q.found.entries q.inst i d e at) [
        | inl was ↦ took_on rules s before mid last f m l w x y old q t g c turn traced (tried.Found d) h d has none i e was
        | inr (same, is) ↦ subst (λ (z : Find). AreValued last z.demanded.kept.items) is (valued_on mid last keeps_found d.demanded.kept.items has.kept)
      ])

      pub settles_last : HasTurnedOn {E = AllocError} rules s before last w y old new u (Ok None)
      settles_last =
          let st = standing_at rules s before mid f m w x old q t g c in
          counted_so rules s turn.answerable.basis before last w y old new u
          (carried_most rules s before mid last f m l w x y old q t g c (Ok (tried.Found d)) h traced {Whole = Unit {0}})
          (sound_at rules s before old turn) turn.standing (r.turns ∙ (let stays = c.stays in stays.turns))
          (turned_by rules s before mid last f m l w x y old q t g c new (Ok None) (Ok None)
          (turns_risen rules s mid last q new (value_view d.value) valued_found keeps_found r.waits r.ended r.turns h.right
          (gained rules s before mid last f m l w x y old q t g c turn traced (tried.Found d) h d has none) finds_more known_now only_found more_found))
          (stands_so rules s mid last q new (value_view d.value) valued_found keeps_found r.waits r.ended r.turns h.right
          (gained rules s before mid last f m l w x y old q t g c turn traced (tried.Found d) h d has none) finds_more known_now only_found more_found
          took_now (λ i z b. value_on mid last keeps_found i z (st.passed i z (subst (λ ps. Among (with_view z i) (passed_of ps)) r.passed b)))
          (subst (λ fs. AreWhole rules (contents s) fs) (sym found_is) whole_found))
          (subst (λ (z : Trials). Fit rules s last new z) (sym await)
          (record {
            chain = fit_risen rules s mid last q new (value_view d.value) valued_found keeps_found r.waits r.ended
                r.turns h.right
                (gained rules s before mid last f m l w x y old q t g c turn traced (tried.Found d) h d has
                none) finds_more known_now only_found
                more_found t.frames.items (fit_at rules s before mid last f m l w x y old q t g c turn traced
                (tried.Found d) h d has none);
            noted = noted_at rules s before mid last f m l w x y old q t g c turn traced (tried.Found d) h d has
                none;
          }))
          (λ spare z. spares_risen rules s mid last q new (value_view d.value) valued_found keeps_found r.waits r.ended r.turns h.right
          (gained rules s before mid last f m l w x y old q t g c turn traced (tried.Found d) h d has none) finds_more known_now only_found more_found
          (subst (λ fs. AreLean rules (contents s) fs) (sym found_is)
          (lean_push rules (contents s) q.found.entries q.inst d (let y = c.sparing z in y.lean) has.lean))
          (subst (λ fs. AreSettled rules last fs) (sym found_is) (settled_found spare z)) (c.sparing z))

    found_so_far : (o : Option AnswerCode) → IsSettledLast q new t u d o → HasTurnedOn {E = AllocError} rules s before last w y old new u (Ok o)
    found_so_far None (r, await) = settles_last r await
    found_so_far (Some b) (r, await) = value_answers rules s before mid last f m l w x y old q t g c turn traced (tried.Found d) h d has none
        (q.found.entries ++ with_find d q.inst ∷ []) whole_found settled_found (inr found_at) new u d.value b refl r

    found_by : (r : Result (Option AnswerCode) AllocError) → IfOk r (IsSettledLast q new t u d) →
        HasTurnedOn {E = AllocError} rules s before last w y old new u r
    found_by (Ok o) z = found_so_far o z
    found_by (Err e) z = value_fails rules s before mid last f m l w x y old q t g c turn traced (tried.Found d) h d has none new u e

  pub found_last : (r : Result (Option AnswerCode) AllocError) → IfOk r (IsSettledLast q new t u d) →
      HasTurnedOn {E = AllocError} rules s before last w y old new u r
  found_last r z = let (has, none) = h.tried in found_by has none r z
