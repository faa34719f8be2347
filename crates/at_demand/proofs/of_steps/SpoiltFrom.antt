-- A turn whose last equation has ended, behind what was told meanwhile.
use Rattle.std.proofs.Common.{◌≡◌, ◌⊎◌, ℕ, [], Option, Result, Ok, Err, inl, inr, sym, ◌∙◌, subst}
use Rattle.std.specs.Prelude.{IfOk, IfSome, IsSome, OnOk}
use Rattle.std.specs.Option.{option_map}
use Rattle.std.specs.declared.alloc.AllocError.{AllocError}
use Rattle.at_model.specs.Rules.{Rules}
use Rattle.at_model.specs.Run.{Instance}
use Rattle.at_model.specs.Turning.{Turned as ChainTurned}
use Rattle.at_model.specs.of_fixpoints.Searching as search
use Rattle.at_rules.specs.Circular.{HasNoneCircular}
use Rattle.at_store.specs.Shown.{Shown, contents}
use Rattle.at_cache.specs.Kept.{Entries}
use Rattle.at_cache.specs.Traced.{Memories}
use Rattle.at_search.specs.declared.ended.Fault.{Fault}
use Rattle.at_demand.specs.declared.answer.Answer.{Answer as AnswerCode}
use Rattle.at_demand.specs.declared.question.Question.{Question}
use Rattle.at_demand.specs.declared.trials.Trials.{Trials}
use Rattle.at_demand.specs.declared.trying.Going.{Going}
use Rattle.at_demand.specs.Answerable.{IsBasis}
use Rattle.at_demand.specs.Answered.{HasTurnedOn, HasWorthyFor}
use Rattle.at_demand.specs.Groups.{KeepsGroups}
use Rattle.at_demand.specs.KeptTrials.{FitAfter}
use Rattle.at_demand.specs.Known.{IsFound, answer_view, found_values}
use Rattle.at_evaluate.specs.Valued.{IsKept, KeepsEntries, equations, kept_values}
use Rattle.at_demand.specs.Searches.{GainsBetween, HasSpoilt, LeavesSo, StaysSo, TurnsBy, WasSeenBy}
use Rattle.at_demand.specs.Sound.{AreSound}
use Rattle.at_evaluate.specs.Sparing.{AreSpare}
use Rattle.at_demand.specs.Turns.{HasTurnedBy, IsSparingTurns, IsStanding, under_way}
use Rattle.at_evaluate.proofs.Entered.{entered, kept_on}
use Rattle.at_demand.proofs.of_levels.CameBetween.{others_before, value_found}
use Rattle.at_demand.proofs.of_levels.GainedBetween.{gains_then}
use Rattle.at_demand.proofs.of_levels.LevelOver.{known_as_found}
use Rattle.at_demand.proofs.of_levels.Resolving.{either_known}
use Rattle.at_demand.proofs.of_steps.Along.{turned_along}
use Rattle.at_demand.proofs.of_steps.TryUnderWay.{IsTrying, with_told}

module _ (rules : Rules) (s : Shown) (before mid last : Entries) (f m n : Memories) (w x y : ℕ) (old q : Question) (t : Trials) (g : Going)
    (c : IsTrying rules s before mid f m w x old q t g) (new : Question) (r : Result (Option AnswerCode) AllocError) where
  gained : GainsBetween rules s before mid f m w x old q (Unit {0})
  gained = c.gains

  early : (i : Instance ℕ) → WasSeenBy q i → WasSeenBy old i
  early i (inl a) = c.levels i a
  early i (inr k) = c.ended i k

  spare_then : AreSpare rules (contents s) before → IsSparingTurns rules (contents s) before old → AreSpare rules (contents s) mid
  spare_then spare z = gained.spare tt spare z.lean z.settled

  -- what it leaves
  leaves_from : KeepsEntries mid last → LeavesSo {E = AllocError} rules s mid last q new r → LeavesSo {E = AllocError} rules s before last old new r
  leaves_from keeps l = record {
    stays = stays_on r l.stays;
    last = λ i. elim (l.last i) [
      | inl e ↦ elim (gained.last i) [ inl d ↦ inl (e ∙ d) | inr d ↦ inr (d.0, kept_on mid last keeps i d.1, d.2) ]
      | inr d ↦ inr (early i d.0, d.1, d.2)
    ];
    others = λ i some. elim (l.others i some) [
      | inl b ↦ elim (others_before rules s before mid f m w x old q c.gains i b) [
        | inl a ↦ inl a
        | inr d ↦ inr (elim d [ inl k ↦ inl (kept_on mid last keeps i k) | inr e ↦ inr e ])
      ]
      | inr d ↦ elim d [
        | inl k ↦ inr (inl k)
        | inr e ↦ elim e [ inl found ↦ was_found i found | inr seen ↦ inr (inr (inr (early i seen))) ]
      ]
    ];
    all = λ spare z. subst (λ i. IfOk r (λ o. IfSome o (λ a. HasWorthyFor rules (contents s) i (answer_view a) last))) c.asked
        (l.all (spare_then spare z) (c.sparing z));
    sparing = λ spare z. l.sparing (spare_then spare z) (c.sparing z);
  }
    where
      stays_on : (p : Result (Option AnswerCode) AllocError) → OnOk p (StaysSo rules s last q new) → OnOk p (StaysSo rules s last old new)
      stays_on (Err e) h = tt
      stays_on (Ok o) h = let stays = c.stays in record { turns = h.turns ∙ stays.turns; passed = h.passed ∙ stays.passed; finds = h.finds }

      was_found : (i : Instance ℕ) → IsFound q.found.entries i → IsSome (before i) ⊎ (IsKept last i ⊎ (IsFound old.found.entries i ⊎ WasSeenBy old i))
      was_found i found = elim (gained.came i (known_as_found mid q.found.entries i found)) [
        | inl k ↦ elim (either_known (kept_values before i) (found_values old.found.entries i) k) [
          | inl a ↦ inl (entered before i a)
          | inr a ↦ inr (inr (inl (value_found old.found.entries i a)))
        ]
        | inr z ↦ inr (inr (inr z))
      ]

  -- as which turn
  pub turned_by : (p : Result (Option AnswerCode) AllocError) → TurnsBy {E = AllocError} rules s mid last q new p → HasTurnedBy {E = AllocError} rules s before last old new p
  turned_by (Err e) h = record { plainly = λ none. tt; searched = λ u st. tt }
  turned_by (Ok o) h = record {
    plainly = λ none. let (same, kept) = c.plainly none in
        subst (λ es. ChainTurned (contents s) (equations rules) (kept_values es) (under_way old) (under_way new) (option_map answer_view o)) kept
        (subst (λ p. ChainTurned (contents s) (equations rules) (kept_values mid) (under_way p) (under_way new) (option_map answer_view o)) same
        (h.plainly none));
    searched = λ u st.
        let (told, stands, adds, since) = c.came u st in
        let (z, turned, later) = h.searched before (with_told u told) gained.stays stands since in
        (z, search.settles told adds turned, later);
  }

  module _ (basis : IsBasis rules s) (sound : AreSound rules s before) (st : IsStanding rules s before old) (v : Trials) where
    -- what goes on from there so
    pub goes_from : GainsBetween rules s mid last m n x y q new (KeepsGroups rules r) → LeavesSo {E = AllocError} rules s mid last q new r →
        TurnsBy {E = AllocError} rules s mid last q new r → IfOk r (FitAfter rules s last new v) → (HasNoneCircular rules → (new ≡ q) × (last ≡ mid)) →
        HasTurnedOn {E = AllocError} rules s before last w y old new v r
    goes_from gains leaves turned fit plainly = turned_along rules s before last f n w y old new r
        (gains_then rules s before mid last f m n w x y old q new c.gains gains c.asked c.levels c.ended)
        (leaves_from gains.stays leaves) plainly_on basis sound st v fit (turned_by r turned)
      where
        plainly_on : HasNoneCircular rules → (new ≡ old) × (last ≡ before)
        plainly_on none = let (same, kept) = c.plainly none in let (one, two) = plainly none in (one ∙ same, two ∙ kept)

    -- a fault
    pub spoilt_from : (fault : Fault) → HasSpoilt {E = AllocError} rules s mid last m n x y q new v fault r →
        HasTurnedOn {E = AllocError} rules s before last w y old new v r
    spoilt_from fault h = goes_from h.gains h.leaves h.turned h.fit (λ none. h.plainly (none_ended none))
      where
        none_ended : HasNoneCircular rules → q.ended.entries ≡ []
        none_ended none = let (same, kept) = c.plainly none in let p = st.plainly none in
            subst (λ (z : Question). z.ended.entries ≡ []) (sym same) p.ended
