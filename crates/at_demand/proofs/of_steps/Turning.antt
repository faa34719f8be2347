-- What a turn comes to where nothing has changed, and where memory is wanting.
use Rattle.std.proofs.Common.{◌≡◌, ◌<◌, ◌^◌, ℕ, Option, Some, None, Result, Ok, Err, inl, refl, sym, ap, ◌∙◌, subst}
use Rattle.std.specs.declared.alloc.AllocError.{AllocError}
use Rattle.at_model.specs.Meaning.{Finds}
use Rattle.at_model.specs.Rules.{Rules}
use Rattle.at_model.specs.Turning as chain
use Rattle.at_model.specs.Turning.{asked}
use Rattle.at_model.specs.of_fixpoints.Searching as search
use Rattle.at_rules.specs.Circular.{HasNoneCircular}
use Rattle.at_store.specs.Shown.{Shown, contents}
use Rattle.at_body.specs.Values.{value_view}
use Rattle.at_body.specs.declared.value.Value.{Value as ValueCode}
use Rattle.at_cache.specs.Kept.{Entries}
use Rattle.at_demand.specs.declared.answer.Answer.{Answer as AnswerCode}
use Rattle.at_demand.specs.declared.answer.Answer.TheVariants as answer
use Rattle.at_demand.specs.declared.question.Question.{Question}
use Rattle.at_demand.specs.declared.trials.Trials.{Trials}
use Rattle.at_demand.specs.Answered.{GainsAtMost, HasTurnedOn, HasTurnedWith, IsCounted}
use Rattle.at_evaluate.specs.Valued.{ArePlain, kept_values, meaning}
use Rattle.at_demand.specs.Levels.{asked_by}
use Rattle.at_evaluate.specs.Meant.{AreRightValues}
use Rattle.at_demand.specs.Turns.{IsStanding, under_way}
use Rattle.at_evaluate.proofs.Counting.{counts_none}
use Rattle.at_evaluate.proofs.Entered.{is_there}
use Rattle.at_demand.proofs.Gaining.{asked_kept}
use Rattle.at_evaluate.proofs.of_nesting.InnerGains.{worthy_none}
use Rattle.at_demand.proofs.Standing.{plain_asked, plain_holds}

-- under another condition
pub gains_weaker : {V W : Type 0} (rules : Rules) (s : Shown) (before after : Entries) (w x : ℕ) (q : Question) → (W → V) →
    GainsAtMost rules s before after w x q V → GainsAtMost rules s before after w x q W
gains_weaker rules s before after w x q on g = record {
  right = g.right;
  stays = g.stays;
  plain = g.plain;
  last = g.last;
  worthy = g.worthy;
  spare = λ whole. g.spare (on whole);
  counts = g.counts;
}

module _ (rules : Rules) (s : Shown) where
  pub gains_none : {Whole : Type 0} → (entries : Entries) (w : ℕ) → w < 2 ^ 64 → (q : Question) → AreRightValues (contents s) (meaning rules) (kept_values entries) →
      ArePlain rules entries → GainsAtMost rules s entries entries w w q Whole
  gains_none entries w few q right plain = record {
    right = right;
    stays = λ there all. all;
    plain = plain;
    last = record {
      plainly = λ none. record { last = λ j. inl refl; others = λ j some. inl some };
      searched = λ u st. record { last = λ j. inl refl; others = λ j some. inl some };
    };
    worthy = worthy_none rules (contents s) (asked_by q) entries;
    spare = λ whole spare sparing. spare;
    counts = counts_none entries w few;
  }

  module _ (before after : Entries) (w x : ℕ) (q p : Question) (t : Trials) where
    -- memory is wanting
    pub broken_off : (r : Result (Option AnswerCode) AllocError) (e : AllocError) → r ≡ Err e →
        {Whole : Type 0} → (HasNoneCircular rules → Whole) → GainsAtMost rules s before after w x q Whole →
        HasTurnedWith {E = AllocError} rules s before after w x q p t r
    broken_off r e is keeps gains = subst (λ z. HasTurnedWith {E = AllocError} rules s before after w x q p t z) (sym is) (record {
      turned = record { plainly = λ none. tt; searched = λ u st. tt };
      counted = tt;
      standing = tt;
      fit = tt;
      all = λ spare sparing. tt;
      sparing = λ spare sparing. tt;
      gains = gains_weaker rules s before after w x q keeps gains;
    })

    -- it is answered, and stays as it is
    pub answered_on : (o : Option AnswerCode) (a : AnswerCode) → o ≡ Some a → HasTurnedOn {E = AllocError} rules s before after w x q p t (Ok o) →
        HasTurnedWith {E = AllocError} rules s before after w x q p t (Ok (Some a))
    answered_on o a is on =
        let h : HasTurnedOn {E = AllocError} rules s before after w x q p t (Ok (Some a)) =
        subst (λ z. HasTurnedOn {E = AllocError} rules s before after w x q p t (Ok z)) is on in h.answered

    -- or it isn't, and is counted
    pub counted_on : (o : Option AnswerCode) (n : Question) → o ≡ None → IsCounted p n →
        HasTurnedOn {E = AllocError} rules s before after w x q p t (Ok o) →
        HasTurnedWith {E = AllocError} rules s before after w x q n t (Ok None)
    counted_on o n none is on =
        let h : HasTurnedOn {E = AllocError} rules s before after w x q p t (Ok None) =
        subst (λ z. HasTurnedOn {E = AllocError} rules s before after w x q p t (Ok z)) none on in h.counted n is

  -- what was asked is kept
  pub kept_off : (entries : Entries) (w : ℕ) → w < 2 ^ 64 → (q : Question) (t : Trials) (v : ValueCode) →
      AreRightValues (contents s) (meaning rules) (kept_values entries) → ArePlain rules entries → IsStanding rules s entries q →
      kept_values entries (asked_by q) ≡ Some (value_view v) →
      HasTurnedWith {E = AllocError} rules s entries entries w w q q t (Ok (Some (answer.Value v)))
  kept_off entries w few q t v right plain st kept = record {
    turned = record {
      plainly = λ none.
          let same = plain_asked rules s q (st.plainly none) in
          chain.is_kept (value_view v) (ap (λ i. kept_values entries i) same ∙ kept)
          (plain_holds rules none (contents s) (asked (under_way q)) (Finds (value_view v))
          (right (asked (under_way q)) (value_view v) (ap (λ i. kept_values entries i) same ∙ kept)));
      searched = λ u x.
          let same = x.on.starts in
          let here = ap (λ i. kept_values entries i) same ∙ kept in (
            u,
            search.is_kept (value_view v) here (right (search.asked u) (value_view v) here),
            λ e. absurd (no_answer (answer.Value v) e),
          );
    };
    counted = tt;
    standing = λ none. st;
    fit = tt;
    all = λ spare sparing. asked_kept rules (contents s) (asked_by q) entries (is_there (kept_values entries (asked_by q)) (value_view v) kept) spare.deep;
    sparing = λ spare sparing none. sparing;
    gains = gains_none entries w few q right plain;
  }
    where
      no_answer : (a : AnswerCode) → Some a ≡ None → ⊥
      no_answer a e = cc
