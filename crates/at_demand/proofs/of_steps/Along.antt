-- A turn that goes along in a search.
use Rattle.std.proofs.Common.{◌≡◌, ◌⊎◌, ℕ, List, ◌∷◌, Option, Some, None, Result, Ok, Err, inl, inr, refl, sym, ap, ◌∙◌, subst}
use Rattle.std.specs.Prelude.{IfOk, IfSome, IsSome, OnOk}
use Rattle.std.specs.Map.{lookup}
use Rattle.std.specs.Option.{option_map}
use Rattle.std.specs.declared.alloc.AllocError.{AllocError}
use Rattle.at_model.specs.Meaning.{Among, Finds, Outcome}
use Rattle.at_model.specs.Rules.{Rules}
use Rattle.at_model.specs.Run.{Value, Instance}
use Rattle.at_model.specs.of_fixpoints.Searching.{Level, Search, Turned, past, under}
use Rattle.at_model.specs.of_fixpoints.Searching as search
use Rattle.at_rules.specs.Circular.{HasNoneCircular}
use Rattle.at_store.specs.Shown.{Shown, contents}
use Rattle.at_body.specs.Same.{same_instance}
use Rattle.at_body.specs.Values.{value_view}
use Rattle.at_cache.specs.Kept.{Entries}
use Rattle.at_cache.specs.Traced.{Memories}
use Rattle.at_demand.specs.declared.answer.Answer.{Answer as AnswerCode}
use Rattle.at_demand.specs.declared.evaluation.Find.{Find}
use Rattle.at_demand.specs.declared.question.Question.{Question}
use Rattle.at_demand.specs.declared.trials.Trials.{Trials}
use Rattle.at_demand.specs.Answerable.{IsAnswerable, IsBasis}
use Rattle.at_demand.specs.Answered.{GainsAtMost, HasTurnedOn, HasWorthyFor, IsOfUse}
use Rattle.at_demand.specs.Groups.{KeepsGroups}
use Rattle.at_demand.specs.Known.{IsFound, answer_view}
use Rattle.at_evaluate.specs.Valued.{IsKept, kept_values, meaning}
use Rattle.at_demand.specs.Levels.{StandsFor, asked_by, known_to, level_of}
use Rattle.at_demand.specs.KeptTrials.{FitAfter}
use Rattle.at_demand.specs.Searches.{FollowsTo, GainsBetween, HasGoneAlong, LeavesSo, StandsBetween, StaysSo, WasSeenBy}
use Rattle.at_demand.specs.Sound.{AreSound}
use Rattle.at_demand.specs.Turns.{GainsInChain, HasTurnedBy, IsSparingTurns, IsStanding, MayComeIn, passed_of, under_way}
use Rattle.at_evaluate.proofs.Entered.{entered, is_there, value_on}
use Rattle.at_demand.proofs.Recalling.{known_found, known_kept}
use Rattle.at_demand.proofs.Keys.{found_once}
use Rattle.at_demand.proofs.of_steps.Counted.{IsChain, StandsSo, answered_so, broken_on, counted_so}
use Rattle.at_demand.proofs.of_steps.KeptIn.{stands_past}
use Rattle.at_demand.proofs.of_levels.Resolving.{keeps_groups}
use Rattle.at_demand.proofs.of_steps.Turning.{gains_weaker}

abbrev with_value : Value ℕ → Instance ℕ → Instance ℕ × Value ℕ
with_value v i = (i, v)

abbrev with_outcome : Outcome ℕ → Instance ℕ → Instance ℕ × Outcome ℕ
with_outcome o i = (i, o)

no_answer : (a : AnswerCode) → Some a ≡ None → ⊥
no_answer a e = cc

module _ (rules : Rules) (s : Shown) (before after : Entries) (former latter : Memories) (earlier later : ℕ) (old new : Question)
    (r : Result (Option AnswerCode) AllocError) (g : GainsBetween rules s before after former latter earlier later old new (KeepsGroups rules r))
    (l : LeavesSo {E = AllocError} rules s before after old new r)
    (plainly : HasNoneCircular rules → (new ≡ old) × (after ≡ before)) where
  may : (u : Search ℕ) → StandsFor rules s before old u → (i : Instance ℕ) → WasSeenBy old i → MayComeIn u i
  may u x i (inl a) = inl (subst (λ (d : Level ℕ). Among i (under (d ∷ u.below))) (sym x.is.last)
      (subst (λ (ls : List (Level ℕ)). Among i (under (level_of old.inst old.level ∷ ls))) (sym x.is.below) a))
  may u x i (inr k) = inr (x.is.recorded i k)

  found_known : (i : Instance ℕ) → IsFound old.found.entries i → (v : Value ℕ) × (known_to before old i ≡ Some v)
  found_known i f = let (d, at) = found_once old.found.entries i f in by d at (kept_values before i) refl
    where
      by : (d : Find) → lookup (same_instance i) old.found.entries ≡ Some d → (o : Option (Value ℕ)) → kept_values before i ≡ o →
          (v : Value ℕ) × (known_to before old i ≡ Some v)
      by d at None e = (value_view d.value, known_found before old.found.entries i (value_view d.value) d (sym e) (sym at) refl)
      by d at (Some v) e = (v, known_kept before old.found.entries i v v (sym e) refl)

  -- where no attribute is circular nothing came
  in_chain : HasNoneCircular rules → GainsInChain rules before after (under_way old)
  in_chain none = let (same, kept) = plainly none in record {
    last = λ j. inl (ap (λ es. kept_values es j) kept);
    others = λ j some. inl (subst (λ es. IsSome (es j)) kept some);
  }

  -- what came, as turns of a search let it come
  pub gains_along : GainsAtMost rules s before after earlier later old (KeepsGroups rules r)
  gains_along = record {
    right = g.right;
    stays = g.there;
    plain = g.plain;
    last = record {
      plainly = in_chain;
      searched = λ u x. record {
        last = λ i. elim (l.last i) [ inl e ↦ inl e | inr d ↦ inr (may u x i d.0, d.1, d.2) ];
        others = λ i some. elim (l.others i some) [
          | inl b ↦ inl b
          | inr d ↦ elim d [
            | inl k ↦ inr (inl k)
            | inr f ↦ elim f [ inl y ↦ was_found u x i (found_known i y) | inr b ↦ inr (inr (inr (may u x i b))) ]
          ]
        ];
      };
    };
    worthy = g.worthy;
    spare = λ whole spare x. g.spare whole spare x.lean x.settled;
    counts = g.counts;
  }
    where
      was_found : (u : Search ℕ) → StandsFor rules s before old u → (i : Instance ℕ) → ((v : Value ℕ) × (known_to before old i ≡ Some v)) →
          IsSome (before i) ⊎ (IsKept after i ⊎ (((o : Outcome ℕ) × Among (with_outcome o i) u.told) ⊎ MayComeIn u i))
      was_found u x i (v, e) = elim (x.is.known i v e) [
        | inl k ↦ inl (entered before i (is_there (kept_values before i) v k))
        | inr a ↦ inr (inr (inl (Finds v, a)))
      ]

  module _ (basis : IsBasis rules s) (sound : AreSound rules s before) (st : IsStanding rules s before old) (t : Trials)
      (fit : IfOk r (FitAfter rules s after new t)) (turned : HasTurnedBy {E = AllocError} rules s before after old new r) where
    chain_still : HasNoneCircular rules → IsChain rules s new
    chain_still none = let (same, kept) = plainly none in let p = st.plainly none in
        subst (λ q. IsChain rules s q) (sym same) (record { ended = p.ended; level = p.level; levels = p.levels; on = p.on })

    stands_still : HasNoneCircular rules → IsStanding rules s after new
    stands_still none = let (same, kept) = plainly none in
        subst (λ q. IsStanding rules s after q) (sym same) (subst (λ es. IsStanding rules s es old) (sym kept) st)

    spares_still : IsSparingTurns rules (contents s) before old → HasNoneCircular rules → IsSparingTurns rules (contents s) after new
    spares_still x none = let (same, kept) = plainly none in
        subst (λ q. IsSparingTurns rules (contents s) after q) (sym same) (subst (λ es. IsSparingTurns rules (contents s) es old) (sym kept) x)

    so : StaysSo rules s after old new → StandsSo rules s after new
    so k = record {
      plainly = chain_still;
      kept = k.finds.took;
      passed = λ i v a. value_on before after g.stays i v (st.passed i v (subst (λ ps. Among (with_value v i) (passed_of ps)) k.passed a));
      whole = k.finds.whole;
    }

    stays_at : (q : Result (Option AnswerCode) AllocError) → r ≡ q → OnOk q (StaysSo rules s after old new)
    stays_at q is = subst (λ z. OnOk z (StaysSo rules s after old new)) is l.stays

    when_ok : (q : Result (Option AnswerCode) AllocError) → r ≡ q → KeepsGroups rules q →
        GainsAtMost rules s before after earlier later old (Unit {0})
    when_ok q is whole = gains_weaker rules s before after earlier later old
        (λ u. subst (λ z. KeepsGroups rules z) (sym is) whole) gains_along

    -- so a turn was given, whatever it comes to
    pub turned_along : HasTurnedOn {E = AllocError} rules s before after earlier later old new t r
    turned_along = by r refl
      where
        kept_so : r ≡ Ok None → StaysSo rules s after old new
        kept_so is = stays_at (Ok None) is

        by : (q : Result (Option AnswerCode) AllocError) → r ≡ q → HasTurnedOn {E = AllocError} rules s before after earlier later old new t r
        by (Err e) is = broken_on rules s basis before after earlier later old new t r e is (keeps_groups rules r) gains_along
        by (Ok None) is = subst (λ z. HasTurnedOn {E = AllocError} rules s before after earlier later old new t z) (sym is)
            (counted_so rules s basis before after earlier later old new t (when_ok (Ok None) is tt) sound st (kept_so is).turns
            (subst (λ z. HasTurnedBy {E = AllocError} rules s before after old new z) is turned) (so (kept_so is))
            (subst (λ z. IfOk z (FitAfter rules s after new t)) is fit)
            (λ spare x. subst (λ z. IfOk z (λ o. IsOfUse rules o (IsSparingTurns rules (contents s) after new))) is (l.sparing spare x)))
        by (Ok (Some a)) is = subst (λ z. HasTurnedOn {E = AllocError} rules s before after earlier later old new t z) (sym is)
            (answered_so rules s basis before after earlier later old new t (when_ok (Ok (Some a)) is tt) a
            (subst (λ z. HasTurnedBy {E = AllocError} rules s before after old new z) is turned) stands_still
            (λ spare x. subst (λ z. IfOk z (λ o. IfSome o (λ b. HasWorthyFor rules (contents s) (asked_by old) (answer_view b) after))) is
            (l.all spare x)) (λ spare x none. spares_still x none))

-- behind one that came to be kept
module _ (rules : Rules) (s : Shown) (before after : Entries) (former latter : Memories) (earlier later : ℕ) (old new : Question)
    (answerable : IsAnswerable rules s before) (st : IsStanding rules s before old) (v : Value ℕ) (kept : kept_values before old.inst ≡ Some v)
    (in_search : old.level ≡ None → ⊥) (t : Trials) where
  along_one : (u : Search ℕ) → StandsFor rules s before old u → (o : Option AnswerCode) →
      FollowsTo rules s before after (past u) new (option_map answer_view o) →
      (w : Search ℕ) × Turned (contents s) (meaning rules) (kept_values before) u w (option_map answer_view o) × (o ≡ None → StandsFor rules s after new w)
  along_one u x None (w, stands, y) = (w, search.passed v (kept_next u x) y, λ e. stands)
    where
      kept_next : (u : Search ℕ) → StandsFor rules s before old u → kept_values before u.last.next ≡ Some v
      kept_next u x = ap (λ (d : Level ℕ). kept_values before d.next) x.is.last ∙ kept
  along_one u x (Some a) (w, y) = (w, search.passed v (kept_next u x) y, λ e. absurd (no_answer a e))
    where
      kept_next : (u : Search ℕ) → StandsFor rules s before old u → kept_values before u.last.next ≡ Some v
      kept_next u x = ap (λ (d : Level ℕ). kept_values before d.next) x.is.last ∙ kept

  along_all : (r : Result (Option AnswerCode) AllocError) (u : Search ℕ) → StandsFor rules s before old u →
      IfOk r (λ o. FollowsTo rules s before after (past u) new (option_map answer_view o)) →
      IfOk r (λ o. (w : Search ℕ) × Turned (contents s) (meaning rules) (kept_values before) u w (option_map answer_view o)
      × (o ≡ None → StandsFor rules s after new w))
  along_all (Err e) u x h = tt
  along_all (Ok o) u x h = along_one u x o h

  abbrev FollowsPast : Result (Option AnswerCode) AllocError → Search ℕ → Type 0
  FollowsPast r u = IfOk r (λ o. FollowsTo rules s before after (past u) new (option_map answer_view o))

  past_first : (r : Result (Option AnswerCode) AllocError) → HasGoneAlong {E = AllocError} rules s before after former latter earlier later old new t r →
      (u : Search ℕ) → StandsFor rules s before old u → FollowsPast r u
  past_first r a u x =
      let y : StandsBetween rules s before old (past u) = stands_past rules s before old answerable st v kept in_search u x in
      a.follows before (past u) (λ i some. refl) y y.is.known

  pub goes_past : AreSound rules s before → (r : Result (Option AnswerCode) AllocError) →
      HasGoneAlong {E = AllocError} rules s before after former latter earlier later old new t r → (HasNoneCircular rules → ⊥) →
      HasTurnedOn {E = AllocError} rules s before after earlier later old new t r
  goes_past sound r a off =
      turned_along rules s before after former latter earlier later old new r a.gains a.leaves (λ none. absurd (off none)) answerable.basis sound st t a.fit
      (record {
        plainly = λ none. absurd (off none);
        searched = λ u x. along_all r u x (past_first r a u x);
      })
