-- What comes to what is kept while a question is given turns, and its last instance is evaluated in one go before some of them.
use Rattle.std.proofs.Common.{◌≡◌, ℕ, List, [], ◌∷◌, true, true≢false, Option, Some, None, Result, Ok, Err, refl, sym, ap, ◌∙◌, subst}
use Rattle.std.specs.Map.{keys_of}
use Rattle.std.specs.declared.alloc.AllocError.{AllocError}
use Rattle.at_model.specs.Rules.{Rules}
use Rattle.at_model.specs.Run.{Instance}
use Rattle.at_model.specs.Turning.{UnderWay, posted}
use Rattle.at_model.specs.of_fixpoints.Circles.{Answers}
use Rattle.at_model.specs.of_fixpoints.Resting.{Leads}
use Rattle.at_model.specs.of_fixpoints.Searching.{Level, posted as search_posted}
use Rattle.at_rules.specs.Circular.{HasNoneCircular}
use Rattle.at_store.specs.Shown.{Shown, contents}
use Rattle.at_cache.specs.Kept.{Entries}
use Rattle.at_demand.specs.declared.answer.Answer.{Answer as AnswerCode}
use Rattle.at_demand.specs.declared.question.Question.{Question}
use Rattle.at_demand.specs.declared.trials.Trials.{Trials}
use Rattle.at_demand.specs.Answerable.{CanBegin}
use Rattle.at_demand.specs.Answered.{AddsMet, GainsAtMost, HasTurnedWith, HasWorthyFor, IsAnswered}
use Rattle.at_evaluate.specs.Inner.{Gains}
use Rattle.at_evaluate.specs.InParts.{HasGrown, Held, held}
use Rattle.at_demand.specs.Known.{answer_view}
use Rattle.at_evaluate.specs.Valued.{meaning}
use Rattle.at_demand.specs.Levels.{IsSearch, LevelCode, asked_by}
use Rattle.at_evaluate.specs.Right.{AreRight, IsThere}
use Rattle.at_demand.specs.Sound.{AreSound}
use Rattle.at_evaluate.specs.Sparing.{AddsWorthy, AreSpare, Counts}
use Rattle.at_evaluate.specs.Traces.{StayJustified}
use Rattle.at_demand.specs.Turns.{IsSparingTurns, IsStanding, under_way}
use Rattle.at_demand.specs.State.{State}
use Rattle.at_demand.specs.Went.{IsTurned, Went, turned as turned_then}
use Rattle.at_evaluate.proofs.Counting.{counts_more}
use Rattle.at_demand.proofs.Standing.{answers_right, asked_same, last_led, sound_after, worthy_both}
use Rattle.at_demand.proofs.of_searches.Reaching.{asked_at}
use Rattle.at_demand.proofs.InnerAnswered.{answered_by}
use Rattle.at_evaluate.proofs.of_nesting.InnerGains.{gains_then, gains_up, known_none}
use Rattle.at_demand.proofs.of_steps.Grown.{spares_grown, stands_grown}
use Rattle.at_demand.proofs.of_steps.Reasoned.{StandsReasoned, ahead_all, reasoned_met, turned_all, turned_on}
use Rattle.at_evaluate.proofs.of_traces.Putting.{traced_on, traced_then, traced_up}
use Rattle.at_demand.proofs.of_traces.TurnsPut.{puts_stay, went_made, went_then}

abbrev pub held_in : State → Held
held_in a = held a.entries a.memories [] a.work a.made

-- From `first` on turns were given of the question for i, none of which answered it, and what came was worthy of i.
pub record StandsAhead (rules : Rules) (s : Shown) (i : Instance ℕ) (first now : State) (q : Question) : Type 0 where
  pub same : asked_by q ≡ i
  pub sound : AreSound rules s now.entries
  pub standing : IsStanding rules s now.entries q
  pub gains : Gains rules s i first.entries now.entries [] [] first.work now.work
  pub sparing : AreSpare rules (contents s) first.entries → IsSparingTurns rules (contents s) now.entries q
  pub reasoned : StandsReasoned rules s i first.entries now.entries q
  pub traces : StayJustified rules s i first.memories now.memories
  pub went : Went first [] now

module _ (rules : Rules) (s : Shown) (i : Instance ℕ) (can : CanBegin rules s i) (first : State) where
  -- so it is answered
  abbrev Answered : State → Result AnswerCode AllocError → Type 0
  Answered now r = IsAnswered {E = AllocError} rules s first now i r true

  module _ (old : State) (q : Question) (so : StandsAhead rules s i first old q) where
    -- where no turn more can be given
    pub so_ended : (e : AllocError) → Answered old (Err e)
    so_ended e = record {
      answered = answered_by rules s i (Err e) first.entries old.entries first.work old.work so.gains tt (λ spare. tt)
          (λ spare. reasoned_met rules s i first.entries old.entries spare so.gains.worthy (λ c circle. (so.reasoned.reasoned c circle).kept));
      traces = so.traces;
      makes = λ plain. absurd (true≢false plain);
      went = so.went;
    }

    -- up to `mid` its last instance was evaluated in one go
    module _ (mid : State) (ahead : HasGrown rules s q.inst (held_in old) (held_in mid)) where
      led_ahead : Leads (contents s) (meaning rules) i q.inst
      led_ahead = subst (λ j. Leads (contents s) (meaning rules) j q.inst) so.same (last_led rules s can.basis old.entries q so.sound so.standing)

      gains_between : Gains rules s i old.entries mid.entries [] [] old.work mid.work
      gains_between = gains_up rules s can.basis.idle i q.inst old.entries mid.entries [] [] old.work mid.work led_ahead ahead.gains

      gains_ahead : Gains rules s i first.entries mid.entries [] [] first.work mid.work
      gains_ahead = gains_then rules s i first.entries old.entries mid.entries [] [] [] first.work old.work mid.work so.gains gains_between

      pub sound_ahead : AreSound rules s mid.entries
      sound_ahead = sound_after rules s can.basis old.entries q so.sound so.standing mid.entries ahead.gains.known.right
          (subst (λ j. AddsWorthy rules (contents s) j old.entries mid.entries) (sym so.same) gains_between.worthy)

      pub stands_ahead : IsStanding rules s mid.entries q
      stands_ahead = stands_grown rules s old.entries mid.entries ahead.gains.worthy.stays q so.standing

      spares_ahead : AreSpare rules (contents s) first.entries → IsSparingTurns rules (contents s) mid.entries q
      spares_ahead spare = spares_grown rules s old.entries mid.entries ahead.gains.worthy.stays q (so.sparing spare)

      traced_ahead : StayJustified rules s i first.memories mid.memories
      traced_ahead = traced_then rules s i first.memories old.memories mid.memories so.traces
          (traced_up rules s can.basis.idle i q.inst old.memories mid.memories led_ahead ahead.traces)

      went_ahead : Went first [] mid
      went_ahead = went_then first old mid so.went (went_made old mid (record { makes = ahead.makes; counts = ahead.gains.counts }))

      -- memory was wanting in that
      pub broken_ahead : (r : Result AnswerCode AllocError) (e : AllocError) → r ≡ Err e → Answered mid r
      broken_ahead r e is = subst (λ a. Answered mid a) (sym is) (record {
        answered = answered_by rules s i (Err e) first.entries mid.entries first.work mid.work gains_ahead tt (λ spare. tt)
            (λ spare. reasoned_met rules s i first.entries mid.entries spare gains_ahead.worthy (ahead_all rules s i can first.entries old.entries
            mid.entries q so.reasoned ahead.gains.worthy.stays ahead.demanded sound_ahead));
        traces = traced_ahead;
        makes = λ plain. absurd (true≢false plain);
        went = went_ahead;
      })

      -- then the question was given a turn
      module _ (new : State) where
        module _ {Whole : Type 0} (turned : GainsAtMost rules s mid.entries new.entries mid.work new.work q Whole) where
          sound_turned : AreSound rules s new.entries
          sound_turned = sound_after rules s can.basis mid.entries q sound_ahead stands_ahead new.entries turned.right turned.worthy

          worthy_turned : AddsWorthy rules (contents s) i first.entries new.entries
          worthy_turned = worthy_both rules (contents s) i first.entries mid.entries new.entries gains_ahead.worthy
              (subst (λ j. AddsWorthy rules (contents s) j mid.entries new.entries) so.same turned.worthy)

          right_turned : IsThere s i → AreRight rules s first.entries → AreRight rules s new.entries
          right_turned there right = turned.stays (subst (IsThere s) (sym so.same) there) (gains_ahead.stays there right)

          counts_turned : Counts first.entries new.entries first.work new.work
          counts_turned = counts_more first.entries mid.entries new.entries first.work mid.work new.work gains_ahead.counts turned.counts

          met_turned : AreSpare rules (contents s) first.entries → AddsMet rules (contents s) i first.entries new.entries
          met_turned spare = reasoned_met rules s i first.entries new.entries spare worthy_turned (turned_all rules s i can first.entries
              old.entries mid.entries q so.reasoned ahead.gains.worthy.stays ahead.demanded sound_ahead new.entries turned.right turned.last)

        gains_turned : GainsAtMost rules s mid.entries new.entries mid.work new.work q (Unit {0})
            → Gains rules s i first.entries new.entries [] [] first.work new.work
        gains_turned turned = record {
          worthy = worthy_turned turned;
          known = known_none rules (contents s) new.entries can.basis.circular turned.right turned.plain;
          still = λ j v is. is;
          stays = right_turned turned;
          spare = λ spare. turned.spare tt (gains_ahead.spare spare) (spares_ahead spare);
          counts = counts_turned turned;
        }

        module _ (step : IsTurned mid new) where
          traced_turned : StayJustified rules s i first.memories new.memories
          traced_turned = traced_then rules s i first.memories mid.memories new.memories traced_ahead
              (traced_on rules s i mid.memories new.memories (puts_stay mid.memories new.memories step.puts) traced_ahead.justified)

          went_turned : Went first [] new
          went_turned = turned_then mid new [] went_ahead step

          abbrev Turned : Question → Trials → Option AnswerCode → Type 0
          Turned p t o = HasTurnedWith {E = AllocError} rules s mid.entries new.entries mid.work new.work q p t (Ok o)

          -- that doesn't answer it
          pub so_turned : (p : Question) (t : Trials) → Turned p t None → StandsAhead rules s i first new p
          so_turned p t e = record {
            same = asked_same rules s can.basis mid.entries q sound_ahead stands_ahead new.entries p e.turned ∙ so.same;
            sound = sound_turned e.gains;
            standing = e.standing;
            gains = gains_turned e.gains;
            sparing = λ spare. e.sparing (gains_ahead.spare spare) (spares_ahead spare);
            reasoned = turned_on rules s i can first.entries old.entries mid.entries q so.reasoned ahead.gains.worthy.stays ahead.demanded
                sound_ahead new.entries e.gains.right e.gains.last p e.turned;
            traces = traced_turned;
            went = went_turned;
          }

          -- or it does
          pub so_answered : (p : Question) (t : Trials) (a : AnswerCode) → Turned p t (Some a) → Answered new (Ok a)
          so_answered p t a e = record {
            answered = answered_by rules s i (Ok a) first.entries new.entries first.work new.work (gains_turned e.gains)
                (subst (λ j. Answers (contents s) (meaning rules) j (answer_view a)) so.same
                (answers_right rules s can.basis mid.entries q sound_ahead stands_ahead new.entries p a e.turned))
                (λ spare. subst (λ j. HasWorthyFor rules (contents s) j (answer_view a) new.entries) so.same
                (e.all (gains_ahead.spare spare) (spares_ahead spare)))
                (met_turned e.gains);
            traces = traced_turned;
            makes = λ plain. absurd (true≢false plain);
            went = went_turned;
          }

          -- or memory was wanting
          pub so_broken : (r : Result AnswerCode AllocError) (e : AllocError) → r ≡ Err e → {Whole : Type 0} → (HasNoneCircular rules → Whole)
              → GainsAtMost rules s mid.entries new.entries mid.work new.work q Whole → Answered new r
          so_broken r e is keeps turned = subst (λ a. Answered new a) (sym is) (record {
            answered = record {
              answers = tt;
              worthy = worthy_turned turned;
              met = met_turned turned;
              spare = λ none spare. turned.spare (keeps none) (gains_ahead.spare spare) (spares_ahead spare);
              all = λ spare. tt;
              counts = counts_turned turned;
              work = λ spare. tt;
              right = right_turned turned;
              plain = turned.plain;
            };
            traces = traced_turned;
            makes = λ plain. absurd (true≢false plain);
            went = went_turned;
          })

no_keys : (ws : List (Instance ℕ × LevelCode)) → keys_of ws ≡ [] → ws ≡ []
no_keys [] e = refl
no_keys (w ∷ ws) e = absurd (no_list w.0 (keys_of ws) e)
  where
    no_list : (i : Instance ℕ) (is : List (Instance ℕ)) → i ∷ is ≡ [] → ⊥
    no_list i is e = cc

-- what was asked of a question that was posted
pub posted_asked : (entries : Entries) (q : Question) (i : Instance ℕ) → under_way q ≡ posted i → IsSearch entries q (search_posted i) → asked_by q ≡ i
posted_asked entries q i chain search =
    ap (λ ws. asked_at ws q.level q.inst) (no_keys q.waiting.entries (ap (λ (u : UnderWay ℕ). u.waiting) chain))
    ∙ sym (ap (λ (l : Level ℕ). l.root) search.last)
