-- What turns that follow each other come to, none of which answers the question.
use Rattle.std.proofs.Common.{◌≡◌, ◌+◌, ◌<◌, ◌≤◌, ◌^◌, ℕ, suc, Bool, true, false, not, true≢false, [], Option, Some, None, is_some, Result, Ok, Err, refl, sym, ap, ◌∙◌, subst, arith}
use Rattle.std.specs.Option.{unwrap_or}
use Rattle.std.specs.declared.alloc.AllocError.{AllocError}
use Rattle.at_model.specs.Rules.{Rules}
use Rattle.at_model.specs.Run.{Instance}
use Rattle.at_model.specs.Turning.{Silent as ChainSilent, none as chain_none, one_more as chain_more}
use Rattle.at_model.specs.of_fixpoints.Circles.{Answers}
use Rattle.at_model.specs.of_fixpoints.Searching.{Level, Search, Silent, none as search_none, one_more as search_more}
use Rattle.at_rules.specs.Circular.{HasNoneCircular}
use Rattle.at_store.specs.Shown.{Shown, contents}
use Rattle.at_cache.specs.Kept.{Entries}
use Rattle.at_cache.specs.Traced.{Memories, StayTraced}
use Rattle.at_demand.specs.declared.answer.Answer.{Answer as AnswerCode}
use Rattle.at_demand.specs.declared.question.Question.{Question}
use Rattle.at_demand.specs.declared.trials.Trials.{Trials}
use Rattle.at_demand.specs.Answerable.{IsBasis}
use Rattle.at_demand.specs.Again.{HasKeptAgain, KeepsAgain}
use Rattle.at_demand.specs.Answered.{GainsAtMost, HasTurnedOften, HasTurnedWith, HasWorthyFor, most_turns}
use Rattle.at_evaluate.specs.Inner.{Gains}
use Rattle.at_evaluate.specs.Valued.{ArePlain, equations, kept_values, meaning}
use Rattle.at_demand.specs.Known.{answer_view}
use Rattle.at_demand.specs.Levels.{StandsFor, asked_by}
use Rattle.at_evaluate.specs.Right.{AreRight, IsThere}
use Rattle.at_demand.specs.Sound.{AreSound}
use Rattle.at_evaluate.specs.Sparing.{AddsWorthy, AreSpare, Counts}
use Rattle.at_evaluate.specs.Traces.{AreJustified}
use Rattle.at_evaluate.specs.Led.{AreLed}
use Rattle.at_demand.specs.Turns.{AreTurns, AreTurnsOfChain, IsSparingTurns, IsStanding, under_way}
use Rattle.at_demand.specs.Turns as turns
use Rattle.at_evaluate.proofs.Counting.{counts_more, counts_none}
use Rattle.at_evaluate.proofs.of_nesting.InnerGains.{worthy_none, gains_up, known_none}
use Rattle.at_demand.proofs.Standing.{answers_right, asked_same, last_led, sound_after, worthy_both}
use Rattle.at_demand.proofs.of_steps.Grown.{spares_grown, stands_grown, stands_more}
use Rattle.at_demand.proofs.of_steps.KeptAgain.{again_before, gains_again}
use Rattle.at_demand.proofs.of_steps.Turning.{gains_none}
use Rattle.at_evaluate.proofs.of_traces.Justified.{stay_justified}
use Rattle.at_evaluate.proofs.of_traces.Settled.{LastKept, settled_demanded}

-- So many turns were given, and the question stands.
pub record HasGivenSo (rules : Rules) (s : Shown) (m : Memories) (first now : Entries) (w x given : ℕ) (old new : Question) : Type 0 where
  pub sound : AreSound rules s now
  pub plain : ArePlain rules now
  pub standing : IsStanding rules s now new
  pub same : asked_by new ≡ asked_by old
  pub turns : new.turns ≡ old.turns + given
  pub plainly : HasNoneCircular rules → AreTurnsOfChain rules s m given first (under_way old) now (under_way new) None
      × ChainSilent (contents s) (equations rules) given (under_way old) (under_way new)
  pub searched : (u : Search ℕ) → StandsFor rules s first old u → (v : Search ℕ) × Silent (contents s) (meaning rules) given u v
      × AreTurns rules s m given first u now v None × StandsFor rules s now new v
  pub worthy : AddsWorthy rules (contents s) (asked_by old) first now
  pub stays : IsThere s (asked_by old) → AreRight rules s first → AreRight rules s now
  pub spare : AreSpare rules (contents s) first → IsSparingTurns rules (contents s) first old
      → AreSpare rules (contents s) now × IsSparingTurns rules (contents s) now new
  pub counts : Counts first now w x

one_up : (P : ℕ → Type 0) (n : ℕ) → P (suc n) → P (n + 1)
one_up P n p = let e : suc n ≡ n + 1 = omega arith in subst P e p

-- no number of turns that is counted is greater
abbrev greatest : ℕ
greatest = 18446744073709551615

-- what is less than stands in for the limit may be given
pub below_most : (limit : Option ℕ) (given most : ℕ) → most ≡ unwrap_or limit greatest → given < most → given < most_turns limit
below_most None given most fits less = omega (arith, fits, less)
below_most (Some limit) given most fits less = omega (arith, fits, less)

-- so many turns, and the answer behind them
abbrev pub with_answer : ℕ → Option AnswerCode → ℕ × Option AnswerCode
with_answer n o = (n, o)

module _ (rules : Rules) (s : Shown) (m : Memories) (basis : IsBasis rules s) (first : Entries) (w : ℕ) (old : Question) where
  abbrev So : Entries → ℕ → ℕ → Question → Type 0
  So now x given new = HasGivenSo rules s m first now w x given old new

  pub given_none : w < 2 ^ 64 → AreSound rules s first → ArePlain rules first → IsStanding rules s first old → So first w 0 old
  given_none few sound plain st = record {
    sound = sound;
    plain = plain;
    standing = st;
    same = refl;
    turns = omega arith;
    plainly = λ none. (turns.none first (under_way old), chain_none (under_way old));
    searched = λ u x. (u, search_none u, turns.none first u, x);
    worthy = worthy_none rules (contents s) (asked_by old) first;
    stays = λ there right. right;
    spare = λ spare sparing. (spare, sparing);
    counts = counts_none first w few;
  }

  -- what was kept again for the last instance
  module _ (mid : Entries) (x given : ℕ) (q : Question) (inv : So mid x given q) (new : Entries) (y : ℕ)
      (gains : Gains rules s q.inst mid new [] [] x y) where
    up : Gains rules s (asked_by q) mid new [] [] x y
    up = gains_up rules s basis.idle (asked_by q) q.inst mid new [] [] x y
        (last_led rules s basis mid q inv.sound inv.standing) gains

    sound_again : AreSound rules s new
    sound_again = sound_after rules s basis mid q inv.sound inv.standing new gains.known.right up.worthy

    pub given_again : m.in_turns ≡ true → KeepsAgain m q.inst mid new → AreLed rules s q.inst mid new → So new y given q
    given_again told again on = record {
      sound = sound_again;
      plain = gains.known.plain;
      standing = stands_grown rules s mid new gains.worthy.stays q inv.standing;
      same = inv.same;
      turns = inv.turns;
      plainly = λ none.
          let (each, silent) = inv.plainly none in (turns.again given first mid new (under_way old) (under_way q) each told again, silent);
      searched = λ u st.
          let (v, silent, each, stands) = inv.searched u st in
          let next_is : v.last.next ≡ q.inst = ap (λ (l : Level ℕ). l.next) stands.is.last in
          let led = subst (λ (i : Instance ℕ). AreLed rules s i mid new) (sym next_is) on in
          let kept = subst (λ (i : Instance ℕ). KeepsAgain m i mid new) (sym next_is) again in
          (v, silent, turns.again given first mid new u v each told kept led gains.known.right, stands_more rules s mid new gains.worthy.stays q sound_again v stands);
      worthy = worthy_both rules (contents s) (asked_by old) first mid new inv.worthy
          (subst (λ (i : Instance ℕ). AddsWorthy rules (contents s) i mid new) inv.same up.worthy);
      stays = λ there right. up.stays (subst (λ (i : Instance ℕ). IsThere s i) (sym inv.same) there) (inv.stays there right);
      spare = λ spare sparing.
          let both = inv.spare spare sparing in (gains.spare both.0, spares_grown rules s mid new gains.worthy.stays q both.1);
      counts = counts_more first mid new w x y inv.counts gains.counts;
    }

  -- by memories that were these at the beginning, where turns keep again
  pub given_settled : (mid : Entries) (x given : ℕ) (q : Question) → So mid x given q → (l n : Memories) (new : Entries) (y : ℕ) → x < 2 ^ 64
      → StayTraced m l → AreJustified rules (contents s) m → LastKept l mid → m.in_turns ≡ true → HasKeptAgain l n mid new x y q.inst
      → So new y given q
  given_settled mid x given q inv l n new y few stay justified last told kept = given_again mid x given q inv new y
      (gains_again rules s basis.idle l n mid new x y q.inst few
      (known_none rules (contents s) mid basis.circular inv.sound.right inv.plain)
      (stay_justified rules (contents s) m l stay justified) last kept)
      told (again_before m l q.inst mid new stay (kept.count, kept.settled))
      (settled_demanded rules s basis.idle l (stay_justified rules (contents s) m l stay justified) q.inst kept.count mid new []
      kept.settled (known_none rules (contents s) mid basis.circular inv.sound.right inv.plain) last)

  -- so it is where that is asked, and where it isn't all stayed
  pub given_asked : (mid : Entries) (x given : ℕ) (q : Question) → So mid x given q → (l n : Memories) (new : Entries) (y : ℕ) → x < 2 ^ 64
      → StayTraced m l → AreJustified rules (contents s) m → LastKept l mid → (asks : Bool) → asks ≡ m.in_turns
      → (asks ≡ false → (new ≡ mid) × (y ≡ x)) → HasKeptAgain l n mid new x y q.inst → So new y given q
  given_asked mid x given q inv l n new y few stay justified last true is same kept =
      given_settled mid x given q inv l n new y few stay justified last (sym is) kept
  given_asked mid x given q inv l n new y few stay justified last false is same kept =
      let (entries, work) = same refl in
      subst (λ (e : Entries). So e y given q) (sym entries) (subst (λ (z : ℕ). So mid z given q) (sym work) inv)

  module _ (mid : Entries) (x given : ℕ) (q : Question) (inv : So mid x given q) (new : Entries) (y : ℕ) (p : Question) (t : Trials) where
    module _ (Whole : Type 0) (g : GainsAtMost rules s mid new x y q Whole) where
      sound_now : AreSound rules s new
      sound_now = sound_after rules s basis mid q inv.sound inv.standing new g.right g.worthy

      worthy_now : AddsWorthy rules (contents s) (asked_by old) first new
      worthy_now = worthy_both rules (contents s) (asked_by old) first mid new inv.worthy
          (subst (λ (i : Instance ℕ). AddsWorthy rules (contents s) i mid new) inv.same g.worthy)

      stays_now : IsThere s (asked_by old) → AreRight rules s first → AreRight rules s new
      stays_now there right = g.stays (subst (λ (i : Instance ℕ). IsThere s i) (sym inv.same) there) (inv.stays there right)

      spare_now : Whole → AreSpare rules (contents s) first → IsSparingTurns rules (contents s) first old → AreSpare rules (contents s) new
      spare_now whole spare sparing = let both = inv.spare spare sparing in g.spare whole both.0 both.1

      counts_now : Counts first new w y
      counts_now = counts_more first mid new w x y inv.counts g.counts

    -- one turn more
    pub given_more : HasTurnedWith {E = AllocError} rules s mid new x y q p t (Ok None) → So new y (given + 1) p
    given_more e = record {
      sound = sound_now (Unit {0}) e.gains;
      plain = e.gains.plain;
      standing = e.standing;
      same = asked_same rules s basis mid q inv.sound inv.standing new p e.turned ∙ inv.same;
      turns = omega (arith, inv.turns, e.counted);
      plainly = λ none.
          let (each, silent) = inv.plainly none in
          let turned = e.turned.plainly none in (
            turns.more given first mid new (under_way old) (under_way q) (under_way p) None each turned (e.gains.last.plainly none),
            one_up (λ n. ChainSilent (contents s) (equations rules) n (under_way old) (under_way p)) given
                (chain_more (kept_values mid) silent turned),
          );
      searched = λ u st.
          let (v, silent, each, stands) = inv.searched u st in
          let (z, turned, after) = e.turned.searched v stands in (
            z,
            one_up (λ n. Silent (contents s) (meaning rules) n u z) given (search_more (kept_values mid) inv.sound.right silent turned),
            turns.more given first mid new u v z None each turned (e.gains.last.searched v stands) e.gains.right,
            after refl,
          );
      worthy = worthy_now (Unit {0}) e.gains;
      stays = stays_now (Unit {0}) e.gains;
      spare = λ spare sparing. let both = inv.spare spare sparing in (e.gains.spare tt both.0 both.1, e.sparing both.0 both.1);
      counts = counts_now (Unit {0}) e.gains;
    }

    -- and the last one answers the question
    pub given_answered : (limit : Option ℕ) (a : AnswerCode) → given < most_turns limit →
        HasTurnedWith {E = AllocError} rules s mid new x y q p t (Ok (Some a)) →
        HasTurnedOften {E = AllocError} rules s m first new w y limit old p (Ok (with_answer (given + 1) (Some a)))
    given_answered limit a less e = record {
      plainly = λ none.
          let (each, silent) = inv.plainly none in
          let turned = e.turned.plainly none in
          record {
            given = (given, under_way q, kept_values mid, refl, omega (arith, less), silent, turned);
            each = turns.more given first mid new (under_way old) (under_way q) (under_way p) (Some (answer_view a)) each turned
                (e.gains.last.plainly none);
            broke = tt;
          };
      given = λ u st.
          let (v, silent, each, stands) = inv.searched u st in
          let (z, turned, after) = e.turned.searched v stands in (
            z,
            (given, v, kept_values mid, refl, omega (arith, less), silent, turned),
            turns.more given first mid new u v z (Some (answer_view a)) each turned (e.gains.last.searched v stands) e.gains.right,
            λ none. absurd (no_answer none),
          );
      ended = λ none. refl;
      broke = λ u st. tt;
      counted = tt;
      same = tt;
      all = λ spare sparing. let both = inv.spare spare sparing in
          subst (λ i. HasWorthyFor rules (contents s) i (answer_view a) new) inv.same (e.all both.0 both.1);
      answers = subst (λ i. Answers (contents s) (meaning rules) i (answer_view a)) inv.same
          (answers_right rules s basis mid q inv.sound inv.standing new p a e.turned);
      standing = e.standing;
      right = e.gains.right;
      worthy = worthy_now (Unit {0}) e.gains;
      stays = stays_now (Unit {0}) e.gains;
      plain = e.gains.plain;
      spare = λ whole. spare_now (Unit {0}) e.gains tt;
      sparing = λ spare sparing. let both = inv.spare spare sparing in e.sparing both.0 both.1;
      counts = counts_now (Unit {0}) e.gains;
    }
      where
        no_answer : Some a ≡ None → ⊥
        no_answer e = cc

    -- or breaks off
    pub given_broken : (limit : Option ℕ) (r : Result (ℕ × Option AnswerCode) AllocError) (f : AllocError) → r ≡ Err f → given < most_turns limit →
        {Whole : Type 0} → (HasNoneCircular rules → Whole) → GainsAtMost rules s mid new x y q Whole → HasTurnedOften {E = AllocError} rules s m first new w y limit old p r
    given_broken limit r f is less {Whole} keeps g = subst (λ z. HasTurnedOften {E = AllocError} rules s m first new w y limit old p z) (sym is) (record {
      plainly = λ none. record {
        given = tt;
        each = tt;
        broke = let (each, silent) = inv.plainly none in
            record { given = given; fewer = less; mid = mid; way = under_way q; turns = each; last = g.last.plainly none };
      };
      given = λ u st. tt;
      ended = λ none. tt;
      broke = λ u st. let (v, silent, each, stands) = inv.searched u st in
          record { given = given; fewer = less; mid = mid; way = v; turns = each; last = g.last.searched v stands };
      counted = tt;
      same = tt;
      all = λ spare sparing. tt;
      answers = tt;
      standing = tt;
      right = g.right;
      worthy = worthy_now Whole g;
      stays = stays_now Whole g;
      plain = g.plain;
      spare = λ none. spare_now Whole g (keeps none);
      sparing = λ spare sparing. tt;
      counts = counts_now Whole g;
    })

  -- all of them were given
  pub given_all : (now : Entries) (x given most : ℕ) (limit : Option ℕ) (b : Bool) (new : Question) → So now x given new → is_some limit ≡ not b
      → b ≡ false → most ≡ unwrap_or limit greatest → given ≡ most
      → HasTurnedOften {E = AllocError} rules s m first now w x limit old new (Ok (with_answer given None))
  given_all now x given most None b new inv is some fits full = absurd (true≢false (sym (is ∙ ap not some)))
  given_all now x given most (Some limit) b new inv is some fits full = record {
    plainly = λ none. let (each, silent) = inv.plainly none in record { given = (full ∙ fits, silent); each = each; broke = tt };
    given = λ u st. let (v, silent, each, stands) = inv.searched u st in (v, (full ∙ fits, silent), each, λ e. stands);
    ended = λ none. absurd (no_limit none);
    broke = λ u st. tt;
    counted = inv.turns;
    same = inv.same;
    all = λ spare sparing. tt;
    answers = tt;
    standing = inv.standing;
    right = inv.sound.right;
    worthy = inv.worthy;
    stays = inv.stays;
    plain = inv.plain;
    spare = λ whole spare sparing. (inv.spare spare sparing).0;
    sparing = λ spare sparing. (inv.spare spare sparing).1;
    counts = inv.counts;
  }
    where
      no_limit : Some limit ≡ None → ⊥
      no_limit e = cc

  -- without a limit, where no more of them can be counted
  pub given_out : (now : Entries) (x given most : ℕ) (limit : Option ℕ) (b : Bool) (new : Question) (t : Trials) → So now x given new
      → x < 2 ^ 64 → is_some limit ≡ not b → b ≡ true → most ≡ unwrap_or limit greatest → given ≤ most → (f : AllocError)
      → HasTurnedOften {E = AllocError} rules s m first now w x limit old new (Err f)
  given_out now x given most None b new t inv few is none fits within f =
      let less : given < 2 ^ 64 = omega (arith, fits, within) in
      given_broken now x given new inv now x new t None (Err f) f refl less {Whole = Unit {0}} (λ none. tt)
      (gains_none rules s now x few new inv.sound.right inv.plain)
  given_out now x given most (Some limit) b new t inv few is none fits within f = absurd (true≢false (is ∙ ap not none))
