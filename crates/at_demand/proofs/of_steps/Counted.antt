-- A turn that doesn't answer the question is counted.
use Rattle.std.proofs.Common.{◌≡◌, ◌+◌, ◌≤◌, ℕ, suc, List, [], Option, Some, None, Result, Ok, Err, refl, sym, subst, arith}
use Rattle.std.specs.declared.alloc.AllocError.{AllocError}
use Rattle.at_model.specs.Meaning.{Among}
use Rattle.at_model.specs.Rules.{Rules}
use Rattle.at_model.specs.Run.{Value, Instance}
use Rattle.at_model.specs.Turning.{IsOn as ChainIsOn, asked, turns_of}
use Rattle.at_model.specs.of_fixpoints.Searching.{Search, Turned, most_turns}
use Rattle.at_model.proofs.of_machines.Bounded.{one_turn as one_of_chain}
use Rattle.at_rules.specs.Circular.{HasNoneCircular}
use Rattle.at_store.specs.Shown.{Shown, contents}
use Rattle.at_cache.specs.Kept.{Entries}
use Rattle.at_demand.specs.declared.answer.Answer.{Answer as AnswerCode}
use Rattle.at_demand.specs.declared.question.Question.{Question}
use Rattle.at_demand.specs.declared.trials.Trials.{Trials}
use Rattle.at_demand.specs.declared.trying.Trying.{Trying}
use Rattle.at_demand.specs.Answerable.{IsBasis}
use Rattle.at_demand.specs.Answered.{GainsAtMost, HasTurnedOn, HasTurnedWith, HasWorthyFor}
use Rattle.at_demand.specs.Covering.{AreWhole}
use Rattle.at_demand.specs.KeptTrials.{Fit, FitAt}
use Rattle.at_demand.specs.Known.{FoundKept, answer_view}
use Rattle.at_evaluate.specs.Valued.{equations, kept_values, meaning}
use Rattle.at_demand.specs.Levels.{LevelCode, StandsFor, asked_by}
use Rattle.at_demand.specs.Sound.{AreSound}
use Rattle.at_evaluate.specs.Sparing.{AreSpare}
use Rattle.at_demand.specs.Turns.{HasTurnedBy, IsSparingTurns, IsStanding, passed_of, under_way}
use Rattle.at_demand.proofs.Standing.{asked_typed}
use Rattle.at_demand.proofs.of_levels.Wholes.{one_turn}
use Rattle.at_demand.proofs.of_steps.Turning.{gains_weaker}

-- it is a chain of demands, where no attribute is circular
pub record IsChain (rules : Rules) (s : Shown) (q : Question) : Type 0 where
  pub ended : q.ended.entries ≡ []
  pub level : q.level ≡ None
  pub levels : (i : Instance ℕ) (l : LevelCode) → Among (i, l) q.waiting.entries → l ≡ None
  pub on : ChainIsOn (contents s) (equations rules) (asked (under_way q)) (under_way q)

-- it stands but for what its search and its turns are
pub record StandsSo (rules : Rules) (s : Shown) (entries : Entries) (q : Question) : Type 0 where
  pub plainly : HasNoneCircular rules → IsChain rules s q
  pub kept : FoundKept entries q.found.entries
  pub passed : (i : Instance ℕ) (v : Value ℕ) → Among (i, v) (passed_of q.passed.entries) → kept_values entries i ≡ Some v
  pub whole : AreWhole rules (contents s) q.found.entries

-- whatever number of turns it tells
pub recount : (rules : Rules) (s : Shown) (entries : Entries) (q : Question) (u : Search ℕ) (n : ℕ) → StandsFor rules s entries q u → n ≤ most_turns u →
    StandsFor rules s entries (record q { turns = n }) u
recount rules s entries q u n st few = record {
  is = record {
    last = st.is.last;
    below = st.is.below;
    ended = st.is.ended;
    recorded = st.is.recorded;
    told = st.is.told;
    known = st.is.known;
    spent = st.is.spent;
  };
  on = st.on;
  fresh = st.fresh;
  facts = record { ends = st.facts.ends; forms = st.facts.forms; circular = st.facts.circular; values = st.facts.values; wholes = st.facts.wholes };
  levels = record { last = st.levels.last; below = st.levels.below };
  whole = record {
    placed = st.whole.placed;
    marked = st.whole.marked;
    spoilt = st.whole.spoilt;
    asked = st.whole.asked;
  };
  typed = st.typed;
  reached = st.reached;
  few = few;
}

fit_recount : (rules : Rules) (s : Shown) (entries : Entries) (q : Question) (n : ℕ) (frames : List Trying) (o : Option (Instance ℕ)) →
    FitAt rules s entries q frames o → FitAt rules s entries (record q { turns = n }) frames o
fit_recount rules s entries q n frames None h = h
fit_recount rules s entries q n frames (Some j) h = h

module _ (rules : Rules) (s : Shown) (basis : IsBasis rules s) (before after : Entries) (w x : ℕ) (old new : Question) (t : Trials) where
  -- memory is wanting
  pub broken_on : (r : Result (Option AnswerCode) AllocError) (e : AllocError) → r ≡ Err e → {Whole : Type 0} → (HasNoneCircular rules → Whole) →
      GainsAtMost rules s before after w x old Whole → HasTurnedOn {E = AllocError} rules s before after w x old new t r
  broken_on r e is keeps gains = subst (λ z. HasTurnedOn {E = AllocError} rules s before after w x old new t z) (sym is)
      (record { counted = tt; answered = tt; gains = gains_weaker rules s before after w x old keeps gains })

  -- it is answered
  pub answered_so : (gains : GainsAtMost rules s before after w x old (Unit {0})) (a : AnswerCode) → HasTurnedBy {E = AllocError} rules s before after old new (Ok (Some a)) →
      (HasNoneCircular rules → IsStanding rules s after new) →
      (AreSpare rules (contents s) before → IsSparingTurns rules (contents s) before old →
      HasWorthyFor rules (contents s) (asked_by old) (answer_view a) after) →
      (AreSpare rules (contents s) before → IsSparingTurns rules (contents s) before old →
      HasNoneCircular rules → IsSparingTurns rules (contents s) after new) →
      HasTurnedOn {E = AllocError} rules s before after w x old new t (Ok (Some a))
  answered_so gains a turned standing all sparing = record {
    counted = tt;
    answered = record { turned = turned; counted = tt; standing = standing; fit = tt; all = all; sparing = sparing; gains = gains };
    gains = gains;
  }

  -- it isn't, and counts one turn more
  module _ (gains : GainsAtMost rules s before after w x old (Unit {0})) (sound : AreSound rules s before) (st : IsStanding rules s before old) (turns : new.turns ≡ old.turns)
      (turned : HasTurnedBy {E = AllocError} rules s before after old new (Ok None)) (stands : StandsSo rules s after new)
      (fit : Fit rules s after new t)
      (sparing : AreSpare rules (contents s) before → IsSparingTurns rules (contents s) before old →
      IsSparingTurns rules (contents s) after new) where
    few : (n : ℕ) → n ≡ new.turns + 1 → (u v : Search ℕ) → StandsFor rules s before old u →
        Turned (contents s) (meaning rules) (kept_values before) u v None → n ≤ most_turns v
    few n e u v y z =
        let one = one_turn rules s basis.idle basis.formed basis.sound (asked_by old) (asked_typed rules s basis before old sound st)
        (kept_values before) sound.right u v y.on y.fresh z in
        let most = y.few in
        omega (arith, e, turns, one, most)

    chain_turns : HasNoneCircular rules → (n : ℕ) → n ≡ new.turns + 1 → n ≡ turns_of (under_way new)
    chain_turns none n e =
        let was = st.plainly none in
        let had = was.turns in
        let one = one_of_chain (contents s) (equations rules) (kept_values before) (under_way old) (under_way new) (turned.plainly none) in
        let grows : turns_of (under_way new) ≡ suc (turns_of (under_way old)) = one in
        omega (arith, e, turns, had, grows)

    at : (n : ℕ) → n ≡ new.turns + 1 →
        HasTurnedWith {E = AllocError} rules s before after w x old (record new { turns = n }) t (Ok None)
    at n e = record {
      turned = record {
        plainly = turned.plainly;
        searched = λ u y. let (v, z, later) = turned.searched u y in (v, z, λ o. recount rules s after new v n (later o) (few n e u v y z));
      };
      counted = omega (arith, e, turns);
      standing = record {
        levels = λ also. let (u, y) = st.levels sound in
            let (v, z, later) = turned.searched u y in (v, recount rules s after new v n (later refl) (few n e u v y z));
        plainly = λ none. let p = stands.plainly none in
            record { ended = p.ended; level = p.level; levels = p.levels; on = p.on; turns = chain_turns none n e };
        kept = stands.kept;
        passed = stands.passed;
        whole = stands.whole;
      };
      fit = record { chain = fit_recount rules s after new n t.frames.items t.awaited fit.chain; noted = fit.noted };
      all = λ spare had. tt;
      sparing = λ spare had. let y = sparing spare had in
          let f = y.followed in
          record {
            lean = y.lean;
            settled = y.settled;
            met = y.met;
            followed = record { demanded = f.demanded; looked = f.looked };
          };
      gains = gains;
    }

    pub counted_so : HasTurnedOn {E = AllocError} rules s before after w x old new t (Ok None)
    counted_so = record {
      counted = λ q is. subst (λ z. HasTurnedWith {E = AllocError} rules s before after w x old z t (Ok None)) (sym is.1) (at q.turns is.0);
      answered = tt;
      gains = gains;
    }
