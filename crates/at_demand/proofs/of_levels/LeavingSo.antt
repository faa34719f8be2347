-- What a search leaves, beside what it is for the model.
use Rattle.std.proofs.Common.{ℕ, Option, Some, None}
use Rattle.std.specs.Prelude.{IfNone, IfOk, IfSome, OnOk, Result, Ok, Err}
use Rattle.std.specs.declared.alloc.AllocError.{AllocError}
use Rattle.at_model.specs.Rules.{Rules}
use Rattle.at_rules.specs.Circular.{HasNoneCircular}
use Rattle.at_store.specs.Shown.{Shown, contents}
use Rattle.at_cache.specs.Kept.{Entries}
use Rattle.at_cache.specs.Traced.{Memories}
use Rattle.at_demand.specs.declared.answer.Answer.{Answer}
use Rattle.at_demand.specs.declared.question.Question.{Question}
use Rattle.at_demand.specs.Answered.{HasWorthyFor, IsOfUse}
use Rattle.at_demand.specs.Groups.{KeepsGroups}
use Rattle.at_demand.specs.Known.{answer_view}
use Rattle.at_demand.specs.Levels.{asked_by, root_in}
use Rattle.at_demand.specs.Searches.{AreSoundFinds, GainsBetween, LeavesSo, StaysOn, StaysSo}
use Rattle.at_evaluate.specs.Sparing.{AreSpare}
use Rattle.at_demand.specs.Turns.{IsFollowed, IsSparingTurns}
use Rattle.at_demand.proofs.of_levels.CameBetween.{others_before}
use Rattle.at_demand.proofs.of_steps.Met.{have_more, met_more}

-- all that is worthy is kept for the answer
abbrev pub HasAll : Rules → Shown → (before after : Entries) → Question → Result (Option Answer) AllocError → Type 0
HasAll rules s before after old r = AreSpare rules (contents s) before → IsSparingTurns rules (contents s) before old
    → IfOk r (λ o. IfSome o (λ a. HasWorthyFor rules (contents s) (asked_by old) (answer_view a) after))

module _ (rules : Rules) (s : Shown) (before after : Entries) (former latter : Memories) (earlier later : ℕ) (old new : Question)
    (r : Result (Option Answer) AllocError) (g : GainsBetween rules s before after former latter earlier later old new (KeepsGroups rules r)) where
  -- and it spares still
  pub spares_on : StaysOn old new → IsFollowed rules (contents s) after new → IsSparingTurns rules (contents s) before old → IsSparingTurns rules (contents s) after new
  spares_on h f x = record {
    lean = g.lean x.lean;
    settled = g.settled x.settled;
    met = have_more rules (contents s) before after old.found.entries new.found.entries
        (met_more before after g.stays old.found.entries new.found.entries g.finds) new.waiting.entries (root_in new.level new.inst)
        (h.met rules (contents s) before old.found.entries x.met);
    followed = f;
  }

  -- where it isn't answered, all is followed
  abbrev pub IsFollowedSo : Result (Option Answer) AllocError → Type 0
  IsFollowedSo q = IfOk q (λ o. IfNone o (IsSparingTurns rules (contents s) before old → IsFollowed rules (contents s) after new))

  pub leaves_with : (HasNoneCircular rules → ⊥) → OnOk r (StaysOn old new) → IsFollowedSo r → AreSoundFinds rules s before old → HasAll rules s before after old r →
      LeavesSo {E = AllocError} rules s before after old new r
  leaves_with off on followed sound all = record {
    stays = stays_so r on;
    last = g.last;
    others = others_before rules s before after former latter earlier later old new g;
    all = all;
    sparing = λ spare x. spares_so r on followed x;
  }
    where
      stays_so : (q : Result (Option Answer) AllocError) → OnOk q (StaysOn old new) → OnOk q (StaysSo rules s after old new)
      stays_so (Err e) h = tt
      stays_so (Ok o) h = record { turns = h.turns; passed = h.passed; finds = g.sound sound }

      spares_so : (q : Result (Option Answer) AllocError) → OnOk q (StaysOn old new) → IsFollowedSo q → IsSparingTurns rules (contents s) before old →
          IfOk q (λ o. IsOfUse rules o (IsSparingTurns rules (contents s) after new))
      spares_so (Err e) h f x = tt
      spares_so (Ok None) h f x = spares_on h (f x) x
      spares_so (Ok (Some a)) h f x = λ none. absurd (off none)
