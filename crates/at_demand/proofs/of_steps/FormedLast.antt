-- The equation of the last one has given its formula: the search goes along behind it.
use Rattle.std.proofs.Common.{◌≡◌, ◌<◌, ◌^◌, ℕ, None, Result, Err, inl, inr, refl, sym, subst}
use Rattle.std.specs.declared.alloc.AllocError.{AllocError}
use Rattle.std.specs.Prelude.{Option}
use Rattle.at_model.specs.Meaning.{Among, Reaches}
use Rattle.at_model.specs.Rules.{Rules, start_of}
use Rattle.at_model.specs.Run.{Instance}
use Rattle.at_model.specs.of_fixpoints.Fixpoints.{HasValue}
use Rattle.at_rules.specs.Circular.{HasNoneCircular}
use Rattle.at_store.specs.Shown.{Shown, contents}
use Rattle.at_cache.specs.Kept.{Entries}
use Rattle.at_cache.specs.Traced.{Memories}
use Rattle.at_search.specs.declared.ended.Ending.TheVariants as ending
use Rattle.at_search.specs.declared.ended.Formed.{Formed}
use Rattle.at_demand.specs.declared.answer.Answer.{Answer}
use Rattle.at_demand.specs.declared.question.Question.{Question}
use Rattle.at_demand.specs.declared.trials.Trials.{Trials}
use Rattle.at_demand.specs.ChainSteps.{HasEnded}
use Rattle.at_evaluate.specs.Valued.{meaning}
use Rattle.at_demand.specs.LastTried.{CanForm, HasFormed}
use Rattle.at_demand.specs.Levels.{IsFormOf, IsUsed, seen_in}
use Rattle.at_demand.specs.Searches.{CanGoAlong, HasGoneAlong}
use Rattle.at_demand.specs.Turns.{IsMet, IsSettledBy}
use Rattle.at_evaluate.proofs.Entered.{entered, not_none}
use Rattle.at_demand.proofs.of_levels.Behind.{IsFormHere}
use Rattle.at_demand.proofs.of_levels.EndedLast.{can_along_behind, gains_behind, leaves_behind, turns_behind}
use Rattle.at_demand.proofs.of_levels.GainedBetween.{gains_nothing}
use Rattle.at_demand.proofs.of_levels.SpoiltLast.{unseen_inst}
use Rattle.at_demand.proofs.of_steps.TriedOn.{sound_at}

module _ (rules : Rules) (s : Shown) (entries : Entries) (m : Memories) (w : ℕ) (q : Question) (t : Trials) (f : Formed)
    (can : CanForm rules s entries q t f) (none : t.awaited ≡ None) (small : w < 2 ^ 64) where
  pub unseen_last : Among q.inst (seen_in q.level) → ⊥
  unseen_last = let turns = can.turns in let turn = turns.turns in
      unseen_inst rules s entries q (sound_at rules s entries q turn) turn.standing

  pub off : HasNoneCircular rules → ⊥
  off plain = not_none (start_of rules q.inst.attribute) can.circular (plain q.inst.attribute)

  -- memory is wanting before it does
  pub form_failed : (new : Question) → new.found.entries ≡ q.found.entries → (u : Trials) (r : Result (Option Answer) AllocError) (e : AllocError) → r ≡ Err e →
      HasFormed {E = AllocError} rules s entries entries m m w w q new u r
  form_failed new same u r e is = subst (λ z. HasFormed {E = AllocError} rules s entries entries m m w w q new u z) (sym is) (record {
    gains = gains_nothing rules s entries m w q new (let turns = can.turns in let turn = turns.turns in turn.answerable) small same;
    turned = record { plainly = λ none. tt; searched = λ first v stay st k. tt };
    fit = tt;
    leaves = record {
      stays = tt;
      last = λ i. inl refl;
      others = λ i h. inl h;
      all = λ spare x. tt;
      sparing = λ spare x. tt;
    };
  })

  module _ (mid : Question) (h : HasEnded q (ending.Formed f) mid) where
    form : (d : Formed) → ending.Formed f ≡ ending.Formed d → IsFormHere rules (contents s) entries q d
    form d e = let same : f ≡ d = cc in (subst (λ z. IsFormOf rules (contents s) entries q.found.entries q.inst z) same can.is, can.circular)

    used_met : (j : Instance ℕ) → IsUsed q.found.entries f j → IsMet entries q.found.entries j
    used_met j (inl a) = let is = can.is in let (k, l) = is.kept j a in inl (entered entries j k)
    used_met j (inr (p, d, a, at)) = inr (p, d, at)

    demands : (j : Instance ℕ) → Reaches (contents s) (HasValue (contents s) (meaning rules))
        ((meaning rules).formula q.inst) j → IsSettledBy entries q j
    demands j reaches = let is = can.is in inl (used_met j (is.demands j reaches))

    pub form_along : CanGoAlong rules s entries mid t
    form_along = can_along_behind rules s entries m w q t can.turns none small off mid
        (ending.Formed f) h can.ends form demands

    pub has_formed : (after : Entries) (n : Memories) (x : ℕ) (new : Question) (u : Trials) (r : Result (Option Answer) AllocError) →
        HasGoneAlong {E = AllocError} rules s entries after m n w x mid new u r → HasFormed {E = AllocError} rules s entries after m n w x q new u r
    has_formed after n x new u r g = record {
      gains = gains_behind rules s entries m w q t can.turns none small off mid
          (ending.Formed f) h can.ends form demands after n x new u r g;
      turned = turns_behind rules s entries m w q t can.turns none small off mid
          (ending.Formed f) h can.ends form demands after n x new u r g;
      fit = g.fit;
      leaves = leaves_behind rules s entries m w q t can.turns none small off mid
          (ending.Formed f) h can.ends form demands after n x new u r g;
    }
