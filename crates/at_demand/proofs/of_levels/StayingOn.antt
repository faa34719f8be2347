-- What a search leaves as it is, step by step.
use Rattle.std.proofs.Common.{◌≡◌, ℕ, refl, sym, ap, ◌∙◌, subst}
use Rattle.at_model.specs.Run.{Instance}
use Rattle.at_search.specs.declared.ended.Ending.{Ending}
use Rattle.at_demand.specs.declared.question.Question.{Question}
use Rattle.at_demand.specs.ChainSteps.{HasEnded, HasLostFault, HasLostSeen, IsRisen, IsUnchanged, KeepsChain}
use Rattle.at_demand.specs.Levels.{root_in}
use Rattle.at_demand.specs.Searches.{StaysOn}
use Rattle.at_demand.specs.Turns.{HaveMet}
use Rattle.at_demand.proofs.of_searches.Returning.{with_level}
use Rattle.at_demand.proofs.of_steps.Met.{met_pop}

pub stays_at : (old new : Question) → new.turns ≡ old.turns → new.passed.entries ≡ old.passed.entries → new.waiting.entries ≡ old.waiting.entries →
    root_in new.level new.inst ≡ root_in old.level old.inst → StaysOn old new
stays_at old new turns passed waiting root = record {
  turns = turns;
  passed = passed;
  met = λ rules look entries found h.
      subst (λ ws. HaveMet rules look entries found ws (root_in new.level new.inst)) (sym waiting)
      (subst (λ n. HaveMet rules look entries found old.waiting.entries n) (sym root) h);
}

pub stays_same : (q : Question) → StaysOn q q
stays_same q = stays_at q q refl refl refl refl

pub stays_then : (p q r : Question) → StaysOn p q → StaysOn q r → StaysOn p r
stays_then p q r a b = record {
  turns = b.turns ∙ a.turns;
  passed = b.passed ∙ a.passed;
  met = λ rules look entries found h. b.met rules look entries found (a.met rules look entries found h);
}

module _ (old new : Question) where
  pub stays_told : KeepsChain old new → new.level ≡ old.level → new.turns ≡ old.turns → new.passed.entries ≡ old.passed.entries → StaysOn old new
  stays_told chain level turns passed = stays_at old new turns passed chain.waiting
      (ap (λ d. root_in d new.inst) level ∙ ap (λ i. root_in old.level i) chain.inst)

  pub stays_unchanged : IsUnchanged old new → StaysOn old new
  stays_unchanged same = stays_told same.chain same.level same.finds.turns same.finds.passed

  pub stays_lost : HasLostSeen old new → StaysOn old new
  stays_lost h = stays_at old new h.finds.turns h.finds.passed h.chain.waiting h.root

  pub stays_taken : HasLostFault old new → StaysOn old new
  stays_taken h = stays_at old new h.finds.turns h.finds.passed h.chain.waiting h.root

  pub stays_ended : (e : Ending) → HasEnded old e new → StaysOn old new
  stays_ended e h = stays_at old new h.turns h.passed h.chain.waiting h.root

  -- one level is off
  pub stays_risen : (i : Instance ℕ) → IsRisen old new i → StaysOn old new
  stays_risen i r = record {
    turns = r.finds.turns;
    passed = r.finds.passed;
    met = λ rules look entries found h. met_pop rules look entries found new.waiting.entries (with_level new.level new.inst) (root_in old.level old.inst)
        (subst (λ ws. HaveMet rules look entries found ws (root_in old.level old.inst)) r.waits h);
  }
