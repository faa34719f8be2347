-- Where all is followed, and no search has anything to do any more, all that is worthy is kept.
use Rattle.std.proofs.Common.{◌≡◌, ◌⊎◌, ℕ, Option, Some, None, true, inl, inr, refl}
use Rattle.std.specs.Map.{keys_of}
use Rattle.at_model.specs.Meaning.{Among}
use Rattle.at_model.specs.Rules.{Rules, is_lazy}
use Rattle.at_model.specs.Run.{Value, Instance, Contents}
use Rattle.at_model.specs.of_fixpoints.Fixpoints.{HasValue}
use Rattle.at_model.specs.of_fixpoints.Resting.{Comes, Leads}
use Rattle.at_rules.specs.Circular.{AreCircularLazy}
use Rattle.at_cache.specs.Kept.{Entries}
use Rattle.at_demand.specs.declared.question.Question.{Question}
use Rattle.at_demand.specs.Covering.{AreWhole}
use Rattle.at_evaluate.specs.Valued.{IsKept, meaning}
use Rattle.at_demand.specs.Levels.{known_to}
use Rattle.at_demand.specs.Worth.{AreSettled}
use Rattle.at_evaluate.specs.Sparing.{AreSpare, HasWorthy}
use Rattle.at_demand.specs.Turns.{IsMet, IsSettledBy}
use Rattle.at_evaluate.proofs.Entered.{is_there}
use Rattle.at_demand.proofs.Gaining.{known_below}
use Rattle.at_demand.proofs.Leading.{open_led}
use Rattle.at_demand.proofs.of_levels.Followed.{met_known}

-- what has ended is settled, or has no value
module _ (rules : Rules) (look : Contents ℕ) (entries : Entries) (q : Question) (well : AreCircularLazy rules) (whole : AreWhole rules look q.found.entries)
    (settled : AreSettled rules entries q.found.entries) (spare : AreSpare rules look entries)
    (followed : (i j : Instance ℕ) → Among i (keys_of q.ended.entries) → known_to entries q i ≡ None → Comes look
    (meaning rules) i j →
    IsSettledBy entries q j)
    (none : (i : Instance ℕ) (v : Value ℕ) → Among i (keys_of q.ended.entries) → known_to entries q i ≡ None → HasValue look (meaning rules) i v → ⊥) where
  abbrev IsOpenHere : Instance ℕ → Type 0
  IsOpenHere i = Among i (keys_of q.ended.entries) × (known_to entries q i ≡ None)

  met_or_open : (i : Instance ℕ) → Among i (keys_of q.ended.entries) → IsMet entries q.found.entries i ⊎ IsOpenHere i
  met_or_open i k = by (known_to entries q i) refl
    where
      by : (o : Option (Value ℕ)) → known_to entries q i ≡ o → IsMet entries q.found.entries i ⊎ IsOpenHere i
      by None e = inr (k, e)
      by (Some v) e = inl (met_known entries q.found.entries i (is_there (known_to entries q i) v e))

  next : (i j : Instance ℕ) → IsOpenHere i → Comes look (meaning rules) i j → IsMet entries q.found.entries j ⊎ IsOpenHere j
  next i j o c = elim (followed i j o.0 o.1 c) [ inl m ↦ inl m | inr k ↦ met_or_open j k ]

  below : (i j : Instance ℕ) → IsMet entries q.found.entries i → Leads look (meaning rules) i j → is_lazy rules j.attribute ≡ true → IsKept entries j
  below i j m led lazy = known_below rules look entries q.found.entries well whole settled spare.deep i j m led lazy

  pub all_worthy : (i : Instance ℕ) → Among i (keys_of q.ended.entries) → HasWorthy rules look i entries
  all_worthy i k j w = elim (met_or_open i k) [
    | inl m ↦ below i j m w.reached w.lazy
    | inr o ↦ open_led look (meaning rules) IsOpenHere (λ m. IsMet entries q.found.entries m) (λ m. is_lazy rules m.attribute ≡ true) (λ m. IsKept entries m)
        next (λ m v p has. none m v p.0 p.1 has) below i j w.value o w.reached w.lazy w.has
  ]
