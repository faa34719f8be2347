-- What is seen by a search that stops at what is settled, step by step.
use Rattle.std.proofs.Common.{◌≡◌, ◌⊎◌, ℕ, List, [], ◌∷◌, ◌++◌, None, inl, inr, refl, sym, subst}
use Rattle.std.specs.Map.{lookup}
use Rattle.at_model.specs.Run.{Instance}
use Rattle.at_model.specs.Meaning.{Among}
use Rattle.at_model.specs.of_fixpoints.Formulas.{Formula}
use Rattle.at_model.specs.of_fixpoints.Fixpoints.{End, Made, Spoilt, LeadsOver, stays, goes}
use Rattle.at_model.specs.of_fixpoints.Searching.{asked_in}
use Rattle.at_model.specs.of_fixpoints.Searched.{EndsWell}
use Rattle.at_model.proofs.Reached.{front_among, back_among, either_among}
use Rattle.at_model.proofs.of_formulas.UniqueOutcomes.{one_further}
use Rattle.at_body.specs.Same.{same_instance}
use Rattle.at_search.specs.declared.ended.Ended.{Ended}
use Rattle.at_search.specs.Recorded.{Recorded}
use Rattle.at_search.specs.LedTo.{IsSearching, IsMet, LeadsOut, RecordedOpen}

module _ (Settled : Instance ℕ → Type 0) (Good : End ℕ (Formula ℕ) → Type 0) (ended : List (Instance ℕ × Ended)) (i : Instance ℕ) where
  abbrev Coming : (seen todo : List (Instance ℕ)) → Type 0
  Coming seen todo = IsSearching Settled Good ended i seen todo

  abbrev Met : (seen todo : List (Instance ℕ)) → Instance ℕ → Type 0
  Met seen todo = IsMet Settled seen todo

  -- as it begins
  pub begins : Coming [] (i ∷ [])
  begins = record {
    first = inr (inr (inl refl));
    closed = λ j h. absurd h;
    led = λ j h. elim h [
      | inl a ↦ absurd a
      | inr b ↦ elim b [ inl e ↦ subst (λ z. LeadsOver (RecordedOpen Settled ended) i z) (sym e) (stays i) | inr u ↦ absurd u ]
    ];
    unsettled = λ j h. absurd h;
  }

  -- the next one was seen, or is settled
  pub passes : (seen todo : List (Instance ℕ)) (k : Instance ℕ) → Coming seen (k ∷ todo) → Among k seen ⊎ Settled k →
      Coming seen todo
  passes seen todo k g p = record {
    first = met i g.first;
    closed = λ j h. let x = g.closed j h in record { end = x.end; ends = x.ends; good = x.good; next = λ m a. met m (x.next m a) };
    led = λ j h. elim h [ inl a ↦ g.led j (inl a) | inr b ↦ g.led j (inr (inr b)) ];
    unsettled = g.unsettled;
  }
    where
      met : (m : Instance ℕ) → Met seen (k ∷ todo) m → Met seen todo m
      met m (inl a) = inl a
      met m (inr (inl s)) = inr (inl s)
      met m (inr (inr (inl e))) = elim p [
        | inl a ↦ inl (subst (λ z. Among z seen) (sym e) a)
        | inr s ↦ inr (inl (subst (λ z. Settled z) (sym e) s))
      ]
      met m (inr (inr (inr r))) = inr (inr r)

  -- the next one is seen
  pub sees : (seen todo : List (Instance ℕ)) (k : Instance ℕ) (e : End ℕ (Formula ℕ)) → Coming seen (k ∷ todo) →
      (¬ (Settled k)) → Recorded ended k e → Good e → Coming (k ∷ seen) (asked_in e ++ todo)
  sees seen todo k e g unsettled x good = record {
    first = met i g.first;
    closed = λ j h. elim h [
      | inl q ↦ subst (λ z. EndsWell (Recorded ended) Good (Met (k ∷ seen) (asked_in e ++ todo)) z) (sym q)
          (record { end = e; ends = x; good = good; next = λ m a. inr (inr (front_among m (asked_in e) todo a)) })
      | inr b ↦ let y = g.closed j b in record { end = y.end; ends = y.ends; good = y.good; next = λ m a. met m (y.next m a) }
    ];
    led = λ j h. elim h [
      | inl a ↦ elim a [
        | inl q ↦ subst (λ z. LeadsOver (RecordedOpen Settled ended) i z) (sym q) to_next
        | inr b ↦ g.led j (inl b)
      ]
      | inr b ↦ elim (either_among j (asked_in e) todo b) [ inl a ↦ led_on e x j a | inr r ↦ g.led j (inr (inr r)) ]
    ];
    unsettled = λ j h. elim h [
      | inl q ↦ subst (λ z. ¬ (Settled z)) (sym q) unsettled
      | inr b ↦ g.unsettled j b
    ];
  }
    where
      met : (m : Instance ℕ) → Met seen (k ∷ todo) m → Met (k ∷ seen) (asked_in e ++ todo) m
      met m (inl a) = inl (inr a)
      met m (inr (inl s)) = inr (inl s)
      met m (inr (inr (inl q))) = inl (inl q)
      met m (inr (inr (inr r))) = inr (inr (back_among m (asked_in e) todo r))

      to_next : LeadsOver (RecordedOpen Settled ended) i k
      to_next = g.led k (inr (inl refl))

      led_on : (d : End ℕ (Formula ℕ)) → Recorded ended k d → (j : Instance ℕ) → Among j (asked_in d) → LeadsOver (RecordedOpen Settled ended) i j
      led_on (Made f) y j a = one_further (RecordedOpen Settled ended) i k j f (unsettled, y) a to_next
      led_on (Spoilt kind at) y j a = absurd a

  -- as it begins, where the lists are so
  pub begins_at : (seen todo : List (Instance ℕ)) → seen ≡ [] → todo ≡ i ∷ [] → Coming seen todo
  begins_at seen todo es et = subst (λ z. Coming z todo) (sym es) (subst (λ z. Coming [] z) (sym et) begins)

  -- the next one is taken off
  pub steps_to : (seen seen' todo rest : List (Instance ℕ)) (k : Instance ℕ) → seen' ≡ seen → todo ≡ k ∷ rest → Coming seen todo →
      Coming seen' (k ∷ rest)
  steps_to seen seen' todo rest k es et g = subst (λ z. Coming z (k ∷ rest)) (sym es) (subst (λ z. Coming seen z) et g)

  -- the next one is seen, and the lists are what they come to
  pub sees_to : (seen todo seen' todo' : List (Instance ℕ)) (k : Instance ℕ) (e : End ℕ (Formula ℕ)) → Coming seen (k ∷ todo) →
      (¬ (Settled k)) → Recorded ended k e → Good e → seen' ≡ k ∷ seen → todo' ≡ asked_in e ++ todo → Coming seen' todo'
  sees_to seen todo seen' todo' k e g unsettled x good es et =
      subst (λ z. Coming z todo') (sym es) (subst (λ z. Coming (k ∷ seen) z) (sym et) (sees seen todo k e g unsettled x good))

  -- nothing is recorded of the next one
  pub leads_out : (seen todo : List (Instance ℕ)) (k : Instance ℕ) → Coming seen (k ∷ todo) → (¬ (Settled k)) →
      lookup (same_instance k) ended ≡ None → LeadsOut Settled ended i
  leads_out seen todo k g unsettled unrecorded =
      record { to = k; led = g.led k (inr (inl refl)); unsettled = unsettled; unrecorded = unrecorded }

-- what leads over none that is settled leads
pub led_openly : (Settled : Instance ℕ → Type 0) (ended : List (Instance ℕ × Ended)) (i j : Instance ℕ) →
    LeadsOver (RecordedOpen Settled ended) i j → LeadsOver (Recorded ended) i j
led_openly Settled ended _ j (stays _) = stays j
led_openly Settled ended _ j (goes i m _ f (n, r) a l) = goes i m j f r a (led_openly Settled ended m j l)
