-- From what is under way formulas lead to the next one of a level; so it has no outcome.
use Rattle.std.proofs.Common.{◌≡◌, ◌⊎◌, ℕ, List, [], ◌∷◌, None, inl, inr, refl, sym, ap, ◌∙◌, subst}
use Rattle.std.proofs.lemmas.Option.{same_Some}
use Rattle.std.specs.Prelude.{IsSome}
use Rattle.std.specs.Map.{lookup}
use Rattle.at_model.specs.Meaning.{Among}
use Rattle.at_model.specs.Run.{Instance, Contents, Known}
use Rattle.at_model.specs.of_fixpoints.Circles.{HasNone}
use Rattle.at_model.specs.of_fixpoints.Fixpoints.{Made, EndsSo, LeadsOver, stays, goes}
use Rattle.at_model.specs.of_fixpoints.Formulas.{Formula, Forms, atoms}
use Rattle.at_model.specs.of_fixpoints.Searched.{AreStacked, IsInOrder, LeadsToNext, Within, below, here, tried_at}
use Rattle.at_model.specs.of_fixpoints.Searching.{IsStuck, Level, under}
use Rattle.at_model.proofs.Reached.{either_among}
use Rattle.at_model.proofs.of_formulas.UniqueOutcomes.{OneEnd}
use Rattle.at_model.proofs.of_searching.Closing.{led_beyond, stuck_below}
use Rattle.at_model.proofs.of_searching.InOrder.{leads_to_next}
use Rattle.at_model.proofs.of_searching.Strictly.{stuck_none}
use Rattle.at_body.specs.Same.{same_instance}
use Rattle.at_search.specs.LedTo.{RecordedOpen}
use Rattle.at_search.specs.Recorded.{AreFacts, IsSettled, Recorded, end_of}
use Rattle.at_search.specs.declared.ended.Ended.{Ended}
use Rattle.at_demand.proofs.Marking.{told_among}

-- one end is recorded of an equation
pub one_recorded : (ended : List (Instance ℕ × Ended)) → OneEnd (Recorded ended) (Recorded ended)
one_recorded ended j d e (x, at, is) (y, found, same) =
    let q : x ≡ y = same_Some x y (sym at ∙ found) in sym is ∙ ap (λ (z : Ended). end_of z.ending) q ∙ same

same_or : (i j : Instance ℕ) → (i ≡ j) ⊎ (¬ (i ≡ j))
same_or i j = elim (told_among i (j ∷ [])) [
  | inl h ↦ elim h [ inl e ↦ inl e | inr u ↦ absurd u ]
  | inr n ↦ inr (λ e. n (inl e))
]

-- what leads on openly to one that isn't settled isn't either
first_open : (Settled : Instance ℕ → Type 0) (ended : List (Instance ℕ × Ended)) (i j : Instance ℕ) → LeadsOver (RecordedOpen Settled ended) i j → (¬ (Settled j)) →
    (¬ (Settled i))
first_open Settled ended _ j (stays _) n = n
first_open Settled ended _ j (goes i m _ f (off, r) a l) n = off

-- A level's search has come so far in its order, and nothing of what it has seen is unrecorded.
abbrev pub IsOrdered : Known ℕ → List (Instance ℕ × Ended) → (seen todo : List (Instance ℕ)) → Type 0
IsOrdered known ended seen todo = IsInOrder (Recorded ended) (λ k. IsSome (known k)) seen todo
    × ((i : Instance ℕ) → Among i seen → lookup (same_instance i) ended ≡ None → ⊥)

module _ (known : Known ℕ) (ended : List (Instance ℕ × Ended)) where
  -- one of a level that leads out of what that has seen
  abbrev LeadsOn : (seen todo : List (Instance ℕ)) → Instance ℕ → Type 0
  LeadsOn seen todo i = (y : Instance ℕ) × LeadsOver (Within (Recorded ended) seen) i y × Among y todo × (¬ (Among y seen)) × (¬ (IsSome (known y)))

  one_on : (seen todo : List (Instance ℕ)) (i m : Instance ℕ) (f : Formula ℕ) → Among i seen → Recorded ended i (Made f) → Among m (atoms f) →
      LeadsOn seen todo m → LeadsOn seen todo i
  one_on seen todo i m f h r a (y, l, b, c, k) = (y, goes i m y f (h, r) a l, b, c, k)

  leads_out_of : (seen todo : List (Instance ℕ)) → IsOrdered known ended seen todo → (i to : Instance ℕ) →
      LeadsOver (RecordedOpen (IsSettled known ended) ended) i to → (¬ (IsSettled known ended to)) → lookup (same_instance to) ended ≡ None →
      Among i seen → LeadsOn seen todo i
  leads_out_of seen todo o _ to (stays _) n none h = absurd (o.1 to h none)
  leads_out_of seen todo o _ to (goes i m _ f (off, r) a l) n none h = elim (o.0.covered i m f h r a) [
    | inl k ↦ absurd (first_open (IsSettled known ended) ended m to l n (inl k))
    | inr d ↦ elim d [
      | inl b ↦ one_on seen todo i m f h r a (leads_out_of seen todo o m to l n none b)
      | inr b ↦ elim (told_among m seen) [
        | inl c ↦ one_on seen todo i m f h r a (leads_out_of seen todo o m to l n none c)
        | inr c ↦ (m, goes i m m f (h, r) a (stays m), b, c, λ k. first_open (IsSettled known ended) ended m to l n (inl k))
      ]
    ]
  ]

  -- it leads to the next one
  pub leads_next : (seen : List (Instance ℕ)) (next : Instance ℕ) (todo : List (Instance ℕ)) → IsOrdered known ended seen (next ∷ todo) →
      (i to : Instance ℕ) → LeadsOver (RecordedOpen (IsSettled known ended) ended) i to → (¬ (IsSettled known ended to)) →
      lookup (same_instance to) ended ≡ None → Among i seen → LeadsOver (Recorded ended) i next
  leads_next seen next todo o i to l n none h =
      let (y, w, b, c, k) = leads_out_of seen (next ∷ todo) o i to l n none h in
      led_beyond (Recorded ended) seen i next
      (leads_to_next (Recorded ended) (one_recorded ended) (λ j. IsSome (known j)) seen next todo o.0 i y (same_or next y) w h b c k)

  module _ (look : Contents ℕ) (forms : Forms ℕ) (facts : AreFacts look forms ended) where
    pub led_so : (i j : Instance ℕ) → LeadsOver (Recorded ended) i j → LeadsOver (EndsSo look forms) i j
    led_so _ j (stays _) = stays j
    led_so _ j (goes i m _ f h a l) = goes i m j f (facts i (Made f) h) a (led_so m j l)

    -- what was seen by a level that waits, and leads out, leads to the next one of a level
    pub under_way : (ls : List (Level ℕ)) → ((l : Level ℕ) → Among l ls → IsOrdered known ended l.seen (l.next ∷ l.todo)) → (i to : Instance ℕ) →
        LeadsOver (RecordedOpen (IsSettled known ended) ended) i to → (¬ (IsSettled known ended to)) → lookup (same_instance to) ended ≡ None →
        Among i (under ls) → LeadsToNext look forms ls i
    under_way [] all i to l n none h = absurd h
    under_way (d ∷ ds) all i to l n none (inl e) = here (subst (λ z. LeadsOver (EndsSo look forms) z d.next) (sym e) (stays d.next))
    under_way (d ∷ ds) all i to l n none (inr h) = elim (either_among i d.seen (under ds) h) [
      | inl a ↦ here (led_so i d.next (leads_next d.seen d.next d.todo (all d (inl refl)) i to l n none a))
      | inr b ↦ below (under_way ds (λ k m. all k (inr m)) i to l n none b)
    ]

module _ (look : Contents ℕ) (forms : Forms ℕ) where
  -- so does one that is tried at a level
  pub tried_next : (ls : List (Level ℕ)) (i : Instance ℕ) → Among i (tried_at ls) → LeadsToNext look forms ls i
  tried_next [] i h = absurd h
  tried_next (d ∷ ds) i (inl e) = here (subst (λ z. LeadsOver (EndsSo look forms) z d.next) (sym e) (stays d.next))
  tried_next (d ∷ ds) i (inr h) = below (tried_next ds i h)

  -- to which the root of the level above leads: it is stuck, and has no outcome
  pub comes_back : (root : Instance ℕ) (ls : List (Level ℕ)) (i : Instance ℕ) → AreStacked look forms root ls → LeadsOver (EndsSo look forms) root i →
      LeadsToNext look forms ls i → IsStuck look forms i × HasNone look forms i
  comes_back root ls i s l n = let k = stuck_below look forms root ls i s l n in (k, stuck_none look forms i i (stays i) k)
