-- What has a value leads to no fault, and to nothing that wants what has no outcome; so where the search of a level stands before such a one, what
-- it has seen and has a value is told.
use Rattle.std.proofs.Common.{◌≡◌, ℕ, List, [], ◌∷◌, None, zero, suc, inl, inr, refl, sym, subst}
use Rattle.at_model.specs.Meaning.{Among, Finds}
use Rattle.at_model.specs.Run.{Value, Instance, Contents, FaultKind, Known}
use Rattle.at_model.specs.of_fixpoints.Circles.{HasNone}
use Rattle.at_model.specs.of_fixpoints.Fixpoints.{AreFormed, End, EndsAt, EndsSo, HasValue, HoldsAt, LeadsOver, Made, Spoilt, goes, stays}
use Rattle.at_model.specs.of_fixpoints.Formulas.{Formula, Forms, atoms}
use Rattle.at_model.specs.of_fixpoints.Searched.{AreStacked}
use Rattle.at_model.specs.of_fixpoints.Searching.{IsStuck, Level}
use Rattle.at_model.proofs.Reached.{back_among}
use Rattle.at_model.proofs.of_formulas.UniqueOutcomes.{ends_at}
use Rattle.at_model.proofs.of_searching.Closing.{led_beyond}
use Rattle.at_model.proofs.of_searching.Strictly.{led_over, stuck_none, wants_none}
use Rattle.at_search.specs.Recorded.{AreFacts, Recorded}
use Rattle.at_search.specs.Solved.{IsStopped}
use Rattle.at_search.specs.declared.ended.Ended.{Ended}
use Rattle.at_demand.specs.Levels.{LevelCode, seen_in, todo_in}
use Rattle.at_demand.specs.Searches.{IsStuckAt}
use Rattle.at_evaluate.proofs.Entered.{not_none}
use Rattle.at_demand.proofs.Marking.{told_among}

-- what has a value has no formulas that lead to a fault
module _ (look : Contents ℕ) (forms : Forms ℕ) (Has : Instance ℕ → End ℕ (Formula ℕ) → Type 0)
    (ends : (i : Instance ℕ) (e : End ℕ (Formula ℕ)) → Has i e → EndsSo look forms i e) where
  first_form : (n : ℕ) (i : Instance ℕ) (f : Formula ℕ) → AreFormed (EndsAt look forms n) i → EndsSo look forms i
      (Made f) → EndsAt look forms n i (Made f)
  first_form n i f all (k, z) =
      let (g, y) = all i (stays i) in
      let same : Made g ≡ Made f = ends_at look forms n k i (Made g) (Made f) y z in
      subst (λ e. EndsAt look forms n i e) same y

  formed_along : (n : ℕ) (i j : Instance ℕ) → AreFormed (EndsAt look forms n) i → LeadsOver Has i j →
      (f : Formula ℕ) × EndsAt look forms n j (Made f)
  formed_along n _ _ all (stays i) = all i (stays i)
  formed_along n _ j all (goes i m _ f x a l) =
      formed_along n m j (λ o p. all o (goes i m o f (first_form n i f all (ends i (Made f) x)) a p)) l

  pub no_value : (i j : Instance ℕ) (v : Value ℕ) (k : FaultKind) (at : Instance ℕ) → HasValue look forms i v →
      LeadsOver Has i j → Has j (Spoilt k at) → ⊥
  no_value i j v k at (n, h) l x = by n h (ends j (Spoilt k at) x)
    where
      by : (n : ℕ) → HoldsAt look forms n i (Finds v) → EndsSo look forms j (Spoilt k at) → ⊥
      by zero g e = absurd g
      by (suc n) g (m, e) =
          let (f, y) = formed_along n i j g.0 l in
          let same : Made f ≡ Spoilt k at = ends_at look forms n m j (Made f) (Spoilt k at) y e in absurd cc

-- levels over each other, where what the last one demands has no outcome: each one that waits wants that, and no root has an outcome
pub stuck_levels : (look : Contents ℕ) (forms : Forms ℕ) (root : Instance ℕ) (ls : List (Level ℕ)) →
    AreStacked look forms root ls →
    HasNone look forms root → (l : Level ℕ) → Among l ls → IsStuck look forms l.next × HasNone look forms l.root
stuck_levels look forms root [] stacked none l a = absurd a
stuck_levels look forms root (b ∷ ls) (demands, off, (come, fresh, shut), rest) none l a = elim a [
  | inl e ↦ subst (λ (z : Level ℕ). IsStuck look forms z.next × HasNone look forms z.root) (sym e)
      ((root, record { by = b.next; led = stays b.next; demands = demands }, none), lost)
  | inr d ↦ stuck_levels look forms b.root ls rest lost l d
]
  where
    lost : HasNone look forms b.root
    lost = wants_none look forms b.root root
        (record {
          by = b.next;
          led = come.led b.next (back_among b.next b.seen (b.next ∷ b.todo) (inl refl));
          demands = demands;
        }) none

module _ (look : Contents ℕ) (forms : Forms ℕ) (known : Known ℕ) (ended : List (Instance ℕ × Ended))
    (facts : AreFacts look forms ended) where
  led_so : (i j : Instance ℕ) → LeadsOver (Recorded ended) i j → LeadsOver (EndsSo look forms) i j
  led_so _ j (stays _) = stays j
  led_so _ j (goes i m _ f r a l) = goes i m j f (facts i (Made f) r) a (led_so m j l)

  module _ (root : Instance ℕ) (l : LevelCode) (n : Instance ℕ) (at : IsStuckAt look forms known ended root l n)
      (insts : List (Instance ℕ))
      (seen : (i : Instance ℕ) → Among i insts → Among i (seen_in l)) (there : (i : Instance ℕ) → Among i (seen_in l) →
      Among i insts) where
    -- where the formula of one that was seen is to do, it leads to the one before which the search stands
    pub to_next : (i j : Instance ℕ) (f : Formula ℕ) → Among i (seen_in l) → Recorded ended i (Made f) → Among j
        (atoms f) → known j ≡ None →
        (¬ (Among j insts)) → Among j (n ∷ todo_in l) → LeadsOver (EndsSo look forms) i n
    to_next i j f s r a unknown off t = elim (told_among j (n ∷ [])) [
      | inl h ↦ elim h [
        | inl e ↦ goes i n n f (facts i (Made f) r) (subst (λ z. Among z (atoms f)) e a) (stays n)
        | inr u ↦ absurd u
      ]
      | inr h ↦ led_so i n (led_beyond (Recorded ended) (seen_in l) i n (at.covered.order.leads i j f s r a t
          (λ b. off (there j b))
          (λ k. not_none (known j) k unknown) n ((λ e. h (inl (sym e))), inl refl)))
    ]

    -- what has a value isn't stopped
    pub not_stopped : (i : Instance ℕ) (v : Value ℕ) → HasValue look forms i v → IsStopped known ended insts i → ⊥
    not_stopped i v has x = elim x.why [
      | inl formless ↦ (let (e, r, g) = at.covered.ends x.by (seen x.by x.among) in by_end e r formless)
      | inr (f, j, r, a, unknown, off) ↦ elim (at.covered.order.covered x.by j f (seen x.by x.among) r a) [
        | inl k ↦ not_none (known j) k unknown
        | inr d ↦ elim d [
          | inl s ↦ off (there j s)
          | inr t ↦ stuck_none look forms i n
              (led_over look forms i x.by n (led_so i x.by x.led) (to_next x.by j f
              (seen x.by x.among) r a unknown off t)) at.stuck (Finds v) has
        ]
      ]
    ]
      where
        by_end : (e : End ℕ (Formula ℕ)) → Recorded ended x.by e → ((f : Formula ℕ) → Recorded ended x.by (Made f) →
            ⊥) → ⊥
        by_end (Made f) r formless = formless f r
        by_end (Spoilt k to) r formless = no_value look forms (Recorded ended) facts i x.by v k to has x.led r
