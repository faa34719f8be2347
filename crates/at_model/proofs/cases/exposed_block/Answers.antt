use Rattle.std.proofs.Common.{◌≡◌, ℕ, zero, suc, true, codes, Some, None, refl, subst}
use Rattle.std.specs.Prelude.{option_and_then}
use Rattle.std.specs.List.{slice_get}
use Rattle.at_model.specs.Classes.{chain, class_in, fits, parts}
use Rattle.at_model.specs.Rules.{PassesDown, Exposed, as_root, below, inherited_equation}
use Rattle.at_model.specs.Samples.{calc, calc_classes}
use Rattle.at_model.proofs.cases.exposed_block.Goals as goal

pub returns-clause-without : goal.returns-clause-without
unfolding chain
returns-clause-without c = below 0 2 (as_root 0 refl) (record { part = 0; class = 2; trees = refl; fit = refl; without = refl })

-- only a program fits the start class
start : (c : ℕ) → fits calc_classes c 0 ≡ true → c ≡ 0
unfolding chain
start zero e = refl
start (suc zero) e = absurd (cc)
start (suc (suc zero)) e = absurd (cc)
start (suc (suc (suc zero))) e = absurd (cc)
start (suc (suc (suc (suc zero)))) e = absurd (cc)
start (suc (suc (suc (suc (suc zero))))) e = absurd (cc)
start (suc (suc (suc (suc (suc (suc zero)))))) e = absurd (cc)
start (suc (suc (suc (suc (suc (suc (suc zero))))))) e = absurd (cc)
start (suc (suc (suc (suc (suc (suc (suc (suc zero)))))))) e = absurd (cc)
start (suc (suc (suc (suc (suc (suc (suc (suc (suc c))))))))) e = absurd (cc)

-- and it has an equation for its only component
program_passes : (d : ℕ) → PassesDown calc (codes "lookup") 0 d → ⊥
unfolding chain
program_passes d passes = by passes.part passes.trees passes.without
  where
    by : (part : ℕ) → option_and_then (λ p. class_in p.shape) (slice_get (parts calc_classes 0) part) ≡ Some passes.class → inherited_equation calc 0 part (codes "lookup") ≡ None → ⊥
    by zero shape none = absurd (cc)
    by (suc part) shape none = absurd (cc)

alone : (c : ℕ) → Exposed calc (codes "lookup") c → c ≡ 0
alone c (as_root d e) = start c e
alone c (below b d exposed passes) = absurd (program_passes d (subst (λ z. PassesDown calc (codes "lookup") z d) (alone b exposed) passes))

two : (c : ℕ) → suc (suc c) ≡ 0 → ⊥
two c e = cc

pub returns-clause-with : goal.returns-clause-with
returns-clause-with c = λ exposed. two 0 (alone 2 exposed)
