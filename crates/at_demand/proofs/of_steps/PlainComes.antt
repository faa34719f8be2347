-- Where no attribute is circular, an instance comes to what it comes to by its equation alone; and one that isn't circular ends with its value.
use Rattle.std.proofs.Common.{◌≡◌, ℕ, zero, suc, nat_eq, None, inl, inr, sym, subst}
use Rattle.at_model.specs.Meaning as plain
use Rattle.at_model.specs.Meaning.{Among, Finds}
use Rattle.at_model.specs.Rules.{Rules, start_of}
use Rattle.at_model.specs.Run.{Value, Instance, Contents}
use Rattle.at_model.specs.of_fixpoints.Fixpoints.{EndsAt, EndsSo, HasValue, HoldsAt, HoldsOver, Made}
use Rattle.at_model.specs.of_fixpoints.Formulas.{Forms, Known, atoms}
use Rattle.at_model.specs.of_fixpoints.Resting.{Comes}
use Rattle.at_model.specs.of_fixpoints.Sets.{plain_forms}
use Rattle.at_model.proofs.of_formulas.PlainAnswers.{reaches_off, reaches_on}
use Rattle.at_model.proofs.of_formulas.PlainForms.{holds_back_all, holds_on_all, plain_value}
use Rattle.at_model.proofs.of_formulas.PlainRules.{rules_plain}
use Rattle.at_rules.specs.Circular.{HasNoneCircular}
use Rattle.at_evaluate.specs.Valued.{equations, meaning}

module _ (rules : Rules) (look : Contents ℕ) where
  off : (i j : Instance ℕ) → Comes look (plain_forms (equations rules)) i j → plain.Comes look (equations rules) i j
  off i j (inl c) = reaches_off look (plain.HasValue look (equations rules)) (HasValue look (plain_forms (equations rules)))
      (λ k v h. holds_back_all look (equations rules) k (Finds v) h) (equations rules i) j c
  off i j (inr (f, (n, x), a)) =
      let (v, e) = plain_value look (HoldsAt look (plain_forms (equations rules)) n) i (equations rules i) f x in
      absurd (subst (λ z. Among j (atoms z)) e a)

  on : (i j : Instance ℕ) → plain.Comes look (equations rules) i j → Comes look (plain_forms (equations rules)) i j
  on i j c = inl (reaches_on look (plain.HasValue look (equations rules)) (HasValue look (plain_forms (equations rules)))
      (λ k v h. holds_on_all look (equations rules) k (Finds v) h) (equations rules i) j c)

  module _ (none : HasNoneCircular rules) where
    pub comes_off : (i j : Instance ℕ) → Comes look (meaning rules) i j → plain.Comes look (equations rules) i j
    comes_off i j = subst (λ (z : Forms ℕ). Comes look z i j → plain.Comes look (equations rules) i j) (sym (rules_plain rules nat_eq none)) (off i j)

    pub comes_on : (i j : Instance ℕ) → plain.Comes look (equations rules) i j → Comes look (meaning rules) i j
    comes_on i j = subst (λ (z : Forms ℕ). plain.Comes look (equations rules) i j → Comes look z i j) (sym (rules_plain rules nat_eq none)) (on i j)

  -- the equation of one that isn't circular ends with its value
  pub ends_value : (i : Instance ℕ) (v : Value ℕ) → start_of rules i.attribute ≡ None → HasValue look (meaning rules) i v →
      EndsSo look (meaning rules) i (Made (Known v))
  ends_value i v none (zero, h) = absurd h
  ends_value i v none (suc n, h) =
      let (formed, ends) = subst (λ z. HoldsOver (EndsAt look (meaning rules) n) z i (Finds v)) none h in (n, ends)
