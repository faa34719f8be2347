use Rattle.std.proofs.Common.{◌↔◌, ℕ, nat_eq, sym, subst}
use Rattle.at_model.specs.Meaning as plain
use Rattle.at_model.specs.Support as support
use Rattle.at_model.specs.of_fixpoints.Circles.{Answers}
use Rattle.at_model.specs.of_fixpoints.Fixpoints.{Holds}
use Rattle.at_model.specs.of_fixpoints.Formulas.{Forms}
use Rattle.at_model.specs.of_fixpoints.Resting.{Leads, Supports}
use Rattle.at_model.proofs.of_formulas.PlainAnswers.{answers_on, answers_off, leads_on, leads_off, supports_on, supports_off}
use Rattle.at_model.proofs.of_formulas.PlainForms.{holds_on_all, holds_back_all}
use Rattle.at_model.proofs.of_formulas.PlainRules.{rules_plain}
use Rattle.at_evaluate.specs.Valued.{equations}
use Rattle.at_demand.proofs.laws.by_equations_where_none_is_circular.Goals as goal

pub returns-clause-outcomes : goal.returns-clause-outcomes
returns-clause-outcomes c = λ rules none look i o. subst
    (λ (z : Forms ℕ). plain.Holds look (equations rules) i o ↔ Holds look z i o) (sym (rules_plain rules nat_eq none))
    (holds_on_all look (equations rules) i o, holds_back_all look (equations rules) i o)

pub returns-clause-answers : goal.returns-clause-answers
returns-clause-answers c = λ rules none look i a. subst
    (λ (z : Forms ℕ). plain.Answers look (equations rules) i a ↔ Answers look z i a) (sym (rules_plain rules nat_eq none))
    (answers_on look (equations rules) i a, answers_off look (equations rules) i a)

pub returns-clause-demands : goal.returns-clause-demands
returns-clause-demands c = λ rules none look i j. subst
    (λ (z : Forms ℕ). plain.Leads look (equations rules) i j ↔ Leads look z i j) (sym (rules_plain rules nat_eq none))
    (leads_on look (equations rules) i j, leads_off look (equations rules) i j)

pub returns-clause-support : goal.returns-clause-support
returns-clause-support c = λ rules none look l i. subst
    (λ (z : Forms ℕ). support.Supports look (equations rules) l i ↔ Supports look z l i) (sym (rules_plain rules nat_eq none))
    (supports_on look (equations rules) l i, supports_off look (equations rules) l i)
