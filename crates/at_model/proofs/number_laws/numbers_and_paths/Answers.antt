use Rattle.std.proofs.Common.{ℕ, nat_eq, Option}
use Rattle.at_model.specs.Paths.{Node, node_eq}
use Rattle.at_model.specs.Rules.{Rules, evaluation}
use Rattle.at_model.specs.Meaning.{content, equations}
use Rattle.at_model.specs.Alike.{EquationsLike, IsInjective, Names}
use Rattle.at_model.proofs.Nodes.{same_like, nat_eq-is, node_eq-is}
use Rattle.at_model.proofs.of_likeness.EquationsAlike.{evaluation-like}
use Rattle.at_model.proofs.of_likeness.AlikeBack.{value_on, value_back, leads_on, leads_back, supports_on, supports_back}
use Rattle.at_model.proofs.number_laws.numbers_and_paths.Goals as goal

like : (path : ℕ → Option Node) → IsInjective path → (rules : Rules) → EquationsLike (Names path) (evaluation rules nat_eq) (equations rules)
like path injective rules = evaluation-like rules nat_eq node_eq (same_like nat_eq node_eq nat_eq-is node_eq-is path injective)

pub returns-clause-value : goal.returns-clause-value
returns-clause-value c = λ path injective rules t numbers alike. value_on numbers (content t) (evaluation rules nat_eq) (equations rules) (like path injective rules) alike

pub returns-clause-value_back : goal.returns-clause-value_back
returns-clause-value_back c = λ path injective rules t numbers alike. value_back numbers (content t) (evaluation rules nat_eq) (equations rules) (like path injective rules) alike

pub returns-clause-leads : goal.returns-clause-leads
returns-clause-leads c = λ path injective rules t numbers alike. leads_on numbers (content t) (evaluation rules nat_eq) (equations rules) (like path injective rules) alike

pub returns-clause-leads_back : goal.returns-clause-leads_back
returns-clause-leads_back c = λ path injective rules t numbers alike. leads_back numbers (content t) (evaluation rules nat_eq) (equations rules) (like path injective rules) alike

pub returns-clause-support : goal.returns-clause-support
returns-clause-support c = λ path injective rules t numbers alike. supports_on numbers (content t) (evaluation rules nat_eq) (equations rules) (like path injective rules) alike

pub returns-clause-support_back : goal.returns-clause-support_back
returns-clause-support_back c = λ path injective rules t numbers alike. supports_back numbers (content t) (evaluation rules nat_eq) (equations rules) (like path injective rules) alike
