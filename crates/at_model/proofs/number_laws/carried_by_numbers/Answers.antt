use Rattle.std.proofs.Common.{ℕ, nat_eq, Option}
use Rattle.at_model.specs.Rules.{Rules, evaluation}
use Rattle.at_model.specs.Alike.{EquationsLike, IsInjective, Names}
use Rattle.at_model.proofs.Nodes.{same_like, nat_eq-is}
use Rattle.at_model.proofs.of_likeness.EquationsAlike.{evaluation-like}
use Rattle.at_model.proofs.of_likeness.Carrying.{carried}
use Rattle.at_model.proofs.of_likeness.CarryingSupport.{leads_there, leads_here, supports_there, supports_here}
use Rattle.at_model.proofs.number_laws.carried_by_numbers.Goals as goal

like : (carry : ℕ → Option ℕ) → IsInjective carry → (rules : Rules) → EquationsLike (Names carry) (evaluation rules nat_eq) (evaluation rules nat_eq)
like carry injective rules = evaluation-like rules nat_eq nat_eq (same_like nat_eq nat_eq nat_eq-is nat_eq-is carry injective)

pub returns-clause-outcome : goal.returns-clause-outcome
returns-clause-outcome c = λ carry injective rules before after. carried before after (evaluation rules nat_eq) (evaluation rules nat_eq) (like carry injective rules)

pub returns-clause-demands : goal.returns-clause-demands
returns-clause-demands c = λ carry injective rules before after. leads_there before after (evaluation rules nat_eq) (evaluation rules nat_eq) (like carry injective rules)

pub returns-clause-no_other_demands : goal.returns-clause-no_other_demands
returns-clause-no_other_demands c = λ carry injective rules before after i j m o t alike h leads.
    let (k, u, led, height, settles) = leads_here before after (evaluation rules nat_eq) (evaluation rules nat_eq) (like carry injective rules) h.0 i j m (o, h.1) alike t leads in (k, u, led)

pub returns-clause-support : goal.returns-clause-support
returns-clause-support c = λ carry injective rules before after. supports_there before after (evaluation rules nat_eq) (evaluation rules nat_eq) (like carry injective rules)

pub returns-clause-no_other_support : goal.returns-clause-no_other_support
returns-clause-no_other_support c = λ carry injective rules before after i j m o t alike h s.
    supports_here before after (evaluation rules nat_eq) (evaluation rules nat_eq) (like carry injective rules) i j o m h alike t s
