use Rattle.std.proofs.Common.{ℕ, nat_eq, Option}
use Rattle.at_model.specs.Paths.{Node, node_eq}
use Rattle.at_model.specs.Rules.{Rules}
use Rattle.at_model.specs.Meaning.{content}
use Rattle.at_model.specs.Alike.{IsInjective, Names}
use Rattle.at_model.specs.of_fixpoints.Evaluations.{evaluation, forms}
use Rattle.at_model.specs.of_fixpoints.Likeness.{FormsLike}
use Rattle.at_model.proofs.Nodes.{same_like, nat_eq-is, node_eq-is}
use Rattle.at_model.proofs.of_likeness.CarryingCircles.{names_agree}
use Rattle.at_model.proofs.of_formulas.CarriedByFormulas.{outcome_there, outcome_back, leads_there, leads_back, supports_there, supports_back}
use Rattle.at_model.proofs.of_formulas.CarriedSearches.{answer_there}
use Rattle.at_model.proofs.of_formulas.FormulasAlike.{evaluation-like}
use Rattle.at_model.proofs.fixpoint_laws.numbers_and_paths_by_formulas.Goals as goal

like : (path : ℕ → Option Node) → IsInjective path → (rules : Rules) →
    FormsLike (Names path) (evaluation rules nat_eq) (forms rules)
like path one rules = evaluation-like rules nat_eq node_eq (same_like nat_eq node_eq nat_eq-is node_eq-is path one)

pub returns-clause-answer : goal.returns-clause-answer
returns-clause-answer c = λ path one rules t numbers all i j a same h.
    answer_there (names_agree path one) numbers (content t) (evaluation rules nat_eq) (forms rules)
    (like path one rules) i j a same (λ n u. all n) h

pub returns-clause-outcome : goal.returns-clause-outcome
returns-clause-outcome c = λ path one rules t numbers all i j o same h.
    outcome_there (names_agree path one) numbers (content t) (evaluation rules nat_eq) (forms rules)
    (like path one rules) i j o (same, λ n u. all n) h

pub returns-clause-outcome_back : goal.returns-clause-outcome_back
returns-clause-outcome_back c = λ path one rules t numbers all i j p same h.
    outcome_back (names_agree path one) numbers (content t) (evaluation rules nat_eq) (forms rules)
    (like path one rules) i j p (same, λ n u. all n) h

pub returns-clause-leads : goal.returns-clause-leads
returns-clause-leads c = λ path one rules t numbers all i k j same h.
    let (m, s, l) = leads_there (names_agree path one) numbers (content t) (evaluation rules nat_eq) (forms rules)
    (like path one rules) i k j (same, λ n u. all n) h in (m, s.0, l)

pub returns-clause-leads_back : goal.returns-clause-leads_back
returns-clause-leads_back c = λ path one rules t numbers all i j m same h.
    let (k, s, l) = leads_back (names_agree path one) numbers (content t) (evaluation rules nat_eq) (forms rules)
    (like path one rules) i j m (same, λ n u. all n) h in (k, s.0, l)

pub returns-clause-support : goal.returns-clause-support
returns-clause-support c = λ path one rules t numbers all i j l same h.
    supports_there (names_agree path one) numbers (content t) (evaluation rules nat_eq) (forms rules)
    (like path one rules) i j l (same, λ n u. all n) h

pub returns-clause-support_back : goal.returns-clause-support_back
returns-clause-support_back c = λ path one rules t numbers all i j m same h.
    supports_back (names_agree path one) numbers (content t) (evaluation rules nat_eq) (forms rules)
    (like path one rules) i j m (same, λ n u. all n) h
