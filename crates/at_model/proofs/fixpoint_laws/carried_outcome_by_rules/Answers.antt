use Rattle.at_model.specs.Meaning.{content}
use Rattle.at_model.specs.of_fixpoints.Evaluations.{forms}
use Rattle.at_model.proofs.of_likeness.CarryingCircles.{names_agree}
use Rattle.at_model.proofs.of_formulas.CarriedByFormulas.{outcome_there, outcome_back}
use Rattle.at_model.proofs.of_formulas.FormulasAlike.{forms-like}
use Rattle.at_model.proofs.fixpoint_laws.carried_outcome_by_rules.Goals as goal

pub returns : goal.returns
returns c = record {
  kept = λ carry one rules before after i j t a o h.
      outcome_there (names_agree carry one) (content before) (content after) (forms rules) (forms rules)
      (forms-like carry one rules) i j o (t, a) h;
  no_others = λ carry one rules before after i j t a p h.
      outcome_back (names_agree carry one) (content before) (content after) (forms rules) (forms rules)
      (forms-like carry one rules) i j p (t, a) h;
}
