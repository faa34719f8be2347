use Rattle.at_model.specs.Meaning.{content}
use Rattle.at_model.specs.of_fixpoints.Evaluations.{forms}
use Rattle.at_model.proofs.of_likeness.CarryingCircles.{names_agree}
use Rattle.at_model.proofs.of_formulas.CarriedSearches.{answer_there}
use Rattle.at_model.proofs.of_formulas.FormulasAlike.{forms-like}
use Rattle.at_model.proofs.fixpoint_laws.carried_answer_by_rules.Goals as goal

pub returns : goal.returns
returns c carry one rules before after q k x t a h =
    answer_there (names_agree carry one) (content before) (content after) (forms rules) (forms rules)
    (forms-like carry one rules) q k x t a h
