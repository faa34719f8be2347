use Rattle.at_model.proofs.of_likeness.CarryingCircles.{names_agree}
use Rattle.at_model.proofs.of_formulas.CarriedByFormulas.{outcome_there, outcome_back}
use Rattle.at_model.proofs.fixpoint_laws.carried_outcome_by_formulas.Goals as goal

pub returns : goal.returns
returns c = record {
  kept = λ carry one look also here there like i j o t a h.
      outcome_there (names_agree carry one) look also here there like i j o (t, a) h;
  no_others = λ carry one look also here there like i j p t a h.
      outcome_back (names_agree carry one) look also here there like i j p (t, a) h;
}
