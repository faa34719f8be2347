use Rattle.at_model.specs.Meaning.{content}
use Rattle.at_model.specs.of_fixpoints.Evaluations.{forms}
use Rattle.at_model.proofs.of_likeness.CarryingCircles.{names_agree}
use Rattle.at_model.proofs.of_formulas.CarriedByFormulas.{leads_there, leads_back}
use Rattle.at_model.proofs.of_formulas.FormulasAlike.{forms-like}
use Rattle.at_model.proofs.fixpoint_laws.carried_demands_by_rules.Goals as goal

pub returns : goal.returns
returns c = record {
  kept = λ carry one rules before after i j k t a h.
      let (m, s, l) = leads_there (names_agree carry one) (content before) (content after) (forms rules) (forms rules)
      (forms-like carry one rules) i k j (t, a) h in (m, s.0, l);
  no_others = λ carry one rules before after i j m t a h.
      let (k, s, l) = leads_back (names_agree carry one) (content before) (content after) (forms rules) (forms rules)
      (forms-like carry one rules) i j m (t, a) h in (k, s.0, l);
}
