use Rattle.at_model.proofs.of_formulas.PlainForms.{holds_on_all, holds_back_all}
use Rattle.at_model.proofs.of_formulas.PlainAnswers.{answers_on, answers_off, leads_on, leads_off, supports_on, supports_off}
use Rattle.at_model.proofs.fixpoint_laws.none_circular_none_changed.Goals as goal

pub returns : goal.returns
returns c = record {
  outcomes = λ look equation i o. (holds_on_all look equation i o, holds_back_all look equation i o);
  answers = λ look equation q a. (answers_on look equation q a, answers_off look equation q a);
  demands = λ look equation i j. (leads_on look equation i j, leads_off look equation i j);
  support = λ look equation l i. (supports_on look equation l i, supports_off look equation l i);
}
