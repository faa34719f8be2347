use Rattle.std.specs.Prelude.{false, true}
use Rattle.at_model.proofs.of_formulas.FixpointValues.{form_left, left_by_form, value_by_form}
use Rattle.at_model.proofs.fixpoint_laws.a_fixpoint.Goals as goal

pub returns : goal.returns
returns c = record {
  from_false = λ look forms same i f v e h x.
      (form_left look forms same false i f e h, left_by_form look forms same false i f v e h x);
  from_true = λ look forms same i f v e h x.
      (form_left look forms same true i f e h, left_by_form look forms same true i f v e h x);
  values = λ look forms same i f v start b e h x t. value_by_form look forms same start b i f v e h x t;
}
