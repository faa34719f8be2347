use Rattle.std.proofs.Common.{◌≡◌, ◌∙◌, ℕ, List, ap, map, sym}
use Rattle.at_model.specs.Run.{Gives, Run, Value as ModelValue}
use Rattle.at_body.specs.Values.{value_view}
use Rattle.at_body.specs.declared.value.Value.{Value}
use Rattle.at_evaluate.specs.Place.{place_at}
use Rattle.at_evaluate.proofs.here.Here.hands_on.Goals as goal

pub returns : goal.returns
returns c = λ yes classes. c.are_names.ensures yes classes (place_at c.args.self.now) (sym c.len.ensures) (sym c.as_slice.ensures)
    ∙ ap (λ (vs : List Value). let r : Run ℕ (List (ModelValue ℕ)) = Gives (map value_view vs) in r) c.as_slice.ensures
