use Rattle.std.proofs.Common.{◌≡◌, ◌∙◌, ℕ, List, ap, arith, length, map, refl, sym}
use Rattle.at_model.specs.Run.{Gives, Run, Value as ModelValue}
use Rattle.at_body.specs.Standing.{inside}
use Rattle.at_body.specs.Values.{value_view}
use Rattle.at_body.specs.declared.value.Value.{Value}
use Rattle.at_evaluate.specs.Forms.{run_of}
use Rattle.at_evaluate.specs.Place.{place_at}
use Rattle.at_evaluate.proofs.Nearby.{asks_each}
use Rattle.at_evaluate.proofs.near.asked_of_each.Goals as goal

pub returns-else-not-are_names : goal.returns-else-not-are_names
returns-else-not-are_names c =
    let p = place_at c.args.here.now in
    asks_each p c.args.body.now c.in-Call.receiver.now c.in-Call.attribute c.in-Call.passed.now
    (λ classes q. c.form_of.ensures.means classes q ∙ ap (run_of classes q c.args.body.now) c.in-Call.is)
    (c.if-not-is_element.ensures refl)
    (λ classes n. c.if-not-are_names.ensures refl classes (inside p n) (omega (arith, c.len.ensures, c.in_ok-bound-in-Call.ensures.1)) (sym c.as_slice.ensures)
    ∙ ap (λ (vs : List Value). let r : Run ℕ (List (ModelValue ℕ)) = Gives (map value_view vs) in r) c.as_slice.ensures)
