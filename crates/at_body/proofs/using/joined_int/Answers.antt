use Rattle.std.proofs.Common.{rules, ◌≡◌, ◌∙◌, refl, ap, to_z, of_z, w32}
use Rattle.std.specs.Fmt.{signed_decimal}
use Rattle.at_model.specs.Bodies.{int_of}
use Rattle.at_body.specs.Values.{value_view}
use Rattle.at_body.proofs.of_typing.TypedSteps.{joined_seen}
use Rattle.at_body.proofs.using.joined_int.Goals as goal

pub returns-clause-told : goal.returns-clause-told
returns-clause-told c =
    let e : to_z w32 (of_z w32 c.int-number.result) ≡ int_of (value_view c.args.right.now) = search rules in
    λ look. joined_seen look c.joined.result _ _ _ _ refl (c.format.ensures.text ∙ ap signed_decimal e) (c.joined.ensures.told look)
