use Rattle.std.proofs.Common.{rules, ◌≡◌, refl, to_z, of_z, w32}
use Rattle.at_model.specs.Bodies.{int_of}
use Rattle.at_body.specs.Values.{value_view}
use Rattle.at_store.specs.Shown.{contents}
use Rattle.at_body.proofs.of_typing.TypedSteps.{computed_seen}
use Rattle.at_body.proofs.trial.Trial.with_int.Goals as goal

pub returns : goal.returns
returns c = record { same = λ classes. let h = rw c.int_value-value.ensures at c.binary.ensures.same classes in h; less = c.binary.ensures.less; told = let h = rw c.int_value-value.ensures at c.binary.ensures.told in h }

pub returns-in-Arithmetic-clause-told : goal.returns-in-Arithmetic-clause-told
returns-in-Arithmetic-clause-told c =
    let e : to_z w32 (of_z w32 c.int.result) ≡ int_of (value_view c.args.left) = search rules in
    let f : to_z w32 (of_z w32 c.args.right.now) ≡ c.args.right.now = search rules in
    rw c.in-Arithmetic.is (computed_seen (contents c.args.store.now) c.in-Arithmetic.operator _ _ _ _ c.computed.result e f (c.computed.ensures.told (contents c.args.store.now)), refl)
