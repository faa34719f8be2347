use Rattle.at_store.specs.Shown.{contents}
use Rattle.std.proofs.Common.{rules, ◌≡◌, refl, to_z, of_z, w32}
use Rattle.at_body.proofs.Uses.{followed, kept}
use Rattle.at_body.proofs.of_typing.TypedSteps.{computed_seen, joined_told}
use Rattle.std.specs.Fmt.{signed_decimal}
use Rattle.at_model.specs.Bodies.{int_of, text_of}
use Rattle.at_body.specs.Values.{value_view}
use Rattle.at_body.proofs.trial.Trial.binary.Goals as goal

pub returns-in-Join-clause-same : goal.returns-in-Join-clause-same
returns-in-Join-clause-same c = λ classes. let h = rw (c.in_ok-into_text-in-Join.ensures, c.text.ensures) at c.joined.ensures.same classes c.args.self.now in rw c.in-Join.is (followed classes (contents c.args.store.now) _ _ _ _ c.args.self.now refl h (kept _ _))

pub returns-in-Join-clause-less : goal.returns-in-Join-clause-less
returns-in-Join-clause-less c = c.joined.ensures.less c.args.self.now

pub returns-in-JoinInt-clause-same : goal.returns-in-JoinInt-clause-same
returns-in-JoinInt-clause-same c = λ classes. let h = rw c.in_ok-into_text-in-JoinInt.ensures at c.joined_int.ensures.same classes c.args.self.now in rw c.in-JoinInt.is (followed classes (contents c.args.store.now) _ _ _ _ c.args.self.now refl h (kept _ _))

pub returns-in-JoinInt-clause-less : goal.returns-in-JoinInt-clause-less
returns-in-JoinInt-clause-less c = c.joined_int.ensures.less c.args.self.now

pub returns-clause-same : goal.returns-clause-same
returns-clause-same c = λ classes. rw c.in-Element.is (c.element.ensures.same classes)

pub returns-in-Arithmetic-clause-told : goal.returns-in-Arithmetic-clause-told
returns-in-Arithmetic-clause-told c =
    let e : to_z w32 (of_z w32 c.int.result) ≡ int_of (value_view c.args.left) = search rules in
    let f : to_z w32 (of_z w32 c.int-in-Arithmetic.result) ≡ int_of (value_view c.args.right.now) = search rules in
    rw c.in-Arithmetic.is (computed_seen (contents c.args.store.now) c.in-Arithmetic.operator _ _ _ _ c.computed.result e f (c.computed.ensures.told (contents c.args.store.now)), refl)

pub returns-in-Join-clause-told : goal.returns-in-Join-clause-told
returns-in-Join-clause-told c = rw c.in-Join.is (joined_told (contents c.args.store.now) c.args.self.now c.joined.result _ _ (text_of (value_view c.args.left)) (text_of (value_view c.args.right.now)) c.in_ok-into_text-in-Join.ensures c.text.ensures (c.joined.ensures.told (contents c.args.store.now)))

pub returns-in-JoinInt-clause-told : goal.returns-in-JoinInt-clause-told
returns-in-JoinInt-clause-told c = rw c.in-JoinInt.is (joined_told (contents c.args.store.now) c.args.self.now c.joined_int.result _ _ (text_of (value_view c.args.left)) (signed_decimal (int_of (value_view c.args.right.now))) c.in_ok-into_text-in-JoinInt.ensures refl (c.joined_int.ensures.told (contents c.args.store.now)))
