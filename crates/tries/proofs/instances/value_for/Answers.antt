use Rattle.std.proofs.Common.{refl}
use Rattle.at_body.specs.Values.{value_view}
use Rattle.at_rules.specs.Bodies.{kind_view}
use Rattle.tries.specs.Worlds.{classes_at}
use Rattle.tries.proofs.Fitted.{its_kind}
use Rattle.tries.proofs.instances.value_for.Goals as goal

pub returns : goal.returns
returns c =
    let w = c.args.world.now in
    its_kind w.rules (classes_at w) c.args.inst.now (value_view c.in_ok-value.value) (kind_view c.result_kind.result) c.attribute.result c.result_kind.ensures c.attribute.ensures (c.if-not-is_of.ensures refl)
