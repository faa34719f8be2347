use Rattle.std.proofs.Common.{◌-◌, arith, refl}
use Rattle.at_java.proofs.InMaps.{none_noted, one_noted}
use Rattle.at_java.proofs.aliases.noted.Goals as goal

pub loop-left-init : goal.loop-left-init
loop-left-init c =
    (none_noted c.args.aliases.now _ c.new-names.result refl c.new-names.ensures.empty, omega arith)

pub loop-left-preserved : goal.loop-left-preserved
loop-left-preserved c = (
  one_noted c.args.aliases.now (c.loop-left.left - 1) c.loop-left.left _ c.name.result _
      c.loop-left.names c.insert.new.self
      (omega (arith, c.loop-left.invariant.1, c.loop-left-test.true)) (omega (arith, c.loop-left-test.true))
      c.index-aliases-left.is c.name.ensures c.meant.ensures c.in_ok-insert.ensures.updates.0 c.loop-left.invariant.0,
  omega (arith, c.loop-left.invariant.1, c.loop-left-test.true),
)
