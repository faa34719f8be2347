use Rattle.std.proofs.Common.{map, arith}
use Rattle.at_class.specs.View.{part_view}
use Rattle.at_typing.proofs.AccessorNaming.{adds_more, adds_end}
use Rattle.at_typing.proofs.checks.accessor_names.Accessors.add_all.Goals as goal

pub loop-part-preserved : goal.loop-part-preserved
loop-part-preserved c = adds_more part_view c.args.parts.now c.loop-part.part-index c.part-item.result
    (map part_view c.args.parts.now) c.args.self.now c.loop-part.self c.add.new.self (omega arith) c.part-item.is
    c.loop-part.invariant c.in_ok-add.ensures

pub returns : goal.returns
returns c = adds_end part_view c.args.parts.now c.loop-part.part-index (map part_view c.args.parts.now) c.args.self.now c.loop-part.self (omega arith) c.loop-part.invariant
