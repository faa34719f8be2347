use Rattle.std.proofs.Common.{map, nat_eq}
use Rattle.at_store.specs.Shown.{contents}
use Rattle.at_model.specs.Rules.{attribute_name, by_inherited}
use Rattle.at_body.specs.Values.{value_view}
use Rattle.at_evaluate.specs.Looking.{HasBegun}
use Rattle.at_evaluate.proofs.here.climb.Given as goal

abbrev pub invariant-loop-height : goal.invariant-loop-height
invariant-loop-height l = HasBegun (contents l.store) l.initial.reads l.reads (by_inherited l.rules nat_eq (attribute_name l.rules l.attribute) (map value_view l.arguments) l.initial.height l.initial.below)
    (by_inherited l.rules nat_eq (attribute_name l.rules l.attribute) (map value_view l.arguments) l.height l.below)

abbrev pub decreases-loop-height : goal.decreases-loop-height
decreases-loop-height l = l.height
