use Rattle.at_model.specs.Rules.{attribute_name}
use Rattle.at_complete.specs.Completing.{is_passed}
use Rattle.at_complete.specs.Walks.{MeetsFrom}
use Rattle.at_complete.proofs.exposure.meet_within.Given as goal

abbrev pub invariant-loop-part : goal.invariant-loop-part
invariant-loop-part l = MeetsFrom (is_passed l.rules (attribute_name l.rules l.attribute) l.part l.class) l.fn.walk l.walk
