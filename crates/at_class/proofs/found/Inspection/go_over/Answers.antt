use Rattle.at_class.proofs.found.Inspection.go_over.Goals as goal

pub of-requires : goal.of-requires
of-requires c = (c.requires.0, c.loop-class.invariant)

pub loop-class-preserved : goal.loop-class-preserved
loop-class-preserved c = c.in_ok-of.ensures.1
