use Rattle.std.proofs.Common.{subst, sym}
use Rattle.at_engine.specs.Tallied.{AreTallied}
use Rattle.at_engine.proofs.marks.Marks.forget_gone.Goals as goal

pub invariant_of-self : goal.invariant_of-self
invariant_of-self c = record { tallied = subst (λ l. AreTallied l c.discount_all_gone.new.sessions c.discount_all_gone.new.nodes) (sym c.keep.ensures) (c.discount_all_gone.ensures c.args.self.now.tallied) }
