use Rattle.std.proofs.Common.{ℕ, List, sym, ◌∙◌, subst}
use Rattle.std.proofs.lemmas.List.{take_all}
use Rattle.at_search.specs.Solved.{AreClosed}
use Rattle.at_search.proofs.Shutting.{not_closed, one_closed}
use Rattle.at_search.proofs.system.System.are_closed.Goals as goal

pub loop-target-preserved : goal.loop-target-preserved
loop-target-preserved c =
    one_closed c.args.self.now.open.items c.args.targets.now c.loop-target.target-index _ c.loop-target-test.true
    (sym c.if-is_open.false ∙ c.is_open.ensures) c.loop-target.invariant

pub returns-then-is_open : goal.returns-then-is_open
returns-then-is_open c =
    not_closed c.args.self.now.open.items c.args.targets.now c.loop-target.target-index _ c.loop-target-test.true
    (sym c.if-is_open.true ∙ c.is_open.ensures)

pub returns : goal.returns
returns c =
    subst (λ (xs : List ℕ). AreClosed c.args.self.now.open.items xs)
    (take_all c.loop-target.target-index c.args.targets.now c.loop-target-test.false) c.loop-target.invariant
