use Rattle.at_demand.specs.Searches.{left_to_do}
use Rattle.at_demand.proofs.of_searches.SearchedTo.{HasComeOn}
use Rattle.at_demand.proofs.demand.Demand.search.Given as goal

abbrev pub invariant-loop-searched : goal.invariant-loop-searched
invariant-loop-searched g l = HasComeOn l.rules l.store (g.K.Keeper.contents l.initial.self.keeper) (g.K.Keeper.contents l.self.keeper)
    (g.K.Keeper.memories l.initial.self.keeper) (g.K.Keeper.memories l.self.keeper) l.initial.self.work l.self.work l.initial.question l.question

abbrev pub decreases-loop-searched : goal.decreases-loop-searched
decreases-loop-searched g l = left_to_do l.question
