use Rattle.at_model.proofs.of_searching.ChainTurns.{begins, turn_of_chain, turn_of_search}
use Rattle.at_model.proofs.searching_laws.a_chain_is_a_search.Goals as goal

pub returns-clause-begun : goal.returns-clause-begun
returns-clause-begun c = begins

pub returns-clause-chain : goal.returns-clause-chain
returns-clause-chain c look equation before kept q u new s o on within is turned =
    turn_of_search look equation before kept within q u s on is new o turned

pub returns-clause-search : goal.returns-clause-search
returns-clause-search c look equation before kept q u s t o on within is right turned own =
    turn_of_chain look equation before kept within q u s on is right t o turned own
