use Rattle.std.proofs.Common.{refl}
use Rattle.at_model.specs.of_fixpoints.Searching.{posted}
use Rattle.at_model.proofs.of_searching.ChainTurns.{own_of_chain, turns_of_chain}
use Rattle.at_model.proofs.searching_laws.a_plain_search_is_a_chain.Goals as goal

pub returns-clause-turns : goal.returns-clause-turns
returns-clause-turns c look equation n q s silent = turns_of_chain look equation n q (posted q) s silent refl

pub returns-clause-own : goal.returns-clause-own
returns-clause-own c look equation before kept q u s f at on within is right holds followed =
    own_of_chain look equation before kept within q u s on is right f at holds followed
