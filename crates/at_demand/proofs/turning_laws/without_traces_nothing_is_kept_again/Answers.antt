use Rattle.at_demand.proofs.of_steps.KeptAgain.{again_nothing, chain_over, search_over}
use Rattle.at_demand.proofs.turning_laws.without_traces_nothing_is_kept_again.Goals as goal

pub returns-clause-untraced : goal.returns-clause-untraced
returns-clause-untraced c = λ m q old new none again. again_nothing m q old new none again

pub returns-clause-searched : goal.returns-clause-searched
returns-clause-searched c = λ rules s m any off n before after u v o given. search_over rules s m any off n before after u v o given

pub returns-clause-plainly : goal.returns-clause-plainly
returns-clause-plainly c = λ rules s m any off n before after u v o given. chain_over rules s m any off n before after u v o given
