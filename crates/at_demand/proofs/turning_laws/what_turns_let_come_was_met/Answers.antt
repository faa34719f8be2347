use Rattle.at_evaluate.specs.Valued.{kept_values}
use Rattle.at_model.specs.of_fixpoints.Searching.{posted}
use Rattle.at_demand.proofs.of_steps.Reasoned.{kept_reasoned, posted_reasoned}
use Rattle.at_demand.proofs.turning_laws.what_turns_let_come_was_met.Goals as goal

pub returns : goal.returns
returns c = λ rules s m q k can circle before after right n u o turns.
    kept_reasoned rules s (kept_values before) q k can circle m n before after (posted q) u o turns
    (posted_reasoned rules s q before right)
