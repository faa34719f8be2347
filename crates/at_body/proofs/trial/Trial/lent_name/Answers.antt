use Rattle.at_body.proofs.TextsCompared.{lent_behind}
use Rattle.at_body.proofs.trial.Trial.lent_name.Goals as goal

pub returns-in-None : goal.returns-in-None
returns-in-None c = λ look. lent_behind look c.args.self.now c.args.position c.lent_argument.result (cc) c.lent_argument.ensures
