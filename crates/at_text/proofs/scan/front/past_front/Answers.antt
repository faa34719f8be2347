use Rattle.at_text.proofs.Fronts.{front_stripped}
use Rattle.at_text.proofs.scan.front.past_front.Goals as goal

pub returns : goal.returns
returns c = front_stripped c.args.text.now c.args.front.now c.strip_prefix.result c.strip_prefix.ensures.cases c.utf8.text
