use Rattle.at_tree.proofs.TextLaws.{none_begins_another}
use Rattle.at_tree.proofs.laws.no_text_begins_another.Goals as goal

pub returns : goal.returns
returns c = none_begins_another
