use Rattle.at_java.proofs.Suffixes.{not_before}
use Rattle.at_java.proofs.reader.outsets.before_list.Goals as goal

pub returns-in-None : goal.returns-in-None
returns-in-None c = not_before _ c.in-None.ensures.cases
