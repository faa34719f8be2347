use Rattle.std.proofs.Common.{Some}
use Rattle.std.proofs.lemmas.Str.Pattern.{strip_prefix_char}
use Rattle.at_tree.proofs.tree.front.takes.Goals as goal

pub returns-in-Some-clause-taken : goal.returns-in-Some-clause-taken
returns-in-Some-clause-taken c = λ e. strip_prefix_char c.args.sign c.args.front.now.rest.now (Some c.in-Some.rest) c.in-Some.ensures.cases c.requires
