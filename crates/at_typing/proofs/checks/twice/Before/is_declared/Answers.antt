use Rattle.std.proofs.Common.{◌∙◌}
use Rattle.at_typing.proofs.Keys.{contained}
use Rattle.at_typing.proofs.checks.twice.Before.is_declared.Goals as goal

pub returns : goal.returns
returns c = c.contains.ensures ∙ contained c.args.self.now.declared.keys c.args.class c.args.name
