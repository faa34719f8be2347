use Rattle.std.proofs.Common.{ap, ◌∙◌}
use Rattle.at_model.specs.Machine.{takes_numbers}
use Rattle.at_rules.proofs.Numeric.{any_take}
use Rattle.at_rules.proofs.rules.Rules.takes_numbers.Goals as goal

pub returns : goal.returns
returns c = c.have_numbers.ensures ∙ any_take _ c.self.inside.names.keys c.self.inside.equations.attributes.entries ∙ ap takes_numbers c.self.view_is
