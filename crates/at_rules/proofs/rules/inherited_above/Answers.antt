use Rattle.std.proofs.Common.{rules}
use Rattle.at_rules.specs.Bodies.{body_view}
use Rattle.at_rules.specs.RulesView.{numbered_in}
use Rattle.at_class.proofs.FirstUpward.{first_by}
use Rattle.at_rules.proofs.rules.inherited_above.Goals as goal

pub returns : goal.returns
returns c = first_by _ (λ b. body_view b.now) (numbered_in c.args.inherited.now.entries c.args.name c.args.part) (λ k found h. search rules) _ _ c.first_upward.ensures
