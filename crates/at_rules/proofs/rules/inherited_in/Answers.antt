use Rattle.std.proofs.Common.{◌∙◌, ap, Some, None, option_map}
use Rattle.at_rules.specs.Bodies.{body_view}
use Rattle.at_rules.specs.RulesView.{by_number}
use Rattle.at_rules.proofs.Lookups.{seen}
use Rattle.at_rules.proofs.Numbers.{or_for_each}
use Rattle.at_rules.proofs.rules.inherited_in.Goals as goal

pub returns-in-None : goal.returns-in-None
returns-in-None c =
    let es = c.args.inherited.now.entries in
    or_for_each _ _ c.get.result c.get-in-None.result c.in-None.is
    (seen c.get.result ∙ ap (option_map body_view) c.get.ensures.value ∙ ap (by_number es c.args.name (Some c.args.part)) c.index.ensures)
    (seen c.get-in-None.result ∙ ap (option_map body_view) c.get-in-None.ensures.value ∙ ap (by_number es c.args.name None) c.index-in-None.ensures)
