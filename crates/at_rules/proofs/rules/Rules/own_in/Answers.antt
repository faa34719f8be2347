use Rattle.std.proofs.Common.{◌∙◌, ap, option_map}
use Rattle.at_model.specs.Rules.{Rules, own_in}
use Rattle.at_rules.specs.Bodies.{body_view}
use Rattle.at_rules.proofs.Lookups.{own_keyed, seen}
use Rattle.at_rules.proofs.rules.Rules.own_in.Goals as goal

pub returns : goal.returns
returns c =
    seen c.get.result
    ∙ ap (option_map body_view) c.get.ensures.value
    ∙ own_keyed c.index.result c.index-2.result c.args.class c.args.attribute c.index.ensures c.index-2.ensures c.self.inside.equations.own.entries
    ∙ ap (λ (r : Rules). own_in r c.args.attribute c.args.class) c.self.view_is
