use Rattle.std.proofs.Common.{◌∙◌, ap, rules}
use Rattle.at_model.specs.Classes.{chain}
use Rattle.at_model.specs.Rules.{Rules, first_answer, own_in}
use Rattle.at_rules.specs.Bodies.{body_view}
use Rattle.at_class.proofs.FirstUpward.{first_by}
use Rattle.at_rules.proofs.rules.Rules.own_above.Goals as goal

pub returns : goal.returns
returns c =
    let f = own_in c.args.self.now c.args.attribute in
    first_by _ (λ b. body_view b.now) f (λ k found h. search rules) _ _ c.first_upward.ensures
    ∙ ap (λ (r : Rules). first_answer f (chain r.classes c.args.class)) c.self.view_is
