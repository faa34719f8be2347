use Rattle.std.proofs.Common.{◌∙◌, ap, sym, subst, option_map}
use Rattle.at_model.specs.Classes.{chain}
use Rattle.at_model.specs.Rules.{Rules, attribute_name, first_answer, inherited_equation}
use Rattle.at_rules.specs.Bodies.{body_view}
use Rattle.at_rules.specs.RulesView.{numbered_in, LacksText}
use Rattle.at_rules.proofs.Numbers.{equation_numbered, no_equation, name_seen}
use Rattle.at_rules.proofs.rules.Rules.inherited_body.Goals as goal

pub returns-in_err-name : goal.returns-in_err-name
returns-in_err-name c =
    let names = c.self.inside.names.keys in
    let rules = c.args.self.now in
    let named = name_seen names c.self.inside.equations.attributes.entries c.args.attribute ∙ ap (λ (r : Rules). attribute_name r c.args.attribute) c.self.view_is in
    ap (option_map (λ b. body_view b.now)) c.from_residual.ensures
    ∙ sym (no_equation names (attribute_name rules c.args.attribute) (subst (LacksText names) named c.in_err-name.ensures.absent) c.self.inside.equations.inherited.entries rules (ap (λ (r : Rules). r.inherited) c.self.view_is) c.args.part c.args.class)

pub returns : goal.returns
returns c =
    let names = c.self.inside.names.keys in
    let es = c.self.inside.equations.inherited.entries in
    let rules = c.args.self.now in
    let n = c.in_ok-name.name in
    let found = c.in_ok-name.ensures.found in
    c.inherited_up.ensures
    ∙ ap (λ (r : Rules). first_answer (numbered_in es n c.args.part) (chain r.classes c.args.class)) c.self.view_is
    ∙ equation_numbered names c.name_number.ensures.distinct es rules (ap (λ (r : Rules). r.inherited) c.self.view_is) n found.0 c.args.part c.args.class
    ∙ ap (inherited_equation rules c.args.class c.args.part) (found.1 ∙ name_seen names c.self.inside.equations.attributes.entries c.args.attribute ∙ ap (λ (r : Rules). attribute_name r c.args.attribute) c.self.view_is)
