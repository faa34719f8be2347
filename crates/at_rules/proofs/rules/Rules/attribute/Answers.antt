use Rattle.std.proofs.Common.{◌∙◌, ap, sym, Some}
use Rattle.at_model.specs.Classes.{chain}
use Rattle.at_model.specs.Rules.{Rules, attribute_named}
use Rattle.at_rules.proofs.UpwardLemmas.{declared_by_name, none_by_name}
use Rattle.at_rules.proofs.rules.Rules.attribute.Goals as goal

pub returns-in_err-name-clause-named : goal.returns-in_err-name-clause-named
returns-in_err-name-clause-named c = λ some.
    let names = c.self.inside.names.keys in
    let es = c.self.inside.equations.attributes.entries in
    let classes = c.self.inside.classes in
    c.from_residual.ensures
    ∙ sym (none_by_name names c.args.name.now some (sym c.in_err-name.ensures.found) es (chain classes c.args.class))
    ∙ ap (λ (r : Rules). attribute_named r c.args.class c.args.name.now) c.self.view_is

pub returns-in_err-position-clause-named : goal.returns-in_err-position-clause-named
returns-in_err-position-clause-named c = λ some.
    let names = c.self.inside.names.keys in
    let es = c.self.inside.equations.attributes.entries in
    let classes = c.self.inside.classes in
    c.from_residual-in_err-position.ensures
    ∙ sym c.in_err-position.was
    ∙ c.declared_up.ensures
    ∙ declared_by_name names c.number_named.ensures.distinct c.args.name.now some c.in_ok-name.name (sym c.in_ok-name.ensures.index) es (chain classes c.args.class)
    ∙ ap (λ (r : Rules). attribute_named r c.args.class c.args.name.now) c.self.view_is

pub returns-clause-named : goal.returns-clause-named
returns-clause-named c = λ some.
    let names = c.self.inside.names.keys in
    let es = c.self.inside.equations.attributes.entries in
    let classes = c.self.inside.classes in
    ap Some c.new.ensures
    ∙ sym c.in_ok-position.was
    ∙ c.declared_up.ensures
    ∙ declared_by_name names c.number_named.ensures.distinct c.args.name.now some c.in_ok-name.name (sym c.in_ok-name.ensures.index) es (chain classes c.args.class)
    ∙ ap (λ (r : Rules). attribute_named r c.args.class c.args.name.now) c.self.view_is
