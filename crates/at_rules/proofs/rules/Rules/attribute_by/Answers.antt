use Rattle.std.proofs.Common.{◌∙◌, ap, sym, Some}
use Rattle.at_model.specs.Classes.{chain}
use Rattle.at_model.specs.Rules.{Rules, attribute_named, name_by}
use Rattle.at_rules.proofs.Counting.{never_empty}
use Rattle.at_rules.proofs.NameNumbers.{lacks_number}
use Rattle.at_rules.proofs.UpwardLemmas.{declared_by_name, none_by_name}
use Rattle.at_rules.proofs.rules.Rules.attribute_by.Goals as goal

pub returns-in_err-name-clause-named : goal.returns-in_err-name-clause-named
returns-in_err-name-clause-named c =
    let names = c.self.inside.names.keys in
    let es = c.self.inside.equations.attributes.entries in
    let text = name_by c.args.name.now c.args.count in
    c.from_residual.ensures
    ∙ sym (none_by_name names text (never_empty c.args.name.now c.args.count) (lacks_number names text
    (sym c.in_err-name.ensures.number)) es (chain c.self.inside.classes c.args.class))
    ∙ ap (λ (r : Rules). attribute_named r c.args.class text) c.self.view_is

pub returns-in_err-position-clause-named : goal.returns-in_err-position-clause-named
returns-in_err-position-clause-named c =
    let names = c.self.inside.names.keys in
    let es = c.self.inside.equations.attributes.entries in
    let text = name_by c.args.name.now c.args.count in
    c.from_residual-in_err-position.ensures
    ∙ sym c.in_err-position.was
    ∙ c.declared_up.ensures
    ∙ declared_by_name names c.number.ensures.distinct text (never_empty c.args.name.now c.args.count)
    c.in_ok-name.name (sym c.in_ok-name.ensures.number) es (chain c.self.inside.classes c.args.class)
    ∙ ap (λ (r : Rules). attribute_named r c.args.class text) c.self.view_is

pub returns-clause-named : goal.returns-clause-named
returns-clause-named c =
    let names = c.self.inside.names.keys in
    let es = c.self.inside.equations.attributes.entries in
    let text = name_by c.args.name.now c.args.count in
    ap Some c.new.ensures
    ∙ sym c.in_ok-position.was
    ∙ c.declared_up.ensures
    ∙ declared_by_name names c.number.ensures.distinct text (never_empty c.args.name.now c.args.count)
    c.in_ok-name.name (sym c.in_ok-name.ensures.number) es (chain c.self.inside.classes c.args.class)
    ∙ ap (λ (r : Rules). attribute_named r c.args.class text) c.self.view_is
