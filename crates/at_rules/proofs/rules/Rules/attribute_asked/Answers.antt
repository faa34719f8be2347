use Rattle.std.proofs.Common.{◌∙◌, ap, sym}
use Rattle.at_model.specs.Classes.{chain}
use Rattle.at_model.specs.Rules.{Rules, attribute_named, name_by}
use Rattle.at_rules.proofs.Counting.{asked_plainly, lacks_counted, never_empty}
use Rattle.at_rules.proofs.UpwardLemmas.{none_by_name}
use Rattle.at_rules.proofs.rules.Rules.attribute_asked.Goals as goal

pub returns-then-are_none-clause-named : goal.returns-then-are_none-clause-named
returns-then-are_none-clause-named c = λ some.
    let names = c.self.inside.names.keys in
    let es = c.self.inside.equations.attributes.entries in
    let name = c.args.name.now in
    let known = c.are_none.ensures c.if-are_none.true in
    c.attribute.ensures.named some
    ∙ sym (asked_plainly (attribute_named c.args.self.now c.args.class) name c.args.count (λ count.
    sym (ap (λ (r : Rules). attribute_named r c.args.class (name_by name count)) c.self.view_is)
    ∙ none_by_name names (name_by name count) (never_empty name count)
    (lacks_counted names c.self.inside.counted.numbers.items
    (c.self.invariant.of_counts known.0) known.1 name count) es
    (chain c.self.inside.classes c.args.class)))

pub returns-clause-named : goal.returns-clause-named
returns-clause-named c = c.attribute_among.ensures.named
