use Rattle.std.proofs.Common.{◌≡◌, [], arith, sym, ap, ◌∙◌}
use Rattle.at_rules.specs.RulesView.{name_in}
use Rattle.at_rules.proofs.Numbers.{nameless, numberless, empty_found, empty_absent}
use Rattle.at_rules.proofs.rules.name_number.Goals as goal
use Rattle.at_rules.proofs.rules.name_number.Goals.{in-Some+else-key-count, in_default}

empty : (c : goal.After-get_index_of) → name_in c.args.names.now.keys c.args.attributes.now.entries c.args.attribute ≡ []
empty c =
    let names = c.args.names.now.keys in
    let entries = c.args.attributes.now.entries in
    ap (name_in names entries) (sym c.index.ensures) ∙ elim c.match-get_index.branch [
      | in-Some+else-key-count w ↦ numberless names entries c.index.result _ (sym w.in-Some.ensures.entry) (omega (arith, w.if-key-count.false, c.len-count.ensures.len))
      | in_default w ↦ nameless names entries c.index.result (sym w.in_default.ensures.entry)
    ]

pub returns-clause-found : goal.returns-clause-found
returns-clause-found c = empty_found c.args.names.now.keys _ (empty c) c.get_index_of.result c.get_index_of.ensures.index

pub returns-clause-absent : goal.returns-clause-absent
returns-clause-absent c = empty_absent c.args.names.now.keys _ (empty c) c.get_index_of.result c.get_index_of.ensures.found
