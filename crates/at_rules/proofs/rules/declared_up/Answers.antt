use Rattle.std.proofs.Common.{◌∙◌, sym}
use Rattle.std.specs.Map.{keys_of}
use Rattle.at_model.specs.Classes.{chain}
use Rattle.at_rules.proofs.Dispatching.{found_earliest}
use Rattle.at_rules.proofs.rules.declared_up.Goals as goal

pub returns-in-Some : goal.returns-in-Some
returns-in-Some c =
    let ks = keys_of c.args.attributes.now.entries in
    c.position.ensures
    ∙ c.requires c.args.class c.args.name c.in-Some.cell (sym c.in-Some.ensures)
    ∙ found_earliest ks c.args.name (chain c.args.classes.now c.args.class)
