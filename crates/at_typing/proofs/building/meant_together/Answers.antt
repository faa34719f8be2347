use Rattle.std.proofs.Common.{sym, ◌∙◌}
use Rattle.at_typing.proofs.InOrder.{together, told_together}
use Rattle.at_typing.proofs.building.meant_together.Goals as goal

pub fault_together-requires : goal.fault_together-requires
fault_together-requires c = (c.requires, c.in_ok-attributes.ensures)

pub meant_by-requires : goal.meant_by-requires
meant_by-requires c = (c.requires, c.in_ok-attributes.ensures, sym c.in_ok-fault.ensures ∙ c.in-None.is)

pub returns-in-Some : goal.returns-in-Some
returns-in-Some c = told_together c.args.arguments c.args.classes.now c.args.declared.now _ (sym c.in_ok-fault.ensures
    ∙ c.in-Some.is)

pub returns : goal.returns
returns c = together c.args.arguments c.args.classes.now c.args.declared.now _ (sym c.in_ok-fault.ensures
    ∙ c.in-None.is) c.meant_by.ensures
