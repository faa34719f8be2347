use Rattle.at_rules.proofs.holders.Holders.of.Goals as goal

pub returns-in-Ok : goal.returns-in-Ok
returns-in-Ok c = c.over.ensures c.args.inherited.now.entries c.in-Ok.ensures
