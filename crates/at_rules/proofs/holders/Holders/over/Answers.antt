use Rattle.at_rules.proofs.HoldingLemmas.{holders_right}
use Rattle.at_rules.proofs.holders.Holders.over.Goals as goal

pub returns : goal.returns
returns c = λ es same. holders_right c.args.classes.now c.new-table.ensures.hierarchy c.new-table.ensures.sound.some es c.args.held.entries c.new-table.result.rows.items same c.new-table.ensures.right
