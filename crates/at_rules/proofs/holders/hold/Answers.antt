use Rattle.std.proofs.Common.{◌∙◌, ap}
use Rattle.std.specs.Map.{keys_of}
use Rattle.at_rules.specs.Holding.{is_held}
use Rattle.at_rules.proofs.HoldingLemmas.{held_more}
use Rattle.at_rules.proofs.holders.hold.Goals as goal

pub returns : goal.returns
returns c = λ class name. ap (λ es. is_held (keys_of es) class name) c.in_ok-insert.ensures.entries ∙ held_more c.args.held.now.entries (c.args.class, c.args.name) _ class name
