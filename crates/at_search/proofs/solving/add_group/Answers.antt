use Rattle.at_search.proofs.Grouping.{comes_behind, stays_out}
use Rattle.at_search.proofs.solving.add_group.Goals as goal

pub returns-then-not-shut : goal.returns-then-not-shut
returns-then-not-shut c =
    stays_out c.shut.result c.args.group.now c.args.leave.now c.args.system.now c.shut.new.self c.args.solved.now.items
    c.if-not-shut.true c.shut.ensures

pub returns : goal.returns
returns c =
    comes_behind c.shut.result c.args.group.now c.args.leave.now c.args.system.now c.shut.new.self c.args.solved.now.items
    c.push.new.self.items c.in_ok-told.told c.if-not-shut.false c.shut.ensures c.in_ok-told.ensures c.in_ok-push.ensures.items
