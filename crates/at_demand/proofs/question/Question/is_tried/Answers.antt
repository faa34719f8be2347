use Rattle.std.specs.Map.{keys_of}
use Rattle.at_demand.proofs.Questioned.{last_tried, waits_tried}
use Rattle.at_demand.proofs.question.Question.is_tried.Goals as goal

pub returns-then-eq : goal.returns-then-eq
returns-then-eq c =
    let q = c.args.self.now in
    last_tried c.eq.result (keys_of q.waiting.entries) c.args.inst.now q.inst c.eq.ensures c.if-eq.true

pub returns-else-eq : goal.returns-else-eq
returns-else-eq c =
    let q = c.args.self.now in
    waits_tried c.holds.result c.eq.result (keys_of q.waiting.entries) c.args.inst.now q.inst c.eq.ensures c.if-eq.false c.holds.ensures
