use Rattle.std.proofs.Common.{◌∙◌}
use Rattle.at_demand.proofs.Questioned.{no_level, searched_none, searched_some}
use Rattle.at_demand.proofs.question.Question.search.Goals as goal

pub returns-in_ok-new-clause-searched : goal.returns-in_ok-new-clause-searched
returns-in_ok-new-clause-searched c =
    let s = c.new-search.ensures in
    searched_none c.args.self.now c.in_ok-new.field-0 c.new-search.result (no_level c.args.self.now.level c.is_none.result c.is_none.ensures c.if-is_none.true)
    c.in_ok-new.ensures.ok (s.root ∙ c.in_ok-copy.ensures) s.seen s.todo s.fault

pub returns-else-is_none-clause-searched : goal.returns-else-is_none-clause-searched
returns-else-is_none-clause-searched c = searched_some c.args.self.now c.is_none.result c.is_none.ensures c.if-is_none.false
