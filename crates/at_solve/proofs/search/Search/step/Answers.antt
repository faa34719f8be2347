use Rattle.std.proofs.Common.{refl, arith, length}
use Rattle.at_solve.proofs.Stepping.{popped_search, popped_lead}
use Rattle.at_solve.proofs.search.Search.step.Goals as goal

pub look_at-requires-clause-searches : goal.look_at-requires-clause-searches
look_at-requires-clause-searches c = popped_search c.args.edges.now c.args.self.now (record { marks = c.args.self.now.marks; path = c.args.self.now.path; todo = c.pop.new.self; groups = c.args.self.now.groups; lists = c.args.self.now.lists })
    c.in-Some.node c.requires.last.0 c.args.group c.requires.last.1 c.requires.last.2 c.in-Some.ensures.items (omega (arith, c.if-len-group.false, c.len.ensures, c.args.self.now.todo.ok.0))
    refl refl refl refl c.requires.searches

pub look_at-requires-clause-lead : goal.look_at-requires-clause-lead
look_at-requires-clause-lead c = popped_lead c.args.edges.now (length c.args.edges.now) c.args.self.now.marks.items c.args.self.now.path.items c.args.self.now.todo.items c.pop.new.self.items
    c.args.self.now.groups.items c.in-Some.node c.requires.last.0 c.args.group c.requires.searches.path c.requires.last.1 c.requires.last.2 c.in-Some.ensures.items
    (omega (arith, c.if-len-group.false, c.len.ensures, c.args.self.now.todo.ok.0))
