use Rattle.std.proofs.Common.{◌∙◌, ◌≡◌, ◌++◌, ◌∷◌, ℕ, List, [], ap, sym, subst, arith, length, take, drop}
use Rattle.at_solve.specs.Searching.{HasListed}
use Rattle.at_solve.specs.declared.search.Group.{Group}
use Rattle.at_solve.proofs.Leaving.{left_search, left_met, left_weight}
use Rattle.at_solve.proofs.search.Search.leave.Goals as goal

last : (c : goal.After-truncate) → c.saturating_sub-left.result ≡ c.requires.last.0
last c = omega (arith, c.saturating_sub-left.ensures, c.len.ensures, c.requires.last.2, ap length c.mark_listed.ensures.groups, c.mark_listed.new.self.groups.ok.0)

pub returns-clause-searches : goal.returns-clause-searches
returns-clause-searches c = λ edges s.
    let listed = subst (λ (ns : List ℕ). HasListed ns c.args.self.now.marks.items c.mark_listed.new.self.marks.items) c.as_slice.ensures.value c.mark_listed.ensures.listed in
    left_search edges c.args.self.now (record { marks = c.mark_listed.new.self.marks; path = c.mark_listed.new.self.path; todo = c.mark_listed.new.self.todo; groups = c.truncate.new.self; lists = c.push.new.self }) c.args.group c.requires.last.0 c.in_ok-nodes.nodes c.requires.last.1 c.requires.last.2 c.requires.nothing
    c.in_ok-nodes.ensures.tail listed (c.mark_listed.ensures.path ∙ c.in_ok-nodes.ensures.items) c.mark_listed.ensures.todo (c.truncate.ensures.items ∙ ap (λ m. take m c.mark_listed.new.self.groups.items) (last c) ∙ ap (take c.requires.last.0) c.mark_listed.ensures.groups) (c.in_ok-push.ensures.items ∙ ap (λ ls. ls ++ c.in_ok-nodes.nodes ∷ []) c.mark_listed.ensures.lists) s

pub returns-clause-met : goal.returns-clause-met
returns-clause-met c = λ edges s.
    let listed = subst (λ (ns : List ℕ). HasListed ns c.args.self.now.marks.items c.mark_listed.new.self.marks.items) c.as_slice.ensures.value c.mark_listed.ensures.listed in
    left_met edges c.args.self.now c.mark_listed.new.self.marks.items c.args.group c.in_ok-nodes.nodes c.in_ok-nodes.ensures.tail listed s

pub returns-clause-less : goal.returns-clause-less
returns-clause-less c = λ edges s.
    let listed = subst (λ (ns : List ℕ). HasListed ns c.args.self.now.marks.items c.mark_listed.new.self.marks.items) c.as_slice.ensures.value c.mark_listed.ensures.listed in
    left_weight edges c.args.self.now (record { marks = c.mark_listed.new.self.marks; path = c.mark_listed.new.self.path; todo = c.mark_listed.new.self.todo; groups = c.truncate.new.self; lists = c.push.new.self }) c.args.group c.requires.last.0 c.in_ok-nodes.nodes c.requires.last.2 c.in_ok-nodes.ensures.tail listed c.mark_listed.ensures.todo (c.truncate.ensures.items ∙ ap (λ m. take m c.mark_listed.new.self.groups.items) (last c) ∙ ap (take c.requires.last.0) c.mark_listed.ensures.groups) s
