use Rattle.std.proofs.Common.{◌∙◌, ap, subst, refl, arith, length, take}
use Rattle.std.proofs.lemmas.List.{take_all}
use Rattle.at_solve.specs.Searching.{HasListed}
use Rattle.at_solve.proofs.Leaving.{one_more_listed}
use Rattle.at_solve.proofs.search.Search.mark_listed.Goals as goal

pub loop-node-init : goal.loop-node-init
loop-node-init c = record {
  listed = record { size = refl; listed = λ u h room. absurd h; others = λ u off. refl };
  path = refl;
  todo = refl;
  groups = refl;
  lists = refl;
}

pub loop-node-preserved : goal.loop-node-preserved
loop-node-preserved c = record {
  listed = one_more_listed c.args.nodes.now c.loop-node.node-index _ c.args.self.now.marks.items c.loop-node.self.marks.items c.list.new.self.marks.items c.loop-node-test.true
      c.loop-node.invariant.listed c.list.ensures.size c.list.ensures.listed c.list.ensures.others;
  path = c.list.ensures.path ∙ c.loop-node.invariant.path;
  todo = c.list.ensures.todo ∙ c.loop-node.invariant.todo;
  groups = c.list.ensures.groups ∙ c.loop-node.invariant.groups;
  lists = c.list.ensures.lists ∙ c.loop-node.invariant.lists;
}

pub returns-clause-listed : goal.returns-clause-listed
returns-clause-listed c = subst (λ ns. HasListed ns c.args.self.now.marks.items c.loop-node.self.marks.items) (take_all c.loop-node.node-index c.args.nodes.now c.loop-node-test.false) c.loop-node.invariant.listed
