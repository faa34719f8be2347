use Rattle.std.proofs.Common.{◌≡◌, ◌++◌, OnOk, subst}
use Rattle.at_model.specs.Terms.{tree_text}
use Rattle.at_model.specs.Trees.{Tree}
use Rattle.at_store.proofs.Reading.{below_grown}
use Rattle.at_store.proofs.store.Store.write_term.Goals as goal

pub returns-clause-ok : goal.returns-clause-ok
returns-clause-ok c n u p is = subst (λ (x : Tree).
    OnOk c.write_tree.result (c.write_tree.new.out.items ≡ c.args.out.now.items ++ tree_text c.args.classes.now x))
    (below_grown c.args.self.now c.requires c.args.node n u p is) c.write_tree.ensures.ok
