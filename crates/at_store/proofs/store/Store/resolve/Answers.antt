use Rattle.std.proofs.Common.{◌≡◌, Some, sym, ap, ◌∙◌, subst, option_map}
use Rattle.at_model.specs.Trees.{Tree}
use Rattle.at_tree.specs.PathView.{steps_view}
use Rattle.at_store.specs.Led.{Led}
use Rattle.at_store.specs.Memory.{class_in}
use Rattle.at_store.specs.Numbers.{relabel}
use Rattle.at_store.specs.Shown.{numbers}
use Rattle.at_store.specs.View.{memory_of}
use Rattle.at_store.proofs.Found.{number_found}
use Rattle.at_store.proofs.Relabelled.{relabelled-tree_at}
use Rattle.at_store.proofs.store.Store.resolve.Goals as goal

pub returns : goal.returns
returns c n u p is =
    let s = numbers c.args.self.now in
    let f = class_in (memory_of c.args.self.now.slab) in
    let (v, at', number) = number_found s c.args.from n p in
    let same : relabel f v ≡ u = (let e : Some (relabel f v) ≡ Some u = sym (relabelled-tree_at f s n ∙ ap (option_map (relabel f)) at') ∙ is in cc) in
    subst (λ (x : Tree). Led s c.args.classes.now n x (steps_view c.args.steps.now) c.walk.result) same (c.walk.ensures s n v c.requires.keeps p at')
