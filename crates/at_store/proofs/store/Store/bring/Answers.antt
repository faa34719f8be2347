use Rattle.std.proofs.Common.{refl}
use Rattle.at_tree.specs.TreeView.{tree_view}
use Rattle.at_store.specs.View.{stored_of}
use Rattle.at_store.proofs.Arranged.{planted_arranged}
use Rattle.at_store.proofs.store.Store.bring.Goals as goal

pub returns-clause-brought : goal.returns-clause-brought
returns-clause-brought c =
    let (w, number, planted) = c.in_ok-new.ensures.planted in
    ((w, number, planted_arranged (stored_of c.args.self.now.slab) (stored_of c.plant.new.slab) (tree_view c.args.tree) w planted), refl, (refl, refl, refl))
