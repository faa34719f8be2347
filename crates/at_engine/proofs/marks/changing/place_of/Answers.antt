use Rattle.at_engine.proofs.of_marks.Keys.{placed_for}
use Rattle.at_engine.proofs.marks.changing.place_of.Goals as goal

pub returns : goal.returns
returns c =
    placed_for c.lent.result c.args.session c.args.name.now c.lent.ensures.0 c.lent.ensures.1 c.args.items.now.entries c.get_index_of.ensures.unique c.get_index_of.result c.get_index_of.ensures.index
