use Rattle.at_index.proofs.Replaced.{row_comes, row_inside}
use Rattle.at_index.proofs.linking.replaces_outdated.Goals as goal

pub set_row-requires : goal.set_row-requires
set_row-requires g c = row_inside c.in-Some.place c.as_slice.ensures c.in-Some.ensures

pub returns-in-Some : goal.returns-in-Some
returns-in-Some g c =
    row_comes c.in-Some.place c.of.result c.args.edge c.as_slice.ensures c.in-Some.ensures c.of.ensures c.set_row.ensures
