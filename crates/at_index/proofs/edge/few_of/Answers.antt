use Rattle.at_index.proofs.Common.{◌∙◌, IfSome_then}
use Rattle.at_index.proofs.RowLists.{alone_along, none_along}
use Rattle.at_index.proofs.edge.few_of.Goals as goal

pub returns-in_default : goal.returns-in_default
returns-in_default c = none_along c.args.rows.now c.in_default.ensures.cases

pub returns-in-None : goal.returns-in-None
returns-in-None c =
    IfSome_then c.of_row.result c.of_row.ensures
    (λ edges is. is ∙ alone_along c.args.rows.now c.in-Some.others.now c.in-Some.row.now c.in-Some.ensures.cases.0 c.in-None.ensures.cases)
