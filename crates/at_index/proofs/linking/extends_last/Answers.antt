use Rattle.at_index.proofs.Common.{◌≡◌, ◌∙◌, arith, ap, length, suc, edges_along}
use Rattle.at_index.proofs.RowLists.{last_longer}
use Rattle.at_index.proofs.linking.extends_last.Goals as goal

pub returns-in-Some-extended : goal.returns-in-Some-extended
returns-in-Some-extended c =
    let count = c.len.ensures.value in
    let last = c.in-Some.ensures in
    let long : length c.args.rows.now.items ≡ suc c.in-Some.place = omega (arith, count, last) in
    ap edges_along c.set_row.ensures ∙ last_longer c.args.rows.now.items c.as_slice.result.now c.in-Some.place _ c.in-Some-extended.row c.args.edge long c.as_slice.ensures c.in-Some-extended.ensures
