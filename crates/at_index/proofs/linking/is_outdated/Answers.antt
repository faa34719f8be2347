use Rattle.at_index.proofs.Common.{◌∙◌, [], sym}
use Rattle.at_index.proofs.RowLists.{keeps_rest}
use Rattle.at_index.proofs.linking.is_outdated.Goals as goal

pub returns : goal.returns
returns g c _ = keeps_rest c.in-Some.only [] c.in-Some.ensures (sym c.tells_of.ensures ∙ c.if-tells_of.false)
