use Rattle.std.proofs.Common.{◌≡◌, ◌∙◌, rules}
use Rattle.std.specs.Prelude.{is_some, nat_eq}
use Rattle.at_class.proofs.FirstUpward.{some_by}
use Rattle.at_class.proofs.table.ClassTable.climbs_to.Goals as goal

pub returns : goal.returns
returns c =
    let some : c.is_some.result ≡ is_some c.first_upward.result = search rules in
    some ∙ some_by _ (nat_eq c.args.above) (λ k found h. search rules) _ c.first_upward.result c.first_upward.ensures
