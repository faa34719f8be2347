use Rattle.at_cache.proofs.Common.{◌∙◌, sym}
use Rattle.at_cache.proofs.Came.{none_by}
use Rattle.at_cache.proofs.table.Table.get.Goals as goal

pub returns-then-not-has_come : goal.returns-then-not-has_come
returns-then-not-has_come c =
    let none_came = rw (c.as_slice.ensures.value, c.index.ensures, c.attribute.ensures) at (sym c.has_come.ensures ∙ c.if-not-has_come.true) in
    record { value = sym (none_by _ (c.args.self.now.come c.args.instance.now none_came)) }
