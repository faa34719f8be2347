use Rattle.at_evict.proofs.Common.{◌∙◌, ap, option_map, sym, on_ok_weaker, info}
use Rattle.at_evict.proofs.of_folding.Linking.{from_entry, from_itself, from_nothing}
use Rattle.at_evict.proofs.refolding.Refolding.link_from.Goals as goal

pub returns-in-Some : goal.returns-in-Some
returns-in-Some c =
    on_ok_weaker c.link_each.result
    (λ a. from_entry c.args.slot _ (ap (option_map info) (sym c.in-Some.ensures)) a) (rw (c.slots_at-targets.ensures, c.as_slice.ensures) at c.link_each.ensures)

pub returns-in-None : goal.returns-in-None
returns-in-None c = from_nothing c.args.slot _ (ap (option_map info) (sym c.in-None.ensures))

pub returns-then-is_only : goal.returns-then-is_only
returns-then-is_only c = from_itself c.args.slot _ (sym c.slots_at-targets.ensures ∙ c.is_only.ensures c.if-is_only.true)
