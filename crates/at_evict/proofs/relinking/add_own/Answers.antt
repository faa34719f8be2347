use Rattle.at_evict.proofs.Common.{◌∙◌, ap, option_map, subst, sym, none-some, same_Some, on_ok_weaker, Linked, slots_at, Info, info}
use Rattle.at_evict.proofs.relinking.add_own.Goals as goal

pub returns-in-Some : goal.returns-in-Some
returns-in-Some c =
    on_ok_weaker c.add_links.result
    (λ a e there. subst (λ (i : Info). Linked (slots_at c.args.plan.now) i.links c.args.list.now.items c.add_links.new.list.items)
    (same_Some _ e (sym (ap (option_map info) (sym c.in-Some.ensures)) ∙ there)) a) (rw c.as_slice.ensures at c.add_links.ensures)

pub returns-in-None : goal.returns-in-None
returns-in-None c e there = absurd (none-some e (ap (option_map info) c.in-None.ensures ∙ there))
