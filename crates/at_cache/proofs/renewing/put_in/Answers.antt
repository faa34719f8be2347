use Rattle.at_cache.proofs.Common.{◌∙◌, option_map, sym, on_ok_weaker, value_view, info, memory_of}
use Rattle.at_cache.proofs.of_cut.Losing.{entered_in, slot_free, slot_next}
use Rattle.at_cache.proofs.renewing.put_in.Goals as goal

pub enter-requires : goal.enter-requires
enter-requires c =
    let none = slot_free c.args.cut.now.entries c.args.inst c.args.entry.slot c.requires.slot
    (sym c.is_taken.ensures ∙ c.if-is_taken.false) in
    record { absent = none; slot = slot_next c.args.cut.now.entries c.args.inst c.args.entry.slot c.requires.slot none }

pub renew-requires-clause-there : goal.renew-requires-clause-there
renew-requires-clause-there c = sym c.is_taken.ensures ∙ c.if-is_taken.true

pub returns-clause-puts : goal.returns-clause-puts
returns-clause-puts c = on_ok_weaker c.enter.result
    (entered_in c.args.entry.slot c.args.inst (option_map value_view c.args.entry.value) c.args.entry.links.items
    c.args.entry.stamp c.args.cut.now.standings.items (memory_of c.args.cut.now.entries) (memory_of c.enter.new.self)
    (info (c.args.inst, c.args.entry)) c.requires.made) c.enter.ensures.enters
