use Rattle.at_cache.proofs.Common.{option_map, value_view, memory_of}
use Rattle.at_cache.proofs.of_cut.Losing.{compared_other, compared_same}
use Rattle.at_cache.proofs.renewing.compare.Goals as goal

pub returns-then-has_value : goal.returns-then-has_value
returns-then-has_value c = compared_same c.args.slot (option_map value_view c.args.value.now) c.args.cut.now.standings.items (memory_of c.args.cut.now.entries) (c.has_value.ensures.same c.if-has_value.true)

pub returns : goal.returns
returns c = compared_other c.args.slot (option_map value_view c.args.value.now) c.args.cut.now c.doom_users.new.cut c.doom_users.result c.requires.idle c.doom_users.ensures
    (λ f there. c.has_value.ensures.other c.if-has_value.false f there)
