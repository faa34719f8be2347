use Rattle.at_evict.proofs.Common.{◌∙◌, sym, slots_at, memory_of}
use Rattle.at_evict.proofs.of_folding.Gathering.{is_none}
use Rattle.at_evict.proofs.of_folding.Relinking.{relinks_nothing, relinks_same}
use Rattle.at_evict.proofs.relinking.relink_at.Goals as goal

pub returns-then-not-does_stay : goal.returns-then-not-does_stay
returns-then-not-does_stay c = relinks_nothing _ c.args.slot _ (is_none _ c.args.slot (sym c.does_stay.ensures ∙ c.if-not-does_stay.true))

pub returns-then-is_settled : goal.returns-then-is_settled
returns-then-is_settled c =
    relinks_same _ c.args.slot (memory_of c.args.entries.now) (c.is_settled.ensures (slots_at c.args.plan.now) c.requires.lone c.if-is_settled.true)
