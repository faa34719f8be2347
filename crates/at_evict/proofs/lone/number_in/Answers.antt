use Rattle.at_evict.proofs.Common.{◌∙◌, ap, option_map, refl, sym, info, memory_of, current}
use Rattle.at_evict.proofs.lone.number_in.Goals as goal

pub returns-then-not-is_only : goal.returns-then-not-is_only
returns-then-not-is_only c differs = absurd (differs refl)

pub returns-in-Some : goal.returns-in-Some
returns-in-Some c differs = (
  current (memory_of c.args.entries.now) (record { slot = c.args.slot; stamp = c.in-Some.entry.now.stamp }) _ (ap (option_map info) (sym c.in-Some.ensures)) refl,
  sym c.slots_at.ensures ∙ c.is_only.ensures c.if-not-is_only.false,
)

pub returns-in-None : goal.returns-in-None
returns-in-None c differs = absurd (differs refl)
