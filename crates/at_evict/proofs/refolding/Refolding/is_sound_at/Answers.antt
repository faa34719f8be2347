use Rattle.at_evict.proofs.Common.{ap, option_map, sym, ◌∙◌, none-some, info}
use Rattle.at_evict.proofs.of_folding.Walking.{folds_at}
use Rattle.at_evict.proofs.refolding.Refolding.is_sound_at.Goals as goal

pub returns-in-Some : goal.returns-in-Some
returns-in-Some c t = folds_at _ _ c.args.slot _ c.in-Some.entry.now (ap (option_map info) (sym c.in-Some.ensures)) (c.may_fold.ensures.below t) (c.may_fold.ensures.used t)

pub returns-in-None : goal.returns-in-None
returns-in-None c t e there = absurd (none-some e (ap (option_map info) c.in-None.ensures ∙ there))
