use Rattle.at_cache.proofs.Common.{◌∙◌, sym, ap, option_map, get}
use Rattle.at_cache.proofs.Moving.{at_none, at_some}
use Rattle.at_cache.proofs.table.Table.pair.Goals as goal

pub returns-in_err-place : goal.returns-in_err-place
returns-in_err-place c = ap (option_map (λ e. (e.0.now, e.1.now))) c.from_residual.ensures ∙ sym (at_none c.args.self.now.entries.entries (get c.args.self.now.places) c.args.slot (sym c.in_err-place.ensures))

pub returns : goal.returns
returns c = c.get_index.ensures.entry ∙ sym (at_some c.args.self.now.entries.entries (get c.args.self.now.places) c.args.slot _ (sym c.in_ok-place.ensures))
