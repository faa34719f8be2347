use Rattle.at_cache.proofs.Common.{◌∙◌, sym}
use Rattle.at_cache.proofs.Shown.{looked_up}
use Rattle.at_cache.proofs.table.Table.get_near.Goals as goal

pub returns-then-eq : goal.returns-then-eq
returns-then-eq c = record {
  value = sym (looked_up c.args.self.now c.args.place c.in-Some.pair.0.now c.args.instance.now c.in-Some.pair.1.now
      (sym c.in-Some.ensures.entry) (sym c.eq.ensures ∙ c.if-eq.true));
}
