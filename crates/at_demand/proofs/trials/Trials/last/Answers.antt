use Rattle.std.proofs.Common.{refl, sym, ◌∙◌}
use Rattle.at_demand.proofs.trials.Trials.last.Goals as goal

pub returns : goal.returns
returns c = record {
  awaited = sym c.replace.ensures.value ∙ c.in-Some.is;
  frames = c.in-Some-pop.ensures.items;
  none = c.replace.ensures.after;
  noted = refl;
}
