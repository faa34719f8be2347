use Rattle.std.proofs.Common.{Some, sym, ap, ◌∙◌}
use Rattle.at_model.specs.Classes.{is_sub}
use Rattle.tries.proofs.WorldsLemmas.{class_of_there}
use Rattle.tries.proofs.instances.is_below.Goals as goal

pub returns : goal.returns
returns c h = (
  c.class.result,
  class_of_there c.args.world.now.store c.args.node c.requires.there ∙ ap Some (sym c.class.ensures),
  ap (λ k. is_sub k c.class.result c.args.class) (sym c.classes-classes.ensures) ∙ sym c.is_sub.ensures ∙ h,
)
