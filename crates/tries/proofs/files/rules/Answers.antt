use Rattle.std.proofs.Common.{List, Vec, sym, subst}
use Rattle.std.specs.Global.{Global}
use Rattle.at_jrag.specs.declared.syntax.Aspect.{Aspect}
use Rattle.at_typing.specs.Located.{AreSpelled}
use Rattle.tries.proofs.files.rules.Goals as goal

pub returns-in-Ok : goal.returns-in-Ok
returns-in-Ok c = c.in-Ok.ensures.well_formed c.in_ok-classes.ensures (subst (λ (v : List (Vec Aspect Global)). AreSpelled v) (sym c.from_ref.ensures.value) (c.in_ok-aspects.ensures, tt))
