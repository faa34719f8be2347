use Rattle.std.proofs.Common.{◌≡◌, ◌∙◌, List, Vec, ap, map, subst}
use Rattle.std.specs.Global.{Global}
use Rattle.at_jrag.specs.Syntax.{Aspect}
use Rattle.at_jrag.specs.declared.syntax.Aspect.{Aspect as AspectValue}
use Rattle.at_start.specs.Redeclaring.{Reads, fault_below, read_below}
use Rattle.at_start.specs.Spreading.{spread}
use Rattle.at_start.proofs.Rereading.{aspects_of}
use Rattle.at_start.proofs.redeclared.read_again.Goals as goal

pub returns : goal.returns
returns c =
    let classes = c.args.classes.now in
    subst (λ (fs : List (List Aspect)). Reads (fault_below classes fs)
    (λ (v : Vec (Vec AspectValue Global) Global). map aspects_of v.items ≡ read_below classes fs) c.read_below.result)
    (c.in_ok-files.ensures ∙ ap (spread classes) c.in_ok-apart.ensures) c.read_below.ensures
