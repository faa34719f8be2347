use Rattle.std.proofs.Common.{List, ap}
use Rattle.at_jrag.specs.Syntax.{Aspect}
use Rattle.at_start.specs.Redeclaring.{read_below}
use Rattle.at_start.specs.Spreading.{spread}
use Rattle.at_start.proofs.Overloads.{none_told_apart}
use Rattle.at_start.proofs.laws.none_overloaded.Goals as goal

pub returns : goal.returns
returns c classes files are = ap (λ (fs : List (List Aspect)). read_below classes (spread classes fs)) (none_told_apart classes files are)
