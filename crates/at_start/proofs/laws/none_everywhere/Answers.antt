use Rattle.std.proofs.Common.{ap}
use Rattle.at_start.specs.Overloading.{told_apart}
use Rattle.at_start.specs.Redeclaring.{read_below}
use Rattle.at_start.proofs.Overloads.{none_everywhere_apart}
use Rattle.at_start.proofs.Spreads.{none_spread}
use Rattle.at_start.proofs.laws.none_everywhere.Goals as goal

pub returns : goal.returns
returns c classes files are = ap (read_below classes) (none_spread classes (told_apart classes files) (none_everywhere_apart classes files are))
