use Rattle.std.proofs.Common.{◌∙◌, sym}
use Rattle.at_tree.specs.PathView.{path_view}
use Rattle.at_tree.proofs.Machine.{no_value}
use Rattle.at_tree.proofs.PathMachine.{path_machine}
use Rattle.at_tree.proofs.TextLaws.{one_path_each}
use Rattle.at_tree.proofs.path.read.read_path.Goals as goal

pub returns-in-Ok-clause-only : goal.returns-in-Ok-clause-only
returns-in-Ok-clause-only c = λ p fits is. one_path_each (path_view c.in-Ok.path) p c.in-Ok.ensures.found.0 fits (c.in-Ok.ensures.found.1 ∙ sym is)

pub returns-in-Err-For-clause-only : goal.returns-in-Err-For-clause-only
returns-in-Err-For-clause-only c =
    let stops = rw c.in-Err-For.field-0-is at c.in-Err-For.ensures.stops in
    λ p fits is. absurd (no_value path_machine c.args.text.now _ c.utf8.text stops.1 (p, fits, is))
