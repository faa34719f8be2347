use Rattle.std.proofs.Common.{◌∙◌, sym}
use Rattle.at_tree.specs.View.{term_view}
use Rattle.at_tree.proofs.TextLaws.{one_term_each}
use Rattle.at_tree.proofs.reader.read.read_term.Goals as goal

pub returns-in-Ok-clause-only : goal.returns-in-Ok-clause-only
returns-in-Ok-clause-only c = λ t fits is. one_term_each (term_view c.in-Ok.term) t c.in-Ok.ensures.0 fits (c.in-Ok.ensures.1 ∙ sym is)
