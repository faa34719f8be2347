use Rattle.at_tree.specs.View.{term_view}
use Rattle.at_tree.proofs.TermFrontsLemmas.{whole}
use Rattle.at_tree.proofs.term.direct.whole_term.Goals as goal

pub returns-then-is_empty : goal.returns-then-is_empty
returns-then-is_empty c = whole c.args.text.now c.take_term.new.front.rest.now (term_view c.in_ok-term.term) _ c.in_ok-term.ensures c.is_empty.ensures c.if-is_empty.true
