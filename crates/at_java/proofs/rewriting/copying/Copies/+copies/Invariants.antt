use Rattle.std.proofs.Common.{◌≡◌, map, take, ◌+◌, ◌*◌}
use Rattle.at_jrag.specs.View.{expr_view}
use Rattle.at_java.specs.Naming.{named}
use Rattle.at_java.specs.Found.{names_of}
use Rattle.at_java.proofs.rewriting.Depths.{cost}
use Rattle.at_java.proofs.rewriting.copying.Copies.+copies.Given as goal

abbrev pub decreases-boxed : goal.decreases-boxed
decreases-boxed l = 3 * (goal.size-boxed l + cost l.self.now.found) + 2

abbrev pub decreases-expr : goal.decreases-expr
decreases-expr l = 3 * (goal.size-expr l + cost l.self.now.found) + 1

abbrev pub decreases-list : goal.decreases-list
decreases-list l = 3 * (goal.size-list l + cost l.self.now.found) + 2

abbrev pub decreases-name : goal.decreases-name
decreases-name l = 3 * cost l.self.now.found

abbrev pub invariant-list-loop-expr : goal.invariant-list-loop-expr
invariant-list-loop-expr l = map expr_view l.copies.items ≡ map (λ e. named (names_of l.self.found) (expr_view e)) (take l.expr-index l.exprs)
