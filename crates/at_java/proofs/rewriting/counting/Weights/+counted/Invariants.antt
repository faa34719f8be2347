use Rattle.std.proofs.Common.{◌≡◌, map, take}
use Rattle.std.specs.Prelude.{min}
use Rattle.at_jrag.specs.Syntax.{to_exprs}
use Rattle.at_jrag.specs.View.{expr_view}
use Rattle.at_java.specs.Naming.{counted_all}
use Rattle.at_java.proofs.rewriting.counting.Weights.+counted.Given as goal

abbrev pub invariant-list-loop-expr : goal.invariant-list-loop-expr
invariant-list-loop-expr l = l.count ≡ min (counted_all l.self.fold l.self.other (to_exprs (map expr_view (take l.expr-index l.exprs)))) 18446744073709551615
