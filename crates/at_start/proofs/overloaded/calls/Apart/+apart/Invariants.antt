use Rattle.std.proofs.Common.{◌≡◌, map, take}
use Rattle.at_jrag.specs.View.{expr_view}
use Rattle.at_start.specs.Overloading.{apart}
use Rattle.at_start.specs.Pairs.{overloaded_in}
use Rattle.at_start.proofs.overloaded.calls.Apart.+apart.Given as goal

-- those in front are told apart
abbrev pub invariant-list-loop-expr : goal.invariant-list-loop-expr
invariant-list-loop-expr l = map expr_view l.copies.items ≡ map (λ e. apart (overloaded_in l.self.pairs) (expr_view e)) (take l.expr-index l.exprs)
