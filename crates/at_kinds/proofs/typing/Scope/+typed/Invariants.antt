use Rattle.std.proofs.Common.{◌≡◌, map, drop}
use Rattle.at_jrag.specs.Syntax.{to_exprs}
use Rattle.at_jrag.specs.View.{expr_view}
use Rattle.at_kinds.specs.Judging.{judged_all}
use Rattle.at_kinds.specs.Typed.{typed_view, scope_view}
use Rattle.at_kinds.proofs.Parts.{behind}
use Rattle.at_kinds.proofs.typing.Scope.+typed.Given as goal

abbrev pub invariant-typed_all-loop-expr : goal.invariant-typed_all-loop-expr
invariant-typed_all-loop-expr l = judged_all (scope_view l.self) (to_exprs (map expr_view l.exprs)) ≡ behind
    (map typed_view l.all.items) (judged_all (scope_view l.self) (to_exprs (map expr_view (drop l.expr-index l.exprs))))
