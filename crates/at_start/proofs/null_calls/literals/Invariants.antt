use Rattle.std.proofs.Common.{◌≡◌, ◌++◌, drop, map}
use Rattle.at_jrag.specs.View.{expr_view, param_view}
use Rattle.at_start.specs.NullCalls.{literal_for}
use Rattle.at_start.proofs.null_calls.literals.Given as goal

-- those for the parameters that are left are still to come
abbrev pub invariant-loop-param : goal.invariant-loop-param
invariant-loop-param l =
    map expr_view l.all.items ++ map literal_for (map param_view (drop l.param-index l.params)) ≡ map literal_for (map param_view l.params)
