use Rattle.std.proofs.Common.{◌≡◌, drop, map, string_bytes}
use Rattle.at_jrag.specs.View.{param_view}
use Rattle.at_start.specs.Redeclaring.{with_kinds}
use Rattle.at_start.proofs.redeclared.with_kinds.Given as goal

-- those of the parameters that are left are still to come
abbrev pub invariant-loop-param : goal.invariant-loop-param
invariant-loop-param l = with_kinds (string_bytes l.text) (map param_view (drop l.param-index l.params)) ≡ with_kinds
    l.name (map param_view l.params)
