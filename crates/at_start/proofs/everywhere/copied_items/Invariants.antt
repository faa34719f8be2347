use Rattle.std.proofs.Common.{◌≡◌, ◌++◌, drop, map}
use Rattle.at_jrag.specs.View.{param_view}
use Rattle.at_start.proofs.everywhere.copied_items.Given as goal

-- those of the parameters that are left are still to come
abbrev pub invariant-loop-param : goal.invariant-loop-param
invariant-loop-param l = map param_view l.all.items ++ map param_view (drop l.param-index l.params) ≡ map param_view l.params
