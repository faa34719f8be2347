use Rattle.std.proofs.Common.{◌≡◌, ◌++◌, map, drop}
use Rattle.at_jrag.specs.View.{param_view}
use Rattle.at_typing.specs.Ruling.{bound}
use Rattle.at_kinds.specs.Typed.{bound_view}
use Rattle.at_typing.proofs.meaning.Among.names.Given as goal

abbrev pub invariant-loop-param : goal.invariant-loop-param
invariant-loop-param l = map bound_view l.names.items ++ map (bound l.self.classes.now) (map param_view (drop l.param-index l.params)) ≡ map (bound l.self.classes.now) (map param_view l.params)
