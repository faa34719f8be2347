use Rattle.std.proofs.Common.{◌≡◌, map, drop}
use Rattle.at_jrag.specs.View.{param_view}
use Rattle.at_typing.specs.Bound.{names_view, bound_after, texts_of}
use Rattle.at_typing.specs.Declaring.{is_repeated}
use Rattle.at_typing.proofs.checks.bound.Names.bind_all.Given as goal

abbrev pub invariant-loop-param : goal.invariant-loop-param
invariant-loop-param l =
    (is_repeated (names_view l.fn.self) (texts_of (map param_view l.params)) ≡ is_repeated (names_view l.self) (texts_of (map param_view (drop l.param-index l.params))))
    × (bound_after (names_view l.fn.self) (texts_of (map param_view l.params)) ≡ bound_after (names_view l.self) (texts_of (map param_view (drop l.param-index l.params))))
