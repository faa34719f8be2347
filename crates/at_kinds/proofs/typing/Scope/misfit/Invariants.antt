use Rattle.std.proofs.Common.{◌≡◌, map, drop}
use Rattle.at_kinds.specs.Judging.{misfit}
use Rattle.at_kinds.specs.Typed.{typed_view}
use Rattle.at_kinds.proofs.typing.Scope.misfit.Given as goal

abbrev pub invariant-loop-i : goal.invariant-loop-i
invariant-loop-i l = misfit l.self.arguments l.self.classes.now (map typed_view l.arguments) l.params
    ≡ misfit l.self.arguments l.self.classes.now (map typed_view (drop l.i l.arguments)) (drop l.i l.params)
