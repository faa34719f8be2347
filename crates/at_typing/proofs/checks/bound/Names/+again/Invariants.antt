use Rattle.std.proofs.Common.{◌≡◌}
use Rattle.at_typing.specs.Bound.{names_view}
use Rattle.at_typing.proofs.Binding.{among_from}
use Rattle.at_typing.proofs.checks.bound.Names.+again.Given as goal

abbrev pub invariant-is_bound_among-loop-argument : goal.invariant-is_bound_among-loop-argument
invariant-is_bound_among-loop-argument l = (names_view l.self ≡ names_view l.fn.self)
    × (among_from (names_view l.fn.self) l.arguments 0 ≡ among_from (names_view l.fn.self) l.arguments l.argument-index)
