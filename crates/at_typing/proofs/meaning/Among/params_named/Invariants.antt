use Rattle.std.proofs.Common.{◌≡◌, ◌++◌, map, drop}
use Rattle.at_jrag.specs.View.{param_view}
use Rattle.at_kinds.specs.Judging.{Is, and_then}
use Rattle.at_typing.specs.Ruling.{params_named}
use Rattle.at_typing.proofs.meaning.Among.params_named.Given as goal

abbrev pub invariant-loop-position : goal.invariant-loop-position
invariant-loop-position l = params_named l.self.arguments l.self.classes.now 0 (map param_view l.params)
    ≡ and_then (λ ks.
    Is (l.kinds.items ++ ks)) (params_named l.self.arguments l.self.classes.now l.position
    (map param_view (drop l.position l.params)))
