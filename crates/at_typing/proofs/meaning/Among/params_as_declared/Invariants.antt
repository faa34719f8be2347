use Rattle.std.proofs.Common.{◌≡◌, map, drop}
use Rattle.at_jrag.specs.View.{param_view}
use Rattle.at_typing.specs.Ruling.{as_declared}
use Rattle.at_typing.proofs.meaning.Among.params_as_declared.Given as goal

abbrev pub invariant-loop-position : goal.invariant-loop-position
invariant-loop-position l = as_declared l.self.arguments l.self.classes.now l.declared l.params.end 0
    (map param_view l.params.items.items) ≡ as_declared l.self.arguments l.self.classes.now l.declared l.params.end
    l.position
    (map param_view (drop l.position l.params.items.items))
