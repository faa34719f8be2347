use Rattle.std.proofs.Common.{◌≡◌, ◌++◌, map, drop}
use Rattle.at_jrag.specs.View.{param_view}
use Rattle.at_typing.specs.Ruling.{as_written, first_named, words_view, written_kind}
use Rattle.at_typing.proofs.written.kinds_of.Given as goal

abbrev pub invariant-loop-param : goal.invariant-loop-param
invariant-loop-param l = l.kinds.items ++ map (λ p. written_kind l.classes (words_view l.words) p.kind.kind)
    (map param_view (drop l.param-index l.params))
    ≡ map (λ p. written_kind l.classes (words_view l.words) p.kind.kind) (map param_view l.params)
