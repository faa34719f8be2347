use Rattle.std.proofs.Common.{◌≡◌, ◌++◌, map, drop}
use Rattle.at_typing.specs.Meanings.{results}
use Rattle.at_typing.specs.Ruling.{words_view}
use Rattle.at_typing.specs.Numbering.{numbered_view}
use Rattle.at_typing.proofs.written.results_of.Given as goal

abbrev pub invariant-loop-numbered : goal.invariant-loop-numbered
invariant-loop-numbered l = words_view l.words.items ++ results (map numbered_view (drop l.numbered-index l.declared)) ≡ results (map numbered_view l.declared)
