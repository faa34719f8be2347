use Rattle.std.proofs.Common.{map}
use Rattle.at_text.specs.Front.{FitsNone}
use Rattle.at_text.proofs.scan.front.past_first.Given as goal

abbrev pub invariant-loop-front : goal.invariant-loop-front
invariant-loop-front l = FitsNone (map (λ front. front.now) l.fronts) l.front-index l.text
