use Rattle.std.proofs.Common.{◌≡◌, ◌++◌, List, ℕ, length, false}
use Rattle.std.specs.Io.KnownBytes.{Appends}
use Rattle.at_engine.specs.Ends.{Remembers}
use Rattle.at_engine.proofs.stream.write_whole.Given as goal

-- what was written is the front of the bytes
abbrev pub invariant-loop-rest : goal.invariant-loop-rest
invariant-loop-rest g l =
    let contents = g.W.Output.contents in
    record {
      written : (front : List ℕ) × (l.bytes ≡ front ++ l.rest) × Appends (contents l.fn.writer) (contents l.writer) front;
      failed : Remembers (g.W.Output.failed l.fn.writer) (g.W.Output.failed l.writer) false;
    }

abbrev pub decreases-loop-rest : goal.decreases-loop-rest
decreases-loop-rest g l = length l.rest
