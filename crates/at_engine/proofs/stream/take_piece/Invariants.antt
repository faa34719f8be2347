use Rattle.std.proofs.Common.{false, ◌≡◌, ◌++◌, List, ℕ, Ok, length}
use Rattle.at_engine.specs.Going.{Goes, SendsEach, unsaid}
use Rattle.at_engine.proofs.of_turns.Waiting.{MayWait}
use Rattle.at_engine.specs.Loop.{IsOpen, kept}
use Rattle.at_engine.specs.Taking.{Takes}
use Rattle.at_engine.specs.Keeping.{IsSpare}
use Rattle.at_engine.specs.KeepingRuns.{KeepsBytes}
use Rattle.at_engine.specs.Engines.{state_of, rules_of, slice_of}
use Rattle.at_engine.proofs.stream.take_piece.Given as goal

-- the bytes so far were taken
abbrev pub invariant-loop-line : goal.invariant-loop-line
invariant-loop-line g l =
    let contents = g.W.Output.contents in
    (done : List ℕ) × record {
      split : l.piece ≡ done ++ l.rest;
      taken : (front : List ℕ) → IsOpen front → l.fn.desk.line.items ≡ kept front
          → Takes (rules_of l.fn.engine) (slice_of l.fn.engine) (state_of l.fn.engine) front done (state_of l.engine) l.fn.desk l.desk (contents l.fn.writer) (contents l.writer);
      keeps : IsSpare g.K.Keeper.contents l.fn.engine → l.desk.memory ≡ l.fn.desk.memory → (front : List ℕ) → IsOpen front
          → l.fn.desk.line.items ≡ kept front → KeepsBytes g.K.Keeper.contents front done l.fn.engine l.engine l.desk;
      goes : Goes {T = Unit {0}} g.K.Keeper.contents g.K.Keeper.memories g.W.Output.failed unsaid l.fn.engine l.engine l.fn.desk l.desk l.fn.writer l.writer (length done) (Ok tt);
      each : l.fn.gathers ≡ false
          → SendsEach g.K.Keeper.contents g.K.Keeper.memories g.W.Output.contents g.W.Output.failed
          g.W.Output.waits
          l.fn.engine l.fn.writer l.engine l.writer;
      sent : g.W.Output.waits l.fn.writer ≡ false → MayWait l.rest (g.W.Output.waits l.writer);
    }

abbrev pub decreases-loop-line : goal.decreases-loop-line
decreases-loop-line g l = length l.rest
