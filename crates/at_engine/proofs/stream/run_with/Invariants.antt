use Rattle.std.specs.Prelude.{false}
use Rattle.std.proofs.Common.{◌≡◌, ◌≤◌, ◌<◌, ◌^◌, ◌*◌, ◌+◌, List, ℕ, [], length}
use Rattle.std.specs.Io.KnownBytes.{Consumes}
use Rattle.at_engine.specs.Ends.{Counted, Remembers}
use Rattle.at_engine.specs.Going.{KeepWhole, SendsEach}
use Rattle.at_engine.specs.Taking.{Takes, countable}
use Rattle.at_engine.specs.Keeping.{IsSpare}
use Rattle.at_engine.specs.Stepping.{GoesBy}
use Rattle.at_engine.specs.KeepingRuns.{KeepsBytes}
use Rattle.at_engine.specs.Engines.{state_of, rules_of, settings_of, slice_of, IsSound}
use Rattle.at_engine.proofs.stream.run_with.Given as goal

-- the bytes that were read were taken; each read brought one at least
abbrev pub invariant-loop-turn : goal.invariant-loop-turn
invariant-loop-turn g l =
    let readable = g.R.Input.remaining in
    let contents = g.W.Output.contents in
    record {
      so_far : (input : List ℕ) × Consumes (readable l.fn.reader) (readable l.reader) input × (l.turn ≤ length input)
          × Takes (rules_of l.fn.engine) (slice_of l.fn.engine) (state_of l.fn.engine) [] input (state_of l.engine) l.initial.desk l.desk (contents l.fn.writer) (contents l.writer)
          × (IsSpare g.K.Keeper.contents l.fn.engine → l.desk.memory ≡ l.initial.desk.memory
          → KeepsBytes g.K.Keeper.contents [] input l.fn.engine l.engine l.desk);
      read : Remembers (g.R.Input.failed l.fn.reader) (g.R.Input.failed l.reader) false;
      ended : Remembers (g.R.Input.ended l.fn.reader) (g.R.Input.ended l.reader) false;
      reads : Counted (g.R.Input.reads l.fn.reader) (g.R.Input.reads l.reader) l.turn;
      written : Remembers (g.W.Output.failed l.fn.writer) (g.W.Output.failed l.writer) false;
      each : l.fn.gathers ≡ false
          → SendsEach g.K.Keeper.contents g.K.Keeper.memories contents g.W.Output.failed
          g.W.Output.waits l.fn.engine l.fn.writer l.engine l.writer;
      sent : g.W.Output.waits l.fn.writer ≡ false → g.W.Output.waits l.writer ≡ false;
      by : GoesBy g.K.Keeper.contents g.K.Keeper.memories l.fn.engine l.engine;
      spare : KeepWhole (rules_of l.fn.engine) l.initial.desk l.desk → IsSpare g.K.Keeper.contents l.fn.engine → IsSpare g.K.Keeper.contents l.engine;
      wanted : l.initial.desk.memory ≤ l.desk.memory;
      rules : rules_of l.engine ≡ rules_of l.fn.engine;
      settings : settings_of l.engine ≡ settings_of l.fn.engine;
      sound : IsSound g.K.Keeper.contents g.K.Keeper.memories l.engine;
      few : countable l.desk (state_of l.engine) ≤ l.turn * 24576 + length (state_of l.fn.engine).posted;
      open_few : length (state_of l.fn.engine).posted < 2 ^ 63;
    }
