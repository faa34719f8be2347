use Rattle.std.proofs.Common.{◌≡◌, ℕ, [], length, Ok}
use Rattle.at_engine.specs.Engines.{rules_of, state_of}
use Rattle.at_engine.specs.Going.{Goes}
use Rattle.at_engine.specs.Taking.{Gives}
use Rattle.at_engine.proofs.stream.drain.Given as goal

-- turns were given
abbrev pub invariant-loop-engine : goal.invariant-loop-engine
invariant-loop-engine g l =
    let contents = g.W.Output.contents in
    record {
      given : (turns : ℕ) × Gives (rules_of l.fn.engine) turns (state_of l.fn.engine) (state_of l.engine) l.fn.desk l.desk (contents l.fn.writer) (contents l.writer);
      none : (state_of l.fn.engine).posted ≡ [] → l.engine ≡ l.fn.engine;
      line : l.desk.line.items ≡ l.fn.desk.line.items;
      goes : Goes {T = Unit {0}} g.K.Keeper.contents g.K.Keeper.memories g.W.Output.failed g.W.Output.waits l.fn.engine l.engine l.fn.desk l.desk l.fn.writer l.writer 0 (Ok tt);
    }

abbrev pub decreases-loop-engine : goal.decreases-loop-engine
decreases-loop-engine g l = length (state_of l.engine).posted
