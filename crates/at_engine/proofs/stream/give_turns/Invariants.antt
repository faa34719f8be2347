use Rattle.std.proofs.Common.{◌≡◌, ◌-◌, ◌≤◌, [], Ok}
use Rattle.at_engine.specs.Engines.{rules_of, slice_of, state_of}
use Rattle.at_engine.specs.Going.{Goes}
use Rattle.at_engine.specs.Taking.{Gives}
use Rattle.at_engine.proofs.stream.give_turns.Given as goal

-- all turns were given but those that are left
abbrev pub invariant-loop-left : goal.invariant-loop-left
invariant-loop-left g l =
    let contents = g.W.Output.contents in
    record {
      within : l.left ≤ slice_of l.fn.engine;
      gives : Gives (rules_of l.fn.engine) (slice_of l.fn.engine - l.left) (state_of l.fn.engine) (state_of l.engine) l.fn.desk l.desk (contents l.fn.writer) (contents l.writer);
      none : (state_of l.fn.engine).posted ≡ [] → l.engine ≡ l.fn.engine;
      line : l.desk.line.items ≡ l.fn.desk.line.items;
      goes : Goes {T = Unit {0}} g.K.Keeper.contents g.K.Keeper.memories g.W.Output.failed g.W.Output.waits l.fn.engine l.engine l.fn.desk l.desk l.fn.writer l.writer 0 (Ok tt);
    }

abbrev pub decreases-loop-left : goal.decreases-loop-left
decreases-loop-left g l = l.left
