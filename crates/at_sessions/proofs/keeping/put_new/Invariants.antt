use Rattle.std.proofs.Common.{ℕ, Contains, take}
use Rattle.std.specs.Prelude.{IsSome}
use Rattle.at_model.specs.Run.{Instance}
use Rattle.at_sessions.proofs.keeping.put_new.Given as goal

abbrev pub invariant-loop-used : goal.invariant-loop-used
invariant-loop-used g l = (u : Instance ℕ) → Contains (take l.used-index l.uses) u → IsSome (g.K.Keeper.contents l.keeper u)
