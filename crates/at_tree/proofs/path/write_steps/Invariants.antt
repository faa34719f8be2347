use Rattle.std.proofs.Common.{◌≡◌, ◌≤◌, ◌++◌, take, vec_capacity}
use Rattle.at_tree.proofs.PathWritten.{steps_text}
use Rattle.at_tree.proofs.path.write_steps.Given as goal

abbrev pub invariant-loop-step : goal.invariant-loop-step
invariant-loop-step l = (l.out.items ≡ l.fn.out.items ++ steps_text (take l.step-index l.step-items)) × (vec_capacity l.fn.out ≤ vec_capacity l.out)
