use Rattle.std.proofs.Common.{◌≡◌, length, ◌-◌, ◌++◌}
use Rattle.at_model.specs.Classes.{chain_within}
use Rattle.at_class.specs.View.{classes_view}
use Rattle.at_class.proofs.chain.lineage.Given as goal

abbrev pub invariant-loop-step : goal.invariant-loop-step
invariant-loop-step l = chain_within (length l.classes) (classes_view l.classes) l.fn.from ≡ l.met.items ++ chain_within (length l.classes - l.step) (classes_view l.classes) l.next
