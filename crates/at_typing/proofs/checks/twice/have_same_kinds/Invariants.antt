use Rattle.std.proofs.Common.{◌≡◌}
use Rattle.at_jrag.specs.View.{param_view}
use Rattle.at_typing.proofs.SameKinds.{same_from}
use Rattle.at_typing.proofs.checks.twice.have_same_kinds.Given as goal

abbrev pub invariant-loop-i : goal.invariant-loop-i
invariant-loop-i l = same_from param_view l.params l.others 0 ≡ same_from param_view l.params l.others l.i
