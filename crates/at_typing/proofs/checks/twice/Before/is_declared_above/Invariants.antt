use Rattle.std.proofs.Common.{◌≡◌}
use Rattle.std.specs.List.{list_any}
use Rattle.at_typing.specs.Numbering.{line}
use Rattle.at_typing.specs.Twice.{has_key}
use Rattle.at_typing.proofs.Lines.{line_from}
use Rattle.at_typing.proofs.checks.twice.Before.is_declared_above.Given as goal

abbrev pub invariant-loop-step : goal.invariant-loop-step
invariant-loop-step l = list_any (has_key l.self.declared.keys l.name) (line l.classes l.fn.class) ≡ list_any (has_key l.self.declared.keys l.name) (line_from l.classes l.step l.next)
