use Rattle.std.proofs.Common.{◌≡◌, ℕ}
use Rattle.std.specs.Prelude.{◌||◌}
use Rattle.std.specs.List.{list_any}
use Rattle.at_typing.specs.AttributeKeys.{is_key}
use Rattle.at_typing.specs.Numbering.{line}
use Rattle.at_typing.specs.Twice.{has_key}
use Rattle.at_typing.specs.declared.numbered.NamedClass.{NamedClass}
use Rattle.at_typing.proofs.Lines.{line_from}
use Rattle.at_typing.proofs.checks.twice.insert_line.Given as goal

abbrev pub invariant-loop-step : goal.invariant-loop-step
invariant-loop-step l = (c : NamedClass) (n : ℕ)
    → (has_key l.keys.keys n c || list_any (λ b. is_key c n (b, l.name)) (line_from l.classes l.step l.next))
    ≡ (has_key l.fn.keys.keys n c || list_any (λ b. is_key c n (b, l.name)) (line l.classes l.fn.class))
