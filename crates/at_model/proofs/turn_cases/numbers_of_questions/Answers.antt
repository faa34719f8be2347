use Rattle.std.proofs.Common.{◌<◌, [], Some, codes, refl, arith}
use Rattle.std.specs.Fmt.{digits}
use Rattle.at_model.specs.Lines.{Wait}
use Rattle.at_model.specs.SampleLines.{says}
use Rattle.at_model.proofs.of_machines.Played.{ends, line, unread}
use Rattle.at_model.proofs.of_texts.Unread.{nothing_awaited, no_zero}
use Rattle.at_model.proofs.turn_cases.numbers_of_questions.Goals as goal

pub returns-clause-zero : goal.returns-clause-zero
returns-clause-zero c = λ h. let some : 0 < 0 = h.0 in omega arith

pub returns-clause-first : goal.returns-clause-first
returns-clause-first c = (omega arith, omega arith)

pub returns-clause-last : goal.returns-clause-last
returns-clause-last c = (omega arith, omega arith)

pub returns-clause-past_last : goal.returns-clause-past_last
returns-clause-past_last c = λ h. omega (arith, h.1)

pub returns-clause-no_lines : goal.returns-clause-no_lines
unfolding digits
returns-clause-no_lines c =
    unread (Some 0) (nothing_awaited (codes "0") (no_zero [])) (record { exists = omega arith; rest = codes " wait 0"; front = refl; behind = refl }) refl
    (unread (Some 0) (nothing_awaited (codes "01") (no_zero (codes "1"))) (record { exists = omega arith; rest = codes " wait 01"; front = refl; behind = refl }) refl
    (line (says (Wait 1)) refl refl refl refl ends))
