use Rattle.std.proofs.Common.{◌≡◌, ◌+◌, ◌≤◌, ◌++◌, [], ◌∷◌, Some, None, length, codes, refl, arith}
use Rattle.std.specs.Fmt.{digits}
use Rattle.std.proofs.lemmas.List.{length-append}
use Rattle.at_model.specs.Lines.{Version}
use Rattle.at_model.specs.SampleLines.{says}
use Rattle.at_model.proofs.of_machines.Played.{ends, line, unread}
use Rattle.at_model.proofs.of_texts.Unread.{no_line, no_session, no_thousand, no_two_zeros, nothing_shown, no_byte, no_blank}
use Rattle.at_model.proofs.unread_cases.bytes_that_are_no_line.Goals as goal

pub returns-clause-sessions : goal.returns-clause-sessions
unfolding digits
returns-clause-sessions c =
    unread None (no_line (codes "1000") (codes " version") (refl, (refl, (refl, (refl, tt)))) refl no_thousand)
    (no_session (codes "1000") (codes " version") (refl, (refl, (refl, (refl, tt)))) refl no_thousand) refl
    (unread None (no_line (codes "00") (codes " version") (refl, (refl, tt)) refl no_two_zeros) (no_session (codes "00") (codes " version") (refl, (refl, tt)) refl no_two_zeros) refl
    (line (record (says Version) { session = 999 }) refl refl refl refl ends))

pub returns-clause-byte : goal.returns-clause-byte
unfolding digits
returns-clause-byte c =
    unread (Some 0) (nothing_shown (255 ∷ []) no_byte) (record { exists = omega arith; rest = codes " show " ++ 255 ∷ []; front = refl; behind = refl }) refl
    (unread (Some 0) (nothing_shown (codes "/ ") no_blank) (record { exists = omega arith; rest = codes " show / "; front = refl; behind = refl }) refl
    (line (says Version) refl refl refl refl ends))

pub returns-clause-long : goal.returns-clause-long
unfolding digits
returns-clause-long c = λ rest h. unread (Some 0)
    (λ l s. let e : length (codes "0 show /" ++ rest) ≡ 8 + length rest = length-append (codes "0 show /") rest in let k : length (codes "0 show /" ++ rest) ≤ 65535 = s.short in omega arith)
    (record { exists = omega arith; rest = codes " show /" ++ rest; front = refl; behind = refl }) refl ends
