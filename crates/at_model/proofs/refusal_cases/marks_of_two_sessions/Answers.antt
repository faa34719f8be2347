use Rattle.std.proofs.Common.{[], ◌∷◌, None, codes, refl}
use Rattle.std.specs.Fmt.{digits}
use Rattle.at_model.specs.Classes.{chain}
use Rattle.at_model.specs.Names.{reserved_words}
use Rattle.at_model.specs.Lines.{From_root, Mark, Unmark, Where}
use Rattle.at_model.specs.SampleLines.{says, plain_step}
use Rattle.at_model.proofs.of_machines.Played.{ends, line}
use Rattle.at_model.proofs.refusal_cases.marks_of_two_sessions.Goals as goal

pub returns : goal.returns
unfolding chain digits reserved_words
returns c =
    line (says (Mark (codes "v") (From_root ([])))) refl refl refl refl
    (line (says (Mark (codes "m99") (From_root ([])))) refl refl refl refl
    (line (record { session = 1; expected = None; command = Mark (codes "m99") (From_root (plain_step "Block" ∷ [])) }) refl refl refl refl
    (line (says (Where (codes "m99"))) refl refl refl refl
    (line (says (Unmark (codes "m50"))) refl refl refl refl
    (line (says (Mark (codes "v") (From_root ([])))) refl refl refl refl
    (line (says (Mark (codes "w") (From_root ([])))) refl refl refl refl
    (line (record { session = 1; expected = None; command = Where (codes "m99") }) refl refl refl refl
    (line (says (Where (codes "m50"))) refl refl refl refl ends))))))))
