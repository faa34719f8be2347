use Rattle.std.proofs.Common.{[], ◌∷◌, Some, None, pos, codes, refl}
use Rattle.std.specs.Fmt.{digits}
use Rattle.at_model.specs.Classes.{chain}
use Rattle.at_model.specs.Names.{reserved_words}
use Rattle.at_model.specs.Trees as tree
use Rattle.at_model.specs.Lines.{From_root, Token, Show, Version}
use Rattle.at_model.specs.SampleLines.{says, plain_step, list_step}
use Rattle.at_model.proofs.of_machines.Played.{ends, line}
use Rattle.at_model.proofs.session_cases.an_old_version_is_expected.Goals as goal

pub returns : goal.returns
unfolding chain digits reserved_words
returns c =
    line (says (Token (From_root (plain_step "Block" ∷ list_step "Stmt" 1 ∷ plain_step "Expr" ∷ plain_step "Right" ∷ [])) (codes "Value") (tree.Int (pos 5)))) refl refl refl refl
    (line (record {
      session = 1;
      expected = Some 0;
      command = Token (From_root (plain_step "Block" ∷ list_step "Stmt"
          1 ∷ plain_step "Expr" ∷ plain_step "Right" ∷ [])) (codes "Value") (tree.Int (pos 7));
    }) refl refl refl refl
    (line (record { session = 1; expected = None; command = Show (From_root (plain_step "Block" ∷ list_step "Stmt" 1 ∷ plain_step "Expr" ∷ plain_step "Right" ∷ [])) }) refl refl refl refl
    (line (record { session = 1; expected = Some 1; command = Version }) refl refl refl refl ends)))
