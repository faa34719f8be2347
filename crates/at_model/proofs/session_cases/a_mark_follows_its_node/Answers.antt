use Rattle.std.proofs.Common.{[], ◌∷◌, Some, None, codes, refl}
use Rattle.std.specs.Fmt.{digits}
use Rattle.at_model.specs.Classes.{chain}
use Rattle.at_model.specs.Names.{reserved_words}
use Rattle.at_model.specs.Trees as tree
use Rattle.at_model.specs.Terms as term
use Rattle.at_model.specs.Lines.{From_root, From_mark, Ask, Insert, Mark, Where}
use Rattle.at_model.specs.Run.{Int, Truth}
use Rattle.at_model.specs.Run as run
use Rattle.at_model.specs.Meaning.{Outcomes, Finds}
use Rattle.at_model.specs.SampleLines.{plain_step, list_step}
use Rattle.at_model.proofs.of_machines.Played.{ends, line, question}
use Rattle.at_model.proofs.session_cases.a_mark_follows_its_node.Goals as goal

pub returns : goal.returns
unfolding chain digits reserved_words
returns c =
    line (record { session = 1; expected = None; command = Mark (codes "u") (From_root (plain_step "Block" ∷ list_step "Stmt" 1 ∷ plain_step "Expr" ∷ plain_step "Left" ∷ [])) }) refl refl refl refl
    (line (record {
      session = 2;
      expected = None;
      command = Insert (From_root (plain_step "Block" ∷ [])) (codes "Stmt") 0 (term.Node (codes "Decl")
          (term.cell (term.Holds (tree.Text (codes "y"))) (term.cell term.Empty term.no_cells)));
    }) refl refl refl refl
    (question (record { session = 1; expected = None; command = Ask (From_mark (codes "u") ([])) (codes "decl") ([]) })
    (Outcomes (Finds (run.Ref (Some ((0, 0) ∷ (0, 1) ∷ []))))) refl refl refl (9, refl) refl
    (line (record { session = 1; expected = None; command = Where (codes "u") }) refl refl refl refl
    (line (record { session = 2; expected = None; command = Where (codes "u") }) refl refl refl refl ends))))
