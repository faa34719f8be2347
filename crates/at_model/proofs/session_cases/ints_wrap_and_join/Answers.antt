use Rattle.std.proofs.Common.{[], negsuc, codes, refl}
use Rattle.std.specs.Fmt.{digits}
use Rattle.at_model.specs.Classes.{chain}
use Rattle.at_model.specs.Names.{reserved_words}
use Rattle.at_model.specs.Lines.{From_root, Ask}
use Rattle.at_model.specs.Run.{Int, Truth}
use Rattle.at_model.specs.Run as run
use Rattle.at_model.specs.Meaning.{Outcomes, Finds}
use Rattle.at_model.specs.SampleLines.{says}
use Rattle.at_model.proofs.of_machines.Played.{ends, question}
use Rattle.at_model.proofs.session_cases.ints_wrap_and_join.Goals as goal

pub returns-clause-wraps : goal.returns-clause-wraps
unfolding chain digits reserved_words
returns-clause-wraps c =
    question (says (Ask (From_root ([])) (codes "big") ([]))) (Outcomes (Finds (Int (negsuc 2147483647)))) refl refl refl (9, refl) refl ends

pub returns-clause-joins : goal.returns-clause-joins
unfolding chain digits reserved_words
returns-clause-joins c =
    question (says (Ask (From_root ([])) (codes "join") ([]))) (Outcomes (Finds (run.Text (codes "n0-7")))) refl refl refl (9, refl) refl ends
