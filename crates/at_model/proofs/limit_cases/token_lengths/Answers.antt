use Rattle.std.proofs.Common.{ℕ, [], ◌∷◌, codes, refl}
use Rattle.std.specs.Fmt.{digits}
use Rattle.at_model.specs.Classes.{chain}
use Rattle.at_model.specs.Names.{reserved_words}
use Rattle.at_model.specs.Trees.{Text}
use Rattle.at_model.specs.Lines.{Line, From_root, Token}
use Rattle.at_model.specs.Samples.{calc}
use Rattle.at_model.specs.SampleLines.{opened, says, statement_path}
use Rattle.at_model.specs.SampleSessions.{letters}
use Rattle.at_model.proofs.of_machines.Played.{tested}
use Rattle.at_model.proofs.limit_cases.token_lengths.Goals as goal

pub returns-clause-longest : goal.returns-clause-longest
returns-clause-longest c = λ text h. rw h refl

pub returns-clause-too_long : goal.returns-clause-too_long
returns-clause-too_long c = λ text h. rw h refl

renames : ℕ → Line
renames n = says (Token (From_root (statement_path 0)) (codes "ID") (Text (letters n)))

pub returns-clause-played : goal.returns-clause-played
unfolding chain digits reserved_words renames
returns-clause-played c = tested calc opened (renames 4096 ∷ renames 4097 ∷ []) _ refl
