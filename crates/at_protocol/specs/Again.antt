-- Questions that begin at the root, name no version and have no arguments.
use Rattle.std.specs.Prelude.{ℕ, List, [], ◌∷◌, Option, None, codes}
use Rattle.std.specs.List.{join_with_byte}
use Rattle.std.specs.Fmt.{decimal}
use Rattle.at_model.specs.Paths.{Path, path_text}
use Rattle.at_model.specs.Lines.{Line, Place, Argument, Ask, From_root}

-- the question of these parts
abbrev pub question : (session : ℕ) → (expected : Option ℕ) → Place → (attribute : List ℕ) → List Argument → Line
question session expected place attribute arguments = record { session = session; expected = expected; command = Ask place attribute arguments }

abbrev pub bare_question : (session : ℕ) → Path → (attribute : List ℕ) → Line
bare_question session steps attribute = question session None (From_root steps) attribute []

-- what stands before the attribute of such a question: its words, and a space behind the last
abbrev pub front_text : (session : ℕ) → Path → List ℕ
front_text session steps = join_with_byte 32 (decimal session ∷ codes "ask" ∷ path_text steps ∷ [] ∷ [])
