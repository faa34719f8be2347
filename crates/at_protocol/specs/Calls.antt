-- The text of a question's attribute with its arguments.
use Rattle.std.specs.Prelude.{◌≡◌, ℕ, List, [], ◌∷◌, ◌++◌, map, Option, Some, None, option_map}
use denote.Ref.{Bor}
use Rattle.std.specs.List.{AllByRecursion}
use Rattle.std.specs.Str.{IsUtf8}
use Rattle.at_model.specs.Texts.{quoted}
use Rattle.at_model.specs.Terms.{with_commas}
use Rattle.at_model.specs.Lines.{Argument, Text, Ref, IsArgument, argument_text, call_text}
use Rattle.at_model.specs.Names.{IsName}
use Rattle.at_protocol.specs.LineView.{argument_view}
use Rattle.at_protocol.specs.declared.line.Argument.{Argument as ArgumentValue}

abbrev pub IsCallText : List ℕ → List ℕ × List Argument → Type 0
IsCallText text call = IsName call.0 × AllByRecursion IsArgument call.1 × (call_text call.0 call.1 ≡ text)

-- an argument that is no text
abbrev pub IsBareArgument : List ℕ → Argument → Type 0
IsBareArgument text (Text value) = ⊥
IsBareArgument text a = IsArgument a × (argument_text a ≡ text)

-- an argument that is neither a text nor a node
abbrev pub IsPlainArgument : List ℕ → Argument → Type 0
IsPlainArgument text (Ref place) = ⊥
IsPlainArgument text a = IsBareArgument text a

-- one argument or more, with a comma between each two
abbrev pub AreArguments : List ℕ → List Argument → Type 0
AreArguments text [] = ⊥
AreArguments text (a ∷ as') = AllByRecursion IsArgument (a ∷ as') × (with_commas (map argument_text (a ∷ as')) ≡ text)

-- what stands behind an argument: the end, or a comma and the rest
abbrev pub behind_argument : Option (List ℕ) → List ℕ
behind_argument None = []
behind_argument (Some rest) = 44 ∷ rest

-- an argument, and what stands behind its comma, where one follows
abbrev pub IsNextArgument : List ℕ → Argument × Option (List ℕ) → Type 0
IsNextArgument text next = IsArgument next.0 × (argument_text next.0 ++ behind_argument next.1 ≡ text)

abbrev pub next_view : ArgumentValue × Option (Bor (List ℕ)) → Argument × Option (List ℕ)
next_view next = (argument_view next.0, option_map (λ rest. rest.now) next.1)

-- a text between quotes, and what stands behind it
abbrev pub IsQuotedFirst : List ℕ → List ℕ × List ℕ → Type 0
IsQuotedFirst text first = IsUtf8 first.0 × (quoted first.0 ++ first.1 ≡ text)
