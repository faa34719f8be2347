-- Texts that are compared where they stand.
use Rattle.std.specs.Prelude.{◌≡◌, ℕ, List, [], ◌∷◌, ◌++◌, Bool, bytes_eq, Option, Some, None, ⊤}
use Rattle.at_model.specs.Bodies.{Expr, value_of}
use Rattle.at_model.specs.Classes.{Classes}
use Rattle.at_model.specs.Follow.{follow}
use Rattle.at_model.specs.Run.{Contents, Location, Run, Slot, Text, Tok, Value, ◌>>=◌}
use Rattle.at_body.specs.declared.comparing.Looked.{Looked}
use Rattle.at_body.specs.declared.comparing.Looked.TheVariants as looked
use Rattle.at_body.specs.declared.todo.Binary.{Binary}
use Rattle.at_body.specs.declared.todo.Binary.TheVariants as binary
use Rattle.at_body.specs.declared.trial.Trial.{Trial}
use Rattle.at_body.specs.Rest.{ev, place_of}
use Rattle.at_body.specs.Standing.{Place}

-- two values are compared
abbrev pub IsComparison : Binary → Type 0
IsComparison binary.Same = ⊤
IsComparison binary.Differ = ⊤
IsComparison binary.Equals = ⊤
IsComparison o = ⊥

-- the locations that are looked at for a text
abbrev pub looks : Looked → List (Location ℕ)
looks looked.Nothing = []
looks (looked.Token n part) = Tok n part ∷ []
looks (looked.OfChild n slot child part) = Slot n slot ∷ Tok child part ∷ []

-- the value is the text
abbrev pub ReadsAs : Value ℕ → List ℕ → Type 0
ReadsAs v text = v ≡ Text text

-- so is the token of the node
abbrev pub IsToken : Contents ℕ → (node part : ℕ) → List ℕ → Type 0
IsToken look n part text = ReadsAs (value_of {N = ℕ} (look (Tok n part))) text

-- at the place the expression demands nothing and comes to this text, behind these locations
abbrev pub IsLent : Contents ℕ → Expr → Place → List ℕ → List (Location ℕ) → Type 0
IsLent look e p text ls = (classes : Classes) (seen : List (Location ℕ)) (further : Value ℕ → Run ℕ (Value ℕ))
    → follow look seen (ev classes e p >>= further) ≡ follow look (seen ++ ls) (further (Text text))

-- both come to texts, which are compared, and what is looked at for them is noted; or nothing has changed
abbrev pub AreTexts : Contents ℕ → Expr → Expr → Trial → Trial → Option Bool → Type 0
AreTexts look e f old new None = new ≡ old
AreTexts look e f old new (Some same) = (v : List ℕ) × (w : List ℕ) × (ls : List (Location ℕ)) × (ms : List (Location ℕ))
    × (new ≡ record old { reads = (old.reads ++ ls) ++ ms }) × (same ≡ bytes_eq v w)
    × IsLent look e (place_of old) v ls × IsLent look f (place_of old) w ms
