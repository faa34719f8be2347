-- Where a language's texts can't go on.
use Rattle.std.specs.Prelude.{◌≡◌, List, ◌++◌}
use Rattle.at_text.specs.Reading.{first}

-- some text of the language begins so
abbrev pub Begins : {S : Type 0} → (List S → Type 0) → List S → Type 0
Begins {S} IsText front = (more : List S) × IsText (front ++ more)

-- Some text of the language goes on behind the front with the symbol after it, or ends there if that is the end.
abbrev pub GoesOn : {S : Type 0} → (List S → Type 0) → List S → List S → Type 0
GoesOn {S} IsText front rest = (other : List S) × (first other ≡ first rest) × IsText (front ++ other)

-- The front begins a text of the language, and none goes on with the symbol after it, or with the end.
pub record IsFirstFault {S : Type 0} (IsText : List S → Type 0) (front rest : List S) : Type 0 where
  pub begins : Begins IsText front
  pub ends : GoesOn IsText front rest → ⊥
