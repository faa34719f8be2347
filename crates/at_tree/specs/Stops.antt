-- Where a text stops being one of a kind.
use Rattle.std.specs.Prelude.{◌≡◌, ℕ, List, [], ◌∷◌, ◌++◌, take, drop, chars, encode_utf8}
use Rattle.std.specs.Str.{IsCharBoundary}
use Rattle.at_model.specs.Terms.{Term, IsTerm, term_text}
use Rattle.at_model.specs.Paths.{Path, IsPath, path_text}

-- the text of a term
abbrev pub IsTermText : List ℕ → Type 0
IsTermText text = (t : Term) × IsTerm t × (term_text t ≡ text)

-- the text of a path
abbrev pub IsPathText : List ℕ → Type 0
IsPathText text = (p : Path) × IsPath p × (path_text p ≡ text)

-- it goes on to a whole text of the kind
abbrev pub IsFront : (List ℕ → Type 0) → List ℕ → Type 0
IsFront IsWhole front = (rest : List ℕ) × IsWhole (front ++ rest)

-- with the next of these characters it goes on to none; where there is no next one, it is not whole
abbrev pub NoFurther : (List ℕ → Type 0) → List ℕ → List ℕ → Type 0
NoFurther IsWhole front [] = IsWhole front → ⊥
NoFurther IsWhole front (c ∷ cs) = IsFront IsWhole (front ++ encode_utf8 c) → ⊥

-- the offset of the first character with which the text goes on to none of the kind, or its end
pub record StopsAt (IsWhole : List ℕ → Type 0) (text : List ℕ) (place : ℕ) : Type 0 where
  pub boundary : IsCharBoundary text place
  pub goes_on : IsFront IsWhole (take place text)
  pub no_further : NoFurther IsWhole (take place text) (chars (drop place text))
