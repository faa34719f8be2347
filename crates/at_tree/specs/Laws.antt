-- What a text says of the term or the path that it is the text of.
use Rattle.std.specs.Prelude.{◌≡◌, ℕ, List, [], ◌++◌}
use Rattle.at_model.specs.Terms.{Term, IsTerm, term_text}
use Rattle.at_model.specs.Paths.{Path, IsPath, path_text}

-- no term's text begins another term's, so that a text has at most one term
abbrev pub NoneBeginsAnother : Type 0
NoneBeginsAnother = (t u : Term) (rest : List ℕ) → IsTerm t → IsTerm u → term_text u ≡ term_text t ++ rest → (t ≡ u) × (rest ≡ [])

-- a text has at most one path
abbrev pub OnePathEach : Type 0
OnePathEach = (p q : Path) → IsPath p → IsPath q → path_text p ≡ path_text q → p ≡ q
