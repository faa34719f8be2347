-- Elements with a comma between each two.
use Rattle.std.specs.Prelude.{ℕ, zero, suc, List, [], ◌∷◌}

-- what stands before the element at that position
abbrev pub separator : ℕ → List ℕ
separator zero = []
separator (suc i) = 44 ∷ []
