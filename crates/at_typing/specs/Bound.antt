-- The names that are bound somewhere, the last one first.
use Rattle.std.specs.Prelude.{ℕ, List, [], ◌∷◌, map, reverse}
use Rattle.at_jrag.specs.Syntax.{Param}
use Rattle.at_typing.specs.declared.checks.bound.Names.{Names}

abbrev pub names_view : Names → List (List ℕ)
names_view n = reverse (map (λ t. t.now) n.texts.keys)

-- what is bound after these are bound one by one
abbrev pub bound_after : List (List ℕ) → List (List ℕ) → List (List ℕ)
bound_after names [] = names
bound_after names (n ∷ ns) = bound_after (n ∷ names) ns

abbrev pub texts_of : List Param → List (List ℕ)
texts_of ps = map (λ p. p.name.text) ps
