-- Which attribute a class has by the number of its name, and the kind of its values.
use Rattle.std.specs.Prelude.{ℕ, Bool, ◌&&◌, nat_eq, min, List, position, slice_get, Option, None, Some}
use Rattle.std.specs.List.{list_any}
use Rattle.at_model.specs.Rules.{Rules, Kind, Int}

-- the lesser of two positions, where they are
abbrev pub earlier : Option ℕ → Option ℕ → Option ℕ
earlier None p = p
earlier (Some i) None = Some i
earlier (Some i) (Some j) = Some (min i j)

-- it stands by one of the classes and that number
abbrev pub declares : ℕ → List ℕ → ℕ × ℕ → Bool
declares n cs k = list_any (λ b. nat_eq b k.0 && nat_eq n k.1) cs

-- the first attribute that one of the classes declares by the number of a name
abbrev pub declared_in : List (ℕ × ℕ) → ℕ → List ℕ → Option ℕ
declared_in ks n cs = position (declares n cs) ks

-- the kind of the attribute's values
abbrev pub result_of : Rules → ℕ → Kind
result_of rules attribute = elim (slice_get rules.attributes attribute) [ None ↦ Int | Some a ↦ a.result ]
