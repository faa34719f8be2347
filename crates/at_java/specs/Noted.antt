-- Other names of accessors in a map, by their texts.
use Rattle.std.specs.Prelude.{◌≡◌, ℕ, List, option_map}
use Rattle.std.specs.Borrow.{Bor}
use Rattle.std.specs.Str.{bytes_eq}
use Rattle.indexmap.specs.IndexMap.{IndexMap, get_by}
use Rattle.at_java.specs.Aliases.{Alias, meant_by}

-- the map has for each name what it stands for
abbrev pub AreNoted : {S : Type 0} → List Alias → IndexMap (Bor (List ℕ)) (Bor (List ℕ)) S → Type 0
AreNoted aliases names = (name : List ℕ) → option_map (λ t. t.now) (get_by (λ k. bytes_eq name k.now) names) ≡ meant_by aliases name
