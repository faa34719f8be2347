-- Other names of accessors: a name before `()` is read as the one that it stands for.
use Rattle.std.specs.Prelude.{ℕ, List, [], ◌∷◌, Bool, false, cond, ◌&&◌, Option, option_map, find}
use Rattle.std.specs.Option.{unwrap_or}
use Rattle.std.specs.Str.{bytes_eq}
use lib.Chars.{codes}
use Rattle.at_text.specs.Symbols.{PlacedToken}
use Rattle.at_text.specs.Rows.{Row, is_sign}

-- a name, and the one that it stands for
pub record Alias : Type 0 where
  pub name : List ℕ
  pub meant : List ℕ

-- what the first alias of that name stands for
abbrev pub meant_by : List Alias → List ℕ → Option (List ℕ)
meant_by aliases name = option_map (λ a. a.meant) (find (λ a. bytes_eq a.name name) aliases)

-- what the name is read as
abbrev pub resolved : List Alias → List ℕ → List ℕ
resolved aliases name = unwrap_or (meant_by aliases name) name

-- "(" and ")" are next
abbrev pub opens_and_closes : Row → Bool
opens_and_closes (t ∷ u ∷ ts) = is_sign (codes "(") t && is_sign (codes ")") u
opens_and_closes ts = false

-- the token in front of these, at its place
abbrev pub resolved_token : List Alias → PlacedToken → Row → PlacedToken
resolved_token aliases t ts = cond (opens_and_closes ts) (record { kind = t.kind; text = resolved aliases t.text; at = t.at }) t

-- each token as it is read
unfoldable pub resolved_row : List Alias → Row → Row
resolved_row aliases [] = []
resolved_row aliases (t ∷ ts) = resolved_token aliases t ts ∷ resolved_row aliases ts
