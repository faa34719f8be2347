-- Drawers: the elements of a component that stand under one mark, which is a number of their key's text.
use Rattle.std.specs.Prelude.{ℕ, ◌+◌, ◌-◌, ◌*◌, ◌%◌, ◌/◌, ◌^◌, Bool, false, ◌&&◌, nat_eq, nat_le, List, [], ◌∷◌}
use Rattle.at_model.specs.Trees.{Token, Text}

-- Which elements have a key, and which token of them it is: those whose class is in the set, a number by its bits, where the class of
-- the first bit is this one.
pub record Key : Type 0 where
  pub first : ℕ
  pub classes : ℕ
  pub token : ℕ

-- the mark of a text, where this is the mark of what stands before it: a number of 32 bits
abbrev pub mark_from : ℕ → List ℕ → ℕ
mark_from m [] = m
mark_from m (b ∷ bs) = mark_from ((m * 33 + b + 1) % 4294967296) bs

-- the mark under which a text stands
unfoldable pub mark_of : List ℕ → ℕ
mark_of bytes = mark_from 0 bytes

-- the class has that key
abbrev pub has_key : Key → ℕ → Bool
has_key key class = nat_le key.first class && nat_eq (key.classes / 2 ^ (class - key.first) % 2) 1

-- the token is a text under that mark
abbrev pub is_under : ℕ → Token → Bool
is_under m (Text bytes) = nat_eq (mark_of bytes) m
is_under m v = false

-- an element of that class, with that token, stands under the mark
abbrev pub stands_under : Key → ℕ → (class : ℕ) → Token → Bool
stands_under key m class v = has_key key class && is_under m v
