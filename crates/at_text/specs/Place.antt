-- Places in a text: lines and columns, both from 1.
use Rattle.std.specs.Prelude.{ℕ, ◌+◌, ◌-◌, ◌^◌, Bool, ◌==◌, List, length, take, min, chars, count_by}
use Rattle.std.specs.List.{after_last}
use Rattle.at_text.specs.declared.place.Place.{Place}

abbrev pub is_newline : ℕ → Bool
is_newline c = c == 10

-- one more, or the greatest number of 32 bits
abbrev pub counted_from_one : ℕ → ℕ
counted_from_one n = min (n + 1) (2 ^ 32 - 1)

-- where a text begins
abbrev pub first_place : Place
first_place = record { line = 1; column = 1 }

-- after these characters: the line by the newlines among them, the column by what stands after the last newline
abbrev pub place_after : List ℕ → Place
place_after front = record { line = counted_from_one (count_by is_newline front); column = counted_from_one (length (after_last is_newline front)) }

-- the line and the column at an offset of a text
abbrev pub place_of : List ℕ → ℕ → Place
place_of text offset = place_after (chars (take offset text))
