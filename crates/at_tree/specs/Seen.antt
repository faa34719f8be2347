-- What a reader's values stand for.
use Rattle.std.specs.Prelude.{List, map, string_bytes, Option, option_map, Result, reverse}
use Rattle.at_tree.specs.Partial.{Level, Place, Start, InWord, Dash, Digits, InText, Escape, Whole, Item, Done, Partial, at}
use Rattle.at_tree.specs.View.{term_view, cell_view}
use Rattle.at_tree.specs.Gives.{GivesBy}
use Rattle.at_tree.specs.declared.reader.Level.{Level as LevelValue}
use Rattle.at_tree.specs.declared.reader.Place.{Place as PlaceValue}
use Rattle.at_tree.specs.declared.reader.Place.TheVariants as place
use Rattle.at_tree.specs.declared.reader.Partial.{Partial as PartialValue}
use Rattle.at_text.specs.declared.fault.Failure.{Failure}
use Rattle.at_tree.specs.declared.fault.Misfit.{Misfit}

abbrev pub level_view : LevelValue → Level
level_view f = record { name = string_bytes f.name; cells = map cell_view f.cells.items; items = option_map (λ v. map term_view v.items) f.items }

-- the innermost first
abbrev pub levels_view : List LevelValue → List Level
levels_view fs = reverse (map level_view fs)

abbrev pub place_view : PlaceValue → Place
place_view place.Start = Start
place_view (place.InWord word) = InWord (string_bytes word)
place_view place.Dash = Dash
place_view (place.Digits number) = Digits number.minus number.value
place_view (place.InText text) = InText (string_bytes text)
place_view (place.Escape text) = Escape (string_bytes text)
place_view (place.Whole cell) = Whole (cell_view cell)
place_view (place.Item term) = Item (term_view term)
place_view (place.Done term) = Done (term_view term)

abbrev pub partial_view : PartialValue → Partial
partial_view p = at (levels_view p.levels.items) (place_view p.place)

-- what was returned is what the step gives, unless memory ran out
abbrev pub Gives : Result PartialValue (Failure Misfit) → Option Partial → Type 0
Gives result read = GivesBy partial_view result read
