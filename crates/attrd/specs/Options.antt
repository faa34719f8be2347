-- What the words of the command line ask for.
use Rattle.std.specs.Prelude.{◌≡◌, ◌⊎◌, ◌≤◌, ◌<◌, ◌&&◌, ℕ, Bool, true, false, List, length, map, Option}
use Rattle.std.specs.Prelude.{Some, IfSome, codes, is_some, option_map}
use Rattle.std.specs.Option.{option_map_or}
use Rattle.std.specs.Str.{bytes_eq}
use Rattle.std.specs.Str.Parse.{IsNumeral, digits_value, without_leading_plus}
use Rattle.std.specs.String.{string_bytes}
use Rattle.at_model.specs.Edits.{max_nodes}
use Rattle.clap.specs.Words.{Row, Text, all_of, first_of, found_of, matches_of, one_of, rows_of}
use Rattle.clap.specs.Words.{takes}
use Rattle.clap.specs.declared.parser.matches.ArgMatches.{ArgMatches}
use Rattle.attrd.specs.CommandLine.{command_line}
use Rattle.attrd.specs.Forms.{language_in, name_forms}
use Rattle.attrd.specs.declared.options.Options.{Options}

-- the most connections that can be asked for
abbrev pub max_connections : ℕ
max_connections = 1000

-- the most turns behind a line that can be asked for
abbrev pub max_slice : ℕ
max_slice = 1000000

-- the greatest bound of the cache that can be asked for
abbrev pub max_keep : ℕ
max_keep = 1000000000

-- the most nodes of a tree that can be asked for
abbrev pub max_nodes_asked : ℕ
max_nodes_asked = max_nodes

-- one at least, and so many at most
abbrev pub IsUpTo : ℕ → ℕ → Type 0
IsUpTo most n = (1 ≤ n) × (n ≤ most)

-- it can be served: there is an aspect file, and the numbers of connections, of turns and of the cache's entries are in range
abbrev pub IsUsable : Options → Type 0
IsUsable o = (0 < length o.aspects.items) × IsUpTo max_connections o.connections × IsUpTo max_slice o.slice
    × IfSome o.keep (IsUpTo max_keep)

-- and so is that of nodes, where one is asked for
abbrev pub IsSized : Options → Type 0
IsSized o = IfSome o.nodes (IsUpTo max_nodes_asked)

-- ---- the values of the words

-- the number that a text spells
abbrev pub number : Text → ℕ
number text = digits_value 10 (without_leading_plus text)

-- the number that is asked for: one, where no text says it
abbrev pub number_asked : Option Text → ℕ
number_asked text = option_map_or number text 1

-- whether a flag is there: its value is `true` then, and `false` else
abbrev pub is_set : Option Text → Bool
is_set text = option_map_or (λ t. bytes_eq t (codes "true")) text false

-- the options are the values of the words, which stand in rows, one for each name
pub record HasValues (rows : List Row) (o : Options) : Type 0 where
  pub socket : option_map string_bytes o.socket ≡ first_of (codes "socket") rows
  pub connections : o.connections ≡ number_asked (one_of (codes "connections") rows)
  pub slice : o.slice ≡ number_asked (one_of (codes "slice") rows)
  pub keep : o.keep ≡ option_map number (one_of (codes "keep") rows)
  pub nodes : o.nodes ≡ option_map number (one_of (codes "nodes") rows)
  pub language : o.language ≡ language_in (first_of (codes "forms") rows)
  pub cut_off : o.cut_off ≡ is_set (one_of (codes "cut-off") rows)
  pub index : o.index ≡ is_set (one_of (codes "index") rows)
  pub gather : o.gather ≡ is_set (one_of (codes "gather") rows)
  pub work : o.work ≡ is_set (one_of (codes "work") rows)
  pub grammar : Some (string_bytes o.grammar) ≡ first_of (codes "GRAMMAR") rows
  pub tree : Some (string_bytes o.tree) ≡ first_of (codes "TREE") rows
  pub aspects : Some (map string_bytes o.aspects.items) ≡ all_of (codes "ASPECT") rows

-- the command line takes the words, and names no other forms than there are
abbrev pub are_taken : List Text → Bool
are_taken words = takes command_line words && name_forms (first_of (codes "forms") (matches_of command_line words))

-- the words are taken, and the options are their values
pub record Asks (words : List Text) (o : Options) : Type 0 where
  pub taken : are_taken words ≡ true
  pub values : HasValues (matches_of command_line words) o

-- ---- what is known of the words once they are matched

-- the rows of what was matched
abbrev pub rows_found : ArgMatches → List Row
rows_found m = rows_of (found_of m)

-- the text spells such a number
abbrev pub SpellsUpTo : ℕ → Text → Type 0
SpellsUpTo most text = IsNumeral 10 (without_leading_plus text) × IsUpTo most (number text)

-- the text is the value of a flag
abbrev pub IsFlag : Text → Type 0
IsFlag text = (text ≡ codes "true") ⊎ (text ≡ codes "false")

-- each file that is needed is there, and each value reads as what it is taken for
pub record IsWhole (rows : List Row) : Type 0 where
  pub connections : IfSome (one_of (codes "connections") rows) (SpellsUpTo max_connections)
  pub slice : IfSome (one_of (codes "slice") rows) (SpellsUpTo max_slice)
  pub keep : IfSome (one_of (codes "keep") rows) (SpellsUpTo max_keep)
  pub nodes : IfSome (one_of (codes "nodes") rows) (SpellsUpTo max_nodes_asked)
  pub cut_off : IfSome (one_of (codes "cut-off") rows) IsFlag
  pub index : IfSome (one_of (codes "index") rows) IsFlag
  pub gather : IfSome (one_of (codes "gather") rows) IsFlag
  pub work : IfSome (one_of (codes "work") rows) IsFlag
  pub grammar : is_some (first_of (codes "GRAMMAR") rows) ≡ true
  pub tree : is_some (first_of (codes "TREE") rows) ≡ true
  pub aspects : is_some (first_of (codes "ASPECT") rows) ≡ true
