-- The words that the command line takes: `[OPTIONS] GRAMMAR TREE ASPECT..`.
use Rattle.std.specs.Prelude.{ℕ, pos, true, not, min, List, [], ◌∷◌, ◌++◌, Some, None, codes}
use Rattle.std.specs.Prelude.{if◌then◌else◌}
use Rattle.clap.specs.Words.{App, Rule, Text, new_app, new_rule}
use Rattle.clap.specs.Lexer.{usize_max}
use Rattle.clap.specs.declared.builder.value_parser.ValueParser.{ValueParser}
use Rattle.clap.specs.declared.builder.value_parser.ValueParser.TheVariants as parser
use Rattle.attrd.specs.declared.options.words.Word.{Word}

-- a word with `least` to `most` values, each of which `how` lets pass
abbrev pub word : Text → ℕ → ℕ → ValueParser → Rule
word id least most how = record (new_rule id) {
  range = Some (record { start_inclusive = least; end_inclusive = most });
  value_names = 1;
  parser = Some how;
}

-- an option with one value
abbrev pub option : Text → ValueParser → Rule
option id how = record (word id 1 1 how) { long = Some id }

-- an option with none
abbrev pub flag : Text → Rule
flag id = record (word id 0 0 parser.Bool) { long = Some id }

-- files that have to be named: one at least, and so many at most
abbrev pub files : Text → ℕ → Rule
files id most = record (word id 1 most parser.String) { required = true }

-- a command whose first word isn't the program's name
abbrev pub unnamed : App → App
unnamed a = record a { top = record a.top { no_binary_name = true } }

-- a command that tells its version
abbrev pub versioned : App → App
versioned a = record a { top = record a.top { has_version = true } }

-- a command with these words more
abbrev pub with_words : App → List Rule → App
with_words a words = record a { top = record a.top { rules = a.top.rules ++ words } }

-- the words of the command line
abbrev pub listed : List Rule
listed = option (codes "socket") parser.NonEmptyString
    ∷ option (codes "connections") (parser.Signed (pos 1) (pos 1000))
    ∷ option (codes "slice") (parser.Signed (pos 1) (pos 1000000))
    ∷ option (codes "keep") (parser.Signed (pos 1) (pos 1000000000))
    ∷ option (codes "nodes") (parser.Signed (pos 1) (pos 16777216))
    ∷ option (codes "forms") parser.NonEmptyString
    ∷ flag (codes "cut-off")
    ∷ flag (codes "index")
    ∷ flag (codes "gather")
    ∷ flag (codes "work")
    ∷ files (codes "GRAMMAR") 1
    ∷ files (codes "TREE") 1
    ∷ files (codes "ASPECT") usize_max
    ∷ []

-- the command line, behind the program's name
abbrev pub command_line : App
command_line = with_words (unnamed (versioned (new_app (codes "attrd")))) listed

-- what a row of the code's table is
abbrev pub rule : Word → Rule
rule w = record (word w.name.now (min w.most 1) w.most w.parser) {
  long = if w.is_option then Some w.name.now else None;
  required = not w.is_option;
}
