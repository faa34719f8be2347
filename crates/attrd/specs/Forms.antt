-- The language of aspects that the words of the command line name.
use Rattle.std.specs.Prelude.{◌==◌, ◌||◌, Bool, true, false, if◌then◌else◌, List, Option, codes}
use Rattle.std.specs.List.{list_all, list_any, slice_split}
use Rattle.std.specs.Option.{option_map_or}
use Rattle.std.specs.Str.{bytes_eq}
use Rattle.clap.specs.Words.{Text}
use Rattle.at_start.specs.declared.language.Language.{Language}
use Rattle.at_start.specs.declared.language.Language.TheVariants.{Profile, JastAdd}

-- the words of a list, which stand between its commas (44)
abbrev pub form_words : Text → List Text
form_words = slice_split (λ b. b == 44)

-- a form has that name, or the language as a whole
abbrev pub is_form : Text → Bool
is_form word = bytes_eq word (codes "circular") || bytes_eq word (codes "jastadd")

abbrev pub are_forms : List Text → Bool
are_forms = list_all is_form

-- the word is among these
abbrev pub names : Text → List Text → Bool
names word words = list_any (λ w. bytes_eq w word) words

-- no form is read that is left out where it isn't named
abbrev pub usual : Language
usual = Profile (record { circular = false })

-- the language that these name; JastAdd's has circular attributes in it
abbrev pub language_named : List Text → Language
language_named words =
    if names (codes "jastadd") words then JastAdd else Profile (record { circular = names (codes "circular") words })

-- each word of the list, where there is one, is the name of a form
abbrev pub name_forms : Option Text → Bool
name_forms list = option_map_or (λ t. are_forms (form_words t)) list true

-- the language that the list names, where there is one
abbrev pub language_in : Option Text → Language
language_in list = option_map_or (λ t. language_named (form_words t)) list usual
