-- The short names of lists: `getBs` of a list B stands for `getBList`, where no accessor has that name.
use Rattle.std.specs.Prelude.{ℕ, ◌+◌, List, [], ◌∷◌, ◌++◌, ◌&&◌, not, codes, Option, Some, None, if◌then◌else◌}
use Rattle.std.specs.List.{filter_map}
use Rattle.at_model.specs.Classes.{Classes, Class, Component, parts}
use Rattle.at_kinds.specs.Accessors.{is_accessed, is_list}
use Rattle.at_java.specs.Aliases.{Alias}
use Rattle.at_start.specs.declared.language.Language.{Language}
use Rattle.at_start.specs.declared.language.Language.TheVariants.{Profile, JastAdd}

-- the short name of the list of that name
abbrev pub alias : List ℕ → Alias
alias list = record { name = codes "get" ++ list ++ codes "s"; meant = codes "get" ++ list ++ codes "List" }

-- that of a component, if it has one
abbrev pub alias_of : Classes → Component → Option Alias
alias_of classes p = if is_list p.shape && not (is_accessed classes (alias p.name).name) then Some (alias p.name) else None

-- those of these classes, the first of which has the number c
abbrev pub aliases_from : Classes → ℕ → List Class → List Alias
aliases_from classes c [] = []
aliases_from classes c (k ∷ ks) = filter_map (alias_of classes) (parts classes c) ++ aliases_from classes (c + 1) ks

abbrev pub aliases : Classes → List Alias
aliases classes = aliases_from classes 0 classes

-- those that are read in the language
abbrev pub aliases_in : Language → Classes → List Alias
aliases_in (Profile forms) classes = []
aliases_in JastAdd classes = aliases classes
