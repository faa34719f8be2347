-- The declarations of all aspect files, in order, each with the number of its file. They are counted from 1: the grammar is 0.
use Rattle.std.specs.Prelude.{ℕ, ◌+◌, List, [], ◌∷◌, ◌++◌, map, Vec}
use Rattle.std.specs.List.{flat_map, AllByRecursion}
use Rattle.at_text.specs.Rows.{Row}
use Rattle.at_jrag.specs.declared.Forms.{Forms}
use Rattle.at_jrag.specs.Grammar.{File}
use Rattle.at_jrag.specs.Syntax.{Word, DeclForm, Synthesized, Inherited, Equation, InheritedEquation, Decl, Aspect}
use Rattle.at_jrag.specs.View.{aspect_view, decl_view}
use Rattle.at_jrag.specs.declared.syntax.Aspect.{Aspect as AspectValue}
use Rattle.at_typing.specs.declared.located.Located.{Located as LocatedValue}

pub record Located : Type 0 where
  pub file : ℕ
  pub decl : Decl

abbrev pub from_aspect : ℕ → Aspect → List Located
from_aspect file a = map (λ d. record { file = file; decl = d }) a.decls

abbrev pub from_file : ℕ → List Aspect → List Located
from_file file as' = flat_map (from_aspect file) as'

-- those of the files, the first of which has this number
abbrev pub located : ℕ → List (List Aspect) → List Located
located file [] = []
located file (as' ∷ rest) = from_file file as' ++ located (file + 1) rest

abbrev pub located_view : LocatedValue → Located
located_view d = record { file = d.file; decl = decl_view d.decl.now }

-- the class that is named
abbrev pub class_word : DeclForm → Word
class_word (Synthesized lazy kind class name params start ending) = class
class_word (Inherited lazy kind class name params start) = class
class_word (Equation class name params body) = class
class_word (InheritedEquation class getter index name params body) = class

-- the attribute's name
abbrev pub name_word : DeclForm → Word
name_word (Synthesized lazy kind class name params start ending) = name
name_word (Inherited lazy kind class name params start) = name
name_word (Equation class name params body) = name
name_word (InheritedEquation class getter index name params body) = name

-- those of files that were read
abbrev pub declarations_in : {Z : Type 0} → List (Vec AspectValue Z) → List Located
declarations_in files = located 1 (map (λ f. map aspect_view f.items) files)

-- there are tokens that spell the aspects, whatever forms are read
abbrev pub IsSpelled : List Aspect → Type 0
IsSpelled as' = (forms : Forms) × (tokens : Row) × File forms as' tokens []

-- so it is with the aspects of each file
abbrev pub AreSpelled : {Z : Type 0} → List (Vec AspectValue Z) → Type 0
AreSpelled files = AllByRecursion IsSpelled (map (λ f. map aspect_view f.items) files)
