-- Declarations for ASTNode, which stands above all classes and is none of them: an attribute that is declared for it is declared for the
-- classes below, but for one that declares it itself.
use Rattle.std.specs.Prelude.{◌≡◌, ℕ, ◌+◌, nat_le, Bool, true, false, ◌&&◌, ◌||◌, not, List, [], ◌∷◌, ◌++◌, length, map, filter_map, codes, Option, Some, None, is_some, if◌then◌else◌}
use Rattle.std.specs.List.{AllByRecursion, flat_map, list_any}
use Rattle.std.specs.Str.{bytes_eq}
use Rattle.at_model.specs.Classes.{Class, Classes, class_of_name, is_sub, name_of, parent_of}
use Rattle.at_text.specs.declared.place.Place.{Place}
use Rattle.at_jrag.specs.Syntax.{Word, Ending, With, Semicolon, DeclForm, Synthesized, Inherited, Equation, InheritedEquation, Decl, Aspect}
use Rattle.at_typing.specs.Declaring.{is_attribute}
use Rattle.at_typing.specs.Located.{class_word, name_word}
use Rattle.at_start.specs.NullCalls.{null_body}
use Rattle.at_start.specs.declared.everywhere.Sought.{Sought}
use Rattle.at_start.specs.declared.everywhere.Sought.TheVariants.{Attributes, Equations}

-- what classes have themselves ----------------------------------------------------------------------------------------

-- of a declaration: the class that is named, and the attribute
pub record Head : Type 0 where
  pub class : List ℕ
  pub name : List ℕ

abbrev pub head_in : DeclForm → Head
head_in form = record { class = (class_word form).text; name = (name_word form).text }

-- it declares an attribute, or it is an equation for the class's own nodes
abbrev pub is_sought : Sought → DeclForm → Bool
is_sought Attributes form = is_attribute form
is_sought Equations (Synthesized lazy kind class name params start ending) = false
is_sought Equations (Inherited lazy kind class name params start) = false
is_sought Equations (Equation class name params body) = true
is_sought Equations (InheritedEquation class getter index name params body) = false

abbrev pub head_of : Sought → Decl → Option Head
head_of sought d = if is_sought sought d.form then Some (head_in d.form) else None

abbrev pub heads_in : Sought → Aspect → List Head
heads_in sought a = filter_map (head_of sought) a.decls

-- those of all files
abbrev pub heads : Sought → List (List Aspect) → List Head
heads sought files = flat_map (flat_map (heads_in sought)) files

abbrev pub is_head : (class name : List ℕ) → Head → Bool
is_head class name h = bytes_eq class h.class && bytes_eq name h.name

-- one of these is of that class and that attribute
abbrev pub is_among : List Head → (class name : List ℕ) → Bool
is_among hs class name = list_any (is_head class name) hs

-- the classes for which an attribute of ASTNode is declared -----------------------------------------------------------

-- it declares an attribute for ASTNode
abbrev pub is_everywhere : DeclForm → Bool
is_everywhere form = is_attribute form && bytes_eq (class_word form).text (codes "ASTNode")

-- no attribute is
abbrev pub HaveNoneEverywhere : List (List Aspect) → Type 0
HaveNoneEverywhere files = AllByRecursion (AllByRecursion (λ a. AllByRecursion (λ d. is_everywhere d.form ≡ false) a.decls)) files

-- the class is that of the root, or one above or below it
abbrev pub is_on_root_line : Classes → ℕ → Bool
is_on_root_line classes c = is_sub classes c 0 || is_sub classes 0 c

abbrev pub is_on_root_line_if : Classes → Option ℕ → Bool
is_on_root_line_if classes None = true
is_on_root_line_if classes (Some c) = is_on_root_line classes c

-- no class is above it
abbrev pub is_topmost : Classes → ℕ → Bool
is_topmost classes c = not (is_some (parent_of classes c))

-- none of its trees is the root, and no class above it is such
abbrev pub is_topmost_below_root : Classes → ℕ → Bool
is_topmost_below_root classes c = not (is_on_root_line classes c) && is_on_root_line_if classes (parent_of classes c)

-- a synthesized attribute is declared for each class that has none above, an inherited one for the greatest classes of which no tree is the root
abbrev pub stands_for : Classes → ℕ → DeclForm → Bool
stands_for classes c (Synthesized lazy kind class name params start ending) = is_topmost classes c
stands_for classes c (Inherited lazy kind class name params start) = is_topmost_below_root classes c
stands_for classes c (Equation class name params body) = false
stands_for classes c (InheritedEquation class getter index name params body) = false

-- what is declared for them -------------------------------------------------------------------------------------------

abbrev pub without_body : Ending → Ending
without_body (With body) = Semicolon body.at
without_body (Semicolon at) = Semicolon at

-- without its equation, where the class has one of its own
abbrev pub ending_if : (has_own : Bool) → Ending → Ending
ending_if has_own ending = if has_own then without_body ending else ending

abbrev pub renamed : Word → List ℕ → Word
renamed w text = record { text = text; at = w.at }

-- the attribute as it is declared for the class of that name, where classes have these equations of their own
abbrev pub form_for : (equations : List Head) → (class : List ℕ) → DeclForm → Option DeclForm
form_for equations class (Synthesized lazy kind of name params start ending) =
    Some (Synthesized lazy kind (renamed of class) name params start (ending_if (is_among equations class name.text) ending))
form_for equations class (Inherited lazy kind of name params start) = Some (Inherited lazy kind (renamed of class) name params start)
form_for equations class (Equation of name params body) = None
form_for equations class (InheritedEquation of getter index name params body) = None

-- it is declared for the class, which doesn't declare it itself
abbrev pub is_declared_for : Classes → (attributes : List Head) → ℕ → DeclForm → Bool
is_declared_for classes attributes c form = stands_for classes c form && not (is_among attributes (name_of classes c) (name_word form).text)

abbrev pub declared_at : Place → Option DeclForm → List Decl
declared_at at None = []
declared_at at (Some form) = record { at = at; form = form } ∷ []

abbrev pub decl_for : Classes → (attributes equations : List Head) → Decl → ℕ → List Decl
decl_for classes attributes equations d c =
    if is_declared_for classes attributes c d.form then declared_at d.at (form_for equations (name_of classes c) d.form) else []

-- for each of these classes, the first of which has the number c
abbrev pub decls_from : Classes → (attributes equations : List Head) → Decl → ℕ → List Class → List Decl
decls_from classes attributes equations d c [] = []
decls_from classes attributes equations d c (k ∷ ks) = decl_for classes attributes equations d c ++ decls_from classes attributes equations d (c + 1) ks

-- what the start class declares -----------------------------------------------------------------------------------------

-- the class, if there is one, is that of the root, or one above or below it
abbrev pub is_of_root_line : Classes → Option ℕ → Bool
is_of_root_line classes None = false
is_of_root_line classes (Some c) = is_on_root_line classes c

abbrev pub is_head_at_root : Classes → (name : List ℕ) → Head → Bool
is_head_at_root classes name h = bytes_eq name h.name && is_of_root_line classes (class_of_name classes h.class)

-- one of these is of that attribute and of such a class
abbrev pub is_among_at_root : Classes → List Head → (name : List ℕ) → Bool
is_among_at_root classes hs name = list_any (is_head_at_root classes name) hs

-- an inherited attribute has no value at the root: the start class declares a synthesized one, of which each value is the fault `null`
abbrev pub null_form : (root : List ℕ) → DeclForm → Option DeclForm
null_form root (Synthesized lazy kind of name params start ending) = None
null_form root (Inherited lazy kind of name params start) =
    Some (Synthesized lazy kind (renamed of root) name params None (With (null_body (renamed of root) name params.items)))
null_form root (Equation of name params body) = None
null_form root (InheritedEquation of getter index name params body) = None

-- unless a class on its line declares the attribute itself
abbrev pub decls_at_root : Classes → (attributes : List Head) → Decl → List Decl
decls_at_root classes attributes d =
    if is_among_at_root classes attributes (name_word d.form).text then [] else declared_at d.at (null_form (name_of classes 0) d.form)

-- what a declaration is read as ---------------------------------------------------------------------------------------

-- what is declared for the start class alone comes first
abbrev pub decls_everywhere : Classes → (attributes equations : List Head) → Decl → List Decl
decls_everywhere classes attributes equations d = decls_at_root classes attributes d ++ decls_from classes attributes equations d 0 classes

abbrev pub spread_as : Classes → (attributes equations : List Head) → Decl → List Decl
spread_as classes attributes equations d =
    if is_everywhere d.form then decls_everywhere classes attributes equations d else d ∷ []

abbrev pub aspect_spread : Classes → (attributes equations : List Head) → Aspect → Aspect
aspect_spread classes attributes equations a = record { name = a.name; decls = flat_map (spread_as classes attributes equations) a.decls }

abbrev pub files_spread : Classes → (attributes equations : List Head) → List (List Aspect) → List (List Aspect)
files_spread classes attributes equations files = map (map (aspect_spread classes attributes equations)) files

-- where classes declare these attributes
abbrev pub spread_over : Classes → (attributes : List Head) → List (List Aspect) → List (List Aspect)
spread_over classes attributes files = files_spread classes attributes (heads Equations files) files

-- as they stand, where they declare more attributes than there may be: then the files are refused for that
abbrev pub spread : Classes → List (List Aspect) → List (List Aspect)
spread classes files = if nat_le (length (heads Attributes files)) 2000 then spread_over classes (heads Attributes files) files else files
