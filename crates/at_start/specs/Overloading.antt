-- Attributes that are overloaded: of one name, with different numbers of parameters (Java Language Specification, 8.4.9, "Overloading";
-- JastAdd2 reference manual, "Attributes", for parameters of attributes and for methods). Each is called by the name and its own number,
-- so that all that is read behind it finds names that differ.
use Rattle.std.specs.Prelude.{◌≡◌, ℕ, nat_eq, nat_le, Bool, true, false, ◌&&◌, not, List, [], ◌∷◌, length, map, filter_map, Option, Some, None, if◌then◌else◌}
use Rattle.std.specs.List.{flat_map, list_any}
use Rattle.std.specs.Str.{bytes_eq}
use Rattle.at_model.specs.Classes.{Classes}
use Rattle.at_model.specs.Rules.{name_by}
use Rattle.at_jrag.specs.Syntax.{Word, Params, Expr, Exprs, no_exprs, expr, Number, TextLiteral, Truth, Null, This, Name, Call, CallOf, Paren, Negate, Not, Cast, InstanceOf, Binary, Choose, Fold, from_exprs, Body, Ending, With, Semicolon, DeclForm, Synthesized, Inherited, Equation, InheritedEquation, Decl, Aspect}
use Rattle.at_kinds.specs.Accessors.{is_accessor}

-- which attributes are overloaded -------------------------------------------------------------------------------------

-- of an attribute that is declared: its name, and how many parameters it has
pub record Counted : Type 0 where
  pub name : List ℕ
  pub count : ℕ

abbrev pub count_of : Word → Params → Counted
count_of name params = record { name = name.text; count = length params.items }

abbrev pub counted_in : DeclForm → Option Counted
counted_in (Synthesized lazy kind class name params start ending) = Some (count_of name params)
counted_in (Inherited lazy kind class name params start) = Some (count_of name params)
counted_in (Equation class name params body) = None
counted_in (InheritedEquation class getter index name params body) = None

abbrev pub counted_of : Decl → Option Counted
counted_of d = counted_in d.form

abbrev pub all_in : Aspect → List Counted
all_in a = filter_map counted_of a.decls

-- those of all files
abbrev pub all_counted : List (List Aspect) → List Counted
all_counted files = flat_map (flat_map all_in) files

abbrev pub is_declared_by : (name : List ℕ) → (count : ℕ) → Counted → Bool
is_declared_by name count c = bytes_eq name c.name && nat_eq count c.count

-- an attribute of that name is declared with so many parameters
abbrev pub declares : List Counted → (name : List ℕ) → (count : ℕ) → Bool
declares cs name count = list_any (is_declared_by name count) cs

-- one is declared with another number of them, of those that an attribute may have
abbrev pub has_another : List Counted → (name : List ℕ) → (count : ℕ) → Bool
has_another cs name count = list_any (λ n. not (nat_eq n count) && declares cs name n) (0 ∷ 1 ∷ 2 ∷ 3 ∷ 4 ∷ [])

-- it can't be called by its name alone; what has the name of an accessor is refused for that
abbrev pub needs_number : Classes → List Counted → (name : List ℕ) → (count : ℕ) → Bool
needs_number classes cs name count = has_another cs name count && not (is_accessor classes name)

abbrev pub is_overloaded : Classes → List Counted → (name : List ℕ) → (count : ℕ) → Bool
is_overloaded classes cs name count = nat_le count 4 && (declares cs name count && needs_number classes cs name count)

-- how they are told apart ---------------------------------------------------------------------------------------------

-- which attributes are overloaded, by their names and numbers of parameters
abbrev pub Overloads : Type 0
Overloads = (name : List ℕ) → (count : ℕ) → Bool

abbrev pub told : Overloads → List ℕ → (count : ℕ) → List ℕ
told is name count = if is name count then name_by name count else name

-- the calls in an expression, each by its arguments
abbrev mutual
  pub apart : Overloads → Expr → Expr
  apart is (Number at n) = Number at n
  apart is (TextLiteral at text) = TextLiteral at text
  apart is (Truth at b) = Truth at b
  apart is (Null at) = Null at
  apart is (This at) = This at
  apart is (Name at text) = Name at text
  apart is (Call at name es) = Call at (told is name (length (from_exprs es))) (all_apart is es)
  apart is (CallOf at e name es) = CallOf at (apart is e) (told is name (length (from_exprs es))) (all_apart is es)
  apart is (Paren at e) = Paren at (apart is e)
  apart is (Negate at e) = Negate at (apart is e)
  apart is (Not at e) = Not at (apart is e)
  apart is (Cast at class e) = Cast at class (apart is e)
  apart is (InstanceOf at e behind class) = InstanceOf at (apart is e) behind class
  apart is (Binary at operator between a b) = Binary at operator between (apart is a) (apart is b)
  apart is (Choose at c behind a b) = Choose at (apart is c) behind (apart is a) (apart is b)
  apart is (Fold at form name list body) = Fold at form name (apart is list) (apart is body)

  pub all_apart : Overloads → Exprs → Exprs
  all_apart is no_exprs = no_exprs
  all_apart is (expr e es) = expr (apart is e) (all_apart is es)

abbrev pub word_apart : Overloads → Word → Params → Word
word_apart is w params = record { text = told is w.text (length params.items); at = w.at }

abbrev pub body_apart : Overloads → Body → Body
body_apart is b = record { at = b.at; form = b.form; expr = apart is b.expr }

abbrev pub ending_apart : Overloads → Ending → Ending
ending_apart is (With b) = With (body_apart is b)
ending_apart is (Semicolon at) = Semicolon at

abbrev pub form_apart : Overloads → DeclForm → DeclForm
form_apart is (Synthesized lazy kind class name params start ending) =
    Synthesized lazy kind class (word_apart is name params) params start (ending_apart is ending)
form_apart is (Inherited lazy kind class name params start) = Inherited lazy kind class (word_apart is name params) params start
form_apart is (Equation class name params body) = Equation class (word_apart is name params) params (body_apart is body)
form_apart is (InheritedEquation class getter index name params body) =
    InheritedEquation class getter index (word_apart is name params) params (body_apart is body)

abbrev pub decl_apart : Overloads → Decl → Decl
decl_apart is d = record { at = d.at; form = form_apart is d.form }

abbrev pub aspect_apart : Overloads → Aspect → Aspect
aspect_apart is a = record { name = a.name; decls = map (decl_apart is) a.decls }

abbrev pub files_apart : Overloads → List (List Aspect) → List (List Aspect)
files_apart is files = map (map (aspect_apart is)) files

abbrev pub apart_among : Classes → List Counted → List (List Aspect) → List (List Aspect)
apart_among classes cs files = files_apart (is_overloaded classes cs) files

-- the aspects of all files, in which each overloaded attribute is called by its name and its number of parameters; as they stand, where
-- they declare more attributes than there may be: then the files are refused for that
abbrev pub told_apart : Classes → List (List Aspect) → List (List Aspect)
told_apart classes files = if nat_le (length (all_counted files)) 2000 then apart_among classes (all_counted files) files else files

-- no attribute is overloaded
abbrev pub HaveNoneOverloaded : Classes → List (List Aspect) → Type 0
HaveNoneOverloaded classes files = (name : List ℕ) (count : ℕ) → is_overloaded classes (all_counted files) name count ≡ false
