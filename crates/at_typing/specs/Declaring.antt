-- What declarations together must obey, and the fault of those that don't: the first one in file order that breaks a rule has its place.
-- A class that isn't there counts as one of its own, without a superclass.
use Rattle.std.specs.Prelude.{◌≡◌, ℕ, Bool, true, false, ◌||◌, ◌&&◌, not, nat_lt, List, [], ◌∷◌, ◌++◌, length, map, take, filter, Option, Some, None, option_map, option_and_then, position, is_some, if◌then◌else◌}
use Rattle.std.specs.List.{list_any}
use Rattle.std.specs.Bool.{beq}
use Rattle.std.specs.Option.{option_eq, option_or}
use Rattle.std.specs.Str.{bytes_eq}
use Rattle.at_model.specs.Classes.{Classes, is_sub, class_of_name}
use Rattle.at_model.specs.Declarations.{first_given}
use Rattle.at_text.specs.declared.place.Place.{Place}
use Rattle.at_jrag.specs.Syntax.{Word, Kind, Int, Bool', Text, Class, KindWord, Param, Params, Ending, With, Semicolon, Body, DeclForm, Synthesized, Inherited, Equation, InheritedEquation, Decl}
use Rattle.at_jrag.specs.Syntax as written
use Rattle.at_kinds.specs.Accessors.{is_accessor}
use Rattle.at_kinds.specs.declared.arguments.Arguments.{Arguments}
use Rattle.at_kinds.specs.declared.arguments.Arguments.TheVariants.{Given, Computed}
use Rattle.at_typing.specs.Located.{Located, class_word, name_word}
use Rattle.at_typing.specs.declared.fault.Breach.{Breach}
use Rattle.at_kinds.specs.declared.code.RuleCode.{RuleCode}
use Rattle.at_kinds.specs.declared.code.RuleCode.TheVariants as code

abbrev pub fault_at : RuleCode → Located → Place → Breach
fault_at c d at = record { code = c; file = d.file; at = at }

-- at the declaration's first token
abbrev pub fault_if : Bool → RuleCode → Located → Option Breach
fault_if b c d = if b then Some (fault_at c d d.decl.at) else None

-- what a declaration has ---------------------------------------------------------------------------------------------

-- it declares an attribute
abbrev pub is_attribute : DeclForm → Bool
is_attribute (Synthesized lazy kind class name params start ending) = true
is_attribute (Inherited lazy kind class name params start) = true
is_attribute (Equation class name params body) = false
is_attribute (InheritedEquation class getter index name params body) = false

-- it declares an inherited attribute
abbrev pub is_inherited : DeclForm → Bool
is_inherited (Synthesized lazy kind class name params start ending) = false
is_inherited (Inherited lazy kind class name params start) = true
is_inherited (Equation class name params body) = false
is_inherited (InheritedEquation class getter index name params body) = false

-- the kind of the attribute that is declared
abbrev pub result_in : DeclForm → Option KindWord
result_in (Synthesized lazy kind class name params start ending) = Some kind
result_in (Inherited lazy kind class name params start) = Some kind
result_in (Equation class name params body) = None
result_in (InheritedEquation class getter index name params body) = None

abbrev pub params_in : DeclForm → Params
params_in (Synthesized lazy kind class name params start ending) = params
params_in (Inherited lazy kind class name params start) = params
params_in (Equation class name params body) = params
params_in (InheritedEquation class getter index name params body) = params

-- the value from which the attribute that is declared starts, where it is circular
abbrev pub start_in : DeclForm → Option Bool
start_in (Synthesized lazy kind class name params start ending) = start
start_in (Inherited lazy kind class name params start) = start
start_in (Equation class name params body) = None
start_in (InheritedEquation class getter index name params body) = None

-- the values of the attribute that is declared are kept: it is lazy, or circular
abbrev pub is_lazy : DeclForm → Bool
is_lazy (Synthesized lazy kind class name params start ending) = is_some lazy || is_some start
is_lazy (Inherited lazy kind class name params start) = is_some lazy || is_some start
is_lazy (Equation class name params body) = false
is_lazy (InheritedEquation class getter index name params body) = false

-- it declares no circular attribute
abbrev pub IsNotCircular : Located → Type 0
IsNotCircular d = start_in d.decl.form ≡ None

-- the getter of the component for whose nodes an inherited equation stands
abbrev pub getter_in : DeclForm → Option Word
getter_in (Synthesized lazy kind class name params start ending) = None
getter_in (Inherited lazy kind class name params start) = None
getter_in (Equation class name params body) = None
getter_in (InheritedEquation class getter index name params body) = Some getter

-- the name of an inherited equation's index
abbrev pub index_in : DeclForm → Option Word
index_in (Synthesized lazy kind class name params start ending) = None
index_in (Inherited lazy kind class name params start) = None
index_in (Equation class name params body) = None
index_in (InheritedEquation class getter index name params body) = index

abbrev pub body_at : Ending → Option Body
body_at (With body) = Some body
body_at (Semicolon at) = None

-- the body of its equation
abbrev pub body_in : DeclForm → Option Body
body_in (Synthesized lazy kind class name params start ending) = body_at ending
body_in (Inherited lazy kind class name params start) = None
body_in (Equation class name params body) = Some body
body_in (InheritedEquation class getter index name params body) = Some body

abbrev pub class_text : Located → List ℕ
class_text d = (class_word d.decl.form).text

abbrev pub name_text : Located → List ℕ
name_text d = (name_word d.decl.form).text

abbrev pub is_sub_or_none : Classes → Option ℕ → Option ℕ → Bool
is_sub_or_none classes (Some c) (Some b) = is_sub classes c b
is_sub_or_none classes (Some c) None = false
is_sub_or_none classes None b = false

-- the first word names the class that the second one names, or one below it
abbrev pub is_below : Classes → List ℕ → List ℕ → Bool
is_below classes v w = bytes_eq v w || is_sub_or_none classes (class_of_name classes v) (class_of_name classes w)

-- J11 ----------------------------------------------------------------------------------------------------------------

unfoldable pub max_attributes : ℕ
max_attributes = 2000

unfoldable pub max_text : ℕ
max_text = 4096

abbrev mutual
  -- the first text in the expression that is too long
  pub long_text : written.Expr → Option Place
  long_text (written.Number at n) = None
  long_text (written.TextLiteral at bytes) = if nat_lt max_text (length bytes) then Some at else None
  long_text (written.Truth at b) = None
  long_text (written.Null at) = None
  long_text (written.This at) = None
  long_text (written.Name at text) = None
  long_text (written.Call at name es) = long_text_among es
  long_text (written.CallOf at e name es) = option_or (long_text e) (long_text_among es)
  long_text (written.Paren at e) = long_text e
  long_text (written.Negate at e) = long_text e
  long_text (written.Not at e) = long_text e
  long_text (written.Cast at class e) = long_text e
  long_text (written.InstanceOf at e behind class) = long_text e
  long_text (written.Binary at o between a b) = option_or (long_text a) (long_text b)
  long_text (written.Choose at c behind a b) = option_or (long_text c) (option_or (long_text a) (long_text b))
  long_text (written.Fold at form name list body) = option_or (long_text list) (long_text body)

  pub long_text_among : written.Exprs → Option Place
  long_text_among written.no_exprs = None
  long_text_among (written.expr e es) = option_or (long_text e) (long_text_among es)

abbrev pub attributes : List Located → List Located
attributes ds = filter (λ d. is_attribute d.decl.form) ds

-- it declares an attribute, and those before it are as many as there may be
abbrev pub is_too_many : List Located → Located → Bool
is_too_many before d = is_attribute d.decl.form && not (nat_lt (length (attributes before)) max_attributes)

abbrev pub limit_at : List Located → ℕ → Located → Option Breach
limit_at ds i d =
    option_or (fault_if (is_too_many (take i ds) d) code.Limit d)
    (option_map (fault_at code.Limit d) (option_and_then (λ b. long_text b.expr) (body_in d.decl.form)))

-- an attribute too many, or a text too long
abbrev pub over_limit : List Located → Option Breach
over_limit ds = first_given (limit_at ds) 0 ds

-- J12 ----------------------------------------------------------------------------------------------------------------

abbrev pub accessor_at : Classes → ℕ → Located → Option Breach
accessor_at classes i d = fault_if (is_attribute d.decl.form && is_accessor classes (name_text d)) code.NameOfAccessor d

-- an attribute has the name of an accessor
abbrev pub accessor_named : Classes → List Located → Option Breach
accessor_named classes ds = first_given (accessor_at classes) 0 ds

-- J2 -----------------------------------------------------------------------------------------------------------------

-- they are written the same
abbrev pub is_same_kind : Kind → Kind → Bool
is_same_kind Int Int = true
is_same_kind Bool' Bool' = true
is_same_kind Text Text = true
is_same_kind (Class v) (Class w) = bytes_eq v w
is_same_kind j k = false

abbrev pub have_same_kinds : List Param → List Param → Bool
have_same_kinds [] [] = true
have_same_kinds [] (q ∷ qs) = false
have_same_kinds (p ∷ ps) [] = false
have_same_kinds (p ∷ ps) (q ∷ qs) = is_same_kind p.kind.kind q.kind.kind && have_same_kinds ps qs

abbrev pub has_same_result : Option KindWord → Option KindWord → Bool
has_same_result (Some j) (Some k) = is_same_kind j.kind k.kind
has_same_result (Some j) None = false
has_same_result None k = false

-- the same result and the same parameters
abbrev pub has_same_signature : DeclForm → DeclForm → Bool
has_same_signature d e = has_same_result (result_in d) (result_in e) && have_same_kinds (params_in d).items (params_in e).items

-- both are circular with the same start, or neither is circular
abbrev pub has_same_start : DeclForm → DeclForm → Bool
has_same_start d e = option_eq beq (start_in d) (start_in e)

-- of one name, one is synthesized and one inherited, or both are inherited with other kinds or another start
abbrev pub differs : DeclForm → DeclForm → Bool
differs d e = if is_inherited d then not (is_inherited e && (has_same_signature d e && has_same_start d e)) else is_inherited e

-- It is compared with others of its name: an inherited one, since inherited equations go by names alone; and each one, unless what is
-- computed may be an argument. Then a name may be synthesized in one class and inherited in another.
abbrev pub is_compared : Arguments → DeclForm → Bool
is_compared Given form = true
is_compared Computed form = is_inherited form

-- both are compared, and differ
abbrev pub disagrees : Arguments → DeclForm → DeclForm → Bool
disagrees allowed d e = (is_compared allowed d && is_compared allowed e) && differs d e

abbrev pub is_on_one_line : Classes → List ℕ → List ℕ → Bool
is_on_one_line classes v w = is_below classes v w || is_below classes w v

-- attributes of one name that can't both be declared
abbrev pub clashes : Arguments → Classes → Located → Located → Bool
clashes allowed classes d e =
    (is_attribute e.decl.form && bytes_eq (name_text d) (name_text e))
    && (disagrees allowed d.decl.form e.decl.form || is_on_one_line classes (class_text d) (class_text e))

abbrev mutual
  -- a fold in the expression has a name that is bound where it stands: by one of these, or by a fold around it in its braces
  pub is_bound_again : List (List ℕ) → written.Expr → Bool
  is_bound_again names (written.Number at n) = false
  is_bound_again names (written.TextLiteral at bytes) = false
  is_bound_again names (written.Truth at b) = false
  is_bound_again names (written.Null at) = false
  is_bound_again names (written.This at) = false
  is_bound_again names (written.Name at text) = false
  is_bound_again names (written.Call at name es) = is_bound_among names es
  is_bound_again names (written.CallOf at e name es) = is_bound_again names e || is_bound_among names es
  is_bound_again names (written.Paren at e) = is_bound_again names e
  is_bound_again names (written.Negate at e) = is_bound_again names e
  is_bound_again names (written.Not at e) = is_bound_again names e
  is_bound_again names (written.Cast at class e) = is_bound_again names e
  is_bound_again names (written.InstanceOf at e behind class) = is_bound_again names e
  is_bound_again names (written.Binary at o between a b) = is_bound_again names a || is_bound_again names b
  is_bound_again names (written.Choose at c behind a b) = is_bound_again names c || (is_bound_again names a || is_bound_again names b)
  is_bound_again names (written.Fold at form name list body) =
      is_bound_again names list || (list_any (bytes_eq name.text) names || is_bound_again (name.text ∷ names) body)

  pub is_bound_among : List (List ℕ) → written.Exprs → Bool
  is_bound_among names written.no_exprs = false
  is_bound_among names (written.expr e es) = is_bound_again names e || is_bound_among names es

-- one of the names is among those before it or these
abbrev pub is_repeated : List (List ℕ) → List (List ℕ) → Bool
is_repeated names [] = false
is_repeated names (n ∷ ns) = list_any (bytes_eq n) names || is_repeated (n ∷ names) ns

abbrev pub index_names : DeclForm → List (List ℕ)
index_names form = elim (index_in form) [ None ↦ [] | Some w ↦ w.text ∷ [] ]

abbrev pub param_names : DeclForm → List (List ℕ)
param_names form = map (λ p. p.name.text) (params_in form).items

-- a parameter or a fold has a name that is bound where it stands
abbrev pub binds_twice : DeclForm → Bool
binds_twice form =
    is_repeated (index_names form) (param_names form)
    || elim (body_in form) [ None ↦ false | Some b ↦ is_bound_again (param_names form ++ index_names form) b.expr ]

abbrev pub twice_at : Arguments → Classes → List Located → ℕ → Located → Option Breach
twice_at allowed classes ds i d =
    fault_if ((is_attribute d.decl.form && list_any (clashes allowed classes d) (take i ds)) || binds_twice d.decl.form) code.AttributeTwice d

-- an attribute clashes with one before it, or a name is bound twice
abbrev pub declared_twice : Arguments → Classes → List Located → Option Breach
declared_twice allowed classes ds = first_given (twice_at allowed classes ds) 0 ds

-- J9 -----------------------------------------------------------------------------------------------------------------

-- the class of that word, or one above it, has a synthesized attribute of that name
abbrev pub is_synthesized : Classes → List Located → List ℕ → List ℕ → Bool
is_synthesized classes ds class name =
    list_any (λ d. (is_attribute d.decl.form && not (is_inherited d.decl.form))
    && (bytes_eq name (name_text d) && is_below classes class (class_text d))) ds

-- what declares an attribute: a synthesized one of that name, of the class of that word or of one above it
abbrev pub is_synthesized_by : Classes → (class name : List ℕ) → Located → Bool
is_synthesized_by classes class name d = not (is_inherited d.decl.form) && (bytes_eq name (name_text d) && is_below classes class (class_text d))

-- the synthesized attribute of that name that the class of the word or one above it has
abbrev pub synthesized_named : Classes → List Located → (class name : List ℕ) → Option ℕ
synthesized_named classes ds class name = position (is_synthesized_by classes class name) (attributes ds)

-- the first inherited attribute of that name
abbrev pub inherited_named : List Located → List ℕ → Option ℕ
inherited_named ds name = position (λ d. is_inherited d.decl.form && bytes_eq name (name_text d)) (attributes ds)

-- an attribute of that name is inherited somewhere
abbrev pub is_inherited_name : List Located → List ℕ → Bool
is_inherited_name ds name = list_any (λ d. is_inherited d.decl.form && bytes_eq name (name_text d)) ds

-- it is no equation, or that of an attribute which is declared
abbrev pub is_of_attribute : Classes → List Located → DeclForm → Bool
is_of_attribute classes ds (Synthesized lazy kind class name params start ending) = true
is_of_attribute classes ds (Inherited lazy kind class name params start) = true
is_of_attribute classes ds (Equation class name params body) = is_synthesized classes ds class.text name.text
is_of_attribute classes ds (InheritedEquation class getter index name params body) = is_inherited_name ds name.text

abbrev pub undeclared_at : Classes → List Located → ℕ → Located → Option Breach
undeclared_at classes ds i d = fault_if (not (is_of_attribute classes ds d.decl.form)) code.EquationWithoutAttribute d

-- an equation's attribute isn't declared
abbrev pub without_attribute : Classes → List Located → Option Breach
without_attribute classes ds = first_given (undeclared_at classes ds) 0 ds

-- J6 -----------------------------------------------------------------------------------------------------------------

-- it has an equation for the class's own nodes
abbrev pub is_own_equation : DeclForm → Bool
is_own_equation form = is_some (body_in form) && not (is_some (getter_in form))

abbrev pub is_same_getter : Option Word → Option Word → Bool
is_same_getter (Some v) (Some w) = bytes_eq v.text w.text
is_same_getter (Some v) None = false
is_same_getter None w = false

-- equations of one class for one attribute, or for one component and one attribute
abbrev pub is_same_equation : Located → Located → Bool
is_same_equation d e =
    (bytes_eq (class_text d) (class_text e) && bytes_eq (name_text d) (name_text e))
    && ((is_own_equation d.decl.form && is_own_equation e.decl.form) || is_same_getter (getter_in d.decl.form) (getter_in e.decl.form))

abbrev pub equation_at : List Located → ℕ → Located → Option Breach
equation_at ds i d = fault_if (list_any (is_same_equation d) (take i ds)) code.EquationTwice d

-- an equation is there already
abbrev pub equation_twice : List Located → Option Breach
equation_twice ds = first_given (equation_at ds) 0 ds

-- ---------------------------------------------------------------------------------------------------------------------

-- the first fault of the declarations together, before any is looked at by itself
abbrev pub fault_together : Arguments → Classes → List Located → Option Breach
fault_together allowed classes ds =
    option_or (over_limit ds)
    (option_or (accessor_named classes ds)
    (option_or (declared_twice allowed classes ds)
    (option_or (without_attribute classes ds)
    (equation_twice ds))))
