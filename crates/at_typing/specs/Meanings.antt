-- What a declaration means by itself: the attribute and the equation that it adds, or its first fault: of its kind and its class, then
-- of its component and index name, of its parameters, of its body.
use Rattle.std.specs.Prelude.{ℕ, List, [], ◌∷◌, map, Option, Some, None, option_map, slice_get}
use Rattle.std.specs.List.{flat_map}
use Rattle.at_model.specs.Classes.{Classes, class_of_name}
use Rattle.at_model.specs.Bodies.{Expr}
use Rattle.at_model.specs.Rules.{Attribute, OwnEquation}
use Rattle.at_model.specs.Rules as model
use Rattle.at_jrag.specs.Syntax.{Word, KindWord, Body, DeclForm, Synthesized, Inherited, Equation, InheritedEquation}
use Rattle.at_rules.specs.Bodies.{kind_view}
use Rattle.at_rules.specs.declared.body.Kind.{Kind}
use Rattle.at_typing.specs.Declaring.{is_inherited, is_lazy, start_in, result_in, params_in, index_in, body_in, class_text, name_text, synthesized_named, inherited_named}
use Rattle.at_kinds.specs.declared.arguments.Arguments.{Arguments}
use Rattle.at_kinds.specs.Judging.{Judgement, Is, Wrong, and_then, Scope, body_of as body_judged}
use Rattle.at_typing.specs.Located.{Located, class_word}
use Rattle.at_typing.specs.Ruling.{written_kind, class_named, kind_named, params_named, as_declared, component_got, index_of_list, bound}
use Rattle.at_kinds.specs.Signatures.{Declared}
use Rattle.at_kinds.specs.declared.code.RuleCode.TheVariants as code

-- the attributes that are declared -----------------------------------------------------------------------------------

-- the word with which the values of an attribute are declared, if one is
abbrev pub words_of : Option KindWord → List KindWord
words_of None = []
words_of (Some word) = word ∷ []

-- the words with which the values of attributes are declared, in the order of the declarations
abbrev pub results : List Located → List KindWord
results ds = flat_map (λ d. words_of (result_in d.decl.form)) ds

abbrev pub signature : Classes → (words : List KindWord) → Located → KindWord → Declared
signature classes words d result = record {
  name = name_text d;
  class = class_of_name classes (class_text d);
  parameters = map (λ p. written_kind classes words p.kind.kind) (params_in d.decl.form).items;
  result = written_kind classes words result.kind;
}

-- where the declaration declares an attribute
abbrev pub signature_if : Classes → (words : List KindWord) → Located → Option KindWord → List Declared
signature_if classes words d None = []
signature_if classes words d (Some result) = signature classes words d result ∷ []

abbrev pub signatures_among : Classes → (words : List KindWord) → List Located → List Declared
signatures_among classes words ds = flat_map (λ d. signature_if classes words d (result_in d.decl.form)) ds

-- what is declared of attributes, in the order of the declarations
abbrev pub signatures : Classes → List Located → List Declared
signatures classes ds = signatures_among classes (results ds) ds

-- bodies of equations -------------------------------------------------------------------------------------------------

-- where the body of an equation of class c stands
abbrev pub scope : Arguments → Classes → List Declared → ℕ → DeclForm → Scope
scope allowed classes declared c form = record {
  classes = classes;
  declared = declared;
  arguments = allowed;
  this = c;
  names = map (bound classes) (params_in form).items;
  index = option_map (λ w. w.text) (index_in form);
}

-- the body of an equation of class c for an attribute of which that is declared
abbrev pub body_for : Arguments → Classes → List Declared → ℕ → Located → Body → Declared → Judgement Expr
body_for allowed classes declared c d body s =
    and_then (λ u. body_judged (scope allowed classes declared c d.decl.form) body.expr s.result)
    (as_declared allowed classes s.parameters (params_in d.decl.form).end 0 (params_in d.decl.form).items)

abbrev pub body_if : Arguments → Classes → List Declared → ℕ → Located → Body → Option Declared → Judgement Expr
body_if allowed classes declared c d body None = Wrong code.EquationWithoutAttribute d.decl.at
body_if allowed classes declared c d body (Some s) = body_for allowed classes declared c d body s

-- the body of an equation for the attribute of that number, where one is declared
abbrev pub body_meant : Arguments → Classes → List Declared → ℕ → Located → Body → Option ℕ → Judgement (ℕ × Expr)
body_meant allowed classes declared c d body None = Wrong code.EquationWithoutAttribute d.decl.at
body_meant allowed classes declared c d body (Some a) = and_then (λ e. Is (a, e)) (body_if allowed classes declared c d body (slice_get declared a))

-- declarations ---------------------------------------------------------------------------------------------------------

-- what a declaration adds to the rules
pub record Meaning : Type 0 where
  pub attribute : Option Attribute
  pub own : Option OwnEquation
  pub inherited : Option model.InheritedEquation

abbrev pub attribute : Located → ℕ → Kind → List Kind → Attribute
attribute d c result params = record {
  name = name_text d;
  class = c;
  parameters = map kind_view params;
  result = kind_view result;
  is_lazy = is_lazy d.decl.form;
  is_inherited = is_inherited d.decl.form;
  start = start_in d.decl.form;
}

abbrev pub attribute_with : Arguments → Classes → Located → Kind → ℕ → Judgement Attribute
attribute_with allowed classes d result c =
    and_then (λ params. Is (attribute d c result params)) (params_named allowed classes 0 (params_in d.decl.form).items)

abbrev pub attribute_for : Arguments → Classes → Located → Kind → Judgement Attribute
attribute_for allowed classes d result = and_then (attribute_with allowed classes d result) (class_named classes (class_word d.decl.form))

-- the attribute that is declared
abbrev pub attribute_meant : Arguments → Classes → Located → KindWord → Judgement Attribute
attribute_meant allowed classes d result = and_then (attribute_for allowed classes d) (kind_named classes result)

abbrev pub own_equation : ℕ → ℕ × Expr → OwnEquation
own_equation c e = record { class = c; attribute = e.0; body = e.1 }

-- the equation of class c for its own nodes
abbrev pub own_meant : Arguments → Classes → List Located → Located → Body → ℕ → Judgement OwnEquation
own_meant allowed classes ds d body c =
    and_then (λ e. Is (own_equation c e))
    (body_meant allowed classes (signatures classes ds) c d body (synthesized_named classes ds (class_text d) (name_text d)))

abbrev pub inherited_equation : Located → ℕ → Option ℕ → Expr → model.InheritedEquation
inherited_equation d c part body = record { class = c; part = part; name = name_text d; body = body }

-- the equation of class c for the nodes in the component, or in each one
abbrev pub inherited_meant : Arguments → Classes → List Located → Located → Option Word → Body → ℕ → Option ℕ → Judgement model.InheritedEquation
inherited_meant allowed classes ds d index body c part =
    and_then (λ u. and_then (λ e. Is (inherited_equation d c part e.1))
    (body_meant allowed classes (signatures classes ds) c d body (inherited_named ds (name_text d))))
    (index_of_list classes c part index)

abbrev pub declared_alone : Attribute → Judgement Meaning
declared_alone a = Is (record { attribute = Some a; own = None; inherited = None })

abbrev pub declared_with : Attribute → OwnEquation → Judgement Meaning
declared_with a e = Is (record { attribute = Some a; own = Some e; inherited = None })

abbrev pub own_alone : OwnEquation → Judgement Meaning
own_alone e = Is (record { attribute = None; own = Some e; inherited = None })

abbrev pub inherited_alone : model.InheritedEquation → Judgement Meaning
inherited_alone e = Is (record { attribute = None; own = None; inherited = Some e })

-- with the equation of its body, if it has one
abbrev pub with_body : Arguments → Classes → List Located → Located → Option Body → Attribute → Judgement Meaning
with_body allowed classes ds d None a = declared_alone a
with_body allowed classes ds d (Some body) a = and_then (declared_with a) (own_meant allowed classes ds d body a.class)

abbrev pub synthesized_meant : Arguments → Classes → List Located → Located → KindWord → Judgement Meaning
synthesized_meant allowed classes ds d result = and_then (with_body allowed classes ds d (body_in d.decl.form)) (attribute_meant allowed classes d result)

abbrev pub equation_meant : Arguments → Classes → List Located → Located → Word → Body → Judgement Meaning
equation_meant allowed classes ds d class body = and_then (λ c. and_then own_alone (own_meant allowed classes ds d body c)) (class_named classes class)

abbrev pub below_component : Arguments → Classes → List Located → Located → Option Word → Body → ℕ → Option ℕ → Judgement Meaning
below_component allowed classes ds d index body c part = and_then inherited_alone (inherited_meant allowed classes ds d index body c part)

abbrev pub below_class : Arguments → Classes → List Located → Located → (getter : Word) → Option Word → Body → ℕ → Judgement Meaning
below_class allowed classes ds d getter index body c = and_then (below_component allowed classes ds d index body c) (component_got classes c getter)

abbrev pub equation_below_meant : Arguments → Classes → List Located → Located → (class getter : Word) → (index : Option Word) → Body → Judgement Meaning
equation_below_meant allowed classes ds d class getter index body =
    and_then (below_class allowed classes ds d getter index body) (class_named classes class)

abbrev pub form_meant : Arguments → Classes → List Located → Located → DeclForm → Judgement Meaning
form_meant allowed classes ds d (Synthesized lazy result class name params start ending) = synthesized_meant allowed classes ds d result
form_meant allowed classes ds d (Inherited lazy result class name params start) = and_then declared_alone (attribute_meant allowed classes d result)
form_meant allowed classes ds d (Equation class name params body) = equation_meant allowed classes ds d class body
form_meant allowed classes ds d (InheritedEquation class getter index name params body) = equation_below_meant allowed classes ds d class getter index body

-- what the declaration means among all of them, or its first fault
abbrev pub meant : Arguments → Classes → List Located → Located → Judgement Meaning
meant allowed classes ds d = form_meant allowed classes ds d d.decl.form
