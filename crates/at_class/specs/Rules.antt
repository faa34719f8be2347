-- Which rules are known to be kept while those behind them are looked at.
use Rattle.std.specs.Prelude.{◌≡◌, List, map, None, String, string_bytes}
use Rattle.at_model.specs.Declarations.{Declarations, no_class, class_twice, unknown_class, superclass_circle, token_kind, component_twice, over_limit}
use Rattle.at_grammar.specs.declared.syntax.ClassDecl.{ClassDecl}

-- the names are those of the classes, in their order
abbrev pub AreNames : {A : Type 0} → List (String A) → List ClassDecl → Type 0
AreNames names xs = map string_bytes names ≡ map (λ d. string_bytes d.name) xs

-- there are classes, each is declared once, and all that is named is declared
pub record AreKnown (ds : Declarations) : Type 0 where
  pub some : no_class ds ≡ None
  pub once : class_twice ds ≡ None
  pub known : unknown_class ds ≡ None

-- the other rules are kept, too
pub record AreRegular (ds : Declarations) : Type 0 where
  pub circle : superclass_circle ds ≡ None
  pub kind : token_kind ds ≡ None
  pub twice : component_twice ds ≡ None
  pub limit : over_limit ds ≡ None
