-- A grammar that breaks no rule, and its classes.
use Rattle.std.specs.Prelude.{◌≡◌, None}
use Rattle.at_model.specs.Declarations.{AreNamed, classes_of, first_fault}
use Rattle.at_model.specs.WellFormed.{IsHierarchy}
use Rattle.at_class.specs.Grammar.{grammar_view}
use Rattle.at_start.specs.declared.grammar.Declared.{Declared}

pub record IsDeclared (d : Declared) : Type 0 where
  pub named : AreNamed (grammar_view d.grammar)
  pub faultless : first_fault (grammar_view d.grammar) ≡ None
  pub built : d.classes ≡ classes_of (grammar_view d.grammar)
  pub hierarchy : IsHierarchy d.classes
