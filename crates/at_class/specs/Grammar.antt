-- What a grammar that was read stands for.
use Rattle.std.specs.Prelude.{map, List, string_bytes, option_map}
use Rattle.at_model.specs.Declarations.{Form, PartDeclaration, Declaration, Declarations, Place as PlaceSeen}
use Rattle.at_model.specs.Declarations as form
use Rattle.at_text.specs.declared.place.Place.{Place}
use Rattle.at_grammar.specs.declared.syntax.Shape.{Shape}
use Rattle.at_grammar.specs.declared.syntax.Shape.TheVariants.{One, Many, Maybe, Tok}
use Rattle.at_grammar.specs.declared.syntax.PartDecl.{PartDecl}
use Rattle.at_grammar.specs.declared.syntax.ClassDecl.{ClassDecl}
use Rattle.at_grammar.specs.declared.syntax.Grammar.{Grammar}

-- its line and its column
abbrev pub place_view : Place → PlaceSeen
place_view p = (p.line, p.column)

abbrev pub form_view : Shape → Form
form_view One = form.One
form_view Many = form.Many
form_view Maybe = form.Maybe
form_view Tok = form.Tok

abbrev pub part_declaration_view : PartDecl → PartDeclaration
part_declaration_view p = record { name = string_bytes p.name; kind = string_bytes p.kind; form = form_view p.shape; at = place_view p.at }

abbrev pub declaration_view : ClassDecl → Declaration
declaration_view d = record {
  name = string_bytes d.name;
  is_abstract = d.is_abstract;
  parent = option_map string_bytes d.parent;
  parts = map part_declaration_view d.parts.items;
  at = place_view d.at;
}

abbrev pub declarations_view : List ClassDecl → Declarations
declarations_view ds = map declaration_view ds

abbrev pub grammar_view : Grammar → Declarations
grammar_view g = declarations_view g.classes.items
