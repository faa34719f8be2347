-- Calls of attributes on null: whatever the attribute is, such a call has the fault `null`.
use Rattle.std.specs.Prelude.{pos, false, List, [], map}
use Rattle.at_text.specs.declared.place.Place.{Place}
use Rattle.at_jrag.specs.Syntax.{Word, Kind, Int, Bool', Text, Class, Param, Expr, Number, TextLiteral, Truth, Null, CallOf, Cast, to_exprs, Equation', Body}

-- a value of that kind, written out
abbrev pub literal_of : Kind → Place → Expr
literal_of Int at = Number at (pos 0)
literal_of Bool' at = Truth at false
literal_of Text at = TextLiteral at []
literal_of (Class name) at = Null at

abbrev pub literal_for : Param → Expr
literal_for p = literal_of p.kind.kind p.name.at

-- `((CLASS) null).NAME(..)`, with a value for each parameter; each part stands where the name does
abbrev pub asked_of_null : (class name : Word) → List Param → Expr
asked_of_null class name params = CallOf name.at (Cast name.at class (Null name.at)) name.text (to_exprs (map literal_for params))

abbrev pub null_body : (class name : Word) → List Param → Body
null_body class name params = record { at = name.at; form = Equation'; expr = asked_of_null class name params }
