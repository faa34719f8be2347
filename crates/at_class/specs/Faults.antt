-- Which fault a refusal says.
use Rattle.std.specs.Prelude.{◌≡◌, Option, Some, ⊤}
use Rattle.at_model.specs.Declarations.{Declarations, Code, Place, first_fault}
use Rattle.at_model.specs.Declarations as code
use Rattle.at_text.specs.declared.fault.Fault.{Fault}
use Rattle.at_text.specs.declared.fault.Fault.TheVariants.{Refused, Memory}
use Rattle.at_class.specs.Grammar.{place_view}
use Rattle.at_class.specs.declared.fault.ClassCode.{ClassCode}
use Rattle.at_class.specs.declared.fault.ClassCode.TheVariants.{NoClass, ClassTwice, UnknownClass, SuperclassCircle, TokenKind, ComponentTwice, Limit}

abbrev pub code_view : ClassCode → Code
code_view NoClass = code.NoClass
code_view ClassTwice = code.ClassTwice
code_view UnknownClass = code.UnknownClass
code_view SuperclassCircle = code.SuperclassCircle
code_view TokenKind = code.TokenKindCode
code_view ComponentTwice = code.ComponentTwice
code_view Limit = code.Limit

-- the refusal is the grammar's first fault, unless memory was wanting
abbrev pub IsRefusedFor : Declarations → Fault ClassCode → Type 0
IsRefusedFor ds (Refused c at) = first_fault ds ≡ Some (record { code = code_view c; at = place_view at })
IsRefusedFor ds Memory = ⊤

-- the refusal has that code, and the place which stands there, unless memory was wanting
abbrev pub IsAt : ClassCode → Option Place → Fault ClassCode → Type 0
IsAt expected place (Refused c at) = (c ≡ expected) × (place ≡ Some (place_view at))
IsAt expected place Memory = ⊤
