-- What is printed of a refused file.
use Rattle.std.specs.Prelude.{ℕ, List, codes}
use Rattle.at_start.specs.declared.code.Code.{Code}
use Rattle.at_start.specs.declared.code.Code.TheVariants as code

-- the code and its words
abbrev pub code_text : Code → List ℕ
code_text code.GrammarSyntax = codes "G1 syntax"
code_text code.ClassTwice = codes "G2 class twice"
code_text code.UnknownClass = codes "G3 unknown class"
code_text code.SuperclassCircle = codes "G4 superclass circle"
code_text code.ComponentTwice = codes "G5 component twice"
code_text code.TokenKind = codes "G6 token kind"
code_text code.GrammarFormLeftOut = codes "G7 form left out"
code_text code.GrammarLimit = codes "G8 limit"
code_text code.NoClass = codes "G9 no class"
code_text code.AspectSyntax = codes "J1 syntax"
code_text code.AttributeTwice = codes "J2 attribute twice"
code_text code.UnknownName = codes "J3 unknown name"
code_text code.Kind = codes "J4 kind"
code_text code.Argument = codes "J5 argument"
code_text code.EquationTwice = codes "J6 equation twice"
code_text code.ClassWithoutEquation = codes "J7 class without equation"
code_text code.InheritedWithoutEquation = codes "J8 inherited without equation"
code_text code.EquationWithoutAttribute = codes "J9 equation without attribute"
code_text code.AspectFormLeftOut = codes "J10 form left out"
code_text code.AspectLimit = codes "J11 limit"
code_text code.NameOfAccessor = codes "J12 name of an accessor"
code_text code.TreeSyntax = codes "F1 syntax"
code_text code.TreeClass = codes "F6 class"
code_text code.TreeFit = codes "F7 fit"
code_text code.TreeLimit = codes "F12 limit"
