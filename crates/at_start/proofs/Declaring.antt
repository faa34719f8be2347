-- What was read as a grammar declares what the grammar as written declares, and faults of what is read of a file are those of the file.
use Rattle.std.proofs.Common.{◌≡◌, ℕ, List, [], ◌∷◌, map, Option, Some, None, Result, Ok, Err, refl, ap, ap₂, ◌∙◌, String, string_bytes}
use Rattle.std.specs.Option.{option_map}
use Rattle.std.specs.Result.{IfErr}
use Rattle.std.specs.Global.{Global}
use Rattle.at_model.specs.Declarations.{Declaration, PartDeclaration, Place}
use Rattle.at_class.specs.Grammar.{declaration_view, part_declaration_view, place_view}
use Rattle.at_grammar.specs.declared.syntax.ClassDecl.{ClassDecl}
use Rattle.at_grammar.specs.declared.syntax.PartDecl.{PartDecl}
use Rattle.at_grammar.specs.Grammar.{Declaration as Written}
use Rattle.at_grammar.specs.Meaning.{seen_class, seen_part, class_means, bytes_of}
use Rattle.at_text.specs.declared.fault.Fault.{Fault}
use Rattle.at_text.specs.declared.fault.Fault.TheVariants as fault
use Rattle.at_start.specs.Files.{IsText, max_file}
use Rattle.at_start.specs.GrammarFiles.{IsGrammarFault, IsReadFault, IsReadOf, class_declared, declared, no_read, part_declared}
use Rattle.at_start.specs.declared.code.Code.{Code}
use Rattle.at_start.specs.declared.language.Language.{Language}

parts_read : (ps : List PartDecl) → map part_declaration_view ps ≡ map part_declared (map seen_part ps)
parts_read [] = refl
parts_read (p ∷ ps) = ap (λ qs. part_declaration_view p ∷ qs) (parts_read ps)

parent_read : (o : Option (String Global)) → option_map string_bytes o ≡ bytes_of o
parent_read None = refl
parent_read (Some s) = refl

class_read : (c : ClassDecl) → declaration_view c ≡ class_declared (seen_class c)
class_read c =
    ap₂ (λ (o : Option _) (ps : List PartDeclaration). let d : Declaration = record { name = string_bytes c.name; is_abstract = c.is_abstract; parent = o; parts = ps; at = place_view c.at } in d)
    (parent_read c.parent) (parts_read c.parts.items)

classes_read : (cs : List ClassDecl) → map declaration_view cs ≡ map class_declared (map seen_class cs)
classes_read [] = refl
classes_read (c ∷ cs) = ap₂ (λ d ds. d ∷ ds) (class_read c) (classes_read cs)

pub read_declared : (cs : List ClassDecl) (f : List Written) → map seen_class cs ≡ map class_means f → map declaration_view cs ≡ declared f
read_declared cs f e = classes_read cs ∙ ap (map class_declared) e

module _ (language : Language) (bytes read : List ℕ) (marks : List Place) (text : IsText max_file bytes) (is : IsReadOf language bytes read marks) where
  refuses : (f : Fault Code) → IsReadFault read f → IsGrammarFault language bytes f
  refuses (fault.Refused c at) told = no_read read marks c at text is told
  refuses fault.Memory told = tt

  pub refused_so : {T : Type 0} (r : Result T (Fault Code)) → IfErr r (IsReadFault read) → IfErr r (IsGrammarFault language bytes)
  refused_so (Ok v) told = tt
  refused_so (Err f) told = refuses f told
