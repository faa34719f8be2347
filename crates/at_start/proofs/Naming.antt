-- What was read as a grammar is named by names.
use Rattle.std.proofs.Common.{◌≡◌, ℕ, true, List, [], ◌∷◌, map, Option, Some, None, sym, ap, subst, string_bytes}
use Rattle.std.specs.List.{All, AllByRecursion}
use Rattle.std.proofs.lemmas.List.Elements.{All-nil, All-cons}
use Rattle.at_model.specs.Names.{is_name}
use Rattle.at_model.specs.Declarations.{IsDeclarationNamed, PartDeclaration}
use Rattle.at_class.specs.Grammar.{declaration_view, part_declaration_view}
use Rattle.at_grammar.specs.declared.syntax.ClassDecl.{ClassDecl}
use Rattle.at_grammar.specs.declared.syntax.PartDecl.{PartDecl}
use Rattle.at_grammar.specs.Grammar.{Part, Child, Children, Optional, Token, Declaration, IsFile, IsDeclaration, IsBody, IsPart}
use Rattle.at_grammar.specs.Meaning.{seen_class, seen_part, class_means, part_means, body_means}

part_named : (p : PartDecl) (q : Part) → IsPart q → (part_means q).name ≡ string_bytes p.name → is_name (string_bytes p.name) ≡ true
part_named p (Child t) h e = subst (λ (n : List ℕ). is_name n ≡ true) e h.0
part_named p (Children t) h e = subst (λ (n : List ℕ). is_name n ≡ true) e h.0
part_named p (Optional t) h e = subst (λ (n : List ℕ). is_name n ≡ true) e h.0
part_named p (Token t) h e = subst (λ (n : List ℕ). is_name n ≡ true) e h.0

parts_named : (ps : List PartDecl) (qs : List Part) → AllByRecursion IsPart qs → map seen_part ps ≡ map part_means qs → All (λ p. is_name p.name ≡ true) (map part_declaration_view ps)
parts_named [] qs h e = All-nil (λ (p : PartDeclaration). is_name p.name ≡ true)
parts_named (p ∷ ps) [] h e = absurd cc
parts_named (p ∷ ps) (q ∷ qs) h e =
    let first : seen_part p ≡ part_means q = cc in
    let others : map seen_part ps ≡ map part_means qs = cc in
    All-cons (λ (r : PartDeclaration). is_name r.name ≡ true) (part_declaration_view p) (map part_declaration_view ps) (part_named p q h.0 (sym (ap (λ c. c.name) first))) (parts_named ps qs h.1 others)

no_parts : (ps : List PartDecl) → map seen_part ps ≡ [] → All (λ p. is_name p.name ≡ true) (map part_declaration_view ps)
no_parts [] e = All-nil (λ (p : PartDeclaration). is_name p.name ≡ true)
no_parts (p ∷ ps) e = absurd cc

body_named : (ps : List PartDecl) (b : Option (List Part)) → IsBody b → map seen_part ps ≡ body_means b → All (λ p. is_name p.name ≡ true) (map part_declaration_view ps)
body_named ps None h e = no_parts ps e
body_named ps (Some qs) h e = parts_named ps qs h e

class_named : (c : ClassDecl) (d : Declaration) → IsDeclaration d → seen_class c ≡ class_means d → IsDeclarationNamed (declaration_view c)
class_named c d h e = record {
  name = subst (λ (n : List ℕ). is_name n ≡ true) (sym (ap (λ k. k.name) e)) h.0;
  parts = body_named c.parts.items d.parts h.2 (ap (λ k. k.parts) e);
}

-- the classes that were read of a file
pub classes_named : (cs : List ClassDecl) (f : List Declaration) → IsFile f → map seen_class cs ≡ map class_means f → All IsDeclarationNamed (map declaration_view cs)
classes_named [] f h e = All-nil IsDeclarationNamed
classes_named (c ∷ cs) [] h e = absurd cc
classes_named (c ∷ cs) (d ∷ ds) h e =
    let first : seen_class c ≡ class_means d = cc in
    let others : map seen_class cs ≡ map class_means ds = cc in
    All-cons IsDeclarationNamed (declaration_view c) (map declaration_view cs) (class_named c d h.0 first) (classes_named cs ds h.1 others)
