-- Each test of grammars finds nothing exactly where the grammar keeps the rule: names, kinds and limits.
use Rattle.std.proofs.Common.{◌≡◌, ◌⊎◌, ℕ, ◌<◌, inl, inr, Bool, true, false, ◌||◌, ◌&&◌, not, List, [], ◌∷◌, length, take, Option, Some, None, refl, sym, ap, ◌∙◌, subst, arith, ◌↔◌}
use Rattle.std.specs.Prelude.{if◌then◌else◌, is_some, is_none, nat_lt}
use Rattle.std.specs.List.{slice_get, list_any, list_all}
use Rattle.std.specs.Str.{bytes_eq}
use Rattle.std.proofs.lemmas.Bool.Decides.{nat_tests}
use Rattle.std.proofs.lemmas.Slice.Eq.{bytes_eq-Decides}
use lib.Chars.{codes}
use Rattle.at_model.specs.Classes.{Classes, TokenKind, parts}
use Rattle.at_model.specs.Classes as class
use Rattle.at_model.specs.Declarations.{Declarations, Declaration, PartDeclaration, Form, One, Many, Maybe, Tok, class_named, token_kind_named, no_class, is_predefined, class_twice, is_parent_known, is_part_known, is_known, is_token, unknown_class, token_kind}
use Rattle.at_model.specs.GrammarRules.{IsNoneOf, AreClassesApart, IsOfClass, AreClassesKnown, AreTokensOfKinds}
use Rattle.at_model.proofs.Options.{both, and_true, not_true}
use Rattle.at_model.proofs.FirstGiven.{off_on, classes_pass, no_class_fails, parts_pass, no_part_fails, any_before, before_any, any_there, there_any, all_there, there_all, some_position}

pub off_not : (b : Bool) → not b ≡ false → b ≡ true
off_not true e = refl
off_not false e = absurd cc

pub not_off : (b : Bool) → b ≡ true → not b ≡ false
not_off true e = refl
not_off false e = absurd cc

pub or_off : (a b : Bool) → (a || b) ≡ false → (a ≡ false) × (b ≡ false)
or_off true b e = absurd cc
or_off false b e = (refl, e)

pub off_or : (a b : Bool) → a ≡ false → b ≡ false → (a || b) ≡ false
off_or true b e f = absurd cc
off_or false b e f = f

pub same_text : (a b : List ℕ) → bytes_eq a b ≡ true → a ≡ b
same_text a b e = (bytes_eq-Decides a b).0 e

pub text_same : (a b : List ℕ) → a ≡ b → bytes_eq a b ≡ true
text_same a b e = (bytes_eq-Decides a b).1 e

pub other_text : (a b : List ℕ) → bytes_eq a b ≡ false → a ≡ b → ⊥
other_text a b e f = off_on (bytes_eq a b) e (text_same a b f)

pub text_other : (a b : List ℕ) → (a ≡ b → ⊥) → bytes_eq a b ≡ false
text_other a b h = not_true (bytes_eq a b) (λ e. h (same_text a b e))

-- it is none of the three words
pub none_of : (name a b c : List ℕ) → (bytes_eq name a || bytes_eq name b || bytes_eq name c) ≡ false → IsNoneOf name a b c
none_of name a b c e =
    let (f, g) = or_off (bytes_eq name a || bytes_eq name b) (bytes_eq name c) e in
    let (h, k) = or_off (bytes_eq name a) (bytes_eq name b) f in
    (other_text name a h, other_text name b k, other_text name c g)

pub of_none : (name a b c : List ℕ) → IsNoneOf name a b c → (bytes_eq name a || bytes_eq name b || bytes_eq name c) ≡ false
of_none name a b c (h, k, g) = off_or (bytes_eq name a || bytes_eq name b) (bytes_eq name c)
    (off_or (bytes_eq name a) (bytes_eq name b) (text_other name a h) (text_other name b k)) (text_other name c g)

-- there is a class -----------------------------------------------------------------------------------------------------

pub some_class : (ds : Declarations) → (no_class ds ≡ None) ↔ (0 < length ds)
unfolding no_class
some_class [] = (λ e. absurd cc, λ l. absurd (omega (arith, l)))
some_class (d ∷ ds) = (λ e. omega arith, λ l. refl)

-- names of classes -----------------------------------------------------------------------------------------------------

abbrev twice_test : Declarations → ℕ → Declaration → Bool
twice_test ds c d = is_predefined d.name || list_any (λ (e : Declaration). bytes_eq d.name e.name) (take c ds)

module _ (ds : Declarations) (pass : (c : ℕ) (d : Declaration) → slice_get ds c ≡ Some d → twice_test ds c d ≡ false) where
  not_before : (b c : ℕ) (d e : Declaration) → slice_get ds b ≡ Some d → slice_get ds c ≡ Some e → e.name ≡ d.name → b < c → ⊥
  not_before b c d e f g same l =
      off_on _ (or_off (is_predefined e.name) _ (pass c e g)).1 (any_before (λ (x : Declaration). bytes_eq e.name x.name) ds c b d l f (text_same e.name d.name same))

  by_order : (b c : ℕ) → (b < c → ⊥) → (c < b → ⊥) → (s t : Bool) → nat_lt b c ≡ s → nat_lt c b ≡ t → b ≡ c
  by_order b c h k true t e f = absurd (h (grind (arith, nat_tests)))
  by_order b c h k false true e f = absurd (k (grind (arith, nat_tests)))
  by_order b c h k false false e f = grind (arith, nat_tests)

  apart_by_test : AreClassesApart ds
  apart_by_test = record {
    apart = λ b c d e f g same. by_order b c (not_before b c d e f g (sym same)) (not_before c b e d g f same) (nat_lt b c) (nat_lt c b) refl refl;
    free = λ c d e. none_of d.name (codes "ASTNode") (codes "List") (codes "Opt") (or_off (is_predefined d.name) _ (pass c d e)).0;
  }

apart_pass : (ds : Declarations) → AreClassesApart ds → (c : ℕ) (d : Declaration) → slice_get ds c ≡ Some d → twice_test ds c d ≡ false
apart_pass ds h c d e =
    off_or (is_predefined d.name) _ (of_none d.name (codes "ASTNode") (codes "List") (codes "Opt") (h.free c d e)) (not_true _ (λ f.
    let (b, x, l, g, same) = before_any (λ (x : Declaration). bytes_eq d.name x.name) ds c f in
    let k : c ≡ b = h.apart c b d x e g (same_text d.name x.name same) in
    omega (arith, k, l)))

pub classes_apart : (ds : Declarations) → (class_twice ds ≡ None) ↔ AreClassesApart ds
unfolding class_twice
classes_apart ds = (λ e. apart_by_test ds (classes_pass (twice_test ds) ds e), λ h. no_class_fails (twice_test ds) ds (apart_pass ds h))

-- classes that are named -----------------------------------------------------------------------------------------------

class_there : (ds : Declarations) (name : List ℕ) → is_some (class_named ds name) ≡ true → IsOfClass ds name
class_there ds name e =
    let (c, d, f, g) = there_any (λ (d : Declaration). bytes_eq name d.name) ds (sym (some_position (λ (d : Declaration). bytes_eq name d.name) ds) ∙ e) in
    (c, d, f, same_text name d.name g)

there_class : (ds : Declarations) (name : List ℕ) → IsOfClass ds name → is_some (class_named ds name) ≡ true
there_class ds name (c, d, e, f) = some_position (λ (d : Declaration). bytes_eq name d.name) ds ∙ any_there (λ (d : Declaration). bytes_eq name d.name) ds c d e (text_same name d.name f)

parent_known : (named : List ℕ → Option ℕ) (o : Option (List ℕ)) (name : List ℕ) → is_parent_known named o ≡ true → o ≡ Some name → is_some (named name) ≡ true
parent_known named None name h e = absurd cc
parent_known named (Some other) name h e = let same : other ≡ name = cc in subst (λ z. is_some (named z) ≡ true) same h

known_parent : (named : List ℕ → Option ℕ) (o : Option (List ℕ)) → ((name : List ℕ) → o ≡ Some name → is_some (named name) ≡ true) → is_parent_known named o ≡ true
known_parent named None h = refl
known_parent named (Some name) h = h name refl

not_token : (f : Form) → (f ≡ Tok → ⊥) → is_token f ≡ false
not_token One h = refl
not_token Many h = refl
not_token Maybe h = refl
not_token Tok h = absurd (h refl)

no_token : (f : Form) → is_token f ≡ false → f ≡ Tok → ⊥
no_token f e g = off_on (is_token f) e (ap is_token g)

token_there : (f : Form) → is_token f ≡ true → f ≡ Tok
token_there One e = absurd cc
token_there Many e = absurd cc
token_there Maybe e = absurd cc
token_there Tok e = refl

part_known : (named : List ℕ → Option ℕ) (p : PartDeclaration) → is_part_known named p ≡ true → (p.form ≡ Tok → ⊥) → is_some (named p.kind) ≡ true
part_known named p h n = subst (λ b. (b || is_some (named p.kind)) ≡ true) (not_token p.form n) h

known_part : (named : List ℕ → Option ℕ) (p : PartDeclaration) (b : Bool) → is_token p.form ≡ b → ((p.form ≡ Tok → ⊥) → is_some (named p.kind) ≡ true) → (b || is_some (named p.kind)) ≡ true
known_part named p true e h = refl
known_part named p false e h = h (no_token p.form e)

abbrev known_test : Declarations → ℕ → Declaration → Bool
known_test ds c d = not (is_known (class_named ds) d)

known_by_test : (ds : Declarations) → ((c : ℕ) (d : Declaration) → slice_get ds c ≡ Some d → known_test ds c d ≡ false) → AreClassesKnown ds
known_by_test ds pass = record {
  parents = λ c d name e f. class_there ds name (parent_known (class_named ds) d.parent name (both _ _ (off_not (is_known (class_named ds) d) (pass c d e))).0 f);
  parts = λ c i d p e f n. class_there ds p.kind
      (part_known (class_named ds) p (all_there (is_part_known (class_named ds)) d.parts (both
      (is_parent_known (class_named ds) d.parent) _ (off_not (is_known (class_named ds) d) (pass c d e))).1 i p f) n);
}

known_pass : (ds : Declarations) → AreClassesKnown ds → (c : ℕ) (d : Declaration) → slice_get ds c ≡ Some d → known_test ds c d ≡ false
known_pass ds h c d e =
    not_off (is_known (class_named ds) d) (and_true (is_parent_known (class_named ds) d.parent) (list_all (is_part_known (class_named ds)) d.parts)
    (known_parent (class_named ds) d.parent (λ name f. there_class ds name (h.parents c d name e f)))
    (there_all (is_part_known (class_named ds)) d.parts (λ i p f. known_part (class_named ds) p (is_token p.form) refl (λ n. there_class ds p.kind (h.parts c i d p e f n)))))

pub classes_known : (ds : Declarations) → (unknown_class ds ≡ None) ↔ AreClassesKnown ds
unfolding unknown_class
classes_known ds = (λ e. known_by_test ds (classes_pass (known_test ds) ds e), λ h. no_class_fails (known_test ds) ds (known_pass ds h))

-- kinds of tokens ------------------------------------------------------------------------------------------------------

-- the first of three tests that passes gives something
kind_by : (a b c : Bool) → is_none (if a then Some class.Text else (if b then Some class.Int else (if c then Some class.Truth else None))) ≡ false → (a ≡ true) ⊎ ((b ≡ true) ⊎ (c ≡ true))
kind_by true b c e = inl refl
kind_by false true c e = inr (inl refl)
kind_by false false true e = inr (inr refl)
kind_by false false false e = absurd cc

by_kind : (a b c : Bool) → (a ≡ true) ⊎ ((b ≡ true) ⊎ (c ≡ true)) → is_none (if a then Some class.Text else (if b then Some class.Int else (if c then Some class.Truth else None))) ≡ false
by_kind true b c h = refl
by_kind false true c h = refl
by_kind false false true h = refl
by_kind false false false (inl e) = absurd cc
by_kind false false false (inr (inl e)) = absurd cc
by_kind false false false (inr (inr e)) = absurd cc

kind_named : (word : List ℕ) → is_none (token_kind_named word) ≡ false → (word ≡ codes "String") ⊎ ((word ≡ codes "int") ⊎ (word ≡ codes "boolean"))
kind_named word e = elim (kind_by (bytes_eq word (codes "String")) (bytes_eq word (codes "int")) (bytes_eq word (codes "boolean")) e) [
  | inl f ↦ inl (same_text word (codes "String") f)
  | inr (inl f) ↦ inr (inl (same_text word (codes "int") f))
  | inr (inr f) ↦ inr (inr (same_text word (codes "boolean") f))
]

named_kind : (word : List ℕ) → (word ≡ codes "String") ⊎ ((word ≡ codes "int") ⊎ (word ≡ codes "boolean")) → is_none (token_kind_named word) ≡ false
named_kind word h = by_kind (bytes_eq word (codes "String")) (bytes_eq word (codes "int")) (bytes_eq word (codes "boolean")) (elim h [
  | inl f ↦ inl (text_same word (codes "String") f)
  | inr (inl f) ↦ inr (inl (text_same word (codes "int") f))
  | inr (inr f) ↦ inr (inr (text_same word (codes "boolean") f))
])

abbrev kind_test : ℕ → ℕ → PartDeclaration → Bool
kind_test c i p = is_token p.form && is_none (token_kind_named p.kind)

kind_passes : (p : PartDeclaration) (b : Bool) → is_token p.form ≡ b → (p.form ≡ Tok → is_none (token_kind_named p.kind) ≡ false) → (b && is_none (token_kind_named p.kind)) ≡ false
kind_passes p true e h = h (token_there p.form e)
kind_passes p false e h = refl

passes_kind : (p : PartDeclaration) → kind_test 0 0 p ≡ false → p.form ≡ Tok → is_none (token_kind_named p.kind) ≡ false
passes_kind p h e = subst (λ b. (b && is_none (token_kind_named p.kind)) ≡ false) (ap is_token e) h

pub tokens_of_kinds : (ds : Declarations) → (token_kind ds ≡ None) ↔ AreTokensOfKinds ds
unfolding token_kind
tokens_of_kinds ds = (
  λ e c i d p f g t. kind_named p.kind (passes_kind p (parts_pass kind_test ds e c i d p f g) t),
  λ h. no_part_fails kind_test ds (λ c i d p f g. kind_passes p (is_token p.form) refl (λ t. named_kind p.kind (h c i d p f g t))),
)
