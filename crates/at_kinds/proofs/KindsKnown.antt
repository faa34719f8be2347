-- Kinds as they are written, and attributes as they are declared, among rules that have no fault.
use Rattle.std.proofs.Common.{◌≡◌, ℕ, zero, suc, ◌<◌, Bool, true, List, [], ◌∷◌, length, get_or, Some, refl, subst}
use Rattle.std.specs.Prelude.{position}
use Rattle.std.specs.List.{slice_get, AllZip}
use Rattle.std.proofs.lemmas.List.Quantifiers.{position-Some}
use Rattle.std.proofs.lemmas.Option.{none-some, slice_get-get_or}
use Rattle.at_model.specs.Rules.{Kind, Attribute}
use Rattle.at_rules.specs.Bodies.{kind_view}
use Rattle.at_kinds.specs.Signatures.{Declared}
use Rattle.at_kinds.specs.declared.signatures.WrittenKind.{WrittenKind}
use Rattle.at_kinds.specs.declared.signatures.WrittenKind.TheVariants.{Known, Strange}

-- it is known, and that kind
abbrev pub IsKind : WrittenKind → Kind → Type 0
IsKind (Known k) m = kind_view k ≡ m
IsKind (Strange first) m = ⊥

-- the attribute is the one that is declared
pub record IsDeclaredAs (d : Declared) (a : Attribute) : Type 0 where
  pub class : d.class ≡ Some a.class
  pub parameters : AllZip IsKind d.parameters a.parameters
  pub result : IsKind d.result a.result

-- in the same place of another list
pub beside_it : {A B : Type 0} (R : A → B → Type 0) (xs : List A) (ys : List B) (i : ℕ) (x : A) → AllZip R xs ys → slice_get xs i ≡ Some x → (y : B) × (slice_get ys i ≡ Some y) × R x y
beside_it R [] [] i x zip is = absurd (none-some x is)
beside_it R [] (b ∷ bs) i x zip is = absurd zip
beside_it R (a ∷ as') [] i x zip is = absurd zip
beside_it R (a ∷ as') (b ∷ bs) zero x zip is = let e : a ≡ x = cc in (b, refl, subst (λ z. R z b) e zip.0)
beside_it R (a ∷ as') (b ∷ bs) (suc i) x zip is = beside_it R as' bs i x zip.1 is

-- and back
pub beside_that : {A B : Type 0} (R : A → B → Type 0) (xs : List A) (ys : List B) (i : ℕ) (y : B) → AllZip R xs ys → slice_get ys i ≡ Some y → (x : A) × (slice_get xs i ≡ Some x) × R x y
beside_that R [] [] i y zip is = absurd (none-some y is)
beside_that R [] (b ∷ bs) i y zip is = absurd zip
beside_that R (a ∷ as') [] i y zip is = absurd zip
beside_that R (a ∷ as') (b ∷ bs) zero y zip is = let e : b ≡ y = cc in (a, refl, subst (λ z. R a z) e zip.0)
beside_that R (a ∷ as') (b ∷ bs) (suc i) y zip is = beside_that R as' bs i y zip.1 is

-- the element at the first position at which a test passes
pub element_found : {A : Type 0} (p : A → Bool) (xs : List A) (i : ℕ) → position p xs ≡ Some i → (x : A) × (slice_get xs i ≡ Some x) × (p x ≡ true) × (i < length xs)
element_found p [] i is = absurd (none-some i is)
element_found p (x ∷ xs) i is =
    let (small, passes, first) = position-Some p (x ∷ xs) i x is in
    (get_or (x ∷ xs) i x, slice_get-get_or (x ∷ xs) i x small, passes, small)
