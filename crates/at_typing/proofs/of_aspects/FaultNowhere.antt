-- Where a test of declarations finds no fault, and where one is given.
use Rattle.std.proofs.Common.{◌≡◌, ℕ, suc, ◌+◌, Bool, true, false, List, [], ◌∷◌, Option, Some, None, refl, sym, ap, subst, arith}
use Rattle.std.specs.Option.{option_or}
use Rattle.std.specs.List.{slice_get}
use Rattle.at_model.specs.Declarations.{first_given}
use Rattle.at_kinds.specs.declared.code.RuleCode.{RuleCode}
use Rattle.at_typing.specs.Declaring.{fault_at, fault_if}
use Rattle.at_typing.specs.Located.{Located}
use Rattle.at_typing.specs.declared.fault.Breach.{Breach}

pub unfaulted : (b : Bool) (c : RuleCode) (d : Located) → fault_if b c d ≡ None → b ≡ false
unfaulted true c d e = absurd cc
unfaulted false c d e = refl

pub faultless : (b : Bool) (c : RuleCode) (d : Located) → b ≡ false → fault_if b c d ≡ None
faultless true c d e = absurd cc
faultless false c d e = refl

-- the fault has the code
pub coded : (b : Bool) (c : RuleCode) (d : Located) (f : Breach) → fault_if b c d ≡ Some f → f.code ≡ c
coded true c d f e = let same : fault_at c d d.decl.at ≡ f = cc in ap (λ (g : Breach). g.code) (sym same)
coded false c d f e = absurd cc

pub both_none : {B : Type 0} (a b : Option B) → a ≡ None → b ≡ None → option_or a b ≡ None
both_none None b e f = f
both_none (Some a) b e f = absurd cc

-- what is given is given at some position
module _ {A B : Type 0} (f : ℕ → A → Option B) where
  given_from : (k : ℕ) (xs : List A) (b : B) → first_given f k xs ≡ Some b → (i : ℕ) × (x : A) × (slice_get xs i ≡ Some x) × (f (k + i) x ≡ Some b)
  given_from k [] b e = absurd cc
  given_from k (x ∷ xs) b e = by (f k x) refl e (given_from (k + 1) xs b)
    where
      by : (o : Option B) → f k x ≡ o → option_or o (first_given f (k + 1) xs) ≡ Some b
          → (first_given f (k + 1) xs ≡ Some b → (i : ℕ) × (y : A) × (slice_get xs i ≡ Some y) × (f ((k + 1) + i) y ≡ Some b))
          → (i : ℕ) × (y : A) × (slice_get (x ∷ xs) i ≡ Some y) × (f (k + i) y ≡ Some b)
      by None g h rest =
          let (i, y, at, gives) = rest h in
          let n : (k + 1) + i ≡ k + suc i = omega arith in
          (suc i, y, at, subst (λ m. f m y ≡ Some b) n gives)
      by (Some a) g h rest = let n : k ≡ k + 0 = omega arith in (0, x, refl, subst (λ m. f m x ≡ Some b) n (subst (λ o. f k x ≡ o) h g))

  pub given_at : (xs : List A) (b : B) → first_given f 0 xs ≡ Some b → (i : ℕ) × (x : A) × (slice_get xs i ≡ Some x) × (f i x ≡ Some b)
  given_at xs b e =
      let (i, x, at, gives) = given_from 0 xs b e in
      let n : 0 + i ≡ i = omega arith in
      (i, x, at, subst (λ m. f m x ≡ Some b) n gives)
