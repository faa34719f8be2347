-- Lists that grow at their end, and what stands in them.
use Rattle.std.proofs.Common.{◌≡◌, ℕ, zero, suc, ◌<◌, List, [], ◌∷◌, ◌++◌, length, map, slice_get, Some, inl, inr, refl, sym, ap, ◌∙◌, subst, append_assoc, append-nil, arith}
use Rattle.at_model.specs.Meaning.{Among}
use Rattle.at_model.proofs.Listed.{among_left}
use Rattle.at_index.proofs.Lists.{get_left}
use Rattle.at_demand.specs.Covering.{Extends}

module _ {A : Type 0} where
  pub among_more : (a : A) (xs ys : List A) → Extends xs ys → Among a xs → Among a ys
  among_more a xs ys (zs, e) h = subst (Among a) (sym e) (among_left a xs zs h)

  pub extends_self : (xs : List A) → Extends xs xs
  extends_self xs = ([], sym (append-nil xs))

  pub extends_on : (xs ys zs : List A) → Extends xs ys → Extends ys zs → Extends xs zs
  extends_on xs ys zs (a, e) (b, f) = (a ++ b, f ∙ ap (λ l. l ++ b) e ∙ append_assoc xs a b)

  pub get_more : (xs ys : List A) (n : ℕ) (a : A) → Extends xs ys → slice_get xs n ≡ Some a → slice_get ys n ≡ Some a
  get_more xs ys n a (zs, e) g = subst (λ l. slice_get l n ≡ Some a) (sym e) (get_left xs zs n a g)

  back : (xs zs : List A) (n : ℕ) (a : A) → n < length xs → slice_get (xs ++ zs) n ≡ Some a → slice_get xs n ≡ Some a
  back [] zs n a less g = absurd (omega arith)
  back (x ∷ xs) zs zero a less g = g
  back (x ∷ xs) zs (suc n) a less g = back xs zs n a (omega arith) g

  pub get_back : (xs ys : List A) (n : ℕ) (a : A) → Extends xs ys → n < length xs → slice_get ys n ≡ Some a → slice_get xs n ≡ Some a
  get_back xs ys n a (zs, e) less g = back xs zs n a less (subst (λ l. slice_get l n ≡ Some a) e g)

  pub among_at : (a : A) (xs : List A) → Among a xs → (n : ℕ) × (n < length xs) × (slice_get xs n ≡ Some a)
  among_at a [] h = absurd h
  among_at a (x ∷ xs) (inl e) = (0, omega arith, ap Some (sym e))
  among_at a (x ∷ xs) (inr h) = let (n, less, g) = among_at a xs h in (suc n, omega arith, g)

pub map_among : {A B : Type 0} (f : A → B) (b : B) (xs : List A) → Among b (map f xs) → (a : A) × Among a xs × (f a ≡ b)
map_among f b [] h = absurd h
map_among f b (x ∷ xs) (inl e) = (x, inl refl, sym e)
map_among f b (x ∷ xs) (inr h) = let (a, m, e) = map_among f b xs h in (a, inr m, e)
