-- Tests that some of a list meet, and one of two.
use Rattle.std.proofs.Common.{◌≡◌, ◌⊎◌, Bool, true, false, ◌||◌, List, [], ◌∷◌, inl, inr, refl, sym, ap, ◌∙◌, true≢false}
use Rattle.std.specs.List.{list_any}
use Rattle.at_model.specs.Meaning.{Among}
use Rattle.at_model.proofs.Options.{or_right}

pub either : (a b : Bool) → (a || b) ≡ true → (a ≡ true) ⊎ (b ≡ true)
either true b h = inl refl
either false b h = inr h

pub any_one : {A : Type 0} (p : A → Bool) (xs : List A) → list_any p xs ≡ true → (a : A) × Among a xs × (p a ≡ true)
any_one p [] e = absurd (true≢false (sym e))
any_one p (x ∷ xs) e = elim (either (p x) (list_any p xs) e) [ inl h ↦ (x, inl refl, h) | inr h ↦ (let (a, m, is) = any_one p xs h in (a, inr m, is)) ]

module _ {A : Type 0} where
  pub any_among : (p : A → Bool) (a : A) (xs : List A) → Among a xs → p a ≡ true → list_any p xs ≡ true
  any_among p a [] h e = absurd h
  any_among p a (x ∷ xs) (inl same) e = rw (ap p (sym same) ∙ e) refl
  any_among p a (x ∷ xs) (inr h) e = or_right (p x) (list_any p xs) (any_among p a xs h e)
