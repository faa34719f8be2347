-- What a test tells apart is not equal.
use Rattle.std.proofs.Common.{◌≡◌, Bool, true, false, ap, sym, ◌∙◌}

pub apart : {A : Type 0} (test : A → Bool) (a b : A) → test a ≡ true → test b ≡ false → a ≡ b → ⊥
apart test a b t f e = let x : true ≡ false = sym t ∙ ap test e ∙ f in cc
