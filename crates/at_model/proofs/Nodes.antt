-- When nodes are the same, and maps under which they stay so.
use Rattle.std.proofs.Common.{◌≡◌, ◌↔◌, ℕ, Bool, true, false, nat_eq, [], ◌∷◌, Option, Some, refl, ap, sym, ◌∙◌}
use Rattle.std.proofs.lemmas.Bool.{eqb-true, eq-eqb}
use Rattle.std.specs.Cmp.Derive.{both_true}
use Rattle.at_model.specs.Paths.{Node, step_eq, node_eq}
use Rattle.at_model.specs.Alike.{Names, IsInjective, SameLike}
use Rattle.at_model.proofs.Options.{both}

pub step_eq-sound : (s u : ℕ × ℕ) → step_eq s u ≡ true → s ≡ u
step_eq-sound s u e =
    let (p, q) = both (nat_eq s.0 u.0) (nat_eq s.1 u.1) e in
    ap (λ z. (z, s.1)) (eqb-true s.0 u.0 p) ∙ ap (λ z. (u.0, z)) (eqb-true s.1 u.1 q)

pub step_eq-refl : (s : ℕ × ℕ) → step_eq s s ≡ true
step_eq-refl s = both_true (eq-eqb s.0 s.0 refl) (eq-eqb s.1 s.1 refl)

pub node_eq-sound : (a b : Node) → node_eq a b ≡ true → a ≡ b
node_eq-sound [] [] e = refl
node_eq-sound [] (u ∷ us) e = absurd (cc)
node_eq-sound (s ∷ ss) [] e = absurd (cc)
node_eq-sound (s ∷ ss) (u ∷ us) e =
    let (p, q) = both (step_eq s u) (node_eq ss us) e in
    ap (λ z. z ∷ ss) (step_eq-sound s u p) ∙ ap (λ z. u ∷ z) (node_eq-sound ss us q)

pub node_eq-refl : (a : Node) → node_eq a a ≡ true
node_eq-refl [] = refl
node_eq-refl (s ∷ ss) = both_true (step_eq-refl s) (node_eq-refl ss)

pub node_eq-is : (a b : Node) → (node_eq a b ≡ true) ↔ (a ≡ b)
node_eq-is a b = (node_eq-sound a b, λ e. rw e (node_eq-refl b))

pub nat_eq-is : (a b : ℕ) → (nat_eq a b ≡ true) ↔ (a ≡ b)
nat_eq-is a b = (eqb-true a b, eq-eqb a b)

agree : (b c : Bool) → (b ≡ true → c ≡ true) → (c ≡ true → b ≡ true) → b ≡ c
agree true c f g = sym (f refl)
agree false true f g = g refl
agree false false f g = refl

-- a partial map that is injective keeps nodes the same and apart
pub same_like : {N M : Type 0} (same : N → N → Bool) (other : M → M → Bool) → ((a b : N) → (same a b ≡ true) ↔ (a ≡ b)) → ((a b : M) → (other a b ≡ true) ↔ (a ≡ b)) →
    (name : N → Option M) → IsInjective name → SameLike (Names name) same other
same_like {N} {M} same other p q name injective a b c d r s =
    agree (same a b) (other c d)
    (λ t. let e : a ≡ b = (p a b).0 t in let f : Some c ≡ Some d = sym r ∙ ap name e ∙ s in let g : c ≡ d = cc in (q c d).1 g)
    (λ t. let e : c ≡ d = (q c d).0 t in (p a b).1 (injective a b d (r ∙ ap Some e) s))
