use Rattle.std.proofs.Common.{◌≡◌, ◌&&◌, ◌<◌, ◌≤◌, ◌-◌, ◌*◌, ◌/◌, ◌%◌, ◌^◌, ℕ, Bool, false, true, nat_eq, refl, rules, sym, ap, ◌∙◌, arith}
use Rattle.std.proofs.lemmas.Nat.Bits.{bit_at_above}
use Rattle.at_class.proofs.key.Key.has.Goals as goal

-- a set of 32 bits has no bit from there on
above : (ordered : Bool) (classes place : ℕ) → classes < 2 ^ 32 → 32 ≤ place → false ≡ (ordered && nat_eq (classes / 2 ^ place % 2) 1)
above ordered classes place few far = sym (ap (λ bit. ordered && nat_eq bit 1) (bit_at_above classes 32 place few far) ∙ off ordered)
  where
    off : (b : Bool) → (b && false) ≡ false
    off true = refl
    off false = refl

pub returns-then-class-first-gt31 : goal.returns-then-class-first-gt31
returns-then-class-first-gt31 c =
    let few : c.args.self.now.classes < 2 ^ 32 = search rules in above _ c.args.self.now.classes (c.args.class - 4 * c.args.self.now.first) few (omega (arith, c.if-class-first-gt31.true, c.index-class.ensures))
