-- How an entry stands, as one number.
use Rattle.std.specs.Prelude.{◌≡◌, ◌<◌, ◌+◌, ◌*◌, ◌/◌, ◌%◌, ℕ, zero, suc, Bool, nat_eq, if◌then◌else◌}
use Rattle.std.proofs.Common.{arith, refl}
use Rattle.at_cache.specs.declared.standing.Standing.{Standing}

-- how an entry stands by this number: four times its own, and two bits
abbrev pub unpacked : ℕ → Standing
unpacked n = record { since = n / 4; holds = nat_eq (n / 2 % 2) 1; traced = nat_eq (n % 2) 1 }

-- a bit
abbrev pub bit : Bool → ℕ
bit b = if b then 1 else 0

-- that number
abbrev pub packed : Standing → ℕ
packed s = (s.since * 2 + bit s.holds) * 2 + bit s.traced

of_bit : (n : ℕ) → n < 2 → bit (nat_eq n 1) ≡ n
of_bit zero _ = refl
of_bit (suc zero) _ = refl
of_bit (suc (suc n)) h = absurd (omega (arith, h))

-- no two numbers mean the same
pub packed_back : (n : ℕ) → packed (unpacked n) ≡ n
packed_back n =
    let kept = of_bit (n / 2 % 2) (omega arith) in
    let traced = of_bit (n % 2) (omega arith) in
    omega (arith, kept, traced)
