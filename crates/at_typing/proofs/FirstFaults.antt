-- The first fault, where there is one.
use Rattle.std.proofs.Common.{◌≡◌, refl, ap, Option, Some, None}
use Rattle.std.specs.Prelude.{Bool, true, false}
use Rattle.std.specs.Option.{option_or}
use Rattle.at_kinds.specs.declared.code.RuleCode.{RuleCode}
use Rattle.at_typing.specs.Located.{Located}
use Rattle.at_typing.specs.Declaring.{fault_at, fault_if}

-- the fault where the test holds
pub fault_where : (b : Bool) (c : RuleCode) (d : Located) → b ≡ true → fault_if b c d ≡ Some (fault_at c d d.decl.at)
fault_where b c d h = rw h refl

pub fault_nowhere : (b : Bool) (c : RuleCode) (d : Located) → b ≡ false → fault_if b c d ≡ None
fault_nowhere b c d h = rw h refl

-- the first of two, where there is one
pub or_here : {A : Type 0} (o p : Option A) (x : A) → o ≡ Some x → option_or o p ≡ Some x
or_here o p x is = ap (λ q. option_or q p) is

pub or_next : {A : Type 0} (o p : Option A) → o ≡ None → option_or o p ≡ p
or_next o p is = ap (λ q. option_or q p) is
