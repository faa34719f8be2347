-- Starts are compared by their values.
use Rattle.std.proofs.Common.{◌≡◌, Bool, true, false, Option, Some, None, refl, sym, ap, true≢false}
use Rattle.std.specs.Bool.{beq}
use Rattle.std.specs.Option.{option_eq}
use Rattle.std.specs.Cmp.{booleans_Decides}

pub same_start : (x y : Option Bool) → option_eq beq x y ≡ true → x ≡ y
same_start None None e = refl
same_start None (Some c) e = absurd (true≢false (sym e))
same_start (Some b) None e = absurd (true≢false (sym e))
same_start (Some b) (Some c) e = ap Some ((booleans_Decides b c).0 e)

pub start_same : (x y : Option Bool) → x ≡ y → option_eq beq x y ≡ true
start_same x y e = rw (sym e) (itself x)
  where
    itself : (o : Option Bool) → option_eq beq o o ≡ true
    itself None = refl
    itself (Some true) = refl
    itself (Some false) = refl
