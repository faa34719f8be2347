-- What stands in front of `List`, as `strip_suffix` tells it.
use Rattle.std.proofs.Common.{◌≡◌, ℕ, List, length, take, ◌-◌, false, cond, None, sym, ap}
use Rattle.std.proofs.lemmas.Str.Pattern.{ends_text}
use Rattle.std.specs.Str.Pattern.{FindsTextSuffix}
use lib.Chars.{codes}
use Rattle.at_java.specs.Outsets.{if_any, before_list}

pub not_before : (s : List ℕ) → FindsTextSuffix (codes "List") s None → before_list s ≡ None
not_before s h = ap (λ b. cond b (if_any (take (length s - 4) s)) None) (sym (ends_text false (codes "List") s h))
