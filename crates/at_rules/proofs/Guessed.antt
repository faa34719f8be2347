-- A name that stands at a number is found there, since names are apart.
use Rattle.std.proofs.Common.{◌≡◌, ℕ, ◌+◌, ◌<◌, List, [], ◌∷◌, length, ap, sym, ◌∙◌, arith, Option, Some, None, suc, zero, add-zero, String, string_bytes}
use Rattle.std.specs.Prelude.{Bool, true, false, position, is_some}
use Rattle.std.specs.List.{slice_get, position_from, IsDistinct}
use Rattle.std.specs.Option.{IfNone}
use Rattle.std.specs.Str.{bytes_eq}
use Rattle.std.specs.String.{string_eq}
use Rattle.std.proofs.lemmas.Cmp.{nat_list_eq_equiv}
use Rattle.std.proofs.lemmas.Slice.Eq.{bytes_eq-Decides}
use Rattle.std.proofs.lemmas.Iterator.Adapters.{position_from-zero}
use Rattle.at_rules.specs.RulesView.{text_of}
use Rattle.at_rules.proofs.Numbers.{differs}

pub stands_from : {Z : Type 0} (text : List ℕ) (names : List (String Z)) → IsDistinct string_eq names → (i n : ℕ) → n < length names → bytes_eq text (text_of names n) ≡ true
    → position_from (λ k. bytes_eq text (string_bytes k)) i names ≡ Some (i + n)
unfolding IsDistinct
stands_from text [] apart i n less here = absurd (omega arith)
stands_from text (s ∷ ss) apart i zero less here = rw here (ap Some (sym (add-zero i)))
stands_from text (s ∷ ss) apart i (suc n) less here =
    let same = (bytes_eq-Decides text (text_of ss n)).0 here in
    let other : bytes_eq text (string_bytes s) ≡ false = nat_list_eq_equiv.symm text (string_bytes s) ∙ ap (bytes_eq (string_bytes s)) same ∙ differs s ss apart.0 n (omega arith) in
    let behind : (i + 1) + n ≡ i + suc n = omega arith in
    rw other (stands_from text ss apart.1 (i + 1) n (omega arith) here ∙ ap Some behind)

pub stands_there : {Z : Type 0} (names : List (String Z)) → IsDistinct string_eq names → (text : List ℕ) (n : ℕ) (known : String Z) → n < length names → slice_get names n ≡ Some known
    → bytes_eq (string_bytes known) text ≡ true → position (λ k. bytes_eq text (string_bytes k)) names ≡ Some n
stands_there names apart text n known less there same =
    let here : bytes_eq text (text_of names n) ≡ true = rw (text_of, there) (nat_list_eq_equiv.symm text (string_bytes known) ∙ same) in
    let at : 0 + n ≡ n = omega arith in
    position_from-zero (λ k. bytes_eq text (string_bytes k)) names ∙ stands_from text names apart 0 n less here ∙ ap Some at

pub if_none : (o : Option ℕ) (any : Bool) → is_some o ≡ any → IfNone o (false ≡ any)
if_none None any e = e
if_none (Some n) any e = tt
