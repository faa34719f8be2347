-- Digits, as the value of a token.
use Rattle.std.proofs.Common.{◌≡◌, ℤ, ◌∷◌, Bool, true, sym, ap, ◌∙◌}
use Rattle.std.specs.Str.Parse.{digits_value}
use Rattle.at_model.specs.Trees.{Token, Int}
use Rattle.at_text.specs.Symbols.{PlacedToken}
use Rattle.at_text.specs.Rows.{Row}
use Rattle.at_jrag.specs.Read.{greatest, signed}
use Rattle.at_jrag.specs.Table.{is_number_within}
use Rattle.at_java.specs.Read.{got}
use Rattle.at_java.specs.Constants.{integer}
use Rattle.at_java.proofs.Nexts.{cond_true}

pub integer_read : (negative : Bool) (row : Row) (t : PlacedToken) (rest : Row) (n : ℤ) (v : Token) → row ≡ t ∷ rest
    → is_number_within (greatest negative) t ≡ true → n ≡ signed negative (digits_value 10 t.text) → v ≡ Int n → integer negative row ≡ got v rest
unfolding integer
integer_read negative row t rest n v r w e k = ap (integer negative) r ∙ cond_true _ _ _ w ∙ ap (λ x. got x rest) (sym (k ∙ ap Int e))
