-- Numbers as digits.
use Rattle.std.proofs.Common.{◌≡◌, ℕ, ℤ, FitsSigned, w32, pos, ◌<◌, ◌≤◌, ◌^◌, List, ◌∷◌, Bool, true, false, refl, sym, ap, ◌∙◌, arith, inr}
use lib.Chars.{codes}
use Rattle.std.specs.Prelude.{nat_le, nat_lt, decimal}
use Rattle.std.specs.Str.{bytes_eq}
use Rattle.std.specs.Str.Parse.{digits_value}
use Rattle.std.proofs.lemmas.Bool.{leb-true, ltb-true, ltb-false}
use Rattle.std.proofs.lemmas.Fmt.{decimal_injective}
use Rattle.std.proofs.lemmas.Slice.Eq.{bytes_eq-Decides}
use Rattle.at_text.specs.declared.place.Place.{Place}
use Rattle.at_text.specs.Rows.{Row, sign, next_is}
use Rattle.at_jrag.specs.Grammar.{number, is_number}
use Rattle.at_jrag.specs.Syntax as syntax
use Rattle.at_jrag.specs.Syntax.{Expr}
use Rattle.at_jrag.specs.View.{expr_view, form_view, see_form, see_expr}
use Rattle.at_jrag.specs.declared.syntax.Form.TheOpen.{Form-F}
use Rattle.at_jrag.specs.declared.syntax.Form.TheVariants as form
use Rattle.at_jrag.specs.declared.syntax.Form.TheFolds.{fold-roll-Form}
use Rattle.at_jrag.specs.Table.{is_decimal_within, is_number_within}
use Rattle.at_jrag.specs.Read.{Reads, IsNumber}
use Rattle.at_jrag.specs.Runs.{NoNegative}
use Rattle.at_text.specs.declared.fault.Failure.TheVariants as failure
use Rattle.at_jrag.specs.declared.JragCode.TheVariants as code
use Rattle.at_jrag.specs.declared.reader.forms.Measured.{Measured}
use Rattle.at_jrag.proofs.of_expressions.Expressions.{reads_made}
use Rattle.at_model.proofs.Options.{both}

-- what the digits of a number within the bound are
pub record Within (most : ℕ) (text : List ℕ) : Type 0 where
  pub value : ℕ
  pub small : value ≤ most
  pub digits : text ≡ decimal value

pub within : (most : ℕ) (text : List ℕ) → is_decimal_within most text ≡ true → Within most text
within most text e =
    let h = both (nat_le (digits_value 10 text) most) (bytes_eq (decimal (digits_value 10 text)) text) e in
    record { value = digits_value 10 text; small = leb-true (digits_value 10 text) most h.0; digits = sym ((bytes_eq-Decides (decimal (digits_value 10 text)) text).0 h.1) }

decide : (b : Bool) (most : ℕ) (text : List ℕ) → is_decimal_within most text ≡ b → (Within most text → ⊥) → b ≡ false
decide true most text e none = absurd (none (within most text e))
decide false most text e none = refl

-- no number within the bound has these digits
pub none_within : (most : ℕ) (text : List ℕ) → (Within most text → ⊥) → is_decimal_within most text ≡ false
none_within most text none = decide (is_decimal_within most text) most text refl none

-- no number has these digits
pub no_number : (most : ℕ) (text : List ℕ) → most ≤ 2147483648 → ((n : ℕ) → n < 2 ^ 64 → text ≡ decimal n → ⊥) → is_decimal_within most text ≡ false
no_number most text small none = none_within most text (λ w. none w.value (omega (arith, small, w.small)) w.digits)

-- what is read of such digits is within the bound
pub known : (most : ℕ) (text : List ℕ) (v : ℕ) → most ≤ 2147483648 → v < 2 ^ 64 → text ≡ decimal v → Within most text → v ≤ most
known most text v small fits is w = let same : v ≡ w.value = decimal_injective v w.value fits (omega (arith, small, w.small)) (sym is ∙ w.digits) in omega (arith, same, w.small)

at_least : (x : Bool) (v : ℕ) → nat_lt v 2147483648 ≡ x → (v < 2147483648 → ⊥) → 2147483648 ≤ v
at_least true v e none = absurd (none (ltb-true v 2147483648 e))
at_least false v e none = ltb-false v 2147483648 e

-- what doesn't fit into 32 bits
pub unfit : (v : ℕ) → (FitsSigned w32 (pos v) → ⊥) → 2147483648 ≤ v
unfit v none = at_least (nat_lt v 2147483648) v refl (λ h. none (omega (arith, h)))

-- ---- a `-` and digits

pub negative_reads : (m : Measured) (v : ℤ) (at digits_at : Place) (text : List ℕ) (old rest : Row) → old ≡ sign (codes "-") at ∷ number text digits_at ∷ rest → IsNumber true text v
    → expr_view m.expr ≡ form_view (form.Number v) at → m.depth ≡ 1 → Reads 8 m old rest × (m.depth ≡ 1)
negative_reads m v at digits_at text old rest front (n, small, is, digits) made deep = (
  reads_made 8 m (syntax.Number at v) old rest (made ∙ ap (λ f. form_view f at) (sym (form.rolls-Number v))
      ∙ ap (λ f. f at) (fold-roll-Form (Place → Expr) Expr see_form see_expr (Form-F.Number v))) (inr (
        n,
        digits_at,
        small,
        is,
        front ∙ ap (λ t. sign (codes "-") at ∷ number t digits_at ∷ rest) digits,
      )) (omega arith) deep,
  deep,
)

pub no_negative : (text : List ℕ) (at digits_at : Place) (old here rest : Row) → old ≡ sign (codes "-") at ∷ number text
    digits_at ∷ rest → here ≡ number text digits_at ∷ rest → is_decimal_within 2147483648 text ≡ false
    → NoNegative (failure.For code.Syntax) old here
no_negative text at digits_at old here rest front stepped none =
    (at, front ∙ ap (λ r. sign (codes "-") at ∷ r) (sym stepped), ap (next_is is_number) stepped, ap (next_is (is_number_within 2147483648)) stepped ∙ none)
