-- Numbers and texts: what their spellings stand for.
use Rattle.std.proofs.Common.{◌≡◌, ℕ, ℤ, ◌<◌, ◌≤◌, ◌^◌, List, [], ◌∷◌, ◌++◌, Bool, true, false, cond, Ok, Err, Some, None, refl, sym, ap, ◌∙◌, arith, append_assoc}
use Rattle.std.specs.Prelude.{◌==◌, ◌&&◌, Option, MatchOption, IfNone, Result, IfOk, IfErr, String, string_bytes, decimal, if◌then◌else◌}
use Rattle.std.specs.List.{flat_map}
use Rattle.std.specs.Str.Parse.{digits_value}
use Rattle.std.proofs.lemmas.Bool.{eqb-true}
use Rattle.std.proofs.lemmas.Fmt.{decimal_is_IsNumeral}
use Rattle.std.proofs.lemmas.List.Concat.{flat_map-cons}
use Rattle.at_model.specs.Texts.{escaped, quoted}
use Rattle.at_text.specs.Quoted.{Spells}
use Rattle.at_text.specs.Place.{first_place}
use Rattle.at_text.specs.Symbols.{PlacedToken}
use Rattle.at_text.specs.declared.quoted.QuoteFault.{QuoteFault}
use Rattle.at_text.specs.declared.quoted.QuoteFault.TheVariants.{Form, Memory}
use Rattle.at_text.specs.declared.token.TokenKind.{TokenKind}
use Rattle.at_text.specs.declared.token.TokenKind.TheVariants as kind
use Rattle.at_jrag.specs.Grammar.{is_number, is_text}
use Rattle.at_jrag.specs.Read.{IsNumber, greatest, signed}
use Rattle.at_jrag.specs.Table.{is_decimal_within, is_number_within, is_quoted, is_quotation, ends_quoted}
use Rattle.at_jrag.proofs.Quotations.{no_text}
use Rattle.at_jrag.proofs.of_expressions.ExpressionsTaken.{number_is, quoted_is}
use Rattle.at_java.specs.Operands.{escape_value, unescaped, unquoted}

-- ---- kinds of tokens

-- a test of the kind alone, where the kind is known
pub by_kind : (test : TokenKind → Bool) (t : PlacedToken) (k : TokenKind) (b : Bool) → t.kind ≡ k → b ≡ test k → b ≡ test t.kind
by_kind test t k b known is = is ∙ ap test (sym known)

abbrev pub names_number : TokenKind → Bool
names_number k = elim k [ kind.Word ↦ false | kind.Number ↦ true | kind.Text ↦ false | kind.Sign ↦ false ]

abbrev pub names_text : TokenKind → Bool
names_text k = elim k [ kind.Word ↦ false | kind.Number ↦ false | kind.Text ↦ true | kind.Sign ↦ false ]

-- ---- numbers

pub bound : (b : Bool) → greatest b ≤ 2147483648
bound true = omega arith
bound false = omega arith

value_is : (b : Bool) (m : ℕ) → m ≤ greatest b → digits_value 10 (decimal m) ≡ m
value_is b m small = let fits : m < 2 ^ 64 = omega (arith, small, bound b) in (decimal_is_IsNumeral m fits).1

-- what is read of the digits of a number
pub numeral_read : (o : Option ℤ) (negative : Bool) (t : PlacedToken) → is_number t ≡ true → MatchOption o (Unit {0}) (IsNumber negative t.text)
    → IfNone o (is_decimal_within (greatest negative) t.text ≡ false)
    → MatchOption o (is_number_within (greatest negative) t ≡ false) (λ n. (is_number_within (greatest negative) t ≡ true) × (n ≡ signed negative (digits_value 10 t.text)))
numeral_read None negative t number value none = ap (λ b. b && is_decimal_within (greatest negative) t.text) number ∙ none
numeral_read (Some n) negative t number (m, small, equal, digits) none = (
  ap (λ b. b && is_decimal_within (greatest negative) t.text) number ∙ ap (is_decimal_within (greatest negative)) digits ∙ number_is (greatest negative) m first_place (bound negative) small,
  equal ∙ ap (signed negative) (sym (value_is negative m small) ∙ ap (digits_value 10) (sym digits)),
)

pub no_numeral : (most : ℕ) (t : PlacedToken) → is_number t ≡ false → is_number_within most t ≡ false
no_numeral most t number = ap (λ b. b && is_decimal_within most t.text) number

-- ---- texts

plain_case : (b : ℕ) (tail bs : List ℕ) → b == 92 ≡ false → ends_quoted tail ≡ true → unescaped tail ≡ bs → unescaped (b ∷ tail) ≡ b ∷ bs
plain_case b [] bs s h e = absurd cc
plain_case b (c ∷ cs) bs s h e = ap (λ x. cond x (escape_value c ∷ unescaped cs) (b ∷ unescaped (c ∷ cs))) s ∙ ap (λ l. b ∷ l) e

escape_case : (w x y z : Bool) (b : ℕ) (tail bs : List ℕ) → b == 34 ≡ w → b == 92 ≡ x → b == 10 ≡ y → b == 9 ≡ z → ends_quoted tail ≡ true → unescaped tail ≡ bs
    → unescaped ((if w then 92 ∷ 34 ∷ [] else (if x then 92 ∷ 92 ∷ [] else (if y then 92 ∷ 110 ∷ [] else (if z then 92 ∷ 116 ∷ [] else b ∷ [])))) ++ tail) ≡ b ∷ bs
escape_case true x y z b tail bs q s n t h e = λ i. sym (eqb-true b 34 q) i ∷ e i
escape_case false true y z b tail bs q s n t h e = λ i. sym (eqb-true b 92 s) i ∷ e i
escape_case false false true z b tail bs q s n t h e = λ i. sym (eqb-true b 10 n) i ∷ e i
escape_case false false false true b tail bs q s n t h e = λ i. sym (eqb-true b 9 t) i ∷ e i
escape_case false false false false b tail bs q s n t h e = plain_case b tail bs s h e

unescaped_is : (bs : List ℕ) → unescaped (flat_map escaped bs ++ 34 ∷ []) ≡ bs
unescaped_is [] = refl
unescaped_is (b ∷ bs) =
    ap (λ l. unescaped (l ++ 34 ∷ [])) (flat_map-cons escaped b bs) ∙ ap unescaped (append_assoc (escaped b) (flat_map escaped bs) (34 ∷ []))
    ∙ escape_case (b == 34) (b == 92) (b == 10) (b == 9) b (flat_map escaped bs ++ 34 ∷ []) bs refl refl refl refl (quoted_is bs) (unescaped_is bs)

by_text : (k : TokenKind) (b : Bool) → elim k [ kind.Word ↦ false | kind.Number ↦ false | kind.Text ↦ true | kind.Sign ↦ false ] ≡ true
    → elim k [ kind.Word ↦ false | kind.Number ↦ false | kind.Text ↦ b | kind.Sign ↦ false ] ≡ b
by_text kind.Word b h = absurd cc
by_text kind.Number b h = absurd cc
by_text kind.Text b h = refl
by_text kind.Sign b h = absurd cc

by_other : (k : TokenKind) (b : Bool) → elim k [ kind.Word ↦ false | kind.Number ↦ false | kind.Text ↦ true | kind.Sign ↦ false ] ≡ false
    → elim k [ kind.Word ↦ false | kind.Number ↦ false | kind.Text ↦ b | kind.Sign ↦ false ] ≡ false
by_other kind.Word b h = refl
by_other kind.Number b h = refl
by_other kind.Text b h = absurd cc
by_other kind.Sign b h = refl

-- what is read of a text between quotes
pub quoted_read : {Z : Type 0} (r : Result (String Z) QuoteFault) (t : PlacedToken) → is_text t ≡ true → Spells t.text r
    → IfOk r (λ s. (is_quotation t ≡ true) × (string_bytes s ≡ unquoted t.text))
quoted_read (Ok s) t h spelled = (
  by_text t.kind (is_quoted t.text) h ∙ ap is_quoted (sym spelled) ∙ quoted_is (string_bytes s),
  sym (unescaped_is (string_bytes s)) ∙ ap unquoted spelled,
)
quoted_read (Err e) t h spelled = tt

pub quoted_refused : {Z : Type 0} (r : Result (String Z) QuoteFault) (t : PlacedToken) → is_text t ≡ true → Spells t.text r
    → IfErr r (λ e. e ≡ Form → is_quotation t ≡ false)
quoted_refused (Ok s) t h spelled = tt
quoted_refused (Err Form) t h spelled = λ e. by_text t.kind (is_quoted t.text) h ∙ no_text t.text spelled
quoted_refused (Err Memory) t h spelled = λ e. absurd cc

pub no_quotation : (t : PlacedToken) → is_text t ≡ false → is_quotation t ≡ false
no_quotation t h = by_other t.kind (is_quoted t.text) h
