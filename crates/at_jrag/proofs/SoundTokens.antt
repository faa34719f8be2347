-- What a token is that passes a test of the table.
use Rattle.std.proofs.Common.{◌≡◌, ℕ, suc, ◌+◌, ◌≤◌, pos, List, ◌∷◌, Bool, true, false, cond, refl, sym, ap, subst, ◌∙◌, arith, inl}
use Rattle.std.specs.Prelude.{◌||◌, decimal}
use Rattle.std.specs.Str.{bytes_eq}
use Rattle.std.proofs.lemmas.Slice.Eq.{bytes_eq-Decides}
use lib.Chars.{codes}
use Rattle.at_text.specs.Reading.{first}
use Rattle.at_text.specs.declared.token.TokenKind.{TokenKind}
use Rattle.at_text.specs.declared.token.TokenKind.TheVariants as kind
use Rattle.at_text.specs.Symbols.{PlacedToken, is_word_kind}
use Rattle.at_text.specs.Rows.{Row, sign, word, is_sign, is_word}
use Rattle.at_jrag.specs.Grammar.{number, quotation, is_number, Spells, level, depth, operator_text, operator_level, fold_text}
use Rattle.at_jrag.specs.Syntax as syntax
use Rattle.at_jrag.specs.Syntax.{Operator, FoldForm, Expr}
use Rattle.at_jrag.specs.Table.{next, is_literal, is_quotation, is_quoted, is_constant, is_number_within, is_decimal_within, begins_fold, sign_rank, link_rank}
use Rattle.at_jrag.proofs.of_expressions.ExpressionSteps.{is_word_of, sign_is}
use Rattle.at_jrag.proofs.Numbers.{within}
use Rattle.at_jrag.proofs.Quotations.{quoted_of}
use Rattle.at_jrag.proofs.Tokens.{of_kind}
use Rattle.at_model.proofs.Options.{both}

-- ---- tests

pub or_case : {Z : Type 0} (x y : Bool) → (x ≡ true → Z) → (y ≡ true → Z) → x || y ≡ true → Z
or_case true y f g e = f refl
or_case false y f g e = g e

-- the next token passes it
pub front_passes : (test : PlacedToken → Bool) (old behind : Row) (t : PlacedToken) → old ≡ t ∷ behind → next test (first old) ≡ true → test t ≡ true
front_passes test old behind t f e = sym (ap (λ r. next test (first r)) f) ∙ e

pub sign_front : (text : List ℕ) (old behind : Row) (t : PlacedToken) → old ≡ t ∷ behind → next (is_sign text) (first old) ≡ true → old ≡ sign text t.at ∷ behind
sign_front text old behind t f e = f ∙ ap (λ x. x ∷ behind) (sign_is text t (front_passes (is_sign text) old behind t f e))

pub word_is : (text : List ℕ) (t : PlacedToken) → is_word text t ≡ true → t ≡ word text t.at
word_is text t e =
    let h = both (is_word_kind t.kind) (bytes_eq t.text text) e in
    let k = is_word_of t.kind h.0 in
    let x : t.text ≡ text = (bytes_eq-Decides t.text text).0 h.1 in
    λ i. record { kind = k i; text = x i; at = t.at }

pub word_front : (text : List ℕ) (old behind : Row) (t : PlacedToken) → old ≡ t ∷ behind → next (is_word text) (first old) ≡ true → old ≡ word text t.at ∷ behind
word_front text old behind t f e = f ∙ ap (λ x. x ∷ behind) (word_is text t (front_passes (is_word text) old behind t f e))

-- ---- numbers

number_kind : (k : TokenKind) → elim k [ kind.Word ↦ false | kind.Number ↦ true | kind.Text ↦ false | kind.Sign ↦ false ] ≡ true → k ≡ kind.Number
number_kind kind.Word e = absurd cc
number_kind kind.Number e = refl
number_kind kind.Text e = absurd cc
number_kind kind.Sign e = absurd cc

-- the number that a token is
pub record IsNumber (most : ℕ) (t : PlacedToken) : Type 0 where
  pub value : ℕ
  pub small : value ≤ most
  pub is : t ≡ number (decimal value) t.at

pub number_of : (most : ℕ) (t : PlacedToken) → is_number_within most t ≡ true → IsNumber most t
number_of most t e =
    let h = both (is_number t) (is_decimal_within most t.text) e in
    let k = number_kind t.kind h.0 in
    let w = within most t.text h.1 in
    record { value = w.value; small = w.small; is = λ i. record { kind = k i; text = w.digits i; at = t.at } }

-- ---- literals

-- the literal that a token is
pub record IsLiteral (t : PlacedToken) : Type 0 where
  pub expr : Expr
  pub spells : (rest : Row) → Spells expr (t ∷ rest) rest
  pub strong : 8 ≤ level expr + 0
  pub one : 1 ≡ depth expr
  pub plain : is_sign (codes "-") t ≡ false

literal_at : (t u : PlacedToken) → t ≡ u → IsLiteral u → IsLiteral t
literal_at t u e h = subst IsLiteral (sym e) h

number_literal : (t : PlacedToken) → is_number_within 2147483647 t ≡ true → IsLiteral t
number_literal t e =
    let n = number_of 2147483647 t e in
    literal_at t (number (decimal n.value) t.at) n.is (record {
      expr = syntax.Number t.at (pos n.value);
      spells = λ rest. inl (n.value, n.small, refl, refl);
      strong = omega arith;
      one = refl;
      plain = refl;
    })

quotation_kind : (k : TokenKind) (text : List ℕ) → elim k [ kind.Word ↦ false | kind.Number ↦ false | kind.Text ↦ is_quoted text | kind.Sign ↦ false ] ≡ true
    → (k ≡ kind.Text) × (is_quoted text ≡ true)
quotation_kind kind.Word text e = absurd cc
quotation_kind kind.Number text e = absurd cc
quotation_kind kind.Text text e = (refl, e)
quotation_kind kind.Sign text e = absurd cc

quotation_literal : (t : PlacedToken) → is_quotation t ≡ true → IsLiteral t
quotation_literal t e =
    let k = quotation_kind t.kind t.text e in
    let q = quoted_of t.text k.1 in
    literal_at t (quotation t.text t.at) (of_kind t kind.Text k.0)
    (record { expr = syntax.TextLiteral t.at q.0; spells = λ rest. ap (λ x. quotation x t.at ∷ rest) q.1; strong = omega arith; one = refl; plain = refl })

constant_literal : (t : PlacedToken) → is_constant t ≡ true → IsLiteral t
constant_literal t e = or_case (is_word (codes "true") t || is_word (codes "false") t || is_word (codes "null") t) (is_word (codes "this") t)
    (λ h. or_case (is_word (codes "true") t || is_word (codes "false") t) (is_word (codes "null") t)
    (λ h. or_case (is_word (codes "true") t) (is_word (codes "false") t)
    (λ h. literal_at t (word (codes "true") t.at) (word_is (codes "true") t h) (record { expr = syntax.Truth t.at true; spells = λ rest. refl; strong = omega arith; one = refl; plain = refl }))
    (λ h. literal_at t (word (codes "false") t.at) (word_is (codes "false") t h) (record { expr = syntax.Truth t.at false; spells = λ rest. refl; strong = omega arith; one = refl; plain = refl })) h)
    (λ h. literal_at t (word (codes "null") t.at) (word_is (codes "null") t h) (record { expr = syntax.Null t.at; spells = λ rest. refl; strong = omega arith; one = refl; plain = refl })) h)
    (λ h. literal_at t (word (codes "this") t.at) (word_is (codes "this") t h) (record { expr = syntax.This t.at; spells = λ rest. refl; strong = omega arith; one = refl; plain = refl })) e

pub literal_of : (t : PlacedToken) → is_literal t ≡ true → IsLiteral t
literal_of t e = or_case (is_number_within 2147483647 t) (is_quotation t || is_constant t) (λ h. number_literal t h)
    (λ h. or_case (is_quotation t) (is_constant t) (λ h. quotation_literal t h) (λ h. constant_literal t h) h) e

-- by the three words in turn
pub fold_by : (t : PlacedToken) {a b c : Bool} → is_word (codes "exists") t ≡ a → is_word (codes "first") t ≡ b → is_word (codes "sum") t ≡ c → begins_fold t ≡ (a || b || c)
fold_by t {a} {b} ea eb ec = ap (λ x. x || is_word (codes "first") t || is_word (codes "sum") t) ea ∙ ap (λ x. a || x || is_word (codes "sum") t) eb ∙ ap (λ x. a || b || x) ec

pub fold_of : (t : PlacedToken) → begins_fold t ≡ true → (f : FoldForm) × (t ≡ word (fold_text f) t.at)
fold_of t e = or_case (is_word (codes "exists") t || is_word (codes "first") t) (is_word (codes "sum") t)
    (λ h. or_case (is_word (codes "exists") t) (is_word (codes "first") t) (λ h. (syntax.Exists, word_is (codes "exists") t h)) (λ h. (syntax.First, word_is (codes "first") t h)) h)
    (λ h. (syntax.Sum, word_is (codes "sum") t h)) e

-- ---- what goes on behind a left operand

-- the operator of this rank that a sign is
pub record IsOperator (text : List ℕ) (rank : ℕ) : Type 0 where
  pub operator : Operator
  pub is : text ≡ operator_text operator
  pub level : operator_level operator + suc rank ≡ 7

is_operator : (text : List ℕ) (rank : ℕ) (o : Operator) → operator_level o + suc rank ≡ 7 → bytes_eq text (operator_text o) ≡ true → IsOperator text rank
is_operator text rank o l e = record { operator = o; is = (bytes_eq-Decides text (operator_text o)).0 e; level = l }

rank_case : {Z : Type 0} (x : Bool) (k n r : ℕ) → (x ≡ true → k ≡ suc r → Z) → (n ≡ suc r → Z) → cond x k n ≡ suc r → Z
rank_case true k n r f g e = f refl e
rank_case false k n r f g e = g e

pub operator_of : (text : List ℕ) (r : ℕ) → sign_rank text ≡ suc r → IsOperator text r
operator_of text r e = rank_case (bytes_eq text (codes "*") || bytes_eq text (codes "/") || bytes_eq text (codes "%")) 1 _ r
    (λ h k. or_case (bytes_eq text (codes "*") || bytes_eq text (codes "/")) (bytes_eq text (codes "%"))
    (λ h. or_case (bytes_eq text (codes "*")) (bytes_eq text (codes "/")) (is_operator text r syntax.Multiply (omega (arith, k))) (is_operator text r syntax.Divide (omega (arith, k))) h)
    (is_operator text r syntax.Remainder (omega (arith, k))) h)
    (rank_case (bytes_eq text (codes "+") || bytes_eq text (codes "-")) 2 _ r
    (λ h k. or_case (bytes_eq text (codes "+")) (bytes_eq text (codes "-")) (is_operator text r syntax.Add (omega (arith, k))) (is_operator text r syntax.Subtract (omega (arith, k))) h)
    (rank_case (bytes_eq text (codes "<") || bytes_eq text (codes "<=") || bytes_eq text (codes ">") || bytes_eq text (codes ">=")) 3 _ r
    (λ h k. or_case (bytes_eq text (codes "<") || bytes_eq text (codes "<=") || bytes_eq text (codes ">")) (bytes_eq text (codes ">="))
    (λ h. or_case (bytes_eq text (codes "<") || bytes_eq text (codes "<=")) (bytes_eq text (codes ">"))
    (λ h. or_case (bytes_eq text (codes "<")) (bytes_eq text (codes "<=")) (is_operator text r syntax.Below (omega (arith, k))) (is_operator text r syntax.AtMost (omega (arith, k))) h)
    (is_operator text r syntax.Above (omega (arith, k))) h)
    (is_operator text r syntax.AtLeast (omega (arith, k))) h)
    (rank_case (bytes_eq text (codes "==") || bytes_eq text (codes "!=")) 4 _ r
    (λ h k. or_case (bytes_eq text (codes "==")) (bytes_eq text (codes "!=")) (is_operator text r syntax.Same (omega (arith, k))) (is_operator text r syntax.Differs (omega (arith, k))) h)
    (rank_case (bytes_eq text (codes "&&")) 5 _ r (λ h k. is_operator text r syntax.And (omega (arith, k)) h)
    (rank_case (bytes_eq text (codes "||")) 6 0 r (λ h k. is_operator text r syntax.Or (omega (arith, k)) h) (λ k. absurd (omega (arith, k)))))))) e

-- the token is a sign of this rank, or it is `instanceof`
pub record IsSignLink (t : PlacedToken) (rank : ℕ) : Type 0 where
  pub operator : Operator
  pub is : t ≡ sign (operator_text operator) t.at
  pub level : operator_level operator + suc rank ≡ 7

instance_case : (x : Bool) (r : ℕ) → cond x 3 0 ≡ suc r → (x ≡ true) × (r ≡ 2)
instance_case true r e = (refl, omega (arith, e))
instance_case false r e = absurd (omega (arith, e))

pub word_link : (t : PlacedToken) (r : ℕ) → is_word_kind t.kind ≡ true → link_rank t ≡ suc r → (t ≡ word (codes "instanceof") t.at) × (r ≡ 2)
word_link t r w e =
    let is = of_kind t kind.Word (is_word_of t.kind w) in
    let c = instance_case (bytes_eq t.text (codes "instanceof")) r (sym (ap link_rank is) ∙ e) in
    (is ∙ ap (λ x. word x t.at) ((bytes_eq-Decides t.text (codes "instanceof")).0 c.0), c.1)

link_kind : (k : TokenKind) (t : PlacedToken) (r : ℕ) → t.kind ≡ k → is_word_kind k ≡ false → link_rank t ≡ suc r → IsSignLink t r
link_kind kind.Word t r is w e = absurd cc
link_kind kind.Number t r is w e = absurd (let z : 0 ≡ suc r = sym (ap link_rank (of_kind t kind.Number is)) ∙ e in omega (arith, z))
link_kind kind.Text t r is w e = absurd (let z : 0 ≡ suc r = sym (ap link_rank (of_kind t kind.Text is)) ∙ e in omega (arith, z))
link_kind kind.Sign t r is w e =
    let o = operator_of t.text r (sym (ap link_rank (of_kind t kind.Sign is)) ∙ e) in
    record { operator = o.operator; is = of_kind t kind.Sign is ∙ ap (λ x. sign x t.at) o.is; level = o.level }

pub sign_link : (t : PlacedToken) (r : ℕ) → is_word_kind t.kind ≡ false → link_rank t ≡ suc r → IsSignLink t r
sign_link t r w e = link_kind t.kind t r refl w e
