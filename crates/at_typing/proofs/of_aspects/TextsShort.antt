-- No text is too long exactly where none that stands in the expression is.
use Rattle.std.proofs.Common.{◌≡◌, ℕ, ◌≤◌, Bool, true, false, List, length, Some, None, refl, arith}
use Rattle.std.specs.Prelude.{nat_lt, if◌then◌else◌}
use Rattle.std.proofs.lemmas.Bool.{ltb-true, ltb-false}
use Rattle.at_text.specs.declared.place.Place.{Place}
use Rattle.at_jrag.specs.Syntax as written
use Rattle.at_typing.specs.AspectRules.{HasText, HaveText}
use Rattle.at_typing.specs.AspectRules as rule
use Rattle.at_typing.specs.Declaring.{long_text, long_text_among, max_text}
use Rattle.at_typing.proofs.Gathering.{first_none, other_none}
use Rattle.at_typing.proofs.of_aspects.FaultNowhere.{both_none}

not_long : (n m : ℕ) (at : Place) → (if nat_lt n m then Some at else None) ≡ None → m ≤ n
not_long n m at e = by (nat_lt n m) refl e
  where
    by : (b : Bool) → nat_lt n m ≡ b → (if b then Some at else None) ≡ None → m ≤ n
    by true g h = absurd cc
    by false g h = let l = ltb-false n m g in omega (arith, l)

long_not : (n m : ℕ) (at : Place) → m ≤ n → (if nat_lt n m then Some at else None) ≡ None
long_not n m at l = by (nat_lt n m) refl
  where
    by : (b : Bool) → nat_lt n m ≡ b → (if b then Some at else None) ≡ None
    by true g = let less = ltb-true n m g in absurd (omega (arith, l, less))
    by false g = refl

mutual
  pub short : {text : List ℕ} {e : written.Expr} → HasText text e → long_text e ≡ None → length text ≤ max_text
  short {text = text} (rule.itself {at = at}) none = not_long max_text (length text) at none
  short (rule.in_call h) none = all_short h none
  short (rule.in_receiver {e = e} {es = es} h) none = short h (first_none (long_text e) (long_text_among es) none)
  short (rule.in_arguments {e = e} {es = es} h) none = all_short h (other_none (long_text e) (long_text_among es) none)
  short (rule.in_paren h) none = short h none
  short (rule.in_negated h) none = short h none
  short (rule.in_opposite h) none = short h none
  short (rule.in_cast h) none = short h none
  short (rule.in_tested h) none = short h none
  short (rule.in_left {a = a} {b = b} h) none = short h (first_none (long_text a) (long_text b) none)
  short (rule.in_right {a = a} {b = b} h) none = short h (other_none (long_text a) (long_text b) none)
  short (rule.in_test {c = c} h) none = short h (first_none (long_text c) _ none)
  short (rule.in_first {c = c} {a = a} {b = b} h) none = short h (first_none (long_text a) (long_text b) (other_none (long_text c) _ none))
  short (rule.in_second {c = c} {a = a} {b = b} h) none = short h (other_none (long_text a) (long_text b) (other_none (long_text c) _ none))
  short (rule.in_list {list = list} {e = e} h) none = short h (first_none (long_text list) (long_text e) none)
  short (rule.in_braces {list = list} {e = e} h) none = short h (other_none (long_text list) (long_text e) none)

  all_short : {text : List ℕ} {es : written.Exprs} → HaveText text es → long_text_among es ≡ None → length text ≤ max_text
  all_short (rule.here {e = e} {es = es} h) none = short h (first_none (long_text e) (long_text_among es) none)
  all_short (rule.later {e = e} {es = es} h) none = all_short h (other_none (long_text e) (long_text_among es) none)

abbrev AreShort : (List ℕ → Type 0) → Type 0
AreShort Has = (text : List ℕ) → Has text → length text ≤ max_text

mutual
  pub none_long : (e : written.Expr) → AreShort (λ text. HasText text e) → long_text e ≡ None
  none_long (written.Number at n) h = refl
  none_long (written.TextLiteral at bytes) h = long_not max_text (length bytes) at (h bytes rule.itself)
  none_long (written.Truth at b) h = refl
  none_long (written.Null at) h = refl
  none_long (written.This at) h = refl
  none_long (written.Name at name) h = refl
  none_long (written.Call at name es) h = none_among es (λ t x. h t (rule.in_call x))
  none_long (written.CallOf at e name es) h =
      both_none (long_text e) (long_text_among es) (none_long e (λ t x. h t (rule.in_receiver x))) (none_among es (λ t x. h t (rule.in_arguments x)))
  none_long (written.Paren at e) h = none_long e (λ t x. h t (rule.in_paren x))
  none_long (written.Negate at e) h = none_long e (λ t x. h t (rule.in_negated x))
  none_long (written.Not at e) h = none_long e (λ t x. h t (rule.in_opposite x))
  none_long (written.Cast at class e) h = none_long e (λ t x. h t (rule.in_cast x))
  none_long (written.InstanceOf at e behind class) h = none_long e (λ t x. h t (rule.in_tested x))
  none_long (written.Binary at o between a b) h =
      both_none (long_text a) (long_text b) (none_long a (λ t x. h t (rule.in_left x))) (none_long b (λ t x. h t (rule.in_right x)))
  none_long (written.Choose at c behind a b) h =
      both_none (long_text c) _ (none_long c (λ t x. h t (rule.in_test x)))
      (both_none (long_text a) (long_text b) (none_long a (λ t x. h t (rule.in_first x))) (none_long b (λ t x. h t (rule.in_second x))))
  none_long (written.Fold at form name list e) h =
      both_none (long_text list) (long_text e) (none_long list (λ t x. h t (rule.in_list x))) (none_long e (λ t x. h t (rule.in_braces x)))

  none_among : (es : written.Exprs) → AreShort (λ text. HaveText text es) → long_text_among es ≡ None
  none_among written.no_exprs h = refl
  none_among (written.expr e es) h =
      both_none (long_text e) (long_text_among es) (none_long e (λ t x. h t (rule.here x))) (none_among es (λ t x. h t (rule.later x)))
