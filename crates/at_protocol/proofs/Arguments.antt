-- What the texts of arguments begin with, and which bytes don't stand in them.
use Rattle.std.proofs.Common.{◌≡◌, ℕ, ℤ, pos, negsuc, suc, ◌<◌, ◌^◌, Bool, true, false, nat_eq, List, [], ◌∷◌, ◌++◌, Result, Ok, Err, refl, sym, ap, ◌∙◌, arith, append-nil}
use Rattle.std.specs.Prelude.{codes, slice_index}
use Rattle.std.specs.List.{list_any}
use Rattle.at_model.specs.Trees as tree
use Rattle.at_model.specs.Terms.{token_text, IsInt32, IsToken}
use Rattle.at_model.specs.Lines.{Argument, Text, Int, Truth, Ref, Null, Place, From_root, From_mark, place_text}
use Rattle.at_model.proofs.of_texts.Words.{apart, delimits, ends, headless, decimal_inner}
use Rattle.at_model.proofs.of_texts.OneTerm.{token_headless}
use Rattle.at_protocol.specs.LineView.{argument_view}
use Rattle.at_protocol.specs.declared.line.Argument.{Argument as ArgumentValue}
use Rattle.at_text.specs.declared.fault.Failure.{Failure}
use Rattle.at_protocol.specs.declared.line.words.Misfit.{Misfit}
use Rattle.at_protocol.specs.Words.{Answers, HasNo, FailsOn, IsPlaceText}
use Rattle.at_protocol.specs.Calls.{IsBareArgument, IsPlainArgument}
use Rattle.at_protocol.proofs.Answering.{fails_with}
use Rattle.at_protocol.proofs.Spaces.{first, tail_of, has_no_cons, has_no_decimal, has_no_test}

pub begins : (text : List ℕ) (d : ℕ) → 0 < d → slice_index text 0 ≡ d → text ≡ d ∷ tail_of text
begins [] d some e = absurd (omega (arith, e))
begins (b ∷ bs) d some e = ap (λ (c : ℕ). c ∷ bs) e

-- no comma stands in an int or a boolean
pub no_comma_int : (n : ℤ) → IsInt32 n → HasNo 44 (token_text (tree.Int n))
no_comma_int (pos n) h = has_no_decimal 44 n (omega arith) (omega arith)
no_comma_int (negsuc n) h = has_no_cons 44 45 _ (λ e. omega (arith, e)) (has_no_decimal 44 (suc n) (omega arith) (omega arith))

pub no_comma_truth : (b : Bool) → HasNo 44 (token_text (tree.Truth b))
no_comma_truth true = has_no_test 44 (codes "true") refl
no_comma_truth false = has_no_test 44 (codes "false") refl

-- no quote stands in front of one
pub unquoted_int : (n : ℤ) (behind text : List ℕ) → (slice_index behind 0 ≡ 34 → ⊥)
    → IsInt32 n → token_text (tree.Int n) ++ behind ≡ text → slice_index text 0 ≡ 34 → ⊥
unquoted_int (pos n) behind text none h e q =
    headless _ behind (tail_of text) 34 (decimal_inner n (omega arith)) refl (λ z f. none (first behind (34 ∷ z) f)) (e ∙ begins text 34 (omega arith) q)
unquoted_int (negsuc n) behind text none h e q = let f : 45 ≡ slice_index text 0 = first _ _ e in omega (arith, f, q)

pub unquoted_truth : (b : Bool) (behind text : List ℕ) → token_text (tree.Truth b) ++ behind ≡ text → slice_index text 0 ≡ 34 → ⊥
unquoted_truth true behind text e q = let f : 116 ≡ slice_index text 0 = first _ _ e in omega (arith, f, q)
unquoted_truth false behind text e q = let f : 102 ≡ slice_index text 0 = first _ _ e in omega (arith, f, q)

-- what a place begins with, and nothing else
pub place_first : (place : Place) (text : List ℕ) → place_text place ≡ text → (slice_index text 0 ≡ 47 → ⊥) → (slice_index text 0 ≡ 36 → ⊥) → ⊥
place_first (From_root []) text e none other = none (sym (first _ _ e))
place_first (From_root (s ∷ ss)) text e none other = none (sym (first _ _ e))
place_first (From_mark name steps) text e none other = other (sym (first _ _ e))

-- a slash or a dollar sign
pub record IsPlaceSign (d : ℕ) : Type 0 where
  pub some : 0 < d
  pub is_delimiter : delimits d ≡ true
  pub no_end : list_any (nat_eq d) ends ≡ false
  pub no_quote : nat_eq 34 d ≡ false
  pub no_minus : nat_eq 45 d ≡ false
  pub no_null : nat_eq 110 d ≡ false

pub slash : IsPlaceSign 47
slash = record { some = omega arith; is_delimiter = refl; no_end = refl; no_quote = refl; no_minus = refl; no_null = refl }

pub dollar : IsPlaceSign 36
dollar = record { some = omega arith; is_delimiter = refl; no_end = refl; no_quote = refl; no_minus = refl; no_null = refl }

module _ (text : List ℕ) (d : ℕ) (is_sign : IsPlaceSign d) (at : slice_index text 0 ≡ d) where
  token_apart : (v : tree.Token) → IsToken v → token_text v ≡ text → ⊥
  token_apart v h e = token_headless v [] (tail_of text) d is_sign.is_delimiter is_sign.no_end is_sign.no_quote is_sign.no_minus h tt
      (append-nil (token_text v) ∙ e ∙ begins text d is_sign.some at)

  is_place : (a : Argument) → IsBareArgument text a → (place : Place) × IsPlaceText text place
  is_place (Text value) h = absurd h
  is_place (Int n) h = absurd (token_apart (tree.Int n) h.0 h.1)
  is_place (Truth b) h = absurd (token_apart (tree.Truth b) tt h.1)
  is_place (Ref place) h = (place, h)
  is_place Null h = absurd (apart 110 d (codes "ull") (tail_of text) is_sign.no_null (h.1 ∙ begins text d is_sign.some at))

  -- where such a byte stands in front, nothing but a place is an argument
  pub place_fails : (fault : Failure Misfit) → FailsOn (IsPlaceText text) fault → FailsOn (IsBareArgument text) fault
  place_fails fault = fails_with (IsPlaceText text) (IsBareArgument text) fault is_place

-- and where neither does, no place is one
plain_fails : (text : List ℕ) (fault : Failure Misfit)
    → (slice_index text 0 ≡ 47 → ⊥) → (slice_index text 0 ≡ 36 → ⊥) → FailsOn (IsPlainArgument text) fault → FailsOn (IsBareArgument text) fault
plain_fails text fault none other = fails_with (IsPlainArgument text) (IsBareArgument text) fault part
  where
    part : (a : Argument) → IsBareArgument text a → (b : Argument) × IsPlainArgument text b
    part (Text value) h = absurd h
    part (Int n) h = (Int n, h)
    part (Truth b) h = (Truth b, h)
    part (Ref place) h = absurd (place_first place text h.1 none other)
    part Null h = (Null, h)

plain_is_bare : (text : List ℕ) (a : Argument) → IsPlainArgument text a → IsBareArgument text a
plain_is_bare text (Text value) h = h
plain_is_bare text (Int n) h = h
plain_is_bare text (Truth b) h = h
plain_is_bare text (Ref place) h = absurd h
plain_is_bare text Null h = h

pub plain_answers : (text : List ℕ) (r : Result ArgumentValue (Failure Misfit)) → (slice_index text 0 ≡ 47 → ⊥) → (slice_index text 0 ≡ 36 → ⊥)
    → Answers argument_view (IsPlainArgument text) r → Answers argument_view (IsBareArgument text) r
plain_answers text (Ok a) none other h = plain_is_bare text (argument_view a) h
plain_answers text (Err fault) none other h = plain_fails text fault none other h
