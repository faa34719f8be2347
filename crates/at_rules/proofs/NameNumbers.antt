-- Numbers of names, which are their positions: they are the same exactly where the names are, and stay where there are more.
use Rattle.std.proofs.Common.{◌≡◌, ℕ, ◌+◌, List, [], ◌∷◌, ◌++◌, length, get_or, refl, ap, sym, ◌∙◌, subst, arith, Option, Some, None, true≢false, String, string_bytes}
use Rattle.std.specs.Prelude.{Bool, true, false, ◌||◌, cond, nat_eq, position, is_some, unwrap_or}
use Rattle.std.specs.List.{list_any, position_from, position_or_len}
use Rattle.std.specs.Str.{bytes_eq}
use Rattle.std.specs.String.{string_eq}
use Rattle.std.proofs.lemmas.Bool.{eqb-true, eqb-false}
use Rattle.std.proofs.lemmas.Cmp.{nat_list_eq_equiv}
use Rattle.std.proofs.lemmas.Iterator.Adapters.{position_from-zero}
use Rattle.std.proofs.lemmas.List.Quantifiers.{position-Some}
use Rattle.std.proofs.lemmas.Option.{none-some}
use Rattle.std.proofs.lemmas.Slice.Eq.{bytes_eq-Decides}
use Rattle.indexmap.specs.IndexSet.{insert_key}
use Rattle.at_rules.specs.Names.{number_in, Keeps}
use Rattle.at_rules.specs.RulesView.{LacksText}
use Rattle.at_rules.proofs.Earlier.{any_found}

-- the same names -----------------------------------------------------------------------------------------------------------

pub injective : {A : Type 0} {x y : A} → Some x ≡ Some y → x ≡ y
injective {x} is = ap (λ o. unwrap_or o x) is

same_word : {A : Type 0} (f : A → List ℕ) (xs : List A) (v w : List ℕ) (m : ℕ) → position (λ k. bytes_eq v (f k)) xs ≡ Some m → position (λ k. bytes_eq w (f k)) xs ≡ Some m → bytes_eq v w ≡ true
same_word f [] v w m first second = absurd (none-some _ first)
same_word f (x ∷ xs) v w m first second = by (f (get_or (x ∷ xs) m x)) (position-Some (λ k. bytes_eq v (f k)) (x ∷ xs) m x first).1 (position-Some (λ k. bytes_eq w (f k)) (x ∷ xs) m x second).1
  where
    by : (t : List ℕ) → bytes_eq v t ≡ true → bytes_eq w t ≡ true → bytes_eq v w ≡ true
    by t first second = ap (λ u. bytes_eq v u) ((bytes_eq-Decides w t).0 second) ∙ first

-- positions of words are the same where the words are
pub agree : {A : Type 0} (f : A → List ℕ) (xs : List A) (v w : List ℕ) (m n : ℕ) → position (λ k. bytes_eq v (f k)) xs ≡ Some m → position (λ k. bytes_eq w (f k)) xs ≡ Some n → nat_eq m n ≡ bytes_eq v w
agree f xs v w m n first second = by (nat_eq m n) (bytes_eq v w) refl refl
  where
    by : (a b : Bool) → nat_eq m n ≡ a → bytes_eq v w ≡ b → a ≡ b
    by true true is other = refl
    by false false is other = refl
    by true false is other = absurd (true≢false (sym (same_word f xs v w m first (second ∙ ap Some (sym (eqb-true m n is)))) ∙ other))
    by false true is other = absurd (eqb-false m n is (injective (sym first ∙ ap (λ u. position (λ k. bytes_eq u (f k)) xs) ((bytes_eq-Decides v w).0 other) ∙ second)))

-- one more name ------------------------------------------------------------------------------------------------------------

from_append : {A : Type 0} (p : A → Bool) (i n : ℕ) (xs ys : List A) → position_from p i xs ≡ Some n → position_from p i (xs ++ ys) ≡ Some n
from_append p i n [] ys is = absurd (none-some _ is)
from_append p i n (x ∷ xs) ys is = by (p x) (from_append p (i + 1) n xs ys) is
  where
    by : (b : Bool) → (position_from p (i + 1) xs ≡ Some n → position_from p (i + 1) (xs ++ ys) ≡ Some n) → cond b (Some i) (position_from p (i + 1) xs) ≡ Some n → cond b (Some i) (position_from p (i + 1) (xs ++ ys)) ≡ Some n
    by true rest found = found
    by false rest found = rest found

-- what is found is found with others behind
pub found_still : {A : Type 0} (p : A → Bool) (n : ℕ) (xs ys : List A) → position p xs ≡ Some n → position p (xs ++ ys) ≡ Some n
found_still p n xs ys is = position_from-zero p (xs ++ ys) ∙ from_append p 0 n xs ys (sym (position_from-zero p xs) ∙ is)

from_last : {A : Type 0} (p : A → Bool) (i : ℕ) (xs : List A) (y : A) → list_any p xs ≡ false → p y ≡ true → position_from p i (xs ++ y ∷ []) ≡ Some (i + length xs)
from_last p i [] y none is = rw is (ap Some (omega arith))
from_last p i (x ∷ xs) y none is = by (p x) (λ absent. from_last p (i + 1) xs y absent is) none
  where
    by : (b : Bool) → (list_any p xs ≡ false → position_from p (i + 1) (xs ++ y ∷ []) ≡ Some (i + 1 + length xs)) → (b || list_any p xs) ≡ false → cond b (Some i) (position_from p (i + 1) (xs ++ y ∷ [])) ≡ Some (i + length (x ∷ xs))
    by true rest absent = absurd (true≢false absent)
    by false rest absent = rest absent ∙ ap Some (omega arith)

-- a new one is found last
pub found_last : {A : Type 0} (p : A → Bool) (xs : List A) (y : A) → list_any p xs ≡ false → p y ≡ true → position p (xs ++ y ∷ []) ≡ Some (length xs)
found_last p xs y none is = position_from-zero p (xs ++ y ∷ []) ∙ from_last p 0 xs y none is ∙ ap Some (omega arith)

or_len_last : {A : Type 0} (p : A → Bool) (xs : List A) → list_any p xs ≡ false → position_or_len p xs ≡ length xs
or_len_last p [] none = refl
or_len_last p (x ∷ xs) none = by (p x) refl (or_len_last p xs) none
  where
    by : (b : Bool) → p x ≡ b → (list_any p xs ≡ false → position_or_len p xs ≡ length xs) → (b || list_any p xs) ≡ false → position_or_len p (x ∷ xs) ≡ length (x ∷ xs)
    by true is rest absent = absurd (true≢false absent)
    by false is rest absent = rw is (omega (arith, rest absent))

pub inserted : {Z : Type 0} (old : List (String Z)) (text : List ℕ) (s : String Z) (new : List (String Z)) (n : ℕ) → string_bytes s ≡ text → list_any (λ k. bytes_eq text (string_bytes k)) old ≡ false
    → new ≡ insert_key string_eq old s → n ≡ position_or_len (string_eq s) old → (number_in new text ≡ Some n) × Keeps old new
inserted old text s new n is none keys number = (
  ap (λ ks. number_in ks text) at_end ∙ found_last (λ k. bytes_eq text (string_bytes k)) old s none (ap (λ t. bytes_eq text t) is ∙ nat_list_eq_equiv.refl text) ∙ ap Some (sym (number ∙ or_len_last (string_eq s) old absent)),
  λ t m found. ap (λ ks. number_in ks t) at_end ∙ found_still (λ k. bytes_eq t (string_bytes k)) m old (s ∷ []) found,
)
  where
    absent : list_any (string_eq s) old ≡ false
    absent = ap (λ t. list_any (λ k. bytes_eq t (string_bytes k)) old) is ∙ none

    at_end : new ≡ old ++ s ∷ []
    at_end = keys ∙ rw absent refl

pub kept_as : {Z : Type 0} (old new : List (String Z)) → new ≡ old → Keeps old new
kept_as old new same = subst (Keeps old) (sym same) (λ text n found. found)

-- a name, or none ----------------------------------------------------------------------------------------------------------

pub lacks_number : {Z : Type 0} (names : List (String Z)) (text : List ℕ) → number_in names text ≡ None → LacksText names text
lacks_number names text none = sym (any_found (λ k. bytes_eq text (string_bytes k)) names) ∙ ap is_some none

pub has_number : {Z : Type 0} (names : List (String Z)) (text : List ℕ) (n : ℕ) → number_in names text ≡ Some n → list_any (λ k. bytes_eq text (string_bytes k)) names ≡ true
has_number names text n is = sym (any_found (λ k. bytes_eq text (string_bytes k)) names) ∙ ap is_some is

pub lacks_before : {Z : Type 0} (old new : List (String Z)) → Keeps old new → (text : List ℕ) → LacksText new text → LacksText old text
lacks_before old new keeps text lacks = by (number_in old text) refl
  where
    by : (o : Option ℕ) → number_in old text ≡ o → LacksText old text
    by None is = lacks_number old text is
    by (Some n) is = absurd (true≢false (sym (has_number new text n (keeps text n is)) ∙ lacks))
