-- Names with a count: where they stand among names, and what is asked by them.
use Rattle.std.proofs.Common.{◌≡◌, ℕ, ◌+◌, ◌<◌, List, [], ◌∷◌, ◌++◌, length, get_or, take, refl, ap, sym, ◌∙◌, arith, Option, Some, None, suc, zero, true≢false, String, string_bytes}
use Rattle.std.specs.Prelude.{Bool, true, false, ◌||◌, if◌then◌else◌, nat_eq}
use Rattle.std.specs.List.{list_any, slice_get, IsDistinct}
use Rattle.std.specs.Option.{option_or}
use Rattle.std.specs.Str.{bytes_eq}
use Rattle.std.specs.String.{string_eq}
use Rattle.std.proofs.lemmas.Bool.{eqb-true, eq-eqb}
use Rattle.std.proofs.lemmas.Iterator.Adapters.{position_from-zero}
use Rattle.std.proofs.lemmas.Option.{slice_get_within}
use Rattle.std.proofs.lemmas.Slice.Eq.{bytes_eq-Decides}
use Rattle.at_model.specs.Rules.{first_answer, name_by, names_asked, plain_name}
use Rattle.at_rules.specs.Counted.{AreCounted}
use Rattle.at_rules.specs.Names.{number_in}
use Rattle.at_rules.specs.RulesView.{text_of, LacksText}
use Rattle.at_rules.proofs.Guessed.{stands_from}
use Rattle.at_rules.proofs.NameNumbers.{lacks_number}
use Rattle.at_rules.proofs.UpwardLemmas.{name_at}

-- a name with a count -------------------------------------------------------------------------------------------------

-- where its slash is
pub slash_at : (name : List ℕ) (count : ℕ) → get_or (name_by name count) (length name) 0 ≡ 47
slash_at [] count = refl
slash_at (b ∷ bs) count = slash_at bs count

pub slash_within : (name : List ℕ) (count : ℕ) → length name < length (name_by name count)
slash_within [] count = omega arith
slash_within (b ∷ bs) count = omega (arith, slash_within bs count)

-- behind a front that is the same
pub behind_front : (name xs ys : List ℕ) → bytes_eq (name ++ xs) (name ++ ys) ≡ bytes_eq xs ys
behind_front [] xs ys = refl
behind_front (b ∷ bs) xs ys = rw (eq-eqb b b refl) (behind_front bs xs ys)

-- no text is nothing
pub some_text : (name : List ℕ) (count : ℕ) → bytes_eq (name_by name count) [] ≡ false
some_text [] count = refl
some_text (b ∷ bs) count = refl

pub never_empty : (name : List ℕ) (count : ℕ) → name_by name count ≡ [] → ⊥
never_empty [] count is = absurd cc
never_empty (b ∷ bs) count is = absurd cc

-- the text of a number
pub text_there : {Z : Type 0} (names : List (String Z)) (n : ℕ) (known : String Z) → Some known ≡ slice_get names n
    → string_bytes known ≡ text_of names n
text_there {Z} names n known is = ap (λ (o : Option (String Z)). elim o [ None ↦ [] | Some t ↦ string_bytes t ]) is

pub text_absent : {Z : Type 0} (names : List (String Z)) (n : ℕ) → None ≡ slice_get names n → [] ≡ text_of names n
text_absent {Z} names n is = ap (λ (o : Option (String Z)). elim o [ None ↦ [] | Some t ↦ string_bytes t ]) is

-- none of those that are looked at
pub none_of_these : (test : ℕ → Bool) (numbers : List ℕ) → ((i : ℕ) → i < length numbers
    → test (get_or numbers i 0) ≡ false) → (n : ℕ) → list_any (nat_eq n) numbers ≡ true → test n ≡ false
none_of_these test [] all n any = absurd (true≢false (sym any))
none_of_these test (m ∷ ms) all n any = by (none_of_these test ms (λ i less. all (suc i) (omega (arith, less))) n)
    (nat_eq n m) refl
  where
    by : (list_any (nat_eq n) ms ≡ true → test n ≡ false) → (b : Bool) → nat_eq n m ≡ b → test n ≡ false
    by rest true is = ap test (eqb-true n m is) ∙ all 0 (omega arith)
    by rest false is = rest (sym (ap (λ x. x || list_any (nat_eq n) ms) is) ∙ any)

-- where it stands -----------------------------------------------------------------------------------------------------

-- a number with such a text is one of a name
pub within_names : {Z : Type 0} (names : List (String Z)) (n : ℕ) (name : List ℕ) (count : ℕ)
    → text_of names n ≡ name_by name count → n < length names
within_names {Z} names n name count is = by (slice_get names n) refl
  where
    by : (o : Option (String Z)) → slice_get names n ≡ o → n < length names
    by None none = absurd (never_empty name count (sym is ∙ sym (text_absent names n (sym none))))
    by (Some known) some = slice_get_within names n known some

-- names are apart, so it stands at one number
pub found_there : {Z : Type 0} (names : List (String Z)) → IsDistinct string_eq names
    → (name : List ℕ) (count n : ℕ) → bytes_eq (name_by name count) (text_of names n) ≡ true
    → number_in names (name_by name count) ≡ Some n
found_there {Z} names apart name count n there = by (slice_get names n) refl
  where
    by : (o : Option (String Z)) → slice_get names n ≡ o → number_in names (name_by name count) ≡ Some n
    by None none = absurd (true≢false (sym there ∙ ap (λ (x : Option (String Z)). bytes_eq (name_by name count)
        (elim x [ None ↦ [] | Some t ↦ string_bytes t ])) none ∙ some_text name count))
    by (Some known) is =
        let less : n < length names = slice_get_within names n known is in
        let at : 0 + n ≡ n = omega arith in
        position_from-zero (λ k. bytes_eq (name_by name count) (string_bytes k)) names
        ∙ stands_from (name_by name count) names apart 0 n less there ∙ ap Some at

-- what is found is at a number
pub none_found : {Z : Type 0} (names : List (String Z)) (name : List ℕ) (count : ℕ) → ((n : ℕ) → n < length names
    → text_of names n ≡ name_by name count → ⊥) → number_in names (name_by name count) ≡ None
none_found names name count none = by (number_in names (name_by name count)) refl
  where
    by : (o : Option ℕ) → number_in names (name_by name count) ≡ o → number_in names (name_by name count) ≡ None
    by None is = is
    by (Some n) is = let at = name_at names (name_by name count) n is in absurd (none n at.0 (sym at.1))

-- it isn't found where it is none of those that have one
pub none_among : {Z : Type 0} (names : List (String Z)) (numbers : List ℕ) → AreCounted (text_of names) numbers
    → (name : List ℕ) (count : ℕ)
    → ((n : ℕ) → list_any (nat_eq n) numbers ≡ true → bytes_eq (name_by name count) (text_of names n) ≡ false)
    → number_in names (name_by name count) ≡ None
none_among names numbers counted name count others = none_found names name count (λ n less is.
    true≢false (sym ((bytes_eq-Decides (name_by name count) (text_of names n)).1 (sym is))
    ∙ others n (counted n name count is)))

pub none_below : {Z : Type 0} (names : List (String Z)) (name : List ℕ) (count : ℕ)
    → ((n : ℕ) → n < length names → bytes_eq (name_by name count) (text_of names n) ≡ false)
    → number_in names (name_by name count) ≡ None
none_below names name count others = none_found names name count (λ n less is.
    true≢false (sym ((bytes_eq-Decides (name_by name count) (text_of names n)).1 (sym is)) ∙ others n less))

-- there are none, so no name has a count
pub lacks_counted : {Z : Type 0} (names : List (String Z)) (numbers : List ℕ) → AreCounted (text_of names) numbers
    → numbers ≡ [] → (name : List ℕ) (count : ℕ) → LacksText names (name_by name count)
lacks_counted names numbers counted none name count = lacks_number names (name_by name count)
    (none_among names numbers counted name count (λ n any.
    absurd (true≢false (sym any ∙ ap (list_any (nat_eq n)) none))))

-- what is asked -------------------------------------------------------------------------------------------------------

-- where no name has a count
pub asked_plainly : {B : Type 0} (f : List ℕ → Option B) (name : List ℕ) (count : ℕ) → ((count : ℕ)
    → f (name_by name count) ≡ None) → first_answer f (names_asked name count) ≡ f name
asked_plainly f name count none = rw (none count, none 0, none 1, none 2, none 3, none 4) (by (f name))
  where
    by : {B : Type 0} (o : Option B) → option_or o None ≡ o
    by None = refl
    by (Some b) = refl

-- the plain name ------------------------------------------------------------------------------------------------------

pub plain_to : (text : List ℕ) (i : ℕ) → i < length text → get_or text i 0 ≡ 47 → ((j : ℕ) → j < i
    → get_or text j 0 ≡ 47 → ⊥) → take i text ≡ plain_name text
plain_to [] i less here before = absurd (omega (arith, less))
plain_to (b ∷ bs) zero less here before = rw (eq-eqb b 47 here) refl
plain_to (b ∷ bs) (suc i) less here before = by (plain_to bs i (omega (arith, less)) here (λ j l e. before (suc j)
    (omega (arith, l)) e)) (nat_eq b 47) refl
  where
    by : take i bs ≡ plain_name bs → (t : Bool) → nat_eq b 47 ≡ t
        → take (suc i) (b ∷ bs) ≡ (if t then [] else b ∷ plain_name bs)
    by rest true is = absurd (before 0 (omega arith) (eqb-true b 47 is))
    by rest false is = ap (λ xs. b ∷ xs) rest

pub plain_itself : (text : List ℕ) → ((j : ℕ) → j < length text → get_or text j 0 ≡ 47 → ⊥) → text ≡ plain_name text
plain_itself [] none = refl
plain_itself (b ∷ bs) none = by (plain_itself bs (λ j l e. none (suc j) (omega (arith, l)) e)) (nat_eq b 47) refl
  where
    by : bs ≡ plain_name bs → (t : Bool) → nat_eq b 47 ≡ t → b ∷ bs ≡ (if t then [] else b ∷ plain_name bs)
    by rest true is = absurd (none 0 (omega arith) (eqb-true b 47 is))
    by rest false is = ap (λ xs. b ∷ xs) rest
