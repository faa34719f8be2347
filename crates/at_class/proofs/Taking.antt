-- Which names components take.
use Rattle.std.proofs.Common.{◌≡◌, ℕ, ◌+◌, ◌<◌, ◌≤◌, ◌⊎◌, inl, inr, List, [], ◌∷◌, ◌++◌, length, map, take, drop, get_or, refl, ap, ap₂, sym, ◌∙◌, arith, append_assoc, true≢false, eq-eqb, Bool, true, false, Option, Some, None}
use Rattle.std.specs.Prelude.{◌||◌, ◌&&◌, nat_eq, nat_lt, String, string_bytes, if◌then◌else◌, codes}
use Rattle.std.specs.List.{list_any, slice_get}
use Rattle.std.specs.Option.{option_map}
use Rattle.std.proofs.lemmas.Option.{slice_get-map, slice_get_read, slice_get_past}
use Rattle.std.specs.Str.{bytes_eq}
use Rattle.std.specs.String.{string_eq}
use Rattle.std.proofs.lemmas.Bool.{eqb-true, ltb-true, ltb-false, or_left, or_right}
use Rattle.std.proofs.lemmas.List.{map_more, take_all, take-append-drop, take-map}
use Rattle.std.proofs.lemmas.List.Folds.{list_any-append}
use Rattle.indexmap.specs.IndexSet.{insert_key}
use Rattle.at_text.proofs.TextTokens.{take_front}
use Rattle.at_model.specs.Classes.{Component}
use Rattle.at_model.specs.Declarations.{clash, is_list, is_taken, takes}
use Rattle.at_model.proofs.Options.{both, or_false}
use Rattle.at_class.specs.View.{part_view}
use Rattle.at_class.specs.declared.part.Part.{Part}
use Rattle.at_class.specs.Taken.{has_key, AreTaken, Begins, IsFirst, IsFirstBelow, is_taken_at, or_this}
use Rattle.at_class.specs.declared.taken.TakenNames.{TakenNames}

no_name : {A : Type 0} → false ≡ true → A
no_name e = absurd (true≢false (sym e))

-- texts ---------------------------------------------------------------------------------------------------------------

nat_eq-swap : (a b : ℕ) → nat_eq a b ≡ nat_eq b a
nat_eq-swap a b = by (nat_eq a b) (nat_eq b a) refl refl
  where
    by : (s t : Bool) → nat_eq a b ≡ s → nat_eq b a ≡ t → s ≡ t
    by true true e f = refl
    by true false e f = no_name (sym f ∙ eq-eqb b a (sym (eqb-true a b e)))
    by false true e f = no_name (sym e ∙ eq-eqb a b (sym (eqb-true b a f)))
    by false false e f = refl

pub bytes_eq-swap : (xs ys : List ℕ) → bytes_eq xs ys ≡ bytes_eq ys xs
bytes_eq-swap [] [] = refl
bytes_eq-swap [] (y ∷ ys) = refl
bytes_eq-swap (x ∷ xs) [] = refl
bytes_eq-swap (x ∷ xs) (y ∷ ys) = ap₂ (λ a b. a && b) (nat_eq-swap x y) (bytes_eq-swap xs ys)

bytes_eq-is : (xs ys : List ℕ) → bytes_eq xs ys ≡ true → xs ≡ ys
bytes_eq-is [] [] e = refl
bytes_eq-is [] (y ∷ ys) e = no_name e
bytes_eq-is (x ∷ xs) [] e = no_name e
bytes_eq-is (x ∷ xs) (y ∷ ys) e = let p = both (nat_eq x y) (bytes_eq xs ys) e in ap₂ (λ z zs. z ∷ zs) (eqb-true x y p.0) (bytes_eq-is xs ys p.1)

-- sets ----------------------------------------------------------------------------------------------------------------

kept_there : {Z : Type 0} (keys : List (String Z)) (text : String Z) (n : List ℕ) → list_any (string_eq text) keys ≡ true → bytes_eq n (string_bytes text) ≡ true → has_key keys n ≡ true
kept_there [] text n e f = no_name e
kept_there (k ∷ ks) text n e f = by (string_eq text k) refl (kept_there ks text n) e
  where
    by : (s : Bool) → string_eq text k ≡ s → (list_any (string_eq text) ks ≡ true → bytes_eq n (string_bytes text)
        ≡ true → has_key ks n ≡ true) → (s || list_any (string_eq text) ks) ≡ true → has_key (k ∷ ks) n ≡ true
    by true same more g = or_left (bytes_eq n (string_bytes k)) _ (ap (bytes_eq n) (sym (bytes_eq-is (string_bytes text) (string_bytes k) same)) ∙ f)
    by false same more g = or_right (bytes_eq n (string_bytes k)) _ (more g f)

-- a text more
pub inserted : {Z : Type 0} (keys new : List (String Z)) (text : String Z) → new ≡ insert_key string_eq keys text → (n : List ℕ) → has_key new n ≡ (has_key keys n || bytes_eq n (string_bytes text))
inserted keys new text e n = ap (λ ks. has_key ks n) e ∙ by (list_any (string_eq text) keys) refl
  where
    told : (a b : Bool) → (b ≡ true → a ≡ true) → a ≡ (a || b)
    told true b f = refl
    told false true f = f refl
    told false false f = refl

    by : (s : Bool) → list_any (string_eq text) keys ≡ s → has_key (if s then keys else keys ++ text ∷ []) n ≡ (has_key keys n || bytes_eq n (string_bytes text))
    by true there = told (has_key keys n) (bytes_eq n (string_bytes text)) (kept_there keys text n there)
    by false there = list_any-append (λ k. bytes_eq n (string_bytes k)) keys (text ∷ []) ∙ ap (λ b. has_key keys n || b) (or_false (bytes_eq n (string_bytes text)))

-- clashes -------------------------------------------------------------------------------------------------------------

any_or : {A : Type 0} (f g : A → Bool) (xs : List A) → list_any (λ x. f x || g x) xs ≡ (list_any f xs || list_any g xs)
any_or f g [] = refl
any_or f g (x ∷ xs) = ap (λ b. (f x || g x) || b) (any_or f g xs) ∙ by (f x) (g x) (list_any f xs) (list_any g xs)
  where
    by : (a b c d : Bool) → ((a || b) || (c || d)) ≡ ((a || c) || (b || d))
    by true b c d = refl
    by false true true d = refl
    by false true false d = refl
    by false false c d = refl

-- three reasons for a clash
three : (p : Component) (before : List Component) → list_any (clash p) before ≡ ((list_any (λ q. bytes_eq p.name q.name)
    before || list_any (λ q. takes p q.name) before) || list_any (λ q. takes q p.name) before)
three p before =
    any_or (λ q. bytes_eq p.name q.name || takes p q.name) (λ q. takes q p.name) before
    ∙ ap (λ b. b || list_any (λ q. takes q p.name) before) (any_or (λ q. bytes_eq p.name q.name) (λ q. takes p q.name) before)

no_list : (p : Component) (before : List Component) → is_list p.shape ≡ false → list_any (λ q. takes p q.name) before ≡ false
no_list p [] e = refl
no_list p (q ∷ qs) e = ap (λ b. (b && (bytes_eq q.name (codes "Num" ++ p.name) || bytes_eq q.name (p.name ++ codes "List"))) || list_any (λ q. takes p q.name) qs) e ∙ no_list p qs e

of_list : (p : Component) (before : List Component) → is_list p.shape ≡ true
    → list_any (λ q. takes p q.name) before ≡ (list_any (λ q. bytes_eq (codes "Num" ++ p.name) q.name) before || list_any (λ q. bytes_eq (p.name ++ codes "List") q.name) before)
of_list p before e = each before ∙ any_or (λ q. bytes_eq (codes "Num" ++ p.name) q.name) (λ q. bytes_eq (p.name ++ codes "List") q.name) before
  where
    each : (qs : List Component) → list_any (λ q. takes p q.name) qs ≡ list_any (λ q. bytes_eq (codes "Num" ++ p.name) q.name || bytes_eq (p.name ++ codes "List") q.name) qs
    each [] = refl
    each (q ∷ qs) =
        ap (λ b. (b && (bytes_eq q.name (codes "Num" ++ p.name) || bytes_eq q.name (p.name ++ codes "List"))) || list_any (λ q. takes p q.name) qs) e
        ∙ ap₂ (λ a b. (a || b) || list_any (λ q. takes p q.name) qs) (bytes_eq-swap q.name (codes "Num" ++ p.name)) (bytes_eq-swap q.name (p.name ++ codes "List"))
        ∙ ap (λ b. (bytes_eq (codes "Num" ++ p.name) q.name || bytes_eq (p.name ++ codes "List") q.name) || b) (each qs)

pub by_name : (p : Component) (before : List Component) (t : TakenNames) → AreTaken before t.names.keys t.accessors.keys → has_key t.names.keys p.name ≡ true → list_any (clash p) before ≡ true
by_name p before t k e = three p before ∙ or_left (list_any (λ q. bytes_eq p.name q.name) before || list_any (λ q.
    takes p q.name) before) _ (or_left (list_any (λ q. bytes_eq p.name q.name) before) _ (sym (k.names p.name) ∙ e))

pub by_accessor : (p : Component) (before : List Component) (t : TakenNames) → AreTaken before t.names.keys t.accessors.keys → has_key t.accessors.keys p.name ≡ true → list_any (clash p) before ≡ true
by_accessor p before t k e = three p before ∙ or_right (list_any (λ q. bytes_eq p.name q.name) before || list_any (λ q. takes p q.name) before) _ (sym (k.accessors p.name) ∙ e)

only_own : (p : Component) (before : List Component) (t : TakenNames) → AreTaken before t.names.keys t.accessors.keys
    → has_key t.names.keys p.name ≡ false → has_key t.accessors.keys p.name ≡ false
    → list_any (clash p) before ≡ list_any (λ q. takes p q.name) before
only_own p before t k e f =
    three p before
    ∙ ap₂ (λ a b. (a || list_any (λ q. takes p q.name) before) || b) (sym (k.names p.name) ∙ e) (sym (k.accessors p.name) ∙ f)
    ∙ or_false (list_any (λ q. takes p q.name) before)

pub by_nothing : (p : Component) (before : List Component) (t : TakenNames)
    → AreTaken before t.names.keys t.accessors.keys → has_key t.names.keys p.name ≡ false
    → has_key t.accessors.keys p.name ≡ false → is_list p.shape ≡ false → list_any (clash p) before ≡ false
by_nothing p before t k e f g = only_own p before t k e f ∙ no_list p before g

pub by_own : (p : Component) (before : List Component) (t : TakenNames) (count list : List ℕ)
    → AreTaken before t.names.keys t.accessors.keys → has_key t.names.keys p.name ≡ false
    → has_key t.accessors.keys p.name ≡ false → is_list p.shape ≡ true
    → count ≡ codes "Num" ++ p.name → list ≡ p.name ++ codes "List" → (has_key t.names.keys count || has_key t.names.keys list) ≡ list_any (clash p) before
by_own p before t count list k e f g first second =
    ap₂ (λ a b. has_key t.names.keys a || has_key t.names.keys b) first second
    ∙ ap₂ (λ a b. a || b) (k.names (codes "Num" ++ p.name)) (k.names (p.name ++ codes "List"))
    ∙ sym (only_own p before t k e f ∙ of_list p before g)

-- one component more --------------------------------------------------------------------------------------------------

pub none_taken : (t : TakenNames) → t.names.keys ≡ [] → t.accessors.keys ≡ [] → AreTaken [] t.names.keys t.accessors.keys
none_taken t e f = record {
  names = λ n. ap (λ ks. has_key ks n) e;
  accessors = λ n. ap (λ ks. has_key ks n) f;
}

pub one_taken : (p : Component) (old new : TakenNames) (before : List Component) → AreTaken before old.names.keys old.accessors.keys
    → ((n : List ℕ) → has_key new.names.keys n ≡ (has_key old.names.keys n || bytes_eq n p.name)) → ((n : List ℕ) → has_key new.accessors.keys n ≡ (has_key old.accessors.keys n || takes p n))
    → AreTaken (before ++ p ∷ []) new.names.keys new.accessors.keys
one_taken p old new before k e f = record {
  names = λ n. e n ∙ ap₂ (λ a b. a || b) (k.names n) (sym (or_false (bytes_eq n p.name))) ∙ sym (list_any-append (λ q. bytes_eq n q.name) before (p ∷ []));
  accessors = λ n. f n ∙ ap₂ (λ a b. a || b) (k.accessors n) (sym (or_false (takes p n))) ∙ sym (list_any-append (λ q. takes q n) before (p ∷ []));
}

-- one that is no list
pub takes_none : (p : Component) (old : Bool) (n : List ℕ) → is_list p.shape ≡ false → old ≡ (old || takes p n)
takes_none p old n e = sym (ap (λ b. old || (b && (bytes_eq n (codes "Num" ++ p.name) || bytes_eq n (p.name ++ codes "List")))) e ∙ or_false old)

-- a list
pub takes_two : (p : Component) (old mid new : Bool) (n count list : List ℕ) → is_list p.shape ≡ true → count ≡ codes "Num" ++ p.name → list ≡ p.name ++ codes "List"
    → mid ≡ (old || bytes_eq n count) → new ≡ (mid || bytes_eq n list) → new ≡ (old || takes p n)
takes_two p old mid new n count list e first second f g =
    g ∙ ap (λ b. b || bytes_eq n list) f ∙ by old (bytes_eq n count) (bytes_eq n list)
    ∙ ap₂ (λ a b. old || (a || b)) (ap (bytes_eq n) first) (ap (bytes_eq n) second)
    ∙ ap (λ b. old || (b && (bytes_eq n (codes "Num" ++ p.name) || bytes_eq n (p.name ++ codes "List")))) (sym e)
  where
    by : (a b c : Bool) → ((a || b) || c) ≡ (a || (b || c))
    by true b c = refl
    by false b c = refl

-- names that come behind others -------------------------------------------------------------------------------------

pub begins_same : {A : Type 0} (xs : List A) → Begins xs xs
begins_same xs = take_all (length xs) xs (omega arith)

-- what begins with the one begins with what that begins with
pub begins_on : {A : Type 0} (xs ys zs : List A) → Begins xs ys → Begins ys zs → Begins xs zs
begins_on xs ys zs e f =
    let second : zs ≡ ys ++ drop (length ys) zs = sym (take-append-drop (length ys) zs) ∙ ap (λ ks. ks ++ drop (length ys) zs) f in
    let first : ys ≡ xs ++ drop (length xs) ys = sym (take-append-drop (length xs) ys) ∙ ap (λ ks. ks ++ drop (length xs) ys) e in
    ap (take (length xs)) (second ∙ ap (λ ks. ks ++ drop (length ys) zs) first ∙ append_assoc xs (drop (length xs) ys) (drop (length ys) zs))
    ∙ take_front xs (drop (length xs) ys ++ drop (length ys) zs)

pub begins_insert : {Z : Type 0} (keys new : List (String Z)) (text : String Z) → new ≡ insert_key string_eq keys text → Begins keys new
begins_insert keys new text e = ap (take (length keys)) e ∙ by (list_any (string_eq text) keys)
  where
    by : (s : Bool) → take (length keys) (if s then keys else keys ++ text ∷ []) ≡ keys
    by true = begins_same keys
    by false = take_front keys (text ∷ [])

-- all of a class ------------------------------------------------------------------------------------------------------

-- the component at a place
pub part_at : (parts : List Part) (i : ℕ) (p : Part) → i < length parts → p ≡ get_or parts i p → slice_get (map part_view parts) i ≡ Some (part_view p)
part_at parts i p less is = slice_get-map part_view parts i ∙ ap (option_map part_view) (slice_get_read parts (length parts) i p refl less is)

pub taken_here : (before : List Component) (parts : List Part) (i : ℕ) (p : Part) → i < length parts → p ≡ get_or parts
    i p → is_taken (before ++ map part_view (take i parts)) (part_view p) ≡ is_taken_at before (map part_view parts) i
taken_here before parts i p less is =
    ap (λ ps. is_taken (before ++ ps) (part_view p)) (sym (take-map part_view i parts))
    ∙ ap (λ o. elim o [ None ↦ false | Some q ↦ is_taken (before ++ take i (map part_view parts)) q ]) (sym (part_at parts i p less is))

-- those that are gone over, with one more
pub one_more : (before : List Component) (parts : List Part) (i : ℕ) (p : Part) → i < length parts → p ≡ get_or parts i
    p → (before ++ map part_view (take i parts)) ++ part_view p ∷ [] ≡ before ++ map part_view (take (i + 1) parts)
one_more before parts i p less is =
    append_assoc before (map part_view (take i parts)) (part_view p ∷ [])
    ∙ ap (λ ps. before ++ ps) (sym (map_more part_view parts i p less ∙ ap (λ q. map part_view (take i parts) ++ part_view q ∷ []) (sym is)))

below : (j i : ℕ) → j < i + 1 → ((j ≡ i) → ⊥) → j < i
below j i less other = elim (split j i) [
  | inl more ↦ more
  | inr rest ↦ absurd (other (same rest))
]
  where
    split : (j i : ℕ) → (j < i) ⊎ (i ≤ j)
    split j i = tested (nat_lt j i) refl
      where
        tested : (s : Bool) → nat_lt j i ≡ s → (j < i) ⊎ (i ≤ j)
        tested true e = inl (ltb-true j i e)
        tested false e = inr (ltb-false j i e)

    same : i ≤ j → j ≡ i
    same rest = omega (arith, less, rest)

-- one more is looked at
pub first_more : (test : ℕ → Bool) (i : ℕ) (r : Option ℕ) (b : Bool) → b ≡ test i → IsFirstBelow test i r → IsFirstBelow test (i + 1) (or_this r b i)
first_more test i (Some k) b e f = f
first_more test i None true e f = (sym e, f)
first_more test i None false e f = λ j less. by j (nat_eq j i) refl less
  where
    by : (j : ℕ) (s : Bool) → nat_eq j i ≡ s → j < i + 1 → test j ≡ false
    by j true g less = ap test (eqb-true j i g) ∙ sym e
    by j false g less = f j (by_less j g less)
      where
        by_less : (j : ℕ) → nat_eq j i ≡ false → j < i + 1 → j < i
        by_less j g less = let h : (j ≡ i) → ⊥ = λ same. true≢false (sym (eq-eqb j i same) ∙ g) in below j i less h

pub none_first : (before : List Component) (ps : List Component) → IsFirstBelow (is_taken_at before ps) 0 None
none_first before ps = λ j less. absurd (omega (arith, less))

-- no component stands behind the last one
pub first_of_all : (before : List Component) (parts : List Part) (i : ℕ) (r : Option ℕ) → length parts ≤ i
    → IsFirstBelow (is_taken_at before (map part_view parts)) i r → IsFirst (is_taken_at before (map part_view parts)) r
first_of_all before parts i (Some k) past f = f
first_of_all before parts i None past f = λ j. by j (nat_lt j i) refl
  where
    by : (j : ℕ) (s : Bool) → nat_lt j i ≡ s → is_taken_at before (map part_view parts) j ≡ false
    by j true e = f j (ltb-true j i e)
    by j false e =
        let beyond : length parts ≤ j = omega (arith, past, ltb-false j i e) in
        ap (λ o. elim o [ None ↦ false | Some q ↦ is_taken (before ++ take j (map part_view parts)) q ]) (slice_get-map part_view parts j ∙ ap (option_map part_view) (slice_get_past parts j beyond))

pub all_gone_over : (before : List Component) (parts : List Part) (i : ℕ) → length parts ≤ i → before ++ map part_view (take i parts) ≡ before ++ map part_view parts
all_gone_over before parts i past = ap (λ ps. before ++ map part_view ps) (take_all i parts past)
