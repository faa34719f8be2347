-- The way up from a class: what is met on a way of any length is met within as many steps as there are classes.
use Rattle.std.proofs.Common.{◌≡◌, ℕ, zero, suc, ◌+◌, ◌<◌, ◌≤◌, ◌⊎◌, inl, inr, List, [], ◌∷◌, length, refl, ap, sym, ◌∙◌, subst, arith, Option, Some, None, true≢false}
use Rattle.std.specs.Prelude.{Bool, true, false, ◌||◌, nat_eq, option_and_then, slice_get, IfSome}
use Rattle.std.specs.List.{IsDistinct, AllByRecursion}
use Rattle.std.specs.Option.{option_or}
use Rattle.std.proofs.lemmas.Bool.{eq-eqb, eqb-true, or_parts, or_left, or_right}
use Rattle.std.proofs.lemmas.Option.{none-some, slice_get_within, get_or_from_slice_get}
use Rattle.std.proofs.lemmas.List.Elements.{All-get_or}
use Rattle.std.proofs.lemmas.Map.Keys.{IsDistinct-tail, IsDistinct-cons}
use Rattle.std.proofs.lemmas.Map.Steps.{length-le_from_distinct_below}
use Rattle.at_model.specs.Classes.{Classes, Class, AreSound, IsClassSound, chain, chain_within, parent_of, is_sub}
use Rattle.at_model.specs.Rules.{first_answer}
use Rattle.at_complete.specs.Walks.{is_in}

pub no_list : {A : Type 0} → (false ≡ true) → A
no_list e = absurd (true≢false (sym e))

pub same : (b c : ℕ) → b ≡ c → nat_eq b c ≡ true
same b c e = eq-eqb b c e

pub unlike : (b c : ℕ) → nat_eq b c ≡ false → b ≡ c → ⊥
unlike b c e f = true≢false (sym (same b c f) ∙ e)

-- the first one, or among the others
in_either : (b x : ℕ) (xs : List ℕ) → is_in b (x ∷ xs) ≡ true → (b ≡ x) ⊎ (is_in b xs ≡ true)
in_either b x xs e = by (nat_eq b x) refl
  where
    by : (t : Bool) → nat_eq b x ≡ t → (b ≡ x) ⊎ (is_in b xs ≡ true)
    by true f = inl (eqb-true b x f)
    by false f = inr (sym (ap (λ t. t || is_in b xs) f) ∙ e)

-- the classes from one class up to another one, both among them
abbrev WayUp : Classes → ℕ → ℕ → List ℕ → Type 0
WayUp classes c b [] = ⊥
WayUp classes c b (x ∷ []) = (x ≡ c) × (x ≡ b)
WayUp classes c b (x ∷ y ∷ ys) = (x ≡ c) × (parent_of classes c ≡ Some y) × WayUp classes y b (y ∷ ys)

front : (classes : Classes) (c b y : ℕ) (ys : List ℕ) → WayUp classes c b (y ∷ ys) → y ≡ c
front classes c b y [] w = w.0
front classes c b y (z ∷ zs) w = w.0

apart : (c : ℕ) (xs : List ℕ) → is_in c xs ≡ false → AllByRecursion (λ y. nat_eq c y ≡ false) xs
apart c [] e = tt
apart c (x ∷ xs) e = let (a, b) = or_parts (nat_eq c x) (is_in c xs) e in (a, apart c xs b)

-- the rest of a way from a class on it
from_there : (classes : Classes) (c b d : ℕ) (xs : List ℕ) → WayUp classes c b xs → IsDistinct nat_eq xs → is_in d xs ≡ true → (ys : List ℕ) × WayUp classes d b ys × IsDistinct nat_eq ys
from_there classes c b d [] w apart e = no_list e
from_there classes c b d (x ∷ []) w apart e = elim (in_either d x [] e) [ inl f ↦ (x ∷ [], (sym f, w.1), apart) | inr f ↦ no_list f ]
from_there classes c b d (x ∷ y ∷ ys) w apart e = elim (in_either d x (y ∷ ys) e) [
  | inl f ↦ (x ∷ y ∷ ys, (sym f, ap (parent_of classes) (f ∙ w.0) ∙ w.1, w.2), apart)
  | inr f ↦ from_there classes y b d (y ∷ ys) w.2 (IsDistinct-tail nat_eq x (y ∷ ys) apart) f
]

further : (classes : Classes) (c p b : ℕ) → parent_of classes c ≡ Some p → (ys : List ℕ) × WayUp classes p b ys × IsDistinct nat_eq ys → (xs : List ℕ) × WayUp classes c b xs × IsDistinct nat_eq xs
further classes c p b up ([], w, d) = absurd w
further classes c p b up (y ∷ ys, w, d) = by (is_in c (y ∷ ys)) refl
  where
    by : (t : Bool) → is_in c (y ∷ ys) ≡ t → (xs : List ℕ) × WayUp classes c b xs × IsDistinct nat_eq xs
    by true e = from_there classes p b c (y ∷ ys) w d e
    by false e =
        let there = front classes p b y ys w in
        (c ∷ y ∷ ys, (refl, up ∙ ap Some (sym there), subst (λ z. WayUp classes z b (y ∷ ys)) (sym there) w), IsDistinct-cons nat_eq c (y ∷ ys) (apart c (y ∷ ys) e) d)

above_it : (classes : Classes) (c b m : ℕ) → ((p : ℕ) → is_in b (chain_within m classes (Some p)) ≡ true → (ys : List ℕ) × WayUp classes p b ys × IsDistinct nat_eq ys)
    → (o : Option ℕ) → parent_of classes c ≡ o → is_in b (chain_within m classes o) ≡ true → (xs : List ℕ) × WayUp classes c b xs × IsDistinct nat_eq xs
above_it classes c b zero rest None up f = no_list f
above_it classes c b (suc m) rest None up f = no_list f
above_it classes c b m rest (Some p) up f = further classes c p b up (rest p f)

-- a way on which no class is met twice
simple : (classes : Classes) (m c b : ℕ) → is_in b (chain_within m classes (Some c)) ≡ true → (xs : List ℕ) × WayUp classes c b xs × IsDistinct nat_eq xs
unfolding IsDistinct
simple classes zero c b e = no_list e
simple classes (suc m) c b e = elim (in_either b c (chain_within m classes (parent_of classes c)) e) [
  | inl f ↦ (c ∷ [], (refl, sym f), IsDistinct-cons nat_eq c [] tt tt)
  | inr f ↦ above_it classes c b m (λ p g. simple classes m p b g) (parent_of classes c) refl f
]

pub child_within : (classes : Classes) (c p : ℕ) → parent_of classes c ≡ Some p → c < length classes
child_within classes c p up = by (slice_get classes c) refl
  where
    by : (o : Option Class) → slice_get classes c ≡ o → c < length classes
    by None e = absurd (none-some p (sym (ap (option_and_then (λ k. k.parent)) e) ∙ up))
    by (Some k) e = slice_get_within classes c k e

pub parent_within : (classes : Classes) → AreSound classes → (c p : ℕ) → parent_of classes c ≡ Some p → p < length classes
parent_within classes sound c p up = by (slice_get classes c) refl
  where
    by : (o : Option Class) → slice_get classes c ≡ o → p < length classes
    by None e = absurd (none-some p (sym (ap (option_and_then (λ k. k.parent)) e) ∙ up))
    by (Some k) e =
        let there = get_or_from_slice_get classes c k k e in
        let whole = subst (IsClassSound (length classes)) there (All-get_or (IsClassSound (length classes)) classes c k (slice_get_within classes c k e) sound.each) in
        subst (λ o. IfSome o (λ b. b < length classes)) (sym (ap (option_and_then (λ k. k.parent)) e) ∙ up) whole.parent

way_within : (classes : Classes) → AreSound classes → (c b q : ℕ) (xs : List ℕ) → c < length classes → WayUp classes c b xs → is_in q xs ≡ true → q < length classes
way_within classes sound c b q [] less w e = no_list e
way_within classes sound c b q (x ∷ []) less w e = elim (in_either q x [] e) [ inl f ↦ subst (λ z. z < length classes) (sym (f ∙ w.0)) less | inr f ↦ no_list f ]
way_within classes sound c b q (x ∷ y ∷ ys) less w e = elim (in_either q x (y ∷ ys) e) [
  | inl f ↦ subst (λ z. z < length classes) (sym (f ∙ w.0)) less
  | inr f ↦ way_within classes sound y b q (y ∷ ys) (parent_within classes sound c y w.1) w.2 f
]

on_chain : (classes : Classes) (c b : ℕ) (xs : List ℕ) (m : ℕ) → WayUp classes c b xs → length xs ≤ m → is_in b (chain_within m classes (Some c)) ≡ true
on_chain classes c b [] m w le = absurd w
on_chain classes c b (x ∷ xs) zero w le = absurd (omega (arith, le))
on_chain classes c b (x ∷ []) (suc m) w le = or_left (nat_eq b c) (is_in b (chain_within m classes (parent_of classes c))) (same b c (sym w.1 ∙ w.0))
on_chain classes c b (x ∷ y ∷ ys) (suc m) w le =
    or_right (nat_eq b c) (is_in b (chain_within m classes (parent_of classes c))) (ap (λ o. is_in b (chain_within m classes o)) w.1 ∙ on_chain classes y b (y ∷ ys) m w.2 (omega (arith, le)))

-- what is met on a way of any length is above
pub within : (classes : Classes) → AreSound classes → (c b m : ℕ) → c < length classes → is_in b (chain_within m classes (Some c)) ≡ true → is_sub classes c b ≡ true
unfolding chain
within classes sound c b m less e =
    let (xs, w, d) = simple classes m c b e in
    on_chain classes c b xs (length classes) w (length-le_from_distinct_below xs (length classes) d (λ q f. way_within classes sound c b q xs less w f))

longer : (classes : Classes) (b k l : ℕ) → k ≤ l → (o : Option ℕ) → is_in b (chain_within k classes o) ≡ true → is_in b (chain_within l classes o) ≡ true
longer classes b zero l le o e = no_list e
longer classes b (suc k) zero le o e = absurd (omega (arith, le))
longer classes b (suc k) (suc l) le None e = no_list e
longer classes b (suc k) (suc l) le (Some c) e = elim (in_either b c (chain_within k classes (parent_of classes c)) e) [
  | inl f ↦ or_left (nat_eq b c) (is_in b (chain_within l classes (parent_of classes c))) (same b c f)
  | inr f ↦ or_right (nat_eq b c) (is_in b (chain_within l classes (parent_of classes c))) (longer classes b k l (omega (arith, le)) (parent_of classes c) f)
]

joined : (classes : Classes) (a b m k l : ℕ) → m + k ≤ l → (o : Option ℕ) → is_in b (chain_within m classes o) ≡ true
    → is_in a (chain_within k classes (Some b)) ≡ true → is_in a (chain_within l classes o) ≡ true
joined classes a b zero k l le o e f = no_list e
joined classes a b (suc m) k zero le o e f = absurd (omega (arith, le))
joined classes a b (suc m) k (suc l) le None e f = no_list e
joined classes a b (suc m) k (suc l) le (Some c) e f = elim (in_either b c (chain_within m classes (parent_of classes c)) e) [
  | inl g ↦ longer classes a k (suc l) (omega (arith, le)) (Some c) (subst (λ z. is_in a (chain_within k classes (Some z)) ≡ true) g f)
  | inr g ↦ or_right (nat_eq a c) (is_in a (chain_within l classes (parent_of classes c))) (joined classes a b m k l (omega (arith, le)) (parent_of classes c) g f)
]

-- each class is below itself
pub sub_itself : (classes : Classes) (c : ℕ) → c < length classes → is_sub classes c c ≡ true
unfolding chain
sub_itself classes c less = on_chain classes c c (c ∷ []) (length classes) (refl, refl) (omega (arith, less))

-- a class below one is below what is above it
pub sub_above : (classes : Classes) → AreSound classes → (c b a : ℕ) → c < length classes → is_sub classes c b ≡ true → is_sub classes b a ≡ true → is_sub classes c a ≡ true
unfolding chain
sub_above classes sound c b a less e f = within classes sound c a (length classes + length classes) less
    (joined classes a b (length classes) (length classes) (length classes + length classes) (omega arith) (Some c) e f)

-- a class is below its superclass
pub sub_parent : (classes : Classes) → AreSound classes → (c p : ℕ) → parent_of classes c ≡ Some p → is_sub classes c p ≡ true
sub_parent classes sound c p up = within classes sound c p 2 (child_within classes c p up) (on_chain classes c p (c ∷ p ∷ []) 2 (refl, up, (refl, refl)) (omega arith))

-- one step up
pub sub_split : (classes : Classes) → AreSound classes → (c b : ℕ) → is_sub classes c b ≡ true → (b ≡ c) ⊎ ((p : ℕ) × (parent_of classes c ≡ Some p) × (is_sub classes p b ≡ true))
unfolding chain
sub_split classes sound c b e = by (simple classes (length classes) c b e)
  where
    by : (xs : List ℕ) × WayUp classes c b xs × IsDistinct nat_eq xs → (b ≡ c) ⊎ ((p : ℕ) × (parent_of classes c ≡ Some p) × (is_sub classes p b ≡ true))
    by ([], w, d) = absurd w
    by (x ∷ [], w, d) = inl (sym w.1 ∙ w.0)
    by (x ∷ y ∷ ys, w, d) = inr (y, w.1, within classes sound y b (length (y ∷ ys)) (parent_within classes sound c y w.1) (on_chain classes y b (y ∷ ys) (length (y ∷ ys)) w.2 (omega arith)))

-- what a class has, and each class has whose superclass has it, each class below has
pub descends : (classes : Classes) (M : ℕ → Type 0) → ((p c : ℕ) → parent_of classes c ≡ Some p → M p → M c) → (c b : ℕ) → is_sub classes c b ≡ true → M b → M c
unfolding chain
descends classes M down c b e has = let (xs, w, d) = simple classes (length classes) c b e in along c xs w
  where
    along : (e : ℕ) (xs : List ℕ) → WayUp classes e b xs → M e
    along e [] w = absurd w
    along e (x ∷ []) w = subst M (sym w.1 ∙ w.0) has
    along e (x ∷ y ∷ ys) w = down y e w.1 (along y (y ∷ ys) w.2)

-- what a class has, and the superclass of each class has that has it, each class above has
pub ascends : (classes : Classes) (M : ℕ → Type 0) → ((p c : ℕ) → parent_of classes c ≡ Some p → M c → M p) → (c b : ℕ) → is_sub classes c b ≡ true → M c → M b
unfolding chain
ascends classes M up c b e has = let (xs, w, d) = simple classes (length classes) c b e in along c xs w has
  where
    along : (e : ℕ) (xs : List ℕ) → WayUp classes e b xs → M e → M b
    along e [] w m = absurd w
    along e (x ∷ []) w m = subst M (sym w.0 ∙ w.1) m
    along e (x ∷ y ∷ ys) w m = along y (y ∷ ys) w.2 (up y e w.1 m)

no_answers : {B : Type 0} (f : ℕ → Option B) (y : ℕ) (ys : List ℕ) (o : Option B) → f y ≡ o → first_answer f (y ∷ ys) ≡ None → (f y ≡ None) × (first_answer f ys ≡ None)
no_answers f y ys (Some b) h e = absurd (none-some b (sym (sym (ap (λ o. option_or o (first_answer f ys)) h) ∙ e)))
no_answers f y ys None h e = (h, sym (ap (λ o. option_or o (first_answer f ys)) h) ∙ e)

-- no class on the way up has an answer exactly where none is the first
pub none_each : {B : Type 0} (f : ℕ → Option B) (xs : List ℕ) → first_answer f xs ≡ None → (x : ℕ) → is_in x xs ≡ true → f x ≡ None
none_each f [] e x g = no_list g
none_each f (y ∷ ys) e x g =
    let parts = no_answers f y ys (f y) refl e in
    elim (in_either x y ys g) [ inl i ↦ ap f i ∙ parts.0 | inr i ↦ none_each f ys parts.1 x i ]

pub each_none : {B : Type 0} (f : ℕ → Option B) (xs : List ℕ) → ((x : ℕ) → is_in x xs ≡ true → f x ≡ None) → first_answer f xs ≡ None
each_none f [] each = refl
each_none f (y ∷ ys) each =
    ap (λ o. option_or o (first_answer f ys)) (each y (or_left (nat_eq y y) (is_in y ys) (same y y refl)))
    ∙ each_none f ys (λ x e. each x (or_right (nat_eq x y) (is_in x ys) e))
