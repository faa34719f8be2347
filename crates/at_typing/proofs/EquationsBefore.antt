-- Equations that were met, by their numbers and by their words.
use Rattle.std.proofs.Common.{◌≡◌, ℕ, ◌+◌, ◌<◌, List, [], ◌∷◌, ◌++◌, subst, length, take, get_or, map, refl, ap, sym, ◌∙◌, arith, Option, Some, None, true≢false}
use Rattle.std.specs.Prelude.{Bool, true, false, ◌&&◌, ◌||◌, not, nat_eq, cond, if◌then◌else◌, All}
use Rattle.std.specs.Borrow.{Bor}
use Rattle.std.specs.List.{list_any}
use Rattle.std.specs.Str.{bytes_eq}
use Rattle.std.proofs.lemmas.List.{map-append, take_more, take-map}
use Rattle.std.proofs.lemmas.List.Elements.{All-tail, All-take}
use Rattle.at_jrag.specs.Syntax.{Word}
use Rattle.at_typing.specs.Declaring.{is_same_equation, is_same_getter, name_text}
use Rattle.at_typing.specs.EquationKeys.{is_own, own_keys, is_own_key, getter_of, inherited_keys, inherited_keys_with, is_inherited_key, is_there, key_view, has_equation, HasEquations, AddsEquation}
use Rattle.at_typing.specs.Numbering.{numbered_view, same_class, AreAlike}
use Rattle.at_typing.specs.declared.checks.equations.Before.{Before}
use Rattle.at_typing.specs.declared.numbered.NamedClass.{NamedClass}
use Rattle.at_typing.specs.declared.numbered.NamedClass.TheVariants.{Known, Unknown}
use Rattle.at_typing.specs.declared.numbered.Numbered.{Numbered as NumberedValue}
use Rattle.at_typing.specs.contracts.numbered.NamedClassPartialEq.TheImpl.{ghosts}
use Rattle.at_class.proofs.Firsts.{list_any-map}
use Rattle.at_model.proofs.Options.{and_false}

-- the test of the code
pub class_eq : (c b : NamedClass) → ghosts.eq c b ≡ same_class c b
class_eq (Known c) (Known b) = refl
class_eq (Known c) (Unknown v) = refl
class_eq (Unknown u) (Known b) = refl
class_eq (Unknown u) (Unknown v) = refl

pub list_any-same : {A : Type 0} (p q : A → Bool) (xs : List A) → ((x : A) → p x ≡ q x) → list_any p xs ≡ list_any q xs
list_any-same p q [] same = refl
list_any-same p q (x ∷ xs) same = ap (λ b. b || list_any p xs) (same x) ∙ ap (λ b. q x || b) (list_any-same p q xs same)

not_false : (b : Bool) → true ≡ not b → b ≡ false
not_false false is = refl
not_false true is = is

-- one that is new is added last
pub own_more : (d : NumberedValue) (p : NamedClass × ℕ → Bool) (keys new : List (NamedClass × ℕ)) → is_own d ≡ true
    → true ≡ not (list_any p keys) → new ≡ (if list_any p keys then keys else keys ++ (d.class, d.name) ∷ [])
    → new ≡ keys ++ own_keys (d ∷ [])
own_more d p keys new own absent is = is ∙ rw (not_false (list_any p keys) absent) refl ∙ ap (λ b. keys ++ cond b ((d.class, d.name) ∷ []) []) (sym own)

pub own_new : (d : NumberedValue) (p : NamedClass × ℕ → Bool) (keys : List (NamedClass × ℕ)) (is_new : Bool)
    → is_own d ≡ true → ((k : NamedClass × ℕ) → p k ≡ is_own_key d k) → is_new ≡ not (list_any p keys)
    → is_new ≡ not (is_own d && list_any (is_own_key d) keys)
own_new d p keys is_new own same is = is ∙ ap not (list_any-same p (is_own_key d) keys same ∙ ap (λ b. b && list_any (is_own_key d) keys) (sym own))

pub inherited_new : (d : NumberedValue) (g : Word) (text : List ℕ) (p : NamedClass × Bor (List ℕ) × ℕ → Bool)
    (keys : List (NamedClass × Bor (List ℕ) × ℕ)) (is_new : Bool) → getter_of d ≡ Some g → text ≡ g.text
    → ((k : NamedClass × Bor (List ℕ) × ℕ) → p k ≡ ((same_class d.class k.0 && bytes_eq text k.1.now) && nat_eq d.name
    k.2)) → is_new ≡ not (list_any p keys) → is_new ≡ not (is_there (map key_view keys) d (getter_of d))
inherited_new d g text p keys is_new getter is same new =
    new ∙ ap not (
    list_any-same p (λ k. is_inherited_key d g (key_view k)) keys (λ k. same k ∙ ap (λ t. (same_class d.class k.0 && bytes_eq t k.1.now) && nat_eq d.name k.2) is)
    ∙ sym (list_any-map (is_inherited_key d g) key_view keys)
    ∙ ap (is_there (map key_view keys) d) (sym getter))

pub inherited_more : (d : NumberedValue) (g : Word) (text : Bor (List ℕ)) (p : NamedClass × Bor (List ℕ) × ℕ → Bool)
    (keys new : List (NamedClass × Bor (List ℕ) × ℕ)) → getter_of d ≡ Some g → text.now ≡ g.text
    → true ≡ not (list_any p keys)
    → new ≡ (if list_any p keys then keys else keys ++ (d.class, text, d.name) ∷ []) → map key_view new ≡ map key_view keys ++ inherited_keys (d ∷ [])
inherited_more d g text p keys new getter is absent added =
    ap (map key_view) (added ∙ rw (not_false (list_any p keys) absent) refl)
    ∙ map-append key_view keys ((d.class, text, d.name) ∷ [])
    ∙ ap (λ t. map key_view keys ++ (d.class, t, d.name) ∷ []) is
    ∙ ap (λ o. map key_view keys ++ inherited_keys_with [] d o) (sym getter)

own_keys-append : (xs ys : List NumberedValue) → own_keys (xs ++ ys) ≡ own_keys xs ++ own_keys ys
own_keys-append [] ys = refl
own_keys-append (x ∷ xs) ys = by (is_own x) (own_keys-append xs ys)
  where
    by : (b : Bool) → own_keys (xs ++ ys) ≡ own_keys xs ++ own_keys ys → cond b ((x.class, x.name) ∷ own_keys
        (xs ++ ys)) (own_keys (xs ++ ys)) ≡ cond b ((x.class, x.name) ∷ own_keys xs) (own_keys xs) ++ own_keys ys
    by true rest = ap (λ ks. (x.class, x.name) ∷ ks) rest
    by false rest = rest

inherited_keys-append : (xs ys : List NumberedValue) → inherited_keys (xs ++ ys) ≡ inherited_keys xs ++ inherited_keys ys
inherited_keys-append [] ys = refl
inherited_keys-append (x ∷ xs) ys = by (getter_of x) (inherited_keys-append xs ys)
  where
    by : (o : Option Word) → inherited_keys (xs ++ ys) ≡ inherited_keys xs ++ inherited_keys ys → inherited_keys_with
        (inherited_keys (xs ++ ys)) x o ≡ inherited_keys_with (inherited_keys xs) x o ++ inherited_keys ys
    by None rest = rest
    by (Some g) rest = ap (λ ks. (x.class, g.text, x.name) ∷ ks) rest

one_more : {A : Type 0} (xs : List A) (k : ℕ) (x : A) → k < length xs → x ≡ get_or xs k x → take (k + 1) xs ≡ take k xs ++ x ∷ []
one_more xs k x less is = take_more xs k x less ∙ ap (λ y. take k xs ++ y ∷ []) (sym is)

own_keys_more : (xs : List NumberedValue) (k : ℕ) (x : NumberedValue) (keys new : List (NamedClass × ℕ)) → k < length xs
    → x ≡ get_or xs k x → keys ≡ own_keys (take k xs) → new ≡ keys ++ own_keys (x ∷ [])
    → new ≡ own_keys (take (k + 1) xs)
own_keys_more xs k x keys new less is so_far added = added ∙ ap (λ ks. ks ++ own_keys (x ∷ [])) so_far ∙ sym (own_keys-append (take k xs) (x ∷ [])) ∙ ap own_keys (sym (one_more xs k x less is))

inherited_keys_more : (xs : List NumberedValue) (k : ℕ) (x : NumberedValue) (keys new : List (NamedClass × List ℕ × ℕ))
    → k < length xs → x ≡ get_or xs k x → keys ≡ inherited_keys (take k xs) → new ≡ keys ++ inherited_keys (x ∷ [])
    → new ≡ inherited_keys (take (k + 1) xs)
inherited_keys_more xs k x keys new less is so_far added = added ∙ ap (λ ks. ks ++ inherited_keys (x ∷ [])) so_far
    ∙ sym (inherited_keys-append (take k xs) (x ∷ [])) ∙ ap inherited_keys (sym (one_more xs k x less is))

-- by words ------------------------------------------------------------------------------------------------------------

shuffle : (p q l m : Bool) → ((p || q) || (l || m)) ≡ ((p || l) || (q || m))
shuffle true q l m = refl
shuffle false true true m = refl
shuffle false true false m = refl
shuffle false false l m = refl

pub list_any-or : {A : Type 0} (p q : A → Bool) (xs : List A) → list_any (λ x. p x || q x) xs ≡ (list_any p xs || list_any q xs)
list_any-or p q [] = refl
list_any-or p q (x ∷ xs) = ap (λ b. (p x || q x) || b) (list_any-or p q xs) ∙ shuffle (p x) (q x) (list_any p xs) (list_any q xs)

spread : (t x y : Bool) → (t && (x || y)) ≡ ((t && x) || (t && y))
spread true x y = refl
spread false x y = refl

own_step : (od oe t R r : Bool) → R ≡ (od && r) → ((t && (od && oe)) || R) ≡ (od && cond oe (t || r) r)
own_step true true true R r is = refl
own_step true true false R r is = is
own_step true false true R r is = is
own_step true false false R r is = is
own_step false oe true R r is = is
own_step false oe false R r is = is

-- the same class and name
abbrev pub is_alike : NumberedValue → NumberedValue → Bool
is_alike d e = same_class d.class e.class && nat_eq d.name e.name

own_there : (d : NumberedValue) (xs : List NumberedValue) → list_any (λ e. is_alike d e && (is_own d && is_own e)) xs ≡ (is_own d && list_any (is_own_key d) (own_keys xs))
own_there d [] = by (is_own d)
  where
    by : (b : Bool) → false ≡ (b && false)
    by true = refl
    by false = refl
own_there d (e ∷ es) = own_step (is_own d) (is_own e) (is_alike d e) _ (list_any (is_own_key d) (own_keys es)) (own_there d es) ∙ ap (λ b. is_own d && b) (by (is_own e))
  where
    by : (b : Bool) → cond b (is_alike d e || list_any (is_own_key d) (own_keys es)) (list_any (is_own_key d)
        (own_keys es)) ≡ list_any (is_own_key d) (cond b ((e.class, e.name) ∷ own_keys es) (own_keys es))
    by true = refl
    by false = refl

turn : (a n b : Bool) → ((a && n) && b) ≡ ((a && b) && n)
turn false n b = refl
turn true true true = refl
turn true true false = refl
turn true false true = refl
turn true false false = refl

inherited_there : (d : NumberedValue) (o : Option Word) (xs : List NumberedValue) → list_any (λ e. is_alike d e && is_same_getter o (getter_of e)) xs ≡ is_there (inherited_keys xs) d o
inherited_there d None [] = refl
inherited_there d None (e ∷ es) = ap (λ b. b || list_any (λ e. is_alike d e && is_same_getter None (getter_of e)) es) (and_false (is_alike d e)) ∙ inherited_there d None es
inherited_there d (Some g) [] = refl
inherited_there d (Some g) (e ∷ es) = by (getter_of e) (inherited_there d (Some g) es)
  where
    by : (o : Option Word) → list_any (λ e. is_alike d e && is_same_getter (Some g) (getter_of e)) es ≡ is_there (inherited_keys es) d (Some g)
        → ((is_alike d e && is_same_getter (Some g) o) || list_any (λ e. is_alike d e && is_same_getter (Some g) (getter_of e)) es) ≡ is_there (inherited_keys_with (inherited_keys es) e o) d (Some g)
    by None rest = ap (λ b. b || list_any (λ e. is_alike d e && is_same_getter (Some g) (getter_of e)) es) (and_false (is_alike d e)) ∙ rest
    by (Some h) rest = ap (λ b. b || list_any (λ e. is_alike d e && is_same_getter (Some g) (getter_of e)) es)
        (turn (same_class d.class e.class) (nat_eq d.name e.name) (bytes_eq g.text h.text))
        ∙ ap (λ b. is_inherited_key d g (e.class, h.text, e.name) || b) rest

by_numbers : (d e : NumberedValue) → AreAlike d e → is_same_equation (numbered_view d) (numbered_view e)
    ≡ ((is_alike d e && (is_own d && is_own e)) || (is_alike d e && is_same_getter (getter_of d) (getter_of e)))
by_numbers d e alike =
    ap (λ b. (b && bytes_eq (name_text (numbered_view d)) (name_text (numbered_view e))) && ((is_own d && is_own e) || is_same_getter (getter_of d) (getter_of e))) (sym alike.class)
    ∙ ap (λ b. (same_class d.class e.class && b) && ((is_own d && is_own e) || is_same_getter (getter_of d) (getter_of e))) (sym alike.name)
    ∙ spread (is_alike d e) (is_own d && is_own e) (is_same_getter (getter_of d) (getter_of e))

pub list_any-where : {A : Type 0} (P : A → Type 0) (p q : A → Bool) (xs : List A) → All P xs → ((x : A) → P x → p x ≡ q x) → list_any p xs ≡ list_any q xs
list_any-where P p q [] all same = refl
list_any-where P p q (x ∷ xs) all same = ap (λ b. b || list_any p xs) (same x (all 0 x (omega arith))) ∙ ap (λ b. q x || b) (list_any-where P p q xs (All-tail P x xs all) same)

-- an equation is among those before
pub same_before : (d : NumberedValue) (xs : List NumberedValue) → All (AreAlike d) xs
    → list_any (is_same_equation (numbered_view d)) (map numbered_view xs)
    ≡ ((is_own d && list_any (is_own_key d) (own_keys xs)) || is_there (inherited_keys xs) d (getter_of d))
same_before d xs all =
    list_any-map (is_same_equation (numbered_view d)) numbered_view xs
    ∙ list_any-where (AreAlike d) (λ e. is_same_equation (numbered_view d) (numbered_view e))
    (λ e. (is_alike d e && (is_own d && is_own e)) || (is_alike d e && is_same_getter (getter_of d) (getter_of e)))
    xs all (by_numbers d)
    ∙ list_any-or (λ e. is_alike d e && (is_own d && is_own e)) (λ e. is_alike d e && is_same_getter (getter_of d) (getter_of e)) xs
    ∙ ap (λ b. b || list_any (λ e. is_alike d e && is_same_getter (getter_of d) (getter_of e)) xs) (own_there d xs)
    ∙ ap (λ b. (is_own d && list_any (is_own_key d) (own_keys xs)) || b) (inherited_there d (getter_of d) xs)

-- one is there where its equation is
pub before : (xs : List NumberedValue) (i : ℕ) (d : NumberedValue) → i < length xs → d ≡ get_or xs i d → All (λ e. All (AreAlike e) xs) xs → (b : Before) → HasEquations (take i xs) b
    → list_any (is_same_equation (numbered_view d)) (take i (map numbered_view xs)) ≡ has_equation b d
before xs i d less is alike b has =
    ap (list_any (is_same_equation (numbered_view d))) (take-map numbered_view i xs)
    ∙ same_before d (take i xs) (All-take (AreAlike d) i xs (subst (λ e. All (AreAlike e) xs) (sym is) (alike i d less)))
    ∙ ap (λ ks. (is_own d && list_any (is_own_key d) ks) || is_there (inherited_keys (take i xs)) d (getter_of d)) (sym has.own)
    ∙ ap (λ ks. (is_own d && list_any (is_own_key d) b.own.keys) || is_there ks d (getter_of d)) (sym has.inherited)

pub one_equation_more : (xs : List NumberedValue) (k : ℕ) (x : NumberedValue) (old new : Before) → k < length xs
    → x ≡ get_or xs k x → HasEquations (take k xs) old → AddsEquation x old new → HasEquations (take (k + 1) xs) new
one_equation_more xs k x old new less is has adds = record {
  own = own_keys_more xs k x old.own.keys new.own.keys less is has.own adds.own;
  inherited = inherited_keys_more xs k x (map key_view old.inherited.keys) (map key_view new.inherited.keys) less is has.inherited adds.inherited;
}

-- the answers of the two kinds are that of both
pub had : (x y a : Bool) → a ≡ not x → a ≡ false → false ≡ not (x || y)
had true y a is and_false = refl
had false y a is and_false = absurd (true≢false (sym is ∙ and_false))

pub had_if : (x y a b : Bool) → a ≡ not x → a ≡ true → b ≡ not y → b ≡ not (x || y)
had_if x y a b is on so = so ∙ ap (λ z. not (z || y)) (sym (not_false x (sym on ∙ is)))

pub is_had : (a b : Bool) → a ≡ not b → a ≡ false → b ≡ true
is_had a true is and_false = refl
is_had a false is and_false = sym and_false ∙ is

pub is_missing : (a b : Bool) → a ≡ not b → a ≡ true → b ≡ false
is_missing a b is on = not_false b (sym on ∙ is)
