-- The lists of the classes directly below others, as they grow.
use Rattle.std.proofs.Common.{◌≡◌, ℕ, zero, suc, ◌+◌, ◌<◌, List, [], ◌∷◌, ◌++◌, length, length-append, refl, ap, sym, ◌∙◌, subst, arith, Option, Some, None, true≢false}
use Rattle.std.specs.Prelude.{Bool, true, false, ◌||◌, ◌&&◌, nat_eq, nat_lt, slice_set, get_or, option_and_then, IfSome, Vec}
use Rattle.std.specs.Option.{option_eq}
use Rattle.std.proofs.lemmas.Bool.{eqb-true, ltb-true, ltb-false}
use Rattle.std.proofs.lemmas.List.Folds.{list_any-append}
use Rattle.std.proofs.lemmas.Option.{slice_get_past}
use Rattle.at_model.specs.Classes.{Classes, AreSound, parent_of}
use Rattle.at_complete.specs.Walks.{is_in}
use Rattle.at_complete.specs.Hierarchies.{is_child, listed_at}
use Rattle.at_complete.proofs.Climbing.{same, unlike, parent_within}

-- an empty list more
pub one_empty : {Z : Type 0} (lists : List (Vec ℕ Z)) (v : Vec ℕ Z) → v.items ≡ [] → ((c : ℕ) → listed_at lists c ≡ []) → (c : ℕ) → listed_at (lists ++ v ∷ []) c ≡ []
one_empty [] v none each zero = none
one_empty [] v none each (suc c) = refl
one_empty (w ∷ ws) v none each zero = each zero
one_empty (w ∷ ws) v none each (suc c) = one_empty ws v none (λ d. each (suc d)) c

apart : (a b : ℕ) → (a ≡ b → ⊥) → nat_eq a b ≡ false
apart a b other = by (nat_eq a b) refl
  where
    by : (t : Bool) → nat_eq a b ≡ t → t ≡ false
    by true e = absurd (other (eqb-true a b e))
    by false e = refl

both_suc : (a b : ℕ) → nat_eq (suc a) (suc b) ≡ nat_eq a b
both_suc a b = by (nat_eq a b) refl
  where
    by : (t : Bool) → nat_eq a b ≡ t → nat_eq (suc a) (suc b) ≡ t
    by true e = same (suc a) (suc b) (ap suc (eqb-true a b e))
    by false e = apart (suc a) (suc b) (λ f. unlike a b e (omega (arith, f)))

off : (b s t : Bool) → s ≡ false → b ≡ (b || (s && t))
off true s t e = refl
off false s t e = sym (ap (λ u. u && t) e)

-- one class more in one list
pub one_more : {Z : Type 0} (lists : List (Vec ℕ Z)) (p : ℕ) (v : Vec ℕ Z) (x : ℕ) → p < length lists
    → v.items ≡ listed_at lists p ++ x ∷ [] → (c d : ℕ)
    → is_in d (listed_at (slice_set lists p v) c) ≡ (is_in d (listed_at lists c) || (nat_eq c p && nat_eq d x))
one_more [] p v x less is c d = absurd (omega (arith, less))
one_more (w ∷ ws) zero v x less is zero d = ap (is_in d) is ∙ list_any-append (nat_eq d) w.items (x ∷ []) ∙ ap (λ b. is_in d w.items || b) (off (nat_eq d x))
  where
    off : (b : Bool) → (b || false) ≡ b
    off true = refl
    off false = refl
one_more (w ∷ ws) zero v x less is (suc c) d = off (is_in d (listed_at ws c)) (nat_eq (suc c) 0) (nat_eq d x) (apart (suc c) 0 (omega arith))
one_more (w ∷ ws) (suc p) v x less is zero d = off (is_in d w.items) (nat_eq 0 (suc p)) (nat_eq d x) (apart 0 (suc p) (omega arith))
one_more (w ∷ ws) (suc p) v x less is (suc c) d = one_more ws p v x (omega (arith, less)) is c d ∙ ap (λ b. is_in d (listed_at ws c) || (b && nat_eq d x)) (sym (both_suc c p))

same_either : (a b : ℕ) → nat_eq a b ≡ nat_eq b a
same_either a b = by (nat_eq a b) refl (nat_eq b a) refl
  where
    by : (p : Bool) → nat_eq a b ≡ p → (q : Bool) → nat_eq b a ≡ q → p ≡ q
    by true e true f = refl
    by false e false f = refl
    by true e false f = absurd (true≢false (sym (same b a (sym (eqb-true a b e))) ∙ f))
    by false e true f = absurd (true≢false (sym (same a b (sym (eqb-true b a f))) ∙ e))

-- a class whose superclass is that one, or that has none, is listed or not
pub listed_more : (classes : Classes) (i : ℕ) (o : Option ℕ) (before after : ℕ → ℕ → Bool) → o ≡ parent_of classes i
    → ((c d : ℕ) → before c d ≡ (nat_lt d i && is_child classes c d)) → ((c d : ℕ) → after c d ≡ (before c d || (option_eq nat_eq (Some c) o && nat_eq d i)))
    → (c d : ℕ) → after c d ≡ (nat_lt d (i + 1) && is_child classes c d)
listed_more classes i o before after is old new c d =
    new c d ∙ ap (λ b. b || (option_eq nat_eq (Some c) o && nat_eq d i)) (old c d) ∙ ap (λ p. (nat_lt d i && is_child classes c d) || (option_eq nat_eq (Some c) p && nat_eq d i)) is
    ∙ ap (λ b. (nat_lt d i && is_child classes c d) || b) (moved (nat_eq d i) refl)
    ∙ spread (nat_eq d i) (nat_lt d i) (is_child classes c d)
    ∙ ap (λ b. b && is_child classes c d) (sym (next (nat_eq d i) (nat_lt d i) (nat_lt d (i + 1)) refl refl refl))
  where
    flip : (o : Option ℕ) → option_eq nat_eq (Some c) o ≡ option_eq nat_eq o (Some c)
    flip None = refl
    flip (Some b) = same_either c b

    moved : (u : Bool) → nat_eq d i ≡ u → (option_eq nat_eq (Some c) (parent_of classes i) && u) ≡ (u && is_child classes c d)
    moved true x = on (option_eq nat_eq (Some c) (parent_of classes i)) ∙ flip (parent_of classes i) ∙ ap (λ z. option_eq nat_eq (parent_of classes z) (Some c)) (sym (eqb-true d i x))
      where
        on : (b : Bool) → (b && true) ≡ b
        on true = refl
        on false = refl
    moved false x = off (option_eq nat_eq (Some c) (parent_of classes i))
      where
        off : (b : Bool) → (b && false) ≡ false
        off true = refl
        off false = refl

    spread : (u v t : Bool) → ((v && t) || (u && t)) ≡ ((v || u) && t)
    spread true true true = refl
    spread true true false = refl
    spread true false t = refl
    spread false true true = refl
    spread false true false = refl
    spread false false t = refl

    next : (u v w : Bool) → nat_eq d i ≡ u → nat_lt d i ≡ v → nat_lt d (i + 1) ≡ w → w ≡ (v || u)
    next true true true x y z = refl
    next true false true x y z = refl
    next true v false x y z = absurd (omega (arith, ltb-false d (i + 1) z, eqb-true d i x))
    next false true true x y z = refl
    next false true false x y z = absurd (omega (arith, ltb-true d i y, ltb-false d (i + 1) z))
    next false false true x y z = absurd (omega (arith, unlike d i x, ltb-false d i y, ltb-true d (i + 1) z))
    next false false false x y z = refl

-- all of them are listed
pub listed_all : (classes : Classes) (n : ℕ) (listed : ℕ → ℕ → Bool) → n ≡ length classes
    → ((c d : ℕ) → listed c d ≡ (nat_lt d n && is_child classes c d)) → (c d : ℕ) → listed c d ≡ is_child classes c d
listed_all classes n listed count each c d = each c d ∙ by (nat_lt d n) refl
  where
    by : (b : Bool) → nat_lt d n ≡ b → (b && is_child classes c d) ≡ is_child classes c d
    by true e = refl
    by false e = sym (ap (λ o. option_eq nat_eq (option_and_then (λ k. k.parent) o) (Some c)) (slice_get_past classes d (omega (arith, ltb-false d n e, count))))

pub listed_next : (classes : Classes) (i j : ℕ) (o : Option ℕ) (before after : ℕ → ℕ → Bool) → j ≡ i → o ≡ parent_of classes j
    → ((c d : ℕ) → before c d ≡ (nat_lt d i && is_child classes c d)) → ((c d : ℕ) → after c d ≡ (before c d || (option_eq nat_eq (Some c) o && nat_eq d j)))
    → (c d : ℕ) → after c d ≡ (nat_lt d (i + 1) && is_child classes c d)
listed_next classes i j o before after e is old new =
    listed_more classes i o before after (is ∙ ap (parent_of classes) e) old (subst (λ z. (c d : ℕ) → after c d ≡ (before c d || (option_eq nat_eq (Some c) o && nat_eq d z))) e new)

pub none_listed : (classes : Classes) (c d : ℕ) (cs : List ℕ) → cs ≡ [] → is_in d cs ≡ (nat_lt d 0 && is_child classes c d)
none_listed classes c d cs none = ap (is_in d) none ∙ by (nat_lt d 0) refl
  where
    by : (b : Bool) → nat_lt d 0 ≡ b → false ≡ (nat_lt d 0 && is_child classes c d)
    by true e = absurd (omega (arith, ltb-true d 0 e))
    by false e = sym (ap (λ b. b && is_child classes c d) e)

pub parent_there : (classes : Classes) → AreSound classes → (j m : ℕ) (o : Option ℕ) → o ≡ parent_of classes j → m ≡ length classes → IfSome o (λ p. p < m)
parent_there classes sound j m None is all = tt
parent_there classes sound j m (Some p) is all = subst (λ n. p < n) (sym all) (parent_within classes sound j p (sym is))

-- with no superclass nothing is listed
pub listed_same : (lists : ℕ → ℕ → Bool) (class : ℕ) (o : Option ℕ) → o ≡ None → (c d : ℕ) → lists c d ≡ (lists c d || (option_eq nat_eq (Some c) o && nat_eq d class))
listed_same lists class o none c d = by (lists c d) ∙ ap (λ p. lists c d || (option_eq nat_eq (Some c) p && nat_eq d class)) (sym none)
  where
    by : (b : Bool) → b ≡ (b || false)
    by true = refl
    by false = refl

-- what one list more is, in the words of the code
pub listed_one : {Z : Type 0} (lists : List (Vec ℕ Z)) (p class : ℕ) (v : Vec ℕ Z) (o : Option ℕ) → o ≡ Some p → p < length lists → v.items ≡ listed_at lists p ++ class ∷ []
    → (c d : ℕ) → is_in d (listed_at (slice_set lists p v) c) ≡ (is_in d (listed_at lists c) || (option_eq nat_eq (Some c) o && nat_eq d class))
listed_one lists p class v o is less items c d = one_more lists p v class less items c d ∙ ap (λ q. is_in d (listed_at lists c) || (option_eq nat_eq (Some c) q && nat_eq d class)) (sym is)

read_list : {Z : Type 0} (lists : List (Vec ℕ Z)) (p : ℕ) (d : Vec ℕ Z) → p < length lists → (get_or lists p d).items ≡ listed_at lists p
read_list [] p d less = absurd (omega (arith, less))
read_list (w ∷ ws) zero d less = refl
read_list (w ∷ ws) (suc p) d less = read_list ws p d (omega (arith, less))

some_within : (o : Option ℕ) (p q m : ℕ) → IfSome o (λ x. x < m) → o ≡ Some q → p ≡ q → p < m
some_within o p q m less is e = subst (λ x. x < m) (sym e) (subst (λ x. IfSome x (λ y. y < m)) is less)

pub listed_put : {Z : Type 0} (lists : List (Vec ℕ Z)) (p q class : ℕ) (v w e : Vec ℕ Z) (o : Option ℕ)
    → IfSome o (λ x. x < length lists) → o ≡ Some q → p ≡ q → w ≡ get_or lists p e → v.items ≡ w.items ++ class ∷ []
    → (c d : ℕ) → is_in d (listed_at (slice_set lists p v) c) ≡ (is_in d (listed_at lists c) || (option_eq nat_eq (Some c) o && nat_eq d class))
listed_put {Z} lists p q class v w e o less is at' read pushed =
    let there = some_within o p q (length lists) less is at' in
    listed_one lists p class v o (is ∙ ap (λ x. Some x) (sym at')) there (pushed ∙ ap (λ (x : Vec ℕ Z). x.items ++ class ∷ []) read ∙ ap (λ xs. xs ++ class ∷ []) (read_list lists p e there))

pub one_empty_more : {Z : Type 0} (lists new : List (Vec ℕ Z)) (v : Vec ℕ Z) (i : ℕ) → new ≡ lists ++ v ∷ [] → v.items ≡
    [] → length lists ≡ i → ((c : ℕ) → listed_at lists c ≡ []) → (length new ≡ i + 1) × ((c : ℕ) → listed_at new c ≡ [])
one_empty_more {Z} lists new v i is none count each = (
  omega (arith, ap length is, length-append lists (v ∷ []), count),
  λ c. ap (λ (xs : List (Vec ℕ Z)). listed_at xs c) is ∙ one_empty lists v none each c,
)
