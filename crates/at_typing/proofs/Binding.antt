-- The names that are bound, as a set and as a list.
use Rattle.std.proofs.Common.{◌≡◌, ℕ, ◌+◌, ◌<◌, ◌≤◌, length, drop, get_or, add-one, Bool, true, false, ◌||◌, not, List, [], ◌∷◌, ◌++◌, map, reverse, refl, ap, sym, ◌∙◌, Some, Result, Ok, Err, IfOk}
use Rattle.std.specs.Borrow.{Bor}
use Rattle.std.specs.List.{list_any}
use Rattle.std.specs.Str.{bytes_eq}
use Rattle.std.proofs.lemmas.List.{reverse-append}
use Rattle.std.proofs.lemmas.List.Sorted.{list_any-IsPermutation, IsPermutation-reverse}
use Rattle.std.proofs.Math.Seq.{drop-cons}
use Rattle.std.proofs.lemmas.List.{drop_all}
use Rattle.at_jrag.specs.declared.syntax.Expr.{Expr as ExprValue}
use Rattle.at_jrag.specs.View.{expr_view}
use Rattle.at_jrag.specs.Syntax.{to_exprs, DeclForm, Body}
use Rattle.at_jrag.specs.Syntax as written
use Rattle.at_typing.specs.Declaring.{is_bound_again, is_bound_among, is_repeated, index_names, param_names, body_in, binds_twice}
use Rattle.at_typing.specs.Bound.{bound_after}

any-map : {A B : Type 0} (p : B → Bool) (f : A → B) (xs : List A) → list_any p (map f xs) ≡ list_any (λ x. p (f x)) xs
any-map p f [] = refl
any-map p f (x ∷ xs) = ap (λ b. p (f x) || b) (any-map p f xs)

map-append : {A B : Type 0} (f : A → B) (xs ys : List A) → map f (xs ++ ys) ≡ map f xs ++ map f ys
map-append f [] ys = refl
map-append f (x ∷ xs) ys = ap (λ zs. f x ∷ zs) (map-append f xs ys)

-- a text is among the keys as it is among their texts, the last one first
pub any_key : (p : List ℕ → Bool) (keys : List (Bor (List ℕ))) → list_any (λ k. p k.now) keys ≡ list_any p (reverse (map (λ k. k.now) keys))
any_key p keys = sym (any-map p (λ (k : Bor (List ℕ)). k.now) keys)
    ∙ list_any-IsPermutation p (map (λ (k : Bor (List ℕ)). k.now) keys)
    (reverse (map (λ (k : Bor (List ℕ)). k.now) keys)) (IsPermutation-reverse (map (λ (k : Bor (List ℕ)). k.now) keys))

-- what is bound last stands first
pub key_behind : (keys : List (Bor (List ℕ))) (k : Bor (List ℕ)) → reverse (map (λ k. k.now) (keys ++ k ∷ [])) ≡ k.now ∷ reverse (map (λ k. k.now) keys)
key_behind keys k = ap reverse (map-append (λ (k : Bor (List ℕ)). k.now) keys (k ∷ [])) ∙ reverse-append (map (λ (k : Bor (List ℕ)). k.now) keys) (k.now ∷ [])

-- the same names are among both
abbrev pub AreSame : List (List ℕ) → List (List ℕ) → Type 0
AreSame ms ns = (w : List ℕ) → list_any (bytes_eq w) ms ≡ list_any (bytes_eq w) ns

pub same_more : (ms ns : List (List ℕ)) (n : List ℕ) → AreSame ms ns → AreSame (n ∷ ms) (n ∷ ns)
same_more ms ns n same w = ap (λ b. bytes_eq w n || b) (same w)

either : (a b c d : Bool) → a ≡ b → c ≡ d → (a || c) ≡ (b || d)
either a b c d h k = rw h (rw k refl)

-- what is bound again follows from what is among the names
mutual
  pub again_same : (ms ns : List (List ℕ)) (e : written.Expr) → AreSame ms ns → is_bound_again ms e ≡ is_bound_again ns e
  again_same ms ns (written.Number at n) same = refl
  again_same ms ns (written.TextLiteral at bytes) same = refl
  again_same ms ns (written.Truth at b) same = refl
  again_same ms ns (written.Null at) same = refl
  again_same ms ns (written.This at) same = refl
  again_same ms ns (written.Name at text) same = refl
  again_same ms ns (written.Call at name es) same = among_same ms ns es same
  again_same ms ns (written.CallOf at e name es) same = either _ _ _ _ (again_same ms ns e same) (among_same ms ns es same)
  again_same ms ns (written.Paren at e) same = again_same ms ns e same
  again_same ms ns (written.Negate at e) same = again_same ms ns e same
  again_same ms ns (written.Not at e) same = again_same ms ns e same
  again_same ms ns (written.Cast at class e) same = again_same ms ns e same
  again_same ms ns (written.InstanceOf at e behind class) same = again_same ms ns e same
  again_same ms ns (written.Binary at o between a b) same = either _ _ _ _ (again_same ms ns a same) (again_same ms ns b same)
  again_same ms ns (written.Choose at c behind a b) same = either _ _ _ _ (again_same ms ns c same) (either _ _ _ _ (again_same ms ns a same) (again_same ms ns b same))
  again_same ms ns (written.Fold at form name list body) same = either _ _ _ _ (again_same ms ns list same) (either
      _ _ _ _ (same name.text) (again_same (name.text ∷ ms) (name.text ∷ ns) body (same_more ms ns name.text same)))

  pub among_same : (ms ns : List (List ℕ)) (es : written.Exprs) → AreSame ms ns → is_bound_among ms es ≡ is_bound_among ns es
  among_same ms ns written.no_exprs same = refl
  among_same ms ns (written.expr e es) same = either _ _ _ _ (again_same ms ns e same) (among_same ms ns es same)

-- arguments one by one ------------------------------------------------------------------------------------------------

-- among the arguments from this position on
abbrev pub among_from : List (List ℕ) → List ExprValue → ℕ → Bool
among_from names es k = is_bound_among names (to_exprs (map expr_view (drop k es)))

pub among_more : (names : List (List ℕ)) (es : List ExprValue) (k : ℕ) (e : ExprValue) → k < length es → e
    ≡ get_or es k e → is_bound_again names (expr_view e) ≡ false → among_from names es k ≡ among_from names es (k + 1)
among_more names es k e less is none = rw (drop-cons es k e less, ← is) (rw none (rw add-one refl))

pub among_here : (names : List (List ℕ)) (es : List ExprValue) (k : ℕ) (e : ExprValue) → k < length es → e ≡ get_or es k e → is_bound_again names (expr_view e) ≡ true → among_from names es k ≡ true
among_here names es k e less is found = rw (drop-cons es k e less, ← is) (rw found refl)

pub among_end : (names : List (List ℕ)) (es : List ExprValue) (k : ℕ) → length es ≤ k → among_from names es k ≡ false
among_end names es k past = ap (λ xs. is_bound_among names (to_exprs (map expr_view xs))) (drop_all k es past)

-- what an equation binds ----------------------------------------------------------------------------------------------

swap : (a b c : Bool) → (a || (b || c)) ≡ (b || (a || c))
swap true true c = refl
swap true false c = refl
swap false b c = refl

behind : (p : List ℕ → Bool) (ns : List (List ℕ)) (n : List ℕ) (ms : List (List ℕ)) → list_any p (ns ++ n ∷ ms) ≡ (p n || list_any p (ns ++ ms))
behind p [] n ms = refl
behind p (m ∷ ns) n ms = ap (λ b. p m || b) (behind p ns n ms) ∙ swap (p m) (p n) (list_any p (ns ++ ms))

pub after_same : (ms ns : List (List ℕ)) → AreSame (bound_after ms ns) (ns ++ ms)
after_same ms [] w = refl
after_same ms (n ∷ ns) w = after_same (n ∷ ms) ns w ∙ behind (bytes_eq w) ns n ms

-- the names of the index and the parameters are bound, and then its body is looked at
pub binds_by_body : (form : DeclForm) (b : Body) (names : List (List ℕ)) (again : Bool)
    → is_repeated (index_names form) (param_names form) ≡ false → body_in form ≡ Some b → names
    ≡ bound_after (index_names form) (param_names form) → again ≡ is_bound_again names b.expr → again ≡ binds_twice form
binds_by_body form b names again once body is so =
    so ∙ ap (λ ns. is_bound_again ns b.expr) is ∙ again_same _ _ b.expr (after_same (index_names form) (param_names form)) ∙ rw once (rw body refl)

pub not_off : (b r : Bool) → b ≡ not r → b ≡ true → r ≡ false
not_off b true is h = absurd cc
not_off b false is h = refl

pub ok_also : {A E : Type 0} (P Q : A → Type 0) (r : Result A E) → IfOk r P → ((x : A) → P x → Q x) → IfOk r Q
ok_also P Q (Ok x) h also = also x h
ok_also P Q (Err e) h also = h
