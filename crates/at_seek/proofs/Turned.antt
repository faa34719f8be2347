-- Bodies that are turned.
use Rattle.std.proofs.Common.{◌≡◌, ◌<◌, ◌≤◌, ℕ, suc, List, [], ◌∷◌, ◌++◌, length, take, get_or, set, ap, sym, subst, ◌∙◌, arith, Vec}
use Rattle.std.proofs.Math.Seq.{take-append_seam}
use Rattle.std.specs.Global.{Global}
use Rattle.at_model.specs.Bodies.{Expr, Exprs, no_exprs, expr, Exists, First, SeekAny, SeekFirst}
use Rattle.at_model.specs.Kinds.{ScopeKinds, bound_kinds}
use Rattle.at_model.specs.Rules.{Rules}
use Rattle.at_class.specs.Keys.{key_view}
use Rattle.at_rules.specs.Bodies.{bodies_view, body_view, row_view, sought_view}
use Rattle.at_rules.specs.declared.body.Body.{Body, items_hidden-the_row-Body-0}
use Rattle.at_rules.specs.declared.body.Body.TheBlock.{hidden-the_row-Body-0}
use Rattle.at_rules.specs.declared.body.Lookup.{Lookup}
use Rattle.at_seek.specs.Finding.{IsInside, IsTurnedIn, MaySeek, MaySeekIn, searching, any, first, exists_turned, first_turned, none_turned}
use Rattle.at_seek.specs.Sought.{AreSearched, IsSearched, IsSearchedIn, argument, elements, itself, no_more, seek_any, seek_first}
use Rattle.at_seek.proofs.Found.{of_row}

-- the same of what was read there
pub moved : (rules : Rules) (s : ScopeKinds) (a b new : Body) → a ≡ b → IsSearched rules s (body_view a) (body_view new) →
    IsSearched rules s (body_view b) (body_view new)
moved rules s a b new is h = subst (λ x. IsSearched rules s (body_view x) (body_view new)) is h

-- the arguments of a call as a list
pub row_seen : (v : Vec Body Global) → row_view (hidden-the_row-Body-0 v) ≡ bodies_view v.items
row_seen v = of_row _ (hidden-the_row-Body-0 v) ∙ ap bodies_view (items_hidden-the_row-Body-0 v)

-- the arguments in front of a position are turned, and those from it on are as they were
pub data AreTurnedTo (rules : Rules) (s : ScopeKinds) : ℕ → List Body → List Body → Type 0 where
  left : (bs : List Body) → AreTurnedTo rules s 0 bs bs
  next : {n : ℕ} {a b : Body} {as' bs : List Body} → IsSearched rules s (body_view a) (body_view b) → AreTurnedTo rules s n as' bs →
      AreTurnedTo rules s (suc n) (a ∷ as') (b ∷ bs)
  ended : (n : ℕ) → AreTurnedTo rules s n [] []

-- one more is turned
pub turned_at : (rules : Rules) (s : ScopeKinds) (n : ℕ) (old now : List Body) (d b : Body) → AreTurnedTo rules s n old now → n < length now →
    IsSearched rules s (body_view (get_or now n d)) (body_view b) → AreTurnedTo rules s (suc n) old (set now n b)
turned_at rules s _ _ _ d b (left []) less h = absurd (omega (arith, less))
turned_at rules s _ _ _ d b (left (x ∷ xs)) less h = next h (left xs)
turned_at rules s _ _ _ d b (next {n} {a = x} {b = y} {as' = xs} {bs = ys} r t) less h = next r (turned_at rules s n xs ys d b t (omega (arith, less)) h)
turned_at rules s _ _ _ d b (ended n) less h = absurd (omega (arith, less))

-- all are turned
pub all_searched : (rules : Rules) (s : ScopeKinds) (n : ℕ) (old now : List Body) → AreTurnedTo rules s n old now → length old ≤ n →
    AreSearched rules s (bodies_view old) (bodies_view now)
all_searched rules s _ _ _ (left []) all = no_more
all_searched rules s _ _ _ (left (x ∷ xs)) all = absurd (omega (arith, all))
all_searched rules s _ _ _ (next {n} {a = x} {b = y} {as' = xs} {bs = ys} r t) all = argument r (all_searched rules s n xs ys t (omega (arith, all)))
all_searched rules s _ _ _ (ended n) all = no_more

-- a list that was lent whole
pub came_back : (n : ℕ) (items rest : List Body) → length items ≡ n → take n (items ++ rest) ≡ items
came_back n items rest is = subst (λ m. take m (items ++ rest) ≡ items) is (take-append_seam items rest)

any_sought : (rules : Rules) (s inner : ScopeKinds) (look : Lookup) (a a' e f : Expr) (part : ℕ) → MaySeekIn rules s inner look a part e →
    IsSearched rules s a a' → IsSearched rules inner e f →
    IsSearched rules s (Exists a part e) (SeekAny a' look.part (key_view look.key) (sought_view look.sought) f)
any_sought rules s inner look a a' e f part m h g =
    subst (λ p. IsSearched rules s (Exists a part e) (SeekAny a' p (key_view look.key) (sought_view look.sought) f)) m.place
    (seek_any part m.element (key_view look.key) m.elements m.begins.sought m.begins.begins h (subst (λ k. IsSearched rules k e f) m.bound g))

first_sought : (rules : Rules) (s inner : ScopeKinds) (look : Lookup) (a a' e f : Expr) (part : ℕ) → MaySeekIn rules s inner look a part e →
    IsSearched rules s a a' → IsSearched rules inner e f →
    IsSearched rules s (First a part e) (SeekFirst a' look.part (key_view look.key) (sought_view look.sought) f)
first_sought rules s inner look a a' e f part m h g =
    subst (λ p. IsSearched rules s (First a part e) (SeekFirst a' p (key_view look.key) (sought_view look.sought) f)) m.place
    (seek_first part m.element (key_view look.key) m.elements m.begins.sought m.begins.begins h (subst (λ k. IsSearched rules k e f) m.bound g))

exists_case : (rules : Rules) (s inner : ScopeKinds) (look : Lookup) (a e f : Expr) (part : ℕ) → MaySeekIn rules s inner look a part e →
    IsTurnedIn rules s inner (Exists a part e) f → IsSearched rules s (Exists a part e) (searching look f)
exists_case rules s inner look a e _ part m (exists_turned _ h g) = any_sought rules s inner look a _ e _ part m h g
exists_case rules s inner look a e _ part m (none_turned _) = any_sought rules s inner look a a e e part m (itself a) (itself e)

first_case : (rules : Rules) (s inner : ScopeKinds) (look : Lookup) (a e f : Expr) (part : ℕ) → MaySeekIn rules s inner look a part e →
    IsTurnedIn rules s inner (First a part e) f → IsSearched rules s (First a part e) (searching look f)
first_case rules s inner look a e _ part m (first_turned _ h g) = first_sought rules s inner look a _ e _ part m h g
first_case rules s inner look a e _ part m (none_turned _) = first_sought rules s inner look a a e e part m (itself a) (itself e)

-- a fold that is turned, and then made the search
pub sought_turned : (rules : Rules) (s inner : ScopeKinds) (look : Lookup) (e f g : Expr) → MaySeek rules s inner look e → IsTurnedIn rules s inner e f →
    g ≡ searching look f → IsSearched rules s e g
sought_turned rules s inner look e f g may turned is = subst (λ x. IsSearched rules s e x) (sym is) (cases e may turned)
  where
    cases : (e : Expr) → MaySeek rules s inner look e → IsTurnedIn rules s inner e f → IsSearched rules s e (searching look f)
    cases _ (any {list} {test} part m) h = exists_case rules s inner look list test f part m h
    cases _ (first {list} {test} part m) h = first_case rules s inner look list test f part m h

-- what stands inside the braces of a fold is turned
pub inside_turned : (rules : Rules) (s inner : ScopeKinds) (a b : Body) (p part : ℕ) (e f : Expr) → a ≡ b → p ≡ part →
    IsInside rules s (body_view a) p inner → IsSearched rules inner e f → IsSearchedIn rules s (body_view b) part e f
inside_turned rules s inner a b p part e f is same m h =
    subst (λ x. IsSearchedIn rules s (body_view x) part e f) is (subst (λ q. IsSearchedIn rules s (body_view a) q e f) same
    (elements m.element m.elements (subst (λ k. IsSearched rules k e f) m.bound h)))
