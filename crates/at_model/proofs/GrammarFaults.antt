-- The fault that a grammar is refused for: the first code whose rule isn't kept.
use Rattle.std.proofs.Common.{◌≡◌, ◌↔◌, ℕ, zero, suc, ◌<◌, List, [], ◌∷◌, map, Option, Some, None, refl, sym, ap, ◌∙◌, subst, arith}
use Rattle.std.specs.Option.{option_or}
use Rattle.std.specs.List.{slice_get}
use Rattle.at_model.specs.Declarations.{Declarations, Place, Code, NoClass, ClassTwice, UnknownClass, SuperclassCircle, TokenKindCode, ComponentTwice, Limit, Fault, coded, first_of, first_fault, no_class, class_twice, unknown_class, superclass_circle, token_kind, component_twice, over_limit}
use Rattle.at_model.specs.GrammarRules.{Keeps, order}
use Rattle.at_model.proofs.GrammarKept.{some_class, classes_apart, classes_known, tokens_of_kinds}
use Rattle.at_model.proofs.GrammarClasses.{classes_below_others, components_apart, classes_few}

-- where the test of a code finds something
abbrev found : Declarations → Code → Option Place
found ds NoClass = no_class ds
found ds ClassTwice = class_twice ds
found ds UnknownClass = unknown_class ds
found ds SuperclassCircle = superclass_circle ds
found ds TokenKindCode = token_kind ds
found ds ComponentTwice = component_twice ds
found ds Limit = over_limit ds

abbrev all_codes : List Code
all_codes = NoClass ∷ ClassTwice ∷ UnknownClass ∷ SuperclassCircle ∷ TokenKindCode ∷ ComponentTwice ∷ Limit ∷ []

code_at : (c : Code) → slice_get all_codes (order c) ≡ Some c
code_at NoClass = refl
code_at ClassTwice = refl
code_at UnknownClass = refl
code_at SuperclassCircle = refl
code_at TokenKindCode = refl
code_at ComponentTwice = refl
code_at Limit = refl

at_code : (i : ℕ) (c d : Code) → Some d ≡ Some c → order d ≡ i → order c ≡ i
at_code i c d e f = let same : d ≡ c = cc in subst (λ z. order z ≡ i) same f

order_at : (i : ℕ) (c : Code) → slice_get all_codes i ≡ Some c → order c ≡ i
order_at zero c e = at_code 0 c NoClass e refl
order_at (suc zero) c e = at_code 1 c ClassTwice e refl
order_at (suc (suc zero)) c e = at_code 2 c UnknownClass e refl
order_at (suc (suc (suc zero))) c e = at_code 3 c SuperclassCircle e refl
order_at (suc (suc (suc (suc zero)))) c e = at_code 4 c TokenKindCode e refl
order_at (suc (suc (suc (suc (suc zero))))) c e = at_code 5 c ComponentTwice e refl
order_at (suc (suc (suc (suc (suc (suc zero)))))) c e = at_code 6 c Limit e refl
order_at (suc (suc (suc (suc (suc (suc (suc i))))))) c e = absurd cc

module _ (test : Code → Option Place) where
  abbrev first_by : List Code → Option Fault
  first_by cs = first_of (map (λ c. coded c (test c)) cs)

  none_first : (cs : List Code) → first_by cs ≡ None → (i : ℕ) (c : Code) → slice_get cs i ≡ Some c → test c ≡ None
  none_first [] e i c f = absurd cc
  none_first (d ∷ ds) e i c f = by_test (test d) refl e i f (λ h j g. none_first ds h j c g)
    where
      by_test : (o : Option Place) → test d ≡ o → option_or (coded d o) (first_by ds) ≡ None → (i : ℕ) → slice_get (d ∷ ds) i ≡ Some c
          → (first_by ds ≡ None → (j : ℕ) → slice_get ds j ≡ Some c → test c ≡ None) → test c ≡ None
      by_test (Some at) g h i f rest = absurd cc
      by_test None g h zero f rest = let same : d ≡ c = cc in subst (λ z. test z ≡ None) same g
      by_test None g h (suc i) f rest = rest h i f

  first_none : (cs : List Code) → ((c : Code) → test c ≡ None) → first_by cs ≡ None
  first_none [] h = refl
  first_none (c ∷ cs) h = ap (λ o. option_or (coded c o) (first_by cs)) (h c) ∙ first_none cs h

  -- it is found by the test of its code, and those before find nothing
  abbrev IsFirst : List Code → Fault → Type 0
  IsFirst cs f = (i : ℕ) × (slice_get cs i ≡ Some f.code) × (test f.code ≡ Some f.at) × ((j : ℕ) (c : Code) → j < i → slice_get cs j ≡ Some c → test c ≡ None)

  first_found : (cs : List Code) (f : Fault) → first_by cs ≡ Some f → IsFirst cs f
  first_found [] f e = absurd cc
  first_found (d ∷ ds) f e = by_test (test d) refl e (first_found ds f)
    where
      none_before : (j : ℕ) → j < 0 → ⊥
      none_before j l = omega (arith, l)

      earlier : test d ≡ None → (j : ℕ) (c : Code) (i : ℕ) → j < suc i → slice_get (d ∷ ds) j ≡ Some c → ((j : ℕ) (c : Code) → j < i → slice_get ds j ≡ Some c → test c ≡ None) → test c ≡ None
      earlier g zero c i l n before = let same : d ≡ c = cc in subst (λ z. test z ≡ None) same g
      earlier g (suc j) c i l n before = before j c (omega (arith, l)) n

      by_test : (o : Option Place) → test d ≡ o → option_or (coded d o) (first_by ds) ≡ Some f → (first_by ds ≡ Some f → IsFirst ds f) → IsFirst (d ∷ ds) f
      by_test (Some at) g h rest =
          let same : record { code = d; at = at } ≡ f = cc in
          subst (IsFirst (d ∷ ds)) same (0, refl, g, λ j c l k. absurd (none_before j l))
      by_test None g h rest =
          let (i, k, m, before) = rest h in
          (suc i, k, m, λ j c l n. earlier g j c i l n before)

-- the test of a code finds nothing exactly where the rule is kept; that of components goes by superclasses without a circle
found_none : (ds : Declarations) → superclass_circle ds ≡ None → (c : Code) → (found ds c ≡ None) ↔ Keeps ds c
found_none ds e NoClass = some_class ds
found_none ds e ClassTwice = classes_apart ds
found_none ds e UnknownClass = classes_known ds
found_none ds e SuperclassCircle = classes_below_others ds
found_none ds e TokenKindCode = tokens_of_kinds ds
found_none ds e ComponentTwice = components_apart ds e
found_none ds e Limit = classes_few ds

-- up to that of components there is nothing to ask
found_early : (ds : Declarations) (c : Code) → (order SuperclassCircle < order c → superclass_circle ds ≡ None) → (found ds c ≡ None) ↔ Keeps ds c
found_early ds NoClass h = some_class ds
found_early ds ClassTwice h = classes_apart ds
found_early ds UnknownClass h = classes_known ds
found_early ds SuperclassCircle h = classes_below_others ds
found_early ds TokenKindCode h = tokens_of_kinds ds
found_early ds ComponentTwice h = components_apart ds (h (omega arith))
found_early ds Limit h = classes_few ds

in_order : (ds : Declarations) → first_fault ds ≡ first_by (found ds) all_codes
unfolding first_fault
in_order ds = refl

pub accepted : (ds : Declarations) → (first_fault ds ≡ None) ↔ ((c : Code) → Keeps ds c)
accepted ds = (
  λ e c.
      let none : (c : Code) → found ds c ≡ None = λ c. none_first (found ds) all_codes (sym (in_order ds) ∙ e) (order c) c (code_at c) in
      (found_none ds (none SuperclassCircle) c).0 (none c),
  λ h.
      let free : superclass_circle ds ≡ None = (classes_below_others ds).1 (h SuperclassCircle) in
      in_order ds ∙ first_none (found ds) all_codes (λ c. (found_none ds free c).1 (h c)),
)

something : (o : Option Place) (p : Place) → o ≡ Some p → o ≡ None → ⊥
something None p e f = absurd cc
something (Some q) p e f = absurd cc

pub told : (ds : Declarations) (f : Fault) → first_fault ds ≡ Some f → (Keeps ds f.code → ⊥) × ((c : Code) → order c < order f.code → Keeps ds c)
told ds f e =
    let (i, at, here, before) = first_found (found ds) all_codes f (sym (in_order ds) ∙ e) in
    let place : order f.code ≡ i = order_at i f.code at in
    let none : (c : Code) → order c < order f.code → found ds c ≡ None = λ c l. before (order c) c (subst (λ n. order c < n) place l) (code_at c) in (
      λ k. something (found ds f.code) f.at here ((found_early ds f.code (λ l. none SuperclassCircle l)).1 k),
      λ c l. (found_early ds c (λ m. none SuperclassCircle (let n = m in omega (arith, n, l)))).0 (none c l),
    )
