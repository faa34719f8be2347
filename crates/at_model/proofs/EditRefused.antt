-- An edit is refused for the first reason that there is, and is accepted where there is none.
use Rattle.std.proofs.Common.{◌≡◌, ℕ, zero, suc, ◌<◌, Bool, true, false, ◌&&◌, not, if◌then◌else◌, Result, Ok, Err, refl, sym, ap, ◌∙◌, subst, arith}
use Rattle.std.specs.Prelude.{nat_eq}
use Rattle.std.proofs.lemmas.Bool.Decides.{nat_tests}
use Rattle.at_model.specs.Classes.{Classes}
use Rattle.at_model.specs.Trees.{Tree}
use Rattle.at_model.specs.Edits.{Edit, Refusal, Component, Fit, Index, Taken, Fixed, Inside, Limit, edited, has_component, fits_there, is_in_range, is_free, is_loose, is_removable, is_outside, is_within_limits, left_by}
use Rattle.at_model.specs.Refusing.{rank, Breaks}
use Rattle.at_model.proofs.FirstGiven.{off_on}

-- which refusal has that number
abbrev unrank : ℕ → Refusal
unrank zero = Limit
unrank (suc zero) = Limit
unrank (suc (suc zero)) = Limit
unrank (suc (suc (suc zero))) = Limit
unrank (suc (suc (suc (suc zero)))) = Limit
unrank (suc (suc (suc (suc (suc zero))))) = Component
unrank (suc (suc (suc (suc (suc (suc zero)))))) = Limit
unrank (suc (suc (suc (suc (suc (suc (suc zero))))))) = Fit
unrank (suc (suc (suc (suc (suc (suc (suc (suc zero)))))))) = Index
unrank (suc (suc (suc (suc (suc (suc (suc (suc (suc zero))))))))) = Taken
unrank (suc (suc (suc (suc (suc (suc (suc (suc (suc (suc zero)))))))))) = Fixed
unrank (suc (suc (suc (suc (suc (suc (suc (suc (suc (suc (suc zero))))))))))) = Inside
unrank (suc (suc (suc (suc (suc (suc (suc (suc (suc (suc (suc (suc n)))))))))))) = Limit

ranked : (r : Refusal) → unrank (rank r) ≡ r
ranked Component = refl
ranked Fit = refl
ranked Index = refl
ranked Taken = refl
ranked Fixed = refl
ranked Inside = refl
ranked Limit = refl

least : (r : Refusal) → rank r < 5 → ⊥
least Component l = omega (arith, l)
least Fit l = omega (arith, l)
least Index l = omega (arith, l)
least Taken l = omega (arith, l)
least Fixed l = omega (arith, l)
least Inside l = omega (arith, l)
least Limit l = omega (arith, l)

none_six : (r : Refusal) → rank r < 7 → rank r < 6
none_six Component l = omega arith
none_six Fit l = absurd (omega (arith, l))
none_six Index l = absurd (omega (arith, l))
none_six Taken l = absurd (omega (arith, l))
none_six Fixed l = absurd (omega (arith, l))
none_six Inside l = absurd (omega (arith, l))
none_six Limit l = absurd (omega (arith, l))

most : (r : Refusal) → rank r < 13
most Component = omega arith
most Fit = omega arith
most Index = omega arith
most Taken = omega arith
most Fixed = omega arith
most Inside = omega arith
most Limit = omega arith

same_ok : (t u : Tree) (r : Result Tree Refusal) → r ≡ Ok t → r ≡ Ok u → t ≡ u
same_ok t u r e f = let g : Ok t ≡ Ok u = sym e ∙ f in cc

module _ (passes : Refusal → Bool) where
  abbrev BeforePass : ℕ → Type 0
  BeforePass n = (q : Refusal) → rank q < n → passes q ≡ true

  by_rank : (n : ℕ) (p q : Refusal) → rank p ≡ n → rank q < suc n → passes p ≡ true → (rank q < n → passes q ≡ true) → (b : Bool) → nat_eq (rank q) n ≡ b → passes q ≡ true
  by_rank n p q e l f h true g =
      let same : rank q ≡ n = grind (arith, nat_tests) in
      let equal : p ≡ q = sym (ranked p) ∙ ap unrank (e ∙ sym same) ∙ ranked q in
      subst (λ z. passes z ≡ true) equal f
  by_rank n p q e l f h false g = let less : rank q < n = grind (arith, nat_tests) in h less

  more : (p : Refusal) → passes p ≡ true → BeforePass (rank p) → BeforePass (suc (rank p))
  more p f h q l = by_rank (rank p) p q refl l f (h q) (nat_eq (rank q) (rank p)) refl

  abbrev IsFirst : Refusal → Type 0
  IsFirst r = (passes r ≡ false) × BeforePass (rank r)

  -- the test passes and the rest refuses, or it doesn't and it is this reason
  stage : (p r : Refusal) (rest : Result Tree Refusal) → BeforePass (rank p) → (passes p ≡ true → rest ≡ Err r → IsFirst r) → (if not (passes p) then Err p else rest) ≡ Err r → IsFirst r
  stage p r rest h go e = by_test (passes p) refl e
    where
      by_test : (b : Bool) → passes p ≡ b → (if not b then Err p else rest) ≡ Err r → IsFirst r
      by_test true f g = go f g
      by_test false f g = let same : p ≡ r = cc in subst IsFirst same (f, h)

  stage_ok : (p : Refusal) (u : Tree) (rest : Result Tree Refusal) → (if not (passes p) then Err p else rest) ≡ Ok u → (passes p ≡ true) × (rest ≡ Ok u)
  stage_ok p u rest e = by_test (passes p) refl e
    where
      by_test : (b : Bool) → passes p ≡ b → (if not b then Err p else rest) ≡ Ok u → (passes p ≡ true) × (rest ≡ Ok u)
      by_test true f g = (f, g)
      by_test false f g = absurd cc

  abbrev tried : Tree → Result Tree Refusal
  tried t =
      if not (passes Component) then Err Component
      else (if not (passes Fit) then Err Fit
      else (if not (passes Index) then Err Index
      else (if not (passes Taken) then Err Taken
      else (if not (passes Fixed) then Err Fixed
      else (if not (passes Inside) then Err Inside
      else (if not (passes Limit) then Err Limit
      else Ok t))))))

  no_error : (t : Tree) (r : Refusal) → Ok t ≡ Err r → IsFirst r
  no_error t r e = absurd cc

  first_tried : (t : Tree) (r : Refusal) → tried t ≡ Err r → IsFirst r
  first_tried t r =
      let from_five : BeforePass 5 = λ q l. absurd (least q l) in
      stage Component r _ from_five (λ a.
      let from_six : BeforePass 6 = more Component a from_five in
      let from_seven : BeforePass 7 = λ q l. from_six q (none_six q l) in
      stage Fit r _ from_seven (λ b.
      let from_eight : BeforePass 8 = more Fit b from_seven in
      stage Index r _ from_eight (λ c.
      let from_nine : BeforePass 9 = more Index c from_eight in
      stage Taken r _ from_nine (λ d.
      let from_ten : BeforePass 10 = more Taken d from_nine in
      stage Fixed r _ from_ten (λ e.
      let from_eleven : BeforePass 11 = more Fixed e from_ten in
      stage Inside r _ from_eleven (λ f.
      stage Limit r _ (more Inside f from_eleven) (λ g. no_error t r)))))))

  all_tried : (t u : Tree) → tried t ≡ Ok u → ((q : Refusal) → passes q ≡ true) × (t ≡ u)
  all_tried t u h =
      let (a, ra) = stage_ok Component u _ h in
      let (b, rb) = stage_ok Fit u _ ra in
      let (c, rc) = stage_ok Index u _ rb in
      let (d, rd) = stage_ok Taken u _ rc in
      let (e, re) = stage_ok Fixed u _ rd in
      let (f, rf) = stage_ok Inside u _ re in
      let (g, rg) = stage_ok Limit u _ rf in
      (each a b c d e f g, same_ok t u (Ok t) refl rg)
    where
      each : passes Component ≡ true → passes Fit ≡ true → passes Index ≡ true → passes Taken ≡ true
          → passes Fixed ≡ true → passes Inside ≡ true → passes Limit ≡ true → (q : Refusal) → passes q ≡ true
      each a b c d e f g Component = a
      each a b c d e f g Fit = b
      each a b c d e f g Index = c
      each a b c d e f g Taken = d
      each a b c d e f g Fixed = e
      each a b c d e f g Inside = f
      each a b c d e f g Limit = g

-- the test of a reason
abbrev test_of : Classes → Tree → Edit → Refusal → Bool
test_of classes t e Component = has_component classes t e
test_of classes t e Fit = fits_there classes t e
test_of classes t e Index = is_in_range t e
test_of classes t e Taken = is_free t e
test_of classes t e Fixed = is_loose classes t e && is_removable classes t e
test_of classes t e Inside = is_outside e
test_of classes t e Limit = is_within_limits (left_by t e)

broken : (classes : Classes) (t : Tree) (e : Edit) (r : Refusal) → test_of classes t e r ≡ false → Breaks classes t e r
broken classes t e Component h = h
broken classes t e Fit h = h
broken classes t e Index h = h
broken classes t e Taken h = h
broken classes t e Fixed h = h
broken classes t e Inside h = h
broken classes t e Limit h = h

breaks : (classes : Classes) (t : Tree) (e : Edit) (r : Refusal) → Breaks classes t e r → test_of classes t e r ≡ false
breaks classes t e Component h = h
breaks classes t e Fit h = h
breaks classes t e Index h = h
breaks classes t e Taken h = h
breaks classes t e Fixed h = h
breaks classes t e Inside h = h
breaks classes t e Limit h = h

pub first_refused : (classes : Classes) (t : Tree) (e : Edit) (r : Refusal) → edited classes t e ≡ Err r → Breaks classes t e r × ((q : Refusal) → rank q < rank r → Breaks classes t e q → ⊥)
first_refused classes t e r h =
    let (f, before) = first_tried (test_of classes t e) (left_by t e) r h in
    (broken classes t e r f, λ q l b. off_on (test_of classes t e q) (breaks classes t e q b) (before q l))

pub none_refused : (classes : Classes) (t : Tree) (e : Edit) (u : Tree) → edited classes t e ≡ Ok u → ((r : Refusal) → Breaks classes t e r → ⊥) × (left_by t e ≡ u)
none_refused classes t e u h =
    let (all, same) = all_tried (test_of classes t e) (left_by t e) u h in
    (λ r b. off_on (test_of classes t e r) (breaks classes t e r b) (all r), same)
