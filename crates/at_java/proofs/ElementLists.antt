-- What is added to a list, as a loop reads it.
use Rattle.std.proofs.Common.{◌≡◌, ◌-◌, ◌<◌, arith, ℕ, zero, suc, List, [], ◌∷◌, ◌++◌, false, ap, ◌∙◌, append-nil}
use lib.Chars.{codes}
use Rattle.at_model.specs.Terms.{Term}
use Rattle.at_text.specs.Rows.{Row, sign, is_sign, next_is}
use Rattle.at_text.specs.declared.place.Place.{Place}
use Rattle.at_text.specs.declared.fault.Failure.{Failure}
use Rattle.at_java.specs.declared.reader.Breach.{Breach}
use Rattle.at_java.specs.declared.JavaCode.TheVariants.{Limit}
use Rattle.at_java.specs.Read.{Read, got, fails, here, then_read, map_read, Fails}
use Rattle.at_java.specs.Constants.{added, elements}
use Rattle.at_java.proofs.Loops.{in_front, one_in_front, map_fails}
use Rattle.at_java.proofs.Nexts.{sign_next, sign_not}
use Rattle.at_java.proofs.Then.{then_fails, fails_as}

module _ (part : Place → Row → Read Term) (at : Place) where
  -- what is read behind one of them
  abbrev more : ℕ → Term → Row → Read (List Term)
  more n t rest = map_read (λ ts. t ∷ ts) (elements part at n rest)

  step : (n : ℕ) (row : Row) (dot : Place) (rest : Row) → row ≡ sign (codes ".") dot ∷ rest → elements part at (suc n) row ≡ then_read (added part at rest) (more n)
  unfolding elements
  step n row dot rest r = sign_next (codes ".") row dot rest (λ d next. then_read (added part at next) (more n)) (got [] row) r

  step_of : (n : ℕ) (row : Row) (dot : Place) (rest : Row) → 0 < n → row ≡ sign (codes ".") dot ∷ rest
      → elements part at n row ≡ then_read (added part at rest) (more (n - 1))
  step_of n row dot rest z r = let e : n ≡ suc (n - 1) = omega (arith, z) in ap (λ k. elements part at k row) e ∙ step (n - 1) row dot rest r

  pub one_element : (n : ℕ) (front : List Term) (t : Term) (row : Row) (dot : Place) (rest mid : Row) → 0 < n → row ≡ sign (codes ".") dot ∷ rest
      → added part at rest ≡ got t mid → in_front front (elements part at n row) ≡ in_front (front ++ t ∷ []) (elements part at (n - 1) mid)
  one_element n front t row dot rest mid z r read =
      ap (in_front front) (step_of n row dot rest z r ∙ ap (λ q. then_read q (more (n - 1))) read) ∙ one_in_front front t (elements part at (n - 1) mid)

  pub element_fails : (e : Failure Breach) (end : Row) (n : ℕ) (front : List Term) (row : Row) (dot : Place) (rest : Row) → 0 < n
      → row ≡ sign (codes ".") dot ∷ rest → Fails e end (added part at rest) → Fails e end (in_front front (elements part at n row))
  element_fails e end n front row dot rest z r f =
      map_fails e end (λ ts. front ++ ts) (elements part at n row) (fails_as e end (elements part at n row) (then_read (added part at rest) (more (n - 1)))
      (step_of n row dot rest z r) (then_fails e end (added part at rest) (more (n - 1)) f))

  ends : (n : ℕ) (row : Row) → next_is (is_sign (codes ".")) row ≡ false → elements part at n row ≡ got [] row
  unfolding elements
  ends zero row h = sign_not (codes ".") row _ _ h
  ends (suc n) row h = sign_not (codes ".") row _ _ h

  pub elements_end : (n : ℕ) (front : List Term) (row : Row) → next_is (is_sign (codes ".")) row ≡ false → in_front front (elements part at n row) ≡ got front row
  elements_end n front row h = ap (in_front front) (ends n row h) ∙ ap (λ ts. got ts row) (append-nil front)

  none_left : (row : Row) (dot : Place) (rest : Row) → row ≡ sign (codes ".") dot ∷ rest → elements part at zero row ≡ fails (here Limit rest)
  unfolding elements
  none_left row dot rest r = sign_next (codes ".") row dot rest (λ d next. fails (here Limit next)) (got [] row) r

  pub too_many_elements : (n : ℕ) (front : List Term) (row : Row) (dot : Place) (rest : Row) → n ≡ 0 → row ≡ sign (codes ".") dot ∷ rest
      → in_front front (elements part at n row) ≡ fails (here Limit rest)
  too_many_elements n front row dot rest z r = ap (in_front front) (ap (λ k. elements part at k row) z ∙ none_left row dot rest r)
