-- What is added to the list of a local, as a loop reads it.
use Rattle.std.proofs.Common.{◌≡◌, ◌-◌, ◌<◌, arith, ℕ, zero, suc, List, [], ◌∷◌, ◌++◌, length, map, false, sym, ap, ◌∙◌, append-nil}
use Rattle.std.proofs.lemmas.List.{length-map}
use Rattle.at_model.specs.Terms.{Term}
use Rattle.at_text.specs.Rows.{Row, word, is_word, next_is}
use Rattle.at_text.specs.declared.place.Place.{Place}
use Rattle.at_text.specs.declared.fault.Failure.{Failure}
use Rattle.at_java.specs.declared.reader.Breach.{Breach}
use Rattle.at_java.specs.declared.JavaCode.TheVariants.{Limit}
use Rattle.at_java.specs.Read.{Read, got, fails, here, then_read, map_read, Fails}
use Rattle.at_java.specs.Constants.{most_elements}
use Rattle.at_java.specs.Making.{addition, additions, with_additions}
use Rattle.at_java.proofs.Loops.{in_front, one_in_front, map_fails}
use Rattle.at_java.proofs.Nexts.{word_next, word_not}
use Rattle.at_java.proofs.Then.{then_fails, fails_as}

module _ (text : List ℕ) where
  -- what is read behind one of them
  abbrev more : ℕ → Term → Row → Read (List Term)
  more n t rest = map_read (λ ts. t ∷ ts) (additions text n rest)

  step : (n : ℕ) (row : Row) (at : Place) (rest : Row) → row ≡ word text at ∷ rest → additions text (suc n) row ≡ then_read (addition at rest) (more n)
  unfolding additions
  step n row at rest r = word_next text row at rest (λ a next. then_read (addition a next) (more n)) (got [] row) r

  step_of : (n : ℕ) (row : Row) (at : Place) (rest : Row) → 0 < n → row ≡ word text at ∷ rest → additions text n row ≡ then_read (addition at rest) (more (n - 1))
  step_of n row at rest z r = let e : n ≡ suc (n - 1) = omega (arith, z) in ap (λ k. additions text k row) e ∙ step (n - 1) row at rest r

  pub one_addition : (n : ℕ) (front : List Term) (t : Term) (row : Row) (at : Place) (rest mid : Row) → 0 < n → row ≡ word text at ∷ rest
      → addition at rest ≡ got t mid → in_front front (additions text n row) ≡ in_front (front ++ t ∷ []) (additions text (n - 1) mid)
  one_addition n front t row at rest mid z r read =
      ap (in_front front) (step_of n row at rest z r ∙ ap (λ q. then_read q (more (n - 1))) read) ∙ one_in_front front t (additions text (n - 1) mid)

  pub addition_fails : (e : Failure Breach) (end : Row) (n : ℕ) (front : List Term) (row : Row) (at : Place) (rest : Row) → 0 < n
      → row ≡ word text at ∷ rest → Fails e end (addition at rest) → Fails e end (in_front front (additions text n row))
  addition_fails e end n front row at rest z r f =
      map_fails e end (λ ts. front ++ ts) (additions text n row) (fails_as e end (additions text n row) (then_read (addition at rest) (more (n - 1)))
      (step_of n row at rest z r) (then_fails e end (addition at rest) (more (n - 1)) f))

  ends : (n : ℕ) (row : Row) → next_is (is_word text) row ≡ false → additions text n row ≡ got [] row
  unfolding additions
  ends zero row h = word_not text row _ _ h
  ends (suc n) row h = word_not text row _ _ h

  pub additions_end : (n : ℕ) (front : List Term) (row : Row) → next_is (is_word text) row ≡ false → in_front front (additions text n row) ≡ got front row
  additions_end n front row h = ap (in_front front) (ends n row h) ∙ ap (λ ts. got ts row) (append-nil front)

  none_left : (row : Row) (at : Place) (rest : Row) → row ≡ word text at ∷ rest → additions text zero row ≡ fails (here Limit rest)
  unfolding additions
  none_left row at rest r = word_next text row at rest (λ a next. fails (here Limit next)) (got [] row) r

  pub too_many_additions : (n : ℕ) (front : List Term) (row : Row) (at : Place) (rest : Row) → n ≡ 0 → row ≡ word text at ∷ rest
      → in_front front (additions text n row) ≡ fails (here Limit rest)
  too_many_additions n front row at rest z r = ap (in_front front) (ap (λ k. additions text k row) z ∙ none_left row at rest r)

  -- there is as much room as what stands in front leaves
  pub first_additions : {T : Type 0} (view : T → Term) (ts : List T) (room : ℕ) (row : Row) → room ≡ most_elements - length ts
      → with_additions text (map view ts) row ≡ in_front (map view ts) (additions text room row)
  first_additions view ts room row r =
      ap (λ k. in_front (map view ts) (additions text (most_elements - k) row)) (length-map ts view)
      ∙ ap (λ k. in_front (map view ts) (additions text k row)) (sym r)
