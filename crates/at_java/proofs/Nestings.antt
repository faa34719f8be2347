-- Statements nest so deep at most, and so does `new`.
use Rattle.std.proofs.Common.{◌≡◌, ℕ, zero, suc, ◌-◌, ◌<◌, refl, ap, ◌∙◌, arith}
use Rattle.at_text.specs.Rows.{Row}
use Rattle.at_java.specs.declared.JavaCode.TheVariants.{Limit}
use Rattle.at_java.specs.Read.{fails, here}
use Rattle.at_java.specs.Statements.{formed, statement}
use Rattle.at_java.specs.Constants.{node, term}
use Rattle.at_text.specs.declared.place.Place.{Place}

none : (row : Row) → statement zero row ≡ fails (here Limit row)
unfolding statement
none row = refl

one : (n : ℕ) (row : Row) → statement (suc n) row ≡ formed (statement n) row
unfolding statement
one n row = refl

pub none_nest : (n : ℕ) (row : Row) → n ≡ 0 → statement n row ≡ fails (here Limit row)
none_nest n row z = ap (λ k. statement k row) z ∙ none row

pub one_nests : (n : ℕ) (row : Row) → 0 < n → statement n row ≡ formed (statement (n - 1)) row
one_nests n row h = let e : n ≡ suc (n - 1) = omega (arith, h) in ap (λ k. statement k row) e ∙ one (n - 1) row

no_term : (at : Place) (row : Row) → term zero at row ≡ fails (here Limit row)
unfolding term
no_term at row = refl

one_term : (n : ℕ) (at : Place) (row : Row) → term (suc n) at row ≡ node (term n) at row
unfolding term
one_term n at row = refl

pub none_made : (n : ℕ) (at : Place) (row : Row) → n ≡ 0 → term n at row ≡ fails (here Limit row)
none_made n at row z = ap (λ k. term k at row) z ∙ no_term at row

pub one_made : (n : ℕ) (at : Place) (row : Row) → 0 < n → term n at row ≡ node (term (n - 1)) at row
one_made n at row h = let e : n ≡ suc (n - 1) = omega (arith, h) in ap (λ k. term k at row) e ∙ one_term (n - 1) at row
