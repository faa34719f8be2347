-- Readers of a number, and operands of a rank: the first step of each.
use Rattle.std.proofs.Common.{◌≡◌, ℕ, zero, suc, ◌-◌, refl, ap, arith}
use Rattle.at_text.specs.Rows.{Row}
use Rattle.at_java.specs.declared.JavaCode.TheVariants.{Limit}
use Rattle.at_java.specs.Read.{fails, here, then_read}
use Rattle.at_java.specs.Operands.{Readers, unary, postfix, max_calls, max_arguments}
use Rattle.at_java.specs.Operators.{operands, links, max_links}
use Rattle.at_java.specs.Expressions.{readers, choice, expression, max_nesting}

less : (n : ℕ) → n ≡ suc n - 1
less n = omega arith

pub expression_step : (n : ℕ) (row : Row) → (n ≡ 0 → ⊥) → (readers n).expression row ≡ choice (readers (n - 1)) row
unfolding readers
expression_step zero row some = absurd (some refl)
expression_step (suc n) row some = ap (λ k. choice (readers k) row) (less n)

pub unary_step : (n : ℕ) (row : Row) → (n ≡ 0 → ⊥) → (readers n).unary row ≡ unary (readers (n - 1)) row
unfolding readers
unary_step zero row some = absurd (some refl)
unary_step (suc n) row some = ap (λ k. unary (readers k) row) (less n)

pub postfix_step : (n : ℕ) (row : Row) → (n ≡ 0 → ⊥) → (readers n).postfix row ≡ postfix (readers (n - 1)) row
unfolding readers
postfix_step zero row some = absurd (some refl)
postfix_step (suc n) row some = ap (λ k. postfix (readers k) row) (less n)

-- nothing nests within nothing
pub too_deep_there : (n : ℕ) (row : Row) → n ≡ 0
    → ((readers n).expression row ≡ fails (here Limit row)) × ((readers n).unary row ≡ fails (here Limit row)) × ((readers n).postfix row ≡ fails (here Limit row))
unfolding readers
too_deep_there zero row none = (refl, refl, refl)
too_deep_there (suc n) row none = absurd cc

pub operands_step : (r : Readers) (n : ℕ) (row : Row) → (n ≡ 0 → ⊥)
    → operands r n row ≡ then_read (operands r (n - 1) row) (λ e rest. links (operands r (n - 1)) n max_links e rest)
unfolding operands
operands_step r zero row some = absurd (some refl)
operands_step r (suc n) row some = ap (λ k. then_read (operands r k row) (λ e rest. links (operands r k) (suc n) max_links e rest)) (less n)

pub operands_none : (r : Readers) (n : ℕ) (row : Row) → n ≡ 0 → operands r n row ≡ unary r row
unfolding operands
operands_none r zero row none = refl
operands_none r (suc n) row none = absurd cc

-- ---- the limits

pub calls_limit : max_calls ≡ 64
unfolding max_calls
calls_limit = refl

pub arguments_limit : max_arguments ≡ 255
unfolding max_arguments
arguments_limit = refl

pub links_limit : max_links ≡ 64
unfolding max_links
links_limit = refl

pub expression_within : (row : Row) → expression row ≡ (readers 64).expression row
unfolding expression max_nesting
expression_within row = refl
