-- Forms one behind the other, up to a closing brace.
use Rattle.std.specs.Prelude.{ℕ, zero, suc, List, [], ◌∷◌}
use lib.Chars.{codes}
use Rattle.at_text.specs.Rows.{Row}
use Rattle.at_text.specs.declared.place.Place.{Place}
use Rattle.at_java.specs.Read.{Read, got, fails, here, then_read}
use Rattle.at_java.specs.Next.{after_sign}
use Rattle.at_java.specs.declared.JavaCode.TheVariants.{Limit}

-- what stands in front of a closing brace, and its place
pub record Closed (A : Type 0) : Type 0 where
  pub items : List A
  pub end : Place

-- one more in front
abbrev pub in_front : {A : Type 0} → A → Closed A → Closed A
in_front a c = record { items = a ∷ c.items; end = c.end }

-- at most so many of what is read one by one
unfoldable pub items_until : {A : Type 0} → (Row → Read A) → ℕ → Row → Read (Closed A)
items_until one zero row = after_sign (codes "}") row (λ at rest. got (record { items = []; end = at }) rest) (fails (here Limit row))
items_until one (suc n) row =
    after_sign (codes "}") row (λ at rest. got (record { items = []; end = at }) rest)
    (then_read (one row) (λ a rest. then_read (items_until one n rest) (λ c left. got (in_front a c) left)))
