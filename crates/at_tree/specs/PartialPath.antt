-- What has been read of a path's text, character by character.
use Rattle.std.specs.Prelude.{ℕ, ◌+◌, ◌-◌, ◌*◌, ◌&&◌, ◌==◌, Bool, nat_lt, List, [], ◌∷◌, ◌++◌, Option, Some, None, if◌then◌else◌, encode_utf8}
use Rattle.at_model.specs.Names.{starts_name, continues_name, is_reserved}
use Rattle.at_model.specs.Paths.{Step, Path}
use Rattle.at_tree.specs.Partial.{is_digit, is_empty}

-- what stands right before the next character
pub data Place : Type 0 where
  -- nothing
  Start : Place
  Slash : Place
  -- the front of a component's name
  InPart : List ℕ → Place
  -- a component's name and a colon
  Colon : List ℕ → Place
  -- the same, and digits
  InIndex : List ℕ → ℕ → Place

-- the steps that a slash follows, and what stands behind
pub record Partial : Type 0 where
  pub steps : Path
  pub place : Place

abbrev pub at : Path → Place → Partial
at ss place = record { steps = ss; place = place }

abbrev pub nothing_read : Partial
nothing_read = at [] Start

abbrev pub plain : List ℕ → Step
plain part = record { part = part; index = None }

abbrev pub indexed : List ℕ → ℕ → Step
indexed part n = record { part = part; index = Some n }

abbrev pub next_step : Path → Step → Partial
next_step ss s = at (ss ++ s ∷ []) Slash

abbrev pub after_part : Path → List ℕ → ℕ → Option Partial
after_part ss part c =
    if c == 58 then Some (at ss (Colon part))
    else (if c == 47 then Some (next_step ss (plain part))
    else None)

abbrev pub in_part : Path → List ℕ → ℕ → Option Partial
in_part ss part c =
    if continues_name c then Some (at ss (InPart (part ++ encode_utf8 c)))
    else (if is_reserved part then None
    else after_part ss part c)

abbrev pub in_colon : Path → List ℕ → ℕ → Option Partial
in_colon ss part c = if is_digit c then Some (at ss (InIndex part (c - 48))) else None

-- an index goes on with the character
abbrev pub goes_on : ℕ → ℕ → Bool
goes_on n c = is_digit c && (nat_lt 0 n && nat_lt n 100000000)

abbrev pub in_index : Path → List ℕ → ℕ → ℕ → Option Partial
in_index ss part n c =
    if goes_on n c then Some (at ss (InIndex part (n * 10 + (c - 48))))
    else (if c == 47 then Some (next_step ss (indexed part n))
    else None)

abbrev pub step_at : Path → Place → ℕ → Option Partial
step_at ss Start c = if c == 47 then Some (at ss Slash) else None
step_at ss Slash c = if starts_name c then Some (at ss (InPart (encode_utf8 c))) else None
step_at ss (InPart part) c = in_part ss part c
step_at ss (Colon part) c = in_colon ss part c
step_at ss (InIndex part n) c = in_index ss part n c

-- one more character
abbrev pub step : Partial → ℕ → Option Partial
step p c = step_at p.steps p.place c

-- the path, where the text is whole
abbrev pub whole_at : Path → Place → Option Path
whole_at ss Start = None
whole_at ss Slash = if is_empty ss then Some [] else None
whole_at ss (InPart part) = if is_reserved part then None else Some (ss ++ plain part ∷ [])
whole_at ss (Colon part) = None
whole_at ss (InIndex part n) = Some (ss ++ indexed part n ∷ [])

abbrev pub whole_path : Partial → Option Path
whole_path p = whole_at p.steps p.place
