-- Components that are fixed, one by one.
use Rattle.std.specs.Prelude.{ℕ, Bool, true, false, List, Option, None, Some}
use Rattle.std.specs.List.{slice_get}
use Rattle.at_model.specs.Classes.{Component, is_fixed}
use Rattle.at_model.specs.SyntaxTrees.{Cell, cell_eq}

-- nothing is fixed in the component, or it is what stands there
abbrev pub stands : Component → Cell → Bool
stands p c = elim p.fixed [ None ↦ true | Some d ↦ cell_eq d c ]

-- the component at that position is there and fixed
abbrev pub is_fixed_at : List Component → ℕ → Bool
is_fixed_at ps i = elim (slice_get ps i) [ None ↦ false | Some p ↦ is_fixed p ]
