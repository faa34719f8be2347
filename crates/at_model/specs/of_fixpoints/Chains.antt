-- The chain of a question, where no attribute is circular, as a search whose levels have one instance each.
use Rattle.std.specs.Prelude.{◌≡◌, ◌⊎◌, List, map, reverse, Option, Some, None}
use Rattle.at_model.specs.Run.{Value, Instance, Known}
use Rattle.at_model.specs.Meaning.{Finds, Faults, Among, Answer, Outcomes, Circle}
use Rattle.at_model.specs.Turning.{UnderWay, chain, IsKnown}
use Rattle.at_model.specs.of_fixpoints.Searching.{Level, Search, begun}

-- the levels of those that wait, one each, the nearest first
abbrev pub levels_of : {N : Type 0} → List (Instance N) → List (Level N)
levels_of waiting = map begun (reverse waiting)

-- The search is that of the chain, where at least these values are kept: its levels have one instance each, which are those of the
-- chain; what was found was told, and what was told or has ended was found, where it isn't kept. Only of what is under way more may
-- be told.
pub record IsSearchOf {N : Type 0} (kept : Known N) (u : UnderWay N) (s : Search N) : Type 0 where
  pub last : s.last ≡ begun u.last
  pub below : s.below ≡ levels_of u.waiting
  pub found : (i : Instance N) (v : Value N) → Among (i, v) u.found → (kept i ≡ Some v) ⊎ Among (i, Finds v) s.told
  pub told : (i : Instance N) (v : Value N) → Among (i, Finds v) s.told → IsKnown kept u.found i ⊎ Among i (chain u)
  pub ended : (i : Instance N) → Among i s.ended → IsKnown kept u.found i

-- what is kept there is kept here
abbrev pub AreKept : {N : Type 0} → Known N → Known N → Type 0
AreKept {N} there here = (i : Instance N) (v : Value N) → there i ≡ Some v → here i ≡ Some v

-- a fault that is answered is one of this instance
abbrev pub IsOwn : {N : Type 0} → Instance N → Option (Answer N) → Type 0
IsOwn i None = Unit {0}
IsOwn i (Some (Circle j)) = Unit {0}
IsOwn i (Some (Outcomes (Finds v))) = Unit {0}
IsOwn i (Some (Outcomes (Faults f at))) = at ≡ i
