-- What stands at the front of a path's text, a step at a time.
use Rattle.std.specs.Prelude.{◌≡◌, ℕ, ◌-◌, ◌≤◌, List, [], ◌∷◌, ◌++◌, length, Some, None, if◌then◌else◌, encode_utf8, ⊤}
use Rattle.at_model.specs.Paths.{Step, Path}
use Rattle.at_text.specs.declared.fault.Failure.{Failure}
use Rattle.at_text.specs.declared.fault.Failure.TheVariants.{For, Memory}
use Rattle.at_tree.specs.Leads.{LeadsTo}
use Rattle.at_tree.specs.Partial.{is_empty}
use Rattle.at_tree.specs.PartialPath.{Partial, Start, Slash, at, step, whole_path}
use Rattle.at_tree.specs.Stops.{IsPathText, StopsAt}

-- these steps are read, and go on with a slash alone, if with anything
pub record AreBefore (ss : Path) (rest : List ℕ) (p : Partial) : Type 0 where
  pub whole : whole_path p ≡ (if is_empty ss then None else Some ss)
  pub next : (c : ℕ) (more : List ℕ) → rest ≡ encode_utf8 c ++ more → step p c ≡ step (at ss Start) c

-- the step stands behind these and a slash
abbrev pub TakesStep : Path → List ℕ → Step → List ℕ → Type 0
TakesStep ss text s rest = (p : Partial) × LeadsTo step (at ss Slash) text p rest × AreBefore (ss ++ s ∷ []) rest p

-- no character that is next is taken, and where there is none, no path is whole
pub record IsStuck (p : Partial) (rest : List ℕ) : Type 0 where
  pub none : (c : ℕ) (more : List ℕ) → rest ≡ encode_utf8 c ++ more → step p c ≡ None
  pub open_still : rest ≡ [] → whole_path p ≡ None

-- what is read leads to where the text is stuck, and so much is left there
abbrev pub StopsBehind : Partial → List ℕ → Failure ℕ → Type 0
StopsBehind p text (For left) = (q : Partial) × (rest : List ℕ) × LeadsTo step p text q rest × IsStuck q rest × (left ≡ length rest)
StopsBehind p text Memory = ⊤

-- the text stops being a path's where so much of it is left, or memory ran out
abbrev pub StopsLeaving : List ℕ → Failure ℕ → Type 0
StopsLeaving text (For left) = (left ≤ length text) × StopsAt IsPathText text (length text - left)
StopsLeaving text Memory = ⊤
