-- The path of a node can be written.
use Rattle.std.proofs.Common.{◌≡◌, ◌<◌, ℕ, [], ◌∷◌, ◌++◌, sym, subst}
use Rattle.at_model.specs.Classes.{Component}
use Rattle.at_model.specs.Names.{IsName}
use Rattle.at_model.specs.Paths.{IsPath, IsStep, Path, Step, index_in}
use Rattle.at_model.proofs.PathsWritten.{index_written}

-- one more step by a component
pub step_written : (front : Path) (p : Component) (i : ℕ) (s : Step) → IsPath front → IsName p.name → i < 16777216 →
    s ≡ record { part = p.name; index = index_in p.shape i } → IsPath (front ++ s ∷ [])
step_written front p i s written named small is = longer front written
  where
    last : IsStep s
    last = subst IsStep (sym is) (named, index_written p.shape i small)

    longer : (ss : Path) → IsPath ss → IsPath (ss ++ s ∷ [])
    longer [] h = (last, tt)
    longer (x ∷ xs) h = (h.0, longer xs h.1)
