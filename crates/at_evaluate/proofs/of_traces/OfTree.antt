-- What supports an instance of the tree is a location of a node of the tree.
use Rattle.std.proofs.Common.{◌≡◌, ℕ, nat_eq, Some}
use Rattle.at_model.specs.Paths.{Node, node_eq}
use Rattle.at_model.specs.Run.{Instance, Location}
use Rattle.at_model.specs.Rules.{Rules}
use Rattle.at_model.specs.Meaning.{content}
use Rattle.at_model.specs.of_fixpoints.Evaluations.{forms}
use Rattle.at_model.specs.of_fixpoints.Resting.{Supports}
use Rattle.at_model.specs.Alike.{Names}
use Rattle.at_model.specs.Touches.{node_of}
use Rattle.at_model.proofs.Nodes.{same_like, nat_eq-is, node_eq-is}
use Rattle.at_model.proofs.of_likeness.CarryingCircles.{names_agree}
use Rattle.at_model.proofs.of_formulas.CarriedByFormulas.{supports_there}
use Rattle.at_model.proofs.of_formulas.FormulasAlike.{evaluation-like}
use Rattle.at_store.specs.Shown.{Shown, IsIdle, contents, numbers, path, tree}
use Rattle.at_store.specs.Memory.{class_in}
use Rattle.at_store.specs.View.{memory_of}
use Rattle.at_store.proofs.Found.{path_injective}
use Rattle.at_store.proofs.Relabelled.{contents_alike}
use Rattle.at_store.proofs.of_edits.TouchesTold.{node_there}
use Rattle.at_evaluate.specs.Valued.{meaning}
use Rattle.at_evaluate.specs.Right.{IsThere}

pub supported_there : (rules : Rules) (s : Shown) → IsIdle s → (i : Instance ℕ) (l : Location ℕ) → IsThere s i
    → Supports (contents s) (meaning rules) l i → (n : Node) × (path s (node_of l) ≡ Some n)
supported_there rules s idle i l (j, like) rests =
    let once = path_injective (numbers s) in
    let alike = evaluation-like rules nat_eq node_eq (same_like nat_eq node_eq nat_eq-is node_eq-is (path s) once) in
    let (m, named, there) = supports_there (names_agree (path s) once) (contents s) (content (tree s)) (meaning rules)
    (forms rules) alike i j l
    (like, λ x h. contents_alike (class_in (memory_of s.slab)) (numbers s) idle.keeps.apart x) rests in
    (node_of m, node_there (Names (path s)) l m named)
