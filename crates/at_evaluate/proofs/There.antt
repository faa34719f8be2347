-- What an instance of the tree leads to is of the tree.
use Rattle.std.proofs.Common.{ℕ, nat_eq}
use Rattle.at_model.specs.Paths.{node_eq}
use Rattle.at_model.specs.Run.{Instance}
use Rattle.at_model.specs.Rules.{Rules}
use Rattle.at_model.specs.Meaning.{content}
use Rattle.at_model.specs.of_fixpoints.Evaluations.{forms}
use Rattle.at_model.specs.of_fixpoints.Resting.{Leads}
use Rattle.at_model.proofs.Nodes.{same_like, nat_eq-is, node_eq-is}
use Rattle.at_model.proofs.of_likeness.CarryingCircles.{names_agree}
use Rattle.at_model.proofs.of_formulas.CarriedByFormulas.{leads_there}
use Rattle.at_model.proofs.of_formulas.FormulasAlike.{evaluation-like}
use Rattle.at_store.specs.Shown.{Shown, IsIdle, contents, numbers, path, tree}
use Rattle.at_store.specs.Memory.{class_in}
use Rattle.at_store.specs.View.{memory_of}
use Rattle.at_store.proofs.Found.{path_injective}
use Rattle.at_store.proofs.Relabelled.{contents_alike}
use Rattle.at_evaluate.specs.Valued.{meaning}
use Rattle.at_evaluate.specs.Right.{IsThere}

module _ (rules : Rules) (s : Shown) (idle : IsIdle s) where
  -- demand leads from instances of the tree to such instances
  pub led_there : (i j : Instance ℕ) → IsThere s i → Leads (contents s) (meaning rules) i j → IsThere s j
  led_there i j (n, like) led =
      let alike = evaluation-like rules nat_eq node_eq (same_like nat_eq node_eq nat_eq-is node_eq-is (path s) (path_injective (numbers s))) in
      let agree = names_agree (path s) (path_injective (numbers s)) in
      let (m, (there, more), l) = leads_there agree (contents s) (content (tree s)) (meaning rules) (forms rules) alike i j n
      (like, λ l h. contents_alike (class_in (memory_of s.slab)) (numbers s) idle.keeps.apart l) led in
      (m, there)
