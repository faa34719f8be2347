-- What the numbers of a store stand for, in questions.
use Rattle.std.proofs.Common.{ℕ, nat_eq}
use Rattle.at_model.specs.Paths.{Node, node_eq}
use Rattle.at_model.specs.Run.{Instance, Location}
use Rattle.at_model.specs.Rules.{Rules}
use Rattle.at_model.specs.Meaning.{Answer, content}
use Rattle.at_model.specs.Machine.{AnswersIn}
use Rattle.at_model.specs.Alike.{AlikeAt, AnswerLike, InstanceLike, Names}
use Rattle.at_model.specs.of_fixpoints.Circles.{Answers}
use Rattle.at_model.specs.of_fixpoints.Evaluations.{forms}
use Rattle.at_model.proofs.Nodes.{same_like, nat_eq-is, node_eq-is}
use Rattle.at_model.proofs.of_formulas.CarriedSearches.{answer_there}
use Rattle.at_model.proofs.of_formulas.FormulasAlike.{evaluation-like}
use Rattle.at_model.proofs.of_likeness.CarryingCircles.{names_agree}
use Rattle.at_store.specs.Memory.{class_in}
use Rattle.at_store.specs.Shown.{IsIdle, Shown, contents, numbers, path, tree}
use Rattle.at_store.specs.View.{memory_of}
use Rattle.at_store.proofs.Found.{path_injective}
use Rattle.at_store.proofs.Relabelled.{contents_alike}
use Rattle.at_evaluate.specs.Valued.{meaning}

-- what is shown at a number is what the tree shows at its node
pub shown_alike : (s : Shown) → IsIdle s → (l : Location ℕ) → AlikeAt (Names (path s)) (contents s) (content (tree s)) l
shown_alike s idle l = contents_alike (class_in (memory_of s.slab)) (numbers s) idle.keeps.apart l

-- an answer over the numbers is one over the nodes
pub answer_named : (rules : Rules) (s : Shown) → IsIdle s → (i : Instance ℕ) (q : Instance Node) (a : Answer ℕ)
    → InstanceLike (Names (path s)) i q → Answers (contents s) (meaning rules) i a
    → (b : Answer Node) × AnswerLike (Names (path s)) a b × AnswersIn rules (tree s) q b
answer_named rules s idle i q a like h =
    let one = path_injective (numbers s) in
    answer_there (names_agree (path s) one) (contents s) (content (tree s)) (meaning rules) (forms rules)
    (evaluation-like rules nat_eq node_eq (same_like nat_eq node_eq nat_eq-is node_eq-is (path s) one)) i q a like
    (λ l u. shown_alike s idle l) h
