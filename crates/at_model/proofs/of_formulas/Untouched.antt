-- What an edit doesn't touch is carried by formulas, and what is made of nodes of a tree leads to what is.
use Rattle.std.proofs.Common.{◌≡◌, true, Ok, sym, ◌∙◌}
use Rattle.at_model.specs.Trees.{Tree, conforms}
use Rattle.at_model.specs.Paths.{Node, node_eq}
use Rattle.at_model.specs.Run.{Instance}
use Rattle.at_model.specs.Rules.{Rules}
use Rattle.at_model.specs.Meaning.{content}
use Rattle.at_model.specs.Support.{IsInstanceThere}
use Rattle.at_model.specs.Alike.{Names}
use Rattle.at_model.specs.Edits.{Edit, carried, edited}
use Rattle.at_model.specs.of_fixpoints.Evaluations.{forms}
use Rattle.at_model.specs.of_fixpoints.Resting.{IsUntouched, Leads}
use Rattle.at_model.specs.of_fixpoints.Likeness.{AlikeBelow, FormsLike}
use Rattle.at_model.proofs.WithinTree.{Within, alike_within, instance_within, same_within, values_there}
use Rattle.at_model.proofs.of_edits.Edited.{carried_apart, edited_alike}
use Rattle.at_model.proofs.of_likeness.CarryingCircles.{Agrees, names_agree}
use Rattle.at_model.proofs.of_formulas.CarriedByFormulas.{leads_there}
use Rattle.at_model.proofs.of_formulas.FormulasAlike.{evaluation-like, forms-like}

-- nodes are told apart in both trees
pub agree : (e : Edit) → Agrees (Names (carried e))
agree e = names_agree (carried e) (carried_apart e)

pub like : (rules : Rules) (e : Edit) → FormsLike (Names (carried e)) (forms rules) (forms rules)
like rules e = forms-like (carried e) (carried_apart e) rules

pub below : (rules : Rules) (t u : Tree) (e : Edit) (i : Instance Node) → conforms rules.classes t 0 ≡ true →
    edited rules.classes t e ≡ Ok u → IsUntouched rules t e i →
    AlikeBelow (Names (carried e)) (content t) (content u) (forms rules) i
below rules t u e i ok is free l rests = edited_alike rules.classes t ok e u is l (free l rests)

within_agree : (t : Tree) → Agrees (Within t)
within_agree t a b c d r s = (λ e. sym r.0 ∙ e ∙ s.0, λ e. r.0 ∙ e ∙ sym s.0)

-- it leads to what is made of nodes of the tree
pub forms_stay : (rules : Rules) (t : Tree) (i j : Instance Node) → IsInstanceThere t i →
    Leads (content t) (forms rules) i j → IsInstanceThere t j
forms_stay rules t i j h l =
    let (k, s, g) = leads_there (within_agree t) (content t) (content t) (forms rules) (forms rules)
    (evaluation-like rules node_eq node_eq (same_within t)) i j i
    (instance_within t i h, λ l u. alike_within t l) l in
    record { node = s.0.node.1; arguments = values_there t s.0.arguments }
