-- How an instance is evaluated to its formula, by its equation.
use Rattle.std.specs.Prelude.{ℕ, zero, suc, Bool, true, false, List, Option, Some, None}
use Rattle.at_model.specs.Terms.{max_depth}
use Rattle.at_model.specs.Paths.{Node, node_eq}
use Rattle.at_model.specs.Run.{Value, Instance, Is, Up, Null, Run, Gives, Fails, Looks, ◌>>=◌}
use Rattle.at_model.specs.Bodies.{Expr, Scope, eval}
use Rattle.at_model.specs.Rules.{Rules, past_arguments, own_equation, inherited_equation, is_inherited, attribute_name, start_of}
use Rattle.at_model.specs.of_fixpoints.Formulas.{Formula, Known, Forms, form}

-- the formula of a body, in an equation of an attribute with this start; a value where the attribute isn't circular
abbrev pub formula_of : {N : Type 0} → Rules → (N → N → Bool) → Option Bool → Expr → Scope N → Run N (Formula N)
formula_of rules same None e scope = eval rules.classes same e scope >>= λ v. Gives (Known v)
formula_of rules same (Some b) e scope = form rules.classes same (start_of rules) b true e scope

-- by the equation where there is one, else that evaluation
abbrev pub by_equation : {N : Type 0} → Rules → (N → N → Bool) → Option Bool → Scope N → Run N (Formula N) → Option Expr → Run N (Formula N)
by_equation rules same start scope r None = r
by_equation rules same start scope r (Some e) = formula_of rules same start e scope

-- from a node upward to the first one whose class has an equation for the attribute and the component passed
abbrev pub by_inherited : {N : Type 0} → Rules → (N → N → Bool) → Option Bool → List ℕ → List (Value N) → (height : ℕ) → N → Run N (Formula N)
by_inherited rules same start name vs zero n = Fails Null
by_inherited rules same start name vs (suc height) n = Looks (Up n) (elim [
  | None ↦ Fails Null
  | Some p ↦ Looks (Is p.0) (λ c. by_equation rules same start (record { this = p.0; names = vs; child = Some n })
      (by_inherited rules same start name vs height p.0) (inherited_equation rules c p.1 name))
])

-- by the node's own equation
abbrev pub by_own : {N : Type 0} → Rules → (N → N → Bool) → Instance N → ℕ → Run N (Formula N)
by_own rules same i c = by_equation rules same (start_of rules i.attribute)
    (record { this = i.node; names = i.arguments; child = None }) (Fails Null) (own_equation rules c i.attribute)

-- the evaluation of an instance, in a tree where at most this many nodes stand above one
abbrev pub evaluation_within : {N : Type 0} → (height : ℕ) → Rules → (N → N → Bool) → Instance N → Run N (Formula N)
evaluation_within height rules same i = Looks (Is i.node) (λ c. past_arguments i.arguments (elim (is_inherited rules i.attribute) [
  | true ↦ by_inherited rules same (start_of rules i.attribute) (attribute_name rules i.attribute) i.arguments height i.node
  | false ↦ by_own rules same i c
]))

-- in trees within the limits
abbrev pub evaluation : {N : Type 0} → Rules → (N → N → Bool) → Forms N
evaluation rules same = record { starts = start_of rules; formula = λ i. evaluation_within max_depth rules same i }

-- of the instances of a tree
abbrev pub forms : Rules → Forms Node
forms rules = evaluation rules node_eq
