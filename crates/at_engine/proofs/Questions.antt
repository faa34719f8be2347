-- What the machine makes of a question, step by step.
use Rattle.std.proofs.Common.{◌≡◌, ℕ, Bool, true, false, if◌then◌else◌, List, length, map, Option, Some, None, option_and_then, ap, ◌∙◌}
use Rattle.at_model.specs.Trees.{Tree, class_of}
use Rattle.at_model.specs.Paths.{Node, tree_at}
use Rattle.at_model.specs.Run.{Value}
use Rattle.at_model.specs.Rules.{Rules, attribute_asked}
use Rattle.at_model.specs.Lines.{Place, Argument, Ask}
use Rattle.at_model.specs.Machine.{State, Verdict, Refuses, Asks, each, node_named, obeyed, questioned, suit, value_named}
use Rattle.at_model.specs.Replies as code

module _ (rules : Rules) (s : State) (session : ℕ) (place : Place) (name : List ℕ) (arguments : List Argument) where
  abbrev by_values : Node → Option (List (Value Node)) → Verdict
  by_values n o = elim o as (λ _. Verdict) [ None ↦ Refuses code.Path | Some vs ↦ questioned rules s.tree n name vs ]

  abbrev by_node : Option Node → Verdict
  by_node o = elim o as (λ _. Verdict) [ None ↦ Refuses code.Path | Some n ↦ by_values n (each (map (value_named rules.classes s session) arguments)) ]

  pub asked_nowhere : node_named rules.classes s session place ≡ None → obeyed rules s session (Ask place name arguments) ≡ Refuses code.Path
  asked_nowhere e = ap by_node e

  module _ (n : Node) (named : node_named rules.classes s session place ≡ Some n) where
    pub asked_of_nothing : each (map (value_named rules.classes s session) arguments) ≡ None → obeyed rules s session (Ask place name arguments) ≡ Refuses code.Path
    asked_of_nothing e = ap by_node named ∙ ap (by_values n) e

    module _ (u : Tree) (there : tree_at s.tree n ≡ Some u) (vs : List (Value Node)) (values : each (map (value_named rules.classes s session) arguments) ≡ Some vs) where
      abbrev by_fit : ℕ → Bool → Verdict
      by_fit a b = if b then Asks (record { node = n; attribute = a; arguments = vs }) else Refuses code.Arguments

      abbrev by_attribute : Option ℕ → Verdict
      by_attribute o = elim o as (λ _. Verdict) [ None ↦ Refuses code.Attribute | Some a ↦ by_fit a (suit rules s.tree a vs) ]

      by_name : (o : Option ℕ) → attribute_asked rules (class_of u) name (length vs) ≡ o
          → obeyed rules s session (Ask place name arguments) ≡ by_attribute o
      by_name o e = ap by_node named ∙ ap (by_values n) values
          ∙ ap (λ (x : Option Tree). by_attribute (option_and_then (λ y. attribute_asked rules (class_of y) name
          (length vs)) x)) there ∙ ap by_attribute e

      pub asked_strangely : attribute_asked rules (class_of u) name (length vs) ≡ None
          → obeyed rules s session (Ask place name arguments) ≡ Refuses code.Attribute
      asked_strangely e = by_name None e

      module _ (a : ℕ) (is : attribute_asked rules (class_of u) name (length vs) ≡ Some a) where
        pub asked_unfitly : suit rules s.tree a vs ≡ false → obeyed rules s session (Ask place name arguments) ≡ Refuses code.Arguments
        asked_unfitly e = by_name (Some a) is ∙ ap (by_fit a) e

        pub asked_fitly : suit rules s.tree a vs ≡ true → obeyed rules s session (Ask place name arguments) ≡ Asks (record { node = n; attribute = a; arguments = vs })
        asked_fitly e = by_name (Some a) is ∙ ap (by_fit a) e
