-- What becomes of the words of a question.
use Rattle.std.proofs.Common.{◌≡◌, ℕ, Bool, true, false, List, [], length, map, Option, Some, None, refl, sym, ap, ◌∙◌, subst}
use Rattle.std.proofs.lemmas.List.{length-map}
use Rattle.at_model.specs.Trees.{Tree, class_of}
use Rattle.at_model.specs.Paths.{Node, tree_at}
use Rattle.at_model.specs.Run.{Value, Instance, Contents, Location, Is}
use Rattle.at_model.specs.Rules.{Rules, attribute_asked}
use Rattle.at_model.specs.Asking.{IsWellFormed}
use Rattle.at_model.specs.Meaning.{content}
use Rattle.at_model.specs.Lines.{Place, Argument, Ask}
use Rattle.at_model.specs.Names.{IsName}
use Rattle.at_model.specs.Replies as code
use Rattle.at_model.specs.Machine.{State, Verdict, Asks, Refuses, each, node_named, obeyed, parameters_of, suit, value_named}
use Rattle.at_model.specs.Alike.{ListLike, ValueLike, InstanceLike, AlikeAt, Names}
use Rattle.at_model.proofs.Options.{both}
use Rattle.at_model.proofs.of_likeness.ExpressionsAlike.{length-like}
use Rattle.at_model.proofs.of_texts.Words.{name_filled}
use Rattle.at_body.specs.Values.{value_view}
use Rattle.at_body.specs.declared.value.Value.{Value as ValueCode}
use Rattle.at_store.specs.Shown.{IsIdle, Shown, contents, path}
use Rattle.at_engine.specs.Marks.{Mark}
use Rattle.at_engine.specs.Answered.{question, AreValuesOf}
use Rattle.at_engine.specs.Fitting.{fit_numbers}
use Rattle.at_engine.specs.Naming.{IsNumberOf}
use Rattle.at_engine.specs.Seen.{state_seen}
use Rattle.at_engine.specs.Asking.{IsInstanceOf}
use Rattle.at_engine.proofs.of_asking.FittingAlike.{class_at, suit_like}
use Rattle.at_engine.proofs.Typing.{formed, numbered_typed}
use Rattle.at_engine.proofs.NamingLemmas.{tree_there}
use Rattle.at_engine.proofs.Numbered.{shown_alike}
use Rattle.at_engine.proofs.Questions.{asked_of_nothing, asked_strangely, asked_unfitly, asked_fitly}

module _ (rules : Rules) (s : State) (session : ℕ) (place : Place) (name : List ℕ) (arguments : List Argument) where
  module _ (n : Node) (named : node_named rules.classes s session place ≡ Some n) where
    module _ (path : ℕ → Option Node) (look : Contents ℕ)
        (alike : (l : Location ℕ) → AlikeAt (Names path) look (content s.tree) l)
        (found : (k : ℕ) (n : Node) → path k ≡ Some n → (u : Tree) × (tree_at s.tree n ≡ Some u))
        (k : ℕ) (p : path k ≡ Some n)
        (vs : List (Value ℕ)) (ws : List (Value Node)) (values : each (map (value_named rules.classes s session) arguments) ≡ Some ws) (like : ListLike (ValueLike (Names path)) vs ws) where
      -- the attribute of the class that is shown is that of the node's
      by_class : (o : Option ℕ) → attribute_asked rules (look (Is k)) name (length vs) ≡ o → (u : Tree)
          → tree_at s.tree n ≡ Some u → attribute_asked rules (class_of u) name (length ws) ≡ o
      by_class o e u there = ap (attribute_asked rules (class_of u) name) (sym (length-like like))
          ∙ ap (λ c. attribute_asked rules c name (length vs))
          (sym (class_at rules.classes path look s.tree alike found k n u p there)) ∙ e

      by_numbers : (a : ℕ) (b : Bool) → fit_numbers rules.classes look (parameters_of rules a) vs ≡ b → suit rules s.tree a ws ≡ b
      by_numbers a b e =
          sym (suit_like rules.classes path look s.tree alike found (parameters_of rules a) like) ∙ e

      pub strangely_is : attribute_asked rules (look (Is k)) name (length vs) ≡ None
          → obeyed rules s session (Ask place name arguments) ≡ Refuses code.Attribute
      strangely_is e = let (u, there) = found k n p in asked_strangely rules s session place name arguments n named u there ws values (by_class None e u there)

      module _ (a : ℕ) (is : attribute_asked rules (look (Is k)) name (length vs) ≡ Some a) where
        pub unfitly_is : fit_numbers rules.classes look (parameters_of rules a) vs ≡ false → obeyed rules s session (Ask place name arguments) ≡ Refuses code.Arguments
        unfitly_is e = let (u, there) = found k n p in asked_unfitly rules s session place name arguments n named u there ws values a (by_class (Some a) is u there) (by_numbers a false e)

        abbrev pub asked_for : Instance Node
        asked_for = record { node = n; attribute = a; arguments = ws }

        pub fitly_is : fit_numbers rules.classes look (parameters_of rules a) vs ≡ true → obeyed rules s session (Ask place name arguments) ≡ Asks asked_for
        fitly_is e = let (u, there) = found k n p in asked_fitly rules s session place name arguments n named u there ws values a (by_class (Some a) is u there) (by_numbers a true e)

        pub fitly_formed : fit_numbers rules.classes look (parameters_of rules a) vs ≡ true → IsWellFormed rules s.tree asked_for
        fitly_formed e = let (u, there) = found k n p in formed rules s.tree n u name ws a there (by_class (Some a) is u there) (both _ _ (by_numbers a true e)).0

-- the same, in the words of a store
module _ (rules : Rules) (s : Shown) (idle : IsIdle s) (marks : List Mark) (session : ℕ) (place : Place) (name : List ℕ) (arguments : List Argument) where
  abbrev by_words : State
  by_words = state_seen s marks

  abbrev given : Option (List (Value Node))
  given = each (map (value_named rules.classes by_words session) arguments)

  abbrev becomes : Verdict
  becomes = obeyed rules by_words session (Ask place name arguments)

  module _ (k : ℕ) (number : IsNumberOf s (node_named rules.classes by_words session place) (Some k)) where
    pub asked_no_values : AreValuesOf (path s) given None → becomes ≡ Refuses code.Path
    asked_no_values e = asked_of_nothing rules by_words session place name arguments number.0 number.1 e

    module _ (vs : List ValueCode) (values : AreValuesOf (path s) given (Some vs)) where
      abbrev pub asked_of : ℕ → Instance Node
      asked_of a = record { node = number.0; attribute = a; arguments = values.0 }

      pub asked_like : (a : ℕ) → InstanceLike (Names (path s)) (question k a vs) (asked_of a)
      asked_like a = record { node = number.2; attribute = refl; arguments = values.2 }

      module _ (class : ℕ) (is_class : class ≡ contents s (Is k)) (is_name : IsName name) (count : ℕ)
          (many : count ≡ length vs) where
        attribute_is : (o : Option ℕ) → ((name ≡ [] → ⊥) → o ≡ attribute_asked rules class name count)
            → attribute_asked rules (contents s (Is k)) name (length (map value_view vs)) ≡ o
        attribute_is o h = ap (λ c. attribute_asked rules c name (length (map value_view vs))) (sym is_class)
            ∙ ap (attribute_asked rules class name) (length-map vs value_view ∙ sym many)
            ∙ sym (h (name_filled name is_name.0))

        pub asked_no_attribute : ((name ≡ [] → ⊥) → None ≡ attribute_asked rules class name count)
            → becomes ≡ Refuses code.Attribute
        asked_no_attribute h = strangely_is rules by_words session place name arguments number.0 number.1 (path s) (contents s) (shown_alike s idle) (tree_there s) k number.2 (map value_view vs) values.0 values.1 values.2 (attribute_is None h)

        module _ (a : ℕ) (is : (name ≡ [] → ⊥) → Some a ≡ attribute_asked rules class name count)
            (seen : List ValueCode) (same : seen ≡ vs) where
          fit_is : (b : Bool) → b ≡ fit_numbers rules.classes (contents s) (parameters_of rules a) (map value_view seen) → fit_numbers rules.classes (contents s) (parameters_of rules a) (map value_view vs) ≡ b
          fit_is b h = ap (λ (xs : List ValueCode). fit_numbers rules.classes (contents s) (parameters_of rules a) (map value_view xs)) (sym same) ∙ sym h

          pub asked_unfit : false ≡ fit_numbers rules.classes (contents s) (parameters_of rules a) (map value_view seen) → becomes ≡ Refuses code.Arguments
          asked_unfit h = unfitly_is rules by_words session place name arguments number.0 number.1 (path s) (contents s) (shown_alike s idle) (tree_there s) k number.2 (map value_view vs) values.0 values.1 values.2 a (attribute_is (Some a) is) (fit_is false h)

          -- the instance is asked for, and well typed by numbers
          pub asked_fit : true ≡ fit_numbers rules.classes (contents s) (parameters_of rules a) (map value_view seen) → (i : Instance ℕ) → i ≡ question k a vs → IsInstanceOf rules s becomes i
          asked_fit h i e =
              let fits = fit_is true h in
              let here = attribute_is (Some a) is in
              subst (IsInstanceOf rules s becomes) (sym e) (record {
                named = asked_of a;
                asks = fitly_is rules by_words session place name arguments number.0 number.1 (path s) (contents s) (shown_alike s idle) (tree_there s) k number.2 (map value_view vs) values.0 values.1 values.2 a here fits;
                like = asked_like a;
                typed = numbered_typed rules s (question k a vs) (asked_of a) (asked_like a)
                    (fitly_formed rules by_words session place name arguments number.0 number.1 (path s) (contents s) (shown_alike s idle) (tree_there s) k number.2 (map value_view vs) values.0 values.1 values.2 a here fits);
              })
