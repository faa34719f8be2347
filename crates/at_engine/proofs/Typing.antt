-- What is asked is well typed, and what holds of the rules and of the tokens holds after each line.
use Rattle.std.proofs.Common.{◌≡◌, ℕ, Bool, true, ◌&&◌, List, [], ◌∷◌, length, Option, Some, None, sym, ap, subst}
use Rattle.std.specs.Str.{bytes_eq}
use Rattle.at_model.specs.Classes.{AreSound, Classes, is_sub}
use Rattle.at_model.specs.Trees.{Tree, class_of}
use Rattle.at_model.specs.Paths.{Node, tree_at}
use Rattle.at_model.specs.Run.{Value, Instance}
use Rattle.at_model.specs.Rules.{Rules, Attribute, Kind, attribute_asked, attribute_named, names_asked}
use Rattle.at_model.specs.Alike.{InstanceLike, Names}
use Rattle.at_model.specs.Replies.{Reply}
use Rattle.at_model.specs.Machine.{State, Serves, fit_parameters, parameters_of}
use Rattle.at_model.specs.Asking.{IsWellFormed}
use Rattle.at_model.specs.Instances.{AnyText, IsGiven}
use Rattle.at_model.specs.TypedRuns.{ClassAt, Texts, class_at, AreArguments, IsWellTyped}
use Rattle.at_model.proofs.Options.{both}
use Rattle.at_model.proofs.of_machines.TokensKept.{tokens_served}
use Rattle.at_model.proofs.of_typing.TypedNumbers.{instance_back}
use Rattle.at_model.proofs.of_typing.TypedQuestions.{typed_of_formed}
use Rattle.at_model.proofs.of_machines.WellAsked.{an_answer, element_at}
use Rattle.at_model.proofs.of_typing.TypedTogether.{any_text}
use Rattle.at_store.specs.Shown.{Shown, path, tree}
use Rattle.at_body.specs.Typed.{class_shown}
use Rattle.at_engine.specs.Engines.{IsTyped}

-- the attribute of that name at a node that is there, with values that fit
pub formed : (rules : Rules) (t : Tree) (n : Node) (u : Tree) (name : List ℕ) (ws : List (Value Node))
    (attribute : ℕ) → tree_at t n ≡ Some u
    → attribute_asked rules (class_of u) name (length ws) ≡ Some attribute →
    fit_parameters rules.classes t (parameters_of rules attribute) ws ≡ true → IsWellFormed rules t (record { node = n; attribute = attribute; arguments = ws })
formed rules t n u name ws attribute there asked fit =
    let (z, named) = an_answer (attribute_named rules (class_of u)) (names_asked name (length ws)) attribute asked in
    let (a, at, passes) = element_at (λ a. bytes_eq a.name z && is_sub rules.classes (class_of u) a.class)
    rules.attributes attribute named in
    let (same, below) = both (bytes_eq a.name z) (is_sub rules.classes (class_of u) a.class) passes in
    let parameters : parameters_of rules attribute ≡ a.parameters = ap (λ (o : Option Attribute). elim o as (λ _. List Kind) [ None ↦ [] | Some b ↦ b.parameters ]) at in
    record { node = u; there = there; declared = a; attribute = at; has = below; fit = subst (λ ks. fit_parameters rules.classes t ks ws ≡ true) parameters fit }

any_texts : (classes : Classes) (at : ClassAt ℕ) (Allowed : Texts) (vs : List (Value ℕ)) (ks : List Kind) → AreArguments classes at Allowed vs ks → AreArguments classes at AnyText vs ks
any_texts classes at Allowed [] [] h = tt
any_texts classes at Allowed [] (k ∷ ks) h = absurd h
any_texts classes at Allowed (v ∷ vs) [] h = absurd h
any_texts classes at Allowed (v ∷ vs) (k ∷ ks) (is, allowed, are) = (is, any_text v, any_texts classes at Allowed vs ks are)

-- what stands for a well-formed instance is well typed
pub numbered_typed : (rules : Rules) (s : Shown) (i : Instance ℕ) (j : Instance Node) → InstanceLike (Names (path s)) i j → IsWellFormed rules (tree s) j → IsWellTyped rules (class_shown s) AnyText i
numbered_typed rules s i j like well =
    let w = instance_back rules (path s) (class_at (tree s)) (IsGiven rules (tree s) j.arguments) i j like (typed_of_formed rules (tree s) j well) in
    record {
      class = w.class;
      declaration = w.declaration;
      node = w.node;
      attribute = w.attribute;
      declared = w.declared;
      arguments = any_texts rules.classes (class_shown s) (IsGiven rules (tree s) j.arguments) i.arguments w.declaration.parameters w.arguments;
    }

-- after a line that was served
pub typed_served : (rules later : Rules) (said : Bool × Reply) (old new : State) (line : List ℕ) → AreSound rules.classes → IsTyped rules old → later ≡ rules → Serves rules old line new said → IsTyped later new
typed_served rules later said old new line sound typed same serves =
    subst (λ r. IsTyped r new) (sym same) (record { formed = typed.formed; circular = typed.circular; tokens = tokens_served rules sound old line new said typed.tokens serves })
