-- Over a sound tree rules that are searched for others give each well-typed instance the answers that those give it.
use Rattle.std.proofs.Common.{◌≡◌, ℕ, zero, suc, Bool, true, false, List, [], ◌∷◌, Option, Some, None, refl, sym, subst}
use Rattle.std.specs.Prelude.{IsSome, option_map}
use Rattle.at_model.specs.Classes.{is_sub}
use Rattle.at_model.specs.Trees.{Tree, class_of}
use Rattle.at_model.specs.Terms.{max_depth}
use Rattle.at_model.specs.Paths.{Node, node_eq, tree_at}
use Rattle.at_model.specs.Run.{Value, Instance, Is, Up, Run, Gives, Fails, Looks, Null}
use Rattle.at_model.specs.Bodies.{Expr, Scope, mentioned, eval}
use Rattle.at_model.specs.Rules.{Rules, OwnEquation, InheritedEquation, past_nodes, past_arguments, own_equation, inherited_equation, is_inherited, attribute_name, start_of}
use Rattle.at_model.specs.Meaning.{Answer, content}
use Rattle.at_model.specs.Alike.{neither, both}
use Rattle.at_model.specs.Kinds.{ScopeKinds}
use Rattle.at_model.specs.TypedRuns.{class_at, IsWellTyped, IsOfItsKind, IsOfScopeKinds, AreContentsTyped}
use Rattle.at_model.specs.Instances.{AnyText}
use Rattle.at_model.specs.WellFormed.{AreWellFormed, IsTreeSound}
use Rattle.at_model.specs.of_fixpoints.Formulas.{Formula, Known}
use Rattle.at_model.specs.of_fixpoints.Fixpoints.{HasValue}
use Rattle.at_model.specs.of_fixpoints.Circles.{Answers}
use Rattle.at_model.specs.of_fixpoints.Evaluations.{formula_of, by_equation, by_inherited, by_own, evaluation_within, forms}
use Rattle.at_model.proofs.WithinTree.{UpLike, parent_within}
use Rattle.at_model.proofs.of_typing.TypedEquations.{node_there, declared_inherited, declared_name}
use Rattle.at_model.proofs.of_typing.TypedTogether.{met_any}
use Rattle.at_model.proofs.of_formulas.FormulasTogether.{any_of_kind}
use Rattle.at_seek.specs.Sought.{IsSearched, IsSought}
use Rattle.at_seek.proofs.KindsKept.{other}
use Rattle.at_seek.proofs.EquationsKept.{as_other, sought_other, BothBy, OwnBodies, own_both, InheritedBodies, inherited_both}
use Rattle.at_seek.proofs.Narrowing.{gives, fails, both_look, then_narrows}
use Rattle.at_seek.proofs.Narrowed.{Plain, Nar, boolean, here_typed, eval_narrows, form_narrows}
use Rattle.at_seek.proofs.SameEnds.{holds_there, holds_back, ended_there, ended_back, atoms_there, reaches_there, reaches_back}
use Rattle.at_seek.proofs.SameCircles.{GoOn, answers_on}

module _ (rules : Rules) (own : List OwnEquation) (inherited : List InheritedEquation) (sought : IsSought rules (other rules own inherited))
    (ok : AreWellFormed rules) (t : Tree) (sound : IsTreeSound rules.classes t) where
  abbrev others : Rules
  others = other rules own inherited

  abbrev Less : {A : Type 0} → Run Node A → Run Node A → Type 0
  Less r s = Nar rules own inherited sought ok t sound r s

  contents : AreContentsTyped rules.classes (class_at t) AnyText (content t)
  contents = (met_any rules ok t sound).contents

  -- equations --------------------------------------------------------------------------------------------------------------

  body_narrows : (s : ScopeKinds) (e f : Expr) (start : Option Bool) → IsSearched rules s e f → (scope : Scope Node) → IsOfScopeKinds rules.classes (class_at t) AnyText s scope
      → Less (formula_of rules node_eq start e scope) (formula_of others node_eq start f scope)
  body_narrows s e f None p scope h =
      then_narrows (content t) (IsOfItsKind rules (class_at t)) (Plain rules own inherited sought ok t sound) (eval rules.classes node_eq e scope) (eval rules.classes node_eq f scope)
      (λ v. Gives (Known v)) (λ v. Gives (Known v)) (eval_narrows rules own inherited sought ok t sound s e f p scope h) (λ v. gives (Known v))
  body_narrows s e f (Some b) p scope h = form_narrows rules own inherited sought ok t sound b true s e f p scope h

  past_one : {A : Type 0} (vs : List (Value Node)) (r s : Run Node A) → Less (past_arguments vs r) (past_arguments vs s) → (ns : List Node)
      → Less (past_nodes ns (past_arguments vs r)) (past_nodes ns (past_arguments vs s))
  past_one vs r s p [] = p
  past_one vs r s p (n ∷ ns) =
      both_look (content t) (IsOfItsKind rules (class_at t)) (Plain rules own inherited sought ok t sound) (Is n) _ _ (past_one vs r s p ns)

  past_narrows : {A : Type 0} (vs : List (Value Node)) (r s : Run Node A) → Less r s → Less (past_arguments vs r) (past_arguments vs s)
  past_narrows [] r s p = p
  past_narrows (v ∷ vs) r s p = past_one vs r s (past_narrows vs r s p) (mentioned v)

  module _ (i : Instance Node) (w : IsWellTyped rules (class_at t) AnyText i) where
    own_narrows : (c : ℕ) → c ≡ w.class → (o q : Option Expr) → BothBy (OwnBodies rules own inherited sought c i.attribute) o q
        → Less (by_equation rules node_eq (start_of rules i.attribute) (record { this = i.node; names = i.arguments; child = None }) (Fails Null) o)
        (by_equation others node_eq (start_of rules i.attribute) (record { this = i.node; names = i.arguments; child = None }) (Fails Null) q)
    own_narrows c is None None h = fails Null
    own_narrows c is (Some e) (Some f) (b, sub, searches) =
        body_narrows (record { this = b; names = w.declaration.parameters; has_index = false }) e f (start_of rules i.attribute) (searches w.declaration w.attribute)
        (record { this = i.node; names = i.arguments; child = None })
        (record { this = (w.class, w.node, subst (λ z. is_sub rules.classes z b ≡ true) is sub); names = w.arguments; child = tt })
    own_narrows c is None (Some f) h = absurd h
    own_narrows c is (Some e) None h = absurd h

    some_class : (o : Option ℕ) → IsSome o → (c : ℕ) × (o ≡ Some c)
    some_class None h = absurd cc
    some_class (Some c) h = (c, refl)

    above_narrows : w.declaration.is_inherited ≡ true → (n p : Node) (part : ℕ) (r s : Run Node (Formula Node)) → IsSome (class_at t n) → IsSome (class_at t p) → Less r s
        → (o q : Option Expr) → BothBy (InheritedBodies rules own inherited sought (content t (Is p)) (attribute_name rules i.attribute)) o q
        → Less (by_equation rules node_eq (start_of rules i.attribute) (record { this = p; names = i.arguments; child = Some n }) r o)
        (by_equation others node_eq (start_of rules i.attribute) (record { this = p; names = i.arguments; child = Some n }) s q)
    above_narrows inherits n p part r s there up h None None x = h
    above_narrows inherits n p part r s there up h (Some e) (Some f) (b, sub, index, searches) =
        let (c, g) = some_class (class_at t p) up in
        body_narrows (record { this = b; names = w.declaration.parameters; has_index = index }) e f (start_of rules i.attribute)
        (searches i.attribute w.declaration w.attribute inherits (sym (declared_name rules i.attribute w.declaration w.attribute)))
        (record { this = p; names = i.arguments; child = Some n })
        (record { this = (c, g, subst (λ z. is_sub rules.classes z b ≡ true) (contents.class p c g) sub); names = w.arguments; child = there })
    above_narrows inherits n p part r s there up h None (Some f) x = absurd x
    above_narrows inherits n p part r s there up h (Some e) None x = absurd x

    abbrev Upward : Rules → ℕ → Node → Run Node (Formula Node)
    Upward some height n = by_inherited some node_eq (start_of rules i.attribute) (attribute_name rules i.attribute) i.arguments height n

    at_parent : w.declaration.is_inherited ≡ true → (height : ℕ) (n : Node) → IsSome (tree_at t n)
        → ((m : Node) → IsSome (tree_at t m) → Less (Upward rules height m) (Upward others height m)) → (o p : Option (Node × ℕ)) → UpLike t o p
        → Less (elim o as (λ _. Run Node (Formula Node)) [
          | None ↦ Fails Null
          | Some p ↦ Looks (Is p.0)
              (λ c. by_equation rules node_eq (start_of rules i.attribute) (record { this = p.0; names = i.arguments; child = Some n })
              (Upward rules height p.0) (inherited_equation rules c p.1 (attribute_name rules i.attribute)))
        ]) (elim o as (λ _. Run Node (Formula Node)) [
          | None ↦ Fails Null
          | Some p ↦ Looks (Is p.0)
              (λ c. by_equation others node_eq (start_of rules i.attribute) (record { this = p.0; names = i.arguments; child = Some n })
              (Upward others height p.0) (inherited_equation others c p.1 (attribute_name rules i.attribute)))
        ])
    at_parent inherits height n there rest _ _ neither = fails Null
    at_parent inherits height n there rest _ _ (both {a = p} ((same, up), part)) =
        both_look (content t) (IsOfItsKind rules (class_at t)) (Plain rules own inherited sought ok t sound) (Is p.0) _ _
        (above_narrows inherits n p.0 p.1 (Upward rules height p.0) (Upward others height p.0) (node_there t n there) (node_there t p.0 up) (rest p.0 up)
        (inherited_equation rules (content t (Is p.0)) p.1 (attribute_name rules i.attribute))
        (inherited_equation others (content t (Is p.0)) p.1 (attribute_name rules i.attribute))
        (inherited_both rules own inherited sought (content t (Is p.0)) p.1 (attribute_name rules i.attribute)))

    upward_narrows : w.declaration.is_inherited ≡ true → (height : ℕ) (n : Node) → IsSome (tree_at t n) → Less (Upward rules height n) (Upward others height n)
    upward_narrows inherits zero n there = fails Null
    upward_narrows inherits (suc height) n there =
        both_look (content t) (IsOfItsKind rules (class_at t)) (Plain rules own inherited sought ok t sound) (Up n) _ _
        (at_parent inherits height n there (upward_narrows inherits height) (content t (Up n)) (content t (Up n)) (parent_within t n there))

    pick : {A : Type 0} (b c : Bool) (r s r' s' : Run Node A) → c ≡ b → (b ≡ true → Less r r') → (b ≡ false → Less s s')
        → Less (elim c as (λ _. Run Node A) [ true ↦ r | false ↦ s ]) (elim c as (λ _. Run Node A) [ true ↦ r' | false ↦ s' ])
    pick b true r s r' s' e f g = f (sym e)
    pick b false r s r' s' e f g = g (sym e)

    is_there : (o : Option Tree) (c : ℕ) → option_map class_of o ≡ Some c → IsSome o
    is_there None c e = absurd cc
    is_there (Some u) c e = refl

    formula_narrows : Less (evaluation_within max_depth rules node_eq i) (evaluation_within max_depth others node_eq i)
    formula_narrows =
        both_look (content t) (IsOfItsKind rules (class_at t)) (Plain rules own inherited sought ok t sound) (Is i.node) _ _
        (past_narrows i.arguments _ _
        (pick w.declaration.is_inherited (is_inherited rules i.attribute) (Upward rules max_depth i.node) (by_own rules node_eq i (content t (Is i.node)))
        (Upward others max_depth i.node) (by_own others node_eq i (content t (Is i.node)))
        (declared_inherited rules i.attribute w.declaration w.declaration.is_inherited w.attribute refl)
        (λ inherits. upward_narrows inherits max_depth i.node (is_there (tree_at t i.node) w.class w.node))
        (λ its_own. own_narrows (content t (Is i.node)) (contents.class i.node w.class w.node) (own_equation rules (content t (Is i.node)) i.attribute)
        (own_equation others (content t (Is i.node)) i.attribute) (own_both rules own inherited sought (content t (Is i.node)) i.attribute))))

  -- answers ----------------------------------------------------------------------------------------------------------------

  abbrev P : Instance Node → Type 0
  P i = IsWellTyped rules (class_at t) AnyText i

  kinds : (i : Instance Node) (v : Value Node) → P i → HasValue (content t) (forms rules) i v → IsOfItsKind rules (class_at t) i v
  kinds i v w h = any_of_kind rules ok (boolean rules own inherited sought ok t sound) t sound i v w h

  abbrev One : Instance Node → Run Node (Formula Node)
  One i = evaluation_within max_depth rules node_eq i

  abbrev Two : Instance Node → Run Node (Formula Node)
  Two i = evaluation_within max_depth others node_eq i

  on : GoOn (content t) P (forms rules) (forms others)
  on = record {
    outcome = λ i o w h. holds_there rules (class_at t) AnyText (content t) (Plain rules own inherited sought ok t sound) (start_of rules) One Two
        (here_typed rules own inherited sought ok t sound) kinds (λ i v h. (h.0, h.1)) formula_narrows i o w h;
    none = λ i w none o h. none o (holds_back rules (class_at t) AnyText (content t) (Plain rules own inherited sought ok t sound) (start_of rules) One Two
        (here_typed rules own inherited sought ok t sound) kinds (λ i v h. (h.0, h.1)) formula_narrows i o w h);
    ended = λ i e w h. ended_there rules (class_at t) AnyText (content t) (Plain rules own inherited sought ok t sound) (start_of rules) One Two
        (here_typed rules own inherited sought ok t sound) kinds (λ i v h. (h.0, h.1)) formula_narrows i e w h;
    spread = λ i f w h k a. atoms_there rules (class_at t) AnyText (content t) (Plain rules own inherited sought ok t sound) (start_of rules) One Two
        (here_typed rules own inherited sought ok t sound) kinds (λ i v h. (h.0, h.1)) formula_narrows i f w h k a;
    wants = λ i k w h.
        let (x, p) = reaches_there rules (class_at t) AnyText (content t) (Plain rules own inherited sought ok t sound) (start_of rules) One Two
        (here_typed rules own inherited sought ok t sound) kinds (λ i v h. (h.0, h.1)) formula_narrows i k w h.1 h.0 in (
          (
            x,
            λ o y. h.1 o (holds_back rules (class_at t) AnyText (content t) (Plain rules own inherited sought ok t sound) (start_of rules) One Two
                (here_typed rules own inherited sought ok t sound) kinds (λ i v h. (h.0, h.1)) formula_narrows k o p y),
          ),
          p,
        );
  }

  back : GoOn (content t) P (forms others) (forms rules)
  back = record {
    outcome = λ i o w h. holds_back rules (class_at t) AnyText (content t) (Plain rules own inherited sought ok t sound) (start_of rules) One Two
        (here_typed rules own inherited sought ok t sound) kinds (λ i v h. (h.0, h.1)) formula_narrows i o w h;
    none = λ i w none o h. none o (holds_there rules (class_at t) AnyText (content t) (Plain rules own inherited sought ok t sound) (start_of rules) One Two
        (here_typed rules own inherited sought ok t sound) kinds (λ i v h. (h.0, h.1)) formula_narrows i o w h);
    ended = λ i e w h. ended_back rules (class_at t) AnyText (content t) (Plain rules own inherited sought ok t sound) (start_of rules) One Two
        (here_typed rules own inherited sought ok t sound) kinds (λ i v h. (h.0, h.1)) formula_narrows i e w h;
    spread = λ i f w h k a. atoms_there rules (class_at t) AnyText (content t) (Plain rules own inherited sought ok t sound) (start_of rules) One Two
        (here_typed rules own inherited sought ok t sound) kinds (λ i v h. (h.0, h.1)) formula_narrows i f w
        (ended_back rules (class_at t) AnyText (content t) (Plain rules own inherited sought ok t sound) (start_of rules) One Two
        (here_typed rules own inherited sought ok t sound) kinds (λ i v h. (h.0, h.1)) formula_narrows i _ w h) k a;
    wants = λ i k w h.
        let (x, p) = reaches_back rules (class_at t) AnyText (content t) (Plain rules own inherited sought ok t sound) (start_of rules) One Two
        (here_typed rules own inherited sought ok t sound) kinds (λ i v h. (h.0, h.1)) formula_narrows i k w h.0 in (
          (
            x,
            λ o y. h.1 o (holds_there rules (class_at t) AnyText (content t) (Plain rules own inherited sought ok t sound) (start_of rules) One Two
                (here_typed rules own inherited sought ok t sound) kinds (λ i v h. (h.0, h.1)) formula_narrows k o p y),
          ),
          p,
        );
  }

  pub answers_to : (q : Instance Node) (a : Answer Node) → P q → Answers (content t) (forms rules) q a → Answers (content t) (forms others) q a
  answers_to q a w h = answers_on (content t) P (forms rules) (forms others) on q a w h

  pub answers_from : (q : Instance Node) (a : Answer Node) → P q → Answers (content t) (forms others) q a → Answers (content t) (forms rules) q a
  answers_from q a w h = answers_on (content t) P (forms others) (forms rules) back q a w h

-- for rules as they come ---------------------------------------------------------------------------------------------------

pub same_to : (rules also : Rules) → IsSought rules also → AreWellFormed rules → (t : Tree) → IsTreeSound rules.classes t → (q : Instance Node) (a : Answer Node)
    → IsWellTyped rules (class_at t) AnyText q → Answers (content t) (forms rules) q a → Answers (content t) (forms also) q a
same_to rules also s ok t sound q a w h =
    subst (λ (x : Rules). Answers (content t) (forms x) q a) (as_other rules also s)
    (answers_to rules also.own also.inherited (sought_other rules also s) ok t sound q a w h)

pub same_from : (rules also : Rules) → IsSought rules also → AreWellFormed rules → (t : Tree) → IsTreeSound rules.classes t → (q : Instance Node) (a : Answer Node)
    → IsWellTyped rules (class_at t) AnyText q → Answers (content t) (forms also) q a → Answers (content t) (forms rules) q a
same_from rules also s ok t sound q a w h =
    answers_from rules also.own also.inherited (sought_other rules also s) ok t sound q a w
    (subst (λ (x : Rules). Answers (content t) (forms x) q a) (sym (as_other rules also s)) h)
