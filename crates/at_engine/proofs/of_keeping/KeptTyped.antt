-- Kept instances stay well typed: over an edit that is done, and where what is led to from a well-typed one comes to be kept; so what is kept is whole.
use Rattle.std.proofs.Common.{◌≡◌, ◌∙◌, ◌≤◌, ℕ, true, false, List, [], ◌∷◌, Option, Some, None, Ok, option_and_then, option_map, refl, sym, ap, subst}
use Rattle.std.specs.Prelude.{IsSome, slice_get}
use Rattle.std.specs.List.{AllByRecursion}
use Rattle.at_model.specs.Alike.{InstanceLike, LocationLike, ListLike, end, more, ValueLike, int, truth, text, ref, nodes, neither, both, Names}
use Rattle.at_model.specs.Bodies.{max_list}
use Rattle.at_model.specs.Edits.{Edit, edited}
use Rattle.at_model.specs.Instances.{AnyText}
use Rattle.at_model.specs.Paths.{Node, tree_at}
use Rattle.at_model.specs.Rules.{Rules, Kind}
use Rattle.at_model.specs.Rules as model
use Rattle.at_model.specs.Run.{Value, Int, Truth, Text, Instance, Location}
use Rattle.at_model.specs.Trees.{Tree, class_of, conforms}
use Rattle.at_model.specs.Touches.{touches_in}
use Rattle.at_model.specs.TypedRuns.{AreArguments, IsNodeOf, IsOfKind, IsWellTyped, class_at}
use Rattle.at_model.specs.of_fixpoints.Resting.{Supports}
use Rattle.at_model.specs.of_fixpoints.Resting as led
use Rattle.at_model.proofs.Options.{mapped}
use Rattle.at_model.proofs.of_edits.Edited.{carried_there}
use Rattle.at_model.proofs.of_likeness.ExpressionsAlike.{length-like}
use Rattle.at_model.proofs.of_typing.TypedTogether.{any_text}
use Rattle.at_store.specs.Preparing.{IsCommitted}
use Rattle.at_store.specs.Shown.{IsIdle, Shown, contents, path, tree}
use Rattle.at_body.specs.Typed.{class_shown}
use Rattle.at_cache.specs.Kept.{Entries, LeavesUntouched, value_at}
use Rattle.at_cache.specs.Traced.{Memories}
use Rattle.at_demand.specs.Answerable.{IsBasis}
use Rattle.at_evaluate.specs.Valued.{IsKept, kept_values, meaning}
use Rattle.at_evaluate.specs.Meant.{AreRightValues}
use Rattle.at_evaluate.specs.Right.{AreRight}
use Rattle.at_demand.specs.Sound.{AreSound}
use Rattle.at_evaluate.specs.Sparing.{AddsWorthy}
use Rattle.at_demand.specs.Touched.{Touches}
use Rattle.at_evaluate.proofs.Entered.{entered, is_there, there}
use Rattle.at_demand.proofs.of_keeping.Staying.{Stays, instance_stays, named_later}
use Rattle.at_demand.proofs.of_keeping.StayingRight.{over}
use Rattle.at_demand.proofs.of_levels.Wholes.{whole_led}
use Rattle.at_demand.proofs.of_searches.Reaching.{led_typed}
use Rattle.at_engine.specs.Engines.{rules_of, state_of, IsHeld, IsTyped}
use Rattle.at_engine.specs.Holding.{AreKeptTyped}
use Rattle.at_engine.specs.declared.engine.Engine.{Engine}

-- evaluations stand on what the engine holds
pub basis_held : {K : Type 0} (contents : K → Entries) (memories : K → Memories) (e : Engine K) → IsHeld contents memories e
    → IsTyped (rules_of e) (state_of e) → IsBasis (rules_of e) e.store
basis_held contents memories e held typed = record {
  idle = held.idle;
  formed = typed.formed;
  sound = record { conform = held.conforming; within = held.idle.limits; tokens = typed.tokens };
  circular = typed.circular;
}

module _ (rules : Rules) (s : Shown) (basis : IsBasis rules s) where
  -- what is kept is whole
  pub sound_typed : (entries : Entries) → AreRightValues (contents s) (meaning rules) (kept_values entries) → AreKeptTyped rules s entries
      → AreSound rules s entries
  sound_typed entries right typed = record {
    right = right;
    whole = λ i some.
        let (v, is) = there (kept_values entries i) some in
        whole_led rules s basis.idle basis.formed basis.sound i (typed i some) i v (led.stays i) (right i v is);
  }

  -- what comes for a question is well typed
  pub typed_more : (q : Instance ℕ) → IsWellTyped rules (class_shown s) AnyText q → (before after : Entries)
      → AddsWorthy rules (contents s) q before after → AreKeptTyped rules s before → AreKeptTyped rules s after
  typed_more q well before after adds typed i some = by (kept_values before i) refl
    where
      by : (o : Option (Value ℕ)) → kept_values before i ≡ o → IsWellTyped rules (class_shown s) AnyText i
      by None is = led_typed rules s basis q i well (adds.worthy i is some).reached
      by (Some v) is = typed i (is_there (kept_values before i) v is)

-- an edit that is done
module _ (rules : Rules) (old new : Shown) (e : Edit) (t : Tree) (idle : IsIdle old) (ok : conforms rules.classes (tree old) 0 ≡ true)
    (accepted : edited rules.classes (tree old) e ≡ Ok t) (done : IsCommitted old e new) where
  abbrev Same : ℕ → ℕ → Type 0
  Same = Stays (path old) e

  -- a node that stays has the class that it had
  class_same : (a b c : ℕ) → Same a b → class_shown old a ≡ Some c → class_shown new b ≡ Some c
  class_same a b c s h =
      let is_over = over rules old new e t idle ok accepted done in
      let here : class_at (tree old) s.was ≡ Some c = ap (λ o. option_and_then (class_at (tree old)) o) (sym s.named) ∙ h in
      let (u, found, is) = mapped class_of (tree_at (tree old) s.was) c here in
      let now = carried_there rules.classes (tree old) (tree new) e ok is_over.accepted s.was s.goes u s.carries found in
      ap (λ o. option_and_then (class_at (tree new)) o) (named_later rules is_over a b s) ∙ ap (λ o. option_map class_of o) now.there
      ∙ ap (λ k. Some k) (now.class_same ∙ is)

  nodes_same : (b : ℕ) {ns ms : List ℕ} → ListLike Same ns ms
      → AllByRecursion (λ n. IsNodeOf rules.classes (class_shown old) n b) ns
      → AllByRecursion (λ n. IsNodeOf rules.classes (class_shown new) n b) ms
  nodes_same b end h = tt
  nodes_same b (more {a = m} {b = n} r rs) ((c, at, sub), are) = ((c, class_same m n c r at, sub), nodes_same b rs are)

  value_same : {v w : Value ℕ} → ValueLike Same v w → (k : Kind) → IsOfKind rules.classes (class_shown old) v k
      → IsOfKind rules.classes (class_shown new) w k
  value_same (int n) model.Int h = h
  value_same (int n) model.Truth h = absurd h
  value_same (int n) model.Text h = absurd h
  value_same (int n) (model.Class b) h = absurd h
  value_same (int n) (model.Nodes b) h = absurd h
  value_same (truth b) model.Int h = absurd h
  value_same (truth b) model.Truth h = tt
  value_same (truth b) model.Text h = absurd h
  value_same (truth b) (model.Class c) h = absurd h
  value_same (truth b) (model.Nodes c) h = absurd h
  value_same (text bytes) model.Int h = absurd h
  value_same (text bytes) model.Truth h = absurd h
  value_same (text bytes) model.Text h = tt
  value_same (text bytes) (model.Class b) h = absurd h
  value_same (text bytes) (model.Nodes b) h = absurd h
  value_same (ref r) model.Int h = absurd h
  value_same (ref r) model.Truth h = absurd h
  value_same (ref r) model.Text h = absurd h
  value_same (ref r) (model.Nodes b) h = absurd h
  value_same (ref neither) (model.Class b) h = tt
  value_same (ref (both {a = m} {b = n} r)) (model.Class b) (c, at, sub) = (c, class_same m n c r at, sub)
  value_same (nodes rs) model.Int h = absurd h
  value_same (nodes rs) model.Truth h = absurd h
  value_same (nodes rs) model.Text h = absurd h
  value_same (nodes rs) (model.Class b) h = absurd h
  value_same (nodes rs) (model.Nodes b) (are, few) =
      (nodes_same b rs are, subst (λ k. k ≤ max_list) (length-like rs) few)

  arguments_same : {vs ws : List (Value ℕ)} → ListLike (ValueLike Same) vs ws → (ks : List Kind)
      → AreArguments rules.classes (class_shown old) AnyText vs ks → AreArguments rules.classes (class_shown new) AnyText ws ks
  arguments_same end [] h = tt
  arguments_same end (k ∷ ks) h = absurd h
  arguments_same (more v vs) [] h = absurd h
  arguments_same (more {b = w} v vs) (k ∷ ks) (is, allowed, are) = (value_same v k is, any_text w, arguments_same vs ks are)

  instance_same : (i j : Instance ℕ) → InstanceLike Same i j → IsWellTyped rules (class_shown old) AnyText i
      → IsWellTyped rules (class_shown new) AnyText j
  instance_same i j s w = record {
    class = w.class;
    declaration = w.declaration;
    node = class_same i.node j.node w.class s.node w.node;
    attribute = ap (λ k. slice_get rules.attributes k) (sym s.attribute) ∙ w.attribute;
    declared = w.declared;
    arguments = arguments_same s.arguments w.declaration.parameters w.arguments;
  }

  -- what is left of what is kept
  pub kept_typed : (before later : Entries) → AreRight rules old before → LeavesUntouched (Touches old e) before later
      → AreKeptTyped rules old before → AreKeptTyped rules new later
  kept_typed before later right leaves typed i some =
      let (k, left) = there (later i) (entered later i some) in
      let was = (leaves i k left).0 in
      let (j, like) = right.there i k was in
      let free : (l : Location ℕ) → Supports (contents old) (meaning rules) l i → (m : Location Node) → LocationLike (Names (path old)) l m
      → touches_in (tree old) e m ≡ false = λ l rests m named.
      (leaves i k left).1 l (right.covers i k was l rests) m named in
      let kept : IsKept before i = subst IsSome (sym (ap value_at (was ∙ sym left))) some in
      instance_same i i (instance_stays rules (over rules old new e t idle ok accepted done) i j like free) (typed i kept)
