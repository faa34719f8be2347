-- The path of a node can be written: the components of sound classes have names, and no list is long.
use Rattle.std.proofs.Common.{◌≡◌, ◌<◌, ◌≤◌, ℕ, List, [], ◌∷◌, arith, length, reverse, Option, Some, None, slice_get, sym, subst, refl, option_and_then, option_map}
use Rattle.std.specs.List.{All, flat_map}
use Rattle.std.proofs.lemmas.List.Elements.{All-nil, All-append}
use Rattle.std.proofs.lemmas.List.Concat.{flat_map-cons}
use Rattle.std.proofs.lemmas.Option.{get_or_from_slice_get, slice_get_within}
use Rattle.at_model.specs.Classes.{AreSound, Class, Classes, Component, IsClassSound, IsComponentSound, Many, Maybe, One, Shape, Token, chain, own_of, parts}
use Rattle.at_model.specs.Names.{IsName}
use Rattle.at_model.specs.Trees.{Tree, class_of, nodes}
use Rattle.at_model.specs.Paths.{IsIndex, IsPath, IsStep, Node, Path, Step, children_at, index_in, path_of, step_of}
use Rattle.at_model.proofs.Options.{led, mapped}
use Rattle.at_model.proofs.of_typing.TypedContents.{child_smaller, children_few}

at_index : {A : Type 0} (P : A → Type 0) (xs : List A) (i : ℕ) (x : A) → All P xs → slice_get xs i ≡ Some x → P x
at_index P xs i x all is = subst P (get_or_from_slice_get xs i x x is) (all i x (slice_get_within xs i x is))

in_each : {A B : Type 0} (P : B → Type 0) (f : A → List B) → ((a : A) → All P (f a)) → (xs : List A) → All P (flat_map f xs)
in_each P f each [] = All-nil P
in_each P f each (x ∷ xs) = subst (All P) (sym (flat_map-cons f x xs)) (All-append P (f x) (flat_map f xs) (each x) (in_each P f each xs))

own_sound : (classes : Classes) → AreSound classes → (c : ℕ) → (o : Option Class) → slice_get classes c ≡ o → All (IsComponentSound (length classes)) (elim o [ None ↦ [] | Some k ↦ k.own ])
own_sound classes sound c None is = All-nil (IsComponentSound (length classes))
own_sound classes sound c (Some k) is = (at_index (IsClassSound (length classes)) classes c k sound.each is).own

pub parts_sound : (classes : Classes) → AreSound classes → (c : ℕ) → All (IsComponentSound (length classes)) (parts classes c)
parts_sound classes sound c = in_each (IsComponentSound (length classes)) (own_of classes) (λ d. own_sound classes sound d (slice_get classes d) refl) (reverse (chain classes c))

-- a component of a sound class has a name
pub component_named : (classes : Classes) → AreSound classes → (c part : ℕ) (p : Component) → slice_get (parts classes c) part ≡ Some p → IsName p.name
component_named classes sound c part p is =
    (at_index (IsComponentSound (length classes)) (parts classes c) part p (parts_sound classes sound c) is).name

pub index_written : (shape : Shape) (i : ℕ) → i < 16777216 → IsIndex (index_in shape i)
index_written (One c) i small = tt
index_written (Many c) i small = omega (arith, small)
index_written (Maybe c) i small = tt
index_written (Token kind) i small = tt

module _ (classes : Classes) (sound : AreSound classes) where
  step_can : (c : ℕ) (way : ℕ × ℕ) (s : Step) → way.1 < 16777216 → step_of classes c way ≡ Some s → IsStep s
  step_can c way s small e =
      let (p, there, is) = mapped (λ (p : Component). record { part = p.name; index = index_in p.shape way.1 }) (slice_get (parts classes c) way.0) s e in
      subst IsStep is (component_named classes sound c way.0 p there, index_written p.shape way.1 small)

  pub path_written : (t : Tree) (n : Node) (p : Path) → nodes t ≤ 16777216 → path_of classes t n ≡ Some p → IsPath p
  path_written t [] p few e = let same : [] ≡ p = cc in subst IsPath same tt
  path_written t (way ∷ ways) p few e =
      let (s, written, rest) = led (λ s. option_and_then (λ u. option_map (λ ss. s ∷ ss) (path_of classes u ways)) (slice_get (children_at t way.0) way.1)) (step_of classes (class_of t) way) p e in
      let (u, child, below) = led (λ u. option_map (λ ss. s ∷ ss) (path_of classes u ways)) (slice_get (children_at t way.0) way.1) p rest in
      let (ss, is, ends) = mapped (λ (ss : Path). s ∷ ss) (path_of classes u ways) p below in
      let inside = slice_get_within (children_at t way.0) way.1 u child in
      let small : way.1 < 16777216 = omega (arith, inside, children_few t way.0, few) in
      let fewer : nodes u ≤ 16777216 = omega (arith, child_smaller t u way.0 way.1 child, few) in
      subst IsPath ends (step_can (class_of t) way s small written, path_written u ways ss fewer is)
