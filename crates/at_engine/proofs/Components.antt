-- Components of nodes by their numbers, and the class that is asked where a node stands.
use Rattle.std.proofs.Common.{◌≡◌, ℕ, true, List, [], ◌∷◌, ◌++◌, map, Option, Some, None, option_and_then, option_map, refl, sym, ap, ◌∙◌, subst}
use Rattle.std.specs.List.{slice_get}
use Rattle.std.proofs.lemmas.Option.{slice_get-map}
use Rattle.at_model.specs.Classes.{Classes, Component, class_in, parts}
use Rattle.at_model.specs.Trees.{Tree, class_of, conforms}
use Rattle.at_model.specs.Paths.{Node, parent_of, part_named, tree_at}
use Rattle.at_model.specs.Run.{Is, Up}
use Rattle.at_model.specs.Meaning.{content}
use Rattle.at_model.specs.Edits.{class_asked, shape_at}
use Rattle.at_model.proofs.Options.{led}
use Rattle.at_model.proofs.Complete.{child_conforms, conforms_at}
use Rattle.at_model.proofs.of_edits.Surviving.{parent_is}
use Rattle.at_model.proofs.WayUp.{parent_there}
use Rattle.at_model.proofs.WithinTree.{tree_at-snoc}
use Rattle.at_class.specs.View.{part_view}
use Rattle.at_class.specs.declared.part.Part.{Part}
use Rattle.at_store.specs.Numbers.{number_at}
use Rattle.at_store.specs.Shown.{IsIdle, Shown, contents, numbers, path, tree}
use Rattle.at_store.proofs.Found.{named}
use Rattle.at_store.proofs.Reading.{shown_there}
use Rattle.at_engine.specs.Telling.{IsComponentOf}
use Rattle.at_engine.proofs.NamingLemmas.{class_there, tree_there}

-- a part that is read is a component
pub part_read : (ps : List Part) (cs : List Component) (i : ℕ) (p : Part) → map part_view ps ≡ cs → slice_get ps i ≡ Some p → slice_get cs i ≡ Some (part_view p)
part_read ps cs i p same is = ap (λ l. slice_get l i) (sym same) ∙ slice_get-map part_view ps i ∙ ap (option_map part_view) is

pub part_missing : (ps : List Part) (cs : List Component) (i : ℕ) → map part_view ps ≡ cs → slice_get ps i ≡ None → slice_get cs i ≡ None
part_missing ps cs i same is = ap (λ l. slice_get l i) (sym same) ∙ slice_get-map part_view ps i ∙ ap (option_map part_view) is

module _ (classes : Classes) (s : Shown) (k : ℕ) (n : Node) (name : List ℕ) (p : path s k ≡ Some n) where
  by_class : (o : Option ℕ) → part_named classes (contents s (Is k)) name ≡ o → option_and_then (λ u. part_named classes (class_of u) name) (tree_at (tree s) n) ≡ o
  by_class o e =
      let (u, at') = tree_there s k n p in
      ap (option_and_then (λ v. part_named classes (class_of v) name)) at' ∙ ap (λ c. part_named classes c name) (sym (class_there s k n u p at')) ∙ e

  pub component_found : (i : ℕ) (c : Part) → part_named classes (contents s (Is k)) name ≡ Some i → slice_get (parts classes (contents s (Is k))) i ≡ Some (part_view c) → IsComponentOf classes (tree s) n name (Some (record { position = i; shape = c.shape }))
  component_found i c e is =
      let (u, at') = tree_there s k n p in (
        by_class (Some i) e,
        ap (option_and_then (λ v. option_map (λ q. q.shape) (slice_get (parts classes (class_of v)) i))) at' ∙ ap (λ c. option_map (λ q. q.shape) (slice_get (parts classes c) i)) (sym (class_there s k n u p at')) ∙ ap (option_map (λ q. q.shape)) is,
      )

-- the component at that place asks for the class that is asked where the node stands
pub record AsksFor (classes : Classes) (s : Shown) (n : Node) (place : ℕ × ℕ) : Type 0 where
  pub component : Component
  pub is : slice_get (parts classes (contents s (Is place.0))) place.1 ≡ Some component
  pub class : ℕ
  pub in_it : class_in component.shape ≡ Some class
  pub asked : class_asked classes (tree s) n ≡ Some class

same_place : (a b : ℕ × ℕ) → Some a ≡ Some b → a ≡ b
same_place a b e = cc

module _ (classes : Classes) (s : Shown) (h : IsIdle s) (conforming : conforms classes (tree s) 0 ≡ true) (k : ℕ) (n : Node) (p : path s k ≡ Some n) where
  up_shown : contents s (Up k) ≡ option_map (λ (q : Node × ℕ). (number_at (numbers s) q.0, q.1)) (content (tree s) (Up n))
  up_shown = ap (λ (o : Option Node). elim o as (λ _. Option (ℕ × ℕ)) [ None ↦ None | Some m ↦ option_map (λ (q : Node × ℕ). (number_at (numbers s) q.0, q.1)) (content (tree s) (Up m)) ]) p

  root_by : (o : Option (Node × (ℕ × ℕ))) → parent_of n ≡ o → contents s (Up k) ≡ None → class_asked classes (tree s) n ≡ Some 0
  root_by None e none = ap (λ (o : Option (Node × (ℕ × ℕ))). elim o as (λ _. Option ℕ) [ None ↦ Some 0 | Some q ↦ option_and_then class_in (shape_at classes (tree s) q.0 q.1.0) ]) e
  root_by (Some q) e none =
      let f : contents s (Up k) ≡ Some (number_at (numbers s) q.0, q.1.0) = up_shown ∙ ap (λ (o : Option (Node × (ℕ × ℕ))). option_map (λ (r : Node × ℕ). (number_at (numbers s) r.0, r.1)) (option_map (λ (r : Node × (ℕ × ℕ)). (r.0, r.1.0)) o)) e in
      let g : None ≡ Some (number_at (numbers s) q.0, q.1.0) = sym none ∙ f in absurd cc

  pub asked_of_root : contents s (Up k) ≡ None → class_asked classes (tree s) n ≡ Some 0
  asked_of_root none = root_by (parent_of n) refl none

  below_by : (o : Option (Node × (ℕ × ℕ))) (place : ℕ × ℕ) → parent_of n ≡ o → contents s (Up k) ≡ Some place → AsksFor classes s n place
  below_by None place e some =
      let f : contents s (Up k) ≡ None = up_shown ∙ ap (λ (o : Option (Node × (ℕ × ℕ))). option_map (λ (r : Node × ℕ). (number_at (numbers s) r.0, r.1)) (option_map (λ (r : Node × (ℕ × ℕ)). (r.0, r.1.0)) o)) e in
      let g : None ≡ Some place = sym f ∙ some in absurd cc
  below_by (Some q) place e some =
      let f : contents s (Up k) ≡ Some (number_at (numbers s) q.0, q.1.0) = up_shown ∙ ap (λ (o : Option (Node × (ℕ × ℕ))). option_map (λ (r : Node × ℕ). (number_at (numbers s) r.0, r.1)) (option_map (λ (r : Node × (ℕ × ℕ)). (r.0, r.1.0)) o)) e in
      let same : (number_at (numbers s) q.0, q.1.0) ≡ place = same_place _ _ (sym f ∙ some) in
      let (u, in_numbers, number, at') = shown_there s k n p in
      let snoc : n ≡ q.0 ++ q.1 ∷ [] = parent_is n q e in
      let (v, parent) = parent_there (numbers s) q.0 q.1 u (ap (tree_at (numbers s)) (sym snoc) ∙ in_numbers) in
      let parent_path : path s (class_of v) ≡ Some q.0 = named (numbers s) h.keeps.apart q.0 v parent in
      let (w, there) = tree_there s (class_of v) q.0 parent_path in
      let (b, ok) = conforms_at classes (tree s) 0 q.0 w conforming there in
      let child = sym (tree_at-snoc (tree s) q.0 q.1 w there) ∙ ap (tree_at (tree s)) (sym snoc) ∙ at' in
      let (d, is, conform) = child_conforms classes w b q.1.0 q.1.1 _ ok child in
      let (c, here, fits) = led (λ (c : Component). class_in c.shape) (slice_get (parts classes (class_of w)) q.1.0) d is in
      let number_is : number_at (numbers s) q.0 ≡ class_of v = ap (λ (o : Option Tree). elim o as (λ _. ℕ) [ None ↦ 0 | Some x ↦ class_of x ]) parent in
      let class_is : contents s (Is (number_at (numbers s) q.0)) ≡ class_of w = ap (λ (j : ℕ). contents s (Is j)) number_is ∙ class_there s (class_of v) q.0 w parent_path there in
      let first : slice_get (parts classes (contents s (Is (number_at (numbers s) q.0)))) q.1.0 ≡ Some c = ap (λ (j : ℕ). slice_get (parts classes j) q.1.0) class_is ∙ here in
      subst (λ (x : ℕ × ℕ). AsksFor classes s n x) same (record {
        component = c;
        is = first;
        class = d;
        in_it = fits;
        asked = ap (λ (o : Option (Node × (ℕ × ℕ))). elim o as (λ _. Option ℕ) [ None ↦ Some 0 | Some r ↦ option_and_then class_in (shape_at classes (tree s) r.0 r.1.0) ]) e
            ∙ ap (λ (o : Option Tree). option_and_then class_in (option_and_then (λ u. option_map (λ x. x.shape) (slice_get (parts classes (class_of u)) q.1.0)) o)) there
            ∙ ap (λ (o : Option Component). option_and_then class_in (option_map (λ x. x.shape) o)) here ∙ fits;
      })

  pub asked_below : (place : ℕ × ℕ) → contents s (Up k) ≡ Some place → AsksFor classes s n place
  asked_below place some = below_by (parent_of n) place refl some
