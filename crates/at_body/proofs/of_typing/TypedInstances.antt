-- A well-typed instance by numbers is one of the tree, and has an equation.
use Rattle.std.proofs.Common.{◌≡◌, ℕ, suc, true, false, List, [], ◌∷◌, length, Option, Some, None, refl, sym, ap, subst, arith}
use Rattle.std.specs.List.{AllByRecursion}
use Rattle.at_model.specs.Classes.{is_sub}
use Rattle.at_model.specs.Trees.{Tree, class_of}
use Rattle.at_model.specs.Terms.{max_depth}
use Rattle.at_model.specs.Paths.{Node, tree_at}
use Rattle.at_model.specs.Run.{Value, Int, Truth, Text, Ref, Nodes, Instance}
use Rattle.at_model.specs.Bodies.{Expr}
use Rattle.at_model.specs.Rules.{Rules, Kind, own_equation}
use Rattle.at_model.specs.Rules as model
use Rattle.at_model.specs.Meaning.{content}
use Rattle.at_model.specs.Alike.{Names, neither, both, ListLike, end, more, ValueLike, int, truth, text, ref, nodes, InstanceLike}
use Rattle.at_model.specs.TypedRuns.{ClassAt, class_at, class_numbered, IsNodeOf, IsOfKind, AreArguments, IsWellTyped}
use Rattle.at_model.specs.Instances.{AnyText}
use Rattle.at_model.specs.WellFormed.{AreWellFormed, IsTreeSound}
use Rattle.at_model.proofs.Complete.{has_own, has_source}
use Rattle.at_model.proofs.Depths.{within_depth}
use Rattle.at_model.proofs.Options.{led, mapped}
use Rattle.at_model.proofs.of_typing.TypedTogether.{any_text}
use Rattle.at_store.specs.Memory.{class_in}
use Rattle.at_store.specs.Shown.{IsIdle, Shown, contents, numbers, path, tree}
use Rattle.at_store.specs.View.{memory_of}
use Rattle.at_store.proofs.Relabelled.{contents_alike}
use Rattle.at_body.specs.Typed.{class_shown}
use Rattle.at_body.specs.TypedStart.{HasEquation}
use Rattle.at_body.proofs.of_typing.TypedAbove.{has_above, above_back}

module _ (rules : Rules) (path : ℕ → Option Node) (at : ClassAt Node) where
  abbrev At : ClassAt ℕ
  At = class_numbered path at

  nodes_on : (b : ℕ) (ns : List ℕ) → AllByRecursion (λ n. IsNodeOf rules.classes At n b) ns
      → (ms : List Node) × ListLike (Names path) ns ms × AllByRecursion (λ m. IsNodeOf rules.classes at m b) ms × (length ms ≡ length ns)
  nodes_on b [] h = ([], end, tt, refl)
  nodes_on b (n ∷ ns) ((c, e, sub), hs) =
      let (m, f, g) = led at (path n) c e in
      let (ms, alike, are, long) = nodes_on b ns hs in
      (m ∷ ms, more f alike, ((c, g, sub), are), ap suc long)

  value_on : (v : Value ℕ) (k : Kind) → IsOfKind rules.classes At v k → (w : Value Node) × ValueLike (Names path) v w × IsOfKind rules.classes at w k
  value_on (Int n) model.Int h = (Int n, int n, h)
  value_on (Truth b) model.Truth h = (Truth b, truth b, tt)
  value_on (Text bytes) model.Text h = (Text bytes, text bytes, tt)
  value_on (Ref None) (model.Class b) h = (Ref None, ref neither, tt)
  value_on (Ref (Some n)) (model.Class b) (c, e, sub) = let (m, f, g) = led at (path n) c e in (Ref (Some m), ref (both f), (c, g, sub))
  value_on (Nodes ns) (model.Nodes b) (all, short) =
      let (ms, alike, are, long) = nodes_on b ns all in
      (Nodes ms, nodes alike, (are, omega (arith, long, short)))
  value_on (Int n) (model.Nodes b) h = absurd h
  value_on (Truth c) (model.Nodes b) h = absurd h
  value_on (Text c) (model.Nodes b) h = absurd h
  value_on (Ref c) (model.Nodes b) h = absurd h
  value_on (Nodes ns) model.Int h = absurd h
  value_on (Nodes ns) model.Truth h = absurd h
  value_on (Nodes ns) model.Text h = absurd h
  value_on (Nodes ns) (model.Class b) h = absurd h
  value_on (Int n) model.Truth h = absurd h
  value_on (Int n) model.Text h = absurd h
  value_on (Int n) (model.Class b) h = absurd h
  value_on (Truth c) model.Int h = absurd h
  value_on (Truth c) model.Text h = absurd h
  value_on (Truth c) (model.Class b) h = absurd h
  value_on (Text c) model.Int h = absurd h
  value_on (Text c) model.Truth h = absurd h
  value_on (Text c) (model.Class b) h = absurd h
  value_on (Ref c) model.Int h = absurd h
  value_on (Ref c) model.Truth h = absurd h
  value_on (Ref c) model.Text h = absurd h

  arguments_on : (vs : List (Value ℕ)) (ks : List Kind) → AreArguments rules.classes At AnyText vs ks → (ws : List (Value Node)) × ListLike (ValueLike (Names path)) vs ws × AreArguments rules.classes at AnyText ws ks
  arguments_on [] [] h = ([], end, tt)
  arguments_on [] (k ∷ ks) h = absurd h
  arguments_on (v ∷ vs) [] h = absurd h
  arguments_on (v ∷ vs) (k ∷ ks) (h, allowed, hs) =
      let (w, like, is) = value_on v k h in
      let (ws, alike, are) = arguments_on vs ks hs in
      (w ∷ ws, more like alike, (is, any_text w, are))

  -- it stands for one of the tree, which is well typed too
  pub instance_on : (i : Instance ℕ) → IsWellTyped rules At AnyText i → (j : Instance Node) × InstanceLike (Names path) i j × IsWellTyped rules at AnyText j
  instance_on i w =
      let (m, f, g) = led at (path i.node) w.class w.node in
      let (ws, alike, are) = arguments_on i.arguments w.declaration.parameters w.arguments in (
        record { node = m; attribute = i.attribute; arguments = ws },
        record { node = f; attribute = refl; arguments = alike },
        record { class = w.class; declaration = w.declaration; node = g; attribute = w.attribute; declared = w.declared; arguments = are },
      )

module _ (rules : Rules) (s : Shown) (idle : IsIdle s) (ok : AreWellFormed rules) (sound : IsTreeSound rules.classes (tree s)) (i : Instance ℕ) (w : IsWellTyped rules (class_shown s) AnyText i) where
  -- the node
  node_there : (m : Node) × (u : Tree) × (path s i.node ≡ Some m) × (tree_at (tree s) m ≡ Some u) × (class_of u ≡ w.class)
  node_there =
      let (m, f, g) = led (class_at (tree s)) (path s i.node) w.class w.node in
      let (u, there, is) = mapped class_of (tree_at (tree s) m) w.class g in
      (m, u, f, there, is)

  -- an equation of its own
  pub own_there : w.declaration.is_inherited ≡ false → (e : Expr) × (own_equation rules w.class i.attribute ≡ Some e)
  own_there own =
      let (m, u, f, there, is) = node_there in
      let (e, h) = has_own rules ok.complete (tree s) sound.conform m u i.attribute w.declaration there w.attribute (subst (λ c. is_sub rules.classes c w.declaration.class ≡ true) (sym is) w.declared) own in
      (e, subst (λ c. own_equation rules c i.attribute ≡ Some e) is h)

  -- or one above it
  pub above_there : w.declaration.is_inherited ≡ true → HasEquation rules (class_shown s) (contents s) w.declaration.name max_depth i.node
  above_there inh =
      let (m, u, f, there, is) = node_there in
      let (src, e) = has_source rules ok.complete (tree s) sound.conform m u i.attribute w.declaration there w.attribute (subst (λ c. is_sub rules.classes c w.declaration.class ≡ true) (sym is) w.declared) inh in
      above_back rules (path s) (class_at (tree s)) (contents s) (content (tree s)) w.declaration.name (contents_alike (class_in (memory_of s.slab)) (numbers s) idle.keeps.apart)
      max_depth i.node m f (has_above rules (tree s) w.declaration.name max_depth m u there (within_depth (tree s) m u sound.within there) src e)
