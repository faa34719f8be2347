-- Over class_numbered nodes that stand for those of a tree, evaluations are typed as over the paths.
use Rattle.std.proofs.Common.{◌≡◌, ◌≤◌, ℕ, List, [], ◌∷◌, Option, Some, None, refl, sym, ap, ◌∙◌, subst}
use Rattle.std.specs.Prelude.{IsSome, option_and_then}
use Rattle.std.specs.List.{slice_get, AllByRecursion}
use Rattle.at_model.specs.Paths.{Node}
use Rattle.at_model.specs.Bodies.{max_list}
use Rattle.at_model.proofs.of_likeness.ExpressionsAlike.{length-like}
use Rattle.at_model.specs.Run.{Value, Int, Truth, Text, Ref, Nodes, Instance, Location, Contents, Run}
use Rattle.at_model.specs.Rules.{Rules, Kind, Attribute}
use Rattle.at_model.specs.Rules as kind
use Rattle.at_model.specs.Alike.{neither, both, ListLike, end, more, ValueLike, int, truth, text, ref, nodes, InstanceLike, LocationLike, is, tok, slot, up, idx, drawer, RunLike, gives, fails, looks, demands, AlikeAt, Names}
use Rattle.at_model.specs.TypedRuns.{ClassAt, Texts, IsNodeOf, IsTypedRun, IsOfKind, IsAllowed, AreArguments, IsWellTyped, IsLocationThere, IsOfItsKind, class_numbered}

module _ (rules : Rules) (path : ℕ → Option Node) (at : ClassAt Node) (Allowed : Texts) where
  class_back : (n : ℕ) (m : Node) → path n ≡ Some m → class_numbered path at n ≡ at m
  class_back n m e = rw e refl

  nodes_there : (b : ℕ) (ns : List ℕ) → AllByRecursion (λ n. IsNodeOf rules.classes (class_numbered path at) n b) ns → (ms : List Node) × ListLike (Names path) ns ms × AllByRecursion (λ m. IsNodeOf rules.classes at m b) ms
  nodes_there b [] h = ([], end, tt)
  nodes_there b (n ∷ ns) ((c, e, f), hs) = by_path (path n) refl e (nodes_there b ns hs)
    where
      by_path : (o : Option Node) → path n ≡ o → option_and_then at o ≡ Some c → (ms : List Node) × ListLike (Names path) ns ms × AllByRecursion (λ m. IsNodeOf rules.classes at m b) ms →
          (ms : List Node) × ListLike (Names path) (n ∷ ns) ms × AllByRecursion (λ m. IsNodeOf rules.classes at m b) ms
      by_path None g e rest = absurd (cc)
      by_path (Some m) g e (ms, like, all) = (m ∷ ms, more g like, ((c, e, f), all))

  nodes_back : (b : ℕ) {ns : List ℕ} {ms : List Node} → ListLike (Names path) ns ms → AllByRecursion (λ m. IsNodeOf rules.classes at m b) ms → AllByRecursion (λ n. IsNodeOf rules.classes (class_numbered path at) n b) ns
  nodes_back b end h = tt
  nodes_back b (more {a = n} {b = m} r rs) ((c, e, f), hs) = ((c, class_back n m r ∙ e, f), nodes_back b rs hs)

  value_there : (v : Value ℕ) (k : Kind) → IsOfKind rules.classes (class_numbered path at) v k → (w : Value Node) × ValueLike (Names path) v w × IsOfKind rules.classes at w k
  value_there (Int n) kind.Int h = (Int n, int n, h)
  value_there (Truth b) kind.Truth h = (Truth b, truth b, tt)
  value_there (Text bytes) kind.Text h = (Text bytes, text bytes, tt)
  value_there (Ref None) (kind.Class b) h = (Ref None, ref neither, tt)
  value_there (Ref (Some n)) (kind.Class b) (c, e, f) = by_path (path n) refl e
    where
      by_path : (o : Option Node) → path n ≡ o → option_and_then at o ≡ Some c → (w : Value Node) × ValueLike (Names path) (Ref (Some n)) w × IsOfKind rules.classes at w (kind.Class b)
      by_path None g e = absurd (cc)
      by_path (Some m) g e = (Ref (Some m), ref (both g), (c, e, f))
  value_there (Nodes ns) (kind.Nodes b) h = let (ms, like, all) = nodes_there b ns h.0 in (Nodes ms, nodes like, (all, subst (λ n. n ≤ max_list) (length-like like) h.1))
  value_there (Nodes ns) kind.Int h = absurd h
  value_there (Nodes ns) kind.Truth h = absurd h
  value_there (Nodes ns) kind.Text h = absurd h
  value_there (Nodes ns) (kind.Class b) h = absurd h
  value_there (Int n) (kind.Nodes b) h = absurd h
  value_there (Truth c) (kind.Nodes b) h = absurd h
  value_there (Text bytes) (kind.Nodes b) h = absurd h
  value_there (Ref c) (kind.Nodes b) h = absurd h
  value_there (Int n) kind.Truth h = absurd h
  value_there (Int n) kind.Text h = absurd h
  value_there (Int n) (kind.Class b) h = absurd h
  value_there (Truth c) kind.Int h = absurd h
  value_there (Truth c) kind.Text h = absurd h
  value_there (Truth c) (kind.Class b) h = absurd h
  value_there (Text c) kind.Int h = absurd h
  value_there (Text c) kind.Truth h = absurd h
  value_there (Text c) (kind.Class b) h = absurd h
  value_there (Ref c) kind.Int h = absurd h
  value_there (Ref c) kind.Truth h = absurd h
  value_there (Ref c) kind.Text h = absurd h

  pub value_back : {v : Value ℕ} {w : Value Node} (k : Kind) → ValueLike (Names path) v w → IsOfKind rules.classes at w k → IsOfKind rules.classes (class_numbered path at) v k
  value_back kind.Int (int n) h = h
  value_back kind.Truth (truth b) h = tt
  value_back kind.Text (text bytes) h = tt
  value_back (kind.Class b) (ref neither) h = tt
  value_back (kind.Class b) (ref (both {a = n} {b = m} e)) (c, f, g) = (c, class_back n m e ∙ f, g)
  value_back (kind.Nodes b) (nodes r) h = (nodes_back b r h.0, subst (λ n. n ≤ max_list) (sym (length-like r)) h.1)
  value_back kind.Int (nodes r) h = absurd h
  value_back kind.Truth (nodes r) h = absurd h
  value_back kind.Text (nodes r) h = absurd h
  value_back (kind.Class b) (nodes r) h = absurd h
  value_back (kind.Nodes b) (int n) h = absurd h
  value_back (kind.Nodes b) (truth n) h = absurd h
  value_back (kind.Nodes b) (text n) h = absurd h
  value_back (kind.Nodes b) (ref n) h = absurd h
  value_back kind.Truth (int n) h = absurd h
  value_back kind.Text (int n) h = absurd h
  value_back (kind.Class b) (int n) h = absurd h
  value_back kind.Int (truth n) h = absurd h
  value_back kind.Text (truth n) h = absurd h
  value_back (kind.Class b) (truth n) h = absurd h
  value_back kind.Int (text n) h = absurd h
  value_back kind.Truth (text n) h = absurd h
  value_back (kind.Class b) (text n) h = absurd h
  value_back kind.Int (ref n) h = absurd h
  value_back kind.Truth (ref n) h = absurd h
  value_back kind.Text (ref n) h = absurd h

  said_back : {v : Value ℕ} {w : Value Node} → ValueLike (Names path) v w → IsAllowed Allowed w → IsAllowed Allowed v
  said_back (int n) h = tt
  said_back (truth b) h = tt
  said_back (text bytes) h = h
  said_back (ref r) h = tt
  said_back (nodes r) h = tt

  arguments_back : {vs : List (Value ℕ)} {ws : List (Value Node)} (ks : List Kind)
      → ListLike (ValueLike (Names path)) vs ws → AreArguments rules.classes at Allowed ws ks
      → AreArguments rules.classes (class_numbered path at) Allowed vs ks
  arguments_back [] end h = tt
  arguments_back (k ∷ ks) end h = absurd h
  arguments_back [] (more r rs) h = absurd h
  arguments_back (k ∷ ks) (more r rs) (h, s, hs) = (value_back k r h, said_back r s, arguments_back ks rs hs)

  pub instance_back : (i : Instance ℕ) (j : Instance Node) → InstanceLike (Names path) i j → IsWellTyped rules at Allowed j → IsWellTyped rules (class_numbered path at) Allowed i
  instance_back i j r w = record {
    class = w.class;
    declaration = w.declaration;
    node = class_back i.node j.node r.node ∙ w.node;
    attribute = ap (slice_get rules.attributes) r.attribute ∙ w.attribute;
    declared = w.declared;
    arguments = arguments_back w.declaration.parameters r.arguments w.arguments;
  }

  sought_back : {l : Location ℕ} {m : Location Node} → LocationLike (Names path) l m → IsLocationThere rules.classes at m → IsLocationThere rules.classes (class_numbered path at) l
  sought_back (is {n = n} {m = m} e) h = subst IsSome (sym (class_back n m e)) h
  sought_back (tok {n = n} {m = m} part e) (k, f) = (k, ap (option_and_then _) (class_back n m e) ∙ f)
  sought_back (slot {n = n} {m = m} part e) (b, f) = (b, ap (option_and_then _) (class_back n m e) ∙ f)
  sought_back (up {n = n} {m = m} e) h = subst IsSome (sym (class_back n m e)) h
  sought_back (idx {n = n} {m = m} e) h = subst IsSome (sym (class_back n m e)) h
  sought_back (drawer {n = n} {m = m} part key k e) (b, f) = (b, ap (option_and_then _) (class_back n m e) ∙ f)

  its_kind : (i : Instance ℕ) (j : Instance Node) (a : Attribute) (v : Value ℕ) → i.attribute ≡ j.attribute
      → slice_get rules.attributes j.attribute ≡ Some a → IsOfItsKind rules (class_numbered path at) i v
      → IsOfKind rules.classes (class_numbered path at) v a.result
  its_kind i j a v e f h = h a (ap (slice_get rules.attributes) e ∙ f)

  other_kind : (j : Instance Node) (a : Attribute) (w : Value Node) → slice_get rules.attributes j.attribute ≡ Some a → IsOfKind rules.classes at w a.result → IsOfItsKind rules at j w
  other_kind j a w e h b f = subst (λ (z : Attribute). IsOfKind rules.classes at w z.result) (let g : Some a ≡ Some b = sym e ∙ f in let h : a ≡ b = cc in h) h

  pub typed_back : {A B : Type 0} (P : A → Type 0) (Q : B → Type 0) (R : A → B → Type 0) (numbers : Contents ℕ)
      (paths : Contents Node) → ((l : Location ℕ) → AlikeAt (Names path) numbers paths l)
      → ((a : A) (b : B) → R a b → Q b → P a) →
      (r : Run ℕ A) (s : Run Node B) → RunLike (Names path) R r s → IsTypedRun rules at Allowed paths Q s → IsTypedRun rules (class_numbered path at) Allowed numbers P r
  typed_back P Q R numbers paths alike back _ _ (gives {a = a} {b = b} r) h = back a b r h
  typed_back P Q R numbers paths alike back _ _ (fails f) h = tt
  typed_back P Q R numbers paths alike back _ _ (looks {l = l} {m = m} {k = k} {h = h} s step) (x, y) =
      (sought_back s x, typed_back P Q R numbers paths alike back (k (numbers l)) (h (paths m)) (step (numbers l) (paths m) (alike l m s)) y)
  typed_back P Q R numbers paths alike back _ _ (demands {i = i} {j = j} {k = k} {h = h} r step) (w, y) = (
    instance_back i j r w,
    λ v its.
        let (u, like, kind) = value_there v w.declaration.result (its_kind i j w.declaration v r.attribute w.attribute its) in
        typed_back P Q R numbers paths alike back (k v) (h u) (step v u like) (y u (other_kind j w.declaration u w.attribute kind)),
  )
