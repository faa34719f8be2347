-- An instance that an edit doesn't touch is carried.
use Rattle.std.proofs.Common.{◌≡◌, true, false, List, [], ◌∷◌, ◌++◌, Option, Some, None, Ok, inl, inr, refl, sym, ap, ◌∙◌, subst}
use Rattle.std.specs.Prelude.{IsSome, is_none, map}
use Rattle.std.specs.List.{AllByRecursion}
use Rattle.at_model.specs.Trees.{Tree, conforms}
use Rattle.at_model.specs.Paths.{Node, tree_at}
use Rattle.at_model.specs.Run.{Value, Int, Truth, Text, Ref, Nodes, Instance, Location, Is, Contents, Run, Gives, Fails, Looks, Demands, LooksTo}
use Rattle.at_model.specs.Bodies.{mentioned}
use Rattle.at_model.specs.Rules.{Rules}
use Rattle.at_model.specs.Meaning.{Among, content}
use Rattle.at_model.specs.Support.{Sees, argument_classes, IsThere, IsValueThere, IsInstanceThere}
use Rattle.at_model.specs.Alike.{neither, both, ListLike, end, more, ValueLike, int, truth, text, ref, nodes, InstanceLike, Names}
use Rattle.at_model.specs.Edits.{Edit, carried, edited}
use Rattle.at_model.specs.Touches.{touches, shifts, touches_in}
use Rattle.at_model.specs.of_fixpoints.Evaluations.{forms}
use Rattle.at_model.specs.of_fixpoints.Fixpoints.{HasValue}
use Rattle.at_model.specs.of_fixpoints.Resting.{IsUntouched, stays}
use Rattle.at_model.proofs.of_edits.Edited.{gone_where_touched}
use Rattle.at_model.proofs.of_edits.Edited.{carried_there}
use Rattle.at_model.proofs.of_edits.Untouching.{false_or}
use Rattle.at_model.proofs.WayUp.{past_them}

-- what an evaluation looks at by itself it sees
looked_sees : {N A : Type 0} (look : Contents N) (Has : Instance N → Value N → Type 0) (r s : Run N A) (ls : List (Location N)) (l : Location N) → LooksTo look r ls s → Among l ls → Sees look Has r l
looked_sees look Has r s [] l h a = absurd a
looked_sees look Has (Gives a) s (m ∷ ls) l h g = absurd h
looked_sees look Has (Fails f) s (m ∷ ls) l h g = absurd h
looked_sees look Has (Looks m k) s (n ∷ ls) l (is, h) (inl same) = inl (is ∙ sym same)
looked_sees look Has (Looks m k) s (n ∷ ls) l (is, h) (inr a) = inr (looked_sees look Has (k (look m)) s ls l h a)
looked_sees look Has (Demands i k) s (m ∷ ls) l h a = absurd h

head_class : (ns : List Node) (n : Node) (ls : List (Location Node)) → Among n ns → Among (Is n) (map (λ n. Is n) ns ++ ls)
head_class [] n ls h = absurd h
head_class (m ∷ ms) n ls (inl e) = inl (ap Is e)
head_class (m ∷ ms) n ls (inr h) = inr (head_class ms n ls h)

tail_class : (ns : List Node) (l : Location Node) (ls : List (Location Node)) → Among l ls → Among l (map (λ n. Is n) ns ++ ls)
tail_class [] l ls a = a
tail_class (m ∷ ms) l ls a = inr (tail_class ms l ls a)

each_there : (t : Tree) (ns : List Node) (n : Node) → Among n ns → AllByRecursion (IsThere t) ns → IsThere t n
each_there t [] n h g = absurd h
each_there t (m ∷ ms) n (inl e) (g, gs) = subst (IsThere t) (sym e) g
each_there t (m ∷ ms) n (inr h) (g, gs) = each_there t ms n h gs

there : (t : Tree) (v : Value Node) (n : Node) → Among n (mentioned v) → IsValueThere t v → IsThere t n
there t (Int i) n h g = absurd h
there t (Truth b) n h g = absurd h
there t (Text bytes) n h g = absurd h
there t (Ref None) n h g = absurd h
there t (Ref (Some m)) n (inl e) g = subst (IsThere t) (sym e) g
there t (Ref (Some m)) n (inr h) g = absurd h
there t (Nodes ns) n h g = each_there t ns n h g

module _ (t : Tree) (e : Edit) where
  -- the node is carried
  abbrev pub Goes : Node → Type 0
  Goes n = (m : Node) × (carried e n ≡ Some m)

  nodes_carried : (ns : List Node) → ((n : Node) → Among n ns → Goes n) → (ms : List Node) × ListLike (Names (carried e)) ns ms
  nodes_carried [] h = ([], end)
  nodes_carried (n ∷ ns) h =
      let (m, is) = h n (inl refl) in
      let (ms, like) = nodes_carried ns (λ k a. h k (inr a)) in
      (m ∷ ms, more is like)

  value_carried : (v : Value Node) → ((n : Node) → Among n (mentioned v) → Goes n) → (w : Value Node) × ValueLike (Names (carried e)) v w
  value_carried (Int n) h = (Int n, int n)
  value_carried (Truth b) h = (Truth b, truth b)
  value_carried (Text bytes) h = (Text bytes, text bytes)
  value_carried (Ref None) h = (Ref None, ref neither)
  value_carried (Ref (Some n)) h = let (m, is) = h n (inl refl) in (Ref (Some m), ref (both is))
  value_carried (Nodes ns) h = let (ms, like) = nodes_carried ns h in (Nodes ms, nodes like)

  values_carried : (vs : List (Value Node)) → AllByRecursion (IsValueThere t) vs
      → ((n : Node) → Among (Is n) (argument_classes vs) → IsThere t n → Goes n)
      → (ws : List (Value Node)) × ListLike (ValueLike (Names (carried e))) vs ws
  values_carried [] h goes = ([], end)
  values_carried (v ∷ vs) h goes =
      let (w, like) = value_carried v (λ n is. goes n (head_class (mentioned v) n (argument_classes vs) is) (there t v n is h.0)) in
      let (ws, rest) = values_carried vs h.1 (λ n a. goes n (tail_class (mentioned v) (Is n) (argument_classes vs) a)) in
      (w ∷ ws, more like rest)

goes_on : (e : Edit) (n : Node) (o : Option Node) → carried e n ≡ o → is_none o ≡ false → (m : Node) × (carried e n ≡ Some m)
goes_on e n None is some = absurd cc
goes_on e n (Some m) is some = (m, is)

tree_there : (o : Option Tree) → IsSome o → (v : Tree) × (o ≡ Some v)
tree_there None h = absurd cc
tree_there (Some v) h = (v, refl)

module _ (rules : Rules) (t u : Tree) (e : Edit) (made : edited rules.classes t e ≡ Ok u) where
  untouched_goes : (n : Node) → IsThere t n → touches_in t e (Is n) ≡ false → Goes t e n
  untouched_goes n is free =
      let (v, found) = tree_there (tree_at t n) is in
      goes_on e n (carried e n) refl (gone_where_touched rules.classes t u e made n v found ∙ (false_or (touches e (Is n)) (shifts t e (Is n)) free).0)

  pub instance_carried : (i : Instance Node) → IsInstanceThere t i → IsUntouched rules t e i → (j : Instance Node) × InstanceLike (Names (carried e)) i j
  instance_carried i is free =
      let (m, goes) = untouched_goes i.node is.node (free (Is i.node) (i, stays i, inl refl)) in
      let (ws, like) = values_carried t e i.arguments is.arguments (λ n a here. untouched_goes n here
      (free (Is n) (
        i,
        stays i,
        inr (looked_sees (content t) (HasValue (content t) (forms rules))
            _ _ (argument_classes i.arguments) (Is n) (past_them (content t) i.arguments _) a),
      ))) in
      (record { node = m; attribute = i.attribute; arguments = ws }, record { node = goes; attribute = refl; arguments = like })

  module _ (ok : conforms rules.classes t 0 ≡ true) where
    node_there : (n m : Node) → carried e n ≡ Some m → IsThere t n → IsThere u m
    node_there n m goes is =
        let (v, found) = tree_there (tree_at t n) is in
        let now = carried_there rules.classes t u e ok made n m v goes found in
        subst IsSome (sym now.there) refl

    nodes_there : (ns ms : List Node) → ListLike (Names (carried e)) ns ms → AllByRecursion (IsThere t) ns → AllByRecursion (IsThere u) ms
    nodes_there ns ms end h = tt
    nodes_there ns ms (more {a = n} {b = m} {as' = ns'} {bs = ms'} goes rest) h = (node_there n m goes h.0, nodes_there ns' ms' rest h.1)

    pub value_there : (v w : Value Node) → ValueLike (Names (carried e)) v w → IsValueThere t v → IsValueThere u w
    value_there v w (int n) h = h
    value_there v w (truth b) h = h
    value_there v w (text bytes) h = h
    value_there v w (ref neither) h = h
    value_there v w (ref (both {a = n} {b = m} goes)) h = node_there n m goes h
    value_there v w (nodes {ns = ns} {ms = ms} like) h = nodes_there ns ms like h

    values_there : (vs ws : List (Value Node)) → ListLike (ValueLike (Names (carried e))) vs ws → AllByRecursion (IsValueThere t) vs → AllByRecursion (IsValueThere u) ws
    values_there vs ws end h = tt
    values_there vs ws (more {a = v} {b = w} {as' = vs'} {bs = ws'} like rest) h = (value_there v w like h.0, values_there vs' ws' rest h.1)

    pub instance_there : (i j : Instance Node) → InstanceLike (Names (carried e)) i j → IsInstanceThere t i → IsInstanceThere u j
    instance_there i j like is = record { node = node_there i.node j.node like.node is.node; arguments = values_there i.arguments j.arguments like.arguments is.arguments }
