-- What is made of nodes of a tree leads to what is made of nodes of the tree, and looks at these alone.
use Rattle.std.proofs.Common.{◌≡◌, ℕ, suc, ◌+◌, Bool, true, false, cond, List, [], ◌∷◌, ◌++◌, Option, Some, None, inl, inr, refl, ap, sym, ◌∙◌, subst, arith}
use Rattle.std.specs.Prelude.{IsSome, IfSome, option_map, option_and_then}
use Rattle.std.specs.List.{slice_get, AllByRecursion}
use Rattle.at_model.specs.Trees.{Tree}
use Rattle.at_model.specs.Paths.{Node, node_eq, parent_of, tree_at, children_at}
use Rattle.at_model.specs.Run.{Value, Int, Truth, Text, Ref, Nodes, Instance, Location, Is, Tok, Slot, Up, Idx, Drawer}
use Rattle.at_model.specs.Drawers.{Key}
use Rattle.at_model.specs.Rules.{Rules}
use Rattle.at_model.specs.Meaning.{is_marked, chosen_nodes, child_nodes, content, equations, Leads, HasValue}
use Rattle.at_model.specs.Support.{Supports, IsThere, IsValueThere, IsInstanceThere}
use Rattle.at_model.specs.Touches.{node_of}
use Rattle.at_model.specs.Alike.{OptionLike, neither, both, ListLike, end, more, ValueLike, int, truth, text, ref, nodes, InstanceLike, LocationLike, is, tok, slot, up, idx, drawer, SameLike, EquationsLike, AlikeAt}
use Rattle.at_model.proofs.of_likeness.EquationsAlike.{evaluation-like}
use Rattle.at_model.proofs.of_likeness.CarryingSupport.{carried_value, leads_there, supports_there}
use Rattle.at_model.proofs.WayUp.{snoc, parent_of-snoc, parent_there}
use Rattle.at_model.proofs.Complete.{got}

-- the same node, which is in the tree
abbrev pub Within : Tree → Node → Node → Type 0
Within t a b = (a ≡ b) × IsThere t a

pub some_there : {A : Type 0} (o : Option A) (a : A) → o ≡ Some a → IsSome o
some_there o a e = rw e refl

below : (n : Node) (s : ℕ × ℕ) (u : Tree) (o : Option Tree) → ((w : Tree) → tree_at w n ≡ Some u → tree_at w (n ++ s ∷ []) ≡ slice_get (children_at u s.0) s.1) →
    option_and_then (λ w. tree_at w n) o ≡ Some u → option_and_then (λ w. tree_at w (n ++ s ∷ [])) o ≡ slice_get (children_at u s.0) s.1
below n s u None step e = absurd (cc)
below n s u (Some w) step e = step w e

as_it_is : {A : Type 0} (o : Option A) → option_and_then (λ w. Some w) o ≡ o
as_it_is None = refl
as_it_is (Some a) = refl

-- the tree at a child
pub tree_at-snoc : (t : Tree) (n : Node) (s : ℕ × ℕ) (u : Tree) → tree_at t n ≡ Some u → tree_at t (n ++ s ∷ []) ≡ slice_get (children_at u s.0) s.1
tree_at-snoc t [] s u e = let f : t ≡ u = cc in subst (λ z. tree_at t (s ∷ []) ≡ slice_get (children_at z s.0) s.1) f (as_it_is (slice_get (children_at t s.0) s.1))
tree_at-snoc t (x ∷ n) s u e = below n s u (slice_get (children_at t x.0) x.1) (λ w. tree_at-snoc w n s u) e

each_child : (t : Tree) (n : Node) (part k : ℕ) (ts : List Tree) → ((j : ℕ) (x : Tree) → slice_get ts j ≡ Some x
    → IsThere t (n ++ (part, k + j) ∷ [])) → ListLike (Within t) (child_nodes n part k ts) (child_nodes n part k ts)
each_child t n part k [] there = end
each_child t n part k (x ∷ xs) there =
    let e : k + 0 ≡ k = omega arith in
    more
    (refl, subst (λ z. IsThere t (n ++ (part, z) ∷ [])) e (there 0 x refl))
    (each_child t n part (suc k) xs (λ j y f. let g : k + suc j ≡ suc k + j = omega arith in subst (λ z. IsThere t (n ++ (part, z) ∷ [])) g (there (suc j) y f)))

children_within : (t : Tree) (n : Node) (part : ℕ) (o : Option Tree) → tree_at t n ≡ o →
    ListLike (Within t) (elim o [ None ↦ [] | Some u ↦ child_nodes n part 0 (children_at u part) ]) (elim o [ None ↦ [] | Some u ↦ child_nodes n part 0 (children_at u part) ])
children_within t n part None e = end
children_within t n part (Some u) e = each_child t n part 0 (children_at u part)
    (λ j x f. let g : 0 + j ≡ j = omega arith in subst (λ z. IsThere t (n ++ (part, z) ∷ [])) (sym g)
    (some_there (tree_at t (n ++ (part, j) ∷ [])) x (tree_at-snoc t n (part, j) u e ∙ f)))

same_chosen : (t : Tree) (n : Node) (b : Bool) (ns : List Node) → IsThere t n → ListLike (Within t) ns ns → ListLike (Within t) (cond b (n ∷ ns) ns) (cond b (n ∷ ns) ns)
same_chosen t n true ns there same = more (refl, there) same
same_chosen t n false ns there same = same

each_chosen : (t : Tree) (f : Tree → Bool) (n : Node) (part k : ℕ) (ts : List Tree) → ((j : ℕ) (x : Tree) → slice_get ts j ≡ Some x
    → IsThere t (n ++ (part, k + j) ∷ [])) → ListLike (Within t) (chosen_nodes f n part k ts) (chosen_nodes f n part k ts)
each_chosen t f n part k [] there = end
each_chosen t f n part k (x ∷ xs) there =
    let e : k + 0 ≡ k = omega arith in
    same_chosen t (n ++ (part, k) ∷ []) (f x) (chosen_nodes f n part (suc k) xs) (subst (λ z. IsThere t (n ++ (part, z) ∷ [])) e (there 0 x refl))
    (each_chosen t f n part (suc k) xs (λ j y g. let h : k + suc j ≡ suc k + j = omega arith in subst (λ z. IsThere t (n ++ (part, z) ∷ [])) h (there (suc j) y g)))

drawers_within : (t : Tree) (n : Node) (part : ℕ) (key : Key) (m : ℕ) (o : Option Tree) → tree_at t n ≡ o →
    ListLike (Within t) (elim o [ None ↦ [] | Some u ↦ chosen_nodes (is_marked key m) n part 0 (children_at u part) ])
    (elim o [ None ↦ [] | Some u ↦ chosen_nodes (is_marked key m) n part 0 (children_at u part) ])
drawers_within t n part key m None e = end
drawers_within t n part key m (Some u) e = each_chosen t (is_marked key m) n part 0 (children_at u part)
    (λ j x f. let g : 0 + j ≡ j = omega arith in subst (λ z. IsThere t (n ++ (part, z) ∷ [])) (sym g)
    (some_there (tree_at t (n ++ (part, j) ∷ [])) x (tree_at-snoc t n (part, j) u e ∙ f)))

abbrev pub UpLike : Tree → Option (Node × ℕ) → Option (Node × ℕ) → Type 0
UpLike t c d = OptionLike (λ (p : Node × ℕ) (q : Node × ℕ). Within t p.0 q.0 × (p.1 ≡ q.1)) c d

pub parent_within : (t : Tree) (n : Node) → IsThere t n → UpLike t (content t (Up n)) (content t (Up n))
parent_within t n h = elim (snoc n) [
  | inl e ↦ subst (λ z. UpLike t (content t (Up z)) (content t (Up z))) (sym e) neither
  | inr (m, s, e) ↦
      let (u, f) = got (tree_at t n) h in
      let (w, g) = parent_there t m s u (subst (λ z. tree_at t z ≡ Some u) e f) in
      let k : parent_of n ≡ Some (m, s) = ap parent_of e ∙ parent_of-snoc m s in
      subst (λ z. UpLike t (option_map (λ p. (p.0, p.1.0)) z) (option_map (λ p. (p.0, p.1.0)) z)) (sym k) (both ((refl, some_there (tree_at t m) w g), refl))
]

pub alike_within : (t : Tree) (l : Location Node) → AlikeAt (Within t) (content t) (content t) l
alike_within t _ _ (is r) = ap (λ z. content t (Is z)) r.0
alike_within t _ _ (tok part r) = ap (λ z. content t (Tok z part)) r.0
alike_within t _ _ (slot {n = n} part r) = subst (λ z. ListLike (Within t) (content t (Slot n part)) (content t (Slot z part))) r.0 (children_within t n part (tree_at t n) refl)
alike_within t _ _ (up {n = n} r) = subst (λ z. UpLike t (content t (Up n)) (content t (Up z))) r.0 (parent_within t n r.1)
alike_within t _ _ (idx r) = ap (λ z. content t (Idx z)) r.0
alike_within t _ _ (drawer {n = n} part key m r) = subst (λ z. ListLike (Within t) (content t (Drawer n part key m)) (content t (Drawer z part key m))) r.0
    (drawers_within t n part key m (tree_at t n) refl)

pub same_within : (t : Tree) → SameLike (Within t) node_eq node_eq
same_within t a b c d r s = ap (λ z. node_eq z b) r.0 ∙ ap (λ z. node_eq c z) s.0

equations_within : (rules : Rules) (t : Tree) → EquationsLike (Within t) (equations rules) (equations rules)
equations_within rules t = evaluation-like rules node_eq node_eq (same_within t)

nodes_within : (t : Tree) (ns : List Node) → AllByRecursion (IsThere t) ns → ListLike (Within t) ns ns
nodes_within t [] h = end
nodes_within t (n ∷ ns) (h, hs) = more (refl, h) (nodes_within t ns hs)

nodes_there : (t : Tree) {ns ms : List Node} → ListLike (Within t) ns ms → AllByRecursion (IsThere t) ns
nodes_there t end = tt
nodes_there t (more r rs) = (r.1, nodes_there t rs)

value_within : (t : Tree) (v : Value Node) → IsValueThere t v → ValueLike (Within t) v v
value_within t (Int n) h = int n
value_within t (Truth b) h = truth b
value_within t (Text bytes) h = text bytes
value_within t (Ref None) h = ref neither
value_within t (Ref (Some n)) h = ref (both (refl, h))
value_within t (Nodes ns) h = nodes (nodes_within t ns h)

values_within : (t : Tree) (vs : List (Value Node)) → AllByRecursion (IsValueThere t) vs → ListLike (ValueLike (Within t)) vs vs
values_within t [] h = end
values_within t (v ∷ vs) (h, hs) = more (value_within t v h) (values_within t vs hs)

pub instance_within : (t : Tree) (i : Instance Node) → IsInstanceThere t i → InstanceLike (Within t) i i
instance_within t i h = record { node = (refl, h.node); attribute = refl; arguments = values_within t i.arguments h.arguments }

ref_there : (t : Tree) {n m : Option Node} → OptionLike (Within t) n m → IfSome n (IsThere t)
ref_there t neither = tt
ref_there t (both r) = r.1

value_there : (t : Tree) {v w : Value Node} → ValueLike (Within t) v w → IsValueThere t v
value_there t (int n) = tt
value_there t (truth b) = tt
value_there t (text bytes) = tt
value_there t (ref r) = ref_there t r
value_there t (nodes r) = nodes_there t r

pub values_there : (t : Tree) {vs ws : List (Value Node)} → ListLike (ValueLike (Within t)) vs ws → AllByRecursion (IsValueThere t) vs
values_there t end = tt
values_there t (more v vs) = (value_there t v, values_there t vs)

location_there : (t : Tree) {l m : Location Node} → LocationLike (Within t) l m → IsThere t (node_of l)
location_there t (is r) = r.1
location_there t (tok part r) = r.1
location_there t (slot part r) = r.1
location_there t (up r) = r.1
location_there t (idx r) = r.1
location_there t (drawer part key m r) = r.1

pub value_stays : (rules : Rules) (t : Tree) (i : Instance Node) (v : Value Node) → IsInstanceThere t i → HasValue (content t) (equations rules) i v → IsValueThere t v
value_stays rules t i v h e = let (w, g, s) = carried_value (content t) (content t) (equations rules) (equations rules)
    (equations_within rules t) i i v (instance_within t i h) (λ l u. alike_within t l) e in value_there t s

pub demands_stay : (rules : Rules) (t : Tree) (i j : Instance Node) → IsInstanceThere t i → Leads (content t) (equations rules) i j → IsInstanceThere t j
demands_stay rules t i j h e =
    let (k, s, g) = leads_there (content t) (content t) (equations rules) (equations rules) (equations_within rules t) i i j (instance_within t i h) (λ l u. alike_within t l) e in
    record { node = s.node.1; arguments = values_there t s.arguments }

pub support_stays : (rules : Rules) (t : Tree) (i : Instance Node) (l : Location Node) → IsInstanceThere t i → Supports (content t) (equations rules) l i → IsThere t (node_of l)
support_stays rules t i l h e =
    let (m, s, g) = supports_there (content t) (content t) (equations rules) (equations rules)
    (equations_within rules t) i i l (instance_within t i h) (λ l u. alike_within t l) e in location_there t s
