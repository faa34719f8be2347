-- What an instance rests on: the locations that its evaluation and all that it leads to look at.
use Rattle.std.specs.Prelude.{◌≡◌, ◌⊎◌, IsSome, IfSome, ℕ, List, [], ◌∷◌, ◌++◌, map, Option, Some, None, ⊤}
use Rattle.std.specs.List.{flat_map, AllByRecursion}
use Rattle.at_model.specs.Trees.{Tree}
use Rattle.at_model.specs.Paths.{Node, tree_at}
use Rattle.at_model.specs.Bodies.{mentioned}
use Rattle.at_model.specs.Rules.{Rules, prefixes, source_at}
use Rattle.at_model.specs.Run.{Value, Ref, Nodes, Instance, Location, Is, Up, Contents, Run, Gives, Fails, Looks, Demands}
use Rattle.at_model.specs.Meaning.{Equations, HasValue, Leads}

-- an evaluation looks at the location, and each demand before it has a value
abbrev pub Sees : {N A : Type 0} → Contents N → (Instance N → Value N → Type 0) → Run N A → Location N → Type 0
Sees look Has (Gives a) l = ⊥
Sees look Has (Fails f) l = ⊥
Sees look Has (Looks m k) l = (m ≡ l) ⊎ Sees look Has (k (look m)) l
Sees {N} look Has (Demands i k) l = (v : Value N) × Has i v × Sees look Has (k v) l

-- the location supports the instance: an instance that it leads to looks at it
abbrev pub Supports : {N : Type 0} → Contents N → Equations N → Location N → Instance N → Type 0
Supports {N} look equation l i = (j : Instance N) × Leads look equation i j × Sees look (HasValue look equation) (equation j) l

-- the classes of the nodes among the arguments
abbrev pub argument_classes : {N : Type 0} → List (Value N) → List (Location N)
argument_classes [] = []
argument_classes (v ∷ vs) = map (λ n. Is n) (mentioned v) ++ argument_classes vs

-- the elements up to the first one with an answer
abbrev pub up_to_first : {A B : Type 0} → (A → Option B) → List A → List A
up_to_first f [] = []
up_to_first f (a ∷ as') = a ∷ elim (f a) [ None ↦ up_to_first f as' | Some b ↦ [] ]

-- one step up: the parent of a node, and the parent's class
abbrev pub step_up : Node × (ℕ × ℕ) → List (Location Node)
step_up p = Up (p.0 ++ p.1 ∷ []) ∷ Is p.0 ∷ []

-- the way up from a node to where its inherited equation stands
abbrev pub way_up : Rules → Tree → List ℕ → Node → List (Location Node)
way_up rules t name n = flat_map step_up (up_to_first (source_at rules t name) (prefixes n))

-- the path leads to a node of the tree
abbrev pub IsThere : Tree → Node → Type 0
IsThere t n = IsSome (tree_at t n)

-- the value is no reference to a node elsewhere
abbrev pub IsValueThere : Tree → Value Node → Type 0
IsValueThere t (Ref n) = IfSome n (IsThere t)
IsValueThere t (Nodes ns) = AllByRecursion (IsThere t) ns
IsValueThere t v = ⊤

-- the instance is one of a node of the tree, and so are the nodes among its arguments
pub record IsInstanceThere (t : Tree) (i : Instance Node) : Type 0 where
  pub node : IsThere t i.node
  pub arguments : AllByRecursion (IsValueThere t) i.arguments
