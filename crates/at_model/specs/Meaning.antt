-- What equations mean: the outcome of each instance, and circles (Knuth 1968, "Semantics of context-free languages";
-- Hedin 2000, "Reference attributed grammars").
use Rattle.std.specs.Prelude.{◌≡◌, ◌⊎◌, ℕ, zero, suc, Bool, false, cond, List, [], ◌∷◌, ◌++◌, Option, Some, None, option_map}
use Rattle.at_model.specs.Trees.{Tree, Token, Cell, Trees, Holds as holds, class_of}
use Rattle.at_model.specs.Trees as tree
use Rattle.at_model.specs.Drawers.{Key, stands_under}
use Rattle.at_model.specs.Paths.{Node, node_eq, parent_of, tree_at, cell_at, children_at}
use Rattle.at_model.specs.Run.{Value, Instance, Is, Tok, Slot, Up, Idx, Drawer, Contents, FaultKind, Run, Gives, Fails, Looks, Demands, Known, Tried, Valued, Faulted, Needs, tried}
use Rattle.at_model.specs.Bodies.{eval}
use Rattle.at_model.specs.Rules.{Rules, Source, evaluation}

-- what an instance comes to: a value, or a fault in the equation of the instance that is named
pub data Outcome (N : Type 0) : Type 0 where
  Finds : Value N → Outcome N
  Faults : FaultKind → Instance N → Outcome N

-- the value that an outcome finds
abbrev pub value_in : {N : Type 0} → Option (Outcome N) → Option (Value N)
value_in None = None
value_in (Some (Finds v)) = Some v
value_in (Some (Faults f i)) = None

-- the evaluation of each instance
abbrev pub Equations : Type 0 → Type 0
Equations N = Instance N → Run N (Value N)

-- the outcome of an instance, from its evaluation and from the outcomes of the instances that it demands
abbrev pub settled : {N : Type 0} → (Instance N → Option (Outcome N)) → Instance N → Tried N (Value N) → Option (Outcome N)
settled below i (Valued v) = Some (Finds v)
settled below i (Faulted f) = Some (Faults f i)
settled below i (Needs j) = below j

-- the outcome of an instance by demands that are nested less than this deep
abbrev pub outcome_at : {N : Type 0} → Contents N → Equations N → ℕ → Instance N → Option (Outcome N)
outcome_at look equation zero i = None
outcome_at look equation (suc n) i = settled (outcome_at look equation n) i (tried look (λ j. value_in (outcome_at look equation n j)) (equation i))

-- the instance has the outcome
abbrev pub Holds : {N : Type 0} → Contents N → Equations N → Instance N → Outcome N → Type 0
Holds look equation i o = (n : ℕ) × (outcome_at look equation n i ≡ Some o)

-- the instance has the value
abbrev pub HasValue : {N : Type 0} → Contents N → Equations N → Instance N → Value N → Type 0
HasValue look equation i v = Holds look equation i (Finds v)

-- an evaluation reaches the demand of j, and each demand before it has a value
abbrev pub Reaches : {N A : Type 0} → Contents N → (Instance N → Value N → Type 0) → Run N A → Instance N → Type 0
Reaches look Has (Gives a) j = ⊥
Reaches look Has (Fails f) j = ⊥
Reaches look Has (Looks l k) j = Reaches look Has (k (look l)) j
Reaches {N} look Has (Demands i k) j = (i ≡ j) ⊎ ((v : Value N) × Has i v × Reaches look Has (k v) j)

-- the evaluation of i comes to the demand of j
abbrev pub Comes : {N : Type 0} → Contents N → Equations N → Instance N → Instance N → Type 0
Comes look equation i j = Reaches look (HasValue look equation) (equation i) j

-- each of the instances comes to the next, and the last one to j
abbrev pub Walks : {N : Type 0} → Contents N → Equations N → Instance N → List (Instance N) → Instance N → Type 0
Walks look equation i [] j = Comes look equation i j
Walks look equation i (m ∷ ms) j = Comes look equation i m × Walks look equation m ms j

-- demand leads from i to j, in any number of steps
abbrev pub Leads : {N : Type 0} → Contents N → Equations N → Instance N → Instance N → Type 0
Leads {N} look equation i j = (i ≡ j) ⊎ ((is : List (Instance N)) × Walks look equation i is j)

-- it is one of these
abbrev pub Among : {A : Type 0} → A → List A → Type 0
Among a [] = ⊥
Among a (b ∷ bs) = (a ≡ b) ⊎ Among a bs

-- no two of them are equal
abbrev pub Distinct : {A : Type 0} → List A → Type 0
Distinct [] = Unit {0}
Distinct (a ∷ as') = (¬ (Among a as')) × Distinct as'

-- demand leads from q over distinct instances back to one of them, which is j
abbrev pub Circular : {N : Type 0} → Contents N → Equations N → Instance N → Instance N → Type 0
Circular {N} look equation q j = (is : List (Instance N)) × Distinct (q ∷ is) × Walks look equation q is j × Among j (q ∷ is)

-- an answer to a question: an outcome, or the instance to which demand leads back
pub data Answer (N : Type 0) : Type 0 where
  Outcomes : Outcome N → Answer N
  Circle : Instance N → Answer N

-- it answers the question q
abbrev pub Answers : {N : Type 0} → Contents N → Equations N → Instance N → Answer N → Type 0
Answers look equation q (Outcomes o) = Holds look equation q o
Answers look equation q (Circle j) = Circular look equation q j

-- what is known holds
abbrev pub Right : {N : Type 0} → Contents N → Equations N → Known N → Type 0
Right {N} look equation known = (j : Instance N) (v : Value N) → known j ≡ Some v → HasValue look equation j v

-- the nodes of these trees, which stand in a part of the node from this position on
abbrev pub child_nodes : {A : Type 0} → Node → ℕ → ℕ → List A → List Node
child_nodes n part i [] = []
child_nodes n part i (t ∷ ts) = (n ++ (part, i) ∷ []) ∷ child_nodes n part (suc i) ts

-- the token that a cell holds
abbrev pub token_in : Option Cell → Token
token_in (Some (holds v)) = v
token_in _ = tree.Truth false

-- a tree stands under the mark, by that key
abbrev pub is_marked : Key → ℕ → Tree → Bool
is_marked key m u = stands_under key m (class_of u) (token_in (cell_at u key.token))

-- the nodes of those of these trees for which the test is true, which stand in a part of the node from this position on
abbrev pub chosen_nodes : {A : Type 0} → (A → Bool) → Node → ℕ → ℕ → List A → List Node
chosen_nodes f n part i [] = []
chosen_nodes f n part i (t ∷ ts) = cond (f t) ((n ++ (part, i) ∷ []) ∷ chosen_nodes f n part (suc i) ts) (chosen_nodes f n part (suc i) ts)

-- what stands at a location of a tree; a node that is not there has class 0 and nothing in it
abbrev pub content : Tree → Contents Node
content t (Is n) = elim (tree_at t n) [ None ↦ 0 | Some u ↦ class_of u ]
content t (Tok n part) = elim (tree_at t n) [ None ↦ tree.Truth false | Some u ↦ token_in (cell_at u part) ]
content t (Slot n part) = elim (tree_at t n) [ None ↦ [] | Some u ↦ child_nodes n part 0 (children_at u part) ]
content t (Up n) = option_map (λ p. (p.0, p.1.0)) (parent_of n)
content t (Idx n) = elim (parent_of n) [ None ↦ 0 | Some p ↦ p.1.1 ]
content t (Drawer n part key m) = elim (tree_at t n) [ None ↦ [] | Some u ↦ chosen_nodes (is_marked key m) n part 0 (children_at u part) ]

-- how the instances of a tree are evaluated
abbrev pub equations : Rules → Equations Node
equations rules i = evaluation rules node_eq i

-- the evaluation by an inherited equation, at the node where it stands
abbrev pub at_source : Rules → List (Value Node) → Source → Run Node (Value Node)
at_source rules vs s = eval rules.classes node_eq s.0 (record { this = s.1; names = vs; child = Some (s.1 ++ s.2 ∷ []) })
