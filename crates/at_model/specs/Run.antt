-- Evaluations: what one asks of a tree and of other instances, in order. The nodes may be named in any way, by paths or by numbers.
use Rattle.std.specs.Prelude.{◌≡◌, ℕ, ℤ, Bool, true, false, List, [], ◌∷◌, Option, Some, None}
use Rattle.at_model.specs.Trees.{Token}
use Rattle.at_model.specs.Drawers.{Key}

-- the value of an attribute: also a reference to a node, or null (Hedin 2000, "Reference attributed grammars"), or nodes, each once,
-- in the order in which they came up
pub data Value (N : Type 0) : Type 0 where
  Int : ℤ → Value N
  Truth : Bool → Value N
  Text : List ℕ → Value N
  Ref : Option N → Value N
  Nodes : List N → Value N

-- the question for an attribute of a node, with arguments: texts, nodes and null
pub record Instance (N : Type 0) : Type 0 where
  pub node : N
  pub attribute : ℕ
  pub arguments : List (Value N)

-- what an evaluation can look at of a node: that it is there and of which class, a token, the children in a component, its
-- parent, its index in a list; and the children in a component that stand under a mark, a drawer
pub data Location (N : Type 0) : Type 0 where
  Is : N → Location N
  Tok : N → (part : ℕ) → Location N
  Slot : N → (part : ℕ) → Location N
  Up : N → Location N
  Idx : N → Location N
  Drawer : N → (part : ℕ) → Key → (mark : ℕ) → Location N

-- what stands there: the class, the token, the children, the parent with the component of it, the index; in a drawer children, too
abbrev pub Content : {N : Type 0} → Location N → Type 0
Content (Is n) = ℕ
Content (Tok n part) = Token
Content {N} (Slot n part) = List N
Content {N} (Up n) = Option (N × ℕ)
Content (Idx n) = ℕ
Content {N} (Drawer n part key m) = List N

-- a tree, as what stands at each location
abbrev pub Contents : Type 0 → Type 0
Contents N = (l : Location N) → Content l

-- Why an evaluation has no value: something is asked of null, a list has no such index, an optional is empty, a divisor is
-- zero, a node is not of the class, a text is too long.
pub data FaultKind : Type 0 where
  Null : FaultKind
  Index : FaultKind
  Absent : FaultKind
  Zero : FaultKind
  Cast : FaultKind
  Long : FaultKind

-- an evaluation: it gives a value, fails, looks at a location, or demands the value of an instance
pub data Run (N : Type 0) (A : Type 0) : Type 0 where
  Gives : A → Run N A
  Fails : FaultKind → Run N A
  Looks : (l : Location N) → (Content l → Run N A) → Run N A
  Demands : Instance N → (Value N → Run N A) → Run N A

-- one evaluation, and then another one with its value
infixr 20 ◌>>=◌
abbrev pub ◌>>=◌ : {N A B : Type 0} → Run N A → (A → Run N B) → Run N B
Gives a >>= k = k a
Fails f >>= k = Fails f
Looks l h >>= k = Looks l (λ c. h c >>= k)
Demands i h >>= k = Demands i (λ v. h v >>= k)

-- the values of instances, where they are known
abbrev pub Known : Type 0 → Type 0
Known N = Instance N → Option (Value N)

-- what one try finds: a value, a fault, or an instance whose value is not known
pub data Tried (N : Type 0) (A : Type 0) : Type 0 where
  Valued : A → Tried N A
  Faulted : FaultKind → Tried N A
  Needs : Instance N → Tried N A

-- what an evaluation over a tree finds with these known values
abbrev pub tried : {N A : Type 0} → Contents N → Known N → Run N A → Tried N A
tried look known (Gives a) = Valued a
tried look known (Fails f) = Faulted f
tried look known (Looks l k) = tried look known (k (look l))
tried look known (Demands i k) = elim (known i) [ None ↦ Needs i | Some v ↦ tried look known (k v) ]

-- the locations that it looks at up to there, in order
abbrev pub reads : {N A : Type 0} → Contents N → Known N → Run N A → List (Location N)
reads look known (Gives a) = []
reads look known (Fails f) = []
reads look known (Looks l k) = l ∷ reads look known (k (look l))
reads look known (Demands i k) = elim (known i) [ None ↦ [] | Some v ↦ reads look known (k v) ]

-- and the instances that it demands up to there, in order; the last one may be the one whose value is not known
abbrev pub demands : {N A : Type 0} → Contents N → Known N → Run N A → List (Instance N)
demands look known (Gives a) = []
demands look known (Fails f) = []
demands look known (Looks l k) = demands look known (k (look l))
demands look known (Demands i k) = i ∷ elim (known i) [ None ↦ [] | Some v ↦ demands look known (k v) ]

-- a try ends by a value or a fault
abbrev pub has_ended : {N A : Type 0} → Tried N A → Bool
has_ended (Valued a) = true
has_ended (Faulted f) = true
has_ended (Needs i) = false

-- a fact for each way that a try ends
abbrev pub MatchTried : {N A : Type 0} → Tried N A → (A → Type 0) → (FaultKind → Type 0) → (Instance N → Type 0) → Type 0
MatchTried (Valued a) P Q S = P a
MatchTried (Faulted f) P Q S = Q f
MatchTried (Needs i) P Q S = S i

-- an evaluation over a tree looks at just these locations, demands nothing, and goes on as the other one
abbrev pub LooksTo : {N A : Type 0} → Contents N → Run N A → List (Location N) → Run N A → Type 0
LooksTo look r [] s = r ≡ s
LooksTo look (Gives a) (l ∷ ls) s = ⊥
LooksTo look (Fails f) (l ∷ ls) s = ⊥
LooksTo look (Looks m k) (l ∷ ls) s = (m ≡ l) × LooksTo look (k (look m)) ls s
LooksTo look (Demands i k) (l ∷ ls) s = ⊥
