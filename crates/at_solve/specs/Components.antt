-- The components of a graph whose nodes are numbers: of those in one each leads to each.
use Rattle.std.specs.Prelude.{◌≡◌, ◌⊎◌, ℕ, ◌<◌, ◌≤◌, List, [], length, slice_get, Option, None, Some, Vec}
use Rattle.at_model.specs.Meaning.{Among}

-- the list at that place, nothing behind the last
abbrev pub listed_at : {Z : Type 0} → List (Vec ℕ Z) → ℕ → List ℕ
listed_at lists p = elim (slice_get lists p) [ None ↦ [] | Some v ↦ v.items ]

-- there is an edge from the one to the other
abbrev pub IsEdge : {Z : Type 0} → List (Vec ℕ Z) → (from to : ℕ) → Type 0
IsEdge edges from to = Among to (listed_at edges from)

-- edges lead from the one to the other
pub data Leads {Z : Type 0} (edges : List (Vec ℕ Z)) : (from to : ℕ) → Type 0 where
  stays : (n : ℕ) → Leads edges n n
  goes : (n m k : ℕ) → IsEdge edges n m → Leads edges m k → Leads edges n k

-- The lists are the components of the nodes below this number that edges of such nodes join, those to which others lead first:
-- each node is in one; in one list each leads to each; and edges lead to the same list or one before it.
pub record AreComponents {Y Z : Type 0} (edges : List (Vec ℕ Z)) (n : ℕ) (lists : List (Vec ℕ Y)) : Type 0 where
  pub whole : (u : ℕ) → u < n → (k : ℕ) × Among u (listed_at lists k)
  pub once : (u k l : ℕ) → Among u (listed_at lists k) → Among u (listed_at lists l) → k ≡ l
  pub joined : (u v k : ℕ) → Among u (listed_at lists k) → Among v (listed_at lists k) → Leads edges u v
  pub behind : (u v k : ℕ) → Among u (listed_at lists k) → IsEdge edges u v → v < n → (l : ℕ) × (l ≤ k) × Among v (listed_at lists l)
