-- How far a search for components has come.
use Rattle.std.specs.Prelude.{◌≡◌, ◌⊎◌, ℕ, suc, ◌+◌, ◌<◌, ◌≤◌, Bool, true, false, List, [], ◌∷◌, length, slice_get, take, Some, Vec, unwrap_or}
use Rattle.at_model.specs.Meaning.{Among}
use Rattle.at_solve.specs.declared.search.Group.{Group}
use Rattle.at_solve.specs.declared.search.Mark.{Mark}
use Rattle.at_solve.specs.declared.search.Mark.TheVariants.{Unmet, OnPath, Listed}
use Rattle.at_solve.specs.declared.search.Search.{Search}
use Rattle.at_solve.specs.Components.{listed_at, IsEdge, Leads}

-- it stands at that place
abbrev pub At : {A : Type 0} → List A → ℕ → A → Type 0
At xs n x = slice_get xs n ≡ Some x

-- what is known of the node
abbrev pub mark_at : List Mark → ℕ → Mark
mark_at marks u = unwrap_or (slice_get marks u) Listed

-- nothing is
abbrev pub is_unmet : Mark → Bool
is_unmet Unmet = true
is_unmet (OnPath p) = false
is_unmet Listed = false

-- how much is still to be gone through
abbrev pub cost : {Z : Type 0} → List (Vec ℕ Z) → Mark → ℕ → ℕ
cost edges Unmet u = suc (suc (length (listed_at edges u)))
cost edges (OnPath p) u = 0
cost edges Listed u = 0

abbrev pub cost_from : {Z : Type 0} → List (Vec ℕ Z) → List Mark → ℕ → ℕ
cost_from edges [] u = 0
cost_from edges (m ∷ ms) u = cost edges m u + cost_from edges ms (suc u)

-- no group begins behind the one place, unless it begins at or before the other, too
abbrev pub Reaches : List Group → (from to : ℕ) → Type 0
Reaches groups i p = (k : ℕ) (g : Group) → At groups k g → g.nodes ≤ i → g.nodes ≤ p

-- both stand in one group: each group begins at or before the one, or behind the other
abbrev pub Together : List Group → (i j : ℕ) → Type 0
Together groups i j = (k : ℕ) (g : Group) → At groups k g → (g.nodes ≤ i) ⊎ (j < g.nodes)

-- the place on the path and that among what is still to be looked at belong to one group
abbrev pub Belongs : List Group → (i q : ℕ) → Type 0
Belongs groups i q = (k : ℕ) (g : Group) → At groups k g → ((g.todo ≤ q) × (g.nodes ≤ i)) ⊎ ((q < g.todo) × (i < g.nodes))

-- what a node on the path leads to is listed, or stands on the path in its group or a later one, or is still to be looked at
abbrev pub IsGoneTo : List Mark → (path todo : List ℕ) → List Group → (i w : ℕ) → Type 0
IsGoneTo marks path todo groups i w = (mark_at marks w ≡ Listed)
    ⊎ (((p : ℕ) × At path p w × Reaches groups i p)
    ⊎ ((q : ℕ) × At todo q w × ((k : ℕ) (g : Group) → At groups k g → g.nodes ≤ i → g.todo ≤ q)))

-- On the path each node leads to each behind it, and in a group to each before it, too. `Next` is what is looked at now.
pub record IsPath {Z : Type 0} (edges : List (Vec ℕ Z)) (n : ℕ) (Next : ℕ → Type 0) (marks : List Mark) (path todo : List ℕ)
    (groups : List Group) : Type 0 where
  pub placed : (p u : ℕ) → At path p u → At marks u (OnPath p)
  pub stands : (u p : ℕ) → At marks u (OnPath p) → At path p u
  pub on : (i j u v : ℕ) → i ≤ j → At path i u → At path j v → Leads edges u v
  pub back : (i j u v : ℕ) → i ≤ j → Together groups i j → At path i u → At path j v → Leads edges v u
  pub gone : (i u w : ℕ) → At path i u → IsEdge edges u w → w < n → Next w ⊎ IsGoneTo marks path todo groups i w
  pub from : (q w : ℕ) → At todo q w → (i : ℕ) × (u : ℕ) × At path i u × IsEdge edges u w × Belongs groups i q
  pub within : (k : ℕ) (g : Group) → At groups k g → (g.nodes < length path) × (g.todo ≤ length todo)
  pub rising : (k l : ℕ) (g h : Group) → k < l → At groups k g → At groups l h → (g.nodes < h.nodes) × (g.todo ≤ h.todo)
  pub begins : (i u : ℕ) → At path i u → (k : ℕ) × (g : Group) × At groups k g × (g.nodes ≡ 0)

-- what was found so far
pub record IsFound {Y Z : Type 0} (edges : List (Vec ℕ Z)) (n : ℕ) (marks : List Mark) (lists : List (Vec ℕ Y)) : Type 0 where
  pub size : length marks ≡ n
  pub listed : (u : ℕ) → At marks u Listed → (k : ℕ) × Among u (listed_at lists k)
  pub marked : (u k : ℕ) → Among u (listed_at lists k) → At marks u Listed
  pub once : (u k l : ℕ) → Among u (listed_at lists k) → Among u (listed_at lists l) → k ≡ l
  pub joined : (u v k : ℕ) → Among u (listed_at lists k) → Among v (listed_at lists k) → Leads edges u v
  pub behind : (u v k : ℕ) → Among u (listed_at lists k) → IsEdge edges u v → v < n → (l : ℕ) × (l ≤ k) × Among v (listed_at lists l)

-- so far it has come, and this is looked at now
pub record Searches {Z : Type 0} (edges : List (Vec ℕ Z)) (Next : ℕ → Type 0) (s : Search) : Type 0 where
  pub path : IsPath edges (length edges) Next s.marks.items s.path.items s.todo.items s.groups.items
  pub found : IsFound edges (length edges) s.marks.items s.lists.items

-- a node of the last group leads to this one, or there is no path
abbrev pub LeadsFromLast : {Z : Type 0} → List (Vec ℕ Z) → (path : List ℕ) → List Group → ℕ → Type 0
LeadsFromLast edges path groups w = (path ≡ [])
    ⊎ ((m : ℕ) × (u : ℕ) × At path m u × IsEdge edges u w × ((k : ℕ) (g : Group) → At groups k g → g.nodes ≤ m))

-- how much it still has to go through
abbrev pub weight : {Z : Type 0} → List (Vec ℕ Z) → Search → ℕ
weight edges s = cost_from edges s.marks.items 0 + (length s.todo.items + length s.groups.items)

-- what was met stays so
abbrev pub StayMet : Search → Search → Type 0
StayMet old new = (u : ℕ) → is_unmet (mark_at old.marks.items u) ≡ false → is_unmet (mark_at new.marks.items u) ≡ false

-- the last groups are gone, which begin behind the place, and all of those
abbrev pub HasMerged : (place : ℕ) → (old new : List Group) → Type 0
HasMerged place old new = (k : ℕ) × (new ≡ take k old) × ((l : ℕ) (g : Group) → k ≤ l → At old l g → place < g.nodes)
    × ((k ≡ 0) ⊎ ((j : ℕ) × (g : Group) × (k ≡ j + 1) × At old j g × (g.nodes ≤ place)))

-- just these are listed then
pub record HasListed (nodes : List ℕ) (marks new : List Mark) : Type 0 where
  pub size : length new ≡ length marks
  pub listed : (u : ℕ) → Among u nodes → u < length marks → At new u Listed
  pub others : (u : ℕ) → (Among u nodes → ⊥) → slice_get new u ≡ slice_get marks u
