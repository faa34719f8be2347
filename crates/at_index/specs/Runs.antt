-- Runs: one edge tells of all that sit behind a place of a run, up to another one.
use Rattle.std.specs.Prelude.{◌≡◌, ◌≤◌, ◌<◌, ◌&&◌, ◌||◌, ◌⊎◌, ℕ, Bool, true, false, not, List, [], ◌∷◌, None, Some, Contains, if◌then◌else◌, nat_eq, nat_lt, slice_get}
use Rattle.std.specs.List.{flat_map}
use Rattle.at_model.specs.Run.{Location}
use Rattle.at_index.specs.declared.edge.Edge.{Edge}
use Rattle.at_index.specs.declared.facet.Facet.{Facet}
use Rattle.at_index.specs.declared.run.Run.{Run}
use Rattle.at_index.specs.declared.run.Reach.{Reach}
use Rattle.at_index.specs.declared.run.Seat.{Seat}
use Rattle.at_index.specs.Asking.{is_index}
use Rattle.at_index.specs.Linking.{Keeps, Reads}
use Rattle.at_index.specs.Sameness.{node_at}
use Rattle.at_index.specs.Readers.{is_of_index, stands_for}

-- whether a place is behind the one, and the other one or before it
abbrev pub lies : (behind last : ℕ) → ℕ → Bool
lies behind last place = nat_lt behind place && not (nat_lt last place)

-- the edges over a place
abbrev pub edges_past : ℕ → List Reach → List Edge
edges_past place rs = flat_map (λ r. if lies r.behind r.last place then r.edge ∷ [] else []) rs

-- the edges over a seat
abbrev pub edges_on : List Run → Seat → List Edge
edges_on runs s = elim (slice_get runs s.run) [ None ↦ [] | Some r ↦ edges_past s.place r.edges.items ]

-- whether the node that sits there is looked at there, but for its index
abbrev pub is_seen : ℕ → Seat → Location ℕ → Bool
is_seen n s l = not (is_index l) && stands_for n s.facet l

-- the edges of a location over the seat of its node
abbrev pub edges_over : List Seat → List Run → Location ℕ → List Edge
edges_over seats runs l = elim (slice_get seats (node_at l)) [ None ↦ [] | Some s ↦ if is_seen (node_at l) s l then edges_on runs s else [] ]

-- whether the seat is in that part of the run
abbrev pub is_within : (run behind last : ℕ) → Seat → Bool
is_within run behind last s = nat_eq s.run run && lies behind last s.place

-- whether the location's node sits in that part of the run, and the location is looked at there
abbrev pub is_reached : List Seat → (run behind last : ℕ) → Location ℕ → Bool
is_reached seats run behind last l = elim (slice_get seats (node_at l)) [ None ↦ false | Some s ↦ is_seen (node_at l) s l && is_within run behind last s ]

-- an edge tells of an entry that is there, or has the number of this one, whose entry is to come
abbrev pub is_live : (tells : Edge → Bool) → Edge → Edge → Bool
is_live tells x y = tells y || nat_eq y.stamp x.stamp

-- edges of a run lose those that tell of nothing
abbrev pub HoldsReach : (tells : Edge → Bool) → Edge → (old new : List Reach) → Type 0
HoldsReach tells x old new = Keeps (λ r. is_live tells x r.edge) old new

-- The new list has all of the old one that are live, and none beside the old one's but this one.
pub record Gains (tells : Edge → Bool) (x : Reach) (old new : List Reach) : Type 0 where
  pub keeps : (r : Reach) → Contains old r → is_live tells x.edge r.edge ≡ true → Contains new r
  pub only : (r : Reach) → Contains new r → Contains old r ⊎ (r ≡ x)

-- lists of locations lose edges that aren't live
abbrev pub Lose : (tells : Edge → Bool) → Edge → (old new : Location ℕ → List Edge) → Type 0
Lose tells x old new = (l : Location ℕ) → Keeps (is_live tells x) (old l) (new l)

-- no two nodes sit in one place
abbrev pub AreApart : List Seat → Type 0
AreApart seats = (m n : ℕ) (s t : Seat) → slice_get seats m ≡ Some s → slice_get seats n ≡ Some t → nat_eq s.place 0 ≡ false
    → s.run ≡ t.run → s.place ≡ t.place → m ≡ n

-- how many places of the run were given
abbrev pub count_of : List Run → ℕ → ℕ
count_of runs k = elim (slice_get runs k) [ None ↦ 0 | Some r ↦ r.count ]

-- each place in which a node sits was given
abbrev pub AreGiven : List Seat → List Run → Type 0
AreGiven seats runs = (n : ℕ) (s : Seat) → slice_get seats n ≡ Some s → s.place ≤ count_of runs s.run

-- no edge is over a place that wasn't given
abbrev pub ArePast : List Run → Type 0
ArePast runs = (k : ℕ) (r : Run) → slice_get runs k ≡ Some r → (x : Reach) → Contains r.edges.items x → x.last ≤ r.count

pub record AreSeated (seats : List Seat) (runs : List Run) : Type 0 where
  pub apart : AreApart seats
  pub given : AreGiven seats runs
  pub past : ArePast runs

-- the node sits in the place of the run, and this is looked at there, which isn't its index
pub record SitsAt (seats : List Seat) (run place node : ℕ) (f : Facet) : Type 0 where
  pub seat : Seat
  pub there : slice_get seats node ≡ Some seat
  pub inside : seat.run ≡ run
  pub at : seat.place ≡ place
  pub facet : seat.facet ≡ f
  pub own : is_of_index f ≡ false

-- That part of the run has those at the front of the locations, of which these are left.
pub record Follows (seats : List Seat) (run behind last : ℕ) (locations left : List (Location ℕ)) : Type 0 where
  pub from : (l : Location ℕ) → is_reached seats run behind last l ≡ true → Contains locations l
  pub all : (l : Location ℕ) → Contains locations l → (is_reached seats run behind last l ≡ true) ⊎ Contains left l
  pub rest : (l : Location ℕ) → Contains left l → Contains locations l
  pub on : behind ≤ last
  pub seated : behind < last → (n : ℕ) × (s : Seat) × (slice_get seats n ≡ Some s) × (s.run ≡ run) × (s.place ≡ last)

-- The lists have one edge more at these, and else those that are live.
pub record Adds {S : Type 0} (tells : Edge → Bool) (x : Edge) (here : S → Bool) (old new : S → List Edge) : Type 0 where
  pub keeps : (s : S) (y : Edge) → Contains (old s) y → is_live tells x y ≡ true → Contains (new s) y
  pub only : (s : S) (y : Edge) → Contains (new s) y → Contains (old s) y ⊎ ((y ≡ x) × (here s ≡ true))

-- Runs lose edges that aren't live, and may give more places.
pub record KeepsRuns (tells : Edge → Bool) (x : Edge) (old new : List Run) : Type 0 where
  pub lists : (s : Seat) → Keeps (is_live tells x) (edges_on old s) (edges_on new s)
  pub given : (k : ℕ) → count_of old k ≤ count_of new k
  pub past : ArePast old → ArePast new

-- no edge is over where the node sits
abbrev pub IsFree : List Seat → List Run → ℕ → Type 0
IsFree seats runs node = (s : Seat) → slice_get seats node ≡ Some s → edges_on runs s ≡ []

-- the same of locations that are listed; all that is live stays
abbrev pub AddsReads : (tells : Edge → Bool) → Edge → (locations : List (Location ℕ)) → (old new : Location ℕ → List Edge) → Type 0
AddsReads tells x locations old new = Reads (is_live tells x) x locations old new

-- the edge stands at all of these locations but those that are left, which are some of them
pub record ListsBut (x : Edge) (locations left : List (Location ℕ)) (lists : Location ℕ → List Edge) : Type 0 where
  pub all : (l : Location ℕ) → Contains locations l → Contains (lists l) x ⊎ Contains left l
  pub rest : (l : Location ℕ) → Contains left l → Contains locations l

-- where the edge stands it stays
abbrev pub Stays : {L : Type 0} → Edge → (old new : L → List Edge) → Type 0
Stays {L} x old new = (l : L) → Contains (old l) x → Contains (new l) x
