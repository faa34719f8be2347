-- Entries that are folded into those that used them.
use Rattle.std.specs.Prelude.{◌≡◌, ◌⊎◌, ℕ, List, [], ◌∷◌, Bool, true, Option, None, Some, Contains, slice_get}
use Rattle.smallvec.specs.SmallVec.{SmallVec}
use Rattle.at_model.specs.Run.{Location}
use Rattle.at_index.specs.declared.edge.Edge.{Edge}
use Rattle.at_index.specs.declared.facet.Readers.{Readers}
use Rattle.at_index.specs.Edges.{edges_in}
use Rattle.at_cache.specs.Info.{Info, Memory}
use Rattle.at_cache.specs.Putting.{is_current}
use Rattle.at_index.specs.Readers.{edges_among}
use Rattle.at_cache.specs.Recorded.{edge_to}

-- the list of a slot
abbrev pub slots_at : List (SmallVec ℕ) → ℕ → List ℕ
slots_at lists s = elim (slice_get lists s) [ None ↦ [] | Some v ↦ v.items ]

-- each entry is in one of these slots
abbrev pub AreTaken : Memory → (slots : List ℕ) → Type 0
AreTaken m slots = (s : ℕ) (e : Info) → m s ≡ Some e → Contains slots s

-- these are the slots of what stands at the places, in their order
abbrev pub AreOrdered : (places : ℕ → Option ℕ) → (slots : List ℕ) → Type 0
AreOrdered places slots = (i s : ℕ) → slice_get slots i ≡ Some s → places s ≡ Some i

-- the list of the place of what is in the slot; an empty one where nothing is
abbrev pub listed_at : (places : ℕ → Option ℕ) → List (SmallVec ℕ) → ℕ → List ℕ
listed_at places lists s = elim (places s) [ None ↦ [] | Some p ↦ slots_at lists p ]

-- an entry that is folded into itself stays
abbrev pub Stays : (into : ℕ → List ℕ) → ℕ → Type 0
Stays into s = Contains (into s) s

-- Into which entries each may be folded: such a one is the entry itself, or uses it or one that is folded into the same; and what a
-- folded one used stays or is folded into the same.
pub record Folds (m : Memory) (into : ℕ → List ℕ) : Type 0 where
  pub used : (s r : ℕ) (e : Info) → m s ≡ Some e → Contains (into s) r
      → (r ≡ s) ⊎ ((t : ℕ) × (f : Info) × (m t ≡ Some f) × Contains f.links s × Contains (into t) r)
  pub below : (s r : ℕ) (e : Info) → m s ≡ Some e → Contains (into s) r → (p : ℕ) → Contains e.links p → Stays into p ⊎ Contains (into p) r

-- an edge of these tells of an entry that is folded into r
abbrev pub HasUser : (there : Edge → Bool) → (into : ℕ → List ℕ) → List Edge → ℕ → Type 0
HasUser there into edges r = (x : Edge) × Contains edges x × (there x ≡ true) × Contains (into x.slot) r

-- p stays, or is folded into each of these
abbrev pub IsBelow : (into : ℕ → List ℕ) → List ℕ → ℕ → Type 0
IsBelow into targets p = Stays into p ⊎ ((r : ℕ) → Contains targets r → Contains (into p) r)

-- The entry in the slot, if there is one, may be folded so.
pub record FoldsAt (m : Memory) (into : ℕ → List ℕ) (s : ℕ) (e : Info) : Type 0 where
  pub used : (r : ℕ) → Contains (into s) r → (r ≡ s) ⊎ HasUser (is_current m) into e.users r
  pub below : (p : ℕ) → Contains e.links p → IsBelow into (into s) p

-- some entry that is folded into r has an edge in the list
abbrev pub HasFolded : Memory → (into : ℕ → List ℕ) → List Edge → ℕ → Type 0
HasFolded m into edges r = (s : ℕ) × (e : Info) × (m s ≡ Some e) × Contains (into s) r × Contains edges (edge_to s e)

-- some entry that is folded into r used p, which stays
abbrev pub HasUsed : Memory → (into : ℕ → List ℕ) → (p r : ℕ) → Type 0
HasUsed m into p r = Stays into p × ((s : ℕ) × (e : Info) × (m s ≡ Some e) × Contains (into s) r × Contains e.links p)

-- an edge tells of an entry that is there
abbrev pub Tells : Memory → Edge → Type 0
Tells n x = (f : Info) × (n x.slot ≡ Some f) × (f.stamp ≡ x.stamp)

-- The new list has an edge to each entry into which one is folded of which the old one told, and no others.
pub record Rewritten (m : Memory) (into : ℕ → List ℕ) (n : Memory) (old new : List Edge) : Type 0 where
  pub has : (r : ℕ) (f : Info) → n r ≡ Some f → HasFolded m into old r → Contains new (edge_to r f)
  pub from : (x : Edge) → Contains new x → HasFolded m into old x.slot
  pub tells : (x : Edge) → Contains new x → Tells n x

-- but for its links and users an entry is what it was
pub record IsLeft (old new : Info) : Type 0 where
  pub instance : new.instance ≡ old.instance
  pub value : new.value ≡ old.value
  pub stamp : new.stamp ≡ old.stamp
  pub since : new.since ≡ old.since
  pub going : new.going ≡ old.going

-- What becomes of the entries: those that stay are there, with the edges and the links of what is folded into them.
pub record Folded (lists : Location ℕ → List Edge) (m : Memory) (into : ℕ → List ℕ) (later : Location ℕ → List Edge) (n : Memory) : Type 0 where
  pub from : (r : ℕ) (f : Info) → n r ≡ Some f → Stays into r × ((e : Info) × (m r ≡ Some e) × IsLeft e f × Rewritten m into n e.users f.users)
  pub stays : (r : ℕ) (e : Info) → m r ≡ Some e → Stays into r → (f : Info) × (n r ≡ Some f)
  pub readers : (l : Location ℕ) → Rewritten m into n (lists l) (later l)
  pub links : (r : ℕ) (f : Info) → n r ≡ Some f → (p : ℕ) → HasUsed m into p r → Contains f.links p
  pub link : (r : ℕ) (f : Info) → n r ≡ Some f → (p : ℕ) → Contains f.links p → HasUsed m into p r

-- each of these is current and folded into itself alone
abbrev pub AreAlone : (there : Edge → Bool) → (into : ℕ → List ℕ) → List Edge → Type 0
AreAlone there into edges = (x : Edge) → Contains edges x → (there x ≡ true) × (into x.slot ≡ x.slot ∷ [])

-- the number at a slot, if it isn't that for none, is that of an entry which is there and folded into itself alone
abbrev pub IsLone : (there : Edge → Bool) → (into : ℕ → List ℕ) → (none slot number : ℕ) → Type 0
IsLone there into none s x = (x ≡ none → ⊥) → (there (record { slot = s; stamp = x }) ≡ true) × (into s ≡ s ∷ [])

abbrev pub AreLone : (there : Edge → Bool) → (into : ℕ → List ℕ) → (none : ℕ) → (numbers : List ℕ) → Type 0
AreLone there into none numbers = (s x : ℕ) → slice_get numbers s ≡ Some x → IsLone there into none s x

-- The slots are gathered of all into which those are folded that the edges tell of.
pub record Gathered (there : Edge → Bool) (into : ℕ → List ℕ) (edges : List Edge) (old new : List ℕ) : Type 0 where
  pub kept : (r : ℕ) → Contains old r → Contains new r
  pub has : (x : Edge) (r : ℕ) → Contains edges x → there x ≡ true → Contains (into x.slot) r → Contains new r
  pub from : (r : ℕ) → Contains new r → Contains old r ⊎ HasUser there into edges r

-- Of a list some edges are kept, each of which tells of an entry that is folded into itself alone, and the slots are gathered of all into which
-- those are folded that the others tell of.
pub record Parted (m : Memory) (into : ℕ → List ℕ) (edges : List Edge) (slots : List ℕ) (kept : List Edge) : Type 0 where
  pub has : (x y : Edge) → Contains edges x → is_current m x ≡ true → Contains (into x.slot) y.slot → is_current m y ≡ true
      → Contains kept y ⊎ Contains slots y.slot
  pub from : (y : Edge) → Contains kept y → (is_current m y ≡ true) × HasUser (is_current m) into edges y.slot
  pub users : (r : ℕ) → Contains slots r → HasUser (is_current m) into edges r

-- These edges are those that were kept, and edges that tell of the entries in the slots that are there.
pub record Added (m : Memory) (kept : List Edge) (slots : List ℕ) (edges : List Edge) : Type 0 where
  pub keeps : (y : Edge) → Contains kept y → is_current m y ≡ true → Contains edges y
  pub has : (y : Edge) → Contains slots y.slot → is_current m y ≡ true → Contains edges y
  pub from : (y : Edge) → Contains edges y → Contains kept y ⊎ ((is_current m y ≡ true) × Contains slots y.slot)

-- The new list has a current edge to each entry into which one is folded of which the old one told, and no others.
pub record Refolded (there : Edge → Bool) (into : ℕ → List ℕ) (old new : List Edge) : Type 0 where
  pub has : (y : Edge) → HasUser there into old y.slot → there y ≡ true → Contains new y
  pub from : (y : Edge) → Contains new y → (there y ≡ true) × HasUser there into old y.slot

-- the same of what stands at a place of those of a node
abbrev pub IsRefolded : (there : Edge → Bool) → (into : ℕ → List ℕ) → Option Readers → Option Readers → Type 0
IsRefolded there into None o = o ≡ None
IsRefolded there into (Some r) o = (q : Readers) × (o ≡ Some q) × (q.facet ≡ r.facet) × Refolded there into (edges_in r.edges) (edges_in q.edges)

-- the same of all of a node
abbrev pub AreRefolded : (there : Edge → Bool) → (into : ℕ → List ℕ) → (old new : List Readers) → Type 0
AreRefolded there into old new = (n : ℕ) (l : Location ℕ) → Refolded there into (edges_among n old l) (edges_among n new l)

abbrev pub IsNodeRefolded : (there : Edge → Bool) → (into : ℕ → List ℕ) → Option (SmallVec Readers) → Option (SmallVec Readers) → Type 0
IsNodeRefolded there into None o = o ≡ None
IsNodeRefolded there into (Some v) o = (w : SmallVec Readers) × (o ≡ Some w) × AreRefolded there into v.items w.items

-- The list has those of the links that stay, too.
pub record Linked (into : ℕ → List ℕ) (links old new : List ℕ) : Type 0 where
  pub kept : (p : ℕ) → Contains old p → Contains new p
  pub has : (p : ℕ) → Contains links p → Stays into p → Contains new p
  pub from : (p : ℕ) → Contains new p → Contains old p ⊎ (Stays into p × Contains links p)

-- Each of the targets has them.
pub record LinkedTo (into : ℕ → List ℕ) (targets links : List ℕ) (old new : ℕ → List ℕ) : Type 0 where
  pub kept : (r p : ℕ) → Contains (old r) p → Contains (new r) p
  pub has : (r p : ℕ) → Contains targets r → Contains links p → Stays into p → Contains (new r) p
  pub from : (r p : ℕ) → Contains (new r) p → Contains (old r) p ⊎ (Contains targets r × Stays into p × Contains links p)

-- Each other one into which the entry in the slot is folded, if there is one, has those of its links that stay.
pub record HasLinked (m : Memory) (into : ℕ → List ℕ) (s : ℕ) (old new : ℕ → List ℕ) : Type 0 where
  pub kept : (r p : ℕ) → Contains (old r) p → Contains (new r) p
  pub has : (e : Info) → m s ≡ Some e → (r p : ℕ) → Contains (into s) r → (r ≡ s → ⊥) → Contains e.links p → Stays into p → Contains (new r) p
  pub from : (r p : ℕ) → Contains (new r) p
      → Contains (old r) p ⊎ ((e : Info) × (m s ≡ Some e) × Contains (into s) r × Stays into p × Contains e.links p)

-- The links of each are of those that stay of what was used by an entry that is folded into it: all where that is another one.
pub record AreLinks (m : Memory) (into links : ℕ → List ℕ) : Type 0 where
  pub has : (s r p : ℕ) (e : Info) → m s ≡ Some e → Contains (into s) r → (r ≡ s → ⊥) → Contains e.links p → Stays into p → Contains (links r) p
  pub from : (r p : ℕ) → Contains (links r) p → HasUsed m into p r

-- The lists have the same slots, in whatever order and however often.
pub record HasSame (old new : List ℕ) : Type 0 where
  pub kept : (p : ℕ) → Contains old p → Contains new p
  pub from : (p : ℕ) → Contains new p → Contains old p

-- an entry, if there is one, has these links beside those of its own that stay, and its users are rewritten
abbrev pub IsRelinked : (there : Edge → Bool) → (into : ℕ → List ℕ) → (links : List ℕ) → Option Info → Option Info → Type 0
IsRelinked there into links None o = o ≡ None
IsRelinked there into links (Some e) o = (f : Info) × (o ≡ Some f) × IsLeft e f × Linked into e.links links f.links × Refolded there into e.users f.users

-- The entry in the slot is so, if it stays; the others are as they were.
pub record RelinksAt (into : ℕ → List ℕ) (links : List ℕ) (slot : ℕ) (old new : Memory) : Type 0 where
  pub here : Stays into slot → IsRelinked (is_current old) into links (old slot) (new slot)
  pub others : (k : ℕ) → (k ≡ slot → ⊥) → new k ≡ old k
  pub current : (x : Edge) → is_current new x ≡ is_current old x

-- Each entry that stays is so.
abbrev pub Relinks : (into links : ℕ → List ℕ) → (old new : Memory) → Type 0
Relinks into links old new = (k : ℕ) → Stays into k → IsRelinked (is_current old) into (links k) (old k) (new k)

-- What is in the slot stays, or goes; the others are as they were.
pub record RemovesAt (into : ℕ → List ℕ) (slot : ℕ) (old new : Memory) : Type 0 where
  pub stays : Stays into slot → new slot ≡ old slot
  pub gone : (f : Info) → new slot ≡ Some f → Stays into slot
  pub others : (k : ℕ) → (k ≡ slot → ⊥) → new k ≡ old k

-- What is there stays, and is what it was.
pub record Remains (into : ℕ → List ℕ) (old new : Memory) : Type 0 where
  pub stays : (k : ℕ) → Stays into k → new k ≡ old k
  pub only : (k : ℕ) (f : Info) → new k ≡ Some f → Stays into k
