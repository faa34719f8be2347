-- The nodes of which an entry read the index.
use Rattle.at_index.proofs.Common.{◌≡◌, inl, inr, ℕ, ◌<◌, List, [], ◌∷◌, Bool, true, false, true≢false, Some, Contains, IsTrue, not, cond, nat_eq, length, get_or, slice_get, refl, sym, ap, ◌∙◌, subst, list_any, Contains-append_left, Contains-append_right, Contains-cons_cases, SmallVec, Location, Idx, Loc, loc_view, Edge, Readers, edges_in, is_listed, AreNoted, node_at, edges_among, edges_at, is_of_index, stands_for}
use Rattle.at_store.specs.declared.node.Loc.TheVariants as loc
use Rattle.at_index.proofs.Beginning.{edges_of}
use Rattle.at_index.proofs.Lists.{head_of, none_in}
use Rattle.at_index.proofs.Listed.{edges_are}
use Rattle.at_index.proofs.Listing.{has}
use Rattle.at_index.proofs.Locations.{index_stands}

pub first_edge : (es : List Edge) → nat_eq (length es) 0 ≡ false → (x : Edge) × Contains es x
first_edge [] h = absurd (true≢false h)
first_edge (x ∷ xs) h = (x, head_of x xs)

-- an edge of one facet is one of the location
pub among_has : (n : ℕ) (l : Location ℕ) (rs : List Readers) (r : Readers) (x : Edge) → Contains rs r → stands_for n r.facet l ≡ true
    → Contains (edges_in r.edges) x → Contains (edges_among n rs l) x
among_has n l [] r x c on d = absurd (none_in r c)
among_has n l (s ∷ rs) r x c on d = elim (Contains-cons_cases s r rs c) [
  | inl same ↦ Contains-append_left (edges_of n s l) (edges_among n rs l) x
      (subst (λ (t : Readers). Contains (edges_of n t l) x) (sym same)
      (subst (λ b. Contains (cond b (edges_in r.edges) []) x) (sym on) d))
  | inr rest ↦ Contains-append_right (edges_of n s l) (edges_among n rs l) x (among_has n l rs r x rest on d)
]

pub noted_there : (lists : Location ℕ → List Edge) (nodes : List ℕ) (node : ℕ) → (x : Edge) × Contains (lists (Idx node)) x → AreNoted lists nodes → list_any (nat_eq node) nodes ≡ true
noted_there lists nodes node (x, c) noted = noted node x (has (lists (Idx node)) x c)

-- locations come of which each index is noted
pub noted_on : (lists new : Location ℕ → List Edge) (nodes : List ℕ) (come : Location ℕ → Bool) → AreNoted lists nodes
    → ((n : ℕ) → come (Idx n) ≡ true → list_any (nat_eq n) nodes ≡ true)
    → ((l : Location ℕ) → come l ≡ false → new l ≡ lists l) → AreNoted new nodes
noted_on lists new nodes come noted its others n x h = by (come (Idx n)) refl
  where
    by : (b : Bool) → come (Idx n) ≡ b → list_any (nat_eq n) nodes ≡ true
    by true is = its n is
    by false is = noted n x (subst (λ es. is_listed x es ≡ true) (others (Idx n) is) h)

-- an edge of the index of the node, where it stands among all
pub edge_there : (readers : List (SmallVec Readers)) (node : ℕ) (v : SmallVec Readers) → slice_get readers node ≡ Some v → (x : Edge) × Contains (edges_among node v.items (Idx node)) x → (x : Edge) × Contains (edges_at readers (Idx node)) x
edge_there readers node v there (x, c) = (x, subst (λ es. Contains es x) (sym (edges_are readers (Idx node) v there)) c)

-- the index of a reader
pub reader_index : (r : Readers) (empty : Bool) → true ≡ is_of_index r.facet → empty ≡ nat_eq (length (edges_in r.edges)) 0 → IsTrue (not empty)
    → (x : Edge) × Contains (edges_in r.edges) x × (is_of_index r.facet ≡ true)
reader_index r true index is h = absurd (true≢false (sym h))
reader_index r false index is h = let (x, c) = first_edge (edges_in r.edges) (sym is) in (x, c, sym index)

-- one reader of the node is such
pub index_among : (rs : List Readers) (i : ℕ) (r : Readers) → r ≡ get_or rs i r → i < length rs
    → (x : Edge) × Contains (edges_in r.edges) x × (is_of_index r.facet ≡ true) → (n : ℕ) → (x : Edge) × Contains (edges_among n rs (Idx n)) x
index_among rs i r is less (x, c, index) n = (x, among_has n (Idx n) rs r x (i, less, sym is) (index_stands n r.facet index) c)

pub index_is : (x : Loc) (node n : ℕ) (ns : List ℕ) → x ≡ loc.Idx node → loc_view x ≡ Idx n → list_any (nat_eq node) ns ≡ true → list_any (nat_eq n) ns ≡ true
index_is x node n ns is h listed = subst (λ k. list_any (nat_eq k) ns ≡ true) (ap node_at (sym (ap loc_view is) ∙ h)) listed
