-- What holds of each of some numbers, and what is found among rows.
use Rattle.at_evict.proofs.Common.{◌≡◌, ◌⊎◌, inl, inr, ℕ, ◌<◌, ◌+◌, List, [], ◌∷◌, ◌++◌, Bool, Some, Contains, get_or, take, length, refl, sym, ap, ◌∙◌, subst, append_assoc, append-nil, take_more, Contains-push_cases, same_Some, Instance, Location, Edge, told_of, Entry, Row, edges_in, AreAlone, Folds, FoldsAt, Gathered, HasUser, IsBelow, Linked, LinkedTo, Info, Memory, info, is_current, edges_along, edges_of, Index, got, along_end, along_has}
use Rattle.at_evict.proofs.of_folding.Gathering.{alone_then, gathered_none, gathered_then, user_of}
use Rattle.at_evict.proofs.of_folding.Linking.{linked_then, to_then}

-- each of the first ones, and one more
pub all_more : (P : ℕ → Type 0) (xs : List ℕ) (i d : ℕ) → i < length xs → ((r : ℕ) → Contains (take i xs) r → P r) → P (get_or xs i d) → (r : ℕ) → Contains (take (i + 1) xs) r → P r
all_more P xs i d less before here r c = elim (Contains-push_cases (take i xs) (get_or xs i d) r (subst (λ ys. Contains ys r) (take_more xs i d less) c)) [
  | inl e ↦ before r e
  | inr same ↦ subst P same here
]

pub row_more : (rows : List Row) (i : ℕ) (d : Row) → i < length rows → edges_along (take (i + 1) rows) ≡ edges_along (take i rows) ++ edges_of (get_or rows i d)
row_more rows i d less = ap edges_along (take_more rows i d less) ∙ along_end (take i rows) (get_or rows i d)

module _ (there : Edge → Bool) (into : ℕ → List ℕ) where
  -- a user in one of the rows
  pub user_along : (rows : List Row) (i : ℕ) (d : Row) (r : ℕ) → i < length rows → HasUser there into (edges_of (get_or rows i d)) r → HasUser there into (edges_along rows) r
  user_along rows i d r less = user_of there into (edges_of (get_or rows i d)) (edges_along rows) r (λ x c. along_has rows i (get_or rows i d) x (got rows i d less) c)

  -- Of some edges at the front, with these behind them, all is gathered.
  pub record Behind (all left : List Edge) (old new : List ℕ) : Type 0 where
    pub front : List Edge
    pub is : all ≡ front ++ left
    pub gathered : Gathered there into front old new

  pub behind_none : (all : List Edge) (slots : List ℕ) → Behind all all slots slots
  behind_none all slots = record { front = []; is = refl; gathered = gathered_none there into slots }

  pub behind_one : (all left rest : List Edge) (x : Edge) (old mid new : List ℕ) → Behind all left old mid → left ≡ x ∷ rest
      → Gathered there into (x ∷ []) mid new → Behind all rest old new
  behind_one all left rest x old mid new b is g = record {
    front = b.front ++ x ∷ [];
    is = b.is ∙ ap (λ es. b.front ++ es) is ∙ sym (append_assoc b.front (x ∷ []) rest);
    gathered = gathered_then there into b.front (x ∷ []) b.gathered g;
  }

  -- where none is left that is all
  pub behind_all : (all left : List Edge) (old new : List ℕ) → Behind all left old new → left ≡ [] → Gathered there into all old new
  behind_all all left old new b none =
      subst (λ es. Gathered there into es old new) (sym (append-nil b.front) ∙ ap (λ es. b.front ++ es) (sym none) ∙ sym b.is) b.gathered

  pub alone_row : (rows : List Row) (i : ℕ) (d : Row) → i < length rows → AreAlone there into (edges_along (take i rows))
      → AreAlone there into (edges_of (get_or rows i d)) → AreAlone there into (edges_along (take (i + 1) rows))
  alone_row rows i d less a b =
      subst (AreAlone there into) (sym (row_more rows i d less)) (alone_then there into (edges_along (take i rows)) (edges_of (get_or rows i d)) a b)

-- the links and targets of a loop
pub folds_at : (m : Memory) (into : ℕ → List ℕ) (s : ℕ) (i : Instance ℕ) (entry : Entry) → m s ≡ Some (info (i, entry)) → ((p : ℕ) → Contains entry.links.items p → IsBelow into (into s) p)
    → ((r : ℕ) → Contains (into s) r → (r ≡ s) ⊎ HasUser (is_current m) into (edges_in entry.users) r) → (e : Info) → m s ≡ Some e → FoldsAt m into s e
folds_at m into s i entry is below used e there = subst (FoldsAt m into s) (same_Some (info (i, entry)) e (sym is ∙ there)) (record { used = used; below = below })

-- where that is so of each entry they may be folded
pub folds_by : {lists : Location ℕ → List Edge} {puts : ℕ} {m : Memory} {into : ℕ → List ℕ} → Index lists puts m → ((s : ℕ) (e : Info) → m s ≡ Some e → FoldsAt m into s e) → Folds m into
folds_by {lists} {puts} {m} {into} i at = record {
  used = λ s r e there c. elim ((at s e there).used r c) [
    | inl same ↦ inl same
    | inr (x, d, is, f) ↦ let (g, found, stamp) = told_of m x is in inr (x.slot, g, found, i.uses s e there x d g found (stamp), f)
  ];
  below = λ s r e there c p d. elim ((at s e there).below p d) [ inl stays ↦ inl stays | inr all ↦ inr (all r c) ];
}

-- one link more, and one target more
module _ {into : ℕ → List ℕ} where
  pub linked_more : (xs : List ℕ) (i d : ℕ) (old mid new : List ℕ) → i < length xs → Linked into (take i xs) old mid → Linked into (get_or xs i d ∷ []) mid new → Linked into (take (i + 1) xs) old new
  linked_more xs i d old mid new less a b = subst (λ ys. Linked into ys old new) (sym (take_more xs i d less)) (linked_then (take i xs) (get_or xs i d ∷ []) a b)

  pub to_more : (xs : List ℕ) (i d : ℕ) {links : List ℕ} (f g h : ℕ → List ℕ) → i < length xs → LinkedTo into (take i xs) links f g
      → LinkedTo into (get_or xs i d ∷ []) links g h → LinkedTo into (take (i + 1) xs) links f h
  to_more xs i d {links} f g h less a b = subst (λ ys. LinkedTo into ys links f h) (sym (take_more xs i d less)) (to_then (take i xs) (get_or xs i d ∷ []) a b)
