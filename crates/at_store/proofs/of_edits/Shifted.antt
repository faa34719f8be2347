-- Which drawers an edit changes is the same over numbers and over paths.
use Rattle.std.proofs.Common.{◌≡◌, ℕ, Bool, true, false, not, ◌&&◌, ◌||◌, nat_eq, Option, Some, None, refl, ap, ◌∙◌}
use Rattle.at_model.specs.Bodies.{bool_eq}
use Rattle.at_model.specs.Drawers.{Key, has_key, stands_under}
use Rattle.at_model.specs.Trees.{Tree, Holds, class_of}
use Rattle.at_model.specs.Trees as trees
use Rattle.at_model.specs.Paths.{Node, cell_at, node_eq, parent_of, tree_at}
use Rattle.at_model.specs.Run.{Contents, Drawer, Idx, Is, Location, Slot, Tok, Up}
use Rattle.at_model.specs.Meaning.{content, is_marked, token_in}
use Rattle.at_model.specs.Alike.{OptionLike, neither, both, LocationLike, SameLike, Names}
use Rattle.at_model.specs.Alike as alike
use Rattle.at_model.specs.Edits.{Edit, with_cell}
use Rattle.at_model.specs.Edits as edit
use Rattle.at_model.specs.Touches.{is_drawer, is_drawer_around, shifts}
use Rattle.at_model.proofs.Nodes.{same_like, nat_eq-is, node_eq-is}
use Rattle.at_store.specs.Numbers.{IsApart, contents, path_in, relabel}
use Rattle.at_store.specs.Touching.{Change, ChangeLike, change_of, set, put, drop, insert, token, move}
use Rattle.at_store.specs.Shifting.{brings_of, is_drawer_in, is_drawer_of, shifts_by, stands}
use Rattle.at_store.proofs.Found.{path_injective}
use Rattle.at_store.proofs.Relabelled.{contents_alike}
use Rattle.at_store.proofs.of_edits.Touched.{parent-of}

-- over two namings
module _ {N M : Type 0} (R : N → M → Type 0) (same : N → N → Bool) (other : M → M → Bool) (like : SameLike R same other) where
  drawer-like : (a : N) (c : M) (p q : ℕ) (f g : Key → ℕ → Bool) {l : Location N} {m : Location M} → R a c → p ≡ q
      → ((key : Key) (mark : ℕ) → f key mark ≡ g key mark) → LocationLike R l m → is_drawer_of same a p f l ≡ is_drawer_of other c q g m
  drawer-like a c p q f g r e h (alike.is s) = refl
  drawer-like a c p q f g r e h (alike.tok x s) = refl
  drawer-like a c p q f g r e h (alike.slot x s) = refl
  drawer-like a c p q f g r e h (alike.up s) = refl
  drawer-like a c p q f g r e h (alike.idx s) = refl
  drawer-like a c p q f g r e h (alike.drawer {n = n} {m = m} x key mark s) = λ i. like a n c m r s i && nat_eq (e i) x && h key mark i

  around-like : (f g : Key → ℕ → Bool) {l : Location N} {m : Location M} → ((key : Key) (mark : ℕ) → f key mark ≡ g key mark) → LocationLike R l m
      → {o : Option (N × ℕ)} {u : Option (M × ℕ)} → OptionLike (λ (p : N × ℕ) (q : M × ℕ). R p.0 q.0 × (p.1 ≡ q.1)) o u
      → is_drawer_in same f l o ≡ is_drawer_in other g m u
  around-like f g h s neither = refl
  around-like f g h s (both {a = p} {b = q} r) = drawer-like p.0 q.0 p.1 q.1 f g r.0 r.1 h s

  module _ (look : Contents N) (also : Contents M)
      (ups : (a : N) (b : M) → R a b → OptionLike (λ (p : N × ℕ) (q : M × ℕ). R p.0 q.0 × (p.1 ≡ q.1)) (look (Up a)) (also (Up b)))
      (standing : (a : N) (b : M) → R a b → (key : Key) (mark : ℕ) → stands look a key mark ≡ stands also b key mark)
      (f g : Key → ℕ → Bool) (brings : (key : Key) (mark : ℕ) → f key mark ≡ g key mark) where
    pub shifts-like : {c : Change N} {d : Change M} {l : Location N} {m : Location M} → ChangeLike R c d → LocationLike R l m
        → shifts_by same look f c l ≡ shifts_by other also g d m
    shifts-like (set {n = a} {m = b} r) s = λ i.
        around-like (stands look a) (stands also b) (standing a b r) s (ups a b r) i || around-like f g brings s (ups a b r) i
    shifts-like (put {n = a} {m = b} part r) s = drawer-like a b part part f g r refl brings s
    shifts-like (drop {n = a} {m = b} r) s = around-like (stands look a) (stands also b) (standing a b r) s (ups a b r)
    shifts-like (insert {n = a} {m = b} part r) s = drawer-like a b part part f g r refl brings s
    shifts-like (token {n = a} {m = b} part r) s = λ i.
        not (bool_eq (around-like (stands look a) (stands also b) (standing a b r) s (ups a b r) i) (around-like f g brings s (ups a b r) i))
    shifts-like (move {n = a} {to = x} {m = b} {there = y} part r q) s = λ i.
        around-like (stands look a) (stands also b) (standing a b r) s (ups a b r) i
        || drawer-like x y part part (stands look a) (stands also b) q refl (standing a b r) s i

-- over paths
drawer-same : (a : Node) (part : ℕ) (f : Key → ℕ → Bool) (u : Tree) (l : Location Node) → ((key : Key) (mark : ℕ) → f key mark ≡ is_marked key mark u)
    → is_drawer_of node_eq a part f l ≡ is_drawer a part u l
drawer-same a part f u (Is n) h = refl
drawer-same a part f u (Tok n p) h = refl
drawer-same a part f u (Slot n p) h = refl
drawer-same a part f u (Up n) h = refl
drawer-same a part f u (Idx n) h = refl
drawer-same a part f u (Drawer n p key mark) h = ap (λ b. node_eq a n && nat_eq part p && b) (h key mark)

none_of : (b : Bool) → (b && false) ≡ false
none_of true = refl
none_of false = refl

-- nothing stands in a drawer by a test that nothing passes
drawer-none : (a : Node) (part : ℕ) (f : Key → ℕ → Bool) (l : Location Node) → ((key : Key) (mark : ℕ) → f key mark ≡ false)
    → is_drawer_of node_eq a part f l ≡ false
drawer-none a part f (Is n) h = refl
drawer-none a part f (Tok n p) h = refl
drawer-none a part f (Slot n p) h = refl
drawer-none a part f (Up n) h = refl
drawer-none a part f (Idx n) h = refl
drawer-none a part f (Drawer n p key mark) h = ap (λ b. node_eq a n && nat_eq part p && b) (h key mark) ∙ none_of (node_eq a n && nat_eq part p)

-- what stands under a mark at a node, where there is one and where there is none
pub node_marked : (t : Tree) (n : Node) (u : Tree) (key : Key) (mark : ℕ) → tree_at t n ≡ Some u → stands (content t) n key mark ≡ is_marked key mark u
node_marked t n u key mark found = ap (λ (o : Option Tree). stands_under key mark
    (elim o [ None ↦ 0 | Some u ↦ class_of u ]) (elim o [ None ↦ trees.Truth false | Some u ↦ token_in (cell_at u key.token) ])) found

node_none : (t : Tree) (n : Node) (key : Key) (mark : ℕ) → tree_at t n ≡ None → stands (content t) n key mark ≡ false
node_none t n key mark none = ap (λ (o : Option Tree). stands_under key mark
    (elim o [ None ↦ 0 | Some u ↦ class_of u ]) (elim o [ None ↦ trees.Truth false | Some u ↦ token_in (cell_at u key.token) ])) none
    ∙ none_of (has_key key 0)

module _ (t : Tree) (l : Location Node) where
  around-same : (node : Node) (f : Key → ℕ → Bool) (u : Tree) → ((key : Key) (mark : ℕ) → f key mark ≡ is_marked key mark u)
      → is_drawer_in node_eq f l (content t (Up node)) ≡ is_drawer_around node u l
  around-same node f u h = parent-of (λ p. is_drawer_of node_eq p.0 p.1 f l) (λ p. is_drawer p.0 p.1.0 u l)
      (λ p. drawer-same p.0 p.1.0 f u l h) (parent_of node)

  around-none : (node : Node) (f : Key → ℕ → Bool) → ((key : Key) (mark : ℕ) → f key mark ≡ false) → is_drawer_in node_eq f l (content t (Up node)) ≡ false
  around-none node f h = parent-of (λ p. is_drawer_of node_eq p.0 p.1 f l) (λ p. false) (λ p. drawer-none p.0 p.1.0 f l h) (parent_of node)
      ∙ nowhere (parent_of node)
    where
      nowhere : (o : Option (Node × (ℕ × ℕ))) → elim o as (λ _. Bool) [ None ↦ false | Some p ↦ false ] ≡ false
      nowhere None = refl
      nowhere (Some p) = refl

  of-same : (node : Node) (o : Option Tree) → tree_at t node ≡ o
      → is_drawer_in node_eq (stands (content t) node) l (content t (Up node)) ≡ elim o [ None ↦ false | Some u ↦ is_drawer_around node u l ]
  of-same node None none = around-none node (stands (content t) node) (λ key mark. node_none t node key mark none)
  of-same node (Some u) found = around-same node (stands (content t) node) u (λ key mark. node_marked t node u key mark found)

  to-same : (node to : Node) (part : ℕ) (o : Option Tree) → tree_at t node ≡ o
      → is_drawer_of node_eq to part (stands (content t) node) l ≡ elim o [ None ↦ false | Some u ↦ is_drawer to part u l ]
  to-same node to part None none = drawer-none to part (stands (content t) node) l (λ key mark. node_none t node key mark none)
  to-same node to part (Some u) found = drawer-same to part (stands (content t) node) u l (λ key mark. node_marked t node u key mark found)

  later-same : (node : Node) (part : ℕ) (v : trees.Token) (o : Option Tree) → tree_at t node ≡ o
      → not (bool_eq (is_drawer_in node_eq (stands (content t) node) l (content t (Up node)))
      (is_drawer_in node_eq (brings_of t (edit.Token node part v)) l (content t (Up node))))
      ≡ elim o [ None ↦ false | Some u ↦ not (bool_eq (is_drawer_around node u l) (is_drawer_around node (with_cell (λ c. Holds v) part u) l)) ]
  later-same node part v None none = λ i. not (bool_eq
      (around-none node (stands (content t) node) (λ key mark. node_none t node key mark none) i)
      (around-none node (brings_of t (edit.Token node part v)) (λ key mark. ap (λ (o : Option Tree). elim o as (λ _. Bool) [
        | None ↦ false
        | Some u ↦ is_marked key mark (with_cell (λ c. Holds v) part u)
      ]) none) i))
  later-same node part v (Some u) found = λ i. not (bool_eq
      (around-same node (stands (content t) node) u (λ key mark. node_marked t node u key mark found) i)
      (around-same node (brings_of t (edit.Token node part v)) (with_cell (λ c. Holds v) part u) (λ key mark. ap (λ (o : Option Tree). elim o as (λ _. Bool) [
        | None ↦ false
        | Some u ↦ is_marked key mark (with_cell (λ c. Holds v) part u)
      ]) found) i))

  shifted-by_paths : (e : Edit) → shifts_by node_eq (content t) (brings_of t e) (change_of e) l ≡ shifts t e l
  shifted-by_paths (edit.Set node new) = λ i. of-same node (tree_at t node) refl i
      || around-same node (brings_of t (edit.Set node new)) new (λ key mark. refl) i
  shifted-by_paths (edit.Put node part new) = drawer-same node part (brings_of t (edit.Put node part new)) new l (λ key mark. refl)
  shifted-by_paths (edit.Drop node) = of-same node (tree_at t node) refl
  shifted-by_paths (edit.Insert node part index new) = drawer-same node part (brings_of t (edit.Insert node part index new)) new l (λ key mark. refl)
  shifted-by_paths (edit.Token node part v) = later-same node part v (tree_at t node) refl
  shifted-by_paths (edit.Move node to part index) = λ i. of-same node (tree_at t node) refl i || to-same node to part (tree_at t node) refl i

module _ (s : Tree) (f : ℕ → ℕ) (apart : IsApart s) where
  abbrev Stands : ℕ → Node → Type 0
  Stands = Names (λ k. path_in k s)

  abbrev now : Tree
  now = relabel f s

  ups : (a : ℕ) (b : Node) → Stands a b → OptionLike (λ (p : ℕ × ℕ) (q : Node × ℕ). Stands p.0 q.0 × (p.1 ≡ q.1)) (contents s now (Up a)) (content now (Up b))
  ups a b r = contents_alike f s apart (Up a) (Up b) (alike.up r)

  pub standing_alike : (a : ℕ) (b : Node) → Stands a b → (key : Key) (mark : ℕ) → stands (contents s now) a key mark ≡ stands (content now) b key mark
  standing_alike a b r key mark =
      let class : contents s now (Is a) ≡ content now (Is b) = contents_alike f s apart (Is a) (Is b) (alike.is r) in
      let text : contents s now (Tok a key.token) ≡ content now (Tok b key.token) = contents_alike f s apart (Tok a key.token) (Tok b key.token) (alike.tok key.token r) in
      λ i. stands_under key mark (class i) (text i)

  pub shifted : (brings : Key → ℕ → Bool) (c : Change ℕ) (e : Edit) (l : Location ℕ) (m : Location Node) → ChangeLike Stands c (change_of e)
      → ((key : Key) (mark : ℕ) → brings key mark ≡ brings_of now e key mark) → LocationLike Stands l m
      → shifts_by nat_eq (contents s now) brings c l ≡ shifts now e m
  shifted brings c e l m r h same =
      shifts-like Stands nat_eq node_eq (same_like nat_eq node_eq nat_eq-is node_eq-is (λ k. path_in k s) (path_injective s))
      (contents s now) (content now) ups standing_alike brings (brings_of now e) h r same ∙ shifted-by_paths now m e
