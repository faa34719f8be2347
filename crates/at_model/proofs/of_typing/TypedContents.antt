-- What stands at the locations of a tree that conforms.
use Rattle.std.proofs.Common.{◌≡◌, ℕ, zero, suc, ◌+◌, ◌<◌, ◌≤◌, Bool, true, false, cond, not, List, [], ◌∷◌, ◌++◌, length, Option, Some, None, inl, inr, refl, sym, ap, ◌∙◌, subst, arith}
use Rattle.std.specs.Prelude.{IsSome, IfSome, option_map, option_and_then}
use Rattle.std.specs.List.{slice_get, AllByRecursion}
use Rattle.std.proofs.lemmas.Option.{slice_get_within}
use Rattle.at_model.specs.Classes.{Classes, TokenKind, Component, Token, class_in, parts, is_sub, is_concrete, fits}
use Rattle.at_model.specs.Classes as class
use Rattle.at_model.specs.Trees.{Tree, Node as Branch, Cells, no_cells, cell, Cell, One, Many, Empty, Filled, Holds, Trees, no_trees, tree, children, from_cells, from_trees, class_of, conforms, cells_conform, cell_conforms, is_of_kind, nodes}
use Rattle.at_model.specs.Trees as held
use Rattle.at_model.specs.Paths.{Node, tree_at, cell_at, children_at, parent_of}
use Rattle.at_model.specs.Run.{Tok, Slot, Up, Idx}
use Rattle.at_model.specs.Bodies.{value_of}
use Rattle.at_model.specs.Meaning.{content, is_marked, child_nodes, chosen_nodes, token_in}
use Rattle.at_model.proofs.of_texts.ConformingParts.{conforming_parts}
use Rattle.at_model.proofs.Complete.{child_conforms, conforms_at, fits_there}
use Rattle.at_model.proofs.WithinTree.{tree_at-snoc}
use Rattle.at_model.proofs.WayUp.{snoc, parent_of-snoc, parent_there}
use Rattle.at_model.specs.Kinds.{shape_of_part, class_of_part, kind_of_token}
use Rattle.at_model.specs.TypedRuns.{ClassAt, Texts, class_at, IsNodeOf, IsOfKind, IsAllowed, AreContentsTyped}
use Rattle.at_model.specs.Instances.{tokens, cells_tokens, cell_tokens, trees_tokens}
use Rattle.at_model.specs.Terms.{IsToken}
use Rattle.at_model.specs.Enduring.{AreTokens, CellsAreTokens, CellIsTokens, TreesAreTokens}
use Rattle.at_model.proofs.Everywhere.{both_all, all_both}
use Rattle.at_model.proofs.Options.{mapped, led, both}

-- what goes down to children goes down to every node
pub inside : (P : Tree → Type 0) → ((t u : Tree) (part i : ℕ) → slice_get (children_at t part) i ≡ Some u → P t → P u) → (t : Tree) (n : Node) (u : Tree) → P t → tree_at t n ≡ Some u → P u
inside P down t [] u h e = let f : t ≡ u = cc in subst P f h
inside P down t (s ∷ ss) u h e =
    let (v, f, g) = led (λ v. tree_at v ss) (slice_get (children_at t s.0) s.1) u e in
    inside P down v ss u (down t v s.0 s.1 f h) g

-- tokens -------------------------------------------------------------------------------------------------------------

module _ (P : held.Token → Type 0) where
  cell_told : (cells : Cells) (part : ℕ) (c : Cell) → slice_get (from_cells cells) part ≡ Some c → AllByRecursion P (cells_tokens cells) → AllByRecursion P (cell_tokens c)
  cell_told no_cells part c e h = absurd (cc)
  cell_told (cell d cs) zero c e h = let f : d ≡ c = cc in subst (λ z. AllByRecursion P (cell_tokens z)) f ((both_all P (cell_tokens d) (cells_tokens cs) h).0)
  cell_told (cell d cs) (suc part) c e h = cell_told cs part c e ((both_all P (cell_tokens d) (cells_tokens cs) h).1)

  tree_told : (ts : Trees) (i : ℕ) (u : Tree) → slice_get (from_trees ts) i ≡ Some u → AllByRecursion P (trees_tokens ts) → AllByRecursion P (tokens u)
  tree_told no_trees i u e h = absurd (cc)
  tree_told (tree t ts) zero u e h = let f : t ≡ u = cc in subst (λ z. AllByRecursion P (tokens z)) f ((both_all P (tokens t) (trees_tokens ts) h).0)
  tree_told (tree t ts) (suc i) u e h = tree_told ts i u e ((both_all P (tokens t) (trees_tokens ts) h).1)

  child_told : (c : Cell) (i : ℕ) (u : Tree) → slice_get (children c) i ≡ Some u → AllByRecursion P (cell_tokens c) → AllByRecursion P (tokens u)
  child_told (One t) zero u e h = let f : t ≡ u = cc in subst (λ z. AllByRecursion P (tokens z)) f h
  child_told (One t) (suc i) u e h = absurd (cc)
  child_told (Many ts) i u e h = tree_told ts i u e h
  child_told Empty i u e h = absurd (cc)
  child_told (Filled t) zero u e h = let f : t ≡ u = cc in subst (λ z. AllByRecursion P (tokens z)) f h
  child_told (Filled t) (suc i) u e h = absurd (cc)
  child_told (Holds v) i u e h = absurd (cc)

  cell_child_told : (cells : Cells) (part i : ℕ) (u : Tree) (o : Option Cell) → slice_get (from_cells cells) part ≡ o
      → slice_get (elim o [ None ↦ [] | Some c ↦ children c ]) i ≡ Some u → AllByRecursion P (cells_tokens cells)
      → AllByRecursion P (tokens u)
  cell_child_told cells part i u None f e h = absurd (cc)
  cell_child_told cells part i u (Some c) f e h = child_told c i u e (cell_told cells part c f h)

  pub tokens_inside : (t : Tree) (n : Node) (u : Tree) → AllByRecursion P (tokens t) → tree_at t n ≡ Some u → AllByRecursion P (tokens u)
  tokens_inside t n u h e = inside (λ t. AllByRecursion P (tokens t)) down t n u h e
    where
      down : (t u : Tree) (part i : ℕ) → slice_get (children_at t part) i ≡ Some u → AllByRecursion P (tokens t) → AllByRecursion P (tokens u)
      down (Branch c cells) u part i e h = cell_child_told cells part i u (slice_get (from_cells cells) part) refl e h

  token_told : (cells : Cells) (part : ℕ) (o : Option Cell) → slice_get (from_cells cells) part ≡ o → P (held.Truth false) → AllByRecursion P (cells_tokens cells) → P (token_in o)
  token_told cells part None e d h = d
  token_told cells part (Some (Holds v)) e d h = (cell_told cells part (Holds v) e h).0
  token_told cells part (Some (One t)) e d h = d
  token_told cells part (Some (Many ts)) e d h = d
  token_told cells part (Some Empty) e d h = d
  token_told cells part (Some (Filled t)) e d h = d

  -- what holds of all tokens of a tree, and of what stands for none, holds of what is read
  pub token_read : (t : Tree) (n : Node) (part : ℕ) → P (held.Truth false) → AllByRecursion P (tokens t) → P (content t (Tok n part))
  token_read t n part d h = by_tree (tree_at t n) refl
    where
      at : (u : Tree) → AllByRecursion P (tokens u) → P (token_in (cell_at u part))
      at (Branch c cells) g = token_told cells part (slice_get (from_cells cells) part) refl d g

      by_tree : (o : Option Tree) → tree_at t n ≡ o → P (elim o [ None ↦ held.Truth false | Some u ↦ token_in (cell_at u part) ])
      by_tree None e = d
      by_tree (Some u) e = at u (tokens_inside t n u h e)

-- how many ------------------------------------------------------------------------------------------------------------

trees_many : (ts : Trees) → length (from_trees ts) ≤ held.trees_nodes ts
trees_many no_trees = omega arith
trees_many (tree (Branch c cells) ts) = omega (arith, trees_many ts)

child_many : (c : Cell) → length (children c) ≤ held.cell_nodes c
child_many (One (Branch c cells)) = omega arith
child_many (Many ts) = trees_many ts
child_many Empty = omega arith
child_many (Filled (Branch c cells)) = omega arith
child_many (Holds v) = omega arith

cell_many : (cells : Cells) (part : ℕ) (c : Cell) → slice_get (from_cells cells) part ≡ Some c → held.cell_nodes c ≤ held.cells_nodes cells
cell_many no_cells part c e = absurd (cc)
cell_many (cell d cs) zero c e = let f : d ≡ c = cc in let g : held.cell_nodes d ≡ held.cell_nodes c = ap held.cell_nodes f in omega arith
cell_many (cell d cs) (suc part) c e = omega (arith, cell_many cs part c e)

tree_many : (ts : Trees) (i : ℕ) (u : Tree) → slice_get (from_trees ts) i ≡ Some u → nodes u ≤ held.trees_nodes ts
tree_many no_trees i u e = absurd (cc)
tree_many (tree t ts) zero u e = let f : t ≡ u = cc in let g : nodes t ≡ nodes u = ap nodes f in omega arith
tree_many (tree t ts) (suc i) u e = omega (arith, tree_many ts i u e)

child_fewer : (c : Cell) (i : ℕ) (u : Tree) → slice_get (children c) i ≡ Some u → nodes u ≤ held.cell_nodes c
child_fewer (One t) zero u e = let f : t ≡ u = cc in let g : nodes t ≡ nodes u = ap nodes f in omega arith
child_fewer (One t) (suc i) u e = absurd (cc)
child_fewer (Many ts) i u e = tree_many ts i u e
child_fewer Empty i u e = absurd (cc)
child_fewer (Filled t) zero u e = let f : t ≡ u = cc in let g : nodes t ≡ nodes u = ap nodes f in omega arith
child_fewer (Filled t) (suc i) u e = absurd (cc)
child_fewer (Holds v) i u e = absurd (cc)

cell_fewer : (cells : Cells) (part : ℕ) (o : Option Cell) → slice_get (from_cells cells) part ≡ o → length {A = Tree} (elim o [ None ↦ [] | Some c ↦ children c ]) ≤ held.cells_nodes cells
cell_fewer cells part None e = omega arith
cell_fewer cells part (Some c) e = omega (arith, child_many c, cell_many cells part c e)

pub children_few : (t : Tree) (part : ℕ) → length (children_at t part) < nodes t
children_few (Branch c cells) part = let h = cell_fewer cells part (slice_get (from_cells cells) part) refl in omega arith

one_fewer : (cells : Cells) (part i : ℕ) (u : Tree) (o : Option Cell) → slice_get (from_cells cells) part ≡ o
    → slice_get (elim o [ None ↦ [] | Some c ↦ children c ]) i ≡ Some u → nodes u ≤ held.cells_nodes cells
one_fewer cells part i u None f e = absurd (cc)
one_fewer cells part i u (Some c) f e = omega (arith, child_fewer c i u e, cell_many cells part c f)

pub child_smaller : (t u : Tree) (part i : ℕ) → slice_get (children_at t part) i ≡ Some u → nodes u ≤ nodes t
child_smaller (Branch c cells) u part i e = let h = one_fewer cells part i u (slice_get (from_cells cells) part) refl e in omega arith

pub nodes_inside : (t : Tree) (n : Node) (u : Tree) → tree_at t n ≡ Some u → nodes u ≤ nodes t
nodes_inside t n u e = inside (λ v. nodes v ≤ nodes t) (λ v w part i f h. omega (arith, child_smaller v w part i f)) t n u (omega arith) e

children_length : {A : Type 0} (n : Node) (part k : ℕ) (ts : List A) → length (child_nodes n part k ts) ≡ length ts
children_length n part k [] = refl
children_length n part k (t ∷ ts) = ap suc (children_length n part (suc k) ts)

pub slot_few : (t : Tree) (n : Node) (part most : ℕ) → nodes t < most → length (content t (Slot n part)) < most
slot_few t n part most less = by_tree (tree_at t n) refl
  where
    by_tree : (o : Option Tree) → tree_at t n ≡ o → length {A = Node} (elim o [ None ↦ [] | Some u ↦ child_nodes n part 0 (children_at u part) ]) < most
    by_tree None e = omega arith
    by_tree (Some u) e = let f = children_length n part 0 (children_at u part) in omega (arith, children_few u part, nodes_inside t n u e)

-- kinds ------------------------------------------------------------------------------------------------------------------

-- a component has a cell that conforms
cell_for : (classes : Classes) (cells : Cells) (ps : List Component) (i : ℕ) (p : Component)
    → cells_conform classes cells ps ≡ true → slice_get ps i ≡ Some p
    → (c : Cell) × (slice_get (from_cells cells) i ≡ Some c) × (cell_conforms classes c p.shape ≡ true)
cell_for classes no_cells [] i p e q = absurd (cc)
cell_for classes no_cells (r ∷ ps) i p e q = absurd (cc)
cell_for classes (cell d cells) [] i p e q = absurd (cc)
cell_for classes (cell d cells) (r ∷ ps) zero p e q =
    let (x, y) = both (cell_conforms classes d r.shape) (cells_conform classes cells ps) e in
    let f : r ≡ p = cc in
    (d, refl, subst (λ (z : Component). cell_conforms classes d z.shape ≡ true) f x)
cell_for classes (cell d cells) (r ∷ ps) (suc i) p e q =
    let (x, y) = both (cell_conforms classes d r.shape) (cells_conform classes cells ps) e in
    cell_for classes cells ps i p y q

-- the token of a component of that kind
kept_kind : (classes : Classes) (c : Cell) (k : TokenKind) → cell_conforms classes c (Token k) ≡ true → is_of_kind (token_in (Some c)) k ≡ true
kept_kind classes (One t) k e = absurd (cc)
kept_kind classes (Many ts) k e = absurd (cc)
kept_kind classes Empty k e = absurd (cc)
kept_kind classes (Filled t) k e = absurd (cc)
kept_kind classes (Holds v) k e = e

token_of_kind : (classes : Classes) (at : ClassAt Node) (v : held.Token) (k : TokenKind) → is_of_kind v k ≡ true → IsToken v → IsOfKind classes at (value_of {N = Node} v) (kind_of_token k)
token_of_kind classes at (held.Text bytes) class.Text e h = tt
token_of_kind classes at (held.Int n) class.Int e h = h
token_of_kind classes at (held.Truth b) class.Truth e h = tt
token_of_kind classes at (held.Text bytes) class.Int e h = absurd (cc)
token_of_kind classes at (held.Text bytes) class.Truth e h = absurd (cc)
token_of_kind classes at (held.Int n) class.Text e h = absurd (cc)
token_of_kind classes at (held.Int n) class.Truth e h = absurd (cc)
token_of_kind classes at (held.Truth b) class.Text e h = absurd (cc)
token_of_kind classes at (held.Truth b) class.Int e h = absurd (cc)

token_there : (classes : Classes) (u : Tree) (b part : ℕ) (k : TokenKind) → conforms classes u b ≡ true
    → shape_of_part classes (class_of u) part ≡ Some (Token k) → is_of_kind (token_in (cell_at u part)) k ≡ true
token_there classes (Branch d cells) b part k e f =
    let (x, y, z) = conforming_parts classes d cells b e in
    let (p, g, h) = mapped (λ (p : Component). p.shape) (slice_get (parts classes d) part) (Token k) f in
    let (c, there, is) = cell_for classes cells (parts classes d) part p y g in
    ap (λ o. is_of_kind (token_in o) k) there ∙ kept_kind classes c k (subst (λ z. cell_conforms classes c z ≡ true) h is)

same_some : (a b : ℕ) (o : Option ℕ) → o ≡ Some a → o ≡ Some b → a ≡ b
same_some a b o e f = let g : Some a ≡ Some b = sym e ∙ f in cc

asked_is : (classes : Classes) (c part b d : ℕ) → class_of_part classes c part ≡ Some b → option_and_then (λ (p : Component). class_in p.shape) (slice_get (parts classes c) part) ≡ Some d → d ≡ b
asked_is classes c part b d e f = by_part (slice_get (parts classes c) part) e f
  where
    by_part : (o : Option Component) → option_and_then class_in (option_map (λ (p : Component). p.shape) o) ≡ Some b → option_and_then (λ (p : Component). class_in p.shape) o ≡ Some d → d ≡ b
    by_part None e f = absurd (cc)
    by_part (Some p) e f = same_some d b (class_in p.shape) f e

each_child : (P : Node → Type 0) (n : Node) (part k : ℕ) (ts : List Tree) → ((j : ℕ) (x : Tree) → slice_get ts j ≡ Some x → P (n ++ (part, k + j) ∷ [])) → AllByRecursion P (child_nodes n part k ts)
each_child P n part k [] there = tt
each_child P n part k (x ∷ xs) there =
    let e : k + 0 ≡ k = omega arith in (
      subst (λ z. P (n ++ (part, z) ∷ [])) e (there 0 x refl),
      each_child P n part (suc k) xs (λ j y f. let g : k + suc j ≡ suc k + j = omega arith in subst (λ z. P (n ++ (part, z) ∷ [])) g (there (suc j) y f)),
    )

-- what holds of all children holds of those that are chosen
all_chosen : (P : Node → Type 0) (b : Bool) (n : Node) (ns : List Node) → P n → AllByRecursion P ns → AllByRecursion P (cond b (n ∷ ns) ns)
all_chosen P true n ns h hs = (h, hs)
all_chosen P false n ns h hs = hs

each_chosen : (P : Node → Type 0) (f : Tree → Bool) (n : Node) (part k : ℕ) (ts : List Tree) → AllByRecursion P (child_nodes n part k ts) → AllByRecursion P (chosen_nodes f n part k ts)
each_chosen P f n part k [] h = tt
each_chosen P f n part k (x ∷ xs) (h, hs) = all_chosen P (f x) (n ++ (part, k) ∷ []) (chosen_nodes f n part (suc k) xs) h (each_chosen P f n part (suc k) xs hs)

-- where all tokens can be written, each token in the list can be
mutual
  pub tokens_written : (t : Tree) → AreTokens t → AllByRecursion IsToken (tokens t)
  tokens_written (Branch c cells) h = cells_written cells h

  cells_written : (cs : Cells) → CellsAreTokens cs → AllByRecursion IsToken (cells_tokens cs)
  cells_written no_cells h = tt
  cells_written (cell c cs) (h, hs) = all_both IsToken (cell_tokens c) (cells_tokens cs) (cell_written c h) (cells_written cs hs)

  cell_written : (c : Cell) → CellIsTokens c → AllByRecursion IsToken (cell_tokens c)
  cell_written (One t) h = tokens_written t h
  cell_written (Many ts) h = trees_written ts h
  cell_written Empty h = tt
  cell_written (Filled t) h = tokens_written t h
  cell_written (Holds v) h = (h, tt)

  trees_written : (ts : Trees) → TreesAreTokens ts → AllByRecursion IsToken (trees_tokens ts)
  trees_written no_trees h = tt
  trees_written (tree t ts) (h, hs) = all_both IsToken (tokens t) (trees_tokens ts) (tokens_written t h) (trees_written ts hs)

-- what a tree has to be
pub record IsStanding (classes : Classes) (t : Tree) (Allowed : Texts) : Type 0 where
  pub conform : conforms classes t 0 ≡ true
  pub fit : AllByRecursion IsToken (tokens t)
  pub said : AllByRecursion (λ v. IsAllowed {N = Node} Allowed (value_of v)) (tokens t)
  pub few : nodes t < 2147483648

module _ (classes : Classes) (t : Tree) (Allowed : Texts) (ok : IsStanding classes t Allowed) where
  fits_class : (u : Tree) (b : ℕ) → conforms classes u b ≡ true → is_sub classes (class_of u) b ≡ true
  fits_class u b e = (both (is_concrete classes (class_of u)) (is_sub classes (class_of u) b) (fits_there classes u b e)).1

  children_stand : (n : Node) (c part b : ℕ) (u : Tree) → tree_at t n ≡ Some u
      → class_of u ≡ c → class_of_part classes c part ≡ Some b
      → AllByRecursion (λ m. IsNodeOf classes (class_at t) m b) (child_nodes n part 0 (children_at u part))
  children_stand n c part b u e f g =
      let (a, conform) = conforms_at classes t 0 n u ok.conform e in
      each_child (λ m. IsNodeOf classes (class_at t) m b) n part 0 (children_at u part) (λ j x h.
      let (d, asked, is) = child_conforms classes u a part j x conform h in
      let same : d ≡ b = asked_is classes (class_of u) part b d (subst (λ z. class_of_part classes z part ≡ Some b) (sym f) g) asked in
      let z : 0 + j ≡ j = omega arith in
      let there : tree_at t (n ++ (part, j) ∷ []) ≡ Some x = tree_at-snoc t n (part, j) u e ∙ h in
      subst (λ k. IsNodeOf classes (class_at t) (n ++ (part, k) ∷ []) b) (sym z) (
        class_of x,
        ap (option_map class_of) there,
        subst (λ k. is_sub classes (class_of x) k ≡ true) same (fits_class x d is),
      ))

  index_stands : (n : Node) → IsSome (class_at t n) → content t (Idx n) < 2147483648
  index_stands n h = elim (snoc n) [
    | inl e ↦ subst (λ z. content t (Idx z) < 2147483648) (sym e) (omega arith)
    | inr (m, s, e) ↦
        let (u, f) = by_tree (tree_at t n) h in
        let (w, g) = parent_there t m s u (subst (λ z. tree_at t z ≡ Some u) e f) in
        let x = slice_get_within (children_at w s.0) s.1 u (sym (tree_at-snoc t m s w g) ∙ subst (λ z. tree_at t z ≡ Some u) e f) in
        let k : content t (Idx n) ≡ s.1 = ap (λ (o : Option (Node × (ℕ × ℕ))). elim o as (λ _. ℕ) [ None ↦ 0 | Some p ↦ p.1.1 ]) (ap parent_of e ∙ parent_of-snoc m s) in
        let y = children_few w s.0 in
        let z = nodes_inside t m w g in
        let few = ok.few in
        subst (λ i. i < 2147483648) (sym k) (omega arith)
  ]
    where
      by_tree : (o : Option Tree) → IsSome (option_map class_of o) → (u : Tree) × (o ≡ Some u)
      by_tree None h = absurd (cc)
      by_tree (Some u) h = (u, refl)

  concrete_there : (c : ℕ) → is_concrete classes c ≡ true → c < length classes
  concrete_there c h = by_class (slice_get classes c) refl h
    where
      by_class : (o : Option class.Class) → slice_get classes c ≡ o → elim o as (λ _. Bool) [ None ↦ false | Some k ↦ not k.is_abstract ] ≡ true → c < length classes
      by_class None e f = absurd (cc)
      by_class (Some k) e f = slice_get_within classes c k e

  abbrev IsParentThere : Option (Node × ℕ) → Type 0
  IsParentThere o = IfSome o (λ p. (c : ℕ) × (class_at t p.0 ≡ Some c) × (c < length classes))

  parent_stands : (n : Node) → IsSome (class_at t n) → IfSome (content t (Up n)) (λ p. (c : ℕ) × (class_at t p.0 ≡ Some c) × (c < length classes))
  parent_stands n h = elim (snoc n) [
    | inl e ↦ subst (λ z. IfSome (content t (Up z)) (λ p. (c : ℕ) × (class_at t p.0 ≡ Some c) × (c < length classes))) (sym e) tt
    | inr (m, s, e) ↦
        let (u, f) = by_tree (tree_at t n) h in
        let (w, g) = parent_there t m s u (subst (λ z. tree_at t z ≡ Some u) e f) in
        let (b, conform) = conforms_at classes t 0 m w ok.conform g in
        let k : parent_of n ≡ Some (m, s) = ap parent_of e ∙ parent_of-snoc m s in
        let there = concrete_there (class_of w) ((both (is_concrete classes (class_of w)) (is_sub classes (class_of w) b) (fits_there classes w b conform)).0) in
        let stands : IsParentThere (Some (m, s.0)) = (class_of w, ap (option_map class_of) g, there) in
        subst (λ (z : Option (Node × (ℕ × ℕ))). IsParentThere (option_map (λ p. (p.0, p.1.0)) z)) (sym k) stands
  ]
    where
      by_tree : (o : Option Tree) → IsSome (option_map class_of o) → (u : Tree) × (o ≡ Some u)
      by_tree None h = absurd (cc)
      by_tree (Some u) h = (u, refl)

  pub contents_stand : AreContentsTyped classes (class_at t) Allowed (content t)
  contents_stand = record {
    class = λ n c e. let (u, f, g) = mapped class_of (tree_at t n) c e in ap (λ (o : Option Tree). elim o as (λ _. ℕ) [ None ↦ 0 | Some u ↦ class_of u ]) f ∙ g;
    token = λ n c part k e f.
        let (u, q, g) = mapped class_of (tree_at t n) c e in
        let (b, conform) = conforms_at classes t 0 n u ok.conform q in
        let h : is_of_kind (token_in (cell_at u part)) k ≡ true = token_there classes u b part k conform (subst (λ z. shape_of_part classes z part ≡ Some (Token k)) (sym g) f) in
        let x : content t (Tok n part) ≡ token_in (cell_at u part) = ap (λ (o : Option Tree). elim o as (λ _. held.Token) [ None ↦ held.Truth false | Some u ↦ token_in (cell_at u part) ]) q in
        token_of_kind classes (class_at t) (content t (Tok n part)) k (ap (λ v. is_of_kind v k) x ∙ h) (token_read IsToken t n part tt ok.fit);
    said = λ n part. token_read (λ v. IsAllowed {N = Node} Allowed (value_of v)) t n part tt ok.said;
    children = λ n c part b e f. let (u, q, g) = mapped class_of (tree_at t n) c e in
        subst (AllByRecursion (λ m. IsNodeOf classes (class_at t) m b)) (sym (ap (λ (o : Option Tree).
        elim o as (λ _. List Node) [ None ↦ [] | Some u ↦ child_nodes n part 0 (children_at u part) ]) q))
        (children_stand n c part b u q g f);
    parent = parent_stands;
    chosen = λ n c part b key m e f. let (u, q, g) = mapped class_of (tree_at t n) c e in
        subst (AllByRecursion (λ k. IsNodeOf classes (class_at t) k b)) (sym (ap (λ (o : Option Tree).
        elim o as (λ _. List Node) [ None ↦ [] | Some u ↦ chosen_nodes (is_marked key m) n part 0 (children_at u part) ]) q))
        (each_chosen (λ k. IsNodeOf classes (class_at t) k b) (is_marked key m) n part 0 (children_at u part) (children_stand n c part b u q g f));
    few = λ n part. slot_few t n part 2147483648 ok.few;
    early = index_stands;
  }
