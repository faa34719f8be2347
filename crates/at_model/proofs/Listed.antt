-- Every instance that is well formed stands in the list.
use Rattle.std.proofs.Common.{◌≡◌, ℕ, zero, suc, ◌+◌, ◌<◌, ◌≤◌, pos, negsuc, Bool, true, false, cond, max, nat_eq, nat_le, ◌||◌, List, [], ◌∷◌, ◌++◌, map, length, Option, Some, None, inl, inr, refl, sym, ap, subst, arith}
use Rattle.std.specs.Prelude.{option_map}
use Rattle.std.specs.List.{slice_get, AllByRecursion, flat_map}
use Rattle.std.proofs.lemmas.Option.{slice_get_within}
use Rattle.std.proofs.lemmas.Bool.Decides.{nat_tests}
use Rattle.at_model.specs.Trees.{Tree, Node as Branch, Cells, no_cells, cell, Cell, One, Many, Empty, Filled, Holds, Trees, no_trees, tree, children, from_cells, from_trees, class_of}
use Rattle.at_model.specs.Paths.{Node, tree_at, children_at}
use Rattle.at_model.specs.Run.{Value, Int, Truth, Text, Ref, Instance}
use Rattle.at_model.specs.Run as run
use Rattle.at_model.specs.Rules.{Rules, Kind, Attribute}
use Rattle.at_model.specs.Rules as kind
use Rattle.at_model.specs.Bodies.{is_text_within}
use Rattle.at_model.specs.Meaning.{Among}
use Rattle.at_model.specs.Kinds.{AreTyped, IsParameter, IsDeclarationTyped}
use Rattle.at_model.specs.TypedRuns.{class_at, IsOfKind, IsAllowed, AreArguments, IsWellTyped}
use Rattle.at_model.specs.Instances.{all_nodes, cells_nodes, cell_nodes, trees_nodes, texts, argument_values, argument_lists, most_parameters, below, texts_within, ints_within, holds_of_one, is_passed, is_int, is_truth, others_within, others, instances, IsGiven}
use Rattle.at_model.proofs.Options.{led, both}
use Rattle.at_model.proofs.Everywhere.{found}

pub among_left : {A : Type 0} (a : A) (xs ys : List A) → Among a xs → Among a (xs ++ ys)
among_left a [] ys h = absurd h
among_left a (x ∷ xs) ys (inl e) = inl e
among_left a (x ∷ xs) ys (inr h) = inr (among_left a xs ys h)

pub among_right : {A : Type 0} (a : A) (xs ys : List A) → Among a ys → Among a (xs ++ ys)
among_right a [] ys h = h
among_right a (x ∷ xs) ys h = inr (among_right a xs ys h)

pub among_map : {A B : Type 0} (f : A → B) (a : A) (xs : List A) → Among a xs → Among (f a) (map f xs)
among_map f a [] h = absurd h
among_map f a (x ∷ xs) (inl e) = inl (ap f e)
among_map f a (x ∷ xs) (inr h) = inr (among_map f a xs h)

pub among_flat : {A B : Type 0} (f : A → List B) (a : A) (b : B) (xs : List A) → Among a xs → Among b (f a) → Among b (flat_map f xs)
among_flat f a b [] h g = absurd h
among_flat f a b (x ∷ xs) (inl e) g = among_left b (f x) (flat_map f xs) (subst (λ z. Among b (f z)) e g)
among_flat f a b (x ∷ xs) (inr h) g = among_right b (f x) (flat_map f xs) (among_flat f a b xs h g)

at_end : (n k : ℕ) → k < suc n → (b : Bool) → nat_eq k n ≡ b → (k < n → Among k (below n)) → Among k (below n ++ n ∷ [])
at_end n k h true e rest = among_right k (below n) (n ∷ []) (inl (grind (arith, nat_tests)))
at_end n k h false e rest = let g : k < n = grind (arith, nat_tests) in among_left k (below n) (n ∷ []) (rest g)

pub none_below : (k : ℕ) → k < 0 → ⊥
none_below k h = omega arith

pub among_below : (n k : ℕ) → k < n → Among k (below n)
among_below zero k h = absurd (none_below k h)
among_below (suc n) k h = at_end n k h (nat_eq k n) refl (among_below n k)

among_trees : (part k : ℕ) (ts : Trees) (i : ℕ) (v : Tree) (m : Node) → slice_get (from_trees ts) i ≡ Some v → Among m (all_nodes v) → Among ((part, k + i) ∷ m) (trees_nodes part k ts)
among_trees part k no_trees i v m e h = absurd (cc)
among_trees part k (tree t ts) zero v m e h =
    let f : v ≡ t = cc in
    let g : k ≡ k + 0 = omega arith in
    among_left _ (map (λ n. (part, k) ∷ n) (all_nodes t)) (trees_nodes part (suc k) ts)
    (subst (λ z. Among ((part, z) ∷ m) (map (λ n. (part, k) ∷ n) (all_nodes t))) g
    (among_map (λ n. (part, k) ∷ n) m (all_nodes t) (subst (λ z. Among m (all_nodes z)) f h)))
among_trees part k (tree t ts) (suc i) v m e h =
    let g : suc k + i ≡ k + suc i = omega arith in
    among_right _ (map (λ n. (part, k) ∷ n) (all_nodes t)) (trees_nodes part (suc k) ts) (subst (λ z. Among ((part, z) ∷ m) (trees_nodes part (suc k) ts)) g (among_trees part (suc k) ts i v m e h))

among_cell : (part : ℕ) (c : Cell) (i : ℕ) (v : Tree) (m : Node) → slice_get (children c) i ≡ Some v → Among m (all_nodes v) → Among ((part, i) ∷ m) (cell_nodes part c)
among_cell part (One t) zero v m e h = let f : v ≡ t = cc in among_map (λ n. (part, 0) ∷ n) m (all_nodes t) (subst (λ z. Among m (all_nodes z)) f h)
among_cell part (One t) (suc i) v m e h = absurd (cc)
among_cell part (Many ts) i v m e h = let g : 0 + i ≡ i = omega arith in subst (λ z. Among ((part, z) ∷ m) (trees_nodes part 0 ts)) g (among_trees part 0 ts i v m e h)
among_cell part Empty i v m e h = absurd (cc)
among_cell part (Filled t) zero v m e h = let f : v ≡ t = cc in among_map (λ n. (part, 0) ∷ n) m (all_nodes t) (subst (λ z. Among m (all_nodes z)) f h)
among_cell part (Filled t) (suc i) v m e h = absurd (cc)
among_cell part (Holds w) i v m e h = absurd (cc)

among_cells : (k : ℕ) (cells : Cells) (part : ℕ) (o : Option Cell) (i : ℕ) (v : Tree) (m : Node)
    → slice_get (from_cells cells) part ≡ o → slice_get (elim o [ None ↦ [] | Some c ↦ children c ]) i ≡ Some v
    → Among m (all_nodes v) → Among ((k + part, i) ∷ m) (cells_nodes k cells)
among_cells k cells part None i v m f e h = absurd (cc)
among_cells k no_cells part (Some c) i v m f e h = absurd (cc)
among_cells k (cell d cs) zero (Some c) i v m f e h =
    let x : c ≡ d = cc in
    let g : k ≡ k + 0 = omega arith in
    among_left _ (cell_nodes k d) (cells_nodes (suc k) cs) (subst (λ z. Among ((z, i) ∷ m) (cell_nodes k d)) g (among_cell k d i v m (subst (λ z. slice_get (children z) i ≡ Some v) x e) h))
among_cells k (cell d cs) (suc part) (Some c) i v m f e h =
    let g : suc k + part ≡ k + suc part = omega arith in
    among_right _ (cell_nodes k d) (cells_nodes (suc k) cs) (subst (λ z. Among ((z, i) ∷ m) (cells_nodes (suc k) cs)) g (among_cells (suc k) cs part (Some c) i v m f e h))

-- each node of the tree stands in the list
pub among_nodes : (t : Tree) (n : Node) (u : Tree) → tree_at t n ≡ Some u → Among n (all_nodes t)
among_nodes (Branch c cells) [] u e = inl refl
among_nodes (Branch c cells) (s ∷ ss) u e =
    let (v, f, g) = led (λ v. tree_at v ss) (slice_get (children_at (Branch c cells) s.0) s.1) u e in
    let x : 0 + s.0 ≡ s.0 = omega arith in
    inr (subst (λ z. Among ((z, s.1) ∷ ss) (cells_nodes 0 cells)) x (among_cells 0 cells s.0 (slice_get (from_cells cells) s.0) s.1 v ss refl f (among_nodes v ss u g)))

node_listed : (t : Tree) (n : Node) (c : ℕ) → class_at t n ≡ Some c → Among n (all_nodes t)
node_listed t n c e = by_tree (tree_at t n) refl e
  where
    by_tree : (o : Option Tree) → tree_at t n ≡ o → option_map class_of o ≡ Some c → Among n (all_nodes t)
    by_tree None f g = absurd (cc)
    by_tree (Some u) f g = among_nodes t n u f

-- what holds of each of them holds of one
pub of_one : {A : Type 0} (P : A → Type 0) (xs : List A) (a : A) → AllByRecursion P xs → Among a xs → P a
of_one P [] a h g = absurd g
of_one P (x ∷ xs) a (h, hs) (inl e) = subst P (sym e) h
of_one P (x ∷ xs) a (h, hs) (inr g) = of_one P xs a hs g

byte_below : (b : ℕ) → nat_le b 255 ≡ true → b < 256
byte_below b e = grind (arith, nat_tests)

pub short_listed : (n : ℕ) (bytes : List ℕ) → is_text_within n bytes ≡ true → Among bytes (texts_within n)
short_listed zero [] e = inl refl
short_listed (suc n) [] e = inl refl
short_listed zero (b ∷ bs) e = absurd cc
short_listed (suc n) (b ∷ bs) e =
    let (x, y) = both (nat_le b 255) (is_text_within n bs) e in
    inr (among_flat (λ c. map (λ cs. c ∷ cs) (texts_within n)) b (b ∷ bs) (below 256) (among_below 256 b (byte_below b x))
    (among_map (λ cs. b ∷ cs) bs (texts_within n) (short_listed n bs y)))

-- the ints that are less than so far from 0
abbrev Both : ℕ → ℕ → Type 0
Both n k = Among (pos k) (ints_within n) × Among (negsuc k) (ints_within n)

at_front : (n k : ℕ) → k < suc n → (b : Bool) → nat_eq k n ≡ b → (k < n → Both n k) → Both (suc n) k
at_front n k h true e rest = let same : k ≡ n = grind (arith, nat_tests) in (inl (ap pos same), inr (inl (ap negsuc same)))
at_front n k h false e rest =
    let g : k < n = grind (arith, nat_tests) in
    let r = rest g in
    (inr (inr r.0), inr (inr r.1))

no_ints : (k : ℕ) → k < 0 → ⊥
no_ints k h = omega arith

pub ints_listed : (n k : ℕ) → k < n → Both n k
ints_listed zero k h = absurd (no_ints k h)
ints_listed (suc n) k h = at_front n k h (nat_eq k n) refl (ints_listed n k)

or_left : (a b : Bool) → a ≡ true → (a || b) ≡ true
or_left true b e = refl
or_left false b e = absurd cc

or_right : (a b : Bool) → b ≡ true → (a || b) ≡ true
or_right true b e = refl
or_right false b e = e

-- what holds of one of them
pub one_holds : {A : Type 0} (f : A → Bool) (xs : List A) (a : A) → Among a xs → f a ≡ true → holds_of_one f xs ≡ true
one_holds f [] a h e = absurd h
one_holds f (x ∷ xs) a (inl s) e = or_left (f x) (holds_of_one f xs) (subst (λ z. f z ≡ true) s e)
one_holds f (x ∷ xs) a (inr h) e = or_right (f x) (holds_of_one f xs) (one_holds f xs a h e)

among_at : {A : Type 0} (xs : List A) (n : ℕ) (a : A) → slice_get xs n ≡ Some a → Among a xs
among_at [] n a e = absurd cc
among_at (x ∷ xs) zero a e = let same : x ≡ a = cc in inl (sym same)
among_at (x ∷ xs) (suc n) a e = inr (among_at xs n a e)

among_where : {A : Type 0} (b : Bool) (a : A) (xs : List A) → b ≡ true → Among a xs → Among a (cond b xs [])
among_where true a xs e h = h
among_where false a xs e h = absurd cc

-- a kind of parameters of an attribute is passed
passed_so : (rules : Rules) (n : ℕ) (d : Attribute) → slice_get rules.attributes n ≡ Some d → (of : Kind → Bool) (k : Kind) →
    Among k d.parameters → of k ≡ true → is_passed rules of ≡ true
passed_so rules n d e of k h f =
    one_holds (λ (a : Attribute). holds_of_one of a.parameters) rules.attributes d (among_at rules.attributes n d e)
    (one_holds of d.parameters k h f)

-- no attribute has more parameters
least_most : (n : ℕ) (xs : List Attribute) → n ≤ most_parameters n xs
least_most n [] = omega arith
least_most n (x ∷ xs) = let more = least_most (max n (length x.parameters)) xs in omega (arith, more)

within_most : (n : ℕ) (xs : List Attribute) (a : Attribute) → Among a xs → length a.parameters ≤ most_parameters n xs
within_most n [] a h = absurd h
within_most n (x ∷ xs) a (inl same) =
    let more = least_most (max n (length x.parameters)) xs in
    subst (λ (y : Attribute). length y.parameters ≤ most_parameters n (x ∷ xs)) (sym same) (omega (arith, more))
within_most n (x ∷ xs) a (inr h) = within_most (max n (length x.parameters)) xs a h

module _ (rules : Rules) (t : Tree) (vs : List (Value Node)) where
  -- which kinds are passed
  abbrev Passes : Kind → Type 0
  Passes k = (of : Kind → Bool) → of k ≡ true → is_passed rules of ≡ true

  abbrev ints : ℕ → List (Value Node)
  ints m = cond (is_passed rules is_int) (map (λ n. Int n) (ints_within m)) []

  abbrev truths : List (Value Node)
  truths = cond (is_passed rules is_truth) (Truth true ∷ Truth false ∷ []) []

  truth_among : (b : Bool) → Among {A = Value Node} (Truth b) (Truth true ∷ Truth false ∷ [])
  truth_among true = inl refl
  truth_among false = inr (inl refl)

  pos_other : (m n : ℕ) → n < m → is_passed rules is_int ≡ true → Among (Int (pos n)) (others_within m rules)
  pos_other m n h e = among_left (Int (pos n)) (ints m) truths
      (among_where (is_passed rules is_int) (Int (pos n)) (map (λ n. Int n) (ints_within m)) e
      (among_map (λ n. Int n) (pos n) (ints_within m) (ints_listed m n h).0))

  neg_other : (m n : ℕ) → n < m → is_passed rules is_int ≡ true → Among (Int (negsuc n)) (others_within m rules)
  neg_other m n h e = among_left (Int (negsuc n)) (ints m) truths
      (among_where (is_passed rules is_int) (Int (negsuc n)) (map (λ n. Int n) (ints_within m)) e
      (among_map (λ n. Int n) (negsuc n) (ints_within m) (ints_listed m n h).1))

  truth_other : (m : ℕ) (b : Bool) → is_passed rules is_truth ≡ true → Among (Truth b) (others_within m rules)
  truth_other m b e = among_right (Truth b) (ints m) truths
      (among_where (is_passed rules is_truth) (Truth b) (Truth true ∷ Truth false ∷ []) e (truth_among b))

  place_listed : (v : Value Node) → Among v (Ref None ∷ map (λ n. Ref (Some n)) (all_nodes t)) → Among v (argument_values rules t vs)
  place_listed v h = among_right v (map (λ bytes. Text bytes) (texts rules t vs)) _ (among_left v (Ref None ∷ map (λ n. Ref (Some n)) (all_nodes t)) (others rules) h)

  other_listed : (v : Value Node) → Among v (others rules) → Among v (argument_values rules t vs)
  other_listed v h = among_right v (map (λ bytes. Text bytes) (texts rules t vs)) _ (among_right v (Ref None ∷ map (λ n. Ref (Some n)) (all_nodes t)) (others rules) h)

  value_listed : (v : Value Node) (k : Kind) → Passes k → IsParameter rules.classes k → IsOfKind rules.classes (class_at t) v k → IsAllowed (IsGiven rules t vs) v → Among v (argument_values rules t vs)
  value_listed (Text bytes) k q p h s = among_left (Text bytes) (map (λ bytes. Text bytes) (texts rules t vs))
      _ (among_map (λ bytes. Text bytes) bytes (texts rules t vs) s)
  value_listed (Ref None) k q p h s = place_listed (Ref None) (inl refl)
  value_listed (Ref (Some n)) (kind.Class b) q p (c, e, f) s = place_listed (Ref (Some n))
      (inr (among_map (λ n. Ref (Some n)) n (all_nodes t) (node_listed t n c e)))
  value_listed (run.Nodes ns) kind.Int q p h s = absurd h
  value_listed (run.Nodes ns) kind.Truth q p h s = absurd h
  value_listed (run.Nodes ns) kind.Text q p h s = absurd h
  value_listed (run.Nodes ns) (kind.Class b) q p h s = absurd h
  value_listed (run.Nodes ns) (kind.Nodes b) q p h s = absurd p
  value_listed (Ref (Some n)) (kind.Nodes b) q p h s = absurd p
  value_listed (Int n) (kind.Nodes b) q p h s = absurd p
  value_listed (Truth b) (kind.Nodes c) q p h s = absurd p
  value_listed (Ref (Some n)) kind.Int q p h s = absurd h
  value_listed (Ref (Some n)) kind.Truth q p h s = absurd h
  value_listed (Ref (Some n)) kind.Text q p h s = absurd h
  value_listed (Int (pos n)) kind.Int q p h s = other_listed (Int (pos n)) (pos_other 2147483648 n h (q is_int refl))
  value_listed (Int (negsuc n)) kind.Int q p h s = other_listed (Int (negsuc n)) (neg_other 2147483648 n h (q is_int refl))
  value_listed (Int n) kind.Truth q p h s = absurd h
  value_listed (Int n) kind.Text q p h s = absurd h
  value_listed (Int n) (kind.Class b) q p h s = absurd h
  value_listed (Truth b) kind.Truth q p h s = other_listed (Truth b) (truth_other 2147483648 b (q is_truth refl))
  value_listed (Truth b) kind.Int q p h s = absurd h
  value_listed (Truth b) kind.Text q p h s = absurd h
  value_listed (Truth b) (kind.Class c) q p h s = absurd h

  -- lists of no more than so many
  arguments_listed : (n : ℕ) (ws : List (Value Node)) (ks : List Kind) → ((k : Kind) → Among k ks → Passes k) → length ks ≤ n → AllByRecursion
      (IsParameter rules.classes) ks → AreArguments rules.classes (class_at t) (IsGiven rules t vs) ws ks
      → Among ws (argument_lists n (argument_values rules t vs))
  arguments_listed zero [] ks q few p h = inl refl
  arguments_listed (suc n) [] ks q few p h = inl refl
  arguments_listed n (v ∷ ws) [] q few p h = absurd h
  arguments_listed zero (v ∷ ws) (k ∷ ks) q few p h = absurd (omega (arith, few))
  arguments_listed (suc n) (v ∷ ws) (k ∷ ks) q few (p, ps) (h, s, hs) =
      inr (among_flat (λ w. map (λ xs. w ∷ xs) (argument_lists n (argument_values rules t vs))) v (v ∷ ws) (argument_values rules t vs)
      (value_listed v k (q k (inl refl)) p h s)
      (among_map (λ xs. v ∷ xs) ws (argument_lists n (argument_values rules t vs))
      (arguments_listed n ws ks (λ l among. q l (inr among)) (omega (arith, few)) ps hs)))

  pub instance_listed : AreTyped rules → (i : Instance Node) → IsWellTyped rules (class_at t) (IsGiven rules t vs) i → Among i (instances rules t vs)
  instance_listed typed i w =
      let declared = found (IsDeclarationTyped rules.classes) rules.attributes i.attribute w.declaration typed.attributes w.attribute in
      let most = most_parameters 2 rules.attributes in
      let lists = argument_lists most (argument_values rules t vs) in
      let a = arguments_listed most i.arguments w.declaration.parameters (λ k h of e. passed_so rules i.attribute w.declaration w.attribute of k h e)
      (within_most 2 rules.attributes w.declaration (among_at rules.attributes i.attribute w.declaration w.attribute)) declared.parameters w.arguments in
      let b = among_below (length rules.attributes) i.attribute (slice_get_within rules.attributes i.attribute w.declaration w.attribute) in
      let c = node_listed t i.node w.class w.node in
      among_flat (λ n. flat_map (λ k. map (λ ws. record { node = n; attribute = k; arguments = ws }) lists) (below (length rules.attributes))) i.node i (all_nodes t) c
      (among_flat (λ k. map (λ ws. record { node = i.node; attribute = k; arguments = ws }) lists) i.attribute i (below (length rules.attributes)) b
      (among_map (λ ws. record { node = i.node; attribute = i.attribute; arguments = ws }) i.arguments lists a))
