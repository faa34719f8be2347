-- The way up from a node, in the memory, and the path of the node.
use Rattle.std.proofs.Common.{◌≡◌, ◌⊎◌, inl, inr, ℕ, ◌+◌, true, false, is_some, [], ◌∷◌, ◌++◌, Option, Some, None, refl, sym, ap, ◌∙◌, length, option_map, option_and_then}
use Rattle.std.specs.List.{slice_get}
use Rattle.std.proofs.lemmas.List.{length-append}
use Rattle.at_model.specs.Classes.{Classes, Component, parts}
use Rattle.at_model.specs.Trees.{Tree, class_of}
use Rattle.at_model.specs.Paths.{Node, Path, Step, tree_at, children_at, index_in as index_of, parent_of, path_of, step_of}
use Rattle.at_model.proofs.Options.{led, mapped}
use Rattle.at_model.proofs.WayUp.{snoc, parent_of-snoc}
use Rattle.at_store.specs.Numbers.{path_in, number_at, relabel}
use Rattle.at_store.specs.Memory.{Info, Keeps, Place, class_in, index_in, top, up_in}
use Rattle.at_store.proofs.Found.{number_found, named}
use Rattle.at_store.proofs.Relabelled.{relabel-class, relabelled-tree_at}
use Rattle.at_store.proofs.Sizes.{above_there}

not_some : {A : Type 0} (o : Option A) (x : A) → o ≡ None → o ≡ Some x → ⊥
not_some o x e f = let g : false ≡ true = sym (ap is_some e) ∙ ap is_some f in absurd cc

one_pair : (o : Option (ℕ × ℕ)) (a b : ℕ × ℕ) → o ≡ Some a → o ≡ Some b → a ≡ b
one_pair o a b e f = let same : Some a ≡ Some b = sym e ∙ f in cc

-- the path of a node is that of its parent and one more step
pub record LastStep (classes : Classes) (t : Tree) (m : Node) (w : ℕ × ℕ) (p : Path) : Type 0 where
  pub front : Path
  pub step : Step
  pub above : Tree
  pub front_is : path_of classes t m ≡ Some front
  pub there : tree_at t m ≡ Some above
  pub step_is : step_of classes (class_of above) w ≡ Some step
  pub whole : p ≡ front ++ step ∷ []

last_step : (classes : Classes) (t : Tree) (m : Node) (w : ℕ × ℕ) (p : Path) → path_of classes t (m ++ w ∷ []) ≡ Some p → LastStep classes t m w p
last_step classes t [] w p e =
    let (s, step, rest) = led (λ s. option_and_then (λ u. option_map (λ ss. s ∷ ss) (path_of classes u [])) (slice_get (children_at t w.0) w.1)) (step_of classes (class_of t) w) p e in
    let (u, child, end) = led (λ u. option_map (λ ss. s ∷ ss) (path_of classes u [])) (slice_get (children_at t w.0) w.1) p rest in
    let same : s ∷ [] ≡ p = cc in
    record { front = []; step = s; above = t; front_is = refl; there = refl; step_is = step; whole = sym same }
last_step classes t (y ∷ m) w p e =
    let (s, step, rest) = led (λ s. option_and_then (λ u. option_map (λ ss. s ∷ ss) (path_of classes u (m ++ w ∷ []))) (slice_get (children_at t y.0) y.1)) (step_of classes (class_of t) y) p e in
    let (u, child, more) = led (λ u. option_map (λ ss. s ∷ ss) (path_of classes u (m ++ w ∷ []))) (slice_get (children_at t y.0) y.1) p rest in
    let (q, below, same) = mapped (λ ss. s ∷ ss) (path_of classes u (m ++ w ∷ [])) p more in
    let l = last_step classes u m w q below in
    record {
      front = s ∷ l.front;
      step = l.step;
      above = l.above;
      front_is = ap (option_and_then (λ z. option_and_then (λ v. option_map (λ ss. z ∷ ss) (path_of classes v m))
          (slice_get (children_at t y.0) y.1))) step ∙ ap (option_and_then
          (λ v. option_map (λ ss. s ∷ ss) (path_of classes v m))) child ∙ ap (option_map (λ ss. s ∷ ss)) l.front_is;
      there = ap (option_and_then (λ v. tree_at v m)) child ∙ l.there;
      step_is = l.step_is;
      whole = sym same ∙ ap (λ ss. s ∷ ss) l.whole;
    }

module _ (memory : ℕ → Option Info) (s : Tree) (h : Keeps memory s None) where
  abbrev pub by_parent : Option (Node × (ℕ × ℕ)) → Place
  by_parent o = elim o [ None ↦ top | Some p ↦ (Some (number_at s p.0, p.1.0), p.1.1) ]

  pub placed_at : (k : ℕ) (n : Node) → path_in k s ≡ Some n → (up_in (memory k) ≡ (by_parent (parent_of n)).0) × (index_in (memory k) ≡ (by_parent (parent_of n)).1)
  placed_at k n p =
      let (u, is, number) = number_found s k n p in
      let there = h.stored n u is in
      let here = ap memory (sym number) ∙ there.is in
      (ap up_in here, ap index_in here)

  -- a node with no parent is the root
  pub up_none : (k : ℕ) (n : Node) → path_in k s ≡ Some n → up_in (memory k) ≡ None → n ≡ []
  up_none k n p none = by_end (snoc n)
    where
      by_end : (n ≡ []) ⊎ ((m : Node) × (w : ℕ × ℕ) × (n ≡ m ++ w ∷ [])) → n ≡ []
      by_end (inl e) = e
      by_end (inr (m, w, e)) =
          absurd (not_some (up_in (memory k)) (number_at s m, w.0) none ((placed_at k n p).0 ∙ ap (λ o. (by_parent o).0) (ap parent_of e ∙ parent_of-snoc m w)))

  -- where the parent stands
  pub record Above (k parent part : ℕ) (n : Node) : Type 0 where
    pub node : Node
    pub steps : n ≡ node ++ (part, index_in (memory k)) ∷ []
    pub stands : path_in parent s ≡ Some node

  pub up_some : (k parent part : ℕ) (n : Node) → path_in k s ≡ Some n → up_in (memory k) ≡ Some (parent, part) → Above k parent part n
  up_some k parent part n p some = by_end (snoc n)
    where
      by_end : (n ≡ []) ⊎ ((m : Node) × (w : ℕ × ℕ) × (n ≡ m ++ w ∷ [])) → Above k parent part n
      by_end (inl e) = absurd (not_some (up_in (memory k)) (parent, part) ((placed_at k n p).0 ∙ ap (λ o. (by_parent (parent_of o)).0) e) some)
      by_end (inr (m, w, e)) =
          let last = ap parent_of e ∙ parent_of-snoc m w in
          let pair = one_pair (up_in (memory k)) (parent, part) (number_at s m, w.0) some ((placed_at k n p).0 ∙ ap (λ o. (by_parent o).0) last) in
          let index : index_in (memory k) ≡ w.1 = (placed_at k n p).1 ∙ ap (λ o. (by_parent o).1) last in
          let number : parent ≡ number_at s m = ap (λ z. z.0) pair in
          let component : part ≡ w.0 = ap (λ z. z.1) pair in
          let (v, at', same) = number_found s k n p in
          let (u, there, child) = above_there s m w v (sym (ap (tree_at s) e) ∙ at') in
          let shown : number_at s m ≡ class_of u = ap (λ o. elim o [ None ↦ 0 | Some u ↦ class_of u ]) there in
          record { node = m; steps = e ∙ (λ i. m ++ (sym component i, sym index i) ∷ []); stands = ap (λ j. path_in j s) (number ∙ shown) ∙ named s h.apart m u there }

  -- the path of a node, from that of its parent
  pub record Joined (classes : Classes) (k parent part : ℕ) (n : Node) (p : Path) : Type 0 where
    pub node : Node
    pub front : Path
    pub step : Step
    pub stands : path_in parent s ≡ Some node
    pub shorter : length n ≡ length node + 1
    pub front_is : path_of classes (relabel (class_in memory) s) node ≡ Some front
    pub step_is : step_of classes (class_in memory parent) (part, index_in (memory k)) ≡ Some step
    pub whole : p ≡ front ++ step ∷ []

  pub joined : (classes : Classes) (k parent part : ℕ) (n : Node) (p : Path) → path_in k s ≡ Some n → up_in (memory k) ≡
      Some (parent, part) → path_of classes (relabel (class_in memory) s) n ≡ Some p → Joined classes k parent part n p
  joined classes k parent part n p found some is =
      let f = class_in memory in
      let a = up_some k parent part n found some in
      let w : ℕ × ℕ = (part, index_in (memory k)) in
      let l = last_step classes (relabel f s) a.node w p (sym (ap (path_of classes (relabel f s)) a.steps) ∙ is) in
      let (u, there, number) = number_found s parent a.node a.stands in
      let same : relabel f u ≡ l.above = (let e : Some (relabel f u) ≡ Some l.above = sym (relabelled-tree_at f s a.node ∙ ap (option_map (relabel f)) there) ∙ l.there in cc) in
      let class : class_of l.above ≡ f parent = ap class_of (sym same) ∙ relabel-class f u ∙ ap f number in
      record {
        node = a.node;
        front = l.front;
        step = l.step;
        stands = a.stands;
        shorter = ap length a.steps ∙ length-append a.node (w ∷ []);
        front_is = l.front_is;
        step_is = ap (λ c. step_of classes c w) (sym class) ∙ l.step_is;
        whole = l.whole;
      }

pub step_made : (classes : Classes) (c part index : ℕ) (q : Component) (st : Step) → slice_get (parts classes c) part
    ≡ Some q → step_of classes c (part, index) ≡ Some st → record { part = q.name; index = index_of q.shape index } ≡ st
step_made classes c part index q st is e =
    let made : Step = record { part = q.name; index = index_of q.shape index } in
    let same : Some made ≡ Some st = sym (ap (option_map (λ (p : Component). let x : Step = record { part = p.name; index = index_of p.shape index } in x)) is) ∙ e in cc

pub no_step : (classes : Classes) (c part index : ℕ) (st : Step) → slice_get (parts classes c) part ≡ None → step_of classes c (part, index) ≡ Some st → ⊥
no_step classes c part index st is e =
    let f : None ≡ Some st = sym (ap (option_map (λ (p : Component). let x : Step = record { part = p.name; index = index_of p.shape index } in x)) is) ∙ e in absurd cc
