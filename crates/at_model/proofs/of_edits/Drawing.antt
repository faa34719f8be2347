-- What each edit does to the drawers of the component that it changes.
use Rattle.std.proofs.Common.{◌≡◌, ℕ, zero, suc, ◌+◌, ◌-◌, ◌<◌, ◌≤◌, Bool, true, false, not, ◌&&◌, nat_eq, nat_lt, nat_le, if◌then◌else◌, List, [], ◌∷◌, ◌++◌, length, Option, Some, None, refl, sym, ap, ◌∙◌, subst, arith, option_map, ◌⊎◌, inl, inr}
use Rattle.std.specs.List.{slice_get, insert, remove}
use Rattle.std.proofs.lemmas.Bool.Decides.{nat_tests}
use Rattle.at_model.specs.Drawers.{Key, stands_under}
use Rattle.at_model.specs.Trees.{Tree, Token, Cell, Trees, One, Many, Empty, Filled, Holds, class_of, from_trees, children}
use Rattle.at_model.specs.Paths.{Node, cell_at, tree_at, node_eq, parent_of}
use Rattle.at_model.specs.Run.{Drawer}
use Rattle.at_model.specs.Meaning.{token_in, is_marked}
use Rattle.at_model.specs.Bodies.{bool_eq}
use Rattle.at_model.specs.Edits.{with_child, with_cell, without_child, with_one_more, past_set, past_drop, past_insert}
use Rattle.at_model.specs.Touches.{is_drawer, is_drawer_around, is_drawer_of}
use Rattle.at_model.proofs.Options.{both}
use Rattle.at_model.proofs.Nodes.{node_eq-sound, node_eq-refl}
use Rattle.at_model.proofs.WayUp.{parent_of-snoc}
use Rattle.at_model.proofs.of_edits.Drawn.{Kept, none, out, stays, each_there, removed, inserted}
use Rattle.at_model.proofs.of_edits.Moving.{Way}
use Rattle.at_model.proofs.of_edits.Untouched.{by_nat, true_if, from_to_trees, child-same, child-other, cell-same, class-same, in_cell, at_child}
use Rattle.at_model.proofs.of_edits.Surviving.{parent_is}

-- steps ---------------------------------------------------------------------------------------------------------------

unequal : (a b : ℕ) → (a ≡ b → ⊥) → nat_eq a b ≡ false
unequal a b h = by_test (nat_eq a b) refl
  where
    by_test : (t : Bool) → nat_eq a b ≡ t → t ≡ false
    by_test false e = refl
    by_test true e = absurd (h (grind (arith, nat_tests)))

not_less : (a b : ℕ) → (a < b → ⊥) → nat_lt a b ≡ false
not_less a b h = by_test (nat_lt a b) refl
  where
    by_test : (t : Bool) → nat_lt a b ≡ t → t ≡ false
    by_test false e = refl
    by_test true e = absurd (h (grind (arith, nat_tests)))

not_at_most : (a b : ℕ) → (a ≤ b → ⊥) → nat_le a b ≡ false
not_at_most a b h = by_test (nat_le a b) refl
  where
    by_test : (t : Bool) → nat_le a b ≡ t → t ≡ false
    by_test false e = refl
    by_test true e = absurd (h (grind (arith, nat_tests)))

behind_off : (a b : Bool) → b ≡ false → (a && b) ≡ false
behind_off true b e = e
behind_off false b e = refl

passed : {A : Type 0} (b : Bool) (x y : A) → b ≡ false → (if b then x else y) ≡ y
passed true x y e = absurd cc
passed false x y e = refl

taken : {A : Type 0} (b : Bool) (x y : A) → b ≡ true → (if b then x else y) ≡ x
taken true x y e = refl
taken false x y e = absurd cc

pub set_beside : (P K j : ℕ) → (K ≡ j → ⊥) → past_set (P, K) (P, j) ≡ Some (P, j)
set_beside P K j h = passed (nat_eq P P && nat_eq K j) _ _ (behind_off (nat_eq P P) (nat_eq K j) (unequal K j h))

drop_before : (P K j : ℕ) → j < K → past_drop (P, K) (P, j) ≡ Some (P, j)
drop_before P K j less =
    let differs : nat_eq K j ≡ false = unequal K j (λ e. omega (arith, e, less)) in
    let after : nat_lt K j ≡ false = not_less K j (λ h. omega (arith, h, less)) in
    passed (nat_eq P P && nat_eq K j) _ _ (behind_off (nat_eq P P) (nat_eq K j) differs)
    ∙ passed (nat_eq P P && nat_lt K j) _ _ (behind_off (nat_eq P P) (nat_lt K j) after)

drop_behind : (P K j : ℕ) → K ≤ j → past_drop (P, K) (P, suc j) ≡ Some (P, j)
drop_behind P K j less =
    let differs : nat_eq K (suc j) ≡ false = unequal K (suc j) (λ e. omega (arith, e, less)) in
    let after : nat_lt K (suc j) ≡ true = grind (arith, nat_tests) in
    let same : nat_eq P P ≡ true = true_if P P refl in
    let test : (nat_eq P P && nat_lt K (suc j)) ≡ true = ap (λ b. b && nat_lt K (suc j)) same ∙ after in
    let next : suc j - 1 ≡ j = omega arith in
    passed (nat_eq P P && nat_eq K (suc j)) _ _ (behind_off (nat_eq P P) (nat_eq K (suc j)) differs)
    ∙ taken (nat_eq P P && nat_lt K (suc j)) _ _ test
    ∙ ap (λ (x : ℕ). let w : Way = (P, x) in Some w) next

insert_before : (P K j : ℕ) → j < K → past_insert (P, K) (P, j) ≡ Some (P, j)
insert_before P K j less =
    let before : nat_le K j ≡ false = not_at_most K j (λ h. omega (arith, h, less)) in
    passed (nat_eq P P && nat_le K j) _ _ (behind_off (nat_eq P P) (nat_le K j) before)

insert_behind : (P K j : ℕ) → K ≤ j → past_insert (P, K) (P, j) ≡ Some (P, suc j)
insert_behind P K j less =
    let behind : nat_le K j ≡ true = grind (arith, nat_tests) in
    let same : nat_eq P P ≡ true = true_if P P refl in
    let test : (nat_eq P P && nat_le K j) ≡ true = ap (λ b. b && nat_le K j) same ∙ behind in
    let next : j + 1 ≡ suc j = omega arith in
    taken (nat_eq P P && nat_le K j) _ _ test ∙ ap (λ (x : ℕ). let w : Way = (P, x) in Some w) next

-- cells ---------------------------------------------------------------------------------------------------------------

replaced_at : (f : Tree → Bool) (new : Tree) (o : Option Tree) → ((x : Tree) → o ≡ Some x → f x ≡ false) → f new ≡ false → option_map f (option_map (λ (u : Tree). new) o) ≡ option_map f o
replaced_at f new None off e = refl
replaced_at f new (Some x) off e = ap Some (e ∙ sym (off x refl))

-- one child is replaced
pub replaced : (f : Tree → Bool) (new : Tree) (P K : ℕ) (c : Cell) → ((x : Tree) → slice_get (children c) K ≡ Some x → f x ≡ false) → f new ≡ false
    → Kept f (λ i j. past_set (P, K) (P, i) ≡ Some (P, j)) 0 (children c) 0 (children (with_child (λ u. new) K c))
replaced f new P K c off e = each_there f (λ i j. past_set (P, K) (P, i) ≡ Some (P, j)) 0 (children c) (children (with_child (λ u. new) K c)) same alone
  where
    same : (k : ℕ) → option_map f (slice_get (children (with_child (λ u. new) K c)) k) ≡ option_map f (slice_get (children c) k)
    same k = by_nat K k _
        (λ is. subst (λ (x : ℕ). option_map f (slice_get (children (with_child (λ u. new) K c)) x) ≡ option_map f (slice_get (children c) x)) is
        (ap (option_map f) (child-same (λ u. new) K c) ∙ replaced_at f new (slice_get (children c) K) off e))
        (λ differs. ap (option_map f) (child-other (λ u. new) K k c differs))

    alone : (k : ℕ) (x : Tree) → slice_get (children c) k ≡ Some x → (past_set (P, K) (P, 0 + k) ≡ Some (P, 0 + k)) ⊎ (f x ≡ false)
    alone k x there = by_nat K k _
        (λ is. inr (off x (subst (λ (y : ℕ). slice_get (children c) y ≡ Some x) (sym is) there)))
        (λ differs. let z : 0 + k ≡ k = omega arith in inl (set_beside P K (0 + k) (λ e. differs (e ∙ z))))

one_gone : (f : Tree → Bool) (goes : ℕ → ℕ → Type 0) (K : ℕ) (t : Tree) → ((j : ℕ) → j < K → goes j j) → ((x : Tree) → slice_get (t ∷ []) K ≡ Some x → f x ≡ false)
    → Kept f goes 0 (t ∷ []) 0 (children (without_child K (Filled t)))
one_gone f goes zero t before off = out 0 0 t [] [] (off t refl) (none 1 0)
one_gone f goes (suc K) t before off = stays 0 0 t t [] [] (before 0 (omega arith)) refl (none 1 1)

-- one child of a list or of an optional is taken out
pub dropped : (f : Tree → Bool) (P K : ℕ) (c : Cell) → ((t : Tree) → c ≡ One t → ⊥) → ((x : Tree) → slice_get (children c) K ≡ Some x → f x ≡ false)
    → Kept f (λ i j. past_drop (P, K) (P, i) ≡ Some (P, j)) 0 (children c) 0 (children (without_child K c))
dropped f P K (One t) loose off = absurd (loose t refl)
dropped f P K (Many ts) loose off =
    subst (λ (ys : List Tree). Kept f (λ i j. past_drop (P, K) (P, i) ≡ Some (P, j)) 0 (from_trees ts) 0 ys) (sym (from_to_trees (remove (from_trees ts) K)))
    (removed f (λ i j. past_drop (P, K) (P, i) ≡ Some (P, j)) 0 K (from_trees ts) (λ j less. drop_before P K j (omega arith)) (λ j less. drop_behind P K j (omega arith)) off)
dropped f P K Empty loose off = none 0 0
dropped f P K (Filled t) loose off = one_gone f (λ i j. past_drop (P, K) (P, i) ≡ Some (P, j)) K t (λ j less. drop_before P K j less) off
dropped f P K (Holds v) loose off = none 0 0

-- one more element is put into a list
pub put_among : (f : Tree → Bool) (new : Tree) (P K : ℕ) (ts : Trees) → K ≤ length (from_trees ts) → f new ≡ false
    → Kept f (λ i j. past_insert (P, K) (P, i) ≡ Some (P, j)) 0 (from_trees ts) 0 (children (with_one_more new K (Many ts)))
put_among f new P K ts bound e =
    subst (λ (ys : List Tree). Kept f (λ i j. past_insert (P, K) (P, i) ≡ Some (P, j)) 0 (from_trees ts) 0 ys) (sym (from_to_trees (insert (from_trees ts) K new)))
    (inserted f (λ i j. past_insert (P, K) (P, i) ≡ Some (P, j)) new 0 K (from_trees ts) (λ j less. insert_before P K j (omega arith)) (λ j less. insert_behind P K j (omega arith)) e bound)

-- tests ---------------------------------------------------------------------------------------------------------------

pub behind_true : (a b : Bool) → a ≡ true → (a && b) ≡ false → b ≡ false
behind_true true b e f = f
behind_true false b e f = absurd cc

pub none_of : {A : Type 0} (P : A → Bool) (o : Option A) (a : A) → o ≡ Some a → elim o [ None ↦ false | Some x ↦ P x ] ≡ false → P a ≡ false
none_of {A} P o a e f = sym (ap (λ (o : Option A). elim o [ None ↦ false | Some x ↦ P x ]) e) ∙ f

pub is_same : (a b : Bool) → not (bool_eq a b) ≡ false → a ≡ b
is_same true true e = refl
is_same true false e = absurd cc
is_same false true e = absurd cc
is_same false false e = refl

-- where the node stands in that component, and the tree doesn't touch the drawer there, it doesn't stand under the mark
pub off_around : (node : Node) (p : Node × Way) (u : Tree) (n : Node) (q : ℕ) (key : Key) (k : ℕ) → parent_of node ≡ Some p
    → (node_eq p.0 n && nat_eq p.1.0 q) ≡ true → is_drawer_around node u (Drawer n q key k) ≡ false → is_marked key k u ≡ false
off_around node p u n q key k above same off =
    behind_true (node_eq p.0 n && nat_eq p.1.0 q) (is_marked key k u) same
    (none_of (λ (x : Node × Way). is_drawer x.0 x.1.0 u (Drawer n q key k)) (parent_of node) p above off)

-- the element of the changed component, where it is there
pub stands_there : (t : Tree) (node : Node) (p : Node × Way) (n : Node) (u : Tree) (c : Cell) (x : Tree) → parent_of node ≡ Some p → node_eq p.0 n ≡ true → tree_at t n ≡ Some u
    → cell_at u p.1.0 ≡ Some c → slice_get (children c) p.1.1 ≡ Some x → tree_at t node ≡ Some x
stands_there t node p n u c x above same found here child =
    ap (tree_at t) (parent_is node p above) ∙ at_child t p.0 p.1 u (ap (tree_at t) (node_eq-sound p.0 n same) ∙ found)
    ∙ ap (λ (o : Option Cell). slice_get (in_cell o) p.1.1) here ∙ child

-- and it doesn't stand under the mark, where the node is in no such drawer
pub off_there : (t : Tree) (node : Node) (p : Node × Way) (n : Node) (q : ℕ) (key : Key) (k : ℕ) (u : Tree) (c : Cell) (x : Tree) → parent_of node ≡ Some p
    → (node_eq p.0 n && nat_eq p.1.0 q) ≡ true → is_drawer_of t node (Drawer n q key k) ≡ false → tree_at t n ≡ Some u → cell_at u p.1.0 ≡ Some c
    → slice_get (children c) p.1.1 ≡ Some x → is_marked key k x ≡ false
off_there t node p n q key k u c x above same off found here child =
    off_around node p x n q key k above same
    (none_of (λ (z : Tree). is_drawer_around node z (Drawer n q key k)) (tree_at t node) x
    (stands_there t node p n u c x above (both (node_eq p.0 n) (nat_eq p.1.0 q) same).0 found here child) off)

front_true : (a b : Bool) → a ≡ true → (a && b) ≡ b
front_true true b e = refl
front_true false b e = absurd cc

-- an element is in a drawer of its component where it stands under the mark
pub around_is : (n : Node) (q j : ℕ) (node : Node) (w : Tree) (key : Key) (k : ℕ) → node ≡ n ++ (q, j) ∷ [] → is_drawer_around node w (Drawer n q key k) ≡ is_marked key k w
around_is n q j node w key k e =
    ap (λ (o : Option (Node × Way)). elim o [ None ↦ false | Some x ↦ is_drawer x.0 x.1.0 w (Drawer n q key k) ]) (ap parent_of e ∙ parent_of-snoc n (q, j))
    ∙ front_true (node_eq n n && nat_eq q q) (is_marked key k w) (ap (λ b. b && nat_eq q q) (node_eq-refl n) ∙ true_if q q refl)

-- a token that changes leaves the element where it stood, or it isn't the key
pub token_kept : (t : Tree) (node : Node) (part : ℕ) (v : Token) (n : Node) (q j : ℕ) (key : Key) (k : ℕ) (u : Tree) (c : Cell)
    → elim (tree_at t node) [
      | None ↦ false
      | Some x ↦ not (bool_eq (is_drawer_around node x (Drawer n q key k)) (is_drawer_around node (with_cell (λ c. Holds v) part x) (Drawer n q key k)))
    ] ≡ false
    → (node_eq node (n ++ (q, j) ∷ []) && nat_eq part key.token) ≡ true → tree_at t (n ++ (q, j) ∷ []) ≡ Some u → cell_at u part ≡ Some c
    → stands_under key k (class_of u) v ≡ stands_under key k (class_of u) (token_in (Some c))
token_kept t node part v n q j key k u c off same found here =
    let (x, y) = both (node_eq node (n ++ (q, j) ∷ [])) (nat_eq part key.token) same in
    let at' : node ≡ n ++ (q, j) ∷ [] = node_eq-sound node (n ++ (q, j) ∷ []) x in
    let at_token : part ≡ key.token = grind (arith, nat_tests) in
    let after : Tree = with_cell (λ c. Holds v) part u in
    let test : Tree → Bool = λ z. not (bool_eq (is_drawer_around node z (Drawer n q key k)) (is_drawer_around node (with_cell (λ c. Holds v) part z) (Drawer n q key k))) in
    let equal = is_same (is_drawer_around node u (Drawer n q key k)) (is_drawer_around node after (Drawer n q key k))
    (none_of test (tree_at t node) u (ap (tree_at t) at' ∙ found) off) in
    let marks : is_marked key k after ≡ is_marked key k u = sym (around_is n q j node after key k at') ∙ sym equal ∙ around_is n q j node u key k at' in
    let now : is_marked key k after ≡ stands_under key k (class_of u) v =
    ap (λ (d : ℕ). stands_under key k d (token_in (cell_at after key.token))) (class-same (λ c. Holds v) part u)
    ∙ ap (λ (r : ℕ). stands_under key k (class_of u) (token_in (cell_at after r))) (sym at_token)
    ∙ ap (λ (o : Option Cell). stands_under key k (class_of u) (token_in o)) (cell-same (λ c. Holds v) part u ∙ ap (option_map (λ (c : Cell). Holds v)) here) in
    let before : is_marked key k u ≡ stands_under key k (class_of u) (token_in (Some c)) =
    ap (λ (r : ℕ). stands_under key k (class_of u) (token_in (cell_at u r))) (sym at_token) ∙ ap (λ (o : Option Cell). stands_under key k (class_of u) (token_in o)) here in
    sym now ∙ marks ∙ before
