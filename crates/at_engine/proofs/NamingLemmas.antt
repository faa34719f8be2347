-- Numbers of nodes that are named.
use Rattle.std.proofs.Common.{◌≡◌, ℕ, Bool, true, false, ◌&&◌, cond, List, [], ◌∷◌, ◌++◌, Option, Some, None, is_some, option_and_then, option_map, refl, sym, ap, ◌∙◌, subst}
use Rattle.std.specs.List.{slice_get, find, list_all}
use Rattle.std.specs.Option.{unwrap_or}
use Rattle.at_model.specs.Classes.{Classes, parts, class_in}
use Rattle.at_model.specs.Trees.{Tree, class_of, conforms}
use Rattle.at_model.specs.Paths.{Node, Path, Step, node_at, path_of, tree_at, children_at, step_of, index_in}
use Rattle.at_model.specs.Run.{Is}
use Rattle.at_model.specs.Lines.{Place, From_root, From_mark}
use Rattle.at_model.specs.Machine.{State, node_below, node_named, path_to, is_marked, marked}
use Rattle.at_model.proofs.Options.{led}
use Rattle.at_model.proofs.Complete.{child_conforms}
use Rattle.at_store.specs.Led.{Led}
use Rattle.at_store.specs.Shown.{Shown, contents, numbers, path, tree}
use Rattle.at_store.proofs.Reading.{shown_there}
use Rattle.at_engine.specs.Marks.{Mark, AreThere, has_mark, is_named, marks_view, number_marked}
use Rattle.at_engine.specs.Naming.{IsNumberOf, origin_of, steps_of}
use Rattle.at_engine.proofs.of_marks.Marked.{marked_found, path_there}

-- the tree at a number that is there
pub tree_there : (s : Shown) (k : ℕ) (n : Node) → path s k ≡ Some n → (u : Tree) × (tree_at (tree s) n ≡ Some u)
tree_there s k n p = let (u, is, number, there) = shown_there s k n p in (_, there)

same_option : {A : Type 0} (o : Option A) → option_map (λ a. a) o ≡ o
same_option None = refl
same_option (Some a) = refl

-- a place names the node to which its steps lead from where it begins
named_is : (classes : Classes) (s : State) (session : ℕ) (place : Place) → node_named classes s session place ≡ option_and_then (node_below classes s.tree (steps_of place)) (origin_of s session place)
named_is classes s session (From_root p) = sym (same_option (node_at classes s.tree p))
named_is classes s session (From_mark name steps) = refl

pub named_nowhere : (classes : Classes) (s : State) (session : ℕ) (place : Place) → origin_of s session place ≡ None → node_named classes s session place ≡ None
named_nowhere classes s session place e = named_is classes s session place ∙ ap (option_and_then (node_below classes s.tree (steps_of place))) e

below_led : (classes : Classes) (s : Shown) (n : Node) (u : Tree) (steps : Path) (r : Option ℕ) → tree_at (tree s) n ≡ Some u → Led (numbers s) classes n u steps r → IsNumberOf s (node_below classes (tree s) steps n) r
below_led classes s n u steps None at' h = ap (option_and_then (λ v. option_map (λ ss. n ++ ss) (node_at classes v steps))) at' ∙ ap (option_map (λ ss. n ++ ss)) h
below_led classes s n u steps (Some k) at' h = (n ++ h.0, ap (option_and_then (λ v. option_map (λ ss. n ++ ss) (node_at classes v steps))) at' ∙ ap (option_map (λ ss. n ++ ss)) h.1, h.2)

pub named_led : (classes : Classes) (s : Shown) (st : State) → st.tree ≡ tree s → (session : ℕ) (place : Place) (k : ℕ) (r : Option ℕ)
    → IsNumberOf s (origin_of st session place) (Some k)
    → ((n : Node) (u : Tree) → path s k ≡ Some n → tree_at (tree s) n ≡ Some u → Led (numbers s) classes n u (steps_of place) r)
    → IsNumberOf s (node_named classes st session place) r
named_led classes s st same session place k r (n, origin, p) led_to =
    let (u, at') = tree_there s k n p in
    subst (λ (o : Option Node). IsNumberOf s o r) (sym (named_is classes st session place ∙ ap (λ (t : Tree). option_and_then (node_below classes t (steps_of place)) (origin_of st session place)) same ∙ ap (option_and_then (node_below classes (tree s) (steps_of place))) origin)) (below_led classes s n u (steps_of place) r at' (led_to n u p at'))

-- the number of a mark is that of its node
by_number : (s : Shown) (look : Option ℕ) (o : Option Node) → o ≡ option_and_then (path s) look → ((k : ℕ) → look ≡ Some k → is_some (path s k) ≡ true) → IsNumberOf s o look
by_number s None o e there = e
by_number s (Some k) o e there = let (n, p) = path_there (path s k) (there k refl) in (n, e ∙ p, p)

by_first : (s : Shown) (m : Mark) (o : Option Mark) (b : Bool) → is_some (path s m.node) ≡ true → ((k : ℕ) → option_map (λ (x : Mark). x.node) o ≡ Some k → is_some (path s k) ≡ true)
    → (k : ℕ) → option_map (λ (x : Mark). x.node) (cond b (Some m) o) ≡ Some k → is_some (path s k) ≡ true
by_first s m o true h more k e = let same : m.node ≡ k = cc in subst (λ j. is_some (path s j) ≡ true) same h
by_first s m o false h more k e = more k e

found_there : (s : Shown) (session : ℕ) (name : List ℕ) (ms : List Mark) → AreThere (path s) ms → (k : ℕ) → number_marked ms session name ≡ Some k → is_some (path s k) ≡ true
found_there s session name [] h k e = absurd cc
found_there s session name (m ∷ ms) h k e = by_first s m (find (is_named session name) ms) (is_named session name m) h.0 (found_there s session name ms h.1) k e

pub marked_number : (s : Shown) (session : ℕ) (name : List ℕ) (ms : List Mark) → AreThere (path s) ms → IsNumberOf s (marked (marks_view (path s) ms) session name) (number_marked ms session name)
marked_number s session name ms h = by_number s (number_marked ms session name) _ (marked_found (path s) session name ms h) (found_there s session name ms h)

some_as : (s : Shown) (o : Option Node) (r : Option ℕ) → IsNumberOf s o r → is_some r ≡ is_some o
some_as s o None h = sym (ap is_some h)
some_as s o (Some k) (n, e, p) = sym (ap is_some e)

pub marked_as : (s : Shown) (session : ℕ) (name : List ℕ) (ms : List Mark) → AreThere (path s) ms → is_some (number_marked ms session name) ≡ is_some (marked (marks_view (path s) ms) session name)
marked_as s session name ms h = some_as s _ _ (marked_number s session name ms h)

-- what is shown as the class of a number
pub class_there : (s : Shown) (k : ℕ) (n : Node) (u : Tree) → path s k ≡ Some n → tree_at (tree s) n ≡ Some u → contents s (Is k) ≡ class_of u
class_there s k n u p at' = ap (λ (o : Option Node). elim o as (λ _. ℕ) [ None ↦ 0 | Some m ↦ elim (tree_at (tree s) m) as (λ _. ℕ) [ None ↦ 0 | Some v ↦ class_of v ] ]) p ∙ ap (λ (o : Option Tree). elim o as (λ _. ℕ) [ None ↦ 0 | Some v ↦ class_of v ]) at'

-- a node of a tree that conforms has a path
pub path_written : (classes : Classes) (t : Tree) (b : ℕ) (n : Node) (u : Tree) → conforms classes t b ≡ true → tree_at t n ≡ Some u → (p : Path) × (path_of classes t n ≡ Some p)
path_written classes t b [] u ok found = ([], refl)
path_written classes t b (way ∷ ways) u ok found =
    let (v, child, below) = led (λ x. tree_at x ways) (slice_get (children_at t way.0) way.1) u found in
    let (b', is, ok') = child_conforms classes t b way.0 way.1 v ok child in
    let (p, written) = path_written classes v b' ways u ok' below in
    let (q, here, fits) = led (λ p. class_in p.shape) (slice_get (parts classes (class_of t)) way.0) b' is in
    let s : Step = record { part = q.name; index = index_in q.shape way.1 } in
    let step : step_of classes (class_of t) way ≡ Some s = ap (option_map (λ p. record { part = p.name; index = index_in p.shape way.1 })) here in (
      s ∷ p,
      ap (option_and_then (λ x. option_and_then (λ y. option_map (λ ss. x ∷ ss) (path_of classes y ways)) (slice_get (children_at t way.0) way.1))) step ∙ ap (option_and_then (λ y. option_map (λ ss. s ∷ ss) (path_of classes y ways))) child ∙ ap (option_map (λ ss. s ∷ ss)) written,
    )

pub path_to_is : (classes : Classes) (t : Tree) (n : Node) (p : Path) → path_of classes t n ≡ Some p → path_to classes t n ≡ p
path_to_is classes t n p e = ap (λ (o : Option Path). unwrap_or o []) e

-- the session has just the marks that it has in the state
pub all_marked : (s : Shown) (session : ℕ) (ms : List Mark) → AreThere (path s) ms → (names : List (List ℕ)) → list_all (has_mark ms session) names ≡ list_all (is_marked (marks_view (path s) ms) session) names
all_marked s session ms h [] = refl
all_marked s session ms h (name ∷ names) = ap (λ b. b && list_all (has_mark ms session) names) (marked_as s session name ms h) ∙ ap (λ b. is_marked (marks_view (path s) ms) session name && b) (all_marked s session ms h names)
