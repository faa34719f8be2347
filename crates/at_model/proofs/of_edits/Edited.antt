-- What holds of every edit, case by case: no two nodes go to one; an edit that is accepted touches that a node is there exactly where
-- the node goes nowhere, leaves a tree that conforms and is within the limits, leaves it alike at all that it doesn't touch, and each
-- node that goes somewhere is there.
use Rattle.std.proofs.Common.{◌≡◌, ℕ, true, false, not, ◌||◌, [], ◌∷◌, Option, Some, None, Ok, refl, sym, ap, ◌∙◌, subst, option_and_then, is_some}
use Rattle.std.specs.Prelude.{is_none}
use Rattle.at_model.specs.Classes.{Classes, fits}
use Rattle.at_model.specs.Trees.{Tree, Filled, Holds, class_of, conforms}
use Rattle.at_model.specs.Paths.{Node, tree_at, is_within, parent_of}
use Rattle.at_model.specs.Run.{Location, Is}
use Rattle.at_model.specs.Meaning.{content}
use Rattle.at_model.specs.Alike.{IsInjective, Names, AlikeAt}
use Rattle.at_model.specs.Edits.{Edit, Set, Put, Drop, Insert, Token, Move, shape_at, list_class, optional_class, token_kind, fits_class, fits_kind, fits_as, is_plain, is_element, with_one_more, left_by, children_of, is_within_limits, edited, moved_under, past_set, past_put, past_insert, past_taking, changed_nodes, carried}
use Rattle.at_model.specs.Touches.{touches, shifts, touches_in, is_slot}
use Rattle.at_model.proofs.Options.{not_off}
use Rattle.at_model.proofs.of_edits.Conforming.{IsAccepted, accepted, set_at, drop_at, part_changed, fill, hold, one_more, seen}
use Rattle.at_model.proofs.of_edits.Moving.{Way, moved_apart}
use Rattle.at_model.proofs.of_edits.Ways.{same_some, set_apart, put_apart, insert_apart, put_keeps, insert_keeps}
use Rattle.at_model.proofs.of_edits.Surviving.{at_set as set_out, at_drop as drop_out, put_out, insert_out, none_moved_out, no_children, around, or_none, out_taken}
use Rattle.at_model.proofs.of_edits.Untouched.{cell_there}
use Rattle.at_model.proofs.of_edits.Untouching.{at_set as set_alike, at_drop as drop_alike, put_alike, insert_alike, token_alike, put_fits, insert_fits, token_fits, nothing_keeps, moved_nowhere, not_false, false_or}
use Rattle.at_model.proofs.of_edits.Carried.{IsThere, IsElsewhere, as_there, at_set as set_there, at_drop as drop_there}
use Rattle.at_model.proofs.of_edits.Moves.{taken_apart, move_apart, stays_somewhere}
use Rattle.at_model.proofs.of_edits.Moved.{left_is, move_conforms, move_alike, move_there, way}

pub carried_apart : (e : Edit) → IsInjective (carried e)
carried_apart (Set node new) a b c e f = at_parent (parent_of node) e f
  where
    at_parent : (o : Option (Node × Way)) → elim o [ None ↦ None | Some p ↦ moved_under p.0 (past_set p.1) a ] ≡ Some c
        → elim o [ None ↦ None | Some p ↦ moved_under p.0 (past_set p.1) b ] ≡ Some c → a ≡ b
    at_parent None e f = absurd cc
    at_parent (Some p) e f = moved_apart (past_set p.1) (set_apart p.1) p.0 a b c e f
carried_apart (Put node part new) a b c e f = moved_apart (past_put part) (put_apart part) node a b c e f
carried_apart (Drop node) a b c e f = taken_apart node a b c e f
carried_apart (Insert node part index new) a b c e f = moved_apart (past_insert (part, index)) (insert_apart (part, index)) node a b c e f
carried_apart (Token node part v) a b c e f = same_some a c e ∙ sym (same_some b c f)
carried_apart (Move node to part index) a b c e f = move_apart node to part index a b c e f

-- what a move that is accepted has passed
pub record IsMove (classes : Classes) (t : Tree) (node to : Node) (part index : ℕ) : Type 0 where
  pub moved : Tree
  pub found : tree_at t node ≡ Some moved
  pub place : Node × Way
  pub above : parent_of node ≡ Some place
  pub listed : is_some (option_and_then list_class (shape_at classes t place.0 place.1.0)) ≡ true
  pub target : Node
  pub goes : past_taking node to ≡ Some target

pub is_move : (classes : Classes) (t : Tree) (node to : Node) (part index : ℕ)
    → fits_as classes t node (option_and_then list_class (shape_at classes t to part)) ≡ true
    → is_element classes t node ≡ true → not (is_within node to) ≡ true → IsMove classes t node to part index
is_move classes t node to part index fit listed apart =
    let (v, found) = moved (option_and_then list_class (shape_at classes t to part)) fit in
    let (p, above, is_list) = element (parent_of node) refl listed in
    let (q, goes) = outside (past_taking node to) refl (out_taken node to ∙ not_false (is_within node to) apart) in
    record { moved = v; found = found; place = p; above = above; listed = is_list; target = q; goes = goes }
  where
    at_node : (b : ℕ) (o : Option Tree) → tree_at t node ≡ o → fits_as classes t node (Some b) ≡ true → (v : Tree) × (tree_at t node ≡ Some v)
    at_node b None is e = let f : false ≡ true = sym (ap (λ (o : Option Tree). elim o [ None ↦ false | Some x ↦ fits classes (class_of x) b ]) is) ∙ e in absurd cc
    at_node b (Some v) is e = (v, is)

    moved : (o : Option ℕ) → fits_as classes t node o ≡ true → (v : Tree) × (tree_at t node ≡ Some v)
    moved None e = absurd cc
    moved (Some b) e = at_node b (tree_at t node) refl e

    element : (o : Option (Node × Way)) → parent_of node ≡ o → is_element classes t node ≡ true → (p : Node × Way)
        × (parent_of node ≡ Some p) × (is_some (option_and_then list_class (shape_at classes t p.0 p.1.0)) ≡ true)
    element None is e = let f : false ≡ true = sym (ap (λ (o : Option (Node × Way)). elim o [
      | None ↦ false
      | Some p ↦
          is_some (option_and_then list_class (shape_at classes t p.0 p.1.0))
    ]) is) ∙ e in absurd cc
    element (Some p) is e = (p, is, sym (ap (λ (o : Option (Node × Way)). elim o [ None ↦ false | Some p ↦ is_some (option_and_then list_class (shape_at classes t p.0 p.1.0)) ]) is) ∙ e)

    outside : (o : Option Node) → past_taking node to ≡ o → is_none o ≡ false → (q : Node) × (past_taking node to ≡ Some q)
    outside None is e = absurd cc
    outside (Some q) is e = (q, is)

gone : (classes : Classes) (t u : Tree) (e : Edit) → IsAccepted classes t e u → (n : Node) (v : Tree) → tree_at t n ≡ Some v → is_none (carried e n) ≡ touches e (Is n)
gone classes t u (Set node new) made n v found = set_out node n (parent_of node) refl ∙ or_none (is_within node n) ∙ ap (λ b. is_within node n || b) (sym (around (parent_of node) _ (λ p. refl)))
gone classes t u (Put node part new) made n v found = put_out part node n t v (no_children (children_of t node part) made.free) found
gone classes t u (Drop node) made n v found =
    drop_out node n (parent_of node) refl ∙ or_none (is_within node n) ∙ ap (λ b. is_within node n || b)
    (sym (around (parent_of node) _ (λ p. refl))) ∙ or_none _ ∙ ap (λ b. (is_within node n || elim (parent_of node)
    [ None ↦ false | Some p ↦ is_slot p.0 p.1.0 (Is n) ]) || b) (sym (around (parent_of node) _ (λ p. refl)))
gone classes t u (Insert node part index new) made n v found = none_moved_out (past_insert (part, index)) (insert_out (part, index)) node n
gone classes t u (Token node part w) made n v found = refl
gone classes t u (Move node to part index) made n v found =
    let move = is_move classes t node to part index made.fit made.removable made.outside in
    stays_somewhere node to part index n move.target move.goes ∙ sym (off (parent_of node))
  where
    off : (o : Option (Node × Way)) → (false || elim o [ None ↦ false | Some p ↦ false ] || false || elim o [ None ↦ false | Some p ↦ false ] || false) ≡ false
    off None = refl
    off (Some p) = refl

pub gone_where_touched : (classes : Classes) (t u : Tree) (e : Edit) → edited classes t e ≡ Ok u → (n : Node) (v : Tree) → tree_at t n ≡ Some v → is_none (carried e n) ≡ touches e (Is n)
gone_where_touched classes t u e is n v found = gone classes t u e (accepted classes t e u is) n v found

module _ (classes : Classes) where
  left_conforms : (t u : Tree) (e : Edit) → IsAccepted classes t e u → conforms classes t 0 ≡ true → conforms classes (left_by t e) 0 ≡ true
  left_conforms t u (Set node new) made ok = set_at classes t new node (parent_of node) refl (not_off _ made.loose) made.fit ok
  left_conforms t u (Put node part new) made ok = part_changed classes (λ c. Filled new) t node part
      (not_off _ made.loose) (λ c shape sees old. fill classes new shape
      (seen classes optional_class (fits_class classes new) (shape_at classes t node part) shape sees made.fit)) 0 ok
  left_conforms t u (Drop node) made ok = drop_at classes t node (not_off _ made.loose) ok
  left_conforms t u (Insert node part index new) made ok = part_changed classes (with_one_more new index) t
      node part (not_off _ made.loose) (λ c shape sees. one_more classes new index c shape
      (seen classes list_class (fits_class classes new) (shape_at classes t node part) shape sees made.fit)) 0 ok
  left_conforms t u (Token node part v) made ok =
      part_changed classes (λ c. Holds v) t node part (not_off _ made.loose) (λ c shape sees old. hold classes v
      shape (seen classes token_kind (fits_kind v) (shape_at classes t node part) shape sees made.fit)) 0 ok
  left_conforms t u (Move node to part index) made ok =
      let move = is_move classes t node to part index made.fit made.removable made.outside in
      let after = left_is classes t ok node to part index made.loose move.moved move.found move.place move.above move.listed move.target move.goes made.component made.fit made.index in
      subst (λ (x : Tree). conforms classes x 0 ≡ true) (sym after)
      (move_conforms classes t ok node to part index made.loose move.moved move.found move.place move.above move.listed
      move.target move.goes made.component made.fit made.index)

  pub accepted_conforms : (t : Tree) (e : Edit) (u : Tree) → conforms classes t 0 ≡ true → edited classes t e ≡ Ok u → (conforms classes u 0 ≡ true) × (is_within_limits u ≡ true)
  accepted_conforms t e u ok is =
      let made = accepted classes t e u is in
      (subst (λ (x : Tree). conforms classes x 0 ≡ true) made.left (left_conforms t u e made ok), subst (λ (x : Tree). is_within_limits x ≡ true) made.left made.within)

module _ (classes : Classes) (t : Tree) (ok : conforms classes t 0 ≡ true) where
  left_alike : (e : Edit) (u : Tree) → IsAccepted classes t e u → (l : Location Node) → touches e l ≡ false → shifts t e l ≡ false → AlikeAt (Names (carried e)) (content t) (content (left_by t e)) l
  left_alike (Set node new) u made l h hs = set_alike classes t ok node new (parent_of node) refl l h hs
  left_alike (Put node part new) u made l h hs = λ m s. put_alike classes t ok node part new made.component (no_children (children_of t node part) made.free) l m h hs s
  left_alike (Drop node) u made l h hs = drop_alike classes t ok node (parent_of node) refl (not_false (is_plain classes t node) made.removable) l h hs
  left_alike (Insert node part index new) u made l h hs = λ m s. insert_alike classes t ok node part index new made.component made.index l m h hs s
  left_alike (Token node part v) u made l h hs =
      let P : (Node → Option Node) → Type 0 = λ carry. AlikeAt (Names carry) (content t) (content (left_by t (Token node part v))) l in
      let same : moved_under node (λ (s : Way). Some s) ≡ carried (Token node part v) = λ i n. moved_nowhere node n i in
      subst P same (λ m s. token_alike classes t ok node part v made.component l m h hs s)
  left_alike (Move node to part index) u made l h hs =
      let move = is_move classes t node to part index made.fit made.removable made.outside in
      let after = left_is classes t ok node to part index made.loose move.moved move.found move.place move.above move.listed move.target move.goes made.component made.fit made.index in
      subst (λ (x : Tree). AlikeAt (Names (carried (Move node to part index))) (content t) (content x) l) (sym after)
      (λ m s. move_alike classes t ok node to part index made.loose move.moved move.found move.place move.above move.listed move.target move.goes made.component made.fit made.index l m h hs s)

  pub edited_alike : (e : Edit) (u : Tree) → edited classes t e ≡ Ok u → (l : Location Node) → touches_in t e l ≡ false → AlikeAt (Names (carried e)) (content t) (content u) l
  edited_alike e u is l h =
      let made = accepted classes t e u is in
      subst (λ (x : Tree). AlikeAt (Names (carried e)) (content t) (content x) l) made.left (left_alike e u made l (false_or (touches e l) (shifts t e l) h).0 (false_or (touches e l) (shifts t e l) h).1)

  left_there : (e : Edit) (u : Tree) → IsAccepted classes t e u → (n m : Node) (v : Tree) → carried e n ≡ Some m → tree_at t n ≡ Some v → IsThere (left_by t e) m v (IsElsewhere (changed_nodes e) n)
  left_there (Set node new) u made n m v goes found = set_there classes t ok n m v found node new (parent_of node) refl goes
  left_there (Put node part new) u made n m v goes found = as_there _ m n v node (cell_there (λ c. Filled new) part
      (past_put part) (put_keeps part) t node n m v (put_fits classes t ok node part new) goes found)
  left_there (Drop node) u made n m v goes found = drop_there classes t ok n m v found (parent_of node) (not_false (is_plain classes t node) made.removable) goes
  left_there (Insert node part index new) u made n m v goes found = as_there _ m n v node
      (cell_there (with_one_more new index) part (past_insert (part, index)) (insert_keeps (part, index)) t node n m v
      (insert_fits classes t ok node part index new made.component made.index) goes found)
  left_there (Token node part w) u made n m v goes found =
      as_there _ m n v node (cell_there (λ c. Holds w) part (λ (s : Way). Some s) (nothing_keeps part) t node n m v
      (token_fits classes t ok node part w made.component) (moved_nowhere node n ∙ goes) found)
  left_there (Move node to part index) u made n m v goes found =
      let move = is_move classes t node to part index made.fit made.removable made.outside in
      let after = left_is classes t ok node to part index made.loose move.moved move.found move.place move.above move.listed move.target move.goes made.component made.fit made.index in
      let how = way classes t ok node to part index made.loose move.moved move.found move.place move.above move.listed move.target move.goes made.component made.fit made.index n m goes in
      let P : Option (Node × Way) → Type 0 = λ o. IsThere (left_by t (Move node to part index)) m v (IsElsewhere (to ∷ elim o [ None ↦ [] | Some p ↦ p.0 ∷ [] ]) n) in
      subst P (sym move.above)
      (subst (λ (x : Tree). IsThere x m v (IsElsewhere (to ∷ move.place.0 ∷ []) n)) (sym after)
      (move_there classes t ok node to part index made.loose move.moved move.found move.place move.above move.listed move.target move.goes made.component made.fit made.index n m v how found))

pub carried_there : (classes : Classes) (t u : Tree) (e : Edit) → conforms classes t 0 ≡ true
    → edited classes t e ≡ Ok u → (n m : Node) (v : Tree) → carried e n ≡ Some m → tree_at t n ≡ Some v
    → IsThere u m v (IsElsewhere (changed_nodes e) n)
carried_there classes t u e ok is n m v goes found =
    let made = accepted classes t e u is in
    subst (λ (x : Tree). IsThere x m v (IsElsewhere (changed_nodes e) n)) made.left (left_there classes t ok e u made n m v goes found)
