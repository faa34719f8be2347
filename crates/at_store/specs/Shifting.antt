-- Which drawers an edit changes, told by what stands under a mark before it, and by what comes: over numbers as over paths.
use Rattle.std.specs.Prelude.{ℕ, Bool, true, false, not, ◌&&◌, ◌||◌, nat_eq, cond, Option, Some, None}
use Rattle.at_model.specs.Bodies.{bool_eq}
use Rattle.at_model.specs.Drawers.{Key, is_under, has_key, stands_under}
use Rattle.at_model.specs.Edits.{Edit, with_cell}
use Rattle.at_model.specs.Edits as edit
use Rattle.at_model.specs.Meaning.{is_marked}
use Rattle.at_model.specs.Paths.{tree_at}
use Rattle.at_model.specs.Run.{Contents, Drawer, Location, Up}
use Rattle.at_model.specs.Seeking.{is_in_drawer}
use Rattle.at_model.specs.Trees.{Holds, Token, Tree}
use Rattle.at_tree.specs.Token.{token_view}
use Rattle.at_class.specs.Keys.{key_view}
use Rattle.at_store.specs.Memory.{Info, class_in, token_in_cell, up_in}
use Rattle.at_store.specs.Marked.{told}
use Rattle.at_store.specs.Touching.{Change, at_parent, touches_by}
use Rattle.at_store.specs.Touching as change
use Rattle.at_store.specs.declared.edit.Prepared.{Prepared}
use Rattle.at_store.specs.declared.edit.Prepared.TheVariants as prepared
use Rattle.at_store.specs.declared.shifting.Drawer.{Drawer as Sought}

-- it is a drawer; and one of that component of the node, with a test of its key and its mark
abbrev pub is_a_drawer : {N : Type 0} → Location N → Bool
is_a_drawer (Drawer n part key mark) = true
is_a_drawer l = false

abbrev pub is_drawer_of : {N : Type 0} → (N → N → Bool) → N → ℕ → (Key → ℕ → Bool) → Location N → Bool
is_drawer_of same a part test (Drawer n p key mark) = same a n && nat_eq part p && test key mark
is_drawer_of same a part test l = false

-- a drawer of the component whose parent is this, where there is one
abbrev pub is_drawer_in : {N : Type 0} → (N → N → Bool) → (Key → ℕ → Bool) → Location N → Option (N × ℕ) → Bool
is_drawer_in same test l o = at_parent (λ p. is_drawer_of same p.0 p.1 test l) o

-- the node stands under the mark, by that key
abbrev pub stands : {N : Type 0} → Contents N → N → Key → ℕ → Bool
stands look node key mark = is_in_drawer look key mark node

-- The edit brings an element into the drawer, or takes one out of it, where it is told by keys and marks what comes: the root of a
-- tree, or the node behind the edit of its token.
abbrev pub shifts_by : {N : Type 0} → (N → N → Bool) → Contents N → (brings : Key → ℕ → Bool) → Change N → Location N → Bool
shifts_by same look brings (change.Set node) l =
    is_drawer_in same (stands look node) l (look (Up node)) || is_drawer_in same brings l (look (Up node))
shifts_by same look brings (change.Put node part) l = is_drawer_of same node part brings l
shifts_by same look brings (change.Drop node) l = is_drawer_in same (stands look node) l (look (Up node))
shifts_by same look brings (change.Insert node part) l = is_drawer_of same node part brings l
shifts_by same look brings (change.Token node part) l =
    not (bool_eq (is_drawer_in same (stands look node) l (look (Up node))) (is_drawer_in same brings l (look (Up node))))
shifts_by same look brings (change.Move node to part) l =
    is_drawer_in same (stands look node) l (look (Up node)) || is_drawer_of same to part (stands look node) l

-- the edit touches the location: of what goes, of what stands there, and of drawers
abbrev pub touched_by : {N : Type 0} → (N → N → Bool) → Contents N → (N → Bool) → (Key → ℕ → Bool) → Change N → Location N → Bool
touched_by same look leaves brings c l = touches_by same look leaves c l || shifts_by same look brings c l

-- what an edit of a tree brings
abbrev pub brings_of : Tree → Edit → Key → ℕ → Bool
brings_of t (edit.Set node new) key mark = is_marked key mark new
brings_of t (edit.Put node part new) key mark = is_marked key mark new
brings_of t (edit.Drop node) key mark = false
brings_of t (edit.Insert node part index new) key mark = is_marked key mark new
brings_of t (edit.Token node part v) key mark =
    elim (tree_at t node) [ None ↦ false | Some u ↦ is_marked key mark (with_cell (λ c. Holds v) part u) ]
brings_of t (edit.Move node to part index) key mark = false

-- what a prepared edit brings, told by the memory in which it waits
abbrev pub brings_in : (ℕ → Option Info) → Prepared → Key → ℕ → Bool
brings_in memory (prepared.Set node new) key mark = is_in_drawer (told memory) key mark new
brings_in memory (prepared.Put node part new) key mark = is_in_drawer (told memory) key mark new
brings_in memory (prepared.Drop node) key mark = false
brings_in memory (prepared.Insert node part index new) key mark = is_in_drawer (told memory) key mark new
brings_in memory (prepared.Token node part value) key mark =
    stands_under key mark (class_in memory node) (cond (nat_eq part key.token) (token_view value) (token_in_cell (memory node) key.token))
brings_in memory (prepared.Move node to part index) key mark = false

-- What a drawer stands for; it is one of that component, or of that around a node; and a node stands in it.
abbrev pub drawer_view : Sought → Location ℕ
drawer_view d = Drawer d.node d.part (key_view d.key) d.mark

abbrev pub is_of : Sought → ℕ → ℕ → Bool
is_of d node part = nat_eq node d.node && nat_eq part d.part

abbrev pub is_around : (ℕ → Option Info) → Sought → ℕ → Bool
is_around memory d node = at_parent (λ p. is_of d p.0 p.1) (up_in (memory node))

abbrev pub has_in : (ℕ → Option Info) → Sought → ℕ → Bool
has_in memory d node = is_in_drawer (told memory) (key_view d.key) d.mark node

-- the token of the key changes, and one of the two texts stands under the mark
abbrev pub turns : (ℕ → Option Info) → Sought → (node part : ℕ) → Token → Bool
turns memory d node part v =
    nat_eq part d.key.token && has_key (key_view d.key) (class_in memory node)
    && not (bool_eq (is_under d.mark (token_in_cell (memory node) d.key.token)) (is_under d.mark v))
