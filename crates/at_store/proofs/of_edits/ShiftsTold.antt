-- Which drawers a prepared edit changes, told by the memory and by what waits there, is what the edit changes.
use Rattle.std.proofs.Common.{◌≡◌, ℕ, [], Bool, true, false, not, ◌||◌, nat_eq, Option, Some, None, refl, sym, ap, ◌∙◌, subst, eqb-true, option_map}
use Rattle.std.specs.Prelude.{cond}
use Rattle.std.proofs.lemmas.Bool.{eq-eqb}
use Rattle.at_model.specs.Bodies.{bool_eq}
use Rattle.at_model.specs.Classes.{Classes}
use Rattle.at_model.specs.Drawers.{Key, stands_under}
use Rattle.at_model.specs.Trees.{Tree, Holds, Token, cells_of, class_of, from_cells}
use Rattle.at_model.specs.Paths.{Node, cell_at, tree_at}
use Rattle.at_model.specs.Run.{Contents, Location, Up}
use Rattle.at_model.specs.Alike.{LocationLike, Names}
use Rattle.at_model.specs.Edits.{Edit, with_cell}
use Rattle.at_model.specs.Edits as edit
use Rattle.at_model.specs.Meaning.{is_marked, token_in}
use Rattle.at_model.specs.Touches.{shifts, touches_in}
use Rattle.at_model.proofs.of_edits.Untouched.{cell-other, cell-same, class-same}
use Rattle.at_tree.specs.Token.{token_view}
use Rattle.at_store.specs.Numbers.{contents, relabel, relabel_cell, relabel_edit}
use Rattle.at_store.specs.Memory.{Info, Place, Stored, Waits, class_in, token_in_cell, token_kept, top}
use Rattle.at_store.specs.View.{memory_of}
use Rattle.at_store.specs.Shown.{Shown, numbers, path, tree}
use Rattle.at_store.specs.Marked.{change_in, told}
use Rattle.at_store.specs.Preparing.{Does, IsPrepared, brought}
use Rattle.at_store.specs.Shifting.{brings_in, brings_of, is_drawer_in, is_drawer_of, shifts_by, stands, touched_by}
use Rattle.at_store.specs.Touching.{AreMarked, Change, change_of}
use Rattle.at_store.specs.Touching as change
use Rattle.at_store.specs.declared.edit.Prepared.{Prepared}
use Rattle.at_store.specs.declared.edit.Prepared.TheVariants as plan
use Rattle.at_store.proofs.Found.{number_found}
use Rattle.at_store.proofs.Looked.{kept_at, parent_is, same_token}
use Rattle.at_store.proofs.Relabelled.{relabel-class, relabelled-cell_at, relabelled-tree_at}
use Rattle.at_store.proofs.of_edits.Shifted.{node_marked, shifted, standing_alike}
use Rattle.at_store.proofs.of_edits.TouchesTold.{change_is, changed, changed_there, touches_told, up_stored}

-- what is kept of a node of a stored tree: the token, and whether it stands under a mark
module _ (memory : ℕ → Option Info) (place : Place) (w : Tree) (stored : Stored memory place w) (n : Node) (u : Tree) (there : tree_at w n ≡ Some u) where
  text_there : (part : ℕ) → token_in_cell (memory (class_of u)) part ≡ token_in (cell_at (relabel (class_in memory) u) part)
  text_there part =
      let f = class_in memory in
      ap (λ o. token_in_cell o part) (stored n u there).is ∙ ap token_kept (kept_at (from_cells (cells_of u)) part) ∙ same_token f (cell_at u part)
      ∙ ap token_in (sym (relabelled-cell_at f u part))

  marked_there : (key : Key) (mark : ℕ) → stands (told memory) (class_of u) key mark ≡ is_marked key mark (relabel (class_in memory) u)
  marked_there key mark = λ i. stands_under key mark (sym (relabel-class (class_in memory) u) i) (text_there key.token i)

-- a token that is written is another one at its own place alone
token_set : (x : Tree) (part j : ℕ) (was v : Token) → cell_at x part ≡ Some (Holds was)
    → token_in (cell_at (with_cell (λ c. Holds v) part x) j) ≡ cond (nat_eq part j) v (token_in (cell_at x j))
token_set x part j was v here = by_test (nat_eq part j) refl
  where
    by_test : (b : Bool) → nat_eq part j ≡ b → token_in (cell_at (with_cell (λ c. Holds v) part x) j) ≡ cond b v (token_in (cell_at x j))
    by_test true e = subst (λ q. token_in (cell_at (with_cell (λ c. Holds v) part x) q) ≡ v) (eqb-true part j e)
        (ap token_in (cell-same (λ c. Holds v) part x ∙ ap (option_map (λ c. Holds v)) here))
    by_test false e = ap token_in (cell-other (λ c. Holds v) part j x (λ g. let off : true ≡ false = sym (eq-eqb part j g) ∙ e in cc))

-- only the node is looked at of which the change speaks
shifts_alike : (look other : Contents ℕ) (brings : Key → ℕ → Bool) (c : Change ℕ) (l : Location ℕ) → look (Up (changed c)) ≡ other (Up (changed c))
    → ((key : Key) (mark : ℕ) → stands look (changed c) key mark ≡ stands other (changed c) key mark)
    → shifts_by nat_eq look brings c l ≡ shifts_by nat_eq other brings c l
shifts_alike look other brings (change.Set node) l e h = λ i. is_drawer_in nat_eq (λ key mark. h key mark i) l (e i) || is_drawer_in nat_eq brings l (e i)
shifts_alike look other brings (change.Put node part) l e h = refl
shifts_alike look other brings (change.Drop node) l e h = λ i. is_drawer_in nat_eq (λ key mark. h key mark i) l (e i)
shifts_alike look other brings (change.Insert node part) l e h = refl
shifts_alike look other brings (change.Token node part) l e h = λ i.
    not (bool_eq (is_drawer_in nat_eq (λ key mark. h key mark i) l (e i)) (is_drawer_in nat_eq brings l (e i)))
shifts_alike look other brings (change.Move node to part) l e h = λ i.
    is_drawer_in nat_eq (λ key mark. h key mark i) l (e i) || is_drawer_of nat_eq to part (λ key mark. h key mark i) l

module _ (classes : Classes) (old mid : Shown) (e : Edit) where
  abbrev s : Tree
  s = numbers old

  abbrev memory : ℕ → Option Info
  memory = memory_of mid.slab

  abbrev now : Tree
  now = relabel (class_in memory) s

  whole : {Does : Tree → Edit → Type 0} (p : IsPrepared classes old e Does mid) → now ≡ tree old
  whole p = ap (relabel (class_in memory)) (sym p.numbers_stay) ∙ p.tree_stays

  edit_is : {Does : Tree → Edit → Type 0} (p : IsPrepared classes old e Does mid) (x : Edit) → p.numbered ≡ x → relabel_edit (class_in memory) x ≡ e
  edit_is p x is = sym (ap (relabel_edit (class_in memory)) is) ∙ p.same

  -- what waits
  root_marked : {Does : Tree → Edit → Type 0} (p : IsPrepared classes old e Does mid) (w : Tree) → brought p.numbered ≡ Some w → (new : ℕ) → class_of w ≡ new
      → (key : Key) (mark : ℕ) → stands (told memory) new key mark ≡ is_marked key mark (relabel (class_in memory) w)
  root_marked p w is new root key mark =
      ap (λ k. stands (told memory) k key mark) (sym root) ∙ marked_there memory top w (subst (Waits memory s) is p.keeps.waits).0 [] w refl key mark

  brings_told : (q : Prepared) → IsPrepared classes old e (Does q) mid → (key : Key) (mark : ℕ) → brings_in memory q key mark ≡ brings_of now e key mark
  brings_told (plan.Set node new) p key mark =
      root_marked p p.does.brings (ap brought p.does.is) new p.does.root key mark
      ∙ ap (λ x. brings_of now x key mark) (edit_is p (edit.Set p.does.place p.does.brings) p.does.is)
  brings_told (plan.Put node part new) p key mark =
      root_marked p p.does.brings (ap brought p.does.is) new p.does.root key mark
      ∙ ap (λ x. brings_of now x key mark) (edit_is p (edit.Put p.does.place part p.does.brings) p.does.is)
  brings_told (plan.Drop node) p key mark = ap (λ x. brings_of now x key mark) (edit_is p (edit.Drop p.does.place) p.does.is)
  brings_told (plan.Insert node part index new) p key mark =
      root_marked p p.does.brings (ap brought p.does.is) new p.does.root key mark
      ∙ ap (λ x. brings_of now x key mark) (edit_is p (edit.Insert p.does.place part index p.does.brings) p.does.is)
  brings_told (plan.Token node part value) p key mark =
      let f = class_in memory in
      let x = relabel f p.does.parent in
      let v = token_view value in
      let found : tree_at now p.does.place ≡ Some x = relabelled-tree_at f s p.does.place ∙ ap (option_map (relabel f)) p.does.found in
      let here : cell_at x part ≡ Some (Holds p.does.was) = relabelled-cell_at f p.does.parent part ∙ ap (option_map (relabel_cell f)) p.does.here in
      let class : f node ≡ class_of (with_cell (λ c. Holds v) part x) =
      ap f (sym p.does.number) ∙ sym (relabel-class f p.does.parent) ∙ sym (class-same (λ c. Holds v) part x) in
      let was : token_in_cell (memory node) key.token ≡ token_in (cell_at x key.token) =
      ap (λ k. token_in_cell (memory k) key.token) (sym p.does.number) ∙ text_there memory top s p.keeps.stored p.does.place p.does.parent p.does.found key.token in
      let text : cond (nat_eq part key.token) v (token_in_cell (memory node) key.token) ≡ token_in (cell_at (with_cell (λ c. Holds v) part x) key.token) =
      ap (cond (nat_eq part key.token) v) was ∙ sym (token_set x part key.token p.does.was v here) in
      (λ i. stands_under key mark (class i) (text i))
      ∙ sym (ap (λ (o : Option Tree). elim o as (λ _. Bool) [ None ↦ false | Some u ↦ is_marked key mark (with_cell (λ c. Holds v) part u) ]) found)
      ∙ ap (λ x. brings_of now x key mark) (edit_is p (edit.Token p.does.place part v) p.does.is)
  brings_told (plan.Move node to part index) p key mark =
      ap (λ x. brings_of now x key mark) (edit_is p (edit.Move p.does.place p.does.target part index) p.does.is)

  shifts_told : (q : Prepared) → IsPrepared classes old e (Does q) mid → (l : Location ℕ) (m : Location Node) → LocationLike (Names (path old)) l m
      → shifts_by nat_eq (told memory) (brings_in memory q) (change_in q) l ≡ shifts (tree old) e m
  shifts_told q p l m like =
      let f = class_in memory in
      let same = change_is classes old mid e q p in
      let (n, there) = changed_there (Names (path old)) (change_in q) (change_of e) same in
      let (u, is, number) = number_found s (changed (change_in q)) n there in
      shifts_alike (told memory) (contents s now) (brings_in memory q) (change_in q) l
      (up_stored memory s p.keeps.stored (changed (change_in q)) n there
      ∙ sym (up_stored (memory_of old.slab) s p.was_idle.keeps.stored (changed (change_in q)) n there)
      ∙ parent_is (memory_of old.slab) s p.was_idle.keeps (changed (change_in q)))
      (λ key mark. ap (λ k. stands (told memory) k key mark) (sym number) ∙ marked_there memory top s p.keeps.stored n u is key mark
      ∙ sym (node_marked now n (relabel f u) key mark (relabelled-tree_at f s n ∙ ap (option_map (relabel f)) is))
      ∙ sym (standing_alike s f p.keeps.apart (changed (change_in q)) n there key mark))
      ∙ shifted s f p.keeps.apart (brings_in memory q) (change_in q) e l m same (brings_told q p) like
      ∙ ap (λ t. shifts t e m) (whole p)

  pub touched_told : (q : Prepared) → IsPrepared classes old e (Does q) mid → (leaves : ℕ → Bool) → AreMarked s leaves (change_in q)
      → (l : Location ℕ) (m : Location Node) → LocationLike (Names (path old)) l m
      → touched_by nat_eq (told memory) leaves (brings_in memory q) (change_in q) l ≡ touches_in (tree old) e m
  touched_told q p leaves marked l m like = λ i. touches_told classes old mid e q p leaves marked l m like i || shifts_told q p l m like i
