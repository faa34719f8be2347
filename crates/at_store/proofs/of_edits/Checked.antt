-- What a check prepares is the edit that was asked.
use Rattle.std.proofs.Common.{◌≡◌, ℕ, nat_le, Option, Some, None, ◌⊎◌, refl, sym, ap, ◌∙◌, subst, option_map, is_some}
use Rattle.at_model.specs.Classes.{Classes}
use Rattle.at_model.specs.Trees.{Empty, Tree, class_of, nodes}
use Rattle.at_model.specs.Paths.{Node, cell_at, tree_at}
use Rattle.at_model.specs.Edits as model
use Rattle.at_model.proofs.of_edits.Edited.{accepted_conforms}
use Rattle.at_model.proofs.of_edits.Conforming.{accepted as model_accepted}
use Rattle.at_store.proofs.of_edits.Taking.{move_does, taker_is}
use Rattle.at_tree.specs.Token.{token_view}
use Rattle.at_class.specs.declared.token.TokVal.{TokVal}
use Rattle.at_class.specs.declared.tree.Tree.{Tree as Nested}
use Rattle.at_tree.specs.TreeView.{tree_view}
use Rattle.at_store.specs.Numbers.{number_at, relabel, relabel_edit}
use Rattle.at_store.specs.Memory.{Info, Keeps, class_in, top}
use Rattle.at_store.specs.Reserving.{HasRoom, IsRoomFor}
use Rattle.at_store.specs.Planting.{IsAsBefore, IsPlanted}
use Rattle.at_store.specs.View.{MarksNoMore, leaves_in, memory_of}
use Rattle.at_store.specs.Touching.{gone}
use Rattle.at_store.specs.Shown.{IsIdle, Shown, numbers, tree}
use Rattle.at_store.specs.Preparing.{DoesDrop, DoesInsert, DoesMove, DoesPut, DoesSet, DoesToken, IsPrepared, brought, stands_in}
use Rattle.at_store.specs.Refusing.{IsAllowed, IsRefusalOf, edit_at, node_of}
use Rattle.at_store.specs.Checking.{IsAccepted, IsRefused, Prepares}
use Rattle.at_store.specs.Waiting.{IsBrought, IsLeaving, IsMarking, IsStoreAsBefore}
use Rattle.at_store.specs.declared.edit.Edit.{Edit}
use Rattle.at_store.specs.declared.edit.Edit.TheVariants as edit
use Rattle.at_store.specs.declared.edit.Prepared.TheVariants as plan
use Rattle.at_store.specs.declared.edit.Refusal.{Refusal}
use Rattle.at_store.specs.declared.edit.Refusal.TheVariants as refusal
use Rattle.at_store.specs.Grown.{grown}
use Rattle.at_store.proofs.of_edits.Accepted.{allowed, drop_cell, insert_cell, put_cell, token_cell}
use Rattle.at_store.proofs.Found.{named, number_found}
use Rattle.at_store.proofs.of_planting.Growing.{class-grown, grown-stored}
use Rattle.at_store.proofs.of_planting.MarkedLemmas.{marked_below, unmarked_still}
use Rattle.at_store.proofs.of_planting.Planted.{planted_waits, relabel_same}
use Rattle.at_store.proofs.Slots.{class_at}

-- where the memory and the root are as before, the tree and its numbers are
module _ (before later : Shown) (memory_stays : IsAsBefore (memory_of before.slab) (memory_of later.slab)) where
  pub equal : memory_of before.slab ≡ memory_of later.slab
  equal = λ i k. sym (memory_stays k) i

  module _ (root_stays : later.root ≡ before.root) where
    same_numbers : numbers later ≡ numbers before
    same_numbers = ap (λ (m : ℕ → Option Info). grown m 512 later.root) (sym equal) ∙ ap (grown (memory_of before.slab) 512) root_stays

    same_tree : tree later ≡ tree before
    same_tree = ap (λ (m : ℕ → Option Info). relabel (class_in m) (numbers later)) (sym equal) ∙ ap (relabel (class_in (memory_of before.slab))) same_numbers

    pub still_idle : IsIdle before → later.waiting ≡ before.waiting → later.leaving ≡ before.leaving →
        later.limit ≡ before.limit → MarksNoMore before.slab later.slab → IsIdle later
    still_idle h waiting leaving limit marks = record {
      waiting = waiting ∙ h.waiting;
      leaving = leaving ∙ h.leaving;
      keeps = subst (λ (t : Tree). Keeps (memory_of later.slab) t None) (sym same_numbers) (subst (λ (m : ℕ → Option Info). Keeps m (numbers before) None) equal h.keeps);
      limits = ap model.is_within_limits same_tree ∙ h.limits;
      allowed = (λ i. nat_le (nodes (same_tree i)) (limit i)) ∙ h.allowed;
      unmarked = unmarked_still before.slab later.slab marks h.unmarked;
    }

-- a refused edit changes nothing
pub refused : (classes : Classes) (old new : Shown) (e : model.Edit) (r : Refusal) → IsIdle old →
    IsStoreAsBefore old new → MarksNoMore old.slab new.slab →
    (r ≡ refusal.Memory) ⊎ IsRefusalOf (model.edited_within old.limit classes (tree old) e) (model.left_by (tree old) e) (Some r) →
    IsRefused classes old e new r
refused classes old new e r idle (memory, waiting, (root, leaving, limit)) marks reason = record {
  idle = still_idle old new memory root idle waiting leaving limit marks;
  numbers_stay = same_numbers old new memory root;
  tree_stays = same_tree old new memory root;
  limit_stays = limit;
  reason = reason;
}

-- the tree was brought in, and waits; nodes may be marked since
pub record Brings (old new : Shown) (t : Tree) (root : ℕ) : Type 0 where
  pub arrived : Tree
  pub number : class_of arrived ≡ root
  pub planted : IsPlanted (memory_of old.slab) (memory_of new.slab) top t arrived
  pub waits : new.waiting ≡ Some root
  pub root_stays : new.root ≡ old.root
  pub limit_stays : new.limit ≡ old.limit

pub brings : (old new : Shown) (t : Tree) (root : ℕ) → IsBrought old new t root → Brings old new t root
brings old new t root ((w, number, planted), waits, (root_stays, leaving, limit)) =
    record {
      arrived =
          w;
      number = number;
      planted = planted;
      waits = waits;
      root_stays = root_stays;
      limit_stays = limit;
    }

pub brings_marked : (old mid new : Shown) (t : Tree) (root : ℕ) → Brings old mid t root → IsMarking mid new → Brings old new t root
brings_marked old mid new t root b (memory, root_same, waiting, limit) = record {
  arrived = b.arrived;
  number = b.number;
  planted = subst (λ (m : ℕ → Option Info). IsPlanted (memory_of old.slab) m top t b.arrived) (equal mid new memory) b.planted;
  waits = waiting ∙ b.waits;
  root_stays = root_same ∙ b.root_stays;
  limit_stays = limit ∙ b.limit_stays;
}

module _ (classes : Classes) (old new : Shown) (asked : Edit) (n m : Node) (h : IsAccepted classes old asked n m) where
  abbrev memory : ℕ → Option Info
  memory = memory_of old.slab

  abbrev later : ℕ → Option Info
  later = memory_of new.slab

  abbrev s : Tree
  s = numbers old

  allows : IsAllowed classes (tree old) (edit_at n m asked)
  allows = allowed classes (tree old) (edit_at n m asked) (model.left_by (tree old) (edit_at n m asked)) h.accepted

  there : (u : Tree) × (tree_at s n ≡ Some u) × (class_of u ≡ node_of asked)
  there = number_found s (node_of asked) n h.asked.found

  -- just what the edit takes away is marked
  abbrev Leaves : model.Edit → Type 0
  Leaves numbered = (new.leaving ≡ option_map class_of (gone s numbered)) × ((k : ℕ) → leaves_in new.slab k ≡ stands_in k (gone s numbered))

  prepared : (Does : Tree → model.Edit → Type 0) (numbered : model.Edit) →
      relabel_edit (class_in later) numbered ≡ edit_at n m asked → new.root ≡ old.root → new.limit ≡ old.limit →
      Keeps later s (brought numbered) → relabel (class_in later) s ≡ tree old →
      new.waiting ≡ option_map class_of (brought numbered) → Leaves numbered → IsRoomFor new.slab s numbered → Does s numbered → IsPrepared classes old (edit_at n m asked) Does new
  prepared Does numbered same root limit keeps stay waits leaves room does =
      let again : numbers new ≡ s = ap (grown later 512) (root ∙ sym (class-grown memory 512 old.root)) ∙ grown-stored later top 512 s keeps.stored keeps.shallow in
      record {
        numbered = numbered;
        same = same;
        numbers_stay = again;
        tree_stays = ap (relabel (class_in later)) again ∙ stay;
        limit_stays = limit;
        keeps = keeps;
        waits = waits;
        leaving = leaves.0;
        marks = leaves.1;
        was_idle = h.asked.idle;
        does = does;
        room = room;
        conforms = h.asked.conforming;
        left = model.left_by (tree old) (edit_at n m asked);
        accepted = h.accepted;
        allowed = h.allowed;
        limits = (accepted_conforms classes (tree old) (edit_at n m asked) (model.left_by (tree old) (edit_at n m asked)) h.asked.conforming h.accepted).1;
      }

  -- with a tree that waits
  module _ (t : Tree) (root : ℕ) (b : Brings old new t root) where
    waiting_kept : Keeps later s (Some b.arrived)
    waiting_kept = planted_waits memory later s t b.arrived h.asked.idle.keeps b.planted

    same_classes : relabel (class_in later) s ≡ tree old
    same_classes = relabel_same (class_in later) (class_in memory) s (λ m v is. ap class_at (b.planted.rest (class_of v)
        (ap is_some (waiting_kept.waits.1.1 (class_of v) m (named s waiting_kept.apart m v is)))))

    with_tree : (Does : Tree → model.Edit → Type 0) (numbered : model.Edit) → brought numbered ≡ Some b.arrived
        → relabel_edit (class_in later) numbered ≡ edit_at n m asked → Leaves numbered → IsRoomFor new.slab s numbered
        → Does s numbered → IsPrepared classes old (edit_at n m asked) Does new
    with_tree Does numbered gives same leaves room does =
        prepared Does numbered same b.root_stays b.limit_stays (subst (Keeps later s) (sym gives) waiting_kept)
        same_classes (b.waits ∙ ap Some (sym b.number) ∙ ap (option_map class_of) (sym gives)) leaves room does

  -- without one
  module _ (marking : IsMarking old new) where
    without_tree : (Does : Tree → model.Edit → Type 0) (numbered : model.Edit) → brought numbered ≡ None
        → relabel_edit (class_in later) numbered ≡ edit_at n m asked → Leaves numbered → IsRoomFor new.slab s numbered
        → Does s numbered → IsPrepared classes old (edit_at n m asked) Does new
    without_tree Does numbered gives same leaves room does =
        prepared Does numbered same marking.1 marking.3 (subst (Keeps later s) (sym gives) (subst (λ (q : ℕ → Option Info). Keeps q s None) (equal old new marking.0) h.asked.idle.keeps))
        (ap (λ (q : ℕ → Option Info). relabel (class_in q) s) (sym (equal old new marking.0))) (marking.2 ∙ h.asked.idle.waiting ∙ ap (option_map class_of) (sym gives)) leaves room does

pub set_prepared : (old mid new : Shown) (node root : ℕ) (t : Nested) → Brings old mid (tree_view t) root
    → MarksNoMore old.slab mid.slab → IsLeaving node mid new → Prepares old (edit.Set node t) new (plan.Set node root)
set_prepared old mid new node root t arrives fresh m classes n target h =
    let asked : Edit = edit.Set node t in
    let stands = there classes old new asked n target h in
    let u : Tree = stands.0 in
    let found = stands.1 in
    let number = stands.2 in
    let b = brings_marked old mid new (tree_view t) root arrives m.0 in
    let kept = waiting_kept classes old mid asked n target h (tree_view t) root arrives in
    let marks = marked_below mid.slab new.slab (numbers old) n u node kept.stored kept.apart kept.shallow found number (unmarked_still old.slab mid.slab fresh h.asked.idle.unmarked) m.2 in
    with_tree classes old new asked n target h (tree_view t) root b (DoesSet node root) (model.Set n b.arrived) refl (ap (model.Set n) b.planted.classes)
    (m.1 ∙ ap Some (sym number) ∙ ap (option_map class_of) (sym found), λ k. marks k ∙ ap (stands_in k) (sym found))
    tt
    (record { place = n; brings = b.arrived; gone = u; is = refl; there = found; number = number; root = b.number })

-- where the edit names a node, there is room there
room_at : (classes : Classes) (old new : Shown) (asked : Edit) (n m : Node) → IsAccepted classes old asked n m
    → (part : ℕ) → HasRoom new.slab (node_of asked) part → HasRoom new.slab (number_at (numbers old) n) part
room_at classes old new asked n m h part room =
    let stands = there classes old new asked n m h in
    subst (λ (j : ℕ). HasRoom new.slab j part) (sym (ap (λ (o : Option Tree). elim o as (λ _. ℕ) [ None ↦ 0 | Some v ↦ class_of v ]) stands.1 ∙ stands.2)) room

pub put_prepared : (old new : Shown) (node part root : ℕ) (t : Nested) → Brings old new (tree_view t) root
    → new.leaving ≡ old.leaving → MarksNoMore old.slab new.slab → HasRoom new.slab node part
    → Prepares old (edit.Put node part t) new (plan.Put node part root)
put_prepared old new node part root t b leaving marks room classes n target h =
    let asked : Edit = edit.Put node part t in
    let idle = h.asked.idle in
    let stands = there classes old new asked n target h in
    let u : Tree = stands.0 in
    let found = stands.1 in
    let number = stands.2 in
    let here : cell_at u part ≡ Some Empty = put_cell classes (class_in (memory_of old.slab)) (numbers old)
    h.asked.conforming idle.limits n u found part (tree_view t) (allows classes old new asked n target h) in
    with_tree classes old new asked n target h (tree_view t) root b (DoesPut node part root)
    (model.Put n part b.arrived) refl (ap (model.Put n part) b.planted.classes)
    (leaving ∙ idle.leaving, unmarked_still old.slab new.slab marks idle.unmarked)
    (room_at classes old new asked n target h part room)
    (record { place = n; parent = u; brings = b.arrived; is = refl; found = found; number = number; root = b.number; here = here })

pub insert_prepared : (old new : Shown) (node part index root : ℕ) (t : Nested) → Brings old new (tree_view t) root
    → new.leaving ≡ old.leaving → MarksNoMore old.slab new.slab → HasRoom new.slab node part
    → Prepares old (edit.Insert node part index t) new (plan.Insert node part index root)
insert_prepared old new node part index root t b leaving marks room classes n target h =
    let asked : Edit = edit.Insert node part index t in
    let idle = h.asked.idle in
    let stands = there classes old new asked n target h in
    let u : Tree = stands.0 in
    let found = stands.1 in
    let number = stands.2 in
    let (ts, here, bound) = insert_cell classes (class_in (memory_of old.slab)) (numbers old) h.asked.conforming
    idle.limits n u found part index (tree_view t) (allows classes old new asked n target h) in
    with_tree classes old new asked n target h (tree_view t) root b (DoesInsert node part index root)
    (model.Insert n part index b.arrived) refl (ap (model.Insert n part index) b.planted.classes)
    (leaving ∙ idle.leaving, unmarked_still old.slab new.slab marks idle.unmarked)
    (room_at classes old new asked n target h part room)
    (record { place = n; parent = u; brings = b.arrived; elements = ts; is = refl; found = found; number = number; root = b.number; here = here; bound = bound })

pub drop_prepared : (old new : Shown) (node : ℕ) → IsLeaving node old new → Prepares old (edit.Drop node) new (plan.Drop node)
drop_prepared old new node m classes n target h =
    let asked : Edit = edit.Drop node in
    let stands = there classes old new asked n target h in
    let u : Tree = stands.0 in
    let found = stands.1 in
    let number = stands.2 in
    let d = drop_cell classes (class_in (memory_of old.slab)) (numbers old) h.asked.conforming n u found (allows classes old new asked n target h) in
    let kept = h.asked.idle.keeps in
    let marks = marked_below old.slab new.slab (numbers old) n u node kept.stored kept.apart kept.shallow found number h.asked.idle.unmarked m.2 in
    without_tree classes old new asked n target h m.0 (DoesDrop node) (model.Drop n) refl refl
    (m.1 ∙ ap Some (sym number) ∙ ap (option_map class_of) (sym found), λ k. marks k ∙ ap (stands_in k) (sym found))
    tt
    (record {
      place = n;
      above = d.above;
      way = d.way;
      parent = d.parent;
      cell = d.cell;
      gone = u;
      is = refl;
      under = d.under;
      found = d.found;
      here = d.here;
      there = found;
      number = number;
      loose = d.loose;
    })

pub token_prepared : (old : Shown) (node part : ℕ) (v : TokVal) → Prepares old (edit.Token node part v) old (plan.Token node part v)
token_prepared old node part v classes n target h =
    let asked : Edit = edit.Token node part v in
    let idle = h.asked.idle in
    let stands = there classes old old asked n target h in
    let u : Tree = stands.0 in
    let found = stands.1 in
    let number = stands.2 in
    let (was, here) = token_cell classes (class_in (memory_of old.slab)) (numbers old) h.asked.conforming idle.limits n u found part (token_view v) (allows classes old old asked n target h) in
    without_tree classes old old asked n target h ((λ k. refl), refl, refl, refl) (DoesToken node part (token_view v)) (model.Token n part (token_view v)) refl refl (idle.leaving, idle.unmarked)
    tt
    (record { place = n; parent = u; was = was; is = refl; found = found; number = number; here = here })

pub move_prepared : (old new : Shown) (node to part index : ℕ) → IsStoreAsBefore old new → MarksNoMore old.slab new.slab
    → HasRoom new.slab to part → Prepares old (edit.Move node to part index) new (plan.Move node to part index)
move_prepared old new node to part index (stays, waiting, (root, leaving, limit)) marks room classes n m h =
    let idle = h.asked.idle in
    let memory = memory_of old.slab in
    let asked : Edit = edit.Move node to part index in
    let made = model_accepted classes (tree old) (model.Move n m part index) (model.left_by (tree old) (model.Move n m part index)) h.accepted in
    let d = move_does classes (class_in memory) (numbers old) h.asked.conforming idle.keeps.apart n m part index (model.left_by (tree old) (model.Move n m part index)) made in
    let stands = there classes old new asked n m h in
    let same_node : class_of d.moved ≡ node = (let f : Some d.moved ≡ Some stands.0 = sym d.there ∙ stands.1 in let g : d.moved ≡ stands.0 = cc in ap class_of g ∙ stands.2) in
    let (v, at_m, number) = number_found (numbers old) to m h.asked.target in
    let room' : HasRoom new.slab (number_at (numbers old) m) part = subst (λ (j : ℕ). HasRoom new.slab j part)
    (sym (ap (λ (o : Option Tree). elim o as (λ _. ℕ) [ None ↦ 0 | Some v ↦ class_of v ]) at_m ∙ number)) room in
    without_tree classes old new asked n m h (stays, root, waiting, limit) (DoesMove node to part index) (model.Move n m
    part index) refl refl (leaving ∙ idle.leaving, unmarked_still old.slab new.slab marks idle.unmarked)
    room'
    (record {
      place = n;
      above = d.above;
      way = d.way;
      parent = d.parent;
      cell = d.cell;
      moved = d.moved;
      target = m;
      goes = d.goes;
      taker = d.taker;
      elements = d.elements;
      is = refl;
      under = d.under;
      found = d.found;
      here = d.here;
      there = d.there;
      number = same_node;
      loose = d.loose;
      stands = h.asked.target;
      outside = d.outside;
      takes = d.takes;
      taker_number = taker_is memory (numbers old) idle.keeps n m part index d to h.asked.target;
      list = d.list;
      bound = d.bound;
    })
