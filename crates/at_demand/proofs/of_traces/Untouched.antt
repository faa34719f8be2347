-- Over an edit that is done, what can be kept again stays right, where nothing that was looked at for it is touched.
use Rattle.std.proofs.Common.{◌≡◌, ◌||◌, ℕ, Bool, true, false, List, ◌∷◌, Option, Some, None, Ok, refl, sym, ap, ◌∙◌}
use Rattle.at_model.specs.Trees.{Tree, conforms}
use Rattle.at_model.specs.Paths.{Node, parent_of}
use Rattle.at_model.specs.Run.{Instance, Location, Is, Tok, Slot, Up, Idx, Drawer, Contents}
use Rattle.at_model.specs.Rules.{Rules}
use Rattle.at_model.specs.Alike.{OptionLike, neither, both, ListLike, end, more, is, tok, slot, up, idx, drawer}
use Rattle.at_model.specs.Edits.{Edit, Set, Put, Drop, Insert, Token, Move, edited}
use Rattle.at_model.specs.Touches.{touches, shifts, touches_in, node_of}
use Rattle.at_model.proofs.GrammarKept.{or_off}
use Rattle.at_model.proofs.of_edits.NoDrawer.{touched_as_before}
use Rattle.at_store.specs.Shown.{Shown, IsIdle, contents, path, tree}
use Rattle.at_store.specs.Preparing.{IsCommitted}
use Rattle.at_cache.specs.Traced.{Trace, Memories, FlushesTraces}
use Rattle.at_evaluate.specs.Valued.{equations}
use Rattle.at_evaluate.specs.Inner.{is_inner}
use Rattle.at_demand.specs.Touched.{Touches}
use Rattle.at_evaluate.specs.Traces.{IsJustified, IsRemembered}
use Rattle.at_demand.proofs.of_keeping.Staying.{Stays, IsOver, Untouched, alike_there, node_stays, named_later}
use Rattle.at_demand.proofs.of_keeping.StayingRight.{over}
use Rattle.at_evaluate.proofs.of_traces.Justified.{stays_justified}

abbrev Way : Type 0
Way = ℕ × ℕ

quiet : (o : Option (Node × Way)) → elim o [ None ↦ false | Some p ↦ false ] ≡ false
quiet None = refl
quiet (Some p) = refl

both_off : (a b : Bool) → a ≡ false → b ≡ false → (a || b) ≡ false
both_off a b e f = rw (e, f) refl

-- where the edit doesn't touch a location, its node is there still
node_free : (e : Edit) (l : Location Node) → touches e l ≡ false → touches e (Is (node_of l)) ≡ false
node_free (Set node new) l free = both_off _ _ (or_off _ _ free).0 (quiet (parent_of node))
node_free (Put node part new) l free = refl
node_free (Drop node) l free =
    both_off _ _ (both_off _ _ (or_off _ _ (or_off _ _ free).0).0 (quiet (parent_of node))) (quiet (parent_of node))
node_free (Insert node part index new) l free = refl
node_free (Token node part v) l free = refl
node_free (Move node to part index) l free = moved_quiet (parent_of node)
  where
    moved_quiet : (o : Option (Node × Way)) → (false || elim o [ None ↦ false | Some p ↦ false ] || false
        || elim o [ None ↦ false | Some p ↦ false ] || false) ≡ false
    moved_quiet None = refl
    moved_quiet (Some p) = refl

-- so it is of the edit of a tree
still_there : (t : Tree) (e : Edit) (l : Location Node) → touches_in t e l ≡ false
    → touches_in t e (Is (node_of l)) ≡ false
still_there t e l free =
    touched_as_before t (Is (node_of l)) (λ n part u. refl) e
    ∙ node_free e l (or_off (touches e l) (shifts t e l) free).0

module _ {path : ℕ → Option Node} {e : Edit} where
  same_lists : {ns ms : List ℕ} → ListLike (Stays path e) ns ms → ns ≡ ms
  same_lists end = refl
  same_lists (more {a = a} {b = b} {as' = ns} {bs = ms} s ss) =
      ap (λ n. n ∷ ns) s.same ∙ ap (λ xs. b ∷ xs) (same_lists ss)

  same_places : {o p : Option (ℕ × ℕ)} → OptionLike (λ x y. Stays path e x.0 y.0 × (x.1 ≡ y.1)) o p → o ≡ p
  same_places neither = refl
  same_places (both {a = a} {b = b} (s, same)) = ap (λ n. Some (n, a.1)) s.same ∙ ap (λ part. Some (b.0, part)) same

module _ (rules : Rules) {e : Edit} {t u : Tree} {path later : ℕ → Option Node} {old new : Contents ℕ}
    (over : IsOver rules.classes e t u path later old new) where
  -- the node of a location that isn't touched is there still
  node_untouched : (l : Location ℕ) → Untouched rules over l → Untouched rules over (Is (node_of l))
  node_untouched (Is k) free m s = free m s
  node_untouched (Tok k part) free _ (is {m = n} r) = still_there t e (Tok n part) (free (Tok n part) (tok part r))
  node_untouched (Slot k part) free _ (is {m = n} r) = still_there t e (Slot n part) (free (Slot n part) (slot part r))
  node_untouched (Up k) free _ (is {m = n} r) = still_there t e (Up n) (free (Up n) (up r))
  node_untouched (Idx k) free _ (is {m = n} r) = still_there t e (Idx n) (free (Idx n) (idx r))
  node_untouched (Drawer k part key mark) free _ (is {m = n} r) =
      still_there t e (Drawer n part key mark) (free (Drawer n part key mark) (drawer part key mark r))

  stays_at : (l : Location ℕ) (n : Node) → path (node_of l) ≡ Some n → Untouched rules over l
      → Stays path e (node_of l) (node_of l)
  stays_at l n p free = node_stays rules over (node_of l) n p (node_untouched l free)

  -- so its content is the same
  same_there : (l : Location ℕ) → Stays path e (node_of l) (node_of l) → Untouched rules over l → new l ≡ old l
  same_there (Is k) s free = sym (alike_there rules over (Is k) free (Is k) (is s))
  same_there (Tok k part) s free = sym (alike_there rules over (Tok k part) free (Tok k part) (tok part s))
  same_there (Slot k part) s free =
      sym (same_lists (alike_there rules over (Slot k part) free (Slot k part) (slot part s)))
  same_there (Up k) s free = sym (same_places (alike_there rules over (Up k) free (Up k) (up s)))
  same_there (Idx k) s free = sym (alike_there rules over (Idx k) free (Idx k) (idx s))
  same_there (Drawer k part key mark) s free =
      sym (same_lists (alike_there rules over (Drawer k part key mark) free (Drawer k part key mark)
      (drawer part key mark s)))

  pub same_untouched : (l : Location ℕ) (n : Node) → path (node_of l) ≡ Some n → Untouched rules over l → new l ≡ old l
  same_untouched l n p free = same_there l (stays_at l n p free) free

  pub there_untouched : (l : Location ℕ) (n : Node) → path (node_of l) ≡ Some n → Untouched rules over l
      → (m : Node) × (later (node_of l) ≡ Some m)
  there_untouched l n p free = let s = stays_at l n p free in (s.goes, named_later rules over (node_of l) (node_of l) s)

module _ (rules : Rules) (old new : Shown) (e : Edit) (u : Tree) (idle : IsIdle old)
    (ok : conforms rules.classes (tree old) 0 ≡ true) (accepted : edited rules.classes (tree old) e ≡ Ok u)
    (done : IsCommitted old e new) (before later : Memories) (right : IsRemembered rules old before)
    (flushes : FlushesTraces (Touches old e) before later) where
  goes : IsOver rules.classes e (tree old) (tree new) (path old) (path new) (contents old) (contents new)
  goes = over rules old new e u idle ok accepted done

  module _ (i : Instance ℕ) (t : Trace) (left : later.traced i ≡ Some t) where
    was : before.traced i ≡ Some t
    was = (flushes i t left).0.traced

    justified_later : IsJustified (contents new) (equations rules) later.last (is_inner rules) i t
    justified_later = stays_justified (contents old) (contents new) (equations rules) before.last later.last
        (is_inner rules) i t (right.justified.justified i t was)
        (λ l h. let (n, p) = right.there i t l was h in same_untouched rules goes l n p ((flushes i t left).1 l h))
        (flushes i t left).0.uses

    there_later : (l : Location ℕ) → t.reads l ≡ true → (n : Node) × (path new (node_of l) ≡ Some n)
    there_later l h =
        let (n, p) = right.there i t l was h in there_untouched rules goes l n p ((flushes i t left).1 l h)

  pub remembered_later : IsRemembered rules new later
  remembered_later = record {
    justified = record {
      lazily = λ i t left. right.justified.lazily i t (was i t left);
      own = λ i t left. right.justified.own i t (was i t left);
      value = λ i t left. (flushes i t left).0.value ∙ right.justified.value i t (was i t left);
      justified = justified_later;
    };
    there = λ i t l left h. there_later i t left l h;
  }
