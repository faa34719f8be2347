use Rattle.std.proofs.Common.{◌≡◌, ℕ, suc, ◌+◌, ◌-◌, ◌≤◌, length, [], None, Some, refl, sym, ap, ◌∙◌, subst, arith}
use Rattle.std.specs.List.{slice_get}
use Rattle.slab.specs.Slab.{Slab}
use Rattle.at_store.specs.declared.entry.Entry.{Entry}
use Rattle.at_store.specs.Memory.{IsShallow, IsSpreadTo, cells_in, kids_in}
use Rattle.at_store.specs.View.{kept_view, leaves_in, memory_of}
use Rattle.at_store.proofs.of_planting.MarkedLemmas.{child_marked, part_marked, root_marked, stored_same, whole_marked}
use Rattle.at_store.proofs.Slots.{map_length, none_past}
use Rattle.at_store.proofs.marks.+mark.Goals.{mark_slot-in-Some, mark_slot-in_default}
use Rattle.at_store.proofs.marks.+mark.Goals as goal

next : (n : ℕ) → suc n ≡ n + 1
next n = omega arith

pub mark-returns-then-levels-eq0-clause-marks : goal.mark-returns-then-levels-eq0-clause-marks
mark-returns-then-levels-eq0-clause-marks t c place x same apart stored shallow = let less = shallow [] x refl in absurd (omega (arith, less, c.if-levels-eq0.true))

pub mark-loop-part-init : goal.mark-loop-part-init
mark-loop-part-init t c = record {
  end = sym (map_length kept_view c.slots_at-part-end.result.now) ∙ ap length c.slots_at-part-end.ensures ∙ ap (λ o. length (cells_in o)) (c.set_mark.ensures.stays c.args.node);
  stays = c.set_mark.ensures.stays;
  marks = λ place x same apart stored shallow. root_marked c.args.slab.now c.set_mark.new.slab c.args.node c.args.leaves c.set_mark.ensures.marks place x same stored;
}

pub mark-loop-part-preserved : goal.mark-loop-part-preserved
mark-loop-part-preserved t c =
    let inv = c.loop-part.invariant in
    record {
      end = inv.end;
      stays = λ k. c.mark_slot.ensures.stays k ∙ inv.stays k;
      marks = λ place x same apart stored shallow.
          let less : c.args.levels ≡ suc (c.args.levels - 1) = omega (arith, c.if-levels-eq0.false) in
          subst (λ (i : ℕ). IsSpreadTo c.args.leaves (leaves_in c.args.slab.now) (leaves_in c.mark_slot.new.slab) x (i, 0)) (next c.loop-part.part)
          (c.mark_slot.ensures.marks (leaves_in c.args.slab.now) place x same apart
          (stored_same c.args.slab.now c.loop-part.slab inv.stays place x stored)
          (subst (λ (n : ℕ). IsShallow n x) less shallow) (inv.marks place x same apart stored shallow));
    }

pub mark-returns-clause-marks : goal.mark-returns-clause-marks
mark-returns-clause-marks t c place x same apart stored shallow =
    let inv = c.loop-part.invariant in
    whole_marked c.args.leaves (leaves_in c.args.slab.now) (leaves_in c.loop-part.slab) (memory_of c.args.slab.now)
    place x c.args.node c.loop-part.part same stored (omega (arith, inv.end, c.loop-part-test.false))
    (inv.marks place x same apart stored shallow)

pub mark_slot-loop-index-init : goal.mark_slot-loop-index-init
mark_slot-loop-index-init t c = record {
  end = ap length c.kids_at-index-end.ensures;
  within = omega arith;
  stays = λ k. refl;
  marks = λ first place x same apart stored shallow h. h;
}

pub mark_slot-loop-index-preserved : goal.mark_slot-loop-index-preserved
mark_slot-loop-index-preserved t c =
    let old = memory_of c.args.slab.now in
    let kids = kids_in (old c.args.node) c.args.part in
    let inv = c.loop-index.invariant in
    elim c.match-kid_at.branch [
      | mark_slot-in-Some w ↦ (
          let at' : slice_get kids c.loop-index.index ≡ Some w.in-Some.kid = ap (λ o. slice_get (kids_in o c.args.part)
          c.loop-index.index) (sym (inv.stays c.args.node)) ∙ sym c.kid_at.ensures ∙ w.in-Some.is in
          record {
            end = inv.end;
            within = omega (arith, c.loop-index-test.true);
            stays = λ k. ap (λ (s : Slab Entry). memory_of s k) w.slab-is ∙ w.mark.ensures.stays k ∙ inv.stays k;
            marks = λ first place x same apart stored shallow h.
                subst (λ (s : Slab Entry). IsSpreadTo c.args.leaves first (leaves_in s) x (c.args.part, c.loop-index.index + 1)) (sym w.slab-is)
                (subst (λ (i : ℕ). IsSpreadTo c.args.leaves first (leaves_in w.mark.new.slab) x (c.args.part, i)) (next c.loop-index.index)
                (child_marked first c.args.slab.now c.loop-index.slab w.mark.new.slab c.args.leaves c.args.levels place
                x c.args.node c.args.part c.loop-index.index w.in-Some.kid same apart stored inv.stays shallow at'
                (inv.marks first place x same apart stored shallow h) w.mark.ensures.marks));
          })
      | mark_slot-in_default w ↦ (
          let nowhere : slice_get kids c.loop-index.index ≡ None = ap (λ o. slice_get (kids_in o c.args.part)
          c.loop-index.index) (sym (inv.stays c.args.node)) ∙ sym c.kid_at.ensures ∙ w.in_default.is in
          let past : length kids ≤ c.loop-index.index = none_past kids c.loop-index.index nowhere in
          absurd (omega (arith, past, c.loop-index-test.true, inv.end)))
    ]

pub mark_slot-returns-clause-marks : goal.mark_slot-returns-clause-marks
mark_slot-returns-clause-marks t c first place x same apart stored shallow h =
    let inv = c.loop-index.invariant in
    part_marked c.args.leaves first (leaves_in c.loop-index.slab) (memory_of c.args.slab.now) place x c.args.node
    c.args.part c.loop-index.index same stored (sym inv.end ∙ omega (arith, inv.within, c.loop-index-test.false))
    (inv.marks first place x same apart stored shallow h)
