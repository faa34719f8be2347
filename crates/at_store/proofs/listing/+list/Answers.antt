use Rattle.std.proofs.Common.{◌≡◌, ℕ, suc, ◌+◌, ◌-◌, ◌≤◌, true, length, [], ◌∷◌, ◌++◌, None, Some, refl, sym, ap, ◌∙◌, subst, arith}
use Rattle.std.specs.List.{slice_get}
use Rattle.at_store.specs.Leaving.{is_listed}
use Rattle.at_store.specs.Memory.{IsShallow, IsSpreadTo, kids_in}
use Rattle.at_store.specs.View.{kept_view, memory_of}
use Rattle.at_store.proofs.of_planting.Listed.{child_listed, root_listed}
use Rattle.at_store.proofs.of_planting.MarkedLemmas.{part_marked, whole_marked}
use Rattle.at_store.proofs.Slots.{map_length, none_past}
use Rattle.at_store.proofs.listing.+list.Goals.{list_slot-in-Some+in_ok-list, list_slot-in_default}
use Rattle.at_store.proofs.listing.+list.Goals as goal

next : (n : ℕ) → suc n ≡ n + 1
next n = omega arith

pub list-returns-then-levels-eq0 : goal.list-returns-then-levels-eq0
list-returns-then-levels-eq0 t c place x same apart stored shallow = let less = shallow [] x refl in absurd (omega (arith, less, c.if-levels-eq0.true))

pub list-loop-part-init : goal.list-loop-part-init
list-loop-part-init t c = record {
  end = sym (map_length kept_view c.slots_at-part-end.result.now) ∙ ap length c.slots_at-part-end.ensures;
  listed = λ place x same apart stored shallow. root_listed c.args.all.now.items c.push.new.self.items x (c.in_ok-push.ensures.items ∙ ap (λ n. c.args.all.now.items ++ n ∷ []) (sym same));
}

pub list-loop-part-preserved : goal.list-loop-part-preserved
list-loop-part-preserved t c =
    let inv = c.loop-part.invariant in
    let memory = memory_of c.args.slab.now in
    record {
      end = inv.end;
      listed = λ place x same apart stored shallow.
          let less : c.args.levels ≡ suc (c.args.levels - 1) = omega (arith, c.if-levels-eq0.false) in
          subst (λ (i : ℕ). IsSpreadTo true (is_listed c.args.all.now.items) (is_listed c.list_slot.new.all.items) x (i, 0)) (next c.loop-part.part)
          (c.in_ok-list_slot.ensures (is_listed c.args.all.now.items) place x same apart stored (subst (λ (n : ℕ). IsShallow n x) less shallow) (inv.listed place x same apart stored shallow));
    }

pub list-returns : goal.list-returns
list-returns t c place x same apart stored shallow =
    let inv = c.loop-part.invariant in
    whole_marked true (is_listed c.args.all.now.items) (is_listed c.loop-part.all.items) (memory_of c.args.slab.now)
    place x c.args.node c.loop-part.part same stored (omega (arith, inv.end, c.loop-part-test.false))
    (inv.listed place x same apart stored shallow)

pub list_slot-loop-index-init : goal.list_slot-loop-index-init
list_slot-loop-index-init t c = record {
  end = ap length c.kids_at-index-end.ensures;
  within = omega arith;
  listed = λ first place x same apart stored shallow h. h;
}

pub list_slot-loop-index-preserved : goal.list_slot-loop-index-preserved
list_slot-loop-index-preserved t c =
    let memory = memory_of c.args.slab.now in
    let kids = kids_in (memory c.args.node) c.args.part in
    let inv = c.loop-index.invariant in
    elim c.match-kid_at.branch [
      | list_slot-in-Some+in_ok-list w ↦ (
          let at' : slice_get kids c.loop-index.index ≡ Some w.in-Some.kid = sym c.kid_at.ensures ∙ w.in-Some.is in
          record {
            end = inv.end;
            within = omega (arith, c.loop-index-test.true);
            listed = λ first place x same apart stored shallow h. rw w.all-is
                (subst (λ (i : ℕ). IsSpreadTo true first (is_listed w.list.new.all.items) x (c.args.part, i)) (next c.loop-index.index)
                (child_listed first memory c.loop-index.all.items w.list.new.all.items c.args.levels place x c.args.node
                c.args.part c.loop-index.index w.in-Some.kid same apart stored shallow at'
                (inv.listed first place x same apart stored shallow h) w.in_ok-list.ensures));
          })
      | list_slot-in_default w ↦ (
          let nowhere : slice_get kids c.loop-index.index ≡ None = sym c.kid_at.ensures ∙ w.in_default.is in
          let past : length kids ≤ c.loop-index.index = none_past kids c.loop-index.index nowhere in
          absurd (omega (arith, past, c.loop-index-test.true, inv.end)))
    ]

pub list_slot-returns : goal.list_slot-returns
list_slot-returns t c first place x same apart stored shallow h =
    let inv = c.loop-index.invariant in
    part_marked true first (is_listed c.loop-index.all.items) (memory_of c.args.slab.now) place x c.args.node
    c.args.part c.loop-index.index same stored (sym inv.end ∙ omega (arith, inv.within, c.loop-index-test.false))
    (inv.listed first place x same apart stored shallow h)
