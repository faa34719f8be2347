use Rattle.at_cache.proofs.Common.{◌++◌, ◌∙◌, ◌∷◌, [], ℕ, arith, ap, sym, refl, subst, take_all, memory_of, AreTaken, AreTheirs}
use Rattle.at_cache.proofs.of_cut.Ordered.{taken_more, theirs_more, theirs_none}
use Rattle.at_cache.proofs.of_cut.Slotted.{has_slot, no_slot}
use Rattle.at_cache.proofs.again.slots_near.Goals as goal
use Rattle.at_cache.proofs.again.slots_near.Goals.{in-Some+in_ok-push, in_default}

pub loop-used-init : goal.loop-used-init
loop-used-init c = record {
  taken = subst (AreTaken (memory_of c.args.entries.now)) (sym c.in_ok-slots.ensures.items)
      (λ s d. absurd (omega (arith, d.1)));
  theirs = subst (AreTheirs c.args.entries.now []) (sym c.in_ok-slots.ensures.items) (λ all. refl);
}

pub loop-used-preserved : goal.loop-used-preserved
loop-used-preserved c =
    let t = c.args.entries.now in
    elim c.match-slot_near.branch [
      | in-Some+in_ok-push w ↦
          let has = has_slot t _ _ w.in-Some.ensures in
          let pushed = ap (λ v. v.items) w.slots-is ∙ w.in_ok-push.ensures.ok
          ∙ ap (λ (s : ℕ). c.loop-used.slots.items ++ s ∷ []) (sym has.there) in
          record {
            taken = taken_more t _ has.entry _ _ has.found pushed c.loop-used.invariant.taken;
            theirs = theirs_more t c.args.uses.now _ _ c.used-item.is c.loop-used-test.true _
                c.loop-used.invariant.theirs has.entry _ has.found pushed;
          }
      | in_default w ↦
          let same = ap (λ v. v.items) w.slots-is in
          let none = no_slot t _ w.in_default.ensures in
          record {
            taken = subst (AreTaken (memory_of t)) (sym same) c.loop-used.invariant.taken;
            theirs = theirs_none t c.args.uses.now _ _ c.used-item.is c.loop-used-test.true _
                c.loop-used.invariant.theirs _ none same;
          }
    ]

pub returns-clause-theirs : goal.returns-clause-theirs
returns-clause-theirs c = subst (λ us. AreTheirs c.args.entries.now us c.loop-used.slots.items)
    (take_all c.loop-used.used-index c.args.uses.now c.loop-used-test.false) c.loop-used.invariant.theirs
