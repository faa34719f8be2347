use Rattle.at_cache.proofs.Common.{◌∙◌, [], arith, ap, sym, refl, subst, take_all, memory_of, AreTaken, AreTheirs}
use Rattle.at_cache.proofs.of_cut.Ordered.{taken_more, theirs_more, theirs_none}
use Rattle.at_cache.proofs.putting.slots_of.Goals as goal
use Rattle.at_cache.proofs.putting.slots_of.Goals.{in-Some+in_ok-push, in_default}

pub loop-used-init : goal.loop-used-init
loop-used-init c = record {
  taken = subst (AreTaken (memory_of c.args.entries.now)) (sym c.in_ok-slots.ensures.items)
      (λ s d. absurd (omega (arith, d.1)));
  theirs = subst (AreTheirs c.args.entries.now []) (sym c.in_ok-slots.ensures.items) (λ all. refl);
}

pub loop-used-preserved : goal.loop-used-preserved
loop-used-preserved c =
    let t = c.args.entries.now in
    elim c.match-get_near.branch [
      | in-Some+in_ok-push w ↦
          let found = sym w.in-Some.ensures.value in
          let pushed = ap (λ v. v.items) w.slots-is ∙ w.in_ok-push.ensures.ok in
          record {
            taken = taken_more t _ w.in-Some.entry.now _ _ found pushed c.loop-used.invariant.taken;
            theirs = theirs_more t c.args.uses.now _ _ c.used-item.is c.loop-used-test.true _
                c.loop-used.invariant.theirs w.in-Some.entry.now _ found pushed;
          }
      | in_default w ↦
          let same = ap (λ v. v.items) w.slots-is in
          record {
            taken = subst (AreTaken (memory_of t)) (sym same) c.loop-used.invariant.taken;
            theirs = theirs_none t c.args.uses.now _ _ c.used-item.is c.loop-used-test.true _
                c.loop-used.invariant.theirs _ (sym w.in_default.ensures.value) same;
          }
    ]

pub returns-clause-theirs : goal.returns-clause-theirs
returns-clause-theirs c = subst (λ us. AreTheirs c.args.entries.now us c.loop-used.slots.items)
    (take_all c.loop-used.used-index c.args.uses.now c.loop-used-test.false) c.loop-used.invariant.theirs
