use Rattle.std.proofs.Common.{◌≡◌, ℕ, Option, sym, ◌∙◌, subst}
use Rattle.at_store.specs.Marking.{IsUnmarking}
use Rattle.at_store.specs.Memory.{Info}
use Rattle.at_store.specs.View.{memory_of}
use Rattle.at_store.specs.Preparing.{Does, IsGivenUp}
use Rattle.at_store.proofs.of_edits.Committed.{cancelled}
use Rattle.at_store.proofs.store.Store.cancel.Goals as goal

pub returns : goal.returns
returns c classes old e p =
    let before = memory_of c.args.self.now.slab in
    let same : memory_of c.unbring.new.self.slab ≡ memory_of c.unmark_leaving.new.self.slab = λ i k. sym (c.unmark_leaving.ensures.stays k) i in
    let given : IsGivenUp c.args.self.now.waiting before (memory_of c.unmark_leaving.new.self.slab) =
    subst (λ (m : ℕ → Option Info). IsGivenUp c.args.self.now.waiting before m) same c.unbring.ensures.given_up in
    let (freed, waiting, (root, leaving, limit)) = c.unbring.ensures.unbrought in
    cancelled classes old c.args.self.now c.unmark_leaving.new.self e (Does c.args.ready.prepared) p given
    (c.unmark_leaving.ensures.root ∙ c.unbring.ensures.root) (c.unmark_leaving.ensures.waiting ∙ c.unbring.ensures.waiting) c.unmark_leaving.ensures.leaving
    (c.unmark_leaving.ensures.limit ∙ limit)
    (record {
      freed = c.unbring.new.self.slab;
      fewer = c.unbring.ensures.marks;
      still = c.unmark_leaving.ensures.stays;
      taken = subst (λ (l : Option ℕ). IsUnmarking l c.unbring.new.self.slab c.unmark_leaving.new.self.slab) leaving c.unmark_leaving.ensures.marks;
    })
