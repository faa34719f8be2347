use Rattle.std.proofs.Common.{◌≡◌, ℕ, Option, Some, refl, sym, ◌∙◌, subst}
use Rattle.at_store.specs.Memory.{IsFreed}
use Rattle.at_store.specs.Preparing.{IsGivenUp}
use Rattle.at_store.specs.View.{memory_of}
use Rattle.at_store.proofs.Arranged.{freed_arranged}
use Rattle.at_store.proofs.store.Store.unbring.Goals as goal

pub returns-in-Some-clause-unbrought : goal.returns-in-Some-clause-unbrought
returns-in-Some-clause-unbrought c = (
  λ new e. (let f : Some c.in-Some.new ≡ Some new = sym c.in-Some.is ∙ e in
      let same : c.in-Some.new ≡ new = cc in
      subst (λ (n : ℕ). IsFreed n (memory_of c.args.self.now.slab) (memory_of c.free.new.slab)) same (freed_arranged c.in-Some.new c.args.self.now.slab c.free.new.slab c.free.ensures.freed)),
  refl,
  (refl, refl, refl),
)

pub returns-in-Some-clause-given_up : goal.returns-in-Some-clause-given_up
returns-in-Some-clause-given_up c = subst (λ (o : Option ℕ). IsGivenUp o (memory_of c.args.self.now.slab) (memory_of c.free.new.slab)) (sym c.in-Some.is)
    (freed_arranged c.in-Some.new c.args.self.now.slab c.free.new.slab c.free.ensures.freed)
