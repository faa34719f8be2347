use Rattle.std.proofs.Common.{ℕ, Option, refl, sym, subst}
use Rattle.at_store.specs.Marking.{IsUnmarking}
use Rattle.at_store.proofs.store.Store.unmark_leaving.Goals as goal

pub returns-in-Some-clause-marks : goal.returns-in-Some-clause-marks
returns-in-Some-clause-marks c = subst (λ (l : Option ℕ). IsUnmarking l c.args.self.now.slab c.mark.new.slab) (sym c.in-Some.is) c.mark.ensures.marks

pub returns-in_default-clause-marks : goal.returns-in_default-clause-marks
returns-in_default-clause-marks c = subst (λ (l : Option ℕ). IsUnmarking l c.args.self.now.slab c.args.self.now.slab) (sym c.in_default.is) (λ k. refl)
