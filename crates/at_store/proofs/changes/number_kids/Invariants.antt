use Rattle.std.proofs.Common.{◌≡◌, ℕ}
use Rattle.at_store.specs.Memory.{AreAlike}
use Rattle.at_store.specs.Reserving.{slots_in}
use Rattle.at_store.specs.View.{leaves_in, stored_of}
use Rattle.at_store.proofs.changes.number_kids.Given as goal

abbrev pub invariant-loop-index : goal.invariant-loop-index
invariant-loop-index l = record {
  alike : AreAlike (stored_of l.fn.slab) (stored_of l.slab);
  marks : (k : ℕ) → leaves_in l.slab k ≡ leaves_in l.fn.slab k;
  slots : (k : ℕ) → slots_in l.slab k ≡ slots_in l.fn.slab k;
}
