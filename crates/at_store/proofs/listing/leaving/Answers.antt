use Rattle.std.proofs.Common.{ℕ, List, Option, sym, ◌∙◌, subst}
use Rattle.at_store.specs.Leaving.{AreAllBelow, AreListedBelow}
use Rattle.at_store.specs.View.{memory_of}
use Rattle.at_store.proofs.listing.leaving.Goals.{in-Some+in_ok-list, in_default}
use Rattle.at_store.proofs.listing.leaving.Goals as goal

pub returns : goal.returns
returns c =
    let memory = memory_of c.args.slab.now in
    elim c.match-taken.branch [
      | in-Some+in_ok-list w ↦ rw w.all-is (subst (λ (o : Option ℕ). AreAllBelow o memory w.list.new.all.items) (sym w.in-Some.is ∙ c.taken.ensures)
          (subst (λ (ns : List ℕ). AreListedBelow w.in-Some.node 512 memory ns w.list.new.all.items) c.new-all.ensures.items w.in_ok-list.ensures))
      | in_default w ↦ rw w.all-is (subst (λ (o : Option ℕ). AreAllBelow o memory c.new-all.result.items) (sym w.in_default.is ∙ c.taken.ensures) c.new-all.ensures.items)
    ]
