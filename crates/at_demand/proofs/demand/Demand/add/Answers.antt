use Rattle.std.proofs.Common.{◌++◌, ◌∙◌, refl, ap}
use Rattle.at_demand.specs.declared.evaluation.Find.{Find}
use Rattle.at_demand.proofs.Grouped.{uses_added}
use Rattle.at_demand.proofs.demand.Demand.add.Goals as goal

pub returns : goal.returns
returns g c =
    let old = c.args.find.now in
    let new : Find = record { value = old.value; reads = c.extend_from_slice.new.self; demanded = c.add_atoms.new.demanded } in
    uses_added (g.K.Keeper.contents c.args.self.now.keeper) c.args.question.now c.args.formed.now old new c.add.new.self c.pieces.result.now
    c.add_atoms.result refl (c.in_ok-extend_from_slice.ensures.ok ∙ ap (λ l. old.reads.items ++ l) c.as_slice.ensures.value)
    (c.in_ok-add.ensures.kept ∙ ap (λ l. old.demanded.kept.items ++ l) c.as_slice-kept.ensures.value)
    (c.in_ok-add.ensures.finds ∙ ap (λ l. old.demanded.finds.items ++ l) c.as_slice-finds.ensures.value) c.pieces.ensures c.add_atoms.ensures
