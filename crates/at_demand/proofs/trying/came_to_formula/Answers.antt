use Rattle.std.proofs.Common.{refl, sym, ap, ◌∙◌, subst}
use Rattle.at_body.specs.declared.forming.Progress.{Progress}
use Rattle.at_demand.specs.declared.formation.Formation.{Formation}
use Rattle.at_demand.specs.declared.trying.Tried.TheVariants as tried
use Rattle.at_demand.specs.Forming.{IsFormedBy}
use Rattle.at_demand.proofs.trying.came_to_formula.Goals as goal

pub returns-in-Formula : goal.returns-in-Formula
returns-in-Formula c =
    let e = c.take_formed.ensures in
    let same = c.deref_mut.ensures.value in
    subst (λ (p : Progress). IsFormedBy p c.args.formation (tried.Forms c.take_formed.result)) (sym c.in-Formula.is) (
      c.take_formed.result,
      refl,
      record {
        formula = e.formula;
        reads = e.reads ∙ ap (λ (f : Formation). f.forming.trial.reads) same;
        kept = e.kept ∙ ap (λ (f : Formation). f.demanded.kept) same;
        finds = e.finds ∙ ap (λ (f : Formation). f.demanded.finds) same;
      },
    )
