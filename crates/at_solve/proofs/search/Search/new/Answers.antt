use Rattle.std.proofs.Common.{◌∙◌, ap, sym}
use Rattle.std.specs.Prelude.{replicate}
use Rattle.at_solve.specs.declared.search.Mark.TheVariants.{Unmet}
use Rattle.at_solve.proofs.Stepping.{begun_search}
use Rattle.at_solve.proofs.search.Search.new.Goals as goal

pub returns-clause-searches : goal.returns-clause-searches
returns-clause-searches c = λ edges count. begun_search edges _ (c.in_ok-unmet.ensures ∙ ap (λ n. replicate n Unmet) (sym count)) c.new.ensures.items c.new-2.ensures.items c.new-3.ensures.items c.new-4.ensures.items (λ w. ⊥)
