use Rattle.std.proofs.Common.{◌∙◌, ap, sym}
use Rattle.at_solve.specs.Components.{listed_at}
use Rattle.at_search.proofs.Shutting.{shut_by}
use Rattle.at_search.proofs.system.System.is_shut_at.Goals as goal

pub returns : goal.returns
returns c =
    shut_by c.are_closed.result c.args.self.now c.args.position c.targets_of.result.now (sym c.is_open.ensures ∙ c.if-is_open.false)
    (c.targets_of.ensures ∙ ap (λ z. listed_at z c.args.position) c.as_slice.ensures.value) c.are_closed.ensures
