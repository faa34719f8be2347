use Rattle.std.proofs.Common.{ap, sym, ◌∙◌, None, Some, option_map}
use Rattle.at_kinds.proofs.Parts.{kind_in, bound_seen}
use Rattle.at_kinds.proofs.typing.Scope.bound_to.Goals as goal

pub returns-in_err-position : goal.returns-in_err-position
returns-in_err-position c = c.from_residual.ensures ∙ bound_seen c.args.self.now.names.now c.args.name.now None (sym c.in_err-position.was ∙ c.position_bound.ensures)

pub returns-in_err-kind : goal.returns-in_err-kind
returns-in_err-kind c =
    let i = c.in_ok-position.position in
    c.from_residual-in_err-kind.ensures
    ∙ ap (option_map (kind_in i)) (sym c.in_err-kind.was ∙ c.kind_at.ensures)
    ∙ bound_seen c.args.self.now.names.now c.args.name.now (Some i) (sym c.in_ok-position.was ∙ c.position_bound.ensures)

pub returns : goal.returns
returns c =
    let i = c.in_ok-position.position in
    ap (option_map (kind_in i)) (sym c.in_ok-kind.was ∙ c.kind_at.ensures)
    ∙ bound_seen c.args.self.now.names.now c.args.name.now (Some i) (sym c.in_ok-position.was ∙ c.position_bound.ensures)
