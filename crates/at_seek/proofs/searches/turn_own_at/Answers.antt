use Rattle.std.proofs.Common.{false, refl, sym, ◌∙◌}
use Rattle.at_seek.specs.Finding.{kinds_in}
use Rattle.at_seek.proofs.Scopes.{one_told, own_itself, own_turned}
use Rattle.at_seek.proofs.searches.turn_own_at.Goals as goal

pub returns-in-Some : goal.returns-in-Some
returns-in-Some c = λ rules over e at. (
  c.turn.new.body,
  refl,
  own_turned rules e c.pair_mut-body.result.0.now c.pair_mut-body.result.1.now c.turn.new.body (kinds_in c.in-Some.scope false)
      (one_told e _ (sym at ∙ c.pair_mut-body.ensures.value)) (λ a there. c.in-Some.ensures rules a false over there) (c.turn.ensures rules false over),
)

pub returns-in_default : goal.returns-in_default
returns-in_default c = λ rules over e at. (
  c.pair_mut-body.result.1.now,
  refl,
  own_itself rules e c.pair_mut-body.result.0.now c.pair_mut-body.result.1.now (one_told e _ (sym at ∙ c.pair_mut-body.ensures.value)),
)
