use Rattle.std.proofs.Common.{refl, sym, ◌∙◌}
use Rattle.at_seek.specs.Finding.{kinds_in}
use Rattle.at_seek.proofs.Scopes.{inherited_itself, inherited_turned, one_told}
use Rattle.at_seek.proofs.searches.turn_inherited_at.Goals as goal

pub returns-in-Some : goal.returns-in-Some
returns-in-Some c = λ rules texts over alike named e at. (
  c.turn.new.body,
  refl,
  inherited_turned rules texts e c.pair_mut-body.result.0.now c.pair_mut-body.result.1.now c.turn.new.body (λ h. kinds_in c.in-Some.scope h)
      (one_told e _ (sym at ∙ c.pair_mut-body.ensures.value)) (λ n a h of. c.in-Some.ensures rules texts n a h over alike named of)
      (λ h. c.turn.ensures rules h over),
)

pub returns-in_default : goal.returns-in_default
returns-in_default c = λ rules texts over alike named e at. (
  c.pair_mut-body.result.1.now,
  refl,
  inherited_itself rules texts e c.pair_mut-body.result.0.now c.pair_mut-body.result.1.now (one_told e _ (sym at ∙ c.pair_mut-body.ensures.value)),
)
