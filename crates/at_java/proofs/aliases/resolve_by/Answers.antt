use Rattle.std.proofs.Common.{◌+◌, ◌<◌, ◌∙◌, arith, drop, length, length-drop, length-set, refl, take_all}
use Rattle.at_java.proofs.Resolved.{one_resolved, all_resolved}
use Rattle.at_java.proofs.aliases.resolve_by.Goals as goal

pub loop-i-init : goal.loop-i-init
loop-i-init c = (refl, λ aliases known. refl)

pub loop-i-preserved : goal.loop-i-preserved
loop-i-preserved c =
    let ts = c.loop-i.tokens in
    let less : c.loop-i.i < length ts = omega (arith, c.loop-i-test.true, c.loop-i.auto, c.loop-i.invariant.0) in (
      length-set ts c.loop-i.i c.resolved_token-token.result ∙ c.loop-i.invariant.0,
      λ aliases known.
          one_resolved aliases ts _ c.loop-i.i _ _ c.resolved_token-token.result less refl
          (take_all _ (drop (c.loop-i.i + 1) ts) (omega (arith, length-drop (c.loop-i.i + 1) ts)))
          (c.resolved_token-token.ensures aliases known)
          ∙ c.loop-i.invariant.1 aliases known,
    )

pub returns-clause-meant : goal.returns-clause-meant
returns-clause-meant c = λ aliases known.
    all_resolved aliases c.loop-i.i c.loop-i.tokens
    (omega (arith, c.loop-i-test.false, c.loop-i.auto, c.loop-i.invariant.0))
    ∙ c.loop-i.invariant.1 aliases known
