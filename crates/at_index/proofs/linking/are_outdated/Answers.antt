use Rattle.at_index.proofs.Common.{[], subst, Keeps}
use Rattle.at_index.proofs.linking.are_outdated.Goals as goal

pub returns-in-Some : goal.returns-in-Some
returns-in-Some g c h = subst (λ es. Keeps (g.T.Tells.tells c.args.teller.now) es []) c.in-Some.ensures (c.is_outdated.ensures h)
