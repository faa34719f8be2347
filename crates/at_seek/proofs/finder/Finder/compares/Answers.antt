use Rattle.at_rules.specs.Bodies.{body_view}
use Rattle.at_seek.specs.Finding.{kinds_in}
use Rattle.at_seek.proofs.Found.{begins_token, begins_turned}
use Rattle.at_seek.proofs.finder.Finder.compares.Goals as goal

pub returns-in-Some : goal.returns-in-Some
returns-in-Some c = λ rules h over.
    begins_token rules (kinds_in c.args.scope.now h) c.args.element c.in-Some.token (body_view c.args.one.now) (body_view c.args.other.now) c.by_token.result
    c.in-Some.ensures (c.by_token.ensures rules h over)

pub returns : goal.returns
returns c = λ rules h over.
    begins_turned rules (kinds_in c.args.scope.now h) c.args.element c.in_ok-token.token (body_view c.args.one.now) (body_view c.args.other.now)
    c.by_token-2.result c.in_ok-token.ensures (c.by_token-2.ensures rules h over)
