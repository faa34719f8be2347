use Rattle.at_class.specs.Keys.{key_view}
use Rattle.at_rules.specs.Bodies.{bodies_view, body_view, sought_view}
use Rattle.at_seek.specs.Finding.{kinds_in}
use Rattle.at_seek.proofs.Found.{begins_call}
use Rattle.at_seek.proofs.finder.Finder.asks.Goals as goal

pub returns : goal.returns
returns c = λ rules h over.
    begins_call rules (kinds_in c.args.scope.now h) (key_view c.in_ok-key.key) (sought_view c.in_ok-sought.sought) c.args.element c.args.attribute
    (body_view c.args.node.now) (body_view c.in_ok-text.text.now) (bodies_view c.args.arguments.now) (c.is_element.ensures c.if-not-is_element.false)
    c.in_ok-text.ensures (c.in_ok-sought.ensures h) (c.in_ok-key.ensures rules over)
