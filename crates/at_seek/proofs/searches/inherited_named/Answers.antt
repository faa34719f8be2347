use Rattle.std.proofs.Common.{refl, sym}
use Rattle.at_seek.proofs.searches.inherited_named.Goals as goal

pub returns-in-loop-position : goal.returns-in-loop-position
returns-in-loop-position c =
    (c.loop-position.position, (c.in-Some.key.now, c.in-Some.attribute.now), sym c.in-Some.ensures.entry, refl, c.if-key-name.true, c.if-attribute.true)
