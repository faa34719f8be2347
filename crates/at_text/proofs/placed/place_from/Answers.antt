use Rattle.std.proofs.Common.{ap, ◌∙◌, ◌++◌, take}
use Rattle.std.specs.Prelude.{chars}
use Rattle.at_text.specs.Place.{place_after}
use Rattle.at_text.proofs.Placing.{place_between}
use Rattle.at_text.proofs.placed.place_from.Goals as goal

pub returns-then-from-to : goal.returns-then-from-to
returns-then-from-to c =
    let text = c.args.text.now in
    c.behind.ensures (chars (take c.args.from text)) c.requires.at
    ∙ ap (λ x. place_after (chars (take c.args.from text) ++ chars x)) c.range.ensures.value
    ∙ place_between text c.args.from c.args.to c.utf8.text c.requires.from c.if-from-to.true
