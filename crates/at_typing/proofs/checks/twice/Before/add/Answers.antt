use Rattle.std.proofs.Common.{sym, ◌∙◌}
use Rattle.at_typing.proofs.of_attributes.Clashing.{adds_none, adds_one}
use Rattle.at_typing.proofs.checks.twice.Before.add.Goals as goal

pub returns-then-not-is_attribute : goal.returns-then-not-is_attribute
returns-then-not-is_attribute c = adds_none c.args.arguments c.args.classes.now c.args.numbered.now c.args.self.now (sym c.is_attribute.ensures ∙ c.if-not-is_attribute.true)

pub returns : goal.returns
returns c = adds_one c.args.arguments c.args.classes.now c.insert_line.ensures.sound.some c.args.numbered.now c.args.self.now
    _ (sym c.is_attribute.ensures ∙ c.if-not-is_attribute.false) c.in_ok-note_compared.ensures
    c.in_ok-insert.ensures c.in_ok-insert_line.ensures.inserted
