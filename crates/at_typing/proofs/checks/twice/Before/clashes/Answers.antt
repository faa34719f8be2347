use Rattle.std.proofs.Common.{◌∙◌, ap, sym, map}
use Rattle.std.specs.Prelude.{◌||◌, ◌&&◌}
use Rattle.std.specs.List.{list_any}
use Rattle.at_typing.specs.Declaring.{clashes}
use Rattle.at_typing.specs.Numbering.{numbered_view}
use Rattle.at_typing.specs.Twice.{has_key}
use Rattle.at_typing.proofs.of_attributes.Clashing.{declared_above, is_declared_above, tells_clash}
use Rattle.at_typing.proofs.Keys.{contained}
use Rattle.at_typing.proofs.checks.twice.Before.clashes.Goals as goal

pub returns-then-not-is_attribute : goal.returns-then-not-is_attribute
returns-then-not-is_attribute c = λ ds are among.
    sym (ap (λ b. b && list_any (clashes c.args.arguments c.args.classes.now (numbered_view c.args.numbered.now)) (map numbered_view ds))
    (sym c.is_attribute.ensures ∙ c.if-not-is_attribute.true))

pub returns-then-disagrees : goal.returns-then-disagrees
returns-then-disagrees c = λ ds are among.
    let b = c.args.self.now in
    let d = c.args.numbered.now in
    tells_clash c.args.arguments c.args.classes.now ds b d are among _ (sym c.is_attribute.ensures ∙ c.if-not-is_attribute.false)
    (ap (λ x. x || (has_key b.above.keys d.name d.class || is_declared_above c.args.classes.now ds d)) (sym c.disagrees.ensures ∙ c.if-disagrees.true))

pub returns-then-contains : goal.returns-then-contains
returns-then-contains c = λ ds are among.
    let b = c.args.self.now in
    let d = c.args.numbered.now in
    tells_clash c.args.arguments c.args.classes.now ds b d are among _ (sym c.is_attribute.ensures ∙ c.if-not-is_attribute.false)
    (ap (λ x. x || (has_key b.above.keys d.name d.class || is_declared_above c.args.classes.now ds d)) (sym c.disagrees.ensures ∙ c.if-disagrees.false)
    ∙ ap (λ x. x || is_declared_above c.args.classes.now ds d) (sym (contained b.above.keys d.class d.name) ∙ sym c.contains.ensures ∙ c.if-contains.true))

pub returns : goal.returns
returns c = λ ds are among.
    let b = c.args.self.now in
    let d = c.args.numbered.now in
    tells_clash c.args.arguments c.args.classes.now ds b d are among c.is_declared_above.result (sym c.is_attribute.ensures ∙ c.if-not-is_attribute.false)
    (ap (λ x. x || (has_key b.above.keys d.name d.class || is_declared_above c.args.classes.now ds d)) (sym c.disagrees.ensures ∙ c.if-disagrees.false)
    ∙ ap (λ x. x || is_declared_above c.args.classes.now ds d) (sym (contained b.above.keys d.class d.name) ∙ sym c.contains.ensures ∙ c.if-contains.false)
    ∙ sym (declared_above c.args.arguments c.args.classes.now c.is_declared_above.ensures.sound.some ds b are d.class d.name) ∙ sym c.is_declared_above.ensures.declared)
