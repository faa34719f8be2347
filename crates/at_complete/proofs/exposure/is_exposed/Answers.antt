use Rattle.std.proofs.Common.{ap, subst, sym, ◌∙◌}
use Rattle.std.specs.Prelude.{is_some}
use Rattle.at_complete.specs.Completing.{LacksInherited, Tells, walk_for}
use Rattle.at_complete.proofs.Attributes.{not_inherited, tells_met}
use Rattle.at_complete.proofs.exposure.is_exposed.Goals as goal

pub returns-then-not-is_inherited : goal.returns-then-not-is_inherited
returns-then-not-is_inherited c = (c.requires.1, not_inherited c.args.rules.now c.args.attribute (sym c.is_inherited.ensures ∙ c.if-not-is_inherited.true))

pub returns : goal.returns
returns c =
    let rules = c.args.rules.now in
    let walks = c.note_exposed.new.exposed in
    let found = c.get.ensures.value ∙ ap (λ n. walk_for n walks) c.name_of-name.ensures in
    let met = c.in_ok-note_exposed.ensures in (
      met.1,
      subst (λ b. Tells b (LacksInherited rules c.args.attribute)) (sym c.is_among.ensures)
          (tells_met rules c.args.attribute walks _ c.class_of.result (sym found) (ap is_some found ∙ met.0) met.1 (sym c.is_inherited.ensures ∙ c.if-not-is_inherited.false) c.class_of.ensures),
    )
