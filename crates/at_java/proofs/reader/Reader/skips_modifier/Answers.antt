use Rattle.std.proofs.Common.{sym, ap, ◌∙◌}
use Rattle.at_text.specs.Rows.{next_is}
use Rattle.at_java.specs.Declarations.{is_modifier}
use Rattle.at_java.proofs.Fronts.{none_left, one_left, shorter, modifier_taken, modifiers_end}
use Rattle.at_java.proofs.reader.Reader.skips_modifier.Goals as goal

pub returns-in-len1-up : goal.returns-in-len1-up
returns-in-len1-up c =
    let r = one_left c.args.self.now.cursor.rest.now _ c.in-len1-up.len_at_least in
    (modifier_taken _ _ _ r (sym c.is_modifier.ensures ∙ c.if-is_modifier.true), shorter _ _ _ r)

pub returns-in_default : goal.returns-in_default
returns-in_default c = modifiers_end _ (ap (next_is is_modifier) (none_left c.args.self.now.cursor.rest.now c.in_default.len_below))

pub returns-in_default-2 : goal.returns-in_default-2
returns-in_default-2 c =
    let r = one_left c.args.self.now.cursor.rest.now _ c.in-len1-up.len_at_least in
    modifiers_end _ (ap (next_is is_modifier) r ∙ sym c.is_modifier.ensures ∙ c.if-is_modifier.false)
