use Rattle.std.proofs.Common.{ap, sym, ◌∙◌}
use Rattle.std.specs.Str.{bytes_eq}
use Rattle.at_model.specs.Rules.{name_by}
use Rattle.at_rules.proofs.Counting.{some_text, text_there, text_absent}
use Rattle.at_rules.proofs.counted.is_there.Goals as goal

pub returns-in-Some : goal.returns-in-Some
returns-in-Some c =
    c.is_by.ensures
    ∙ ap (bytes_eq (name_by c.args.name.now c.args.count)) (c.as_str.ensures.value
    ∙ text_there c.args.names.now.keys c.args.number c.in-Some.text.now c.in-Some.ensures.key)

pub returns-in-None : goal.returns-in-None
returns-in-None c =
    sym (some_text c.args.name.now c.args.count)
    ∙ ap (bytes_eq (name_by c.args.name.now c.args.count)) (text_absent c.args.names.now.keys c.args.number
    c.in-None.ensures.key)
