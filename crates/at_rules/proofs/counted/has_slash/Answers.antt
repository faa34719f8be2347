use Rattle.std.proofs.Common.{◌≡◌, ◌<◌, length, get_or, subst, sym, ◌∙◌, lit<}
use Rattle.std.proofs.lemmas.Str.Pattern.{contains_char}
use Rattle.at_model.specs.Rules.{name_by}
use Rattle.at_rules.proofs.Counting.{slash_at, slash_within, never_empty, text_there, text_absent}
use Rattle.at_rules.proofs.counted.has_slash.Goals as goal

pub returns-in-Some : goal.returns-in-Some
returns-in-Some c = λ name count is.
    let text = c.as_str.result.now in
    let same : name_by name count ≡ text = sym is ∙ sym (text_there c.args.names.now.keys c.args.number
    c.in-Some.text.now c.in-Some.ensures.key) ∙ sym c.as_str.ensures.value in
    (contains_char 47 text c.contains.result c.contains.ensures.cases (lit< tt)).1 (length name)
    (subst (λ t. length name < length t) same (slash_within name count))
    (subst (λ t. get_or t (length name) 0 ≡ 47) same (slash_at name count))

pub returns-in-None : goal.returns-in-None
returns-in-None c = λ name count is. absurd (never_empty name count (sym is
    ∙ sym (text_absent c.args.names.now.keys c.args.number c.in-None.ensures.key)))
