use Rattle.std.proofs.Common.{◌++◌, [], ap, sym, ◌∙◌}
use Rattle.std.specs.Str.{bytes_eq}
use Rattle.at_model.specs.Rules.{name_by}
use Rattle.at_rules.proofs.Counting.{behind_front}
use Rattle.at_rules.proofs.counted.is_by.Goals as goal

pub returns-in-Some : goal.returns-in-Some
returns-in-Some c =
    let name = c.args.name.now in
    let count = c.args.count in
    let cut = c.in-Some.ensures.cases in
    c.is_count.ensures
    ∙ ap (bytes_eq (name_by [] count)) c.as_bytes.ensures.value
    ∙ sym (behind_front name (name_by [] count) c.in-Some.rest.now)
    ∙ ap (bytes_eq (name_by name count)) (ap (λ rest. name ++ rest) cut.2 ∙ sym cut.1.1)
