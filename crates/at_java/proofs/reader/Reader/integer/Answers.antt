use Rattle.std.proofs.Common.{rules, ◌≡◌, ◌∙◌, ap, to_z, of_z, w32}
use Rattle.at_model.specs.Trees.{Int}
use Rattle.at_java.proofs.Fronts.{one_left}
use Rattle.at_java.proofs.Integers.{integer_read}
use Rattle.at_java.proofs.reader.Reader.integer.Goals as goal

pub returns-clause-found : goal.returns-clause-found
returns-clause-found c =
    let e : to_z w32 (of_z w32 c.in-Some.value) ≡ c.in-Some.value = search rules in
    integer_read c.args.is_negative _ _ _ c.in-Some.value _ (one_left c.args.self.now.cursor.rest.now _ c.in-len1-up.len_at_least)
    c.in-Some.ensures.0 c.in-Some.ensures.1 (c.whole.ensures ∙ ap Int e)
