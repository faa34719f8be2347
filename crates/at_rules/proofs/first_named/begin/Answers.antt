use Rattle.std.proofs.Common.{◌∙◌, ◌++◌, ◌∷◌, [], ap, sym}
use Rattle.std.specs.Prelude.{cond, nat_eq}
use Rattle.indexmap.proofs.CallerLemmas.{insert_entry-new}
use Rattle.at_rules.proofs.FirstNaming.{none_where}
use Rattle.at_rules.proofs.first_named.begin.Goals as goal

pub returns-clause-kept : goal.returns-clause-kept
returns-clause-kept c =
    let ps = c.args.begins.now.entries in
    let none = sym c.contains_key.ensures ∙ c.if-contains_key.false in
    c.in_ok-insert.ensures.entries
    ∙ insert_entry-new nat_eq c.args.begins.now c.args.name c.args.position (none_where _ none)
    ∙ ap (λ b. cond b ps (ps ++ (c.args.name, c.args.position) ∷ [])) (sym none)
