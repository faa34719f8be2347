use Rattle.std.proofs.Common.{◌≤◌, length, sym, ◌∙◌, subst}
use Rattle.at_tree.proofs.Pieces.{not_true}
use Rattle.at_tree.proofs.PlainNamesLemmas.{plain}
use Rattle.at_tree.proofs.names.is_plain_name.Goals as goal

pub returns : goal.returns
returns c = λ free.
    let word = c.args.word.now in
    plain word (subst (λ n. length word ≤ n) c.name_len.ensures c.if-name_len-word.false) (sym c.begins_name.ensures ∙ c.if-not-begins_name.false) (sym c.is_reserved.ensures ∙ not_true c.is_reserved.result free)
