use Rattle.std.proofs.Common.{◌≡◌, true, sym, ap, ◌∙◌, subst, take, drop, rules}
use Rattle.std.specs.Str.{IsCharBoundary}
use Rattle.at_tree.specs.PlainNames.{begins_name, begins_plain}
use Rattle.at_tree.proofs.PlainNamesLemmas.{cut_behind_name, plain_before}
use Rattle.at_tree.proofs.names.word_first.Goals as goal

pub split_at-requires : goal.split_at-requires
split_at-requires c = subst (IsCharBoundary c.args.text.now) (sym c.name_len.ensures) (cut_behind_name c.args.text.now c.utf8.text)

pub returns : goal.returns
returns c =
    let text = c.args.text.now in
    let begins : begins_name c.split_at.result.0.now ≡ true = search rules in
    let ends : begins_plain c.split_at.result.1.now ≡ true = search rules in
    plain_before text _ _ (c.split_at.ensures.front ∙ ap (λ n. take n text) c.name_len.ensures) (c.split_at.ensures.back ∙ ap (λ n. drop n text) c.name_len.ensures) begins ends
