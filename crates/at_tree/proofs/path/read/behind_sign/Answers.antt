use Rattle.std.proofs.Common.{◌<◌, sym, ap, ◌∙◌, subst, get_or, rules}
use Rattle.at_tree.proofs.PathFronts.{behind_low}
use Rattle.at_tree.proofs.path.read.behind_sign.Goals as goal

pub split_at-requires : goal.split_at-requires
split_at-requires c =
    behind_low c.args.text.now c.utf8.text (search rules) (subst (λ n. n < 128) (sym (ap (λ ys. get_or ys 0 0) (sym c.as_bytes.ensures.value) ∙ c.if-first-sign.true)) c.requires)
