use Rattle.std.proofs.Common.{sym, ap, ◌∙◌, subst, drop}
use Rattle.std.specs.Str.{IsCharBoundary}
use Rattle.at_tree.proofs.PlainNamesLemmas.{cut_behind_name, plain_passes}
use Rattle.at_tree.proofs.names.behind_plain.Goals as goal

pub split_at-requires : goal.split_at-requires
split_at-requires c = subst (IsCharBoundary c.args.text.now) (sym c.name_len.ensures) (cut_behind_name c.args.text.now c.utf8.text)

pub returns : goal.returns
returns c = plain_passes c.args.text.now _ (c.split_at.ensures.back ∙ ap (λ n. drop n c.args.text.now) c.name_len.ensures)
