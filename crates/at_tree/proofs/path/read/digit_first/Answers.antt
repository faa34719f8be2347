use Rattle.std.proofs.Common.{sym, ap, ◌∙◌, get_or, rules}
use Rattle.std.specs.Char.{is_ascii_digit}
use Rattle.at_tree.proofs.PathFronts.{behind_digit}
use Rattle.at_tree.proofs.path.read.digit_first.Goals as goal

pub split_at-requires : goal.split_at-requires
split_at-requires c = behind_digit c.args.text.now c.utf8.text (search rules) (ap (λ ys. is_ascii_digit (get_or ys 0 0)) (sym c.as_bytes.ensures.value) ∙ sym c.is_ascii_digit.ensures.value ∙ c.if-is_ascii_digit.true)
