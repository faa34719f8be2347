use Rattle.std.proofs.Common.{◌++◌, ap, sym, ◌∙◌, encode_utf8_all}
use Rattle.at_tree.proofs.Passing.{cut_boundary, cut_front, cut_back}
use Rattle.at_tree.proofs.runs.cut.Goals as goal

pub split_at-requires : goal.split_at-requires
split_at-requires c = let p = c.past-rest.ensures in cut_boundary c.args.text.now (encode_utf8_all p.0) c.past-rest.result.now p.1 c.past-rest.utf8

pub returns : goal.returns
returns c =
    let p = c.past-rest.ensures in
    let front = encode_utf8_all p.0 in (
      p.0,
      c.split_at.ensures.front ∙ cut_front c.args.text.now front c.past-rest.result.now p.1,
      p.1 ∙ ap (λ l. front ++ l) (sym (c.split_at.ensures.back ∙ cut_back c.args.text.now front c.past-rest.result.now p.1)),
      p.2.0,
    )
