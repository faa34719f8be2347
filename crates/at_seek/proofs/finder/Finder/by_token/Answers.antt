use Rattle.at_seek.proofs.finder.Finder.by_token.Goals as goal

pub returns : goal.returns
returns c = λ rules h over. let k = c.in_ok-key.ensures rules over in (k.0, k.1, c.in_ok-sought.ensures h)
