use Rattle.std.proofs.Common.{◌<◌, length, subst}
use Rattle.at_seek.proofs.Found.{cast_kind}
use Rattle.at_seek.proofs.finder.Finder.cast.Goals as goal

pub returns-then-index-len : goal.returns-then-index-len
returns-then-index-len c = λ rules s e over kind.
    let less = subst (λ n. c.index.result < n) c.len.ensures.len c.if-index-len.true in
    cast_kind rules c.args.self.now s e c.args.class c.args.target over (subst (λ i. i < length c.args.self.now.classes.now) c.index.ensures less) kind
