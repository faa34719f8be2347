use Rattle.std.proofs.Common.{◌∙◌, arith, ap, sym, length, length-append, ◌∷◌, []}
use Rattle.at_solve.proofs.SpreadingLemmas.{one_less}
use Rattle.at_solve.proofs.spreading.Spread.look_at.Goals as goal

pub returns-clause-fewer : goal.returns-clause-fewer
returns-clause-fewer c =
    let less = one_less c.args.self.now.known.items c.args.position (omega (arith, c.if-position-len.false, c.args.self.now.known.ok.0)) (sym c.is_known.ensures ∙ c.if-is_known.false) in
    let more = ap length c.in_ok-push.ensures.items in
    omega (arith, less, more, length-append c.args.self.now.waiting.items (c.args.position ∷ []))
