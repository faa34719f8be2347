use Rattle.at_cache.proofs.Common.{◌∙◌, ap, sym, memory_of, is_alive}
use Rattle.at_cache.proofs.of_cut.Alive.{not_told, told_as}
use Rattle.at_cache.proofs.cut.CutTells.tells_of.Goals as goal

pub returns-then-not-is_alive : goal.returns-then-not-is_alive
returns-then-not-is_alive c =
    let k = c.args.self.now in
    let stands = rw c.as_slice.ensures.value at c.standing_at.ensures in
    let off = ap is_alive (sym stands) ∙ sym c.is_alive.ensures ∙ c.if-not-is_alive.true in
    sym (not_told k.standings.items (memory_of k.entries) c.args.edge.now off)

pub returns : goal.returns
returns c =
    let k = c.args.self.now in
    let stands = rw c.as_slice.ensures.value at c.standing_at.ensures in
    let on = ap is_alive (sym stands) ∙ sym c.is_alive.ensures ∙ c.if-not-is_alive.false in
    c.is_current.ensures ∙ sym (told_as k.standings.items (memory_of k.entries) c.args.edge.now on)
