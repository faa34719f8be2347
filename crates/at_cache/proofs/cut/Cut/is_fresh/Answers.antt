use Rattle.at_cache.proofs.Common.{◌∙◌, ◌&&◌, ap, sym, is_fresh, memory_of, standing_of}
use Rattle.at_cache.proofs.of_cut.Seeing.{fresh_seen}
use Rattle.at_cache.proofs.cut.Cut.is_fresh.Goals as goal

pub returns-then-holds : goal.returns-then-holds
returns-then-holds c =
    let x = c.args.edge.now in
    let o = memory_of c.args.self.now.entries x.slot in
    c.is_fresh.ensures ∙ sym (fresh_seen (standing_of c.args.self.now.standings.items x.slot) x o ∙ ap (λ b. b && is_fresh x o) (sym c.holds.ensures ∙ c.if-holds.true))

pub returns-else-holds : goal.returns-else-holds
returns-else-holds c =
    let x = c.args.edge.now in
    let o = memory_of c.args.self.now.entries x.slot in
    c.if-holds.false ∙ sym (fresh_seen (standing_of c.args.self.now.standings.items x.slot) x o ∙ ap (λ b. b && is_fresh x o) (sym c.holds.ensures ∙ c.if-holds.false))
