use Rattle.std.proofs.Common.{◌∙◌}
use Rattle.at_start.proofs.WholeLemmas.{set_again, spare_set}
use Rattle.attrd.proofs.start_asked.Goals as goal

pub returns-clause-spare : goal.returns-clause-spare
returns-clause-spare g c none =
    let made = c.in_ok-engine.engine in
    let set = c.set_most.new.self in
    spare_set g.K.Keeper.contents made set (set_again made c.set_slice.new.self set c.set_slice.ensures.rest c.set_most.ensures.rest)
    (c.set_most.ensures.most ∙ c.most_asked.ensures ∙ none) c.in_ok-engine.ensures.spare
