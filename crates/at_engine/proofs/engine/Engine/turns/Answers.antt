use Rattle.std.proofs.Common.{◌∙◌}
use Rattle.at_engine.proofs.of_keeping.KeptTyped.{basis_held, sound_typed}
use Rattle.at_engine.proofs.of_turns.Bounding.{few_found, turns_found}
use Rattle.at_engine.proofs.engine.Engine.turns.Goals as goal

pub returns-clause-turns : goal.returns-clause-turns
returns-clause-turns g c =
    let e = c.args.self.now in
    c.turns.ensures ∙ turns_found e.store c.args.number e.posts.items.items

pub returns-clause-few : goal.returns-clause-few
returns-clause-few g c q is =
    let e = c.args.self.now in
    let h = c.requires.sound in
    let basis = basis_held g.K.Keeper.contents g.K.Keeper.memories e h.held h.typed in
    few_found e.rules e.store basis (g.K.Keeper.contents e.demand.keeper)
    (sound_typed e.rules e.store basis (g.K.Keeper.contents e.demand.keeper) h.held.right.values h.held.typed)
    c.args.number e.posts.items.items h.held.posted q is
