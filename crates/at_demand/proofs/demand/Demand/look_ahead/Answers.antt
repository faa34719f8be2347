use Rattle.std.proofs.Common.{[]}
use Rattle.at_evaluate.specs.InParts.{held}
use Rattle.at_evaluate.proofs.of_nesting.Grown.{held_after}
use Rattle.at_demand.proofs.GrownAhead.{grown_again, grown_at_once}
use Rattle.at_demand.proofs.demand.Demand.look_ahead.Goals as goal

pub answer_at_once-requires-clause-held : goal.answer_at_once-requires-clause-held
answer_at_once-requires-clause-held g c =
    let k = g.K.Keeper.contents in
    let m = g.K.Keeper.memories in
    let old = c.args.self.now in
    let mid = c.keep_again.new.self in
    let up = grown_again c.args.rules.now c.args.store.now c.requires.idle c.args.question.now.inst (k old.keeper) (k mid.keeper) (m old.keeper)
    (m mid.keeper) old.work mid.work old.made mid.made c.requires.held old.few (g.K.Keeper.kept_last old.keeper) c.keep_again.ensures.kept
    c.keep_again.ensures.made in
    let is = held_after up in record { known = is.known; justified = is.justified }

pub returns-then-not-worth : goal.returns-then-not-worth
returns-then-not-worth g c =
    let k = g.K.Keeper.contents in
    let m = g.K.Keeper.memories in
    let old = c.args.self.now in
    let mid = c.keep_again.new.self in
    let up = grown_again c.args.rules.now c.args.store.now c.requires.idle c.args.question.now.inst (k old.keeper) (k mid.keeper) (m old.keeper)
    (m mid.keeper) old.work mid.work old.made mid.made c.requires.held old.few (g.K.Keeper.kept_last old.keeper) c.keep_again.ensures.kept
    c.keep_again.ensures.made in
    up

pub returns-in_err-told : goal.returns-in_err-told
returns-in_err-told g c =
    let k = g.K.Keeper.contents in
    let m = g.K.Keeper.memories in
    let old = c.args.self.now in
    let mid = c.keep_again.new.self in
    let up = grown_again c.args.rules.now c.args.store.now c.requires.idle c.args.question.now.inst (k old.keeper) (k mid.keeper) (m old.keeper)
    (m mid.keeper) old.work mid.work old.made mid.made c.requires.held old.few (g.K.Keeper.kept_last old.keeper) c.keep_again.ensures.kept
    c.keep_again.ensures.made in
    let new = c.answer_at_once.new.self in
    let told = c.answer_at_once.ensures in
    grown_at_once (held (k new.keeper) (m new.keeper) [] new.work new.made) up told.gains told.led told.traces told.makes

pub returns : goal.returns
returns g c =
    let k = g.K.Keeper.contents in
    let m = g.K.Keeper.memories in
    let old = c.args.self.now in
    let mid = c.keep_again.new.self in
    let up = grown_again c.args.rules.now c.args.store.now c.requires.idle c.args.question.now.inst (k old.keeper) (k mid.keeper) (m old.keeper)
    (m mid.keeper) old.work mid.work old.made mid.made c.requires.held old.few (g.K.Keeper.kept_last old.keeper) c.keep_again.ensures.kept
    c.keep_again.ensures.made in
    let new = c.answer_at_once.new.self in
    let told = c.answer_at_once.ensures in
    grown_at_once (held (k new.keeper) (m new.keeper) [] new.work new.made) up told.gains told.led told.traces told.makes
