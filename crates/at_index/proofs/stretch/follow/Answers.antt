use Rattle.at_index.proofs.Common.{map, refl, loc_view}
use Rattle.at_index.proofs.of_runs.Following.{follows_more, follows_none}
use Rattle.at_index.proofs.Locations.{first_of}
use Rattle.at_index.proofs.stretch.follow.Goals as goal

pub loop-location-init : goal.loop-location-init
loop-location-init c = follows_none c.args.seats.now c.args.run c.args.behind (map loc_view c.args.locations.now)

pub loop-location-preserved : goal.loop-location-preserved
loop-location-preserved c =
    let l = c.loop-location in
    let x = c.in-Some.location.now in
    let ys = c.in-Some.others.now in
    let first = first_of c.node.result x l.rest.now ys c.node.ensures c.in-Some.ensures.cases.0 c.in-Ok.ensures in
    follows_more c.requires l.invariant first c.in-Some-checked_add.ensures.1 (c.if-not-is_at.ensures refl)
