use Rattle.std.proofs.Common.{refl, sym}
use Rattle.at_store.specs.Shown.{path}
use Rattle.at_engine.specs.Marks.{listed, mark_of}
use Rattle.at_engine.proofs.of_marks.Keys.{listed_at, listed_past}
use Rattle.at_engine.proofs.of_marks.Tallies.{kept_more, kept_no_more}
use Rattle.at_engine.proofs.marks.changing.discount_at.Goals as goal

pub returns-in-Some : goal.returns-in-Some
returns-in-Some c =
    let es = c.args.items.now.entries in
    let m = mark_of (c.in-Some.key.now, c.in-Some.node.now) in
    kept_more (path c.args.there.now.store.now) (listed es) c.args.position m c.args.sessions.now c.discount_gone.new.sessions c.args.nodes.now c.discount_gone.new.nodes
    (listed_at es c.args.position c.in-Some.key.now c.in-Some.node.now (sym c.in-Some.ensures.entry))
    (λ front back. c.discount_gone.ensures front back m (record { session' = refl; node' = refl }))

pub returns-in_default : goal.returns-in_default
returns-in_default c =
    let es = c.args.items.now.entries in
    kept_no_more (path c.args.there.now.store.now) (listed es) c.args.position c.args.sessions.now c.args.nodes.now (listed_past es c.args.position (sym c.in_default.ensures.entry))
