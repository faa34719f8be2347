use Rattle.std.proofs.Common.{◌≤◌, length, arith, subst, sym}
use Rattle.at_store.specs.Shown.{path}
use Rattle.at_engine.specs.Marks.{listed}
use Rattle.at_engine.specs.Tallied.{AreTallied}
use Rattle.at_engine.proofs.of_marks.Keys.{listed_all}
use Rattle.at_engine.proofs.of_marks.Tallies.{kept_first, kept_last}
use Rattle.at_engine.proofs.marks.changing.discount_all_gone.Goals as goal

pub loop-position-init : goal.loop-position-init
loop-position-init c =
    λ is. subst (λ l. AreTallied l c.args.sessions.now c.args.nodes.now) (sym (kept_first (path c.args.there.now.store.now) (listed c.args.items.now.entries))) is

pub loop-position-preserved : goal.loop-position-preserved
loop-position-preserved c = λ is. c.discount_at.ensures (c.loop-position.invariant is)

pub returns : goal.returns
returns c =
    let ms = listed c.args.items.now.entries in
    let past : length ms ≤ c.loop-position.position = listed_all c.args.items.now.entries c.loop-position.position (omega (arith, c.loop-position-test.false, c.len-position-end.ensures.len)) in
    λ is. subst (λ l. AreTallied l c.loop-position.sessions c.loop-position.nodes) (kept_last (path c.args.there.now.store.now) ms c.loop-position.position past) (c.loop-position.invariant is)
