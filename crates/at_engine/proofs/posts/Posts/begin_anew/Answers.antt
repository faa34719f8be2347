use Rattle.std.proofs.Common.{◌∙◌, ◌≤◌, length, arith, refl}
use Rattle.std.specs.Prelude.{slice_get}
use Rattle.at_store.specs.Shown.{path}
use Rattle.at_engine.proofs.of_turns.Beginning.{all_begun_anew, next_renewed}
use Rattle.at_engine.proofs.posts.Posts.begin_anew.Goals as goal

pub loop-position-preserved : goal.loop-position-preserved
loop-position-preserved c =
    let before = c.loop-position.self.items.items in
    let after = c.renew.new.self.items.items in (
      c.renew.ensures.count ∙ c.loop-position.invariant.0,
      next_renewed (path c.args.there.now.store.now) c.loop-position.position c.args.self.now.items.items before after (slice_get before c.loop-position.position) refl c.renew.ensures.renewed c.renew.ensures.none c.loop-position.invariant.1,
    )

pub returns-clause-items : goal.returns-clause-items
returns-clause-items c =
    let past : length c.args.self.now.items.items ≤ c.loop-position.position = omega (arith, c.loop-position-test.false, c.len-position-end.ensures, c.args.self.now.items.ok.0) in
    all_begun_anew (path c.args.there.now.store.now) c.loop-position.position c.args.self.now.items.items c.loop-position.self.items.items past c.loop-position.invariant.1
