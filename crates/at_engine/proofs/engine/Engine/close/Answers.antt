use Rattle.std.proofs.Common.{ap}
use Rattle.at_engine.specs.Engines.{marks_of}
use Rattle.at_engine.specs.Turning.{told_of}
use Rattle.at_engine.specs.declared.posts.Posted.{Posted}
use Rattle.at_engine.proofs.of_turns.Openings.{sound_gone, spare_gone}
use Rattle.at_engine.proofs.Positions.{same_there}
use Rattle.at_engine.proofs.engine.Engine.close.Goals as goal

pub returns : goal.returns
returns g c = record {
  told = λ p there.
      let e = c.args.self.now in
      ap (λ (q : Posted). told_of q e.version c.args.form) (same_there e.posts.items.items c.args.position c.remove-posted.result p c.remove-posted.ensures.posted there);
  items = c.remove-posted.ensures.items;
  rest = λ i. record c.args.self.now { posts = record c.remove-posted.new.self { count = c.remove-posted.ensures.count i } };
  spare = λ it.
      let e = c.args.self.now in record {
        unbounded = it.unbounded;
        spare = spare_gone e.rules e.store (marks_of e) e.posts c.remove-posted.new.self _ c.args.position c.requires.within
            c.remove-posted.ensures.items it.spare;
      };
  sound =
      let e = c.args.self.now in
      sound_gone e.rules e.store (marks_of e) e.posts c.remove-posted.new.self _ c.args.position c.requires.within c.remove-posted.ensures.items c.remove-posted.ensures.count c.requires.sound;
}
