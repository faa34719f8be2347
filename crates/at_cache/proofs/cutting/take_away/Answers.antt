use Rattle.at_cache.proofs.Common.{ap, ◌∙◌, Answers, Aside, edges_to}
use Rattle.at_cache.proofs.Drawers.{begins_named}
use Rattle.at_cache.proofs.of_cut.Passing.{takes_away}
use Rattle.at_cache.proofs.cutting.take_away.Goals as goal

pub returns : goal.returns
returns g c =
    let (start, over, begins) = begins_named c.args.readers.now c.args.places.now c.requires.named c.begin_named-first.ensures in
    record {
      takes = takes_away (Answers (goal.F-post g c.args.touched.now)) (edges_to c.args.readers.now) c.args.cut.now c.begin_named-first.new.cut c.forget_all.new.cut start
          c.begin_named-first.result begins over c.forget_all.ensures.works c.forget_all.ensures.passes c.requires.idle;
      len = c.forget_all.ensures.len ∙ ap (λ (a : Aside). a.len) over.aside;
    }
