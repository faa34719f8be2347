use Rattle.at_store.specs.Shown.{contents}
use Rattle.at_rules.specs.Bodies.{body_view}
use Rattle.at_body.specs.Comparing.{looks}
use Rattle.at_body.proofs.TextsCompared.{texts_noted}
use Rattle.at_body.proofs.trial.Trial.same_texts.Goals as goal

pub returns : goal.returns
returns c =
    let (v, w, is, left, right) = c.in-Some.ensures in
    texts_noted (contents c.args.store.now) (body_view c.args.left.now) (body_view c.args.right.now) c.args.self.now c.in-Some.found.same v w (looks c.in-Some.found.left) (looks c.in-Some.found.right) c.note.new.reads c.note-2.new.reads c.in_ok-note.ensures c.in_ok-note-2.ensures is left right
