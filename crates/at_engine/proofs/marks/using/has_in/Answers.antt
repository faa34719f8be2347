use Rattle.std.proofs.Common.{◌∙◌, ap, sym}
use Rattle.at_engine.specs.Marks.{has_mark}
use Rattle.at_engine.proofs.of_marks.Marking.{alone}
use Rattle.at_engine.proofs.marks.using.has_in.Goals as goal

pub returns-in-FromMark : goal.returns-in-FromMark
returns-in-FromMark g c =
    let p = has_mark (g.M.Lookup.marks c.args.marks.now) c.args.session in
    rw c.in-FromMark.is (c.has_mark.ensures ∙ ap p c.as_str.ensures.value ∙ sym (alone p _))
