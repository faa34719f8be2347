use Rattle.std.proofs.Common.{◌∙◌}
use Rattle.at_store.specs.View.{stored_of}
use Rattle.at_store.proofs.of_edits.Alike.{put_alike}
use Rattle.at_store.proofs.changes.put_below.Goals as goal

pub returns : goal.returns
returns c = record {
  written = λ memory same. put_alike c.args.parent c.args.part c.args.index c.args.new _ memory
      (stored_of c.args.slab.now) (stored_of c.set_kid.new.slab) (stored_of c.write_up.new.slab)
      (stored_of c.write_number.new.slab) same
      c.set_kid.ensures.written c.write_up.ensures.written c.write_number.ensures.written;
  marks = λ k. c.write_number.ensures.marks k ∙ c.write_up.ensures.marks k ∙ c.set_kid.ensures.marks k;
}
