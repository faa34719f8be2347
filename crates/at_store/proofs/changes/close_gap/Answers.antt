use Rattle.std.proofs.Common.{◌∙◌}
use Rattle.at_store.specs.View.{stored_of}
use Rattle.at_store.proofs.of_edits.Alike.{gap_alike}
use Rattle.at_store.proofs.changes.close_gap.Goals as goal

pub returns : goal.returns
returns c = record {
  written = λ memory same. gap_alike c.args.parent c.args.part c.args.index memory (stored_of c.args.slab.now)
      (stored_of c.remove_kid.new.slab) (stored_of c.number_removed.new.slab) same c.remove_kid.ensures.written
      c.number_removed.ensures.written;
  marks = λ k. c.number_removed.ensures.marks k ∙ c.remove_kid.ensures.marks k;
  room = λ node part h. c.number_removed.ensures.room node part (c.remove_kid.ensures.room node part h);
}
