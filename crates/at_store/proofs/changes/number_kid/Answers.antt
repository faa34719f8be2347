use Rattle.std.proofs.Common.{◌∙◌, ap, sym}
use Rattle.at_store.specs.Memory.{with_index}
use Rattle.at_store.proofs.of_edits.Alike.{indexed_index}
use Rattle.at_store.proofs.changes.number_kid.Goals as goal

pub returns-in-Some : goal.returns-in-Some
returns-in-Some c = record {
  written = λ k. sym (ap (with_index 0) (c.write_number.ensures.written k) ∙ indexed_index c.in-Some.kid _ k _);
  marks = c.write_number.ensures.marks;
  slots = c.write_number.ensures.slots;
}
