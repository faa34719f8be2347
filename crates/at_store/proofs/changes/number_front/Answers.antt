use Rattle.std.proofs.Common.{◌∙◌, List, ap, sym, subst}
use Rattle.std.specs.List.{slice_get}
use Rattle.at_store.specs.Memory.{with_index}
use Rattle.at_store.specs.Reserving.{HasSpace}
use Rattle.at_store.specs.declared.entry.Slot.{Slot}
use Rattle.at_store.proofs.changes.number_front.Goals as goal

pub returns : goal.returns
returns c = record {
  written = λ k. ap (with_index 0) (sym (c.write_first.ensures.written k)) ∙ c.number_kids.ensures.written k;
  marks = λ k. c.number_kids.ensures.marks k ∙ c.write_first.ensures.marks k;
  room = λ node part h. subst (λ (slots : List Slot). HasSpace (slice_get slots part)) (sym (c.number_kids.ensures.slots node)) (c.write_first.ensures.room node part h);
}
