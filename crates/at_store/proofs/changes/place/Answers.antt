use Rattle.std.proofs.Common.{◌≤◌, ℕ, List, length, sym, ap, ◌∙◌, subst}
use Rattle.at_store.specs.Memory.{kids_in, numbers_in}
use Rattle.at_store.specs.View.{stored_of}
use Rattle.at_store.proofs.of_edits.Alike.{come_alike, kids_alike}
use Rattle.at_store.proofs.changes.place.Goals as goal

pub returns : goal.returns
returns c = record {
  written = λ memory form kids same here bound room.
      let old = stored_of c.args.slab.now in
      let within : c.args.index ≤ length (kids_in (old c.args.node) c.args.part) = subst (λ (ns : List ℕ). c.args.index
      ≤ length ns) (sym (sym (kids_alike memory old same c.args.node c.args.part) ∙ ap numbers_in here)) bound in
      come_alike c.args.node c.args.part c.args.index c.args.new form kids memory old (stored_of c.insert_kid.new.slab) (stored_of c.write_up.new.slab) (stored_of c.number_inserted.new.slab) same here
      (c.insert_kid.ensures.written room within) c.write_up.ensures.written c.number_inserted.ensures.written;
  marks = λ k. c.number_inserted.ensures.marks k ∙ c.write_up.ensures.marks k ∙ c.insert_kid.ensures.marks k;
}
