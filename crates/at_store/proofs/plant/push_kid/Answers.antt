use Rattle.std.proofs.Common.{rules, ◌∙◌, sym}
use Rattle.at_store.proofs.of_planting.Gains.{at_err}
use Rattle.at_store.proofs.Written.{marks_same, written_same}
use Rattle.at_store.proofs.plant.push_kid.Goals as goal

pub returns-in_err-push_in_cells : goal.returns-in_err-push_in_cells
returns-in_err-push_in_cells c = record {
  pushed = search rules;
  marks = λ k e. sym (marks_same c.args.slab.now c.index.result c.in-Some.entry.now c.push_in_cells.new.cells c.in-Some.ensures.value k) ∙ e;
  kept = at_err c.from_residual.result (written_same c.args.slab.now c.index.result c.in-Some.entry.now c.push_in_cells.new.cells c.in-Some.ensures.value c.in_err-push_in_cells.ensures.kept);
}
