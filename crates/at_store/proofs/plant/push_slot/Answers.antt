use Rattle.std.proofs.Common.{rules, ◌∙◌, sym, ap}
use Rattle.std.specs.Prelude.{map}
use Rattle.at_store.specs.View.{kept_view}
use Rattle.at_store.proofs.of_planting.Gains.{at_err}
use Rattle.at_store.proofs.Written.{marks_same, written_same}
use Rattle.at_store.proofs.plant.push_slot.Goals as goal

pub returns-in_err-push : goal.returns-in_err-push
returns-in_err-push c = record {
  pushed = search rules;
  marks = λ k e. sym (marks_same c.args.slab.now c.index.result c.in-Some.entry.now c.push.new.self c.in-Some.ensures.value k) ∙ e;
  kept = at_err c.from_residual.result (written_same c.args.slab.now c.index.result c.in-Some.entry.now c.push.new.self c.in-Some.ensures.value (ap (map kept_view) c.in_err-push.ensures.kept));
}
