use Rattle.std.proofs.Common.{◌+◌, ◌≤◌, length}
use Rattle.std.specs.Prelude.{drop}
use Rattle.at_model.specs.Meaning.{Among}
use Rattle.at_solve.specs.Spreading.{Spreads, unknown}
use Rattle.at_solve.proofs.spreading.Spread.look_at_all.Given as goal

abbrev pub invariant-loop-user : goal.invariant-loop-user
invariant-loop-user l = record {
  spreads : Spreads l.system (λ u. Among u l.users) l.fn.self.known.items l.fn.self.waiting.items
      → Spreads l.system (λ u. Among u (drop l.user-index l.users)) l.self.known.items l.self.waiting.items;
  fewer : unknown l.self.known.items + (unknown l.self.known.items + length l.self.waiting.items)
      ≤ unknown l.fn.self.known.items + (unknown l.fn.self.known.items + length l.fn.self.waiting.items);
}
