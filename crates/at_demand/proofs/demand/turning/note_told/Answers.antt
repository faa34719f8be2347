use Rattle.std.proofs.Common.{Ok, inl, inr, ap, ◌∙◌}
use Rattle.at_demand.specs.declared.demand.searching.Resolved.{Resolved}
use Rattle.at_demand.proofs.demand.turning.note_told.Goals as goal

pub returns-in-Ok : goal.returns-in-Ok
returns-in-Ok c = record {
  frames = c.note_resolved.ensures.frames;
  awaited = c.note_resolved.ensures.awaited;
  noted = elim c.note_resolved.ensures.noted [
    | inl same ↦ inl same
    | inr (f, is, h) ↦ inr (f, c.in-Ok.is ∙ ap (λ (a : Resolved). Ok a) is, h)
  ];
}
