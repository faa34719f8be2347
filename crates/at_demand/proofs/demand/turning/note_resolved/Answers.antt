use Rattle.std.proofs.Common.{inl, inr, ap}
use Rattle.at_demand.proofs.demand.turning.note_resolved.Goals as goal

pub returns-in-Spoilt : goal.returns-in-Spoilt
returns-in-Spoilt c = record {
  frames = ap (λ fs. fs.items) c.note.ensures.frames;
  awaited = c.note.ensures.awaited;
  noted = elim c.note.ensures.noted [ inl same ↦ inl same | inr h ↦ inr (c.in-Spoilt.fault, c.in-Spoilt.is, h) ];
}
