use Rattle.std.proofs.Common.{sym, ap, ◌∙◌, arith}
use Rattle.std.specs.List.{slice_get}
use Rattle.at_model.proofs.PathsWritten.{component_named}
use Rattle.at_store.proofs.Parts.{no_parts}
use Rattle.at_store.proofs.walks.part_of.Goals as goal

pub returns-then-index-len-clause-found : goal.returns-then-index-len-clause-found
returns-then-index-len-clause-found c = sym (ap (λ xs. slice_get xs c.args.part) (no_parts c.args.classes.now c.args.class (omega (arith, c.if-index-len.true, c.len.ensures.len, c.index.ensures))))

pub returns-clause-found : goal.returns-clause-found
returns-clause-found c = c.part_in.ensures ∙ ap (λ xs. slice_get xs c.args.part) c.parts.ensures

pub returns-then-index-len-clause-named : goal.returns-then-index-len-clause-named
returns-then-index-len-clause-named c p is = component_named c.args.classes.now c.len.ensures.sound c.args.class c.args.part p is

pub returns-clause-named : goal.returns-clause-named
returns-clause-named c p is = component_named c.args.classes.now c.len.ensures.sound c.args.class c.args.part p is

pub returns-then-index-len-clause-apart : goal.returns-then-index-len-clause-apart
returns-then-index-len-clause-apart c = c.len.ensures.apart

pub returns-clause-apart : goal.returns-clause-apart
returns-clause-apart c = c.len.ensures.apart
