use Rattle.std.proofs.Common.{◌≡◌, drop}
use Rattle.clap.specs.Walk.{texts}
use Rattle.attrd.specs.Forms.{are_forms}
use Rattle.attrd.proofs.options.forms.language_among.Given as goal

-- whether what is left are names of forms is whether all are
abbrev pub invariant-loop-word : goal.invariant-loop-word
invariant-loop-word l = are_forms (texts (drop l.word-index l.words)) ≡ are_forms (texts l.words)
