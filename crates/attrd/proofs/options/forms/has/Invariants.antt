use Rattle.std.proofs.Common.{◌≡◌, drop}
use Rattle.clap.specs.Walk.{texts}
use Rattle.attrd.specs.Forms.{names}
use Rattle.attrd.proofs.options.forms.has.Given as goal

-- whether it is among what is left is whether it is among all
abbrev pub invariant-loop-other : goal.invariant-loop-other
invariant-loop-other l =
    names l.fn.word (texts (drop l.other-index l.words)) ≡ names l.fn.word (texts l.words)
