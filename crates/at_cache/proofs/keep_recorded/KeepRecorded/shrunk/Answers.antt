use Rattle.at_cache.proofs.Common.{sym, ◌∙◌, IfOk-weaker}
use Rattle.at_cache.proofs.of_cut.Shed.{shrinks_then}
use Rattle.at_cache.proofs.keep_recorded.KeepRecorded.shrunk.Goals as goal

pub returns : goal.returns
returns g c =
    IfOk-weaker c.folded.result _ _
    (λ r next. shrinks_then (record { kept = λ i k h. sym (c.shed.ensures.kept i) ∙ h; stay = c.shed.ensures.stay }) next)
    c.folded.ensures
