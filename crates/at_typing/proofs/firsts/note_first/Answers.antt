use Rattle.std.proofs.Common.{sym, ◌∙◌}
use Rattle.std.proofs.lemmas.Result.{on_ok_weaker}
use Rattle.at_typing.proofs.FirstValues.{noted_before, noted_now}
use Rattle.at_typing.proofs.firsts.note_first.Goals as goal

pub returns-then-contains_key : goal.returns-then-contains_key
returns-then-contains_key g c = noted_before g.K.PartialEq.eq g.met.K.Eq.laws c.args.map.now c.args.key c.args.value (sym c.contains_key.ensures ∙ c.if-contains_key.true)

pub returns : goal.returns
returns g c = on_ok_weaker c.put.result (λ updates. noted_now g.K.PartialEq.eq g.met.K.Eq.laws c.args.map.now c.args.key
    c.args.value c.put.new.map (sym c.contains_key.ensures ∙ c.if-contains_key.false) updates.0) c.put.ensures.updates
