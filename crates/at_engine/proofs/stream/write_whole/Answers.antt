use Rattle.std.proofs.Common.{◌≡◌, ◌++◌, ◌∙◌, ap, sym, append_assoc, take, false, subst, ◌<◌, arith, [], refl}
use Rattle.std.proofs.lemmas.List.{take-append-drop}
use Rattle.std.proofs.KnownBytes.{Appends-nil, Appends-trans}
use Rattle.at_engine.specs.Ends.{Remembers}
use Rattle.at_engine.proofs.Remembering.{no_call, not_zero, then_calls}
use Rattle.at_engine.proofs.stream.write_whole.Goals as goal

pub loop-rest-preserved : goal.loop-rest-preserved
loop-rest-preserved g c =
    let n = c.in-Ok.n in
    let rest = c.loop-rest.rest.now in
    let (front, is, written) = c.loop-rest.invariant.written in
    let split : rest ≡ take n rest ++ c.split_at.result.1.now = sym (take-append-drop n rest) ∙ ap (λ r. take n rest ++ r) (sym c.split_at.ensures.back) in
    let some : 0 < n = omega arith in
    record {
      written = (front ++ take n rest, is ∙ ap (λ r. front ++ r) split ∙ sym (append_assoc front (take n rest) c.split_at.result.1.now), Appends-trans _ _ _ _ _ written c.in-Ok.ensures.bytes);
      failed = then_calls _ _ _ false c.loop-rest.invariant.failed (subst (Remembers _ _) (not_zero n some) c.in-Ok.ensures.failed);
    }

pub loop-rest-init : goal.loop-rest-init
loop-rest-init g c = record { written = ([], refl, Appends-nil _); failed = no_call _ }
