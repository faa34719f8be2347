use Rattle.std.proofs.Common.{ℕ, Some, inl, inr, refl, sym, ap, ◌∙◌}
use Rattle.at_model.specs.Run.{Instance}
use Rattle.at_body.specs.Same.{same_instance}
use Rattle.at_demand.proofs.Keys.{key_passes}
use Rattle.at_evaluate.proofs.Sameness.{same_true}
use Rattle.at_demand.proofs.demand.Demand.add_use.Goals as goal

pub returns-in_ok-push-in-Some-get_full : goal.returns-in_ok-push-in-Some-get_full
returns-in_ok-push-in-Some-get_full g c =
    let found = c.args.question.now.found.entries in
    let needed = c.args.inst.now in
    let got = c.in-Some-get_full in
    let same = same_true needed got._inst.now (key_passes (same_instance needed) found got._inst.now (sym got.ensures.key)) in
    let there = got.ensures.entry ∙ ap (λ (i : Instance ℕ). Some (i, got._find.now)) (sym same) in
    inr (inl (got.position, got._find.now, there, refl, c.in_ok-push-in-Some-get_full.ensures.items))
