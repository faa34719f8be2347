use Rattle.std.proofs.Common.{List, ℕ, sym, ◌∙◌, subst}
use Rattle.std.proofs.lemmas.List.{take_all}
use Rattle.at_model.specs.Run.{Instance}
use Rattle.at_model.specs.Meaning.{Among}
use Rattle.at_search.proofs.KeyLemmas.{is_key, same_key, other_key}
use Rattle.at_search.proofs.keys.holds.Goals as goal

pub returns-then-len-gt-FEW : goal.returns-then-len-gt-FEW
returns-then-len-gt-FEW g c = is_key c.contains_key.result c.args.map.now.entries c.args.inst.now c.contains_key.ensures

pub loop-key-init : goal.loop-key-init
loop-key-init g c = λ h. h

pub loop-key-preserved : goal.loop-key-preserved
loop-key-preserved g c =
    other_key c.as_slice-keys.result.now c.loop-key.key-index c.key-item.result c.args.inst.now c.loop-key-test.true
    c.key-item.is (sym c.eq.ensures ∙ c.if-eq.false) c.loop-key.invariant

pub returns-then-eq : goal.returns-then-eq
returns-then-eq g c =
    subst (Among c.args.inst.now) (c.as_slice-keys.ensures ∙ c.keys.ensures.rest)
    (same_key c.as_slice-keys.result.now c.loop-key.key-index c.key-item.result c.args.inst.now c.loop-key-test.true c.key-item.is
    (sym c.eq.ensures ∙ c.if-eq.true))

pub returns : goal.returns
returns g c =
    subst (λ (ks : List (Instance ℕ)). Among c.args.inst.now ks → ⊥)
    (take_all c.loop-key.key-index c.as_slice-keys.result.now c.loop-key-test.false ∙ c.as_slice-keys.ensures ∙ c.keys.ensures.rest)
    c.loop-key.invariant
