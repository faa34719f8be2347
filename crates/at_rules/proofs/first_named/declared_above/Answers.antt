use Rattle.std.proofs.Common.{◌∙◌, ◌-◌, ◌+◌, ap, sym, arith, length}
use Rattle.std.specs.Prelude.{◌&&◌, nat_eq, position}
use Rattle.std.specs.Map.{keys_of}
use Rattle.at_model.specs.Classes.{chain, chain_within, parent_of}
use Rattle.at_rules.specs.Upward.{earlier, declared_in}
use Rattle.at_rules.proofs.UpwardLemmas.{found_above, found_on_top, found_at_end}
use Rattle.at_rules.proofs.first_named.declared_above.Goals as goal

pub returns-in_default : goal.returns-in_default
unfolding chain
returns-in_default g c =
    let ks = keys_of c.args.keys.now.entries in
    let classes = c.args.classes.now in
    let n = length classes - c.loop-step.step in
    sym (c.loop-step.invariant ∙ ap (λ o. earlier c.loop-step.found (declared_in ks c.args.name (chain_within n classes o))) c.in_default.is ∙ found_on_top ks c.args.name classes n c.loop-step.found)

pub loop-step-preserved : goal.loop-step-preserved
loop-step-preserved g c =
    let ks = keys_of c.args.keys.now.entries in
    let name = c.args.name in
    let classes = c.args.classes.now in
    let n = length classes in
    let i = c.loop-step.step in
    let found = c.loop-step.found in
    let rest = declared_in ks name (chain_within (n - (i + 1)) classes (parent_of classes c.in-Some.class)) in
    c.loop-step.invariant
    ∙ ap (λ o. earlier found (declared_in ks name (chain_within (n - i) classes o))) c.in-Some.is
    ∙ found_above ks name classes n i c.in-Some.class found (omega arith)
    ∙ ap (λ p. earlier (earlier found p) rest) (ap (λ j. position (λ k. nat_eq j k.0 && nat_eq name k.1) ks) (sym c.index.ensures) ∙ sym c.get_index_of.ensures.index)
    ∙ ap (λ p. earlier p rest) (sym c.earlier-found.ensures)
    ∙ ap (λ o. earlier c.earlier-found.result (declared_in ks name (chain_within (n - (i + 1)) classes o))) (sym c.parent-next.ensures.found)

pub returns : goal.returns
unfolding chain
returns g c =
    let ks = keys_of c.args.keys.now.entries in
    let classes = c.args.classes.now in
    sym (c.loop-step.invariant ∙ found_at_end ks c.args.name classes (length classes) c.loop-step.step c.loop-step.next c.loop-step.found (omega arith))
