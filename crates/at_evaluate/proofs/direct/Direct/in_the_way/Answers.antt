use Rattle.std.proofs.Common.{◌≡◌, ◌∙◌, ℕ, None, ap, subst, sym, true≢false}
use Rattle.at_model.specs.Run.{Instance}
use Rattle.at_store.specs.Shown.{contents}
use Rattle.at_body.specs.Same.{same_instance}
use Rattle.at_cache.specs.Kept.{value_at}
use Rattle.at_evaluate.specs.Valued.{kept_values, meaning}
use Rattle.at_evaluate.specs.Led.{DemandsOn}
use Rattle.at_evaluate.proofs.Entered.{none_entered}
use Rattle.at_evaluate.proofs.Sameness.{same_refl}
use Rattle.at_evaluate.proofs.of_traces.Settled.{next_demanded}
use Rattle.at_evaluate.proofs.direct.Direct.in_the_way.Goals as goal

pub returns-clause-unkept : goal.returns-clause-unkept
returns-clause-unkept g c =
    subst (λ (x : Instance ℕ). kept_values (g.K.Keeper.contents c.args.keeper.now) x ≡ None) (sym c.in_ok-copy.ensures)
    (ap value_at (none_entered (g.K.Keeper.contents c.args.keeper.now c.in-Some.other.now) c.stands.result
    c.stands.ensures c.if-stands.false))

pub returns-clause-other : goal.returns-clause-other
returns-clause-other g c = λ same. absurd (true≢false (sym (same_refl c.args.needed.now) ∙
    ap (λ (x : Instance ℕ). same_instance x c.args.needed.now) (sym same ∙ c.in_ok-copy.ensures) ∙
    sym c.eq.ensures ∙ c.if-eq.false))

pub returns-clause-led : goal.returns-clause-led
returns-clause-led g c =
    subst (λ (x : Instance ℕ). DemandsOn (contents c.args.basis.now.store.now) (meaning c.args.basis.now.rules.now) c.args.needed.now x)
    (sym c.in_ok-copy.ensures)
    (next_demanded c.args.basis.now.rules.now c.args.basis.now.store.now c.args.basis.now.idle (g.K.Keeper.memories
    c.args.keeper.now) c.requires.justified (g.K.Keeper.contents c.args.keeper.now)
    (g.K.Keeper.kept_last c.args.keeper.now) c.requires.known.circular c.requires.known.right c.args.needed.now c.in-Some.other.now
    c.in-Some.ensures)
