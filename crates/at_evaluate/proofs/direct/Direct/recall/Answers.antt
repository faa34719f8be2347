use Rattle.std.proofs.Common.{ℕ, ◌++◌, ◌∷◌, [], refl, ap, ◌∙◌, Option, subst}
use Rattle.at_model.specs.Run.{Instance}
use Rattle.at_store.specs.Shown.{contents}
use Rattle.at_body.specs.Values.{value_view}
use Rattle.at_body.specs.declared.value.Value.{Value as ValueCode}
use Rattle.at_evaluate.specs.Inner.{IsOneOf, known_by, remembered}
use Rattle.at_evaluate.specs.Valued.{kept_values}
use Rattle.at_evaluate.proofs.of_nesting.InnerGains.{told_kept}
use Rattle.at_evaluate.proofs.of_nesting.Remembered.{one_known}
use Rattle.at_evaluate.proofs.direct.Direct.recall.Goals as goal

pub returns-clause-recalled : goal.returns-clause-recalled
returns-clause-recalled g c =
    let old = c.args.level.now in
    let entries = g.K.Keeper.contents c.args.keeper.now in
    let found = c.args.self.now.found.entries in
    let is = subst (λ (o : Option ValueCode). IsOneOf (kept_values entries c.args.needed.now) (remembered found
    c.args.needed.now) o) c.in-Some.is c.in_ok-value.ensures.one in
    told_kept c.args.basis.now.rules.now (contents c.args.basis.now.store.now) (known_by entries found) old (record {
      reads = old.reads;
      uses = c.push.new.self;
    }) c.args.needed.now (value_view c.in-Some.value)
    (one_known c.args.basis.now.rules.now (contents c.args.basis.now.store.now) entries found c.requires c.args.needed.now
    (value_view c.in-Some.value) is) refl
    (c.in_ok-push.ensures.items ∙ ap (λ (i : Instance ℕ). old.uses.items ++ i ∷ []) c.in_ok-copy.ensures)
