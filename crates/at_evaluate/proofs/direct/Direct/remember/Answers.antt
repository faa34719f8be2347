use Rattle.std.proofs.Common.{ℕ, Some, refl, sym, ap, ◌∙◌, subst, rules}
use Rattle.indexmap.specs.IndexMap.{insert_entry}
use Rattle.at_model.specs.Run.{Instance, Value}
use Rattle.at_model.specs.of_fixpoints.Fixpoints.{HasValue}
use Rattle.at_store.specs.Shown.{contents}
use Rattle.at_body.specs.Same.{same_instance}
use Rattle.at_body.specs.Values.{value_view}
use Rattle.at_evaluate.specs.Valued.{meaning}
use Rattle.at_evaluate.specs.Inner.{known_by}
use Rattle.at_evaluate.proofs.of_nesting.Grown.{evaluated_has, grown_as, grown_known, grown_more}
use Rattle.at_evaluate.proofs.of_nesting.InnerGains.{told_kept}
use Rattle.at_evaluate.proofs.direct.Direct.remember.Goals as goal

pub returns-in_err-see : goal.returns-in_err-see
returns-in_err-see g c = record {
  told = search rules;
  grown = grown_as c.see.ensures.found c.see.ensures.work c.see.ensures.made c.stand.ensures.grown;
}

pub returns-in_err-copy : goal.returns-in_err-copy
returns-in_err-copy g c = record {
  told = search rules;
  grown = grown_as c.see.ensures.found c.see.ensures.work c.see.ensures.made c.stand.ensures.grown;
}

pub returns-in_err-copy-2 : goal.returns-in_err-copy-2
returns-in_err-copy-2 g c = record {
  told = search rules;
  grown = grown_as c.see.ensures.found c.see.ensures.work c.see.ensures.made c.stand.ensures.grown;
}

pub returns-in_err-insert : goal.returns-in_err-insert
returns-in_err-insert g c = record {
  told = search rules;
  grown = grown_as c.in_err-insert.ensures.err refl refl
      (grown_as c.see.ensures.found c.see.ensures.work c.see.ensures.made c.stand.ensures.grown);
}

pub returns-in_err-push : goal.returns-in_err-push
returns-in_err-push g c = record {
  told = search rules;
  grown = grown_more (grown_as c.see.ensures.found c.see.ensures.work c.see.ensures.made c.stand.ensures.grown) c.in_ok-copy-2.field-0
      (c.in_ok-insert.ensures.inserted ∙ ap (λ (x : Instance ℕ). insert_entry same_instance
      c.see.new.self.found.entries x c.in_ok-copy-2.field-0) c.in_ok-copy.ensures)
      (subst (λ (v : Value ℕ). HasValue (contents c.args.basis.now.store.now) (meaning c.args.basis.now.rules.now)
      c.args.needed v) (sym c.in_ok-copy-2.ensures) (evaluated_has c.args.basis.now.rules.now
      c.args.basis.now.store.now c.requires))
      c.in_ok-stand.ensures.stands c.requires.lazy;
}

pub returns : goal.returns
returns g c =
    let copied = c.in_ok-copy-2.field-0 in
    let put = c.in_ok-insert.ensures.inserted ∙ ap (λ (x : Instance ℕ). insert_entry same_instance
    c.see.new.self.found.entries x copied) c.in_ok-copy.ensures in
    let has = subst (λ (v : Value ℕ). HasValue (contents c.args.basis.now.store.now)
    (meaning c.args.basis.now.rules.now) c.args.needed v) (sym c.in_ok-copy-2.ensures)
    (evaluated_has c.args.basis.now.rules.now
    c.args.basis.now.store.now c.requires) in
    let level = c.args.level.now in
    let is = grown_known (grown_as c.see.ensures.found c.see.ensures.work c.see.ensures.made c.stand.ensures.grown) copied put has
    c.in_ok-stand.ensures.stands c.requires.lazy in
    record {
      told = told_kept c.args.basis.now.rules.now (contents c.args.basis.now.store.now)
          (known_by (g.K.Keeper.contents c.stand.new.keeper) c.insert.new.found.entries) level
          (record { reads = level.reads; uses = c.push.new.self }) c.args.needed (value_view c.args.value.now)
          (is ∙ ap (λ (v : Value ℕ). Some v) c.in_ok-copy-2.ensures) refl c.in_ok-push.ensures.items;
      grown = grown_more (grown_as c.see.ensures.found c.see.ensures.work c.see.ensures.made c.stand.ensures.grown) copied put has
          c.in_ok-stand.ensures.stands c.requires.lazy;
    }
