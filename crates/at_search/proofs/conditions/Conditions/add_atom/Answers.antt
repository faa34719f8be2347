use Rattle.std.proofs.Common.{OnOk, ap, refl, sym, ◌∙◌, subst, true}
use Rattle.std.specs.Map.{keys_of}
use Rattle.at_body.specs.Values.{value_view}
use Rattle.at_search.specs.Systems.{HasPushed, told}
use Rattle.at_search.proofs.Adding.{known_added, outside_added, placed_added}
use Rattle.at_search.proofs.KeyLemmas.{key_at, no_key}
use Rattle.at_search.proofs.conditions.Conditions.add_atom.Goals as goal

pub returns-in-Some-clause-added : goal.returns-in-Some-clause-added
returns-in-Some-clause-added g c = λ ps u.
    known_added (g.K.Known.value_of c.args.known.now) (keys_of c.args.seen.now.entries) c.push.result c.args.self.now c.push.new.self ps
    c.args.inst.now (value_view c.in-Some.value.now) u c.in-Some.ensures c.push.ensures.stays
    (subst (λ z. OnOk c.push.result (HasPushed z c.args.self.now c.push.new.self))
    (c.tells.ensures ∙ ap (told c.args.self.now.start) c.truth_of.ensures) c.push.ensures.pushed)

pub returns-in_ok-push-in-Some-get_full-clause-added : goal.returns-in_ok-push-in-Some-get_full-clause-added
returns-in_ok-push-in-Some-get_full-clause-added g c = λ ps u.
    placed_added (g.K.Known.value_of c.args.known.now) (keys_of c.args.seen.now.entries) c.push-in-Some-get_full-2.result c.args.self.now
    (record c.args.self.now { targets = c.push-in-Some-get_full.new.self }) c.push-in-Some-get_full-2.new.self ps
    c.args.inst.now c.in-Some-get_full.position u c.in_default.ensures
    (key_at c.args.seen.now.entries c.in-Some-get_full.position c.in-Some-get_full._inst.now c.in-Some-get_full._unit.now c.args.inst.now
    c.in-Some-get_full.ensures.entry c.in-Some-get_full.ensures.key)
    refl refl refl refl refl c.in_ok-push-in-Some-get_full.ensures.items
    c.push-in-Some-get_full-2.ensures.stays c.push-in-Some-get_full-2.ensures.pushed

pub returns-in-None-clause-added : goal.returns-in-None-clause-added
returns-in-None-clause-added g c = λ ps u.
    outside_added (g.K.Known.value_of c.args.known.now) (keys_of c.args.seen.now.entries) c.push-in-None.result c.args.self.now
    (record c.args.self.now { is_open = true }) c.push-in-None.new.self ps c.args.inst.now u c.in_default.ensures
    (no_key c.args.seen.now.entries c.args.inst.now (sym c.in-None.ensures.value))
    refl refl refl refl refl refl c.push-in-None.ensures.stays c.push-in-None.ensures.pushed
