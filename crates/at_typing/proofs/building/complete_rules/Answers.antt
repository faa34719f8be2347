use Rattle.std.proofs.Common.{subst, map, Err, None}
use Rattle.std.proofs.lemmas.Result.{err_from_is_err_and}
use Rattle.at_typing.specs.Building.{IsLack}
use Rattle.at_typing.specs.Numbering.{numbered_view}
use Rattle.at_typing.specs.Seen.{Tells}
use Rattle.at_typing.proofs.Built.{are_declared, same_rules, lack_nothing, built, lacking}
use Rattle.at_typing.proofs.building.complete_rules.Goals as goal

pub returns-in_err-refuse_incomplete-clause-built : goal.returns-in_err-refuse_incomplete-clause-built
returns-in_err-refuse_incomplete-clause-built c =
    let classes = c.args.classes in
    let ds = map numbered_view c.args.declared.items.items in
    let rules = c.new-rules.result in
    let same = same_rules c.args.arguments classes ds c.args.declared.names.keys c.args.meant rules c.requires.1
    c.new-rules.ensures.classes c.new-rules.ensures.attributes c.new-rules.ensures.own
    c.new-rules.ensures.inherited in
    let e = c.in_err-refuse_incomplete.field-0.0 in
    let lack = subst (λ l. Tells (IsLack rules (map numbered_view l)) (Err e)) c.deref.ensures.value c.in_err-refuse_incomplete.ensures in
    let p = err_from_is_err_and c.from_residual.result c.from_residual.ensures.1 in
    rw (p.1, p.2) (lacking c.args.arguments classes ds rules e c.requires.0 same lack)

pub returns-clause-built : goal.returns-clause-built
returns-clause-built c =
    let classes = c.args.classes in
    let ds = map numbered_view c.args.declared.items.items in
    let rules = c.new-rules.result in
    let same = same_rules c.args.arguments classes ds c.args.declared.names.keys c.args.meant rules c.requires.1
    c.new-rules.ensures.classes c.new-rules.ensures.attributes c.new-rules.ensures.own
    c.new-rules.ensures.inherited in
    built c.args.arguments classes ds rules c.requires.0 same
    (subst (λ l. IsLack rules (map numbered_view l) None) c.deref.ensures.value c.in_ok-refuse_incomplete.ensures)

pub returns-clause-complete : goal.returns-clause-complete
returns-clause-complete c =
    let classes = c.args.classes in
    let ds = map numbered_view c.args.declared.items.items in
    let rules = c.new-rules.result in
    let same = same_rules c.args.arguments classes ds c.args.declared.names.keys c.args.meant rules c.requires.1
    c.new-rules.ensures.classes c.new-rules.ensures.attributes c.new-rules.ensures.own
    c.new-rules.ensures.inherited in
    lack_nothing rules ds (are_declared c.args.arguments classes ds rules c.requires.0 same)
    (subst (λ l. IsLack rules (map numbered_view l) None) c.deref.ensures.value c.in_ok-refuse_incomplete.ensures)
