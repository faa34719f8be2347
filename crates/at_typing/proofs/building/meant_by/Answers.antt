use Rattle.std.proofs.Common.{refl, arith, ap, map}
use Rattle.std.proofs.lemmas.Result.{err_from_is_err_and}
use Rattle.at_rules.specs.RulesView.{attribute_view, own_view, inherited_view, named}
use Rattle.at_typing.proofs.InOrder.{is_about, stand_more, none_refused, refused_here, all_meant}
use Rattle.at_typing.proofs.building.meant_by.Goals as goal

pub signatures_of-requires : goal.signatures_of-requires
signatures_of-requires c = c.requires.0.class

pub loop-numbered-init : goal.loop-numbered-init
loop-numbered-init c = (
  refl,
  λ names all. record {
    attributes = ap (map (attribute_view names)) c.new-meant.ensures.attributes;
    own = ap (map own_view) c.new-meant.ensures.own;
    inherited = ap (λ es. map (inherited_view names) (named names es)) c.new-meant.ensures.inherited;
  },
)

pub loop-numbered-preserved : goal.loop-numbered-preserved
loop-numbered-preserved c =
    let classes = c.args.classes.now in
    let xs = c.args.declared.now in
    let i = c.loop-numbered.numbered-index in
    let d = c.numbered-item.result in
    let added = c.in_ok-add.ensures xs (is_about xs i d _ (omega arith) c.numbered-item.is c.in_ok-signatures.ensures c.requires.1 c.requires.0) in (
      none_refused c.args.arguments classes xs i d c.loop-numbered.meant c.add.new.meant tt
          (omega arith) c.numbered-item.is added c.loop-numbered.invariant.0,
      stand_more c.args.arguments classes xs i d c.loop-numbered.meant c.add.new.meant
          (omega arith) c.numbered-item.is c.requires.2 tt added c.loop-numbered.invariant.1,
    )

pub returns-in_err-add : goal.returns-in_err-add
returns-in_err-add c =
    let classes = c.args.classes.now in
    let xs = c.args.declared.now in
    let i = c.loop-numbered.numbered-index in
    let d = c.numbered-item.result in
    let p = err_from_is_err_and c.from_residual-in_err-add.result c.from_residual-in_err-add.ensures.1 in
    rw (p.1, p.2) (refused_here c.args.arguments classes xs i d c.loop-numbered.meant c.add.new.meant
    c.in_err-add.field-0.0
    (omega arith) c.numbered-item.is (c.in_err-add.ensures xs (is_about xs i d _ (omega arith) c.numbered-item.is
    c.in_ok-signatures.ensures c.requires.1 c.requires.0)) c.loop-numbered.invariant.0)

pub returns : goal.returns
returns c = all_meant c.args.arguments c.args.classes.now c.args.declared.now c.loop-numbered.numbered-index
    c.loop-numbered.meant (omega arith) c.loop-numbered.invariant.0 c.loop-numbered.invariant.1
