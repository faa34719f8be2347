use Rattle.std.proofs.Common.{map, sym, ap, subst, ◌∙◌, List}
use Rattle.std.proofs.lemmas.Result.{err_from_is_err_and}
use Rattle.std.specs.Str.{bytes_eq}
use lib.Chars.{codes}
use Rattle.std.proofs.lemmas.List.{map_push}
use Rattle.at_jrag.specs.Syntax.{Param}
use Rattle.at_jrag.specs.View.{param_view}
use Rattle.at_text.specs.Rows.{Row, left, is_sign}
use Rattle.at_jrag.specs.Grammar.{Opens, Listed}
use Rattle.at_jrag.specs.Runs.{Missing}
use Rattle.at_jrag.proofs.Declarations.{Wanted, wanted_first, wanted_next, param_next}
use Rattle.at_jrag.proofs.ParamStops.{BeforeParam, before_first, before_next, opens_stays, comma_stays}
use Rattle.at_jrag.proofs.reader.Reader.params.Goals as goal

pub returns-in-Some-takes_sign-clause-found : goal.returns-in-Some-takes_sign-clause-found
returns-in-Some-takes_sign-clause-found c =
    let i = c.loop-items.invariant in
    let q = ap (map param_view) c.in_ok-push.ensures.items ∙ map_push param_view c.loop-items.items.items c.in_ok-param.param in
    let o = subst (λ (x : Row). Opens c.args.name.now (left c.args.self.now.cursor.rest.now) x) (sym (ap (λ r. left r.rest.now) c.in_default.ensures.0)) c.in_ok-opens.ensures.found in (
      left c.takes_sign.new.self.rest.now,
      o,
      subst (λ (x : List Param). Listed x c.in-Some-takes_sign.end (left c.takes_sign.new.self.rest.now) (left c.takes_sign-in-loop-items.new.self.rest.now)) (sym q)
          (i.0 _ _ _ _ _ c.in_ok-param.ensures.found c.in-Some-takes_sign.ensures),
    )

pub loop-items-preserved : goal.loop-items-preserved
loop-items-preserved c =
    let i = c.loop-items.invariant in
    let q = ap (map param_view) c.in_ok-push.ensures.items ∙ map_push param_view c.loop-items.items.items c.in_ok-param.param in
    let comma = sym (ap (λ r. left r.rest.now) c.in_default-takes_sign.ensures.0) ∙ c.in_ok-expects.ensures.found in (
      subst (λ (x : List Param). Wanted x (left c.takes_sign.new.self.rest.now) (left c.expects.new.self.cursor.rest.now)) (sym q) (wanted_next _ _ _ _ _ _ i.0 c.in_ok-param.ensures.found (_, comma)),
      before_next _ (param_view c.in_ok-param.param) _ _ _ _ i.1 c.in_ok-param.ensures.found (_, comma),
    )

pub loop-items-smaller : goal.loop-items-smaller
loop-items-smaller c = let comma = sym (ap (λ r. left r.rest.now) c.in_default-takes_sign.ensures.0) ∙ c.in_ok-expects.ensures.found in param_next _ _ _ _ c.in_ok-param.ensures.found (_, comma)

pub loop-items-init : goal.loop-items-init
loop-items-init c =
    let same = ap (λ r. left r.rest.now) c.in_default.ensures.0 in (
      subst (λ (x : List Param). Wanted x (left c.takes_sign.new.self.rest.now) (left c.takes_sign.new.self.rest.now)) (sym (ap (map param_view) c.new-items.ensures.items)) (wanted_first _),
      subst (λ (x : Row). BeforeParam (bytes_eq c.args.name.now (codes "getChild"))
          (left c.args.self.now.cursor.rest.now) x) (sym same)
          (before_first c.args.name.now _ _ c.in_ok-opens.ensures.found c.in_default.ensures.1),
    )

-- ---- where it stops

pub returns-in_err-opens-clause-stays : goal.returns-in_err-opens-clause-stays
returns-in_err-opens-clause-stays c =
    let p = err_from_is_err_and c.from_residual.result c.from_residual.ensures.1 in
    rw (p.1, p.2) (opens_stays c.args.name.now c.in_err-opens.field-0.0 (left c.args.self.now.cursor.rest.now) (left c.opens.new.self.cursor.rest.now) c.in_err-opens.ensures.missing)

pub returns-in_err-param-clause-stays : goal.returns-in_err-param-clause-stays
returns-in_err-param-clause-stays c =
    let p = err_from_is_err_and c.from_residual-in_err-param.result c.from_residual-in_err-param.ensures.1 in
    rw (p.1, p.2) (c.loop-items.invariant.1.stays c.in_err-param.field-0.0 (left c.param.new.self.cursor.rest.now) c.in_err-param.ensures.missing)

pub returns-in_err-expects-clause-stays : goal.returns-in_err-expects-clause-stays
returns-in_err-expects-clause-stays c =
    let p = err_from_is_err_and c.from_residual-in_err-expects.result c.from_residual-in_err-expects.ensures.1 in
    let d = c.in_default-takes_sign.ensures in
    let m = subst (λ (x : Row). Missing (is_sign (codes ",")) c.in_err-expects.field-0.0 x
    (left c.expects.new.self.cursor.rest.now)) (ap (λ r. left r.rest.now) d.0) c.in_err-expects.ensures.missing in
    rw (p.1, p.2)
    (comma_stays _ (param_view c.in_ok-param.param) c.in_err-expects.field-0.0 _ _ _ (left c.expects.new.self.cursor.rest.now) c.loop-items.invariant.1 c.in_ok-param.ensures.found d.1 m)
