use Rattle.std.proofs.Common.{◌≡◌, ◌+◌, ◌<◌, map, drop, ap, sym, ◌∙◌, arith, length, Some, suc, cond, refl}
use Rattle.std.proofs.lemmas.List.{drop_all}
use Rattle.std.proofs.lemmas.Option.{slice_get_read}
use Rattle.at_kinds.specs.Judging.{misfit}
use Rattle.at_kinds.specs.Typed.{typed_view}
use Rattle.at_kinds.proofs.Parts.{misfit_more, misfit_none}
use Rattle.at_kinds.proofs.typing.Scope.misfit.Goals as goal

pub returns-in_default : goal.returns-in_default
returns-in_default c =
    let i = c.loop-i.i in
    sym (c.loop-i.invariant ∙ misfit_none c.args.self.now.arguments c.args.self.now.classes.now
    (map typed_view (drop i c.args.arguments.now)) c.args.params.now i (sym c.param_at.ensures ∙ c.in_default.is))

pub returns-then-not-is_argument : goal.returns-then-not-is_argument
returns-then-not-is_argument c =
    let classes = c.args.self.now.classes.now in
    let ts = c.args.arguments.now in
    let ps = c.args.params.now in
    let i = c.loop-i.i in
    let t = c.index-arguments-i.result in
    let less : i < length ts = omega arith in
    sym (c.loop-i.invariant
    ∙ misfit_more c.args.self.now.arguments classes ts ps i t c.in-Some.param
    (slice_get_read ts (length ts) i t refl less c.index-arguments-i.is) (sym c.param_at.ensures ∙ c.in-Some.is)
    ∙ ap (λ b. cond b (misfit c.args.self.now.arguments classes (map typed_view (drop (suc i) ts)) (drop (suc i) ps))
    (Some t.at)) (sym c.is_argument.ensures ∙ c.if-not-is_argument.true))

pub loop-i-preserved : goal.loop-i-preserved
loop-i-preserved c =
    let classes = c.args.self.now.classes.now in
    let ts = c.args.arguments.now in
    let ps = c.args.params.now in
    let i = c.loop-i.i in
    let t = c.index-arguments-i.result in
    let less : i < length ts = omega arith in
    let next : suc i ≡ i + 1 = omega arith in
    c.loop-i.invariant
    ∙ misfit_more c.args.self.now.arguments classes ts ps i t c.in-Some.param
    (slice_get_read ts (length ts) i t refl less c.index-arguments-i.is) (sym c.param_at.ensures ∙ c.in-Some.is)
    ∙ ap (λ b. cond b (misfit c.args.self.now.arguments classes (map typed_view (drop (suc i) ts)) (drop (suc i) ps))
    (Some t.at)) (sym c.is_argument.ensures ∙ c.if-not-is_argument.false)
    ∙ ap (λ m. misfit c.args.self.now.arguments classes (map typed_view (drop m ts)) (drop m ps)) next

pub returns : goal.returns
returns c =
    let classes = c.args.self.now.classes.now in
    let ts = c.args.arguments.now in
    sym (c.loop-i.invariant ∙ ap (λ l. misfit c.args.self.now.arguments classes (map typed_view l)
    (drop c.loop-i.i c.args.params.now)) (drop_all c.loop-i.i ts (omega arith)))
