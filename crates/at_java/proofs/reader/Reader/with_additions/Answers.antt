use Rattle.std.proofs.Common.{◌≡◌, length, sym, ap, ◌∙◌, ◌-◌, map, arith}
use Rattle.std.proofs.lemmas.List.{map_push}
use Rattle.at_text.specs.Rows.{left}
use Rattle.at_tree.specs.View.{term_view}
use Rattle.at_java.specs.Read.{got}
use Rattle.at_java.specs.Constants.{most_elements}
use Rattle.at_java.specs.Making.{additions}
use Rattle.at_java.proofs.Exits.{at_fault}
use Rattle.at_java.proofs.Then.{fails_as}
use Rattle.at_java.proofs.AdditionLists.{first_additions, one_addition, addition_fails, additions_end, too_many_additions}
use Rattle.at_java.proofs.Loops.{in_front}
use Rattle.at_java.proofs.reader.Reader.with_additions.Goals as goal

pub loop-at-init : goal.loop-at-init
loop-at-init c =
    let is : c.args.terms.len ≡ length c.args.terms.items = omega (arith, c.args.terms.ok.0) in
    first_additions c.args.local.now term_view c.args.terms.items _ _ (c.saturating_sub-room.ensures ∙ ap (λ k. most_elements - k) (c.len.ensures ∙ is))

pub loop-at-preserved : goal.loop-at-preserved
loop-at-preserved c =
    let l = c.loop-at in
    let q = ap (map term_view) c.in_ok-push.ensures.items ∙ map_push term_view l.all.items c.in_ok-term.term in
    l.invariant ∙ one_addition c.args.local.now l.room (map term_view l.all.items) (term_view c.in_ok-term.term) _ _ _ _
    (omega (arith, c.if-room-eq0.false)) c.in-Some.ensures c.in_ok-term.ensures.found
    ∙ ap (λ v. in_front v (additions c.args.local.now (l.room - 1) (left c.addition.new.self.cursor.rest.now))) (sym q)

pub returns-then-room-eq0-clause-fault : goal.returns-then-room-eq0-clause-fault
returns-then-room-eq0-clause-fault c =
    let l = c.loop-at in
    l.invariant ∙ too_many_additions c.args.local.now l.room (map term_view l.all.items) _ _ _ (omega (arith, c.if-room-eq0.true)) c.in-Some.ensures

pub returns-in_err-term-clause-fault : goal.returns-in_err-term-clause-fault
returns-in_err-term-clause-fault c =
    let l = c.loop-at in
    let e = c.in_err-term.field-0.0 in
    let end = left c.addition.new.self.cursor.rest.now in
    at_fault _ e end _ c.from_residual.ensures.1 (fails_as e end _ _ l.invariant
    (addition_fails c.args.local.now e end l.room (map term_view l.all.items) _ _ _ (omega (arith, c.if-room-eq0.false)) c.in-Some.ensures c.in_err-term.ensures.fault))

pub returns-clause-found : goal.returns-clause-found
returns-clause-found c =
    let l = c.loop-at in
    let n = c.in_default.ensures in
    let same = ap (λ r. left r.rest.now) n.0 in
    l.invariant ∙ additions_end c.args.local.now l.room (map term_view l.all.items) _ n.1 ∙ ap (got (map term_view l.all.items)) (sym same)
