use Rattle.std.proofs.Common.{◌≡◌, length, ◌-◌, ◌∙◌, refl, rules}
use Rattle.at_text.proofs.Scanned.{lexed_more, lexed_blank, found_shorter, whole_cut, cut_only, cut_faultless, fault_only, fault_same}
use Rattle.at_text.specs.declared.token.Lexeme.{Lexeme}
use Rattle.at_text.specs.Pieces.{spelled_at}
use Rattle.std.proofs.Common.{ap}
use Rattle.at_text.proofs.scan.lexemes.Goals as goal

pub returns-in-Err-clause-only : goal.returns-in-Err-clause-only
returns-in-Err-clause-only c = let s = c.loop-rest.invariant.1 in fault_only c.args.text.now c.fault.result (c.fault.ensures s.pieces s.cut).0

pub returns-in-Err-clause-faulty : goal.returns-in-Err-clause-faulty
returns-in-Err-clause-faulty c = let s = c.loop-rest.invariant.1 in fault_same c.args.text.now c.fault.result (c.fault.ensures s.pieces s.cut).0

pub loop-rest-smaller-in_ok-push : goal.loop-rest-smaller-in_ok-push
loop-rest-smaller-in_ok-push c = found_shorter c.loop-rest.rest.now c.in-Ok.found.1.now c.in-Ok.found.0 c.in-Ok.ensures

pub loop-rest-smaller : goal.loop-rest-smaller
loop-rest-smaller c = found_shorter c.loop-rest.rest.now c.in-Ok.found.1.now c.in-Ok.found.0 c.in-Ok.ensures

pub loop-rest-preserved-in_ok-push : goal.loop-rest-preserved-in_ok-push
loop-rest-preserved-in_ok-push c =
    let f = c.in-Ok.ensures in
    let i = c.loop-rest.invariant in
    let x : Lexeme = record { kind = c.in-Some.kind; text = c.before-in-Some.result; start = length c.args.text.now - length c.loop-rest.rest.now } in (
      f.4,
      lexed_more c.args.text.now c.loop-rest.rest.now c.in-Ok.found.1.now c.loop-rest.lexemes.items
          c.push.new.self.items x i.1 (f.0, f.1, f.2, f.3 ∙ c.in-Some.is, f.4) i.0 c.before-in-Some.ensures
          c.before-in-Some.utf8 refl c.in_ok-push.ensures.items,
    )

pub loop-rest-preserved : goal.loop-rest-preserved
loop-rest-preserved c =
    let f = c.in-Ok.ensures in
    (f.4, lexed_blank c.args.text.now c.loop-rest.rest.now c.in-Ok.found.1.now c.loop-rest.lexemes.items c.loop-rest.invariant.1 (f.0, f.1, f.2, f.3 ∙ c.in_default.is, f.4))

pub returns-clause-only : goal.returns-clause-only
returns-clause-only c ps cut =
    let s = c.loop-rest.invariant.1 in
    let e : length c.loop-rest.rest.now ≡ 0 = search rules in
    s.are ∙ ap (spelled_at 0) (cut_only c.args.text.now s.pieces ps (whole_cut c.args.text.now c.loop-rest.rest.now s.pieces s.cut e) cut)

pub returns-clause-faulty : goal.returns-clause-faulty
returns-clause-faulty c =
    let s = c.loop-rest.invariant.1 in
    let e : length c.loop-rest.rest.now ≡ 0 = search rules in
    cut_faultless c.args.text.now s.pieces (whole_cut c.args.text.now c.loop-rest.rest.now s.pieces s.cut e)
