use Rattle.std.proofs.Common.{◌≡◌, [], ◌++◌, codes, true≢false, None, Some, ap, sym, subst, ◌∙◌, arith}
use Rattle.std.specs.Prelude.{IsUtf8}
use Rattle.std.proofs.lemmas.Bool.Decides.{Decides-eqb}
use Rattle.std.proofs.lemmas.Slice.Eq.{strip_prefix_is, strip_suffix_is}
use Rattle.at_model.specs.Lines.{call_text}
use Rattle.at_model.specs.Names.{IsName, is_name}
use Rattle.at_protocol.proofs.Fronts.{asks, behind_front, call_is, name_is}
use Rattle.at_protocol.proofs.line.again.asked_behind.Goals as goal

pub returns-in_err-call-clause-none : goal.returns-in_err-call-clause-none
returns-in_err-call-clause-none c = λ session steps before. rw c.from_residual.ensures (λ attribute h.
    let line = c.args.line.now in
    let front = c.args.front.now in
    strip_prefix_is Decides-eqb line front None c.in_err-call.ensures.cases (call_text attribute []) (behind_front line front attribute session steps before h))

pub returns-in_err-name-clause-none : goal.returns-in_err-name-clause-none
returns-in_err-name-clause-none c = λ session steps before. rw c.from_residual-in_err-name.ensures (λ attribute h.
    let line = c.args.line.now in
    let front = c.args.front.now in
    let call = c.in_ok-call.call in
    let split = strip_prefix_is Decides-eqb line front (Some call) c.in_ok-call.ensures.cases in
    strip_suffix_is Decides-eqb call.now (codes "()") None c.in_err-name.ensures.cases attribute (call_is line front attribute session steps before h call.now split))

pub returns-in_default-clause-none : goal.returns-in_default-clause-none
returns-in_default-clause-none c = λ session steps before attribute h.
    let line = c.args.line.now in
    let front = c.args.front.now in
    let call = c.in_ok-call.call in
    let name = c.in_ok-name.name in
    let split = strip_prefix_is Decides-eqb line front (Some call) c.in_ok-call.ensures.cases in
    let cut = strip_suffix_is Decides-eqb call.now (codes "()") (Some name) c.in_ok-name.ensures.cases in
    let is = name_is line front attribute session steps before h call.now name.now split cut in
    c.in_default.ensures.cases.0 (subst IsUtf8 (sym is) h.is_line.command.1.1)

pub returns-then-is_name_word-clause-found : goal.returns-then-is_name_word-clause-found
returns-then-is_name_word-clause-found c = λ session steps small path before.
    let line = c.args.line.now in
    let front = c.args.front.now in
    let call = c.in_ok-call.call in
    let word = c.in-Ok.word.now in
    let split = strip_prefix_is Decides-eqb line front (Some call) c.in_ok-call.ensures.cases in
    let cut = strip_suffix_is Decides-eqb call.now (codes "()") (Some c.in_ok-name.name) c.in_ok-name.ensures.cases in
    let whole : line ≡ front ++ call_text word [] = split ∙ ap (λ y. front ++ y) (cut ∙ ap (λ y. call_text y []) (sym c.in-Ok.ensures.cases.0)) in
    let named : IsName word = (sym c.is_name_word.ensures ∙ c.if-is_name_word.true, subst IsUtf8 (sym c.in-Ok.ensures.cases.0) c.in-Ok.ensures.cases.1) in
    asks line front word session steps whole (omega (arith, c.if-line-gt-MAX_LINE.false)) named small path before

pub returns-else-is_name_word-clause-none : goal.returns-else-is_name_word-clause-none
returns-else-is_name_word-clause-none c = λ session steps before attribute h.
    let line = c.args.line.now in
    let front = c.args.front.now in
    let call = c.in_ok-call.call in
    let name = c.in_ok-name.name in
    let split = strip_prefix_is Decides-eqb line front (Some call) c.in_ok-call.ensures.cases in
    let cut = strip_suffix_is Decides-eqb call.now (codes "()") (Some name) c.in_ok-name.ensures.cases in
    let is = name_is line front attribute session steps before h call.now name.now split cut in
    true≢false (sym h.is_line.command.1.0 ∙ ap is_name (sym (c.in-Ok.ensures.cases.0 ∙ is)) ∙ sym c.is_name_word.ensures ∙ c.if-is_name_word.false)
