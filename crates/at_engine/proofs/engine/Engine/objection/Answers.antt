use Rattle.std.proofs.Common.{◌∙◌, ap, sym}
use Rattle.at_model.specs.Machine.{is_stale, marks_used}
use Rattle.at_engine.specs.Engines.{marks_of, rules_of, state_of}
use Rattle.at_engine.proofs.NamingLemmas.{all_marked}
use Rattle.at_engine.proofs.TellingLemmas.{meets_stale, meets_unmarked, meets_unread}
use Rattle.at_engine.proofs.Verdicts.{at_obeyed}
use Rattle.at_engine.proofs.engine.Engine.objection.Goals as goal

pub returns-then-not-is_readable : goal.returns-then-not-is_readable
returns-then-not-is_readable g c = λ l read is used.
    let e = c.args.self.now in
    meets_unread (rules_of e) (state_of e) l (read ∙ c.if-not-is_readable.true)

pub returns-then-is_stale : goal.returns-then-is_stale
returns-then-is_stale g c = λ l read is used.
    let e = c.args.self.now in
    meets_stale (rules_of e) (state_of e) l (read ∙ c.if-not-is_readable.false)
    (ap (λ expected. is_stale expected e.version) is ∙ sym c.is_stale.ensures ∙ c.if-is_stale.true)

pub returns-then-not-is_marked : goal.returns-then-not-is_marked
returns-then-not-is_marked g c = λ l read is used.
    let e = c.args.self.now in
    let marked = sym (all_marked e.store l.session (marks_of e) c.requires (marks_used l.command)) ∙ used ∙ c.if-not-is_marked.true in
    meets_unmarked (rules_of e) (state_of e) l (read ∙ c.if-not-is_readable.false)
    (ap (λ expected. is_stale expected e.version) is ∙ sym c.is_stale.ensures ∙ c.if-is_stale.false) marked

pub returns : goal.returns
returns g c = λ l read is used.
    let e = c.args.self.now in
    let marked = sym (all_marked e.store l.session (marks_of e) c.requires (marks_used l.command)) ∙ used ∙ c.if-not-is_marked.false in
    at_obeyed (rules_of e) (state_of e) l (read ∙ c.if-not-is_readable.false)
    (ap (λ expected. is_stale expected e.version) is ∙ sym c.is_stale.ensures ∙ c.if-is_stale.false) marked
