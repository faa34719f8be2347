use Rattle.std.proofs.Common.{◌≡◌, ◌∙◌, ap, not, rules, sym}
use Rattle.at_rules.specs.Bodies.{body_view}
use Rattle.at_body.specs.Seeking.{candidates}
use Rattle.at_body.specs.declared.forming.Forming.{Forming}
use Rattle.at_body.proofs.FormRuns.{carried_over, kept_among}
use Rattle.at_body.proofs.forming.Forming.decide_among.Goals as goal

pub returns-then-is_surely-clause-does : goal.returns-then-is_surely-clause-does
returns-then-is_surely-clause-does c = record { same = search rules; less = search rules; reads = search rules }

pub returns-clause-does : goal.returns-clause-does
returns-clause-does c = carried_over c.next_among.result _ _ _ c.keep.new.self c.args.self.now c.next_among.new.self
    (λ r. kept_among r c.args.self.now c.keep.new.self c.args.positive (not c.args.positive) c.args.positive
    c.args.body (candidates c.args.others.now c.args.mark) (sym c.is_surely.ensures ∙ c.if-is_surely.false) c.in_ok-keep.ensures.stays
    (c.in_ok-keep.ensures.same r))
    c.in_ok-keep.ensures.less (ap (λ (x : Forming). x.trial.reads) c.in_ok-keep.ensures.stays)
    c.next_among.ensures.same c.next_among.ensures.less c.next_among.ensures.reads
