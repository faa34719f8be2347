use Rattle.std.proofs.Common.{◌≡◌, ◌∙◌, ap, not, rules, sym, true, false}
use Rattle.at_model.specs.of_fixpoints.Formulas.{Formula}
use Rattle.at_rules.specs.Bodies.{body_view}
use Rattle.at_body.specs.Forms.{followed, formed, place_of}
use Rattle.at_body.specs.declared.forming.Forming.{Forming}
use Rattle.at_body.proofs.FormRuns.{kept_right}
use Rattle.at_body.proofs.forming.Forming.right.Goals as goal

pub returns-then-is_surely-clause-does : goal.returns-then-is_surely-clause-does
returns-then-is_surely-clause-does c = record { same = search rules; less = search rules; reads = search rules }

pub returns-clause-does : goal.returns-clause-does
returns-clause-does c = record {
  same = λ r. kept_right r c.args.self.now c.keep.new.self (not c.args.conjunction) c.args.conjunction c.args.positive
      c.args.right (sym c.is_surely.ensures ∙ c.if-is_surely.false) c.in_ok-keep.ensures.stays
      (c.in_ok-keep.ensures.same r);
  less = search rules;
  reads = search rules;
}
