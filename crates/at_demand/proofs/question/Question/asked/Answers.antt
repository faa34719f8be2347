use Rattle.std.proofs.Common.{ℕ, Option, Some, None, ap, ◌∙◌}
use Rattle.at_model.specs.Run.{Instance}
use Rattle.at_demand.specs.declared.question.Question.{Question}
use Rattle.at_demand.specs.Levels.{LevelCode, root_in}
use Rattle.at_demand.proofs.question.Question.asked.Goals as goal

-- the root of the first level, or of the last one
abbrev first_root : Question → Option (Instance ℕ × LevelCode) → Instance ℕ
first_root q o = elim o [ None ↦ root_in q.level q.inst | Some e ↦ root_in e.1 e.0 ]

pub returns-in-Some : goal.returns-in-Some
returns-in-Some c = c.root_of.ensures ∙ ap (first_root c.args.self.now) c.in-Some.ensures.entry

pub returns-in-None : goal.returns-in-None
returns-in-None c = c.root.ensures ∙ ap (first_root c.args.self.now) c.in-None.ensures.entry
