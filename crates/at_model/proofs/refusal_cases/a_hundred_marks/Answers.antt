use Rattle.std.proofs.Common.{ℕ, zero, suc, List, [], ◌∷◌, ◌++◌, codes, refl}
use Rattle.std.specs.Fmt.{decimal, digits}
use Rattle.at_model.specs.Classes.{chain}
use Rattle.at_model.specs.Names.{reserved_words}
use Rattle.at_model.specs.Lines.{Line, From_root, Mark}
use Rattle.at_model.specs.Samples.{calc}
use Rattle.at_model.specs.SampleLines.{opened, says}
use Rattle.at_model.proofs.of_machines.Played.{tested}
use Rattle.at_model.proofs.refusal_cases.a_hundred_marks.Goals as goal

-- the lines of so many marks
marks : ℕ → List Line
marks zero = []
marks (suc n) = marks n ++ says (Mark (codes "m" ++ decimal n) (From_root [])) ∷ []

pub returns : goal.returns
unfolding chain digits reserved_words marks
returns c = tested calc opened (marks 101) _ refl
