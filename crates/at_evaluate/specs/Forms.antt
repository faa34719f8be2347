-- What an expression means by its parts.
use Rattle.std.specs.Prelude.{⊤, ℕ}
use Rattle.at_model.specs.Classes.{Classes}
use Rattle.at_model.specs.Run.{Value, Run}
use Rattle.at_rules.specs.Bodies.{body_view}
use Rattle.at_rules.specs.declared.body.Body.{Body}
use Rattle.at_body.specs.Comparing.{IsComparison}
use Rattle.at_body.specs.Rest.{ev}
use Rattle.at_body.specs.Standing.{Place}
use Rattle.at_evaluate.specs.Parts.{call_of, either_of, fold_of, one_of, search_of, two_of}
use Rattle.at_evaluate.specs.declared.form.Form.{Form}
use Rattle.at_evaluate.specs.declared.form.Form.TheVariants as form

-- how the expression is evaluated that has these parts; one without parts, as it stands
abbrev pub run_of : Classes → Place → Body → Form → Run ℕ (Value ℕ)
run_of classes p body (form.One u a) = one_of classes p u a.now
run_of classes p body (form.Two o a b) = two_of classes p o a.now b.now
run_of classes p body (form.Compared o a b) = two_of classes p o a.now b.now
run_of classes p body (form.Either test chosen other) = either_of classes p test.now chosen other
run_of classes p body (form.Call a attribute passed) = call_of classes p a.now attribute passed.now
run_of classes p body (form.Over f a part b) = fold_of classes p f a.now part b.now
run_of classes p body (form.Under f a look b) = search_of classes p f a.now look.now b.now
run_of classes p body form.Plain = ev classes (body_view body) p

-- what is told to be a comparison is one
abbrev pub Compares : Form → Type 0
Compares (form.One u a) = ⊤
Compares (form.Two o a b) = ⊤
Compares (form.Compared o a b) = IsComparison o
Compares (form.Either test chosen other) = ⊤
Compares (form.Call a attribute passed) = ⊤
Compares (form.Over f a part b) = ⊤
Compares (form.Under f a look b) = ⊤
Compares form.Plain = ⊤
