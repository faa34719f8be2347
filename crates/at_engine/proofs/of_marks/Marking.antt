-- The marks that commands use.
use Rattle.std.proofs.Common.{◌≡◌, ℕ, Bool, true, false, ◌&&◌, List, [], ◌∷◌, ◌++◌, refl, ap, ◌∙◌}
use Rattle.std.specs.List.{flat_map, list_all}
use Rattle.std.proofs.lemmas.List.Folds.{list_all-append}
use Rattle.at_model.specs.Lines.{Place}
use Rattle.at_model.specs.Machine.{marks_in, marks_in_argument}
use Rattle.at_protocol.specs.LineView.{argument_view, arguments_view}
use Rattle.at_protocol.specs.declared.line.Argument.{Argument}

-- one test alone
pub alone : (p : List ℕ → Bool) (name : List ℕ) → list_all p (name ∷ []) ≡ p name
alone p name = by (p name)
  where
    by : (b : Bool) → (b && true) ≡ b
    by true = refl
    by false = refl

pub of_arguments : (p : List ℕ → Bool) (args : List Argument) → list_all p (flat_map marks_in_argument (arguments_view args)) ≡ list_all (λ a. list_all p (marks_in_argument (argument_view a))) args
of_arguments p [] = refl
of_arguments p (a ∷ rest) = list_all-append p (marks_in_argument (argument_view a)) (flat_map marks_in_argument (arguments_view rest)) ∙ ap (λ b. list_all p (marks_in_argument (argument_view a)) && b) (of_arguments p rest)

-- those of a question
pub of_question : (p : List ℕ → Bool) (place : Place) (args : List Argument) → list_all p (marks_in place ++ flat_map marks_in_argument (arguments_view args)) ≡ (list_all p (marks_in place) && list_all (λ a. list_all p (marks_in_argument (argument_view a))) args)
of_question p place args = list_all-append p (marks_in place) (flat_map marks_in_argument (arguments_view args)) ∙ ap (λ b. list_all p (marks_in place) && b) (of_arguments p args)

pub both : (a b : Bool) → a ≡ true → (a && b) ≡ b
both true b e = refl
both false b e = absurd cc

pub neither : (a b : Bool) → a ≡ false → (a && b) ≡ false
neither false b e = refl
neither true b e = absurd cc
