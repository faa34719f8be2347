-- Which values fit parameters, by the numbers of nodes.
use Rattle.std.specs.Prelude.{ℕ, Bool, true, false, ◌&&◌, List, [], ◌∷◌, Some, None}
use Rattle.at_model.specs.Bodies.{may_pass}
use Rattle.at_model.specs.Classes.{Classes, is_sub}
use Rattle.at_model.specs.Run.{Value, Contents, Is}
use Rattle.at_model.specs.Run as run
use Rattle.at_model.specs.Rules.{Kind}
use Rattle.at_model.specs.Rules as kind

-- it is a text
abbrev pub is_text : Value ℕ → Bool
is_text (run.Text bytes) = true
is_text v = false

-- it is an int that may be passed
abbrev pub is_near_int : Value ℕ → Bool
is_near_int (run.Int n) = may_pass {N = ℕ} (run.Int n)
is_near_int v = false

-- it is a boolean
abbrev pub is_truth : Value ℕ → Bool
is_truth (run.Truth b) = true
is_truth v = false

-- it is null, or a node of the class or below it
abbrev pub is_of_class : Classes → Contents ℕ → ℕ → Value ℕ → Bool
is_of_class classes look b (run.Ref None) = true
is_of_class classes look b (run.Ref (Some k)) = is_sub classes (look (Is k)) b
is_of_class classes look b v = false

-- a text fits a text, what is of the class fits it, and booleans and ints that may be passed fit their kinds; no words of a line stand for nodes
abbrev pub fits_number : Classes → Contents ℕ → Kind → Value ℕ → Bool
fits_number classes look kind.Int v = is_near_int v
fits_number classes look kind.Truth v = is_truth v
fits_number classes look kind.Text v = is_text v
fits_number classes look (kind.Class b) v = is_of_class classes look b v
fits_number classes look (kind.Nodes b) v = false

-- as many values as parameters, and each fits
abbrev pub fit_numbers : Classes → Contents ℕ → List Kind → List (Value ℕ) → Bool
fit_numbers classes look [] [] = true
fit_numbers classes look [] (v ∷ vs) = false
fit_numbers classes look (k ∷ ks) [] = false
fit_numbers classes look (k ∷ ks) (v ∷ vs) = fits_number classes look k v && fit_numbers classes look ks vs
