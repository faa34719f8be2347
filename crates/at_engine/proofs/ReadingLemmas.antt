-- Which lines can be read.
use Rattle.std.proofs.Common.{◌≡◌, ℕ, Bool, true, false, not, ◌||◌, List, [], ◌∷◌, map, refl, ap, ◌∙◌}
use denote.Ref.{Bor}
use Rattle.std.specs.Prelude.{Vec}
use Rattle.std.specs.Global.{Global}
use Rattle.std.specs.List.{list_any}
use Rattle.at_model.specs.Machine.{is_number, is_read, takes_numbers}
use Rattle.at_model.specs.Rules.{Rules}
use Rattle.at_protocol.specs.LineView.{argument_view, arguments_view, command_view, edit_view}
use Rattle.at_protocol.specs.declared.line.Argument.{Argument as ArgumentValue}
use Rattle.at_protocol.specs.declared.line.Place.{Place as PlaceValue}
use Rattle.at_protocol.specs.declared.line.Command.{Command}
use Rattle.at_protocol.specs.declared.line.Command.TheVariants as command
use Rattle.at_protocol.specs.declared.line.EditWords.{EditWords}
use Rattle.at_protocol.specs.declared.line.EditWords.TheVariants as words
use Rattle.at_engine.proofs.Verdicts.{or_true}

pub any_viewed : (as' : List ArgumentValue) → list_any (λ a. is_number (argument_view a)) as' ≡ list_any is_number (arguments_view as')
any_viewed [] = refl
any_viewed (a ∷ as') = ap (λ b. is_number (argument_view a) || b) (any_viewed as')

-- without ints and booleans all can be read, with some what the rules take
pub without : (takes b : Bool) → b ≡ false → true ≡ (takes || not b)
without takes b e = or_true takes ∙ ap (λ c. takes || not c) (sym_false b e)
  where
    sym_false : (b : Bool) → b ≡ false → false ≡ b
    sym_false false e = refl
    sym_false true e = cc

pub with_some : (takes b : Bool) → b ≡ true → takes ≡ (takes || not b)
with_some true b e = refl
with_some false true e = refl
with_some false false e = cc

-- and no command but one that posts passes any
module _ (rules : Rules) where
  edit_read : (w : EditWords) → true ≡ is_read rules (edit_view w)
  edit_read (words.Set place t) = or_true (takes_numbers rules)
  edit_read (words.Put place part t) = or_true (takes_numbers rules)
  edit_read (words.Drop place) = or_true (takes_numbers rules)
  edit_read (words.Insert place part index t) = or_true (takes_numbers rules)
  edit_read (words.Token place part value) = or_true (takes_numbers rules)
  edit_read (words.Move place to part index) = or_true (takes_numbers rules)

  pub other_read : (c : Command) → ((place : PlaceValue) (attribute : Bor (List ℕ)) (arguments : Vec ArgumentValue Global)
      → c ≡ command.Post place attribute arguments → ⊥) → true ≡ is_read rules (command_view c)
  other_read (command.Edit w) other = edit_read w
  other_read (command.Show place) other = or_true (takes_numbers rules)
  other_read (command.Mark name place) other = or_true (takes_numbers rules)
  other_read (command.Unmark name) other = or_true (takes_numbers rules)
  other_read (command.Where name) other = or_true (takes_numbers rules)
  other_read command.Version other = or_true (takes_numbers rules)
  other_read (command.Post place attribute arguments) other = absurd (other place attribute arguments refl)
  other_read (command.Wait number) other = or_true (takes_numbers rules)
