-- Each number that is read in an expression has 32 bits.
use Rattle.std.proofs.Common.{◌≡◌, ℕ, zero, suc, ◌≤◌, List, [], ◌∷◌, Bool, true, false, Option, None, Some, cond, arith}
use Rattle.std.specs.Prelude.{nat_le}
use Rattle.std.specs.List.{AllByRecursion}
use Rattle.std.specs.Str.Parse.{digits_value}
use lib.Chars.{codes}
use Rattle.at_model.specs.Names.{is_name}
use Rattle.at_model.specs.Terms.{IsInt32}
use Rattle.at_text.specs.declared.place.Place.{Place}
use Rattle.at_text.specs.declared.token.TokenKind.{TokenKind}
use Rattle.at_text.specs.declared.token.TokenKind.TheVariants as kind
use Rattle.at_text.specs.Symbols.{PlacedToken}
use Rattle.at_text.specs.Rows.{Row, is_sign, is_word, next_is}
use Rattle.at_jrag.specs.Grammar.{is_number}
use Rattle.at_jrag.specs.Read.{greatest, signed, opens_cast}
use Rattle.at_jrag.specs.Table.{is_number_within, is_quotation}
use Rattle.at_jrag.specs.Syntax as syntax
use Rattle.at_jrag.specs.Syntax.{Expr, FoldForm, Word, to_exprs}
use Rattle.at_java.specs.Read.{Read, got}
use Rattle.at_java.specs.Tokens.{sign_here, name}
use Rattle.at_java.specs.Operands.{Readers, if_next, sign_next, number, text, constant_next, with_rest, called, more_items, items, arguments, call_of, calls, named, fold, fold_next, parenthesized, is_left_out, worded, primary, postfix, negative, cast, unary, max_calls, max_arguments}
use Rattle.at_java.specs.Operators.{Link, Between, InstanceOf, link_next, linked, links, operands, max_links}
use Rattle.at_java.specs.Expressions.{chosen, choice, readers, expression, weakest, max_nesting}
use Rattle.std.proofs.lemmas.Bool.{leb-true}
use Rattle.at_model.proofs.Options.{both}
use Rattle.at_typing.proofs.Literals.{AreInts, AreIntsAmong, neg_fits}
use Rattle.at_start.proofs.JavaGiven.{Gives, Any, gives_any, gives_then, gives_behind, gives_map, gives_either, gives_next}

-- ---- numbers

signed_fits : (b : Bool) (m : ℕ) → m ≤ greatest b → IsInt32 (signed b m)
signed_fits true m less = neg_fits m less
signed_fits false m less = omega (arith, less)

within : (most : ℕ) (t : PlacedToken) → is_number_within most t ≡ true → digits_value 10 t.text ≤ most
within most t is =
    leb-true (digits_value 10 t.text) most (both (nat_le (digits_value 10 t.text) most) _ (both (is_number t) _ is).1).0

number_ints : (b : Bool) (at : Place) (row : Row) → Gives AreInts (number b at row)
unfolding number
number_ints b at [] = tt
number_ints b at (t ∷ ts) =
    gives_either AreInts (is_number_within (greatest b) t) _ _
    (λ is. signed_fits b (digits_value 10 t.text) (within (greatest b) t is)) tt

-- ---- parts

-- what is read by these has 32 bits in each number
pub record ReadInts (r : Readers) : Type 0 where
  pub expression : (row : Row) → Gives AreInts (r.expression row)
  pub unary : (row : Row) → Gives AreInts (r.unary row)
  pub postfix : (row : Row) → Gives AreInts (r.postfix row)

-- so have those of a list
abbrev pub AreAll : List Expr → Type 0
AreAll = AllByRecursion AreInts

among : (es : List Expr) → AreAll es → AreIntsAmong (to_exprs es)
among [] are = tt
among (e ∷ es) are = (are.0, among es are.1)

module _ (r : Readers) (are : ReadInts r) where
  more_ints : (next : Row → Read (List Expr)) (row : Row) → ((row : Row) → Gives AreAll (next row)) → Gives AreAll (more_items next row)
  more_ints next row each =
      gives_next AreAll (sign_next (codes ")") row) _ _ (λ at rest. tt)
      (gives_behind AreAll (sign_here (codes ",") row) _ (λ at rest. each rest))

  items_ints : (n : ℕ) (row : Row) → Gives AreAll (items r.expression n row)
  items_ints zero row = tt
  items_ints (suc n) row =
      gives_then AreInts AreAll (r.expression row) _ (are.expression row) (λ e rest is.
      gives_map AreAll AreAll _ (more_items _ rest) (more_ints _ rest (λ next. items_ints n next)) (λ es all. (is, all)))

  arguments_ints : (row : Row) → Gives AreAll (arguments r row)
  unfolding arguments
  arguments_ints row =
      gives_behind AreAll (sign_here (codes "(") row) _ (λ at list.
      gives_next AreAll (sign_next (codes ")") list) _ _ (λ end rest. tt) (items_ints max_arguments list))

  call_ints : (e : Expr) (row : Row) → AreInts e → Gives AreInts (call_of r e row)
  unfolding call_of
  call_ints e row is =
      gives_behind AreInts (called row) _ (λ w list.
      gives_map AreAll AreInts _ (arguments r list) (arguments_ints list) (λ es all. (is, among es all)))

  calls_ints : (n : ℕ) (e : Expr) (row : Row) → AreInts e → Gives AreInts (calls r n e row)
  calls_ints zero e row is = gives_next AreInts (sign_next (codes ".") row) _ _ (λ at rest. tt) is
  calls_ints (suc n) e row is =
      gives_next AreInts (sign_next (codes ".") row) _ _ (λ at rest.
      gives_then AreInts AreInts (call_of r e rest) _ (call_ints e rest is) (λ f more fits. calls_ints n f more fits)) is

  named_ints : (row : Row) → Gives AreInts (named r row)
  unfolding named
  named_ints row =
      gives_behind AreInts (called row) _ (λ w rest.
      gives_either AreInts (next_is (is_sign (codes "(")) rest) _ _
      (λ _. gives_map AreAll AreInts _ (arguments r rest) (arguments_ints rest) (λ es all. among es all))
      (gives_either AreInts (is_name w.text) _ _ (λ _. tt) tt))

  fold_ints : (at : Place) (form : FoldForm) (row : Row) → Gives AreInts (fold r at form row)
  unfolding fold
  fold_ints at form row =
      gives_behind AreInts (sign_here (codes "(") row) _ (λ opens named.
      gives_behind AreInts (name named) _ (λ w colon.
      gives_behind AreInts (sign_here (codes ":") colon) _ (λ between list.
      gives_then AreInts AreInts (r.postfix list) _ (are.postfix list) (λ l close listed.
      gives_behind AreInts (sign_here (codes ")") close) _ (λ end brace.
      gives_behind AreInts (sign_here (codes "{") brace) _ (λ begin body.
      gives_then AreInts AreInts (r.expression body) _ (are.expression body) (λ e last is.
      gives_map Any AreInts _ (sign_here (codes "}") last) (gives_any _) (λ closing any. (listed, is)))))))))

  parenthesized_ints : (row : Row) → Gives AreInts (parenthesized r row)
  unfolding parenthesized
  parenthesized_ints row =
      gives_behind AreInts (sign_here (codes "(") row) _ (λ at inner.
      gives_then AreInts AreInts (r.expression inner) _ (are.expression inner) (λ e close is.
      gives_map Any AreInts _ (sign_here (codes ")") close) (gives_any _) (λ end any. is)))

  text_ints : (row : Row) → Gives AreInts (text row)
  unfolding text
  text_ints [] = tt
  text_ints (t ∷ ts) = gives_either AreInts (is_quotation t) _ _ (λ _. tt) tt

  -- a constant is no number
  constant_ints : (row : Row) (other : Read Expr) → Gives AreInts other → Gives AreInts (if_next (constant_next row) (λ e rest. got e rest) other)
  unfolding constant_next
  constant_ints [] other p = p
  constant_ints (t ∷ ts) other p = by (is_word (codes "true") t) (is_word (codes "false") t) (is_word (codes "null") t) (is_word (codes "this") t)
    where
      by : (a b c d : Bool) → Gives AreInts (if_next (with_rest (cond a (Some (syntax.Truth t.at true)) (cond b (Some (syntax.Truth t.at false))
          (cond c (Some (syntax.Null t.at)) (cond d (Some (syntax.This t.at)) None)))) ts) (λ e rest. got e rest) other)
      by true b c d = tt
      by false true c d = tt
      by false false true d = tt
      by false false false true = tt
      by false false false false = p

  fold_or_named : (o : Option (Place × FoldForm × Row)) (row : Row)
      → Gives AreInts (elim o [ Some f ↦ fold r f.0 f.1 f.2 | None ↦ named r row ])
  fold_or_named None row = named_ints row
  fold_or_named (Some f) row = fold_ints f.0 f.1 f.2

  worded_ints : (row : Row) → Gives AreInts (worded r row)
  unfolding worded
  worded_ints row =
      gives_either AreInts (next_is is_left_out row) _ _ (λ _. tt) (constant_ints row _ (fold_or_named (fold_next row) row))

  primary_ints : (row : Row) → Gives AreInts (primary r row)
  unfolding primary
  primary_ints [] = tt
  primary_ints (t ∷ ts) = by t.kind
    where
      by : (k : TokenKind) → Gives AreInts (elim k [
        | kind.Number ↦ number false t.at (t ∷ ts)
        | kind.Text ↦ text (t ∷ ts)
        | kind.Sign ↦ parenthesized r (t ∷ ts)
        | kind.Word ↦ worded r (t ∷ ts)
      ])
      by kind.Number = number_ints false t.at (t ∷ ts)
      by kind.Text = text_ints (t ∷ ts)
      by kind.Sign = parenthesized_ints (t ∷ ts)
      by kind.Word = worded_ints (t ∷ ts)

  postfix_ints : (row : Row) → Gives AreInts (postfix r row)
  unfolding postfix
  postfix_ints row = gives_then AreInts AreInts (primary r row) _ (primary_ints row) (λ e rest is. calls_ints max_calls e rest is)

  negative_ints : (at : Place) (row : Row) → Gives AreInts (negative r at row)
  unfolding negative
  negative_ints at row =
      gives_either AreInts (next_is is_number row) _ _
      (λ _. gives_then AreInts AreInts (number true at row) _ (number_ints true at row) (λ e rest is. calls_ints max_calls e rest is))
      (gives_map AreInts AreInts _ (r.unary row) (are.unary row) (λ e is. is))

  cast_ints : (row : Row) → Gives AreInts (cast r row)
  unfolding cast
  cast_ints row =
      gives_behind AreInts (sign_here (codes "(") row) _ (λ at named.
      gives_behind AreInts (name named) _ (λ class close.
      gives_behind AreInts (sign_here (codes ")") close) _ (λ end operand.
      gives_map AreInts AreInts _ (r.unary operand) (are.unary operand) (λ e is. is))))

  unary_ints : (row : Row) → Gives AreInts (unary r row)
  unfolding unary
  unary_ints row =
      gives_next AreInts (sign_next (codes "-") row) _ _ (λ at rest. negative_ints at rest)
      (gives_next AreInts (sign_next (codes "!") row) _ _ (λ at rest. gives_map AreInts AreInts _ (r.unary rest) (are.unary rest) (λ e is. is))
      (gives_either AreInts (opens_cast row) _ _ (λ _. cast_ints row) (postfix_ints row)))

  -- ---- operators

  module _ (operand : Row → Read Expr) (each : (row : Row) → Gives AreInts (operand row)) where
    linked_ints : (e : Expr) (l : Link) (row : Row) → AreInts e → Gives AreInts (linked operand e l row)
    linked_ints e (Between o at) row is = gives_map AreInts AreInts _ (operand row) (each row) (λ right fits. (is, fits))
    linked_ints e (InstanceOf at) row is = gives_map Any AreInts _ (name row) (gives_any _) (λ class any. is)

    links_ints : (rank n : ℕ) (e : Expr) (row : Row) → AreInts e → Gives AreInts (links operand rank n e row)
    links_ints rank zero e row is = gives_next AreInts (link_next rank row) _ _ (λ l rest. tt) is
    links_ints rank (suc n) e row is =
        gives_next AreInts (link_next rank row) _ _ (λ l rest.
        gives_then AreInts AreInts (linked operand e l rest) _ (linked_ints e l rest is) (λ f more fits. links_ints rank n f more fits)) is

  operands_ints : (n : ℕ) (row : Row) → Gives AreInts (operands r n row)
  unfolding operands
  operands_ints zero row = unary_ints row
  operands_ints (suc n) row =
      gives_then AreInts AreInts (operands r n row) _ (operands_ints n row) (λ e rest is.
      links_ints (operands r n) (operands_ints n) (suc n) max_links e rest is)

  chosen_ints : (c : Expr) (behind : Place) (row : Row) → AreInts c → Gives AreInts (chosen r c behind row)
  unfolding chosen
  chosen_ints c behind row is =
      gives_then AreInts AreInts (r.expression row) _ (are.expression row) (λ a colon one.
      gives_behind AreInts (sign_here (codes ":") colon) _ (λ between other.
      gives_map AreInts AreInts _ (r.expression other) (are.expression other) (λ b two. (is, one, two))))

  choice_ints : (row : Row) → Gives AreInts (choice r row)
  unfolding choice
  choice_ints row =
      gives_then AreInts AreInts (operands r weakest row) _ (operands_ints weakest row) (λ e rest is.
      gives_next AreInts (sign_next (codes "?") rest) _ _ (λ behind next. chosen_ints e behind next is) is)

-- ---- how deep they nest

readers_ints : (n : ℕ) → ReadInts (readers n)
unfolding readers
readers_ints zero = record { expression = λ row. tt; unary = λ row. tt; postfix = λ row. tt }
readers_ints (suc n) =
    let are = readers_ints n in
    record { expression = choice_ints (readers n) are; unary = unary_ints (readers n) are; postfix = postfix_ints (readers n) are }

pub expression_ints : (row : Row) → Gives AreInts (expression row)
unfolding expression
expression_ints row = (readers_ints max_nesting).expression row
