-- Trees that are written in aspects (JastAdd2 reference manual, nonterminal attributes; Java Language Specification 15.9): what `new`
-- makes of classes, lists and optionals, where all else that may be an argument is a literal. What stands behind a `new` and is none of
-- these is left out at that `new`, another argument at its first token.
use Rattle.std.specs.Prelude.{ℕ, zero, suc, List, [], ◌∷◌, Bool, true, false, cond, not, ◌||◌}
use Rattle.std.specs.Str.{bytes_eq}
use Rattle.std.specs.Str.Parse.{digits_value}
use lib.Chars.{codes}
use Rattle.at_model.specs.Terms.{Term, Cell, Node, One, Many, Empty, Holds}
use Rattle.at_model.specs.Trees.{Token, Text, Int, Truth}
use Rattle.at_text.specs.declared.place.Place.{Place}
use Rattle.at_text.specs.Symbols.{PlacedToken, is_sign_kind}
use Rattle.at_text.specs.Rows.{Row, is_sign, is_word, is_name_token, next_is}
use Rattle.at_tree.specs.View.{to_cells, to_terms}
use Rattle.at_jrag.specs.Grammar.{is_number, is_text}
use Rattle.at_jrag.specs.Read.{greatest, signed}
use Rattle.at_jrag.specs.Table.{is_number_within, is_quotation}
use Rattle.at_jrag.specs.Syntax.{Word}
use Rattle.at_java.specs.Read.{Read, got, fails, here, at_place, then_read, map_read}
use Rattle.at_java.specs.Next.{after_word, after_sign}
use Rattle.at_java.specs.Operands.{items, max_arguments, unquoted}
use Rattle.at_java.specs.declared.JavaCode.{JavaCode}
use Rattle.at_java.specs.declared.JavaCode.TheVariants.{Syntax, LeftOut, Limit}

-- ---- what else is left out at a place

abbrev pub sign_of : Place → List ℕ → Row → Read Place
sign_of at text row = after_sign text row (λ there rest. got there rest) (fails (at_place LeftOut at))

abbrev pub word_of : Place → List ℕ → Row → Read Place
word_of at text row = after_word text row (λ there rest. got there rest) (fails (at_place LeftOut at))

abbrev pub name_of : Place → Row → Read Word
name_of at [] = fails (at_place LeftOut at)
name_of at (t ∷ ts) = cond (is_name_token t) (got (record { text = t.text; at = t.at }) ts) (fails (at_place LeftOut at))

-- ---- literals

-- digits, with a `-` before them or not
unfoldable pub integer : (is_negative : Bool) → Row → Read Token
integer is_negative [] = fails (here Syntax [])
integer is_negative (t ∷ ts) =
    cond (is_number_within (greatest is_negative) t) (got (Int (signed is_negative (digits_value 10 t.text))) ts) (fails (here Syntax (t ∷ ts)))

unfoldable pub quotation : Row → Read Token
quotation [] = fails (here Syntax [])
quotation (t ∷ ts) = cond (is_quotation t) (got (Text (unquoted t.text)) ts) (fails (here Syntax (t ∷ ts)))

-- an operand begins with the token
abbrev pub begins_operand : PlacedToken → Bool
begins_operand t = not (is_sign_kind t.kind) || (is_sign (codes "-") t || (is_sign (codes "!") t || is_sign (codes "(") t))

-- where nothing stands that is read here: another operand is left out
abbrev pub operand_code : Row → JavaCode
operand_code row = cond (next_is begins_operand row) LeftOut Syntax

-- behind the `-` at this place: a number
abbrev pub below_zero : Place → Row → Read Token
below_zero at row = cond (next_is is_number row) (integer true row) (fails (at_place LeftOut at))

-- "true" | "false" | ["-"] number | text
abbrev pub literal : Row → Read Token
literal row =
    after_word (codes "true") row (λ at rest. got (Truth true) rest)
    (after_word (codes "false") row (λ at rest. got (Truth false) rest)
    (after_sign (codes "-") row below_zero
    (cond (next_is is_number row) (integer false row)
    (cond (next_is is_text row) (quotation row) (fails (here (operand_code row) row))))))

-- ---- nodes, lists and optionals, each behind its `new` at this place, by what reads a node behind a `new` in it

-- "new" and a node
abbrev pub child : (Place → Row → Read Term) → Row → Read Term
child part row = after_word (codes "new") row part (fails (here (operand_code row) row))

-- ["<" name ">"] "("
abbrev pub opening : Place → Row → Read Place
opening at row = after_sign (codes "<") row (λ angle named. then_read (name_of at named) (λ w close. then_read (sign_of at (codes ">") close) (λ end rest.
    sign_of at (codes "(") rest))) (sign_of at (codes "(") row)

-- "add" "(" child ")", behind a list and "."
abbrev pub added : (Place → Row → Read Term) → Place → Row → Read Term
added part at row = then_read (word_of at (codes "add") row) (λ add rest. then_read (sign_of at (codes "(") rest) (λ paren inner.
    then_read (child part inner) (λ t close. then_read (sign_of at (codes ")") close) (λ end left. got t left))))

abbrev pub most_elements : ℕ
most_elements = 4096

-- { "." "add" "(" child ")" }, so many at most
unfoldable pub elements : (Place → Row → Read Term) → Place → ℕ → Row → Read (List Term)
elements part at zero row = after_sign (codes ".") row (λ dot rest. fails (here Limit rest)) (got [] row)
elements part at (suc n) row =
    after_sign (codes ".") row (λ dot rest. then_read (added part at rest) (λ t more. map_read (λ ts. t ∷ ts) (elements part at n more))) (got [] row)

-- an empty list, and what is added to it
abbrev pub list_items : (Place → Row → Read Term) → Place → Row → Read (List Term)
list_items part at row = then_read (opening at row) (λ paren inner. then_read (sign_of at (codes ")") inner) (λ end rest.
    elements part at most_elements rest))

abbrev pub list : (Place → Row → Read Term) → Place → Row → Read Cell
list part at row = then_read (list_items part at row) (λ ts left. got (Many (to_terms ts)) left)

-- an optional: empty, or with a child
abbrev pub optional : (Place → Row → Read Term) → Place → Row → Read Cell
optional part at row = then_read (opening at row) (λ paren inner. after_sign (codes ")") inner (λ end rest. got Empty rest)
    (then_read (child part inner) (λ t close. then_read (sign_of at (codes ")") close) (λ end left. got (One t) left))))

-- a list, an optional, or a node
abbrev pub made : (Place → Row → Read Term) → Place → Row → Read Cell
made part at row =
    after_word (codes "List") row (λ w rest. list part at rest)
    (after_word (codes "Opt") row (λ w rest. optional part at rest)
    (then_read (part at row) (λ t left. got (One t) left)))

-- what stands for a component of a node
abbrev pub cell : (Place → Row → Read Term) → Row → Read Cell
cell part row = after_word (codes "new") row (made part) (then_read (literal row) (λ v left. got (Holds v) left))

abbrev pub ends_argument : PlacedToken → Bool
ends_argument t = is_sign (codes ",") t || is_sign (codes ")") t

-- a cell that is the whole argument
abbrev pub argument : (Place → Row → Read Term) → Row → Read Cell
argument part [] = fails (here Syntax [])
argument part (t ∷ ts) = then_read (cell part (t ∷ ts)) (λ c rest. cond (next_is ends_argument rest) (got c rest) (fails (at_place LeftOut t.at)))

-- [argument { "," argument }] ")"
abbrev pub given : (Place → Row → Read Term) → Row → Read (List Cell)
given part row = after_sign (codes ")") row (λ end rest. got [] rest) (items (argument part) max_arguments row)

-- the names of what isn't a node
abbrev pub is_container : List ℕ → Bool
is_container text = bytes_eq text (codes "List") || bytes_eq text (codes "Opt")

-- the class of a node, and "("
abbrev pub class_of : Place → Row → Read Word
class_of at row = then_read (name_of at row) (λ w rest. cond (is_container w.text) (fails (at_place LeftOut at))
    (then_read (sign_of at (codes "(") rest) (λ paren left. got w left)))

-- class "(" given
abbrev pub node : (Place → Row → Read Term) → Place → Row → Read Term
node part at row = then_read (class_of at row) (λ w inner. then_read (given part inner) (λ cs left. got (Node w.text (to_cells cs)) left))

-- how deep they may nest
abbrev pub max_terms : ℕ
max_terms = 64

-- nested at most so deep
unfoldable pub term : ℕ → Place → Row → Read Term
term zero at row = fails (here Limit row)
term (suc n) at row = node (term n) at row
