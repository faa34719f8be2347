-- What constants are made of: a tree, or a list of trees (JastAdd2 reference manual, nonterminal attributes). What goes another way
-- before its `new` is left out where the declared name stands, and behind it at that `new`; another statement where it begins.
use Rattle.std.specs.Prelude.{ℕ, zero, suc, ◌-◌, List, [], ◌∷◌, ◌++◌, length, Bool, true, false, cond}
use lib.Chars.{codes}
use Rattle.at_model.specs.Terms.{Term}
use Rattle.at_text.specs.Rows.{Row}
use Rattle.at_text.specs.declared.place.Place.{Place}
use Rattle.at_jrag.specs.Syntax.{Word}
use Rattle.at_java.specs.Read.{Read, got, fails, here, then_read, map_read}
use Rattle.at_java.specs.Next.{after_word, after_sign, other_code}
use Rattle.at_java.specs.Constants.{sign_of, word_of, name_of, term, max_terms, added, list_items, most_elements}
use Rattle.at_java.specs.Outsets.{element_class}
use Rattle.at_java.specs.declared.JavaCode.TheVariants.{Limit}

-- where the body begins and its `new` stands; and whether it is a block
pub record Making : Type 0 where
  pub at : Place
  pub made_at : Place
  pub is_block : Bool

-- "new", behind the `=` at this place
abbrev pub making_equation : (named at : Place) → Row → Read Making
making_equation named at row = then_read (word_of named (codes "new") row) (λ new left. got (record { at = at; made_at = new; is_block = false }) left)

-- "return" "new", behind the `{` at this place
abbrev pub making_block : (named at : Place) → Row → Read Making
making_block named at row = then_read (word_of named (codes "return") row) (λ r inner. then_read (word_of named (codes "new") inner) (λ new left.
    got (record { at = at; made_at = new; is_block = true }) left))

-- "=" "new" | "{" "return" "new"
abbrev pub making : (named : Place) → Row → Read Making
making named row = after_sign (codes "=") row (making_equation named) (then_read (sign_of named (codes "{") row) (making_block named))

-- "}"
abbrev pub block_end : Row → Read Place
block_end row = after_sign (codes "}") row (λ brace left. got brace left) (fails (here (other_code row) row))

-- ";" and in a block "}"
abbrev pub made_end : Making → Row → Read Place
made_end m row = then_read (sign_of m.made_at (codes ";") row) (λ end rest. cond m.is_block (block_end rest) (got end rest))

-- ---- trees

-- a node, behind its `new`
abbrev pub made_term : Making → Row → Read Term
made_term m row = then_read (term max_terms m.made_at row) (λ t rest. then_read (made_end m rest) (λ end left. got t left))

-- ---- lists

-- a list: where its `new` stands, and what is in it
pub record Made : Type 0 where
  pub at : Place
  pub items : List Term

-- "List" and what is in it, behind the `new` at this place
abbrev pub new_list : Place → Row → Read (List Term)
new_list at row = then_read (word_of at (codes "List") row) (λ w rest. list_items (term max_terms) at rest)

-- the same up to the end of the body
abbrev pub whole_list : Making → Row → Read Made
whole_list m row = then_read (new_list m.made_at row) (λ ts rest. then_read (made_end m rest) (λ end left.
    got (record { at = m.made_at; items = ts }) left))

-- a local variable that holds a list: its name, and the `new` of the list
pub record Local : Type 0 where
  pub name : Word
  pub at : Place

-- "<" name ">" name "=" "new", behind `List`
abbrev pub local : (named : Place) → Row → Read Local
local named row = then_read (element_class named row) (λ class behind. then_read (name_of named behind) (λ w sign.
    then_read (sign_of named (codes "=") sign) (λ e rest. then_read (word_of named (codes "new") rest) (λ new left.
    got (record { name = w; at = new }) left))))

-- "." "add" "(" child ")" ";" behind the name of the local at this place
abbrev pub addition : Place → Row → Read Term
addition at row = then_read (sign_of at (codes ".") row) (λ dot rest. then_read (added (term max_terms) at rest) (λ t end.
    then_read (sign_of at (codes ";") end) (λ semicolon left. got t left)))

-- { text "." "add" "(" child ")" ";" }, so many at most
unfoldable pub additions : List ℕ → ℕ → Row → Read (List Term)
additions text zero row = after_word text row (λ at rest. fails (here Limit rest)) (got [] row)
additions text (suc n) row =
    after_word text row (λ at rest. then_read (addition at rest) (λ t more. map_read (λ ts. t ∷ ts) (additions text n more))) (got [] row)

-- what is in the list, and what is added to it: no more in all than a list may have
abbrev pub with_additions : List ℕ → List Term → Row → Read (List Term)
with_additions text ts row = map_read (λ more. ts ++ more) (additions text (most_elements - length ts) row)

-- "return" text ";" "}"
abbrev pub returned_local : List ℕ → Row → Read Place
returned_local text row = after_word (codes "return") row (λ at rest. then_read (word_of at text rest) (λ w semicolon.
    then_read (sign_of at (codes ";") semicolon) (λ end brace. block_end brace))) (fails (here (other_code row) row))

-- behind the local's `new`: its list, what is added to it, and that it is returned
abbrev pub filled_local : Local → Row → Read Made
filled_local l row = then_read (new_list l.at row) (λ ts end. then_read (sign_of l.at (codes ";") end) (λ semicolon rest.
    then_read (with_additions l.name.text ts rest) (λ all last. then_read (returned_local l.name.text last) (λ brace left.
    got (record { at = l.at; items = all }) left))))

-- "List" local filled_local | "return" "new" and a list, behind the `{` at this place
abbrev pub list_block : (named at : Place) → Row → Read Made
list_block named at row = after_word (codes "List") row (λ w rest. then_read (local named rest) (λ l left. filled_local l left))
    (then_read (making_block named at row) whole_list)

-- the body of a constant that is a list
abbrev pub made_list : (named : Place) → Row → Read Made
made_list named row = after_sign (codes "=") row (λ at rest. then_read (making_equation named at rest) whole_list)
    (then_read (sign_of named (codes "{") row) (list_block named))
