-- Kinds and parameters (Java Language Specification 4 and 8.4.1).
use Rattle.std.specs.Prelude.{ℕ, zero, suc, List, [], ◌∷◌, Bool, cond, ◌&&◌, ◌||◌}
use Rattle.std.specs.Str.{bytes_eq}
use lib.Chars.{codes}
use Rattle.at_text.specs.Symbols.{PlacedToken}
use Rattle.at_text.specs.Rows.{Row, is_sign, is_word, next_is}
use Rattle.at_jrag.specs.Syntax.{Int, Bool', Text, Class, KindWord, Param, Params}
use Rattle.at_java.specs.Read.{Read, got, fails, here, at_place, then_read}
use Rattle.at_java.specs.Tokens.{sign_here, name}
use Rattle.at_java.specs.Next.{after_word, after_sign, behind_word}
use Rattle.at_java.specs.declared.JavaCode.TheVariants.{LeftOut, Limit}

-- ---- kinds

-- "int" | "boolean" | "String" | name
abbrev pub kind_word : Row → Read KindWord
kind_word row =
    after_word (codes "int") row (λ at rest. got (record { kind = Int; at = at }) rest)
    (after_word (codes "boolean") row (λ at rest. got (record { kind = Bool'; at = at }) rest)
    (after_word (codes "String") row (λ at rest. got (record { kind = Text; at = at }) rest)
    (then_read (name row) (λ w rest. got (record { kind = Class w.text; at = w.at }) rest))))

-- the kind goes on: with arguments, as an array, or from its package
abbrev pub goes_on : PlacedToken → Bool
goes_on t = is_sign (codes "<") t || (is_sign (codes "[") t || is_sign (codes ".") t)

-- one that goes on is left out
abbrev pub whole_kind : KindWord → Row → Read KindWord
whole_kind k rest = cond (next_is goes_on rest) (fails (at_place LeftOut k.at)) (got k rest)

abbrev pub kind : Row → Read KindWord
kind row = then_read (kind_word row) whole_kind

-- ---- parameters

-- kind name
abbrev pub named_kind : Row → Read Param
named_kind row = then_read (kind row) (λ k rest. then_read (name rest) (λ w left. got (record { kind = k; name = w }) left))

-- ["final"] kind name
abbrev pub variable : Row → Read Param
variable row = named_kind (behind_word (codes "final") row)

abbrev pub most_params : ℕ
most_params = 255

abbrev pub first_param : Param → Params → Params
first_param p ps = record { items = p ∷ ps.items; end = ps.end }

-- variable { "," variable } ")", at most so many
unfoldable pub some_params : ℕ → Row → Read Params
some_params zero row = fails (here Limit row)
some_params (suc n) row = then_read (variable row) (λ p rest.
    after_sign (codes ")") rest (λ end left. got (record { items = p ∷ []; end = end }) left)
    (then_read (sign_here (codes ",") rest) (λ comma next.
    then_read (some_params n next) (λ ps left. got (first_param p ps) left))))

-- [variable { "," variable }] ")"
abbrev pub listed : Row → Read Params
listed row = after_sign (codes ")") row (λ end rest. got (record { items = []; end = end }) rest) (some_params most_params row)

-- "(" and what is listed, behind this name: `int` behind the one of `getChild` is left out
abbrev pub params : List ℕ → Row → Read Params
params text row = then_read (sign_here (codes "(") row) (λ paren rest.
    cond (bytes_eq text (codes "getChild") && next_is (is_word (codes "int")) rest) (fails (here LeftOut rest)) (listed rest))
