-- An expression that is spelled is gone over whole, with and without a limit.
use Rattle.std.proofs.Common.{◌≡◌, ℕ, suc, ◌+◌, ◌<◌, ◌≤◌, ◌^◌, ℤ, List, [], ◌∷◌, ◌++◌, Bool, true, false, max, Option, Some, None, refl, sym, ap, subst, ◌∙◌, append_assoc, arith, inl, inr}
use Rattle.std.specs.Prelude.{◌==◌, nat_le, ◌&&◌, ◌||◌, decimal, if◌then◌else◌}
use Rattle.std.specs.List.{flat_map}
use Rattle.std.specs.Str.{bytes_eq}
use Rattle.std.proofs.lemmas.Fmt.{decimal_is_IsNumeral}
use Rattle.std.proofs.lemmas.List.Concat.{flat_map-cons}
use Rattle.std.proofs.lemmas.Slice.Eq.{bytes_eq-Decides}
use lib.Chars.{codes}
use Rattle.at_model.specs.Names.{is_name, reserved_words}
use Rattle.at_model.specs.Texts.{escaped, quoted}
use Rattle.at_text.specs.Reading.{first}
use Rattle.at_text.specs.Symbols.{PlacedToken}
use Rattle.at_text.specs.declared.place.Place.{Place}
use Rattle.at_jrag.specs.Grammar as grammar
use Rattle.at_text.specs.Rows.{Row, sign, word, is_sign, is_word, next_is}
use Rattle.at_jrag.specs.Grammar.{is_number, follows_cast, number, quotation, Spells, level, depth, deepest}
use Rattle.at_jrag.specs.Syntax as syntax
use Rattle.at_jrag.specs.Syntax.{Expr, Exprs}
use Rattle.at_text.specs.Machine.{Stuck, Refused, run}
use Rattle.at_jrag.specs.Wants as want
use Rattle.at_jrag.specs.Wants.{Want, Expression, Binary, Links, Unary, Calls, FirstArgument, MoreArguments, Primary}
use Rattle.at_jrag.specs.Table.{next, table, is_get_child, is_literal, is_number_within, is_quoted, ends_quoted}
use Rattle.at_jrag.specs.Runs.{Goes, Moves}
use Rattle.at_text.proofs.MachineLaws.{run-same}
use Rattle.at_jrag.proofs.of_expressions.ExpressionSteps.{no_word, reserved_is_no_name, name_is, sign_is}
use Rattle.at_jrag.proofs.of_expressions.ExpressionRanks.{Ends, EndsWhole, Taken, taken_unary, taken_link, expression_of, Facts, operator_facts, ends_operator}
use Rattle.at_jrag.proofs.of_expressions.ExpressionRuns.{NoCastBehind, unary_is_primary, calls_end, then_moves, moves_on, operation_moves, instance_moves, choice_goes, not_goes, minus_goes, negative_goes, cast_goes, call_moves, arguments_go, no_arguments_go, first_goes, more_none, more_moves, literal_goes, name_goes, call_goes, paren_goes, fold_goes}
use Rattle.std.proofs.lemmas.Bool.{le-leb}

-- ---- literals

pub number_is : (most m : ℕ) (at : Place) → most ≤ 2147483648 → m ≤ most → is_number_within most (number (decimal m) at) ≡ true
number_is most m at h k =
    let small : m < 2 ^ 64 = omega (arith, h, k) in
    ap (λ v. nat_le v most && bytes_eq (decimal v) (decimal m)) (decimal_is_IsNumeral m small).1
    ∙ ap (λ x. x && bytes_eq (decimal m) (decimal m)) (le-leb m most k)
    ∙ (bytes_eq-Decides (decimal m) (decimal m)).1 refl

-- a byte that stands for itself, and one behind a backslash
stands_plain : (b : ℕ) (tail : List ℕ) → b == 92 ≡ false → b == 34 ≡ false → b == 10 ≡ false → b == 9 ≡ false → ends_quoted tail ≡ true → ends_quoted (b ∷ tail) ≡ true
stands_plain b [] s q n t h = absurd cc
stands_plain b (c ∷ cs) s q n t h = simp (s, q, n, t, h)

escape_case : (w x y z : Bool) (b : ℕ) (tail : List ℕ) → b == 34 ≡ w → b == 92 ≡ x → b == 10 ≡ y → b == 9 ≡ z → ends_quoted tail ≡ true
    → ends_quoted ((if w then 92 ∷ 34 ∷ [] else (if x then 92 ∷ 92 ∷ [] else (if y then 92 ∷ 110 ∷ [] else (if z then 92 ∷ 116 ∷ [] else b ∷ [])))) ++ tail) ≡ true
escape_case true x y z b tail q s n t h = h
escape_case false true y z b tail q s n t h = h
escape_case false false true z b tail q s n t h = h
escape_case false false false true b tail q s n t h = h
escape_case false false false false b tail q s n t h = stands_plain b tail s q n t h

body_ends : (bytes : List ℕ) → ends_quoted (flat_map escaped bytes ++ 34 ∷ []) ≡ true
body_ends [] = refl
body_ends (b ∷ bs) =
    ap (λ l. ends_quoted (l ++ 34 ∷ [])) (flat_map-cons escaped b bs)
    ∙ ap ends_quoted (append_assoc (escaped b) (flat_map escaped bs) (34 ∷ []))
    ∙ escape_case (b == 34) (b == 92) (b == 10) (b == 9) b (flat_map escaped bs ++ 34 ∷ []) refl refl refl refl (body_ends bs)

pub quoted_is : (bytes : List ℕ) → is_quoted (quoted bytes) ≡ true
quoted_is bytes = body_ends bytes

-- ---- what follows

pub next_first : (test : PlacedToken → Bool) (row : Row) → next_is test row ≡ next test (first row)
next_first test [] = refl
next_first test (t ∷ ts) = refl

-- these end an expression
close_ends : (at : Place) → EndsWhole (Some (sign (codes ")") at))
close_ends at = record { ends = record { cast = refl; dot = refl; links = λ j h e. omega (arith, e) }; choice = refl }

comma_ends : (at : Place) → EndsWhole (Some (sign (codes ",") at))
comma_ends at = record { ends = record { cast = refl; dot = refl; links = λ j h e. omega (arith, e) }; choice = refl }

colon_ends : (at : Place) → EndsWhole (Some (sign (codes ":") at))
colon_ends at = record { ends = record { cast = refl; dot = refl; links = λ j h e. omega (arith, e) }; choice = refl }

brace_ends : (at : Place) → EndsWhole (Some (sign (codes "}") at))
brace_ends at = record { ends = record { cast = refl; dot = refl; links = λ j h e. omega (arith, e) }; choice = refl }

question_ends : (at : Place) → Ends 6 (Some (sign (codes "?") at))
question_ends at = record { cast = refl; dot = refl; links = λ j h e. omega (arith, e) }

instance_ends : (at : Place) → Ends 2 (Some (word (codes "instanceof") at))
unfolding reserved_words
instance_ends at = record { cast = ap (λ x. (x || false) || false) (reserved_is_no_name (codes "instanceof") refl); dot = refl; links = λ j h e. omega (arith, h, e) }

whole_at : (t : PlacedToken) (row rest : Row) → row ≡ t ∷ rest → EndsWhole (Some t) → EndsWhole (first row)
whole_at t row rest e h = subst (λ (x : Option PlacedToken). EndsWhole x) (sym (ap first e)) h

ends_at : (r : ℕ) (t : PlacedToken) (row rest : Row) → row ≡ t ∷ rest → Ends r (Some t) → Ends r (first row)
ends_at r t row rest e h = subst (λ (x : Option PlacedToken). Ends r x) (sym (ap first e)) h

-- ---- what is taken

-- a primary with its calls is gone over up to where calls may go on
abbrev PrimaryCalls : ℕ → Row → Row → Type 0
PrimaryCalls n old rest = (l : Bool) (b : ℕ) → (l ≡ true → n ≤ b) → (ws : List Want) (d : ℕ) → run l table (Primary b ∷ Calls b ∷ ws) d old ≡ run l table (Calls b ∷ ws) n rest

-- an expression of this level and depth is gone over, wherever its level may stand
pub record Accepted (level n : ℕ) (old rest : Row) : Type 0 where
  pub post : 8 ≤ level → next follows_cast (first rest) ≡ false → Goes Unary (λ b. Calls b ∷ []) n old rest
  pub primary : 8 ≤ level → next follows_cast (first rest) ≡ false → next (is_sign (codes "-")) (first old) ≡ false → PrimaryCalls n old rest
  pub taken : 1 ≤ level → Taken level n old rest
  pub whole : EndsWhole (first rest) → Goes Expression (λ b. []) n old rest

by_taken : (level n : ℕ) (old rest : Row) → 1 ≤ level → level ≤ 7 → Taken level n old rest → Accepted level n old rest
by_taken level n old rest low high t = record {
  post = λ h f. absurd (omega (arith, high, h));
  primary = λ h f m. absurd (omega (arith, high, h));
  taken = λ h. t;
  whole = λ w. expression_of level n old rest low t w;
}

by_post : (level n : ℕ) (old rest : Row) → 1 ≤ level → (next follows_cast (first rest) ≡ false
    → Goes Unary (λ b. Calls b ∷ []) n old rest) → (next follows_cast (first rest) ≡ false
    → next (is_sign (codes "-")) (first old) ≡ false → PrimaryCalls n old rest) → Accepted level n old rest
unfolding table
by_post level n old rest low post primary =
    let t : Taken level n old rest = taken_unary level n old rest (λ e l b f ws d. run-same l table (Binary 0 b) (Unary b) ws d old refl ∙ post e.cast l b f ws d ∙ calls_end n rest e.dot l b f ws) in
    record {
      post = λ h f. post f;
      primary = λ h f m. primary f m;
      taken = λ h. t;
      whole = λ w. expression_of level n old rest low t w;
    }

-- a primary that begins with no sign
by_primary : (level n : ℕ) (old rest : Row) → 1 ≤ level → next (is_sign (codes "-")) (first old) ≡ false
    → next (is_sign (codes "!")) (first old) ≡ false → (next follows_cast (first rest) ≡ false → NoCastBehind old)
    → (next follows_cast (first rest) ≡ false → Goes Primary (λ b. []) n old rest) → Accepted level n old rest
by_primary level n old rest low m e none p = by_post level n old rest low
    (λ f l b g ws d. unary_is_primary l b ws d old m e (none f) ∙ p f l b g (Calls b ∷ ws) d)
    (λ f k l b g ws d. p f l b g (Calls b ∷ ws) d)

by_unary : (level n : ℕ) (old rest : Row) → 1 ≤ level → level ≤ 7 → (Ends 0 (first rest) → Goes Unary (λ b. []) n old rest) → Accepted level n old rest
unfolding table
by_unary level n old rest low high g = by_taken level n old rest low high (taken_unary level n old rest (λ e l b f ws d. run-same l table (Binary 0 b) (Unary b) ws d old refl ∙ g e l b f ws d))

-- an operand of a unary
operand : (level n : ℕ) (old rest : Row) → 7 ≤ level → Accepted level n old rest → Ends 0 (first rest) → Goes Unary (λ b. []) n old rest
unfolding table
operand level n old rest h a e l b f ws d = run-same l table (Unary b) (Binary 0 b) ws d old refl ∙ (a.taken (omega (arith, h))).whole 0 (omega (arith, h)) e l b f ws d

no_paren : (old : Row) → next (is_sign (codes "(")) (first old) ≡ false → NoCastBehind old
no_paren old e at one same = absurd (let q : false ≡ true = sym e ∙ ap (λ r. next (is_sign (codes "(")) (first r)) same in cc)

-- ---- each form

pub deep : (e : Expr) → 1 ≤ depth e
deep (syntax.Number at n) = omega arith
deep (syntax.TextLiteral at bytes) = omega arith
deep (syntax.Truth at b) = omega arith
deep (syntax.Null at) = omega arith
deep (syntax.This at) = omega arith
deep (syntax.Name at text) = omega arith
deep (syntax.Call at name es) = omega arith
deep (syntax.CallOf at e name es) = omega arith
deep (syntax.Paren at e) = omega arith
deep (syntax.Negate at e) = omega arith
deep (syntax.Not at e) = omega arith
deep (syntax.Cast at class e) = omega arith
deep (syntax.InstanceOf at e behind class) = omega arith
deep (syntax.Binary at o between a b) = omega arith
deep (syntax.Choose at c behind a b) = omega arith
deep (syntax.Fold at form name list body) = omega arith

-- a literal of one token that is no sign
literal_accepted : (t : PlacedToken) (old rest : Row) → old ≡ t ∷ rest → is_literal t ≡ true → is_sign (codes "-") t
    ≡ false → is_sign (codes "!") t ≡ false → is_sign (codes "(") t ≡ false → Accepted 8 1 old rest
literal_accepted t old rest e is m n p = by_primary 8 1 old rest (omega arith) (ap (λ r. next (is_sign (codes "-")) (first r)) e ∙ m) (ap (λ r. next (is_sign (codes "!")) (first r)) e ∙ n)
    (λ f. no_paren old (ap (λ r. next (is_sign (codes "(")) (first r)) e ∙ p)) (λ f. literal_goes t old rest e is)

or_first : (a b : Bool) → a ≡ true → a || b ≡ true
or_first true b e = refl
or_first false b e = absurd cc

pub number_literal : (t : PlacedToken) → is_number_within 2147483647 t ≡ true → is_literal t ≡ true
number_literal t e = or_first (is_number_within 2147483647 t) _ e

number_accepted : (at : Place) (n : ℤ) (old rest : Row) → grammar.NumberOf at n old rest → Accepted 8 1 old rest
number_accepted at n old rest (inl (m, small, is, e)) = literal_accepted (number (decimal m) at) old rest e
    (number_literal (number (decimal m) at) (number_is 2147483647 m at (omega arith) small)) refl refl refl
number_accepted at n old rest (inr (m, digits, small, is, e)) = by_post 8 1 old rest (omega arith)
    (λ f. negative_goes at digits (decimal m) old rest e (number_is 2147483648 m digits (omega arith) small))
    (λ f minus. absurd (let q : true ≡ false = sym (ap (λ r. next (is_sign (codes "-")) (first r)) e) ∙ minus in cc))

text_accepted : (at : Place) (bytes : List ℕ) (old rest : Row) → old ≡ quotation (quoted bytes) at ∷ rest → Accepted 8 1 old rest
text_accepted at bytes old rest e = literal_accepted (quotation (quoted bytes) at) old rest e (ap (λ x. x || false) (quoted_is bytes)) refl refl refl

truth_accepted : (b : Bool) (at : Place) (old rest : Row) → old ≡ word (grammar.truth_text b) at ∷ rest → Accepted 8 1 old rest
truth_accepted true at old rest e = literal_accepted (word (codes "true") at) old rest e refl refl refl refl
truth_accepted false at old rest e = literal_accepted (word (codes "false") at) old rest e refl refl refl refl

open_follows : (x : Bool) (t : PlacedToken) → is_sign (codes "(") t ≡ x → follows_cast t ≡ false → x ≡ false
open_follows false t e f = refl
open_follows true t e f = let same = sign_is (codes "(") t e in absurd (let q : true ≡ false = sym (ap follows_cast same) ∙ f in cc)

no_open : (s : Option PlacedToken) → next follows_cast s ≡ false → next (is_sign (codes "(")) s ≡ false
no_open None f = refl
no_open (Some t) f = open_follows (is_sign (codes "(") t) t refl f

name_accepted : (text : List ℕ) (at : Place) (old rest : Row) → old ≡ word text at ∷ rest → is_name text ≡ true → Accepted 8 1 old rest
name_accepted text at old rest e is = by_primary 8 1 old rest (omega arith) (ap (λ r. next (is_sign (codes "-")) (first r)) e) (ap (λ r. next (is_sign (codes "!")) (first r)) e)
    (λ f. no_paren old (ap (λ r. next (is_sign (codes "(")) (first r)) e)) (λ f. name_goes text at old rest e is (no_open (first rest) f))

-- the parenthesis around an expression is a cast's in no case
tail_is : (t u : PlacedToken) (x y : Row) → t ∷ x ≡ u ∷ y → x ≡ y
tail_is t u x y e = cc

stuck_tail : (x y : Row) → Stuck Refused x ≡ Stuck Refused y → x ≡ y
stuck_tail x y e = cc

stuck_close : (n : ℕ) (at : Place) (rest : Row) → run false table [] n (sign (codes ")") at ∷ rest) ≡ Stuck Refused (sign (codes ")") at ∷ rest)
unfolding run
stuck_close n at rest = refl

paren_is_no_cast : (at close_at : Place) (n : ℕ) (old one close rest : Row) → old ≡ sign (codes "(") at ∷ one
    → Goes Expression (λ b. []) n one close → close ≡ sign (codes ")") close_at ∷ rest
    → next follows_cast (first rest) ≡ false → NoCastBehind old
paren_is_no_cast at close_at n old one close rest e g c f at2 one2 e2 t u rest2 split named closes =
    let same : one ≡ one2 = tail_is _ _ one one2 (sym e ∙ e2) in
    let name = name_is t named in
    let shut = sign_is (codes ")") u closes in
    let other = (name_accepted t.text t.at one2 (u ∷ rest2) (split ∙ ap (λ x. x ∷ u ∷ rest2) name.0) name.1).whole
    (whole_at (sign (codes ")") u.at) (u ∷ rest2) rest2 (ap (λ x. x ∷ rest2) shut) (close_ends u.at)) in
    let left : run false table (Expression 0 ∷ []) 0 one ≡ Stuck Refused (sign (codes ")") close_at ∷ rest) =
    g false 0 (λ l. absurd cc) [] 0 ∙ ap (run false table [] n) c ∙ stuck_close n close_at rest in
    let right : run false table (Expression 0 ∷ []) 0 one2 ≡ Stuck Refused (sign (codes ")") u.at ∷ rest2) = other false
    0 (λ l. absurd cc) [] 0 ∙ ap (λ x. run false table [] 1 (x ∷ rest2)) shut ∙ stuck_close 1 u.at rest2 in
    let met : sign (codes ")") close_at ∷ rest ≡ sign (codes ")") u.at ∷ rest2 = stuck_tail _ _ (sym left ∙ ap (run false table (Expression 0 ∷ []) 0) same ∙ right) in
    ap (λ r. next follows_cast (first r)) (sym (tail_is _ _ rest rest2 met)) ∙ f

paren_accepted : (at close_at : Place) (n : ℕ) (old one close rest : Row) → 1 ≤ n → old ≡ sign (codes "(") at ∷ one
    → Goes Expression (λ b. []) n one close → close ≡ sign (codes ")") close_at ∷ rest → Accepted 8 (1 + n) old rest
paren_accepted at close_at n old one close rest some e g c = by_primary 8 (1 + n) old rest (omega arith)
    (ap (λ r. next (is_sign (codes "-")) (first r)) e) (ap (λ r. next (is_sign (codes "!")) (first r)) e)
    (λ f. paren_is_no_cast at close_at n old one close rest e g c f) (λ f. paren_goes at close_at n old one close rest some e g c)

operation_accepted : (o : syntax.Operator) (at : Place) (f : Facts o at) (j k m n : ℕ) (old link right rest : Row) → grammar.operator_level o ≤ j → grammar.operator_level o + 1 ≤ k
    → Accepted j m old link → link ≡ sign (grammar.operator_text o) at ∷ right → Accepted k n right rest → Accepted (grammar.operator_level o) (1 + max m n) old rest
operation_accepted o at f j k m n old link right rest lj lk a e b = by_taken (grammar.operator_level o) (1 + max m n) old rest f.low (omega (arith, f.level))
    (taken_link (grammar.operator_level o) f.rank (1 + max m n) old rest f.level (λ ends.
    then_moves (Binary (suc f.rank)) (λ b. Links f.rank b ∷ []) (λ b. Links f.rank b ∷ []) m (1 + max m n) old link rest (omega arith)
    ((a.taken (omega (arith, f.low, lj))).linked f.rank (omega (arith, f.level, lj)) (ends_at f.rank (sign (grammar.operator_text o) at) link right e (ends_operator o at f)))
    (operation_moves o at f m n link right rest e ((b.taken (omega (arith, f.low, lk))).whole f.rank (omega (arith, f.level, lk)) ends))))

instance_accepted : (at name_at : Place) (text : List ℕ) (j m : ℕ) (old link rest : Row) → 4 ≤ j → Accepted j m old link
    → link ≡ word (codes "instanceof") at ∷ word text name_at ∷ rest → is_name text ≡ true → Accepted 4 (1 + m) old rest
instance_accepted at name_at text j m old link rest h a e is = by_taken 4 (1 + m) old rest (omega arith) (omega arith)
    (taken_link 4 2 (1 + m) old rest refl (λ ends.
    then_moves (Binary 3) (λ b. Links 2 b ∷ []) (λ b. Links 2 b ∷ []) m (1 + m) old link rest (omega arith)
    ((a.taken (omega (arith, h))).linked 2 (omega (arith, h)) (ends_at 2 (word (codes "instanceof") at) link (word text name_at ∷ rest) e (instance_ends at)))
    (instance_moves at name_at text m link rest e is)))

choice_accepted : (at colon_at : Place) (j k m n : ℕ) (old link chosen colon other rest : Row) → 1 ≤ j → Accepted j k old link → link ≡ sign (codes "?") at ∷ chosen
    → Goes Expression (λ b. []) m chosen colon → colon ≡ sign (codes ":") colon_at ∷ other
    → (EndsWhole (first rest) → Goes Expression (λ b. []) n other rest) → Accepted 0 (1 + max k (max m n)) old rest
choice_accepted at colon_at j k m n old link chosen colon other rest low c e t z o = record {
  post = λ h f. absurd (omega (arith, h));
  primary = λ h f x. absurd (omega (arith, h));
  taken = λ h. absurd (omega (arith, h));
  whole = λ w. choice_goes k m n at colon_at old link chosen colon other rest ((c.taken low).whole 6
      (omega (arith, low)) (ends_at 6 (sign (codes "?") at) link chosen e (question_ends at))) e t z (o w);
}

dot_follows : (at : Place) (old rest : Row) → old ≡ sign (codes ".") at ∷ rest → next follows_cast (first old) ≡ false
dot_follows at old rest e = ap (λ r. next follows_cast (first r)) e

call_of_accepted : (dot_at name_at : Place) (text : List ℕ) (j m n : ℕ) (old dot paren rest : Row) → 8 ≤ j
    → Accepted j m old dot → dot ≡ sign (codes ".") dot_at ∷ word text name_at ∷ paren → is_name text ≡ true
    → Goes (want.Arguments (is_get_child (word text name_at))) (λ b. []) n paren rest → Accepted 8 (1 + max m n) old rest
call_of_accepted dot_at name_at text j m n old dot paren rest h a e is g =
    let moves = call_moves dot_at name_at text m n dot paren rest e is g in
    by_post 8 (1 + max m n) old rest (omega arith)
    (λ f. then_moves Unary (λ b. Calls b ∷ []) (λ b. Calls b ∷ []) m (1 + max m n) old dot rest (omega arith) (a.post h (dot_follows dot_at dot _ e)) moves)
    (λ f minus l b fits ws d. a.primary h (dot_follows dot_at dot _ e) minus l b (λ x. omega (arith, fits x)) ws d ∙ moves l b fits ws)

call_accepted : (text : List ℕ) (at paren_at : Place) (n : ℕ) (old list rest : Row)
    → old ≡ word text at ∷ sign (codes "(") paren_at ∷ list → is_name text ≡ true
    → Goes (FirstArgument (is_get_child (word text at))) (λ b. []) n list rest → Accepted 8 (1 + n) old rest
call_accepted text at paren_at n old list rest e is g = by_primary 8 (1 + n) old rest (omega arith)
    (ap (λ r. next (is_sign (codes "-")) (first r)) e) (ap (λ r. next (is_sign (codes "!")) (first r)) e)
    (λ f. no_paren old (ap (λ r. next (is_sign (codes "(")) (first r)) e)) (λ f. call_goes text at paren_at n old list rest e is g)

fold_accepted : (form : syntax.FoldForm) (at : Place) (n : ℕ) (old mid rest : Row) → old ≡ word (grammar.fold_text form) at ∷ mid → Goes Primary (λ b. []) n old rest → Accepted 8 n old rest
fold_accepted form at n old mid rest e g = by_primary 8 n old rest (omega arith) (ap (λ r. next (is_sign (codes "-")) (first r)) e) (ap (λ r. next (is_sign (codes "!")) (first r)) e)
    (λ f. no_paren old (ap (λ r. next (is_sign (codes "(")) (first r)) e)) (λ f. g)

-- ---- all

-- what no expression begins with
pub record Heads (old : Row) : Type 0 where
  pub close : next (is_sign (codes ")")) (first old) ≡ false
  pub int : next (is_word (codes "int")) (first old) ≡ false

heads_at : (t : PlacedToken) (old rest : Row) → old ≡ t ∷ rest → is_sign (codes ")") t ≡ false → is_word (codes "int") t ≡ false → Heads old
heads_at t old rest e c i = record { close = ap (λ r. next (is_sign (codes ")")) (first r)) e ∙ c; int = ap (λ r. next (is_word (codes "int")) (first r)) e ∙ i }

name_heads : (w : syntax.Word) (old rest : Row) → grammar.Name w old rest → Heads old
unfolding reserved_words
name_heads w old rest h = heads_at (word w.text w.at) old rest h.1 refl (no_word w.text (codes "int") refl h.0)

number_heads : (at : Place) (n : ℤ) (old rest : Row) → grammar.NumberOf at n old rest → Heads old
number_heads at n old rest (inl h) = heads_at _ old rest h.3 refl refl
number_heads at n old rest (inr h) = heads_at _ old _ h.4 refl refl

truth_heads : (b : Bool) (at : Place) (old rest : Row) → old ≡ word (grammar.truth_text b) at ∷ rest → Heads old
truth_heads true at old rest e = heads_at _ old rest e refl refl
truth_heads false at old rest e = heads_at _ old rest e refl refl

fold_heads : (f : syntax.FoldForm) (at : Place) (old rest : Row) → old ≡ word (grammar.fold_text f) at ∷ rest → Heads old
fold_heads syntax.Exists at old rest e = heads_at _ old rest e refl refl
fold_heads syntax.First at old rest e = heads_at _ old rest e refl refl
fold_heads syntax.Sum at old rest e = heads_at _ old rest e refl refl

pub heads : (e : Expr) (old rest : Row) → Spells e old rest → Heads old
heads (syntax.Number at n) old rest h = number_heads at n old rest h
heads (syntax.TextLiteral at bytes) old rest h = heads_at _ old rest h refl refl
heads (syntax.Truth at b) old rest h = truth_heads b at old rest h
heads (syntax.Null at) old rest h = heads_at _ old rest h refl refl
heads (syntax.This at) old rest h = heads_at _ old rest h refl refl
heads (syntax.Name at text) old rest h = name_heads _ old rest h
heads (syntax.Call at name es) old rest (paren, list, n, o, a) = name_heads _ old paren n
heads (syntax.CallOf at e name es) old rest (dot, called, paren, list, name_at, same, post, r, d, n, o, a) = heads e old dot r
heads (syntax.Paren at e) old rest (one, close, p, r, c) = heads_at _ old one p refl refl
heads (syntax.Negate at e) old rest (one, p, none, post, r) = heads_at _ old one p refl refl
heads (syntax.Not at e) old rest (one, p, post, r) = heads_at _ old one p refl refl
heads (syntax.Cast at class e) old rest (named, close, one, p, n, c, f, post, r) = heads_at _ old named p refl refl
heads (syntax.InstanceOf at e behind class) old rest (link, named, same, lean, r, l, n) = heads e old link r
heads (syntax.Binary at o between a b) old rest (link, right, same, lean, strong, p, l, q) = heads a old link p
heads (syntax.Choose at c behind a b) old rest (link, chosen, colon, other, same, lean, p, l, q, m, r) = heads c old link p
heads (syntax.Fold at form name list body) old rest (paren, named, colon, items, close, brace, one, end, w, p, n, m, plain, post, q, c, b, r, z) = fold_heads form at old paren w

more_ends : (es : Exprs) (more rest : Row) → grammar.MoreArguments es more rest → EndsWhole (first more)
more_ends syntax.no_exprs more rest h = whole_at _ more rest h.1 (close_ends h.0)
more_ends (syntax.expr e es) more rest h = whole_at _ more h.0 h.2.1 (comma_ends h.2.0)

and_second : (a b : Bool) → b ≡ false → a && b ≡ false
and_second true b e = e
and_second false b e = refl

max_zero : (m : ℕ) → m ≡ max m 0
max_zero m = omega arith

max_assoc : (a b c : ℕ) → max (max a b) c ≡ max a (max b c)
max_assoc a b c = omega arith

mutual
  pub accepted : (e : Expr) (old rest : Row) → Spells e old rest → Accepted (level e) (depth e) old rest
  accepted (syntax.Number at n) old rest h = number_accepted at n old rest h
  accepted (syntax.TextLiteral at bytes) old rest h = text_accepted at bytes old rest h
  accepted (syntax.Truth at b) old rest h = truth_accepted b at old rest h
  accepted (syntax.Null at) old rest h = literal_accepted (word (codes "null") at) old rest h refl refl refl refl
  accepted (syntax.This at) old rest h = literal_accepted (word (codes "this") at) old rest h refl refl refl refl
  accepted (syntax.Name at text) old rest h = name_accepted text at old rest h.1 h.0
  accepted (syntax.Call at name es) old rest (paren, list, n, o, a) =
      call_accepted name at o.0.0 (deepest es) old list rest (n.1 ∙ ap (λ r. word name at ∷ r) o.0.1) n.0 (first_accepted es list rest a (bytes_eq name (codes "getChild")))
  accepted (syntax.CallOf at e name es) old rest (dot, called, paren, list, name_at, same, post, r, d, n, o, a) =
      call_of_accepted d.0 name_at name (level e) (depth e) (deepest es) old dot paren rest post (accepted e old dot r) (d.1 ∙ ap (λ r. sign (codes ".") d.0 ∷ r) n.1) n.0
      (arguments_go (bytes_eq name (codes "getChild")) o.0.0 (deepest es) paren list rest o.0.1 (first_accepted es list rest a (bytes_eq name (codes "getChild"))))
  accepted (syntax.Paren at e) old rest (one, close, p, r, c) =
      paren_accepted at c.0 (depth e) old one close rest (deep e) p ((accepted e one close r).whole (whole_at _ close rest c.1 (close_ends c.0))) c.1
  accepted (syntax.Negate at e) old rest (one, p, none, post, r) = by_unary 7 (1 + depth e) old rest (omega arith) (omega arith)
      (λ f. minus_goes at (depth e) old one rest (deep e) p (sym (next_first is_number one) ∙ none) (operand (level e) (depth e) one rest post (accepted e one rest r) f))
  accepted (syntax.Not at e) old rest (one, p, post, r) = by_unary 7 (1 + depth e) old rest (omega arith) (omega arith)
      (λ f. not_goes at (depth e) old one rest (deep e) p (operand (level e) (depth e) one rest post (accepted e one rest r) f))
  accepted (syntax.Cast at class e) old rest (named, close, one, p, n, c, f, post, r) = by_unary 7 (1 + depth e) old rest (omega arith) (omega arith)
      (λ x. cast_goes at class.at c.0 class.text (depth e) old one rest (deep e) (p ∙ ap (λ r. sign (codes "(") at ∷ r)
      (n.1 ∙ ap (λ r. word class.text class.at ∷ r) c.1)) n.0 (sym (next_first follows_cast one) ∙ f)
      (operand (level e) (depth e) one rest post (accepted e one rest r) x))
  accepted (syntax.InstanceOf at e behind class) old rest (link, named, same, lean, r, l, n) =
      instance_accepted behind class.at class.text (level e) (depth e) old link rest lean (accepted e old link r) (l ∙ ap (λ r. word (codes "instanceof") behind ∷ r) n.1) n.0
  accepted (syntax.Binary at o between a b) old rest (link, right, same, lean, strong, p, l, q) =
      operation_accepted o between (operator_facts o between) (level a) (level b) (depth a) (depth b) old link right rest lean strong (accepted a old link p) l (accepted b right rest q)
  accepted (syntax.Choose at c behind a b) old rest (link, chosen, colon, other, same, lean, p, l, q, m, r) =
      choice_accepted behind m.0 (level c) (depth c) (depth a) (depth b) old link chosen colon other rest lean
      (accepted c old link p) l ((accepted a chosen colon q).whole (whole_at _ colon other m.1 (colon_ends m.0)))
      m.1 (λ w. (accepted b other rest r).whole w)
  accepted (syntax.Fold at form name list body) old rest (paren, named, colon, items, close, brace, one, end, w, p, n, m, plain, post, q, c, b, r, z) =
      fold_accepted form at (1 + max (depth list) (depth body)) old paren rest w
      (fold_goes form at p.0 name.at m.0 c.0 b.0 z.0 name.text (depth list) (depth body) old items close one end rest (deep list)
      (w ∙ ap (λ r. word (grammar.fold_text form) at ∷ r) (p.1 ∙ ap (λ r. sign (codes "(") p.0 ∷ r) (n.1 ∙ ap (λ r. word name.text name.at ∷ r) m.1))) n.0
      (λ l x fits ws d. (accepted list items close q).primary post (ap (λ r. next follows_cast (first r)) c.1) (sym (next_first (is_sign (codes "-")) items) ∙ plain) l x fits ws d
      ∙ calls_end (depth list) close (ap (λ r. next (is_sign (codes ".")) (first r)) c.1) l x fits ws)
      (c.1 ∙ ap (λ r. sign (codes ")") c.0 ∷ r) b.1) ((accepted body one end r).whole (whole_at _ end rest z.1 (brace_ends z.0))) z.1)

  first_accepted : (es : Exprs) (list rest : Row) → grammar.Arguments es list rest → (g : Bool) → Goes (FirstArgument g) (λ b. []) (deepest es) list rest
  first_accepted syntax.no_exprs list rest h g = no_arguments_go g h.0 list rest h.1
  first_accepted (syntax.expr e es) list rest (more, r, m) g =
      let head = heads e list more r in
      first_goes g (depth e) (max (depth e) (deepest es)) list more rest (omega arith) head.close
      (and_second g _ head.int) ((accepted e list more r).whole (more_ends es more rest m))
      (more_accepted es (depth e) more rest m)

  more_accepted : (es : Exprs) (m : ℕ) (more rest : Row) → grammar.MoreArguments es more rest → Moves (λ b. MoreArguments b ∷ []) (λ b. []) m (max m (deepest es)) more rest
  more_accepted syntax.no_exprs m more rest h = subst (λ (k : ℕ). Moves (λ b. MoreArguments b ∷ []) (λ b. []) m k more rest) (max_zero m) (more_none h.0 m more rest h.1)
  more_accepted (syntax.expr e es) m more rest (one, mid, c, r, s) =
      subst (λ (k : ℕ). Moves (λ b. MoreArguments b ∷ []) (λ b. []) m k more rest) (max_assoc m (depth e) (deepest es))
      (moves_on (λ b. MoreArguments b ∷ []) (λ b. MoreArguments b ∷ []) (λ b. []) m (max m (depth e)) (max (max m (depth e)) (deepest es)) more mid rest (omega arith)
      (more_moves c.0 m (depth e) more one mid c.1 ((accepted e one mid r).whole (more_ends es mid rest s))) (more_accepted es (max m (depth e)) mid rest s))
