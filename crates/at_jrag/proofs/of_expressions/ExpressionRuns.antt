-- How the machine goes over a form of an expression, by how it goes over its parts.
use Rattle.std.proofs.Common.{◌≡◌, ℕ, ◌+◌, ◌-◌, ◌≤◌, List, [], ◌∷◌, Bool, true, false, cond, max, Some, refl, sym, ap, ◌∙◌, arith}
use Rattle.std.specs.Prelude.{nat_lt, ◌&&◌, ◌||◌, not}
use Rattle.std.proofs.lemmas.Bool.{lt-ltb}
use lib.Chars.{codes}
use Rattle.at_model.specs.Names.{is_name}
use Rattle.at_text.specs.Reading.{first}
use Rattle.at_text.specs.Symbols.{PlacedToken}
use Rattle.at_text.specs.declared.place.Place.{Place}
use Rattle.at_text.specs.Rows.{Row, sign, word, is_sign, is_word, is_name_token}
use Rattle.at_jrag.specs.Grammar.{is_number, follows_cast, number, operator_text, fold_text}
use Rattle.at_jrag.specs.Syntax as syntax
use Rattle.at_jrag.specs.Syntax.{Operator, FoldForm}
use Rattle.at_text.specs.Machine.{Answer, Takes, Skips, Refuses, LeavesOut, and_then, run}
use Rattle.at_jrag.specs.Read.{opens_cast}
use Rattle.at_jrag.specs.Wants.{Want, Expression, Binary, Links, Choice, Otherwise, Unary, Minus, Opened, Enclosed, Parenthesized, Calls, Called, Arguments, FirstArgument, MoreArguments, Primary, Named, FoldBody, Deeper, Join, Deepest, Counts, Name, Mark}
use Rattle.at_jrag.specs.Table.{next, on, table, is_get_child, is_literal, is_number_within, primary_answer, unary_answer, binary_answer, expression_answer}
use Rattle.at_jrag.specs.Runs.{Goes, Moves}
use Rattle.at_text.proofs.MachineLaws.{run-takes, run-skips}
use Rattle.at_text.proofs.MachineLaws.{run-begins}
use Rattle.at_jrag.proofs.of_expressions.ExpressionSteps.{run-acts, takes_alike, sign_is, NoCast, opened, name_primary, primary_stays, unary_stays, binary_stays, then_stays}
use Rattle.at_jrag.proofs.of_expressions.ExpressionRanks.{Facts, operator_taken}

pub then_moves : (want : ℕ → Want) (us vs : ℕ → List Want) (m n : ℕ) (old mid rest : Row) → m ≤ n → Goes want us m old mid → Moves us vs m n mid rest → Goes want vs n old rest
then_moves want us vs m n old mid rest h g s l b f ws d = g l b (λ e. omega (arith, h, f e)) ws d ∙ s l b f ws

pub moves_on : (us vs ts : ℕ → List Want) (m n k : ℕ) (old mid rest : Row) → n ≤ k → Moves us vs m n old mid → Moves vs ts n k mid rest → Moves us ts m k old rest
moves_on us vs ts m n k old mid rest h g s l b f ws = g l b (λ e. omega (arith, h, f e)) ws ∙ s l b f ws

-- ---- operators and choices

pub operation_moves : (o : Operator) (at : Place) (f : Facts o at) (m n : ℕ) (link right rest : Row) → link ≡ sign (operator_text o) at ∷ right → Goes (Binary f.rank) (λ b. []) n right rest
    → Moves (λ b. Links f.rank b ∷ []) (λ b. Links f.rank b ∷ []) m (1 + max m n) link rest
unfolding table
operation_moves o at f m n link right rest e g l b h ws =
    ap (run l table (Links f.rank b ∷ ws) m) e
    ∙ operator_taken l o at f b ws m right (λ x. lt-ltb m b (omega (arith, h x)))
    ∙ g l (b - 1) (λ x. omega (arith, h x)) (Join m ∷ Links f.rank b ∷ ws) 0
    ∙ run-skips l table (Join m) (Links f.rank b ∷ ws) n (1 + max m n) rest refl

pub instance_moves : (at name_at : Place) (text : List ℕ) (m : ℕ) (link rest : Row) → link ≡ word (codes "instanceof") at ∷ word text name_at ∷ rest → is_name text ≡ true
    → Moves (λ b. Links 2 b ∷ []) (λ b. Links 2 b ∷ []) m (1 + m) link rest
unfolding table
instance_moves at name_at text m link rest e is l b h ws =
    ap (run l table (Links 2 b ∷ ws) m) e
    ∙ run-takes l table (Links 2 b) (nat_lt m b) (Name ∷ Counts (1 + m) ∷ Links 2 b ∷ []) ws m 0 (word (codes "instanceof") at) (word text name_at ∷ rest) refl (λ x. lt-ltb m b (omega (arith, h x)))
    ∙ run-takes l table Name true [] (Counts (1 + m) ∷ Links 2 b ∷ ws) 0 0 (word text name_at) rest (ap (λ x. cond x (Takes true [] 0) Refuses) is) (λ x. refl)
    ∙ run-skips l table (Counts (1 + m)) (Links 2 b ∷ ws) 0 (1 + m) rest refl

pub expression_plain : (n : ℕ) (old rest : Row) → next (is_sign (codes "?")) (first rest) ≡ false → Goes (Binary 6) (λ b. []) n old rest → Goes Expression (λ b. []) n old rest
unfolding table
expression_plain n old rest e g l b f ws d =
    run-begins l table (Expression b) (Binary 6 b) (Choice b ∷ []) ws d old refl (binary_stays 6 b (first old))
    ∙ g l b f (Choice b ∷ ws) d
    ∙ run-skips l table (Choice b) ws n n rest (ap (λ x. cond x (Takes (nat_lt n b) (Expression (b - 1) ∷ Otherwise b n ∷ []) 0) (Skips n)) e)

pub choice_goes : (k m n : ℕ) (behind colon_at : Place) (old link then colon other rest : Row) → Goes (Binary 6) (λ b. []) k old link → link ≡ sign (codes "?") behind ∷ then
    → Goes Expression (λ b. []) m then colon → colon ≡ sign (codes ":") colon_at ∷ other → Goes Expression (λ b. []) n other rest → Goes Expression (λ b. []) (1 + max k (max m n)) old rest
unfolding table
choice_goes k m n behind colon_at old link then colon other rest c q t e o l b f ws d =
    run-begins l table (Expression b) (Binary 6 b) (Choice b ∷ []) ws d old refl (binary_stays 6 b (first old))
    ∙ c l b (λ h. omega (arith, f h)) (Choice b ∷ ws) d
    ∙ ap (run l table (Choice b ∷ ws) k) q
    ∙ run-takes l table (Choice b) (nat_lt k b) (Expression (b - 1) ∷ Otherwise b k ∷ []) ws k 0 (sign (codes "?") behind) then refl (λ h. lt-ltb k b (omega (arith, f h)))
    ∙ t l (b - 1) (λ h. omega (arith, f h)) (Otherwise b k ∷ ws) 0
    ∙ ap (run l table (Otherwise b k ∷ ws) m) e
    ∙ run-takes l table (Otherwise b k) true (Expression (b - 1) ∷ Deepest m ∷ Join k ∷ []) ws m 0 (sign (codes ":") colon_at) other refl (λ h. refl)
    ∙ o l (b - 1) (λ h. omega (arith, f h)) (Deepest m ∷ Join k ∷ ws) 0
    ∙ run-skips l table (Deepest m) (Join k ∷ ws) n (max m n) rest refl
    ∙ run-skips l table (Join k) ws (max m n) (1 + max k (max m n)) rest refl

-- ---- unaries

pub not_goes : (at : Place) (n : ℕ) (old one rest : Row) → 1 ≤ n → old ≡ sign (codes "!") at ∷ one → Goes Unary (λ b. []) n one rest → Goes Unary (λ b. []) (1 + n) old rest
unfolding table
not_goes at n old one rest some e g l b f ws d =
    ap (run l table (Unary b ∷ ws) d) e
    ∙ run-takes l table (Unary b) (nat_lt 1 b) (Unary (b - 1) ∷ Deeper ∷ []) ws d 0 (sign (codes "!") at) one refl (λ h. lt-ltb 1 b (omega (arith, some, f h)))
    ∙ g l (b - 1) (λ h. omega (arith, f h)) (Deeper ∷ ws) 0
    ∙ run-skips l table Deeper ws n (1 + n) rest refl

pub minus_goes : (at : Place) (n : ℕ) (old one rest : Row) → 1 ≤ n → old ≡ sign (codes "-") at ∷ one
    → next is_number (first one) ≡ false → Goes Unary (λ b. []) n one rest → Goes Unary (λ b. []) (1 + n) old rest
unfolding table
minus_goes at n old one rest some e none g l b f ws d =
    ap (run l table (Unary b ∷ ws) d) e
    ∙ run-takes l table (Unary b) (nat_lt 0 b) (Minus b ∷ []) ws d 0 (sign (codes "-") at) one refl (λ h. lt-ltb 0 b (omega (arith, some, f h)))
    ∙ run-begins l table (Minus b) (Unary (b - 1)) (Deeper ∷ []) ws 0 one
    (ap (λ x. cond x (cond (next (is_number_within 2147483648) (first one)) (Takes true (Calls b ∷ []) 1) Refuses)
    (and_then (unary_answer (b - 1) (first one)) (Deeper ∷ []))) none) (unary_stays (b - 1) (first one))
    ∙ g l (b - 1) (λ h. omega (arith, f h)) (Deeper ∷ ws) 0
    ∙ run-skips l table Deeper ws n (1 + n) rest refl

pub negative_goes : (at digits_at : Place) (digits : List ℕ) (old rest : Row)
    → old ≡ sign (codes "-") at ∷ number digits digits_at ∷ rest
    → is_number_within 2147483648 (number digits digits_at) ≡ true → Goes Unary (λ b. Calls b ∷ []) 1 old rest
unfolding table
negative_goes at digits_at digits old rest e is l b f ws d =
    ap (run l table (Unary b ∷ ws) d) e
    ∙ run-takes l table (Unary b) (nat_lt 0 b) (Minus b ∷ []) ws d 0 (sign (codes "-") at) (number digits digits_at ∷ rest) refl (λ h. lt-ltb 0 b (omega (arith, f h)))
    ∙ run-takes l table (Minus b) true (Calls b ∷ []) ws 0 1 (number digits digits_at) rest (ap (λ x. cond x (Takes true (Calls b ∷ []) 1) Refuses) is) (λ h. refl)

pub cast_goes : (at name_at close_at : Place) (text : List ℕ) (n : ℕ) (old one rest : Row) → 1 ≤ n
    → old ≡ sign (codes "(") at ∷ word text name_at ∷ sign (codes ")") close_at ∷ one → is_name text ≡ true
    → next follows_cast (first one) ≡ true
    → Goes Unary (λ b. []) n one rest → Goes Unary (λ b. []) (1 + n) old rest
unfolding table
cast_goes at name_at close_at text n old one rest some e is follows g l b f ws d =
    let t = word text name_at in
    ap (run l table (Unary b ∷ ws) d) e
    ∙ run-takes l table (Unary b) (nat_lt 1 b) (Opened b ∷ []) ws d 0 (sign (codes "(") at) (t ∷ sign (codes ")") close_at ∷ one) refl (λ h. lt-ltb 1 b (omega (arith, some, f h)))
    ∙ run-takes l table (Opened b) (nat_lt 0 (b - 1)) (Enclosed (is_get_child t) b ∷ []) ws 0 0 t (sign (codes ")") close_at ∷ one)
    (ap (λ x. cond x (Takes (nat_lt 0 (b - 1)) (Enclosed (is_get_child t) b ∷ []) 0)
    (and_then (expression_answer (b - 1) (Some t)) (Mark (codes ")") ∷ Deeper ∷ Calls b ∷ []))) is)
    (λ h. lt-ltb 0 (b - 1) (omega (arith, some, f h)))
    ∙ run-takes l table (Enclosed (is_get_child t) b) true (Parenthesized b ∷ []) ws 0 2 (sign (codes ")") close_at) one refl (λ h. refl)
    ∙ run-begins l table (Parenthesized b) (Unary (b - 1)) (Deeper ∷ []) ws 2 one (ap (λ x. cond x
    (and_then (unary_answer (b - 1) (first one)) (Deeper ∷ [])) (on (next (is_sign (codes ".")) (first one)) (Takes
    (nat_lt 2 b) (Called (b - 1) ∷ Join 2 ∷ Calls b ∷ []) 0) (Skips 2))) follows) (unary_stays (b - 1) (first one))
    ∙ g l (b - 1) (λ h. omega (arith, f h)) (Deeper ∷ ws) 2
    ∙ run-skips l table Deeper ws n (1 + n) rest refl

-- ---- a unary that is a primary with its calls

-- a parenthesis that is no cast's
abbrev pub NoCastBehind : Row → Type 0
NoCastBehind old = (at : Place) (one : Row) → old ≡ sign (codes "(") at ∷ one → NoCast one

and_true : (a b : Bool) → a ≡ true → a && b ≡ b
and_true true b e = refl
and_true false b e = absurd cc

no_cast_at : (at : Place) (t c : PlacedToken) (rest : Row) → opens_cast (sign (codes "(") at ∷ t ∷ c ∷ rest) ≡ false
    → is_name_token t ≡ true → is_sign (codes ")") c ≡ true → next follows_cast (first rest) ≡ false
no_cast_at at t c [] none named closes = refl
no_cast_at at t c (d ∷ rest) none named closes = sym (and_true (is_sign (codes ")") c) (follows_cast d) closes)
    ∙ sym (and_true (is_name_token t) (is_sign (codes ")") c && follows_cast d) named) ∙ none

-- where the reader sees no cast
pub no_cast : (old : Row) → opens_cast old ≡ false → NoCastBehind old
no_cast old none at one e t c rest f named closes = no_cast_at at t c rest (sym (ap opens_cast (e ∙ ap (λ r. sign (codes "(") at ∷ r) f)) ∙ none) named closes

paren_unary : (l : Bool) (b : ℕ) (ws : List Want) (d : ℕ) (at : Place) (one : Row) → NoCast one → run l table
    (Unary b ∷ ws) d (sign (codes "(") at ∷ one) ≡ run l table (Primary b ∷ Calls b ∷ ws) d (sign (codes "(") at ∷ one)
unfolding table
paren_unary l b ws d at one none =
    run-acts l (Unary b) ws d (sign (codes "(") at ∷ one)
    ∙ takes_alike (nat_lt 1 b || not l) l (Opened b ∷ ws) (Expression (b - 1) ∷ Mark (codes ")") ∷ Deeper ∷ Calls b ∷ ws) 0 (sign (codes "(") at) one (opened l b ws 0 one none)
    ∙ sym (run-acts l (Primary b) (Calls b ∷ ws) d (sign (codes "(") at ∷ one))

plain_unary : (l : Bool) (b : ℕ) (ws : List Want) (d : ℕ) (old : Row) → next (is_sign (codes "-")) (first old) ≡ false
    → next (is_sign (codes "!")) (first old) ≡ false → next (is_sign (codes "(")) (first old) ≡ false
    → run l table (Unary b ∷ ws) d old ≡ run l table (Primary b ∷ Calls b ∷ ws) d old
unfolding table
plain_unary l b ws d old m n p = run-begins l table (Unary b) (Primary b) (Calls b ∷ []) ws d old
    (ap (λ x. cond x (Takes (nat_lt 0 b) (Minus b ∷ []) 0) (cond (next (is_sign (codes "!")) (first old))
    (Takes (nat_lt 1 b) (Unary (b - 1) ∷ Deeper ∷ []) 0) (cond (next (is_sign (codes "(")) (first old))
    (Takes (nat_lt 1 b) (Opened b ∷ []) 0) (and_then (primary_answer b (first old)) (Calls b ∷ []))))) m
    ∙ ap (λ x. cond x (Takes (nat_lt 1 b) (Unary (b - 1) ∷ Deeper ∷ []) 0) (cond (next (is_sign (codes "("))
    (first old)) (Takes (nat_lt 1 b) (Opened b ∷ []) 0) (and_then (primary_answer b (first old)) (Calls b ∷ [])))) n
    ∙ ap (λ x. cond x (Takes (nat_lt 1 b) (Opened b ∷ []) 0) (and_then (primary_answer b (first old)) (Calls b ∷ []))) p)
    (primary_stays b (first old))

unary_at : (x l : Bool) (b : ℕ) (ws : List Want) (d : ℕ) (t : PlacedToken) (one : Row) → is_sign (codes "(") t ≡ x
    → is_sign (codes "-") t ≡ false → is_sign (codes "!") t ≡ false → NoCastBehind (t ∷ one)
    → run l table (Unary b ∷ ws) d (t ∷ one) ≡ run l table (Primary b ∷ Calls b ∷ ws) d (t ∷ one)
unary_at false l b ws d t one e m n none = plain_unary l b ws d (t ∷ one) m n e
unary_at true l b ws d t one e m n none =
    let same = sign_is (codes "(") t e in
    ap (λ x. run l table (Unary b ∷ ws) d (x ∷ one)) same
    ∙ paren_unary l b ws d t.at one (none t.at one (ap (λ x. x ∷ one) same))
    ∙ sym (ap (λ x. run l table (Primary b ∷ Calls b ∷ ws) d (x ∷ one)) same)

pub unary_is_primary : (l : Bool) (b : ℕ) (ws : List Want) (d : ℕ) (old : Row) → next (is_sign (codes "-")) (first old) ≡ false → next (is_sign (codes "!")) (first old) ≡ false → NoCastBehind old
    → run l table (Unary b ∷ ws) d old ≡ run l table (Primary b ∷ Calls b ∷ ws) d old
unary_is_primary l b ws d [] m n none = plain_unary l b ws d [] refl refl refl
unary_is_primary l b ws d (t ∷ one) m n none = unary_at (is_sign (codes "(") t) l b ws d t one refl m n none

-- ---- calls

pub call_moves : (dot_at name_at : Place) (text : List ℕ) (m n : ℕ) (old paren rest : Row) → old ≡ sign (codes ".") dot_at ∷ word text name_at ∷ paren → is_name text ≡ true
    → Goes (Arguments (is_get_child (word text name_at))) (λ b. []) n paren rest → Moves (λ b. Calls b ∷ []) (λ b. Calls b ∷ []) m (1 + max m n) old rest
unfolding table
call_moves dot_at name_at text m n old paren rest e is g l b f ws =
    let t = word text name_at in
    ap (run l table (Calls b ∷ ws) m) e
    ∙ run-takes l table (Calls b) (nat_lt m b) (Called (b - 1) ∷ Join m ∷ Calls b ∷ []) ws m 0 (sign (codes ".") dot_at) (t ∷ paren) refl (λ h. lt-ltb m b (omega (arith, f h)))
    ∙ run-takes l table (Called (b - 1)) true (Arguments (is_get_child t) (b - 1) ∷ []) (Join m ∷ Calls b ∷ ws) 0 0 t
    paren (ap (λ x. cond x (Takes true (Arguments (is_get_child t) (b - 1) ∷ []) 0) Refuses) is) (λ h. refl)
    ∙ g l (b - 1) (λ h. omega (arith, f h)) (Join m ∷ Calls b ∷ ws) 0
    ∙ run-skips l table (Join m) (Calls b ∷ ws) n (1 + max m n) rest refl

-- no call follows
pub calls_end : (n : ℕ) (rest : Row) → next (is_sign (codes ".")) (first rest) ≡ false → Moves (λ b. Calls b ∷ []) (λ b. []) n n rest rest
unfolding table
calls_end n rest e l b f ws = run-skips l table (Calls b) ws n n rest (ap (λ x. cond x (Takes (nat_lt n b) (Called (b - 1) ∷ Join n ∷ Calls b ∷ []) 0) (Skips n)) e)

-- ---- arguments

pub arguments_go : (g : Bool) (at : Place) (n : ℕ) (paren list rest : Row) → paren ≡ sign (codes "(") at ∷ list
    → Goes (FirstArgument g) (λ b. []) n list rest → Goes (Arguments g) (λ b. []) n paren rest
unfolding table
arguments_go g at n paren list rest e a l b f ws d =
    ap (run l table (Arguments g b ∷ ws) d) e
    ∙ run-takes l table (Arguments g b) true (FirstArgument g b ∷ []) ws d 0 (sign (codes "(") at) list refl (λ h. refl)
    ∙ a l b f ws 0

pub no_arguments_go : (g : Bool) (at : Place) (list rest : Row) → list ≡ sign (codes ")") at ∷ rest → Goes (FirstArgument g) (λ b. []) 0 list rest
unfolding table
no_arguments_go g at list rest e l b f ws d = ap (run l table (FirstArgument g b ∷ ws) d) e ∙ run-takes l table (FirstArgument g b) true [] ws d 0 (sign (codes ")") at) rest refl (λ h. refl)

pub first_goes : (g : Bool) (m n : ℕ) (list more rest : Row) → m ≤ n → next (is_sign (codes ")")) (first list) ≡ false → g && next (is_word (codes "int")) (first list) ≡ false
    → Goes Expression (λ b. []) m list more → Moves (λ b. MoreArguments b ∷ []) (λ b. []) m n more rest → Goes (FirstArgument g) (λ b. []) n list rest
unfolding table
first_goes g m n list more rest h close int e s l b f ws d =
    run-begins l table (FirstArgument g b) (Expression b) (MoreArguments b ∷ []) ws d list
    (ap (λ x. cond x (Takes true [] 0) (cond (g && next (is_word (codes "int")) (first list)) LeavesOut (and_then (expression_answer b (first list)) (MoreArguments b ∷ [])))) close
    ∙ ap (λ x. cond x LeavesOut (and_then (expression_answer b (first list)) (MoreArguments b ∷ []))) int)
    (then_stays (binary_answer 6 b (first list)) (Choice b ∷ []))
    ∙ e l b (λ k. omega (arith, h, f k)) (MoreArguments b ∷ ws) d
    ∙ s l b f ws

pub more_none : (at : Place) (n : ℕ) (more rest : Row) → more ≡ sign (codes ")") at ∷ rest → Moves (λ b. MoreArguments b ∷ []) (λ b. []) n n more rest
unfolding table
more_none at n more rest e l b f ws = ap (run l table (MoreArguments b ∷ ws) n) e ∙ run-takes l table (MoreArguments b) true [] ws n n (sign (codes ")") at) rest refl (λ h. refl)

pub more_moves : (at : Place) (m n : ℕ) (old one mid : Row) → old ≡ sign (codes ",") at ∷ one → Goes Expression
    (λ b. []) n one mid → Moves (λ b. MoreArguments b ∷ []) (λ b. MoreArguments b ∷ []) m (max m n) old mid
unfolding table
more_moves at m n old one mid e g l b f ws =
    ap (run l table (MoreArguments b ∷ ws) m) e
    ∙ run-takes l table (MoreArguments b) true (Expression b ∷ Deepest m ∷ MoreArguments b ∷ []) ws m 0 (sign (codes ",") at) one refl (λ h. refl)
    ∙ g l b (λ h. omega (arith, f h)) (Deepest m ∷ MoreArguments b ∷ ws) 0
    ∙ run-skips l table (Deepest m) (MoreArguments b ∷ ws) n (max m n) mid refl

-- ---- primaries

cond_true : (x : Bool) (a b : Answer Want) → x ≡ true → cond x a b ≡ a
cond_true true a b e = refl
cond_true false a b e = absurd cc

pub literal_goes : (t : PlacedToken) (old rest : Row) → old ≡ t ∷ rest → is_literal t ≡ true → Goes Primary (λ b. []) 1 old rest
unfolding table
literal_goes t old rest e is l b f ws d =
    ap (run l table (Primary b ∷ ws) d) e
    ∙ run-takes l table (Primary b) (nat_lt 0 b) [] ws d 1 t rest (cond_true (is_literal t) (Takes (nat_lt 0 b) [] 1) _ is) (λ h. lt-ltb 0 b (omega (arith, f h)))

pub named_taken : (l : Bool) (b : ℕ) (ws : List Want) (d : ℕ) (text : List ℕ) (at : Place) (mid : Row)
    → is_name text ≡ true → (l ≡ true → 1 ≤ b) → run l table (Primary b ∷ ws) d (word text at ∷ mid)
    ≡ run l table (Named (is_get_child (word text at)) b ∷ ws) 0 mid
unfolding table
named_taken l b ws d text at mid is f = run-takes l table (Primary b) (nat_lt 0 b) (Named (is_get_child (word text at))
    b ∷ []) ws d 0 (word text at) mid (name_primary b text at is) (λ h. lt-ltb 0 b (omega (arith, f h)))

pub name_goes : (text : List ℕ) (at : Place) (old rest : Row) → old ≡ word text at ∷ rest → is_name text ≡ true → next (is_sign (codes "(")) (first rest) ≡ false → Goes Primary (λ b. []) 1 old rest
unfolding table
name_goes text at old rest e is none l b f ws d =
    ap (run l table (Primary b ∷ ws) d) e
    ∙ named_taken l b ws d text at rest is f
    ∙ run-skips l table (Named (is_get_child (word text at)) b) ws 0 1 rest (ap (λ x. cond x (Takes true (FirstArgument (is_get_child (word text at)) (b - 1) ∷ Deeper ∷ []) 0) (Skips 1)) none)

pub call_goes : (text : List ℕ) (at paren_at : Place) (n : ℕ) (old list rest : Row) → old ≡ word text at ∷ sign (codes "(") paren_at ∷ list → is_name text ≡ true
    → Goes (FirstArgument (is_get_child (word text at))) (λ b. []) n list rest → Goes Primary (λ b. []) (1 + n) old rest
unfolding table
call_goes text at paren_at n old list rest e is g l b f ws d =
    let t = word text at in
    ap (run l table (Primary b ∷ ws) d) e
    ∙ named_taken l b ws d text at (sign (codes "(") paren_at ∷ list) is (λ h. omega (arith, f h))
    ∙ run-takes l table (Named (is_get_child t) b) true (FirstArgument (is_get_child t) (b - 1) ∷ Deeper ∷ []) ws 0 0 (sign (codes "(") paren_at) list refl (λ h. refl)
    ∙ g l (b - 1) (λ h. omega (arith, f h)) (Deeper ∷ ws) 0
    ∙ run-skips l table Deeper ws n (1 + n) rest refl

pub paren_goes : (at close_at : Place) (n : ℕ) (old one close rest : Row) → 1 ≤ n → old ≡ sign (codes "(") at ∷ one
    → Goes Expression (λ b. []) n one close → close ≡ sign (codes ")") close_at ∷ rest
    → Goes Primary (λ b. []) (1 + n) old rest
unfolding table
paren_goes at close_at n old one close rest some e g c l b f ws d =
    ap (run l table (Primary b ∷ ws) d) e
    ∙ run-takes l table (Primary b) (nat_lt 1 b) (Expression (b - 1) ∷ Mark (codes ")") ∷ Deeper ∷ []) ws d 0 (sign (codes "(") at) one refl (λ h. lt-ltb 1 b (omega (arith, some, f h)))
    ∙ g l (b - 1) (λ h. omega (arith, f h)) (Mark (codes ")") ∷ Deeper ∷ ws) 0
    ∙ ap (run l table (Mark (codes ")") ∷ Deeper ∷ ws) n) c
    ∙ run-takes l table (Mark (codes ")")) true [] (Deeper ∷ ws) n n (sign (codes ")") close_at) rest refl (λ h. refl)
    ∙ run-skips l table Deeper ws n (1 + n) rest refl

pub fold_taken : (form : FoldForm) (at : Place) (b : ℕ)
    → primary_answer b (Some (word (fold_text form) at)) ≡ Takes (nat_lt 1 b) (Mark (codes "(") ∷ Name ∷ Mark
    (codes ":") ∷ Primary (b - 1) ∷ Calls (b - 1) ∷ Mark (codes ")") ∷ FoldBody b ∷ []) 0
fold_taken syntax.Exists at b = refl
fold_taken syntax.First at b = refl
fold_taken syntax.Sum at b = refl

pub fold_goes : (form : FoldForm) (at paren_at name_at colon_at close_at brace_at end_at : Place) (text : List ℕ) (m n : ℕ) (old items close one end rest : Row) → 1 ≤ m
    → old ≡ word (fold_text form) at ∷ sign (codes "(") paren_at ∷ word text name_at ∷ sign (codes ":") colon_at ∷ items → is_name text ≡ true
    → ((l : Bool) (b : ℕ) → (l ≡ true → m ≤ b) → (ws : List Want) (d : ℕ) → run l table (Primary b ∷ Calls b ∷ ws) d items ≡ run l table ws m close)
    → close ≡ sign (codes ")") close_at ∷ sign (codes "{") brace_at ∷ one → Goes Expression (λ b. []) n one end → end ≡ sign (codes "}") end_at ∷ rest → Goes Primary (λ b. []) (1 + max m n) old rest
unfolding table
fold_goes form at paren_at name_at colon_at close_at brace_at end_at text m n old items close one end rest some e is p c g z l b f ws d =
    let tail = FoldBody b ∷ ws in
    ap (run l table (Primary b ∷ ws) d) e
    ∙ run-takes l table (Primary b) (nat_lt 1 b) (Mark (codes "(") ∷ Name ∷ Mark (codes ":") ∷ Primary (b - 1) ∷ Calls (b - 1) ∷ Mark (codes ")") ∷ FoldBody b ∷ []) ws d 0 (word (fold_text form) at)
    (sign (codes "(") paren_at ∷ word text name_at ∷ sign (codes ":") colon_at ∷ items) (fold_taken form at b) (λ h. lt-ltb 1 b (omega (arith, some, f h)))
    ∙ run-takes l table (Mark (codes "(")) true []
    (Name ∷ Mark (codes ":") ∷ Primary (b - 1) ∷ Calls (b - 1) ∷ Mark (codes ")") ∷ tail) 0 0
    (sign (codes "(") paren_at) (word text name_at ∷ sign (codes ":") colon_at ∷ items) refl (λ h. refl)
    ∙ run-takes l table Name true [] (Mark (codes ":") ∷ Primary (b - 1) ∷ Calls (b - 1) ∷ Mark (codes ")") ∷ tail) 0
    0 (word text name_at) (sign (codes ":") colon_at ∷ items)
    (ap (λ x. cond x (Takes true [] 0) Refuses) is) (λ h. refl)
    ∙ run-takes l table (Mark (codes ":")) true [] (Primary (b - 1) ∷ Calls (b - 1) ∷ Mark (codes ")") ∷ tail) 0 0 (sign (codes ":") colon_at) items refl (λ h. refl)
    ∙ p l (b - 1) (λ h. omega (arith, f h)) (Mark (codes ")") ∷ tail) 0
    ∙ ap (run l table (Mark (codes ")") ∷ tail) m) c
    ∙ run-takes l table (Mark (codes ")")) true [] tail m m (sign (codes ")") close_at) (sign (codes "{") brace_at ∷ one) refl (λ h. refl)
    ∙ run-takes l table (FoldBody b) true (Expression (b - 1) ∷ Mark (codes "}") ∷ Join m ∷ []) ws m 0 (sign (codes "{") brace_at) one refl (λ h. refl)
    ∙ g l (b - 1) (λ h. omega (arith, f h)) (Mark (codes "}") ∷ Join m ∷ ws) 0
    ∙ ap (run l table (Mark (codes "}") ∷ Join m ∷ ws) n) z
    ∙ run-takes l table (Mark (codes "}")) true [] (Join m ∷ ws) n n (sign (codes "}") end_at) rest refl (λ h. refl)
    ∙ run-skips l table (Join m) ws n (1 + max m n) rest refl
