-- Where the machine is stuck within operators and unaries, by where it is within their parts.
use Rattle.std.proofs.Common.{◌≡◌, ℕ, suc, ◌+◌, ◌-◌, ◌<◌, ◌≤◌, ℤ, List, [], ◌∷◌, ◌++◌, Bool, true, false, cond, max, Option, Some, None, refl, sym, ap, subst, ◌∙◌, arith, inl, inr}
use Rattle.std.specs.Prelude.{nat_lt, ◌&&◌, ◌||◌, ◌⊎◌, Result, Ok, Err, IfOk, IfErr, IsErrAnd, MatchOption, IfNone, is_some}
use Rattle.std.proofs.lemmas.Bool.{lt-ltb, le-ltb, eq-eqb}
use lib.Chars.{codes}
use Rattle.at_model.specs.Names.{is_name}
use Rattle.at_text.specs.Reading.{first}
use Rattle.at_text.specs.Symbols.{PlacedToken, is_word_kind}
use Rattle.at_text.specs.declared.token.TokenKind.TheVariants as kind
use Rattle.at_text.specs.declared.place.Place.{Place}
use Rattle.at_text.specs.Place.{first_place}
use Rattle.at_text.specs.Rows.{Row, sign, word, is_sign, is_name_token, next_is}
use Rattle.at_jrag.specs.Grammar.{Name, is_number, follows_cast, operator_text, operator_level}
use Rattle.at_jrag.specs.Syntax as syntax
use Rattle.at_jrag.specs.Syntax.{Operator}
use Rattle.at_text.specs.Machine.{Reason, Refused, TooDeep, Answer, Takes, Skips, Refuses, and_then, Stuck, run}
use Rattle.at_jrag.specs.Read.{opens_cast, StandsBefore, NestsWithin, IsNumber}
use Rattle.at_jrag.specs.View.{word_view}
use Rattle.at_jrag.specs.Wants.{Want, Expression, Binary, Links, Choice, Otherwise, Unary, Minus, Opened, Enclosed, Parenthesized, Calls, Called, Primary, Named, FoldBody, Deeper, Join, Deepest, Counts, Name as NameWant, Mark}
use Rattle.at_jrag.specs.Table.{next, on, table, next_rank, link_rank, link_answer, is_get_child, is_literal, is_decimal_within, is_number_within, is_quoted, begins_fold, opens_unary, unary_answer, expression_answer}
use Rattle.at_jrag.specs.Runs.{Goes, Moves, Stays, Halts, reason_of, Missing, NoText, NoNegative, TakesNegative}
use Rattle.at_text.specs.declared.fault.Failure.{Failure}
use Rattle.at_text.specs.declared.fault.Failure.TheVariants as failure
use Rattle.at_jrag.specs.declared.JragCode.{JragCode}
use Rattle.at_jrag.specs.declared.JragCode.TheVariants as code
use Rattle.at_jrag.specs.declared.reader.operators.Prefix.{Prefix}
use Rattle.at_jrag.specs.declared.reader.operators.Prefix.TheVariants as prefix
use Rattle.at_text.proofs.MachineLaws.{run-takes, run-refuses, run-too_deep}
use Rattle.at_text.proofs.MachineLaws.{run-begins, run-same}
use Rattle.at_jrag.proofs.of_expressions.ExpressionSteps.{sign_is, unary_stays, binary_stays}
use Rattle.at_jrag.proofs.of_expressions.ExpressionRanks.{Facts, operator_facts, operator_taken, links_skip, up}
use Rattle.at_jrag.proofs.of_expressions.ExpressionRuns.{no_cast, unary_is_primary, then_moves, operation_moves, instance_moves, not_goes, minus_goes, negative_goes, cast_goes}
use Rattle.at_jrag.proofs.of_expressions.ExpressionsTaken.{next_first, number_is}
use Rattle.at_jrag.proofs.Tokens.{of_kind}

plain_or : (x : Bool) → (x || false) || false ≡ x
plain_or true = refl
plain_or false = refl

-- ---- what is next

-- a token that passes the test is next
pub record Next (test : PlacedToken → Bool) (row : Row) : Type 0 where
  pub token : PlacedToken
  pub behind : Row
  pub row_is : row ≡ token ∷ behind
  pub passes : test token ≡ true

pub at_next : (test : PlacedToken → Bool) (row : Row) → next_is test row ≡ true → Next test row
at_next test [] e = absurd cc
at_next test (t ∷ ts) e = record { token = t; behind = ts; row_is = refl; passes = e }

-- the sign is next
pub at_sign : (text : List ℕ) (row : Row) → next_is (is_sign text) row ≡ true → (at : Place) × (behind : Row) × (row ≡ sign text at ∷ behind)
at_sign text row e = let n = at_next (is_sign text) row e in (n.token.at, n.behind, n.row_is ∙ ap (λ t. t ∷ n.behind) (sign_is text n.token n.passes))

-- ---- how a stop carries on

-- what is wanted comes to a part, and that stops
pub stays_on : (us : List Want) (w : Want) (behind : List Want → List Want) (m n : ℕ) (r : Option Reason) (old mid rest : Row)
    → ((ws : List Want) → run true table (us ++ ws) m old ≡ run true table (w ∷ behind ws) n mid) → Stays (w ∷ []) n r mid rest → Stays us m r old rest
stays_on us w behind m n None old mid rest g s = tt
stays_on us w behind m n (Some q) old mid rest g s = λ ws. g ws ∙ s (behind ws)

-- it comes to a part that refuses the next token
pub stays_missing : (us : List Want) (w : Want) (behind : List Want → List Want) (m n : ℕ) (test : PlacedToken → Bool) (e : Failure JragCode) (old mid rest : Row)
    → ((ws : List Want) → run true table (us ++ ws) m old ≡ run true table (w ∷ behind ws) n mid) → (next_is test mid ≡ false → table w n (first mid) ≡ Refuses)
    → Missing test e mid rest → Stays us m (reason_of e) old rest
stays_missing us w behind m n test failure.Memory old mid rest g refuses h = tt
stays_missing us w behind m n test (failure.For code.Syntax) old mid rest g refuses h = λ ws. g ws
    ∙ run-refuses true table w (behind ws) n mid (refuses h.1) ∙ ap (λ (x : Row). Stuck Refused x) (sym h.0)
stays_missing us w behind m n test (failure.For code.LeftOut) old mid rest g refuses h = absurd h
stays_missing us w behind m n test (failure.For code.Nesting) old mid rest g refuses h = absurd h

-- the limit stops it
pub stays_deep : (us : List Want) (m : ℕ) (e : Failure JragCode) (old mid rest : Row) → e ≡ (failure.For code.Nesting)
    → rest ≡ mid → ((ws : List Want) → run true table (us ++ ws) m old ≡ Stuck TooDeep mid)
    → Stays us m (reason_of e) old rest
stays_deep us m e old mid rest is same g = subst (λ (x : Failure JragCode). Stays us m (reason_of x) old rest) (sym is) (λ ws. g ws ∙ ap (λ (x : Row). Stuck TooDeep x) (sym same))

pub stays_memory : (us : List Want) (m : ℕ) (e : Failure JragCode) (old rest : Row) → e ≡ failure.Memory → Stays us m (reason_of e) old rest
stays_memory us m e old rest is = subst (λ (x : Failure JragCode). Stays us m (reason_of x) old rest) (sym is) tt

-- the exit of a `?`
pub at_error : {A E : Type 0} (r : Result A E) (e : E) (P : E → Type 0) → IsErrAnd r (λ y. y ≡ e) → P e → IfErr r P
at_error (Ok a) e P h p = tt
at_error (Err y) e P h p = subst P (sym h) p

pub if_err_weaker : {A E : Type 0} (r : Result A E) (P Q : E → Type 0) → ((e : E) → P e → Q e) → IfErr r P → IfErr r Q
if_err_weaker (Ok a) P Q f h = tt
if_err_weaker (Err e) P Q f h = f e h

pub if_ok_both : {A E : Type 0} (r : Result A E) (P Q R : A → Type 0) → ((a : A) → P a → Q a → R a) → IfOk r P → IfOk r Q → IfOk r R
if_ok_both (Ok a) P Q R f p q = f a p q
if_ok_both (Err e) P Q R f p q = tt

-- one of two faults, told by the rows that are left
pub by_rows : {A P Q B D : Type 0} (x y : A) (rows : A → Row) → P ⊎ (Q × (x ≡ y) × B × D) → P ⊎ (Q × (rows x ≡ rows y) × B × D)
by_rows x y rows (inl p) = inl p
by_rows x y rows (inr (q, e, b, d)) = inr (q, ap rows e, b, d)

-- ---- what begins an expression, as the reader tells

number_opens_by : (x : Bool) (t : PlacedToken) → t.kind ≡ kind.Number → is_decimal_within 2147483647 t.text ≡ x → opens_unary t ≡ x
number_opens_by x t k e = ap opens_unary (of_kind t kind.Number k) ∙ ap (λ b. (b || false) || false) e ∙ plain_or x

pub number_opens : (t : PlacedToken) (o : Option ℤ) (r : Bool) → t.kind ≡ kind.Number → r ≡ is_some o → MatchOption o (Unit {0}) (IsNumber false t.text)
    → IfNone o (is_decimal_within 2147483647 t.text ≡ false) → r ≡ opens_unary t
number_opens t None r k e some none = e ∙ sym (number_opens_by false t k none)
number_opens t (Some n) r k e (m, small, is, digits) none = e ∙ sym (number_opens_by true t k
    (ap (λ d. is_decimal_within 2147483647 d) digits ∙ number_is 2147483647 m first_place (omega arith) small))

text_opens : (x : Bool) (t : PlacedToken) (old rest : Row) → old ≡ t ∷ rest → t.kind ≡ kind.Text → is_quoted t.text ≡ x → next_is opens_unary old ≡ x
text_opens x t old rest front k e = ap (next_is opens_unary) front ∙ ap opens_unary (of_kind t kind.Text k) ∙ ap (λ b. (b || false) || false) e ∙ plain_or x

-- where no text fits any more
abbrev pub TooDeepFor : Failure JragCode → Row → Type 0
TooDeepFor r old = (r ≡ failure.Memory) ⊎ (r ≡ cond (next_is opens_unary old) (failure.For code.Nesting) (failure.For code.Syntax))

pub text_is_deep : (t : PlacedToken) (r : Failure JragCode) (old rest : Row) → old ≡ t ∷ rest → t.kind ≡ kind.Text → r ≡ (failure.For code.Nesting) → is_quoted t.text ≡ true → TooDeepFor r old
text_is_deep t r old rest front k is e = inr (is ∙ ap (λ b. cond b (failure.For code.Nesting) (failure.For code.Syntax)) (sym (text_opens true t old rest front k e)))

pub no_text : (e : Failure JragCode) (t : PlacedToken) (r : Failure JragCode) (old rest : Row) → old ≡ t ∷ rest → t.kind ≡ kind.Text → r ≡ e → NoText t.text e → TooDeepFor r old
no_text failure.Memory t r old rest front k is h = inl is
no_text (failure.For code.Syntax) t r old rest front k is h = inr (is ∙ ap (λ b. cond b (failure.For code.Nesting) (failure.For code.Syntax)) (sym (text_opens false t old rest front k h)))
no_text (failure.For code.LeftOut) t r old rest front k is h = absurd h
no_text (failure.For code.Nesting) t r old rest front k is h = absurd h

-- ---- choices

begun : (b : ℕ) (ws : List Want) (d : ℕ) (old : Row) → run true table (Expression b ∷ ws) d old ≡ run true table (Binary 6 b ∷ Choice b ∷ ws) d old
unfolding table
begun b ws d old = run-begins true table (Expression b) (Binary 6 b) (Choice b ∷ []) ws d old refl (binary_stays 6 b (first old))

pub condition_halts : (b : ℕ) (r : Option Reason) (old rest : Row) → Halts (Binary 6 b) r old rest → Halts (Expression b) r old rest
condition_halts b r old rest s d = stays_on (Expression b ∷ []) (Binary 6 b) (λ ws. Choice b ∷ ws) d d r old old rest (λ ws. begun b ws d old) (s d)

pub choice_too_deep : (b k : ℕ) (e : Failure JragCode) (old link rest : Row) → k ≤ b → Goes (Binary 6) (λ b. []) k old link
    → (e ≡ (failure.For code.Nesting)) × (rest ≡ link) × (next_is (is_sign (codes "?")) link ≡ true) × (b ≤ k) → Halts (Expression b) (reason_of e) old rest
unfolding table
choice_too_deep b k e old link rest fits c (is, same, question, deep) d =
    let n = at_sign (codes "?") link question in
    stays_deep (Expression b ∷ []) d e old link rest is same (λ ws.
    begun b ws d old ∙ c true b (λ h. fits) (Choice b ∷ ws) d
    ∙ ap (run true table (Choice b ∷ ws) k) n.2
    ∙ run-too_deep table (Choice b) (Expression (b - 1) ∷ Otherwise b k ∷ []) ws k 0 (sign (codes "?") n.0) n.1 (ap (λ x. Takes x (Expression (b - 1) ∷ Otherwise b k ∷ []) 0) (le-ltb k b deep))
    ∙ ap (λ (x : Row). Stuck TooDeep x) (sym n.2))

-- behind the `?`
asked : (b k : ℕ) (at : Place) (old link chosen : Row) → k < b → Goes (Binary 6) (λ b. []) k old link → link ≡ sign (codes "?") at ∷ chosen
    → (ws : List Want) (d : ℕ) → run true table (Expression b ∷ ws) d old ≡ run true table (Expression (b - 1) ∷ Otherwise b k ∷ ws) 0 chosen
unfolding table
asked b k at old link chosen within c q ws d =
    begun b ws d old ∙ c true b (λ h. omega (arith, within)) (Choice b ∷ ws) d
    ∙ ap (run true table (Choice b ∷ ws) k) q
    ∙ run-takes true table (Choice b) (nat_lt k b) (Expression (b - 1) ∷ Otherwise b k ∷ []) ws k 0 (sign (codes "?") at) chosen refl (λ h. lt-ltb k b within)

pub chosen_halts : (b k : ℕ) (r : Option Reason) (at : Place) (old link chosen rest : Row) → k < b → Goes (Binary 6) (λ b. []) k old link → link ≡ sign (codes "?") at ∷ chosen
    → Halts (Expression (b - 1)) r chosen rest → Halts (Expression b) r old rest
chosen_halts b k r at old link chosen rest within c q s d =
    stays_on (Expression b ∷ []) (Expression (b - 1)) (λ ws. Otherwise b k ∷ ws) d 0 r old chosen rest (λ ws. asked b k at old link chosen within c q ws d) (s 0)

-- up to where a `:` is wanted
answered : (b k m : ℕ) (at : Place) (old link chosen colon : Row) → k < b → m ≤ b - 1 → Goes (Binary 6) (λ b. []) k old link → link ≡ sign (codes "?") at ∷ chosen
    → Goes Expression (λ b. []) m chosen colon → (ws : List Want) (d : ℕ) → run true table (Expression b ∷ ws) d old ≡ run true table (Otherwise b k ∷ ws) m colon
answered b k m at old link chosen colon within fits c q t ws d = asked b k at old link chosen within c q ws d ∙ t true (b - 1) (λ h. fits) (Otherwise b k ∷ ws) 0

pub colon_halts : (b k m : ℕ) (e : Failure JragCode) (at : Place) (old link chosen colon rest : Row) → k < b → m ≤ b - 1 → Goes (Binary 6) (λ b. []) k old link → link ≡ sign (codes "?") at ∷ chosen
    → Goes Expression (λ b. []) m chosen colon → Missing (is_sign (codes ":")) e colon rest → Halts (Expression b) (reason_of e) old rest
unfolding table
colon_halts b k m e at old link chosen colon rest within fits c q t s d =
    stays_missing (Expression b ∷ []) (Otherwise b k) (λ ws. ws) d m (is_sign (codes ":")) e old colon rest (λ ws. answered b k m at old link chosen colon within fits c q t ws d)
    (λ none. ap (λ x. cond x (Takes true (Expression (b - 1) ∷ Deepest m ∷ Join k ∷ []) 0) Refuses) (sym (next_first (is_sign (codes ":")) colon) ∙ none)) s

pub other_halts : (b k m : ℕ) (r : Option Reason) (at colon_at : Place) (old link chosen colon other rest : Row) → k < b → m ≤ b - 1 → Goes (Binary 6) (λ b. []) k old link
    → link ≡ sign (codes "?") at ∷ chosen
    → Goes Expression (λ b. []) m chosen colon → colon ≡ sign (codes ":") colon_at ∷ other → Halts (Expression (b - 1)) r other rest → Halts (Expression b) r old rest
unfolding table
other_halts b k m r at colon_at old link chosen colon other rest within fits c q t z s d =
    stays_on (Expression b ∷ []) (Expression (b - 1)) (λ ws. Deepest m ∷ Join k ∷ ws) d 0 r old other rest (λ ws.
    answered b k m at old link chosen colon within fits c q t ws d
    ∙ ap (run true table (Otherwise b k ∷ ws) m) z
    ∙ run-takes true table (Otherwise b k) true (Expression (b - 1) ∷ Deepest m ∷ Join k ∷ []) ws m 0 (sign (codes ":") colon_at) other refl (λ h. refl)) (s 0)

-- ---- levels of operators

-- at the level of unaries
pub unary_goes : (level n : ℕ) (old rest : Row) → 7 ≤ level → Goes Unary (λ b. []) n old rest → Goes (Binary (7 - level)) (λ b. []) n old rest
unfolding table
unary_goes level n old rest h g =
    let z : 0 ≡ 7 - level = omega (arith, h) in
    subst (λ (r : ℕ). Goes (Binary r) (λ b. []) n old rest) z (λ l b f ws d. run-same l table (Binary 0 b) (Unary b) ws d old refl ∙ g l b f ws d)

pub unary_halts : (level b : ℕ) (r : Option Reason) (old rest : Row) → 7 ≤ level → Halts (Unary b) r old rest → Halts (Binary (7 - level) b) r old rest
unfolding table
unary_halts level b r old rest h s d =
    let z : 0 ≡ 7 - level = omega (arith, h) in
    subst (λ (k : ℕ). Stays (Binary k b ∷ []) d r old rest) z (stays_on (Binary 0 b ∷ []) (Unary b) (λ ws. ws) d d r old old rest (λ ws. run-same true table (Binary 0 b) (Unary b) ws d old refl)
    (s d))

-- the first operand was read
pub operand_goes : (level n : ℕ) (old rest : Row) → level < 7 → Goes (Binary (7 - (level + 1))) (λ b. []) n old rest → Goes (Binary (7 - level)) (λ b. Links (6 - level) b ∷ []) n old rest
operand_goes level n old rest h g =
    let y : 7 - (level + 1) ≡ 6 - level = omega (arith, h) in
    let z : suc (6 - level) ≡ 7 - level = omega (arith, h) in
    subst (λ (r : ℕ). Goes (Binary r) (λ b. Links (6 - level) b ∷ []) n old rest) z (up (6 - level) n old rest (subst (λ (r : ℕ). Goes (Binary r) (λ b. []) n old rest) y g))

operand_stays : (q b : ℕ) (r : Option Reason) (old rest : Row) → Halts (Binary q b) r old rest → Halts (Binary (suc q) b) r old rest
unfolding table
operand_stays q b r old rest s d =
    stays_on (Binary (suc q) b ∷ []) (Binary q b) (λ ws. Links q b ∷ ws) d d r old old rest
    (λ ws. run-begins true table (Binary (suc q) b) (Binary q b) (Links q b ∷ []) ws d old refl (binary_stays q b (first old))) (s d)

pub operand_halts : (level b : ℕ) (r : Option Reason) (old rest : Row) → level < 7 → Halts (Binary (7 - (level + 1)) b) r old rest → Halts (Binary (7 - level) b) r old rest
operand_halts level b r old rest h s =
    let z : suc (7 - (level + 1)) ≡ 7 - level = omega (arith, h) in
    subst (λ (k : ℕ). Halts (Binary k b) r old rest) z (operand_stays (7 - (level + 1)) b r old rest s)

-- nothing of this level follows
pub operands_end : (level n : ℕ) (old rest : Row) → level < 7 → (next_rank (first rest) + level ≡ 7 → ⊥) → Goes (Binary (7 - level)) (λ b. Links (6 - level) b ∷ []) n old rest
    → Goes (Binary (7 - level)) (λ b. []) n old rest
operands_end level n old rest h none g l b f ws d = g l b f ws d ∙ links_skip l (6 - level) b ws n rest (λ e. none (omega (arith, h, e)))

word_too_deep : (x y : Bool) (us vs : List Want) → y ≡ false → (more : List Want) × (cond x (Takes y us 0) (Takes y vs 0) ≡ Takes false more 0)
word_too_deep true y us vs e = (us, ap (λ z. Takes z us 0) e)
word_too_deep false y us vs e = (vs, ap (λ z. Takes z vs 0) e)

rank_too_deep : (q b k : ℕ) (here : Row) → b ≤ k → next_rank (first here) ≡ suc q → (ws : List Want) → run true table (Links q b ∷ ws) k here ≡ Stuck TooDeep here
unfolding table
rank_too_deep q b k [] deep e ws = absurd (omega (arith, e))
rank_too_deep q b k (t ∷ ts) deep e ws =
    let w = word_too_deep (is_word_kind t.kind) (nat_lt k b) (NameWant ∷ Counts (1 + k) ∷ Links q b ∷ []) (Binary q (b - 1) ∷ Join k ∷ Links q b ∷ []) (le-ltb k b deep) in
    run-too_deep table (Links q b) w.0 ws k 0 t ts (ap (λ x. cond x (link_answer q b k t) (Skips k)) (eq-eqb (link_rank t) (suc q) e) ∙ w.1)

-- what follows is of this level, and its left operand is too deep
pub link_too_deep : (level b k : ℕ) (e : Failure JragCode) (old here rest : Row) → level < 7 → k ≤ b → Goes (Binary (7 - level)) (λ b. Links (6 - level) b ∷ []) k old here
    → (e ≡ (failure.For code.Nesting)) × (rest ≡ here) × (b ≤ k) × (next_rank (first here) + level ≡ 7) → Halts (Binary (7 - level) b) (reason_of e) old rest
link_too_deep level b k e old here rest h fits g (is, same, deep, ranks) d =
    stays_deep (Binary (7 - level) b ∷ []) d e old here rest is same (λ ws. g true b (λ x. fits) ws d ∙ rank_too_deep (6 - level) b k here deep (omega (arith, h, ranks)) ws)

-- what was linked to the operands so far stops
pub linked_halts : (level b k : ℕ) (r : Option Reason) (old here rest : Row) → k ≤ b → Goes (Binary (7 - level)) (λ b. Links (6 - level) b ∷ []) k old here
    → Stays (Links (6 - level) b ∷ []) k r here rest → Halts (Binary (7 - level) b) r old rest
linked_halts level b k r old here rest fits g s d = stays_on (Binary (7 - level) b ∷ []) (Links (6 - level) b) (λ ws. ws) d k r old here rest (λ ws. g true b (λ h. fits) ws d) s

-- ---- what is linked

pub operator_moves : (o : Operator) (at : Place) (level m n k : ℕ) (start mid rest : Row) → operator_level o ≡ level → k ≡ 1 + max m n → start ≡ sign (operator_text o) at ∷ mid
    → Goes (Binary (7 - (level + 1))) (λ b. []) n mid rest → Moves (λ b. Links (6 - level) b ∷ []) (λ b. Links (6 - level) b ∷ []) m k start rest
operator_moves o at level m n k start mid rest is deep e g =
    let f = operator_facts o at in
    let at_level = f.level in
    let y : 7 - (level + 1) ≡ f.rank = omega (arith, at_level, is) in
    let z : f.rank ≡ 6 - level = omega (arith, at_level, is) in
    let moves = operation_moves o at f m n start mid rest e (subst (λ (r : ℕ). Goes (Binary r) (λ b. []) n mid rest) y g) in
    subst (λ (j : ℕ). Moves (λ b. Links (6 - level) b ∷ []) (λ b. Links (6 - level) b ∷ []) m j start rest) (sym deep)
    (subst (λ (r : ℕ). Moves (λ b. Links r b ∷ []) (λ b. Links r b ∷ []) m (1 + max m n) start rest) z moves)

right_stays : (o : Operator) (at : Place) (f : Facts o at) (b m : ℕ) (r : Option Reason) (start mid rest : Row) → m < b → start ≡ sign (operator_text o) at ∷ mid
    → Halts (Binary f.rank (b - 1)) r mid rest → Stays (Links f.rank b ∷ []) m r start rest
right_stays o at f b m r start mid rest within e s = stays_on (Links f.rank b ∷ []) (Binary f.rank (b - 1)) (λ ws. Join m ∷ Links f.rank b ∷ ws) m 0 r start mid rest
    (λ ws. ap (run true table (Links f.rank b ∷ ws) m) e ∙ operator_taken true o at f b ws m mid (λ h. lt-ltb m b within)) (s 0)

pub operator_stays : (o : Operator) (at : Place) (level b m : ℕ) (r : Option Reason) (start mid rest : Row) → operator_level o ≡ level → m < b → start ≡ sign (operator_text o) at ∷ mid
    → Halts (Binary (7 - (level + 1)) (b - 1)) r mid rest → Stays (Links (6 - level) b ∷ []) m r start rest
operator_stays o at level b m r start mid rest is within e s =
    let f = operator_facts o at in
    let at_level = f.level in
    let y : 7 - (level + 1) ≡ f.rank = omega (arith, at_level, is) in
    let z : f.rank ≡ 6 - level = omega (arith, at_level, is) in
    subst (λ (k : ℕ). Stays (Links k b ∷ []) m r start rest) z (right_stays o at f b m r start mid rest within e (subst (λ (k : ℕ). Halts (Binary k (b - 1)) r mid rest) y s))

pub instance_goes : (at : Place) (class : syntax.Word) (level m k : ℕ) (start mid rest : Row) → level ≡ 4 → k ≡ 1 + m → start ≡ word (codes "instanceof") at ∷ mid → Name class mid rest
    → Moves (λ b. Links (6 - level) b ∷ []) (λ b. Links (6 - level) b ∷ []) m k start rest
instance_goes at class level m k start mid rest is deep e n =
    let z : 2 ≡ 6 - level = omega (arith, is) in
    let moves = instance_moves at class.at class.text m start rest (e ∙ ap (λ r. word (codes "instanceof") at ∷ r) n.1) n.0 in
    subst (λ (j : ℕ). Moves (λ b. Links (6 - level) b ∷ []) (λ b. Links (6 - level) b ∷ []) m j start rest) (sym deep)
    (subst (λ (r : ℕ). Moves (λ b. Links r b ∷ []) (λ b. Links r b ∷ []) m (1 + m) start rest) z moves)

class_stays : (at : Place) (b m : ℕ) (e : Failure JragCode) (start mid rest : Row) → m < b → start ≡ word (codes "instanceof") at ∷ mid → Missing is_name_token e mid rest
    → Stays (Links 2 b ∷ []) m (reason_of e) start rest
unfolding table
class_stays at b m e start mid rest within is s = stays_missing (Links 2 b ∷ []) NameWant (λ ws. Counts (1 + m) ∷ Links 2 b ∷ ws) m 0 is_name_token e start mid rest
    (λ ws. ap (run true table (Links 2 b ∷ ws) m) is ∙ run-takes true table (Links 2 b) (nat_lt m b) (NameWant ∷ Counts (1 + m) ∷ Links 2 b ∷ []) ws m 0 (word (codes "instanceof") at) mid refl
    (λ h. lt-ltb m b within))
    (λ none. ap (λ x. cond x (Takes true [] 0) Refuses) (sym (next_first is_name_token mid) ∙ none)) s

pub instance_stays : (at : Place) (level b m : ℕ) (e : Failure JragCode) (start mid rest : Row) → level ≡ 4 → m < b → start ≡ word (codes "instanceof") at ∷ mid → Missing is_name_token e mid rest
    → Stays (Links (6 - level) b ∷ []) m (reason_of e) start rest
instance_stays at level b m e start mid rest is within q s =
    let z : 2 ≡ 6 - level = omega (arith, is) in subst (λ (k : ℕ). Stays (Links k b ∷ []) m (reason_of e) start rest) z (class_stays at b m e start mid rest within q s)

-- ---- unaries

-- where no unary fits any more: a `-`, `!`, `(`, literal, fold or name is within no limit
abbrev row_of : (m n p l f c g : Bool) → Answer Want
row_of m n p l f c g = cond m (Takes false (Minus 0 ∷ []) 0) (cond n (Takes false (Unary 0 ∷ Deeper ∷ []) 0) (cond p (Takes false (Opened 0 ∷ []) 0) (and_then (cond l (Takes false [] 1)
    (cond p (Takes false (Expression 0 ∷ Mark (codes ")") ∷ Deeper ∷ []) 0)
    (cond f (Takes false (Mark (codes "(") ∷ NameWant ∷ Mark (codes ":") ∷ Primary 0 ∷ Calls 0 ∷ Mark (codes ")") ∷ FoldBody 0 ∷ []) 0)
    (cond c (Takes false (Named g 0 ∷ []) 0) Refuses)))) (Calls 0 ∷ []))))

row_deep : (m n p l f c g : Bool) → m || (n || (p || (l || (f || c)))) ≡ true → (more : List Want) × (e : ℕ) × (row_of m n p l f c g ≡ Takes false more e)
row_deep true n p l f c g h = (_, _, refl)
row_deep false true p l f c g h = (_, _, refl)
row_deep false false true l f c g h = (_, _, refl)
row_deep false false false true f c g h = (_, _, refl)
row_deep false false false false true c g h = (_, _, refl)
row_deep false false false false false true g h = (_, _, refl)
row_deep false false false false false false g h = absurd cc

row_none : (m n p l f c g : Bool) → m || (n || (p || (l || (f || c)))) ≡ false → row_of m n p l f c g ≡ Refuses
row_none true n p l f c g h = absurd cc
row_none false true p l f c g h = absurd cc
row_none false false true l f c g h = absurd cc
row_none false false false true f c g h = absurd cc
row_none false false false false true c g h = absurd cc
row_none false false false false false true g h = absurd cc
row_none false false false false false false g h = refl

none_fits : (x : Bool) (old : Row) (d : ℕ) → next_is opens_unary old ≡ x → Stays (Unary 0 ∷ []) d (reason_of (cond x (failure.For code.Nesting) (failure.For code.Syntax))) old old
unfolding table
none_fits true [] d e = absurd cc
none_fits true (t ∷ ts) d e = λ ws.
    let r = row_deep (is_sign (codes "-") t) (is_sign (codes "!") t) (is_sign (codes "(") t) (is_literal t) (begins_fold t) (is_name_token t) (is_get_child t) e in
    run-too_deep table (Unary 0) r.0 ws d r.1 t ts r.2
none_fits false [] d e = λ ws. run-refuses true table (Unary 0) ws d [] refl
none_fits false (t ∷ ts) d e =
    λ ws. run-refuses true table (Unary 0) ws d (t ∷ ts) (row_none (is_sign (codes "-") t) (is_sign (codes "!") t)
    (is_sign (codes "(") t) (is_literal t) (begins_fold t) (is_name_token t) (is_get_child t) e)

-- what the reader says where no unary fits
pub unary_too_deep : (b : ℕ) (e : Failure JragCode) (old : Row) → b ≡ 0
    → (e ≡ failure.Memory) ⊎ (e ≡ cond (next_is opens_unary old) (failure.For code.Nesting) (failure.For code.Syntax))
    → Halts (Unary b) (reason_of e) old old
unary_too_deep b e old none (inl is) d = stays_memory (Unary b ∷ []) d e old old is
unary_too_deep b e old none (inr is) d =
    subst (λ (k : ℕ). Stays (Unary k ∷ []) d (reason_of e) old old) (sym none) (subst (λ (x : Failure JragCode). Stays (Unary 0 ∷ []) d (reason_of x) old old) (sym is)
    (none_fits (next_is opens_unary old) old d refl))

pub negative_stops : (b : ℕ) (e : Failure JragCode) (old rest : Row) → 1 ≤ b → NoNegative e old rest → Halts (Unary b) (reason_of e) old rest
unfolding table
negative_stops b failure.Memory old rest some h d = absurd h
negative_stops b (failure.For code.Syntax) old rest some (at, is, digits, none) d = λ ws.
    ap (run true table (Unary b ∷ ws) d) is
    ∙ run-takes true table (Unary b) (nat_lt 0 b) (Minus b ∷ []) ws d 0 (sign (codes "-") at) rest refl (λ h. lt-ltb 0 b some)
    ∙ run-refuses true table (Minus b) ws 0 rest
    (ap (λ x. cond x (cond (next (is_number_within 2147483648) (first rest)) (Takes true (Calls b ∷ []) 1) Refuses) (and_then (unary_answer (b - 1) (first rest)) (Deeper ∷ [])))
    (sym (next_first is_number rest) ∙ digits)
    ∙ ap (λ x. cond x (Takes true (Calls b ∷ []) 1) Refuses) (sym (next_first (is_number_within 2147483648) rest) ∙ none))
negative_stops b (failure.For code.LeftOut) old rest some h d = absurd h
negative_stops b (failure.For code.Nesting) old rest some h d = absurd h

taken_goes : (k : ℕ) (old mid : Row) → k ≡ 1 → TakesNegative old mid → Goes Unary (λ b. Calls b ∷ []) k old mid
taken_goes k old mid one (at, digits, digits_at, is, fits) = subst (λ (j : ℕ). Goes Unary (λ b. Calls b ∷ []) j old mid) (sym one) (negative_goes at digits_at digits old mid is fits)

-- a negative number and the calls behind it
pub negative_moves : (k n : ℕ) (old mid rest : Row) → k ≡ 1 → 1 ≤ n → TakesNegative old mid → Moves (λ b. Calls b ∷ []) (λ b. []) k n mid rest → Goes Unary (λ b. []) n old rest
negative_moves k n old mid rest one some t m = then_moves Unary (λ b. Calls b ∷ []) (λ b. []) k n old mid rest (omega (arith, one, some)) (taken_goes k old mid one t) m

pub negative_halts : (b k : ℕ) (r : Option Reason) (old mid rest : Row) → 1 ≤ b → k ≡ 1 → TakesNegative old mid → Stays (Calls b ∷ []) k r mid rest → Halts (Unary b) r old rest
negative_halts b k r old mid rest some one t s d = stays_on (Unary b ∷ []) (Calls b) (λ ws. ws) d k r old mid rest (λ ws. taken_goes k old mid one t true b (λ h. omega (arith, some, one)) ws d) s

-- ---- what stands before an operand

pub prefix_goes : (p : Prefix) (at : Place) (n k : ℕ) (old one rest : Row) → 1 ≤ n → k ≡ 1 + n → StandsBefore p at old one → Goes Unary (λ b. []) n one rest → Goes Unary (λ b. []) k old rest
prefix_goes prefix.Not at n k old one rest some deep s g = subst (λ (j : ℕ). Goes Unary (λ b. []) j old rest) (sym deep) (not_goes at n old one rest some s g)
prefix_goes prefix.Minus at n k old one rest some deep s g =
    subst (λ (j : ℕ). Goes Unary (λ b. []) j old rest) (sym deep) (minus_goes at n old one rest some s.0 (sym (next_first is_number one) ∙ s.1) g)
prefix_goes (prefix.Cast class) at n k old one rest some deep (named, close, p, q, c, f) g = subst (λ (j : ℕ). Goes Unary (λ b. []) j old rest) (sym deep)
    (cast_goes at (word_view class).at c.0 (word_view class).text n old one rest some (p ∙ ap
    (λ r. sign (codes "(") at ∷ r) (q.1 ∙ ap (λ r. word (word_view class).text (word_view class).at ∷ r) c.1)) q.0 (sym (next_first follows_cast one) ∙ f) g)

-- up to the operand of a `!`, a `-` and a cast
not_taken : (at : Place) (b : ℕ) (old one : Row) → 1 < b → old ≡ sign (codes "!") at ∷ one → (ws : List Want) (d : ℕ)
    → run true table (Unary b ∷ ws) d old ≡ run true table (Unary (b - 1) ∷ Deeper ∷ ws) 0 one
unfolding table
not_taken at b old one some e ws d =
    ap (run true table (Unary b ∷ ws) d) e
    ∙ run-takes true table (Unary b) (nat_lt 1 b) (Unary (b - 1) ∷ Deeper ∷ []) ws d 0 (sign (codes "!") at) one refl (λ h. lt-ltb 1 b some)

minus_taken : (at : Place) (b : ℕ) (old one : Row) → 1 ≤ b → old ≡ sign (codes "-") at ∷ one → next is_number (first one) ≡ false
    → (ws : List Want) (d : ℕ) → run true table (Unary b ∷ ws) d old ≡ run true table (Unary (b - 1) ∷ Deeper ∷ ws) 0 one
unfolding table
minus_taken at b old one some e none ws d =
    ap (run true table (Unary b ∷ ws) d) e
    ∙ run-takes true table (Unary b) (nat_lt 0 b) (Minus b ∷ []) ws d 0 (sign (codes "-") at) one refl (λ h. lt-ltb 0 b some)
    ∙ run-begins true table (Minus b) (Unary (b - 1)) (Deeper ∷ []) ws 0 one
    (ap (λ x. cond x (cond (next (is_number_within 2147483648) (first one)) (Takes true (Calls b ∷ []) 1) Refuses) (and_then (unary_answer (b - 1) (first one)) (Deeper ∷ []))) none)
    (unary_stays (b - 1) (first one))

cast_taken : (at name_at close_at : Place) (text : List ℕ) (b : ℕ) (old one : Row) → 1 < b → old ≡ sign (codes "(") at ∷ word text name_at ∷ sign (codes ")") close_at ∷ one → is_name text ≡ true
    → next follows_cast (first one) ≡ true
    → (ws : List Want) (d : ℕ) → run true table (Unary b ∷ ws) d old ≡ run true table (Unary (b - 1) ∷ Deeper ∷ ws) 2 one
unfolding table
cast_taken at name_at close_at text b old one some e is follows ws d =
    let t = word text name_at in
    ap (run true table (Unary b ∷ ws) d) e
    ∙ run-takes true table (Unary b) (nat_lt 1 b) (Opened b ∷ []) ws d 0 (sign (codes "(") at) (t ∷ sign (codes ")") close_at ∷ one) refl (λ h. lt-ltb 1 b some)
    ∙ run-takes true table (Opened b) (nat_lt 0 (b - 1)) (Enclosed (is_get_child t) b ∷ []) ws 0 0 t (sign (codes ")") close_at ∷ one)
    (ap (λ x. cond x (Takes (nat_lt 0 (b - 1)) (Enclosed (is_get_child t) b ∷ []) 0) (and_then (expression_answer (b - 1) (Some t)) (Mark (codes ")") ∷ Deeper ∷ Calls b ∷ []))) is)
    (λ h. lt-ltb 0 (b - 1) (omega (arith, some)))
    ∙ run-takes true table (Enclosed (is_get_child t) b) true (Parenthesized b ∷ []) ws 0 2 (sign (codes ")") close_at) one refl (λ h. refl)
    ∙ run-begins true table (Parenthesized b) (Unary (b - 1)) (Deeper ∷ []) ws 2 one (ap (λ x. cond x (and_then (unary_answer (b - 1) (first one)) (Deeper ∷ []))
    (on (next (is_sign (codes ".")) (first one)) (Takes (nat_lt 2 b) (Called (b - 1) ∷ Join 2 ∷ Calls b ∷ []) 0) (Skips 2))) follows) (unary_stays (b - 1) (first one))

-- the operand stops
pub inner_halts : (p : Prefix) (at : Place) (b : ℕ) (r : Option Reason) (old one rest : Row) → 1 ≤ b → NestsWithin p b → StandsBefore p at old one → Halts (Unary (b - 1)) r one rest
    → Halts (Unary b) r old rest
inner_halts prefix.Not at b r old one rest some nests s g d = stays_on (Unary b ∷ []) (Unary (b - 1)) (λ ws. Deeper ∷ ws) d 0 r old one rest (λ ws. not_taken at b old one nests s ws d) (g 0)
inner_halts prefix.Minus at b r old one rest some nests s g d =
    stays_on (Unary b ∷ []) (Unary (b - 1)) (λ ws. Deeper ∷ ws) d 0 r old one rest (λ ws. minus_taken at b old one some s.0 (sym (next_first is_number one) ∙ s.1) ws d) (g 0)
inner_halts (prefix.Cast class) at b r old one rest some nests (named, close, p, q, c, f) g d = stays_on (Unary b ∷ []) (Unary (b - 1)) (λ ws. Deeper ∷ ws) d 2 r old one rest
    (λ ws. cast_taken at (word_view class).at c.0 (word_view class).text b old one nests (p ∙ ap
    (λ r. sign (codes "(") at ∷ r) (q.1 ∙ ap (λ r. word (word_view class).text (word_view class).at ∷ r) c.1)) q.0 (sym (next_first follows_cast one) ∙ f) ws d) (g 2)

both_first : (a b : Bool) → a && b ≡ true → a ≡ true
both_first true b e = refl
both_first false b e = absurd cc

-- a `(` that a cast begins with
cast_opens : (old : Row) → opens_cast old ≡ true → next_is (is_sign (codes "(")) old ≡ true
cast_opens [] e = absurd cc
cast_opens (t ∷ []) e = absurd cc
cast_opens (t ∷ u ∷ []) e = absurd cc
cast_opens (t ∷ u ∷ v ∷ []) e = absurd cc
cast_opens (t ∷ u ∷ v ∷ w ∷ ts) e = both_first (is_sign (codes "(") t) (is_name_token u && (is_sign (codes ")") v && follows_cast w)) e

pub prefix_stops : (b : ℕ) (e : Failure JragCode) (old rest : Row)
    → (e ≡ failure.Memory) ⊎ ((e ≡ (failure.For code.Nesting)) × (rest ≡ old) × (b ≤ 1) × ((next_is (is_sign (codes "!")) old ≡ true) ⊎ (opens_cast old ≡ true)))
    → Halts (Unary b) (reason_of e) old rest
unfolding table
prefix_stops b e old rest (inl is) d = stays_memory (Unary b ∷ []) d e old rest is
prefix_stops b e old rest (inr (is, same, deep, inl n)) d =
    let s = at_sign (codes "!") old n in
    stays_deep (Unary b ∷ []) d e old old rest is same (λ ws. ap (run true table (Unary b ∷ ws) d) s.2
    ∙ run-too_deep table (Unary b) (Unary (b - 1) ∷ Deeper ∷ []) ws d 0 (sign (codes "!") s.0) s.1 (ap (λ x. Takes x (Unary (b - 1) ∷ Deeper ∷ []) 0) (le-ltb 1 b deep)) ∙ ap
    (λ (x : Row). Stuck TooDeep x) (sym s.2))
prefix_stops b e old rest (inr (is, same, deep, inr c)) d =
    let s = at_sign (codes "(") old (cast_opens old c) in
    stays_deep (Unary b ∷ []) d e old old rest is same (λ ws. ap (run true table (Unary b ∷ ws) d) s.2
    ∙ run-too_deep table (Unary b) (Opened b ∷ []) ws d 0 (sign (codes "(") s.0) s.1 (ap (λ x. Takes x (Opened b ∷ []) 0) (le-ltb 1 b deep)) ∙ ap (λ (x : Row). Stuck TooDeep x) (sym s.2))

-- ---- a primary with its calls

-- neither `-` nor `!` is next, and no cast
pub record IsPlain (old : Row) : Type 0 where
  pub minus : next_is (is_sign (codes "-")) old ≡ false
  pub mark : next_is (is_sign (codes "!")) old ≡ false
  pub cast : opens_cast old ≡ false

plain_primary : (l : Bool) (b : ℕ) (ws : List Want) (d : ℕ) (old : Row) → IsPlain old → run l table (Unary b ∷ ws) d old ≡ run l table (Primary b ∷ Calls b ∷ ws) d old
plain_primary l b ws d old p = unary_is_primary l b ws d old (sym (next_first (is_sign (codes "-")) old) ∙ p.minus) (sym (next_first (is_sign (codes "!")) old) ∙ p.mark) (no_cast old p.cast)

pub post_goes : (k n : ℕ) (old mid rest : Row) → k ≤ n → IsPlain old → Goes Primary (λ b. []) k old mid → Moves (λ b. Calls b ∷ []) (λ b. []) k n mid rest → Goes Unary (λ b. []) n old rest
post_goes k n old mid rest h p g m l b f ws d = plain_primary l b ws d old p ∙ g l b (λ e. omega (arith, h, f e)) (Calls b ∷ ws) d ∙ m l b f ws

pub primary_halts : (b : ℕ) (r : Option Reason) (old rest : Row) → IsPlain old → Halts (Primary b) r old rest → Halts (Unary b) r old rest
primary_halts b r old rest p s d = stays_on (Unary b ∷ []) (Primary b) (λ ws. Calls b ∷ ws) d d r old old rest (λ ws. plain_primary true b ws d old p) (s d)

pub calls_halt : (b k : ℕ) (r : Option Reason) (old mid rest : Row) → k ≤ b → IsPlain old → Goes Primary (λ b. []) k old mid → Stays (Calls b ∷ []) k r mid rest → Halts (Unary b) r old rest
calls_halt b k r old mid rest fits p g s d = stays_on (Unary b ∷ []) (Calls b) (λ ws. ws) d k r old mid rest (λ ws. plain_primary true b ws d old p ∙ g true b (λ h. fits) (Calls b ∷ ws) d) s
