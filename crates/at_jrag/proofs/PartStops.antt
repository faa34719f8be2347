-- Where a primary, its calls and their arguments stop, and how far the limited machine goes up to there.
use Rattle.std.proofs.Common.{◌≡◌, ℕ, ◌+◌, ◌-◌, ◌≤◌, ◌<◌, List, [], ◌∷◌, ◌++◌, Bool, true, false, cond, max, Option, Some, None, refl, sym, ap, subst, ◌∙◌, append_assoc, arith, inl, inr}
use Rattle.std.specs.Prelude.{ℤ, nat_lt, decimal, ◌&&◌, ◌||◌, Result, Ok, Err, IfErr}
use Rattle.std.specs.Str.{bytes_eq}
use Rattle.std.proofs.lemmas.Bool.{lt-ltb, le-ltb, and_parts, or_parts}
use Rattle.std.proofs.lemmas.Slice.Eq.{bytes_eq-Decides}
use lib.Chars.{codes}
use Rattle.at_text.specs.Reading.{first}
use Rattle.at_model.specs.Names.{is_name}
use Rattle.at_model.specs.Texts.{quoted}
use Rattle.at_text.specs.declared.token.TokenKind.{TokenKind}
use Rattle.at_text.specs.declared.token.TokenKind.TheVariants as kind
use Rattle.at_text.specs.Symbols.{PlacedToken, is_sign_kind, is_word_kind}
use Rattle.at_text.specs.declared.place.Place.{Place}
use Rattle.at_jrag.specs.Grammar as grammar
use Rattle.at_text.specs.Rows.{Row, sign, word, is_sign, is_word, is_name_token, next_is}
use Rattle.at_jrag.specs.Grammar.{Spells, NumberOf, depth, fold_text, number, quotation}
use Rattle.at_jrag.specs.Syntax as syntax
use Rattle.at_jrag.specs.Syntax.{Word, Expr, FoldForm}
use Rattle.at_text.specs.Machine.{Answer, Takes, Skips, Refuses, LeavesOut, Reason, Refused, LeftOut, TooDeep, Stuck, and_then, is_skip, run}
use Rattle.at_jrag.specs.Read.{is_literal}
use Rattle.at_jrag.specs.Wants.{Want, Expression, Choice, Calls, Called, Arguments, FirstArgument, MoreArguments, Primary, Named, FoldBody, Deeper, Deepest, Join, Name, Mark}
use Rattle.at_jrag.specs.Table as tables
use Rattle.at_jrag.specs.Table.{next, expects, table, is_plain, begins_fold, is_number_within, primary_answer, binary_answer, expression_answer}
use Rattle.at_jrag.specs.Runs.{Goes, Moves, Stays, Halts, Missing, NotOpened, NoLiteral, IsOther, reason_of}
use Rattle.at_text.specs.declared.fault.Failure.{Failure}
use Rattle.at_text.specs.declared.fault.Failure.TheVariants as failure
use Rattle.at_jrag.specs.declared.JragCode.{JragCode}
use Rattle.at_jrag.specs.declared.JragCode.TheVariants as code
use Rattle.at_text.proofs.MachineLaws.{run-takes, run-skips, run-refuses, run-too_deep, run-leaves_out}
use Rattle.at_text.proofs.MachineLaws.{run-begins}
use Rattle.at_jrag.proofs.of_expressions.ExpressionSteps.{then_stays, sign_is, name_is_no_literal}
use Rattle.at_jrag.proofs.of_expressions.ExpressionRuns.{moves_on, calls_end, call_moves, more_none, literal_goes, name_goes, named_taken, fold_taken, fold_goes}
use Rattle.at_jrag.proofs.of_expressions.ExpressionsTaken.{next_first, deep, number_is, number_literal, quoted_is}

-- ---- the limited machine, step by step

-- where us is wanted first, it goes on from the one row up to the other, where vs is wanted in its place
pub record Reaches (us : List Want) (d : ℕ) (vs : List Want) (e : ℕ) (old mid : Row) : Type 0 where
  pub over : (ws : List Want) → run true table (us ++ ws) d old ≡ run true table (vs ++ ws) e mid

pub reach_start : (us : List Want) (d : ℕ) (old : Row) → Reaches us d us d old old
reach_start us d old = record { over = λ ws. refl }

pub reach_takes : {us vs : List Want} {d e : ℕ} {old mid : Row} (w : Want) (more : List Want) (x : ℕ) (t : PlacedToken) (rest : Row)
    → Reaches us d (w ∷ vs) e old mid → mid ≡ t ∷ rest → table w e (Some t) ≡ Takes true more x → Reaches us d (more ++ vs) x old rest
reach_takes {vs = vs} {e = e} w more x t rest r m a = record {
  over = λ ws. r.over ws
      ∙ ap (run true table (w ∷ (vs ++ ws)) e) m
      ∙ run-takes true table w true more (vs ++ ws) e x t rest a (λ h. refl)
      ∙ ap (λ l. run true table l x rest) (sym (append_assoc more vs ws));
}

sign_next : (text : List ℕ) (at : Place) → is_sign text (sign text at) ≡ true
sign_next text at = (bytes_eq-Decides text text).1 refl

pub reach_sign : {us vs : List Want} {d e : ℕ} {old mid : Row} (text : List ℕ) (at : Place) (rest : Row) → Reaches us d (Mark text ∷ vs) e old mid → mid ≡ sign text at ∷ rest
    → Reaches us d vs e old rest
unfolding table
reach_sign {e = e} text at rest r m = reach_takes (Mark text) [] e (sign text at) rest r m (ap (λ x. cond x (Takes true [] e) Refuses) (sign_next text at))

pub reach_name : {us vs : List Want} {d e : ℕ} {old mid : Row} (w : Word) (rest : Row) → Reaches us d (Name ∷ vs) e old mid → grammar.Name w mid rest → Reaches us d vs e old rest
unfolding table
reach_name {e = e} w rest r n = reach_takes Name [] e (word w.text w.at) rest r n.1 (ap (λ x. cond x (Takes true [] e) Refuses) n.0)

pub reach_goes : {us vs : List Want} {d e : ℕ} {old mid : Row} (want : ℕ → Want) (b n : ℕ) (rest : Row) → Reaches us d (want b ∷ vs) e old mid → Goes want (λ b. []) n mid rest → n ≤ b
    → Reaches us d vs n old rest
reach_goes {vs = vs} {e = e} want b n rest r g h = record { over = λ ws. r.over ws ∙ g true b (λ l. h) (vs ++ ws) e }

pub reach_moves : {us vs : List Want} {d e : ℕ} {old mid : Row} (want : ℕ → Want) (b n : ℕ) (rest : Row) → Reaches us d (want b ∷ vs) e old mid
    → Moves (λ b. want b ∷ []) (λ b. []) e n mid rest → n ≤ b → Reaches us d vs n old rest
reach_moves {vs = vs} want b n rest r g h = record { over = λ ws. r.over ws ∙ g true b (λ l. h) (vs ++ ws) }

-- where a part stops
pub reach_stays : {us vs : List Want} {d e : ℕ} {old mid : Row} (w : Want) (r : Option Reason) (rest : Row) → Reaches us d (w ∷ vs) e old mid → Stays (w ∷ []) e r mid rest
    → Stays us d r old rest
reach_stays w None rest h s = tt
reach_stays {vs = vs} w (Some r) rest h s = λ ws. h.over ws ∙ s (vs ++ ws)

pub reach_halts : {us vs : List Want} {d e : ℕ} {old mid : Row} (w : Want) (r : Option Reason) (rest : Row) → Reaches us d (w ∷ vs) e old mid → Halts w r mid rest → Stays us d r old rest
reach_halts {e = e} w r rest h s = reach_stays w r rest h (s e)

-- ---- the next token doesn't go on

refused_at : (w : Want) (d : ℕ) (old rest : Row) → table w d (first old) ≡ Refuses → rest ≡ old → Stays (w ∷ []) d (Some Refused) old rest
refused_at w d old rest a s = λ ws. run-refuses true table w ws d old a ∙ ap (λ (x : Row). Stuck Refused x) (sym s)

too_deep_at : (test : PlacedToken → Bool) (w : Want) (more : List Want) (x d : ℕ) (within : Bool) (old rest : Row) → next_is test old ≡ true
    → table w d (first old) ≡ Takes within more x → within ≡ false → rest ≡ old
    → Stays (w ∷ []) d (Some TooDeep) old rest
too_deep_at test w more x d within [] rest n a k s = absurd cc
too_deep_at test w more x d within (t ∷ ts) rest n a k s = λ ws. run-too_deep table w more ws d x t ts (a ∙ ap (λ y. Takes y more x) k) ∙ ap (λ (y : Row). Stuck TooDeep y) (sym s)

-- an error for the limit
by_nesting : (us : List Want) (d : ℕ) (e : Failure JragCode) (old rest : Row) → e ≡ (failure.For code.Nesting) → Stays us d (Some TooDeep) old rest → Stays us d (reason_of e) old rest
by_nesting us d e old rest h s = subst (λ (x : Failure JragCode). Stays us d (reason_of x) old rest) (sym h) s

missing_halts : (w : Want) (test : PlacedToken → Bool) → ((d : ℕ) (old : Row) → next_is test old ≡ false → table w d (first old) ≡ Refuses) → (e : Failure JragCode) (old rest : Row)
    → Missing test e old rest → Halts w (reason_of e) old rest
missing_halts w test h failure.Memory old rest m = λ d. tt
missing_halts w test h (failure.For code.Syntax) old rest m = λ d. refused_at w d old rest (h d old m.1) m.0
missing_halts w test h (failure.For code.LeftOut) old rest m = absurd m
missing_halts w test h (failure.For code.Nesting) old rest m = absurd m

expects_refuses : (test : PlacedToken → Bool) (takes : Answer Want) (old : Row) → next_is test old ≡ false → expects test takes (first old) ≡ Refuses
expects_refuses test takes old e = ap (λ x. cond x takes Refuses) (sym (next_first test old) ∙ e)

pub mark_missing : (text : List ℕ) (e : Failure JragCode) (old rest : Row) → Missing (is_sign text) e old rest → Halts (Mark text) (reason_of e) old rest
unfolding table
mark_missing text e old rest m = missing_halts (Mark text) (is_sign text) (λ d row h. expects_refuses (is_sign text) (Takes true [] d) row h) e old rest m

pub name_missing : (e : Failure JragCode) (old rest : Row) → Missing is_name_token e old rest → Halts Name (reason_of e) old rest
unfolding table
name_missing e old rest m = missing_halts Name is_name_token (λ d row h. expects_refuses is_name_token (Takes true [] d) row h) e old rest m

-- ---- calls

called_refuses : (b d : ℕ) (old : Row) → next_is is_name_token old ≡ false → table (Called b) d (first old) ≡ Refuses
unfolding table
called_refuses b d [] h = refl
called_refuses b d (t ∷ ts) h = ap (λ x. cond x (Takes true (Arguments (bytes_eq t.text (codes "getChild")) b ∷ []) 0) Refuses) h

called : {us : List Want} {d n : ℕ} {old mid : Row} (b : ℕ) (at : Place) (rest : Row) → Reaches us d (Calls b ∷ []) n old mid → n < b → mid ≡ sign (codes ".") at ∷ rest
    → Reaches us d (Called (b - 1) ∷ Join n ∷ Calls b ∷ []) 0 old rest
unfolding table
called {n = n} b at rest r h m =
    reach_takes (Calls b) (Called (b - 1) ∷ Join n ∷ Calls b ∷ []) 0 (sign (codes ".") at) rest r m (ap (λ x. Takes x (Called (b - 1) ∷ Join n ∷ Calls b ∷ []) 0) (lt-ltb n b h))

-- calls behind a first receiver, which go on
abbrev pub AreCalls : ℕ → ℕ → Row → Row → Type 0
AreCalls m n old rest = Moves (λ b. Calls b ∷ []) (λ b. Calls b ∷ []) m n old rest

calls_from : (b m n : ℕ) (old mid : Row) → AreCalls m n old mid → n ≤ b → Reaches (Calls b ∷ []) m (Calls b ∷ []) n old mid
calls_from b m n old mid g h = record { over = λ ws. g true b (λ l. h) ws }

-- a `.` where the receiver is as deep as the budget
pub calls_too_deep : (b m n : ℕ) (e : Failure JragCode) (start old rest : Row) → AreCalls m n start old → n ≤ b → e ≡ (failure.For code.Nesting) → next_is (is_sign (codes ".")) old ≡ true → b ≤ n
    → rest ≡ old → Stays (Calls b ∷ []) m (reason_of e) start rest
unfolding table
calls_too_deep b m n e start old rest g h is dot k s =
    by_nesting (Calls b ∷ []) m e start rest is (reach_stays (Calls b) (Some TooDeep) rest (calls_from b m n start old g h)
    (too_deep_at (is_sign (codes ".")) (Calls b) (Called (b - 1) ∷ Join n ∷ Calls b ∷ []) 0 n (nat_lt n b) old rest dot
    (ap (λ x. cond x (Takes (nat_lt n b) (Called (b - 1) ∷ Join n ∷ Calls b ∷ []) 0) (Skips n)) (sym (next_first (is_sign (codes ".")) old) ∙ dot)) (le-ltb n b k) s))

-- no name behind the `.`
pub calls_no_name : (b m n : ℕ) (at : Place) (e : Failure JragCode) (start old mid rest : Row) → AreCalls m n start old → n < b → old ≡ sign (codes ".") at ∷ mid → Missing is_name_token e mid rest
    → Stays (Calls b ∷ []) m (reason_of e) start rest
calls_no_name b m n at e start old mid rest g h dot none =
    reach_halts (Called (b - 1)) (reason_of e) rest (called b at mid (calls_from b m n start old g (omega (arith, h))) h dot)
    (missing_halts (Called (b - 1)) is_name_token (called_refuses (b - 1)) e mid rest none)

-- the arguments of a call stop
pub calls_arguments : (b m n : ℕ) (at : Place) (w : Word) (r : Option Reason) (start old mid paren rest : Row) → AreCalls m n start old → n < b → old ≡ sign (codes ".") at ∷ mid
    → grammar.Name w mid paren
    → Halts (Arguments (bytes_eq w.text (codes "getChild")) (b - 1)) r paren rest → Stays (Calls b ∷ []) m r start rest
unfolding table
calls_arguments b m n at w r start old mid paren rest g h dot name s =
    let more = Arguments (bytes_eq w.text (codes "getChild")) (b - 1) ∷ [] in
    reach_halts (Arguments (bytes_eq w.text (codes "getChild")) (b - 1)) r rest
    (reach_takes (Called (b - 1)) more 0 (word w.text w.at) paren (called b at mid (calls_from b m n start old g (omega (arith, h))) h dot) name.1
    (ap (λ x. cond x (Takes true more 0) Refuses) name.0)) s

-- one call more
pub calls_more : (m n k p : ℕ) (at : Place) (w : Word) (start old mid paren rest : Row) → AreCalls m n start old → old ≡ sign (codes ".") at ∷ mid → grammar.Name w mid paren
    → Goes (Arguments (bytes_eq w.text (codes "getChild"))) (λ b. []) k paren rest → p ≡ 1 + max n k → AreCalls m p start rest
calls_more m n k p at w start old mid paren rest g dot name a size =
    subst (λ (x : ℕ). AreCalls m x start rest) (sym size)
    (moves_on (λ b. Calls b ∷ []) (λ b. Calls b ∷ []) (λ b. Calls b ∷ []) m n (1 + max n k) start old rest (omega arith) g
    (call_moves at w.at w.text n k old paren rest (dot ∙ ap (λ x. sign (codes ".") at ∷ x) name.1) name.0 a))

-- no call more
pub calls_done : (m n : ℕ) (start old rest : Row) → AreCalls m n start old → rest ≡ old → next_is (is_sign (codes ".")) old ≡ false → Moves (λ b. Calls b ∷ []) (λ b. []) m n start rest
calls_done m n start old rest g s none =
    subst (λ (x : Row). Moves (λ b. Calls b ∷ []) (λ b. []) m n start x) (sym s)
    (moves_on (λ b. Calls b ∷ []) (λ b. Calls b ∷ []) (λ b. []) m n n start old old (omega arith) g (calls_end n old (sym (next_first (is_sign (codes ".")) old) ∙ none)))

-- ---- arguments

-- from behind the `(` up to here, where one more is wanted
abbrev pub Among : Bool → ℕ → Row → Row → Type 0
Among g depth start old = (l : Bool) (b : ℕ) → (l ≡ true → depth ≤ b) → (ws : List Want) (d : ℕ)
    → (us : List Want) × (e : ℕ) × (run l table (FirstArgument g b ∷ ws) d start ≡ run l table (Expression b ∷ (us ++ MoreArguments b ∷ ws)) e old)
    × ((n : ℕ) (row : Row) → run l table (us ++ MoreArguments b ∷ ws) n row ≡ run l table (MoreArguments b ∷ ws) (max depth n) row)

-- the first
pub among_first : (g : Bool) (start : Row) → next_is (is_sign (codes ")")) start ≡ false → g && next_is (is_word (codes "int")) start ≡ false → Among g 0 start start
unfolding table
among_first g start close int l b f ws d =
    let more = and_then (expression_answer b (first start)) (MoreArguments b ∷ []) in (
      [],
      d,
      run-begins l table (FirstArgument g b) (Expression b) (MoreArguments b ∷ []) ws d start
          (ap (λ x. cond x (Takes true [] 0) (cond (g && next (is_word (codes "int")) (first start)) LeavesOut more)) (sym (next_first (is_sign (codes ")")) start) ∙ close)
          ∙ ap (λ x. cond x LeavesOut more) (ap (λ x. g && x) (sym (next_first (is_word (codes "int")) start)) ∙ int))
          (then_stays (binary_answer 6 b (first start)) (Choice b ∷ [])),
      λ n row. ap (λ x. run l table (MoreArguments b ∷ ws) x row) (omega arith),
    )

pub among_start : (g : Bool) (start old : Row) → start ≡ old → next_is (is_sign (codes ")")) old ≡ false → g && next_is (is_word (codes "int")) old ≡ false → Among g 0 start start
among_start g start old s close int = subst (λ (x : Row). Among g 0 x x) (sym s) (among_first g old close int)

-- a `,` behind an argument
pub among_next : (g : Bool) (m n k : ℕ) (at : Place) (start old more one : Row) → Among g m start old → Goes Expression (λ b. []) n old more → more ≡ sign (codes ",") at ∷ one
    → k ≡ max m n → Among g k start one
unfolding table
among_next g m n k at start old more one h e comma size l b f ws d =
    let a = h l b (λ x. omega (arith, size, f x)) ws d in (
      Deepest k ∷ [],
      0,
      a.2
          ∙ e l b (λ x. omega (arith, size, f x)) (a.0 ++ MoreArguments b ∷ ws) a.1
          ∙ a.3 n more
          ∙ ap (λ x. run l table (MoreArguments b ∷ ws) x more) (sym size)
          ∙ ap (run l table (MoreArguments b ∷ ws) k) comma
          ∙ run-takes l table (MoreArguments b) true (Expression b ∷ Deepest k ∷ MoreArguments b ∷ []) ws k 0 (sign (codes ",") at) one refl (λ x. refl),
      λ i row. run-skips l table (Deepest k) (MoreArguments b ∷ ws) i (max k i) row refl,
    )

-- a `)` behind an argument
pub among_end : (g : Bool) (m n k : ℕ) (at : Place) (start old more rest : Row) → Among g m start old → Goes Expression (λ b. []) n old more
    → more ≡ sign (codes ")") at ∷ rest → k ≡ max m n → Goes (FirstArgument g) (λ b. []) k start rest
among_end g m n k at start old more rest h e close size l b f ws d =
    let a = h l b (λ x. omega (arith, size, f x)) ws d in
    a.2
    ∙ e l b (λ x. omega (arith, size, f x)) (a.0 ++ MoreArguments b ∷ ws) a.1
    ∙ a.3 n more
    ∙ ap (λ x. run l table (MoreArguments b ∷ ws) x more) (sym size)
    ∙ more_none at k more rest close l b f ws

-- an argument stops
pub among_halts : (g : Bool) (b m : ℕ) (r : Option Reason) (start old rest : Row) → Among g m start old → m ≤ b → Halts (Expression b) r old rest → Halts (FirstArgument g b) r start rest
among_halts g b m None start old rest h k s = λ d. tt
among_halts g b m (Some r) start old rest h k s = λ d ws. let a = h true b (λ x. k) ws d in a.2 ∙ s a.1 (a.0 ++ MoreArguments b ∷ ws)

among_stays : (g : Bool) (b m n : ℕ) (r : Option Reason) (start old more rest : Row) → Among g m start old → Goes Expression (λ b. []) n old more → m ≤ b → n ≤ b
    → Stays (MoreArguments b ∷ []) (max m n) r more rest → Halts (FirstArgument g b) r start rest
among_stays g b m n None start old more rest h e k j s = λ d. tt
among_stays g b m n (Some r) start old more rest h e k j s = λ d ws.
    let a = h true b (λ x. k) ws d in
    a.2 ∙ e true b (λ x. j) (a.0 ++ MoreArguments b ∷ ws) a.1 ∙ a.3 n more ∙ s ws

more_missing : (b n : ℕ) (e : Failure JragCode) (more rest : Row)
    → next_is (is_sign (codes ")")) more ≡ false → Missing (is_sign (codes ",")) e more rest → Stays (MoreArguments b ∷ []) n (reason_of e) more rest
unfolding table
more_missing b n failure.Memory more rest close m = tt
more_missing b n (failure.For code.Syntax) more rest close m =
    let takes = Takes true (Expression b ∷ Deepest n ∷ MoreArguments b ∷ []) 0 in
    refused_at (MoreArguments b) n more rest
    (ap (λ x. cond x (Takes true [] n) (expects (is_sign (codes ",")) takes (first more))) (sym (next_first (is_sign (codes ")")) more) ∙ close) ∙ expects_refuses (is_sign (codes ","))
    takes more m.1) m.0
more_missing b n (failure.For code.LeftOut) more rest close m = absurd m
more_missing b n (failure.For code.Nesting) more rest close m = absurd m

-- neither `)` nor `,` behind an argument
pub among_no_comma : (g : Bool) (b m n : ℕ) (e : Failure JragCode) (start old more same rest : Row) → Among g m start old → Goes Expression (λ b. []) n old more → m ≤ b → n ≤ b
    → next_is (is_sign (codes ")")) more ≡ false → same ≡ more → Missing (is_sign (codes ",")) e same rest → Halts (FirstArgument g b) (reason_of e) start rest
among_no_comma g b m n e start old more same rest h x k j close s none =
    among_stays g b m n (reason_of e) start old more rest h x k j (more_missing b (max m n) e more rest close (subst (λ (y : Row). Missing (is_sign (codes ",")) e y rest) s none))

opens : (g : Bool) (b d : ℕ) (at : Place) (old list : Row) → old ≡ sign (codes "(") at ∷ list → Reaches (Arguments g b ∷ []) d (FirstArgument g b ∷ []) 0 old list
unfolding table
opens g b d at old list e = reach_takes (Arguments g b) (FirstArgument g b ∷ []) 0 (sign (codes "(") at) list (reach_start (Arguments g b ∷ []) d old) e refl

-- the arguments stop behind the `(`
pub arguments_halt : (g : Bool) (b : ℕ) (r : Option Reason) (at : Place) (old list rest : Row)
    → old ≡ sign (codes "(") at ∷ list → Halts (FirstArgument g b) r list rest → Halts (Arguments g b) r old rest
arguments_halt g b r at old list rest e s = λ d. reach_halts (FirstArgument g b) r rest (opens g b d at old list e) s

word_no_sign : (k : TokenKind) (x y : Bool) → is_word_kind k && x ≡ true → is_sign_kind k && y ≡ false
word_no_sign kind.Word x y e = refl
word_no_sign kind.Number x y e = refl
word_no_sign kind.Text x y e = refl
word_no_sign kind.Sign x y e = absurd cc

int_left_out : (g : Bool) (b : ℕ) (rest : Row) → g && next_is (is_word (codes "int")) rest ≡ true → Stays (FirstArgument g b ∷ []) 0 (Some LeftOut) rest rest
unfolding table
int_left_out g b [] e = absurd (let h = and_parts g false e in let q : false ≡ true = h.1 in cc)
int_left_out g b (t ∷ ts) e = λ ws.
    let more = and_then (expression_answer b (Some t)) (MoreArguments b ∷ []) in
    let h = and_parts g (is_word (codes "int") t) e in
    run-leaves_out true table (FirstArgument g b) ws 0 t ts
    (ap (λ x. cond x (Takes true [] 0) (cond (g && is_word (codes "int") t) LeavesOut more)) (word_no_sign t.kind (bytes_eq t.text (codes "int")) (bytes_eq t.text (codes ")")) h.1)
    ∙ ap (λ x. cond x LeavesOut more) e)

-- no `(` behind a name, or an `int` behind that of `getChild`
pub not_opened : (name : List ℕ) (b : ℕ) (e : Failure JragCode) (old rest : Row) → NotOpened name e old rest → Halts (Arguments (bytes_eq name (codes "getChild")) b) (reason_of e) old rest
unfolding table
not_opened name b failure.Memory old rest m = λ d. tt
not_opened name b (failure.For code.Syntax) old rest m = λ d.
    let g = bytes_eq name (codes "getChild") in
    refused_at (Arguments g b) d old rest (expects_refuses (is_sign (codes "(")) (Takes true (FirstArgument g b ∷ []) 0) old m.1) m.0
not_opened name b (failure.For code.LeftOut) old rest m = λ d.
    let g = bytes_eq name (codes "getChild") in
    reach_stays (FirstArgument g b) (Some LeftOut) rest (opens g b d m.0.0 old rest m.0.1) (int_left_out g b rest m.1)
not_opened name b (failure.For code.Nesting) old rest m = absurd m

-- ---- primaries

none_of : (a b c d : Bool) (x y z w : Answer Want) → a ≡ false → b ≡ false → c ≡ false → d ≡ false → cond a x (cond b y (cond c z (cond d w Refuses))) ≡ Refuses
none_of a b c d x y z w e f g h =
    ap (λ v. cond v x (cond b y (cond c z (cond d w Refuses)))) e ∙ ap (λ v. cond v y (cond c z (cond d w Refuses))) f ∙ ap (λ v. cond v z (cond d w Refuses)) g ∙ ap (λ v. cond v w Refuses) h

third_of : (a b c : Bool) (x y z w : Answer Want) → a ≡ false → b ≡ false → c ≡ true → cond a x (cond b y (cond c z w)) ≡ z
third_of a b c x y z w e f g = ap (λ v. cond v x (cond b y (cond c z w))) e ∙ ap (λ v. cond v y (cond c z w)) f ∙ ap (λ v. cond v z w) g

primary_refuses : (b : ℕ) (old : Row) → IsOther old → next_is is_name_token old ≡ false → primary_answer b (first old) ≡ Refuses
primary_refuses b [] o n = refl
primary_refuses b (t ∷ ts) o n = none_of (tables.is_literal t) (is_sign (codes "(") t) (begins_fold t) (is_name_token t) _ _ _ _ o.0 o.1 o.2 n

-- what is neither a sign nor a word
not_plain : (old : Row) → next_is tables.is_literal old ≡ false → next_is is_plain old ≡ false → IsOther old × (next_is is_name_token old ≡ false)
not_plain [] l p = ((refl, refl, refl), refl)
not_plain (t ∷ ts) l p =
    let h = or_parts (is_sign_kind t.kind) (is_word_kind t.kind) p in (
      (l, ap (λ x. x && bytes_eq t.text (codes "(")) h.0, ap (λ x. (x && bytes_eq t.text (codes "exists")) || (x && bytes_eq t.text (codes "first")) || (x && bytes_eq t.text (codes "sum"))) h.1),
      ap (λ x. x && is_name t.text) h.1,
    )

-- a number or a text that is none
pub literal_missing : (b : ℕ) (e : Failure JragCode) (old rest : Row) → NoLiteral e old rest → Halts (Primary b) (reason_of e) old rest
unfolding table
literal_missing b failure.Memory old rest m = λ d. tt
literal_missing b (failure.For code.Syntax) old rest m = λ d. let h = not_plain old m.1 m.2 in refused_at (Primary b) d old rest (primary_refuses b old h.0 h.1) m.0
literal_missing b (failure.For code.LeftOut) old rest m = absurd m
literal_missing b (failure.For code.Nesting) old rest m = absurd m

-- nothing of a primary is next
pub primary_missing : (b : ℕ) (e : Failure JragCode) (old rest : Row) → IsOther old → Missing is_name_token e old rest → Halts (Primary b) (reason_of e) old rest
unfolding table
primary_missing b failure.Memory old rest o m = λ d. tt
primary_missing b (failure.For code.Syntax) old rest o m = λ d. refused_at (Primary b) d old rest (primary_refuses b old o m.1) m.0
primary_missing b (failure.For code.LeftOut) old rest o m = absurd m
primary_missing b (failure.For code.Nesting) old rest o m = absurd m

no_literal_at : (k : TokenKind) (text : List ℕ) (at : Place) → is_literal (record { kind = k; text = text; at = at }) ≡ false
    → tables.is_literal (record { kind = k; text = text; at = at }) ≡ false
no_literal_at kind.Word text at e = e
no_literal_at kind.Number text at e = absurd cc
no_literal_at kind.Text text at e = absurd cc
no_literal_at kind.Sign text at e = refl

-- what is none by its kind, is none
pub no_literal : (old : Row) → next_is is_literal old ≡ false → next_is tables.is_literal old ≡ false
no_literal [] e = refl
no_literal (t ∷ ts) e = no_literal_at t.kind t.text t.at e

paren_answer : (b : ℕ) (old : Row) → next_is (is_sign (codes "(")) old ≡ true → primary_answer b (first old) ≡ Takes (nat_lt 1 b) (Expression (b - 1) ∷ Mark (codes ")") ∷ Deeper ∷ []) 0
paren_answer b [] e = absurd cc
paren_answer b (t ∷ ts) e = ap (λ x. primary_answer b (Some x)) (sign_is (codes "(") t e)

-- a `(` where nothing may nest
pub paren_too_deep : (b : ℕ) (e : Failure JragCode) (old rest : Row) → e ≡ (failure.For code.Nesting)
    → next_is (is_sign (codes "(")) old ≡ true → b ≤ 1 → rest ≡ old → Halts (Primary b) (reason_of e) old rest
unfolding table
paren_too_deep b e old rest is p h s = λ d. by_nesting (Primary b ∷ []) d e old rest is
    (too_deep_at (is_sign (codes "(")) (Primary b) (Expression (b - 1) ∷ Mark (codes ")") ∷ Deeper ∷ []) 0 d (nat_lt 1 b) old rest p (paren_answer b old p) (le-ltb 1 b h) s)

abbrev fold_wants : ℕ → List Want
fold_wants b = Mark (codes "(") ∷ Name ∷ Mark (codes ":") ∷ Primary (b - 1) ∷ Calls (b - 1) ∷ Mark (codes ")") ∷ FoldBody b ∷ []

fold_answer : (b : ℕ) (old : Row) → next_is tables.is_literal old ≡ false
    → next_is (is_sign (codes "(")) old ≡ false → next_is begins_fold old ≡ true → primary_answer b (first old) ≡ Takes (nat_lt 1 b) (fold_wants b) 0
fold_answer b [] l p e = absurd cc
fold_answer b (t ∷ ts) l p e = third_of (tables.is_literal t) (is_sign (codes "(") t) (begins_fold t) _ _ _ _ l p e

-- a fold where nothing may nest
pub fold_too_deep : (b : ℕ) (e : Failure JragCode) (old rest : Row) → e ≡ (failure.For code.Nesting) → next_is tables.is_literal old ≡ false
    → next_is (is_sign (codes "(")) old ≡ false → next_is begins_fold old ≡ true → b ≤ 1 → rest ≡ old
    → Halts (Primary b) (reason_of e) old rest
unfolding table
fold_too_deep b e old rest is l p f h s = λ d. by_nesting (Primary b ∷ []) d e old rest is
    (too_deep_at begins_fold (Primary b) (fold_wants b) 0 d (nat_lt 1 b) old rest f (fold_answer b old l p f) (le-ltb 1 b h) s)

paren_opens : (b d : ℕ) (at : Place) (old one : Row) → 1 < b → old ≡ sign (codes "(") at ∷ one → Reaches (Primary b ∷ []) d (Expression (b - 1) ∷ Mark (codes ")") ∷ Deeper ∷ []) 0 old one
unfolding table
paren_opens b d at old one h e =
    let more = Expression (b - 1) ∷ Mark (codes ")") ∷ Deeper ∷ [] in
    reach_takes (Primary b) more 0 (sign (codes "(") at) one (reach_start (Primary b ∷ []) d old) e (ap (λ x. Takes x more 0) (lt-ltb 1 b h))

-- the expression within a parenthesis stops
pub paren_halts : (b : ℕ) (r : Option Reason) (at : Place) (old one rest : Row) → 1 < b
    → old ≡ sign (codes "(") at ∷ one → Halts (Expression (b - 1)) r one rest → Halts (Primary b) r old rest
paren_halts b r at old one rest h e s = λ d. reach_halts (Expression (b - 1)) r rest (paren_opens b d at old one h e) s

-- no `)` behind it
pub paren_open : (b n : ℕ) (at : Place) (e : Failure JragCode) (old one close rest : Row) → 1 < b
    → old ≡ sign (codes "(") at ∷ one → Goes Expression (λ b. []) n one close → n ≤ b - 1 → Missing (is_sign (codes ")")) e close rest
    → Halts (Primary b) (reason_of e) old rest
paren_open b n at e old one close rest h p g k m = λ d.
    reach_halts (Mark (codes ")")) (reason_of e) rest (reach_goes Expression (b - 1) n close (paren_opens b d at old one h p) g k) (mark_missing (codes ")") e close rest m)

-- ---- names and calls asked of `this`

named_calls : (l g : Bool) (b : ℕ) (ws : List Want) (d : ℕ) (old : Row)
    → next_is (is_sign (codes "(")) old ≡ true → run l table (Named g b ∷ ws) d old ≡ run l table (Arguments g (b - 1) ∷ Deeper ∷ ws) d old
unfolding table
named_calls l g b ws d old p =
    let e = sym (next_first (is_sign (codes "(")) old) ∙ p in
    let first_of = Takes true (FirstArgument g (b - 1) ∷ []) 0 in
    run-begins l table (Named g b) (Arguments g (b - 1)) (Deeper ∷ []) ws d old
    (ap (λ x. cond x (Takes true (FirstArgument g (b - 1) ∷ Deeper ∷ []) 0) (Skips 1)) e ∙ sym (ap (λ x. and_then (cond x first_of Refuses) (Deeper ∷ [])) e))
    (ap (λ x. is_skip (cond x first_of Refuses)) e)

-- a name alone
pub plain_name : (w : Word) (old rest : Row) → grammar.Name w old rest → next_is (is_sign (codes "(")) rest ≡ false → Goes Primary (λ b. []) 1 old rest
plain_name w old rest n none = name_goes w.text w.at old rest n.1 n.0 (sym (next_first (is_sign (codes "(")) rest) ∙ none)

pub named_goes : (w : Word) (n : ℕ) (old mid rest : Row) → grammar.Name w old mid
    → next_is (is_sign (codes "(")) mid ≡ true → Goes (Arguments (bytes_eq w.text (codes "getChild"))) (λ b. []) n mid rest → Goes Primary (λ b. []) (1 + n) old rest
unfolding table
named_goes w n old mid rest name p a l b f ws d =
    ap (run l table (Primary b ∷ ws) d) name.1
    ∙ named_taken l b ws d w.text w.at mid name.0 (λ h. omega (arith, f h))
    ∙ named_calls l (bytes_eq w.text (codes "getChild")) b ws 0 mid p
    ∙ a l (b - 1) (λ h. omega (arith, f h)) (Deeper ∷ ws) 0
    ∙ run-skips l table Deeper ws n (1 + n) rest refl

named_reach : (w : Word) (b d : ℕ) (old mid : Row) → 0 < b → grammar.Name w old mid
    → next_is (is_sign (codes "(")) mid ≡ true → Reaches (Primary b ∷ []) d (Arguments (bytes_eq w.text (codes "getChild")) (b - 1) ∷ Deeper ∷ []) 0 old mid
named_reach w b d old mid h name p = record {
  over = λ ws.
      ap (run true table (Primary b ∷ ws) d) name.1
      ∙ named_taken true b ws d w.text w.at mid name.0 (λ x. omega (arith, h))
      ∙ named_calls true (bytes_eq w.text (codes "getChild")) b ws 0 mid p;
}

-- the arguments behind a name stop
pub named_halts : (w : Word) (b : ℕ) (r : Option Reason) (old mid rest : Row) → 0 < b → grammar.Name w old mid
    → next_is (is_sign (codes "(")) mid ≡ true → Halts (Arguments (bytes_eq w.text (codes "getChild")) (b - 1)) r mid rest → Halts (Primary b) r old rest
named_halts w b r old mid rest h name p s = λ d. reach_halts (Arguments (bytes_eq w.text (codes "getChild")) (b - 1)) r rest (named_reach w b d old mid h name p) s

-- a name stops where nothing else of a primary is next
pub named_here : {A : Type 0} (r : Result A (Failure JragCode)) (b : ℕ) (old mid rest : Row) → mid ≡ old → IsOther old → IfErr r (λ e. IsOther mid → Halts (Primary b) (reason_of e) mid rest)
    → IfErr r (λ e. Halts (Primary b) (reason_of e) old rest)
named_here (Ok a) b old mid rest s o h = h
named_here (Err e) b old mid rest s o h = subst (λ (x : Row). Halts (Primary b) (reason_of e) x rest) s (h (subst (λ (x : Row). IsOther x) (sym s) o))

-- ---- folds

-- behind its word
pub fold_opens : (form : FoldForm) (at : Place) (b d : ℕ) (old paren : Row) → 1 < b → old ≡ word (fold_text form) at ∷ paren → Reaches (Primary b ∷ []) d (fold_wants b) 0 old paren
unfolding table
fold_opens form at b d old paren h e =
    reach_takes (Primary b) (fold_wants b) 0 (word (fold_text form) at) paren (reach_start (Primary b ∷ []) d old) e (fold_taken form at b ∙ ap (λ x. Takes x (fold_wants b) 0) (lt-ltb 1 b h))

-- up to the list, of which a primary begins
pub fold_list : (form : FoldForm) (at paren_at colon_at : Place) (w : Word) (b d : ℕ) (old paren named colon items : Row) → 1 < b → old ≡ word (fold_text form) at ∷ paren
    → paren ≡ sign (codes "(") paren_at ∷ named → grammar.Name w named colon
    → colon ≡ sign (codes ":") colon_at ∷ items → Reaches (Primary b ∷ []) d (Primary (b - 1) ∷ Calls (b - 1) ∷ Mark (codes ")") ∷ FoldBody b ∷ []) 0 old items
fold_list form at paren_at colon_at w b d old paren named colon items h e p n c =
    reach_sign (codes ":") colon_at items (reach_name w colon (reach_sign (codes "(") paren_at named (fold_opens form at b d old paren h e) p) n) c

-- behind its list
pub fold_close : {d : ℕ} {old items : Row} (b m n : ℕ) (mid close : Row) → Reaches (Primary b ∷ []) d (Primary (b - 1) ∷ Calls (b - 1) ∷ Mark (codes ")") ∷ FoldBody b ∷ []) 0 old items
    → Goes Primary (λ b. []) m items mid → m ≤ b - 1 → Moves (λ b. Calls b ∷ []) (λ b. []) m n mid close → n ≤ b - 1
    → Reaches (Primary b ∷ []) d (Mark (codes ")") ∷ FoldBody b ∷ []) n old close
fold_close b m n mid close r p h c k = reach_moves Calls (b - 1) n close (reach_goes Primary (b - 1) m mid r p h) c k

-- up to its body
pub fold_body : {d n : ℕ} {old close : Row} (b : ℕ) (close_at brace_at : Place) (brace one : Row) → Reaches (Primary b ∷ []) d (Mark (codes ")") ∷ FoldBody b ∷ []) n old close
    → close ≡ sign (codes ")") close_at ∷ brace → brace ≡ sign (codes "{") brace_at ∷ one → Reaches (Primary b ∷ []) d (Expression (b - 1) ∷ Mark (codes "}") ∷ Join n ∷ []) 0 old one
unfolding table
fold_body {n = n} b close_at brace_at brace one r c e =
    reach_takes (FoldBody b) (Expression (b - 1) ∷ Mark (codes "}") ∷ Join n ∷ []) 0 (sign (codes "{") brace_at) one (reach_sign (codes ")") close_at brace r c) e refl

-- no `{` behind the `)`
pub brace_missing : (b : ℕ) (e : Failure JragCode) (old rest : Row) → Missing (is_sign (codes "{")) e old rest → Halts (FoldBody b) (reason_of e) old rest
unfolding table
brace_missing b e old rest m =
    missing_halts (FoldBody b) (is_sign (codes "{")) (λ d row h. expects_refuses (is_sign (codes "{")) (Takes true (Expression (b - 1) ∷ Mark (codes "}") ∷ Join d ∷ []) 0) row h) e old rest m

-- a fold stops behind its word
pub fold_here : {A : Type 0} (r : Result A (Failure JragCode)) (b : ℕ) (t : PlacedToken) (old mid rest : Row) → old ≡ t ∷ mid
    → IfErr r (λ e. (row : Row) → row ≡ t ∷ mid → Halts (Primary b) (reason_of e) row rest)
    → IfErr r (λ e. Halts (Primary b) (reason_of e) old rest)
fold_here (Ok a) b t old mid rest s h = h
fold_here (Err e) b t old mid rest s h = h old s

-- a fold that was read
pub fold_done : (form : FoldForm) (at paren_at colon_at close_at brace_at end_at : Place) (w : Word) (m n k : ℕ) (old paren named colon items mid close brace one end rest : Row)
    → 1 ≤ m → m ≤ n
    → old ≡ word (fold_text form) at ∷ paren → paren ≡ sign (codes "(") paren_at ∷ named → grammar.Name w named colon → colon ≡ sign (codes ":") colon_at ∷ items
    → Goes Primary (λ b. []) m items mid → Moves (λ b. Calls b ∷ []) (λ b. []) m n mid close → close ≡ sign (codes ")") close_at ∷ brace → brace ≡ sign (codes "{") brace_at ∷ one
    → Goes Expression (λ b. []) k one end → end ≡ sign (codes "}") end_at ∷ rest → Goes Primary (λ b. []) (1 + max n k) old rest
fold_done form at paren_at colon_at close_at brace_at end_at w m n k old paren named colon items mid close brace one end rest some deeper e p name c g h q r body z =
    fold_goes form at paren_at w.at colon_at close_at brace_at end_at w.text n k old items close one end rest (omega (arith, some, deeper))
    (e ∙ ap (λ x. word (fold_text form) at ∷ x) (p ∙ ap (λ x. sign (codes "(") paren_at ∷ x) (name.1 ∙ ap (λ x. word w.text w.at ∷ x) c))) name.0
    (λ l b f ws d. g l b (λ x. omega (arith, deeper, f x)) (Calls b ∷ ws) d ∙ h l b f ws)
    (q ∙ ap (λ x. sign (codes ")") close_at ∷ x) r) body z

-- ---- literals

by_no_literal : (t : PlacedToken) (old ts rest : Row) → old ≡ t ∷ ts → is_literal t ≡ false → next_is is_literal old ≡ true → Goes Primary (λ b. []) 1 old rest
by_no_literal t old ts rest e none some = absurd (let q : true ≡ false = sym some ∙ ap (next_is is_literal) e ∙ none in cc)

number_taken : (at : Place) (n : ℤ) (old rest : Row) → NumberOf at n old rest → next_is is_literal old ≡ true → Goes Primary (λ b. []) 1 old rest
number_taken at n old rest (inl (m, small, is, e)) some = literal_goes (number (decimal m) at) old rest e (number_literal (number (decimal m) at) (number_is 2147483647 m at (omega arith) small))
number_taken at n old rest (inr (m, digits, small, is, e)) some = by_no_literal _ old _ rest e refl some

truth_taken : (b : Bool) (at : Place) (old rest : Row) → old ≡ word (grammar.truth_text b) at ∷ rest → Goes Primary (λ b. []) 1 old rest
truth_taken true at old rest e = literal_goes (word (codes "true") at) old rest e refl
truth_taken false at old rest e = literal_goes (word (codes "false") at) old rest e refl

name_taken : (w : Word) (old ts rest : Row) → grammar.Name w old ts → next_is is_literal old ≡ true → Goes Primary (λ b. []) 1 old rest
name_taken w old ts rest n some = by_no_literal (word w.text w.at) old ts rest n.1 (name_is_no_literal w.text w.at n.0) some

nested : (m : ℕ) (old rest : Row) → 1 ≤ m → 1 + m ≡ 1 → Goes Primary (λ b. []) 1 old rest
nested m old rest h e = absurd (omega (arith, h, e))

-- a literal, told by the kind of its token
pub literal_taken : (e : Expr) (old rest : Row) → Spells e old rest → depth e ≡ 1 → next_is is_literal old ≡ true → Goes Primary (λ b. []) 1 old rest
literal_taken (syntax.Number at n) old rest h d some = number_taken at n old rest h some
literal_taken (syntax.TextLiteral at bytes) old rest h d some = literal_goes (quotation (quoted bytes) at) old rest h (ap (λ x. x || false) (quoted_is bytes))
literal_taken (syntax.Truth at b) old rest h d some = truth_taken b at old rest h
literal_taken (syntax.Null at) old rest h d some = literal_goes (word (codes "null") at) old rest h refl
literal_taken (syntax.This at) old rest h d some = literal_goes (word (codes "this") at) old rest h refl
literal_taken (syntax.Name at text) old rest h d some = name_taken (record { text = text; at = at }) old rest rest h some
literal_taken (syntax.Call at name es) old rest h d some = name_taken (record { text = name; at = at }) old h.0 rest h.2 some
literal_taken (syntax.CallOf at e name es) old rest h d some = absurd (omega (arith, deep e, d))
literal_taken (syntax.Paren at e) old rest h d some = nested (depth e) old rest (deep e) d
literal_taken (syntax.Negate at e) old rest h d some = nested (depth e) old rest (deep e) d
literal_taken (syntax.Not at e) old rest h d some = nested (depth e) old rest (deep e) d
literal_taken (syntax.Cast at class e) old rest h d some = nested (depth e) old rest (deep e) d
literal_taken (syntax.InstanceOf at e behind class) old rest h d some = nested (depth e) old rest (deep e) d
literal_taken (syntax.Binary at o between a b) old rest h d some = absurd (omega (arith, deep a, d))
literal_taken (syntax.Choose at c behind a b) old rest h d some = absurd (omega (arith, deep c, d))
literal_taken (syntax.Fold at form name list body) old rest h d some = absurd (omega (arith, deep list, d))
