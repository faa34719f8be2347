-- What is wanted can be completed: symbols for each want that take it to its end, and what the want needs for that.
use Rattle.std.proofs.Common.{arith, ◌≡◌, ℕ, zero, suc, ◌+◌, ◌-◌, ◌≤◌, List, [], ◌∷◌, ◌++◌, Bool, true, false, cond, max, Option, Some, None, refl, sym, ap, subst, ◌∙◌}
use Rattle.std.specs.Prelude.{◌&&◌, ◌||◌, ◌==◌, nat_lt}
use Rattle.std.proofs.lemmas.Bool.{lt-ltb, eqb-true}
use Rattle.std.proofs.lemmas.Slice.Eq.{bytes_eq-Decides}
use Rattle.std.specs.Fmt.{digits}
use lib.Chars.{codes}
use Rattle.at_text.specs.Reading.{first}
use Rattle.at_text.specs.Symbols.{PlacedToken}
use Rattle.at_text.specs.declared.place.Place.{Place}
use Rattle.at_text.specs.Place.{first_place}
use Rattle.at_text.specs.Rows.{Row, sign, word, is_sign, is_word}
use Rattle.at_jrag.specs.declared.Forms.{Forms}
use Rattle.at_jrag.specs.Grammar.{number, max_nesting}
use Rattle.at_text.specs.Machine.{Takes, Skips, Refuses, LeavesOut, and_then, Whole, run}
use Rattle.at_jrag.specs.Wants.{Want, Expression, Binary, Links, Choice, Otherwise, Unary, Minus, Opened, Enclosed, Parenthesized, Calls, Called, Arguments, FirstArgument, MoreArguments, Primary, Named, FoldBody, Deeper, Join, Deepest, Counts, Name, Mark, File, Decls, Lazy, NotNta, Attribute, Kind, Signed, Opening, Params, OneParam, MoreParams, Circular, Bracket, Start, Ending, Body, Defined, Return, Close}
use Rattle.at_jrag.specs.Table.{table, next, on, is_number_within, expression_answer, link_rank, link_answer, links_answer, choice_answer, calls_answer, named_answer, parenthesized_answer, file_answer, lazy_answer, not_nta_answer, body_answer, named}
use Rattle.at_jrag.specs.Runs.{Pass}
use Rattle.at_text.proofs.SomeName.{is_some_name}
use Rattle.at_text.proofs.MachineLaws.{run-takes, run-skips}
use Rattle.at_text.proofs.MachineLaws.{run-begins}
use Rattle.at_jrag.proofs.of_expressions.ExpressionSteps.{sign_is, binary_stays}
use Rattle.at_jrag.proofs.DeclarationRuns.{pass_none, pass_then, pass_skips}

-- ---- the symbols

abbrev pub mark : List ℕ → PlacedToken
mark text = sign text first_place

abbrev pub int_word : PlacedToken
int_word = word (codes "int") first_place

abbrev pub null : PlacedToken
null = word (codes "null") first_place

abbrev pub true_word : PlacedToken
true_word = word (codes "true") first_place

abbrev pub some_name : PlacedToken
some_name = word (codes "_") first_place

abbrev pub completion : Want → Row
completion (Expression b) = null ∷ []
completion (Binary rank b) = null ∷ []
completion (Links rank b) = []
completion (Choice b) = []
completion (Otherwise b m) = mark (codes ":") ∷ null ∷ []
completion (Unary b) = null ∷ []
completion (Minus b) = number (codes "0") first_place ∷ []
completion (Opened b) = some_name ∷ mark (codes ")") ∷ []
completion (Enclosed g b) = mark (codes ")") ∷ []
completion (Parenthesized b) = []
completion (Calls b) = []
completion (Called b) = some_name ∷ mark (codes "(") ∷ mark (codes ")") ∷ []
completion (Arguments g b) = mark (codes "(") ∷ mark (codes ")") ∷ []
completion (FirstArgument g b) = mark (codes ")") ∷ []
completion (MoreArguments b) = mark (codes ")") ∷ []
completion (Primary b) = null ∷ []
completion (Named g b) = []
completion (FoldBody b) = mark (codes "{") ∷ null ∷ mark (codes "}") ∷ []
completion Deeper = []
completion (Join m) = []
completion (Deepest m) = []
completion (Counts n) = []
completion Name = some_name ∷ []
completion (Mark text) = mark text ∷ []
completion (File forms) = []
completion (Decls forms) = mark (codes "}") ∷ []
completion Lazy = []
completion NotNta = []
completion (Attribute forms) = int_word ∷ some_name ∷ mark (codes ".") ∷ some_name ∷ mark (codes "(") ∷ mark (codes ")") ∷ []
completion Kind = int_word ∷ []
completion Signed = some_name ∷ mark (codes "(") ∷ mark (codes ")") ∷ []
completion (Opening g) = mark (codes "(") ∷ mark (codes ")") ∷ []
completion (Params g) = mark (codes ")") ∷ []
completion OneParam = mark (codes ")") ∷ []
completion MoreParams = mark (codes ")") ∷ []
completion (Circular m) = []
completion Bracket = mark (codes "[") ∷ true_word ∷ []
completion Start = true_word ∷ []
completion Ending = mark (codes ";") ∷ []
completion Body = mark (codes "=") ∷ null ∷ mark (codes ";") ∷ []
completion Defined = mark (codes "=") ∷ null ∷ mark (codes ";") ∷ []
completion Return = word (codes "return") first_place ∷ []
completion Close = mark (codes "}") ∷ []

abbrev pub closing : List Want → Row
closing [] = []
closing (w ∷ ws) = completion w ++ closing ws

-- ---- what a want needs

-- a closing sign, or the end
abbrev pub is_closing : PlacedToken → Bool
is_closing t = is_sign (codes ")") t || (is_sign (codes "}") t || (is_sign (codes ":") t || (is_sign (codes ";") t || is_sign (codes "{") t)))

abbrev pub closes : Option PlacedToken → Bool
closes None = true
closes (Some t) = is_closing t

-- how deep it may nest in a machine with a limit, or that the register is known to be 1 at least
abbrev pub Needs : (limited known : Bool) → Want → Type 0
Needs l p (Expression b) = l ≡ true → 1 ≤ b
Needs l p (Binary rank b) = l ≡ true → 1 ≤ b
Needs l p (Links rank b) = p ≡ true
Needs l p (Choice b) = p ≡ true
Needs l p (Otherwise b m) = l ≡ true → 2 ≤ b
Needs l p (Unary b) = l ≡ true → 1 ≤ b
Needs l p (Minus b) = Unit {0}
Needs l p (Opened b) = l ≡ true → 2 ≤ b
Needs l p (Enclosed g b) = Unit {0}
Needs l p (Parenthesized b) = p ≡ true
Needs l p (Calls b) = p ≡ true
Needs l p (Called b) = Unit {0}
Needs l p (Arguments g b) = Unit {0}
Needs l p (FirstArgument g b) = Unit {0}
Needs l p (MoreArguments b) = l ≡ true → 1 ≤ b
Needs l p (Primary b) = l ≡ true → 1 ≤ b
Needs l p (Named g b) = Unit {0}
Needs l p (FoldBody b) = l ≡ true → 2 ≤ b
Needs l p Deeper = Unit {0}
Needs l p (Join m) = Unit {0}
Needs l p (Deepest m) = Unit {0}
Needs l p (Counts n) = 1 ≤ n
Needs l p Name = Unit {0}
Needs l p (Mark text) = Unit {0}
Needs l p (File forms) = Unit {0}
Needs l p (Decls forms) = Unit {0}
Needs l p Lazy = Unit {0}
Needs l p NotNta = Unit {0}
Needs l p (Attribute forms) = Unit {0}
Needs l p Kind = Unit {0}
Needs l p Signed = Unit {0}
Needs l p (Opening g) = Unit {0}
Needs l p (Params g) = Unit {0}
Needs l p OneParam = Unit {0}
Needs l p MoreParams = Unit {0}
Needs l p (Circular m) = Unit {0}
Needs l p Bracket = Unit {0}
Needs l p Start = Unit {0}
Needs l p Ending = Unit {0}
Needs l p Body = Unit {0}
Needs l p Defined = Unit {0}
Needs l p Return = Unit {0}
Needs l p Close = Unit {0}

-- what has to stand behind it
pub data Behind : Type 0 where
  Anything : Behind
  Closing : Behind
  AKind : Behind
  TheEnd : Behind

abbrev pub behind : Want → Behind
behind (Expression b) = Closing
behind (Binary rank b) = Closing
behind (Links rank b) = Closing
behind (Choice b) = Closing
behind (Otherwise b m) = Closing
behind (Unary b) = Closing
behind (Minus b) = Closing
behind (Opened b) = Closing
behind (Enclosed g b) = Closing
behind (Parenthesized b) = Closing
behind (Calls b) = Closing
behind (Called b) = Anything
behind (Arguments g b) = Anything
behind (FirstArgument g b) = Anything
behind (MoreArguments b) = Anything
behind (Primary b) = Closing
behind (Named g b) = Closing
behind (FoldBody b) = Anything
behind Deeper = Anything
behind (Join m) = Anything
behind (Deepest m) = Anything
behind (Counts n) = Anything
behind Name = Anything
behind (Mark text) = Anything
behind (File forms) = TheEnd
behind (Decls forms) = Anything
behind Lazy = AKind
behind NotNta = AKind
behind (Attribute forms) = Closing
behind Kind = Anything
behind Signed = Anything
behind (Opening g) = Anything
behind (Params g) = Anything
behind OneParam = Anything
behind MoreParams = Anything
behind (Circular m) = Closing
behind Bracket = Anything
behind Start = Anything
behind Ending = Anything
behind Body = Anything
behind Defined = Anything
behind Return = Anything
behind Close = Anything

abbrev pub IsBehind : Behind → Option PlacedToken → Type 0
IsBehind Anything s = Unit {0}
IsBehind Closing s = closes s ≡ true
IsBehind AKind s = s ≡ Some int_word
IsBehind TheEnd s = s ≡ None

abbrev pub Follows : Want → Row → Type 0
Follows w more = IsBehind (behind w) (first more)

-- behind it the register is known to be 1 at least
abbrev pub leaves : Want → Bool
leaves (Expression b) = true
leaves (Binary rank b) = true
leaves (Links rank b) = true
leaves (Choice b) = true
leaves (Otherwise b m) = true
leaves (Unary b) = true
leaves (Minus b) = true
leaves (Opened b) = true
leaves (Enclosed g b) = true
leaves (Parenthesized b) = true
leaves (Calls b) = true
leaves (Called b) = false
leaves (Arguments g b) = false
leaves (FirstArgument g b) = false
leaves (MoreArguments b) = false
leaves (Primary b) = true
leaves (Named g b) = true
leaves (FoldBody b) = true
leaves Deeper = true
leaves (Join m) = true
leaves (Deepest m) = false
leaves (Counts n) = true
leaves Name = false
leaves (Mark text) = false
leaves (File forms) = false
leaves (Decls forms) = false
leaves Lazy = false
leaves NotNta = false
leaves (Attribute forms) = false
leaves Kind = false
leaves Signed = false
leaves (Opening g) = false
leaves (Params g) = false
leaves OneParam = false
leaves MoreParams = false
leaves (Circular m) = false
leaves Bracket = false
leaves Start = false
leaves Ending = false
leaves Body = false
leaves Defined = false
leaves Return = false
leaves Close = false

-- What is wanted can be completed, where the register is known to be 1 at least, or nothing is known of it.
abbrev pub Open : (limited known : Bool) → List Want → Type 0
Open l p [] = Unit {0}
Open l p (w ∷ ws) = Needs l p w × Follows w (closing ws) × Open l (leaves w) ws

-- ---- what may be absent is, before a closing sign

record Absent (s : Option PlacedToken) : Type 0 where
  links : (rank b d : ℕ) → links_answer rank b d s ≡ Skips d
  choice : (b d : ℕ) → choice_answer b d s ≡ Skips d
  calls : (b d : ℕ) → calls_answer b d s ≡ Skips d
  named : (g : Bool) (b : ℕ) → named_answer g b s ≡ Skips 1
  parenthesized : (b d : ℕ) → parenthesized_answer b d s ≡ Skips d
  circular : next (is_word (codes "circular")) s ≡ false

never_zero : (x : Bool) (n : ℕ) → 0 == suc n ≡ x → x ≡ false
never_zero true n e = let h = eqb-true 0 (suc n) e in absurd (omega (arith, h))
never_zero false n e = refl

no_link : (t : PlacedToken) → link_rank t ≡ 0 → (rank b d : ℕ) → links_answer rank b d (Some t) ≡ Skips d
no_link t h rank b d = ap (λ x. cond x (link_answer rank b d t) (Skips d)) (ap (λ n. n == suc rank) h ∙ never_zero (0 == suc rank) rank refl)

absent_sign : (text : List ℕ) (t : PlacedToken) → ((at : Place) → Absent (Some (sign text at))) → is_sign text t ≡ true → Absent (Some t)
absent_sign text t h e = subst (λ (x : PlacedToken). Absent (Some x)) (sym (sign_is text t e)) (h t.at)

one_of : {A : Type 0} (a b : Bool) → (a ≡ true → A) → (b ≡ true → A) → a || b ≡ true → A
one_of true b f g e = f refl
one_of false b f g e = g e

absent_paren : (at : Place) → Absent (Some (sign (codes ")") at))
absent_paren at = record { links = no_link (sign (codes ")") at) refl; choice = λ b d. refl; calls = λ b d. refl; named = λ g b. refl; parenthesized = λ b d. refl; circular = refl }

absent_brace : (at : Place) → Absent (Some (sign (codes "}") at))
absent_brace at = record { links = no_link (sign (codes "}") at) refl; choice = λ b d. refl; calls = λ b d. refl; named = λ g b. refl; parenthesized = λ b d. refl; circular = refl }

absent_colon : (at : Place) → Absent (Some (sign (codes ":") at))
absent_colon at = record { links = no_link (sign (codes ":") at) refl; choice = λ b d. refl; calls = λ b d. refl; named = λ g b. refl; parenthesized = λ b d. refl; circular = refl }

absent_semicolon : (at : Place) → Absent (Some (sign (codes ";") at))
absent_semicolon at = record { links = no_link (sign (codes ";") at) refl; choice = λ b d. refl; calls = λ b d. refl; named = λ g b. refl; parenthesized = λ b d. refl; circular = refl }

absent_block : (at : Place) → Absent (Some (sign (codes "{") at))
absent_block at = record { links = no_link (sign (codes "{") at) refl; choice = λ b d. refl; calls = λ b d. refl; named = λ g b. refl; parenthesized = λ b d. refl; circular = refl }

absent : (s : Option PlacedToken) → closes s ≡ true → Absent s
absent None e = record { links = λ r b d. refl; choice = λ b d. refl; calls = λ b d. refl; named = λ g b. refl; parenthesized = λ b d. refl; circular = refl }
absent (Some t) e =
    one_of (is_sign (codes ")") t) _ (absent_sign (codes ")") t absent_paren)
    (one_of (is_sign (codes "}") t) _ (absent_sign (codes "}") t absent_brace)
    (one_of (is_sign (codes ":") t) _ (absent_sign (codes ":") t absent_colon)
    (one_of (is_sign (codes ";") t) (is_sign (codes "{") t) (absent_sign (codes ";") t absent_semicolon) (absent_sign (codes "{") t absent_block)))) e

is_zero : is_number_within 2147483648 (number (codes "0") first_place) ≡ true
unfolding digits
is_zero = refl

-- ---- one want is completed

-- the want takes the next symbol, within the limit if there is one, and others are completed
takes : (l : Bool) (w : Want) (us : ℕ → List Want) (within : Bool) (t : PlacedToken) (mid rest : Row) → (l ≡ true → within ≡ true) → ((d : ℕ) → (e : ℕ) × (table w d (Some t) ≡ Takes within (us d) e))
    → ((d : ℕ) → Pass l (us d) mid rest) → Pass l (w ∷ []) (t ∷ mid) rest
takes l w us within t mid rest fits row p ws d =
    let r = row d in
    let b = p d ws r.0 in
    (b.0, run-takes l table w within (us d) ws d r.0 t mid r.1 fits ∙ b.1)

-- the want takes one symbol
takes_one : (l : Bool) (w : Want) (t : PlacedToken) (rest : Row) → ((d : ℕ) → (e : ℕ) × (table w d (Some t) ≡ Takes true [] e)) → Pass l (w ∷ []) (t ∷ rest) rest
takes_one l w t rest row = takes l w (λ d. []) true t rest rest (λ h. refl) row (λ d. pass_none l rest)

calls_end : (l : Bool) (b : ℕ) (more : Row) → closes (first more) ≡ true → Pass l (Calls b ∷ []) more more
unfolding table
calls_end l b more f = pass_skips l (Calls b) more (λ d. (d, (absent (first more) f).calls b d))

unary_ends : (l : Bool) (b : ℕ) (more : Row) → (l ≡ true → 1 ≤ b) → closes (first more) ≡ true → Pass l (Unary b ∷ []) (null ∷ more) more
unfolding table
unary_ends l b more n f = takes l (Unary b) (λ d. Calls b ∷ []) (nat_lt 0 b) null more more (λ h. lt-ltb 0 b (n h)) (λ d. (1, refl)) (λ d. calls_end l b more f)

binary_ends : (l : Bool) (rank b : ℕ) (more : Row) → (l ≡ true → 1 ≤ b) → closes (first more) ≡ true → Pass l (Binary rank b ∷ []) (null ∷ more) more
unfolding table
binary_ends l zero b more n f ws d = takes l (Binary 0 b) (λ e. Calls b ∷ []) (nat_lt 0 b) null more more (λ h. lt-ltb 0 b (n h)) (λ e. (1, refl)) (λ e. calls_end l b more f) ws d
binary_ends l (suc rank) b more n f ws d =
    let p = binary_ends l rank b more n f (Links rank b ∷ ws) d in (
      p.0,
      run-begins l table (Binary (suc rank) b) (Binary rank b) (Links rank b ∷ []) ws d (null ∷ more) refl (binary_stays rank b (Some null)) ∙ p.1
          ∙ run-skips l table (Links rank b) ws p.0 p.0 more ((absent (first more) f).links rank b p.0),
    )

expression_ends : (l : Bool) (b : ℕ) (more : Row) → (l ≡ true → 1 ≤ b) → closes (first more) ≡ true → Pass l (Expression b ∷ []) (null ∷ more) more
unfolding table
expression_ends l b more n f ws d =
    let p = binary_ends l 6 b more n f (Choice b ∷ ws) d in (
      p.0,
      run-begins l table (Expression b) (Binary 6 b) (Choice b ∷ []) ws d (null ∷ more) refl (binary_stays 6 b (Some null)) ∙ p.1
          ∙ run-skips l table (Choice b) ws p.0 p.0 more ((absent (first more) f).choice b p.0),
    )

mark_ends : (l : Bool) (text : List ℕ) (more : Row) → Pass l (Mark text ∷ []) (mark text ∷ more) more
unfolding table
mark_ends l text more = takes_one l (Mark text) (mark text) more (λ d. (d, ap (λ b. on b (Takes true [] d) Refuses) ((bytes_eq-Decides text text).1 refl)))

-- an expression and a mark behind it
marked_ends : (l : Bool) (b : ℕ) (text : List ℕ) (more : Row) (us : List Want) → (l ≡ true → 1 ≤ b) → is_closing (mark text) ≡ true → Pass l us more more
    → Pass l (Expression b ∷ Mark text ∷ us) (null ∷ mark text ∷ more) more
marked_ends l b text more us n f p =
    pass_then l (Expression b) (Mark text ∷ us) (null ∷ mark text ∷ more) (mark text ∷ more) more (expression_ends l b (mark text ∷ more) n f)
    (pass_then l (Mark text) us (mark text ∷ more) more more (mark_ends l text more) p)

body_ends : (l : Bool) (w : Want) (more : Row) → ((d : ℕ) → table w d (Some (mark (codes "="))) ≡ Takes true (Expression max_nesting ∷ Mark (codes ";") ∷ []) 0)
    → Pass l (w ∷ []) (mark (codes "=") ∷ null ∷ mark (codes ";") ∷ more) more
body_ends l w more row =
    takes l w (λ d. Expression max_nesting ∷ Mark (codes ";") ∷ []) true (mark (codes "=")) (null ∷ mark (codes ";") ∷ more) more (λ h. refl) (λ d. (0, row d))
    (λ d. marked_ends l max_nesting (codes ";") more [] (λ h. omega arith) refl (pass_none l more))

no_both : (x : Bool) → x && false ≡ false
no_both true = refl
no_both false = refl

-- behind the "(" of parameters or arguments, of whatever name
arguments_end : (l g : Bool) (b : ℕ) (more : Row) → Pass l (Arguments g b ∷ []) (mark (codes "(") ∷ mark (codes ")") ∷ more) more
unfolding table
arguments_end l g b more =
    takes l (Arguments g b) (λ d. FirstArgument g b ∷ []) true (mark (codes "(")) (mark (codes ")") ∷ more) more (λ h. refl) (λ d. (0, refl))
    (λ d. takes_one l (FirstArgument g b) (mark (codes ")")) more (λ d. (0, refl)))

params_end : (l g : Bool) (more : Row) → Pass l (Opening g ∷ []) (mark (codes "(") ∷ mark (codes ")") ∷ more) more
unfolding table
params_end l g more =
    takes l (Opening g) (λ d. Params g ∷ []) true (mark (codes "(")) (mark (codes ")") ∷ more) more (λ h. refl) (λ d. (0, refl)) (λ d. takes_one l (Params g) (mark (codes ")")) more (λ d. (0, refl)))

enclosed_ends : (l g : Bool) (b : ℕ) (more : Row) → closes (first more) ≡ true → Pass l (Enclosed g b ∷ []) (mark (codes ")") ∷ more) more
unfolding table
enclosed_ends l g b more f =
    takes l (Enclosed g b) (λ d. Parenthesized b ∷ []) true (mark (codes ")")) more more (λ h. refl) (λ d. (2, refl))
    (λ d. pass_skips l (Parenthesized b) more (λ e. (e, (absent (first more) f).parenthesized b e)))

name_ends : (l : Bool) (more : Row) → Pass l (Name ∷ []) (some_name ∷ more) more
unfolding table
name_ends l more = takes_one l Name some_name more (λ d. (d, ap (λ x. on x (Takes true [] d) Refuses) is_some_name))

signed_ends : (l : Bool) (more : Row) → Pass l (Signed ∷ []) (some_name ∷ mark (codes "(") ∷ mark (codes ")") ∷ more) more
unfolding table
signed_ends l more =
    takes l Signed (λ d. Opening false ∷ []) true some_name (mark (codes "(") ∷ mark (codes ")") ∷ more) more (λ h. refl)
    (λ d. (0, ap (λ x. on x (Takes true (Opening false ∷ []) 0) Refuses) is_some_name)) (λ d. params_end l false more)

circular_ends : (l m : Bool) (more : Row) → closes (first more) ≡ true → Pass l (Circular m ∷ []) more more
unfolding table
circular_ends l m more f =
    pass_skips l (Circular m) more (λ d. (0, ap (λ x. on x (cond m (Takes true (Bracket ∷ Mark (codes "]") ∷ Circular false ∷ []) 0) LeavesOut) (Skips 0)) (absent (first more) f).circular))

start_ends : (l : Bool) (more : Row) → Pass l (Start ∷ []) (true_word ∷ more) more
unfolding table
start_ends l more = takes_one l Start true_word more (λ d. (0, refl))

-- behind a kind: the names and parameters of an attribute
named_ends : (l : Bool) (more : Row) → closes (first more) ≡ true → Pass l (named false) (some_name ∷ mark (codes ".") ∷ some_name ∷ mark (codes "(") ∷ mark (codes ")") ∷ more) more
named_ends l more f =
    let parens = some_name ∷ mark (codes "(") ∷ mark (codes ")") ∷ more in
    pass_then l Name (Mark (codes ".") ∷ Signed ∷ Circular false ∷ []) (some_name ∷ mark (codes ".") ∷ parens) (mark (codes ".") ∷ parens) more (name_ends l (mark (codes ".") ∷ parens))
    (pass_then l (Mark (codes ".")) (Signed ∷ Circular false ∷ []) (mark (codes ".") ∷ parens) parens more (mark_ends l (codes ".") parens)
    (pass_then l Signed (Circular false ∷ []) parens more more (signed_ends l more) (circular_ends l false more f)))

ends : (l p : Bool) (w : Want) (more : Row) → Needs l p w → Follows w more → Pass l (w ∷ []) (completion w ++ more) more
unfolding table
ends l p (Expression b) more n f = expression_ends l b more n f
ends l p (Binary rank b) more n f = binary_ends l rank b more n f
ends l p (Links rank b) more n f = pass_skips l (Links rank b) more (λ d. (d, (absent (first more) f).links rank b d))
ends l p (Choice b) more n f = pass_skips l (Choice b) more (λ d. (d, (absent (first more) f).choice b d))
ends l p (Otherwise b m) more n f =
    takes l (Otherwise b m) (λ d. Expression (b - 1) ∷ Deepest d ∷ Join m ∷ []) true (mark (codes ":")) (null ∷ more) more (λ h. refl) (λ d. (0, refl))
    (λ d. pass_then l (Expression (b - 1)) (Deepest d ∷ Join m ∷ []) (null ∷ more) more more (expression_ends l (b - 1) more (λ h. omega (arith, n h)) f)
    (pass_then l (Deepest d) (Join m ∷ []) more more more (pass_skips l (Deepest d) more (λ e. (max d e, refl))) (pass_skips l (Join m) more (λ e. (1 + max m e, refl)))))
ends l p (Unary b) more n f = unary_ends l b more n f
ends l p (Minus b) more n f =
    takes l (Minus b) (λ d. Calls b ∷ []) true (number (codes "0") first_place) more more (λ h. refl)
    (λ d. (1, ap (λ x. on x (Takes true (Calls b ∷ []) 1) Refuses) is_zero)) (λ d. calls_end l b more f)
ends l p (Opened b) more n f =
    let other = and_then (expression_answer (b - 1) (Some some_name)) (Mark (codes ")") ∷ Deeper ∷ Calls b ∷ []) in
    takes l (Opened b) (λ d. Enclosed false b ∷ []) (nat_lt 0 (b - 1)) some_name (mark (codes ")") ∷ more) more (λ h. lt-ltb 0 (b - 1) (omega (arith, n h)))
    (λ d. (0, ap (λ x. on x (Takes (nat_lt 0 (b - 1)) (Enclosed false b ∷ []) 0) other) is_some_name)) (λ d. enclosed_ends l false b more f)
ends l p (Enclosed g b) more n f = enclosed_ends l g b more f
ends l p (Parenthesized b) more n f = pass_skips l (Parenthesized b) more (λ d. (d, (absent (first more) f).parenthesized b d))
ends l p (Calls b) more n f = calls_end l b more f
ends l p (Called b) more n f =
    takes l (Called b) (λ d. Arguments false b ∷ []) true some_name (mark (codes "(") ∷ mark (codes ")") ∷ more) more (λ h. refl)
    (λ d. (0, ap (λ x. on x (Takes true (Arguments false b ∷ []) 0) Refuses) is_some_name)) (λ d. arguments_end l false b more)
ends l p (Arguments g b) more n f = arguments_end l g b more
ends l p (FirstArgument g b) more n f = takes_one l (FirstArgument g b) (mark (codes ")")) more (λ d. (0, refl))
ends l p (MoreArguments b) more n f = takes_one l (MoreArguments b) (mark (codes ")")) more (λ d. (d, refl))
ends l p (Primary b) more n f = takes l (Primary b) (λ d. []) (nat_lt 0 b) null more more (λ h. lt-ltb 0 b (n h)) (λ d. (1, refl)) (λ d. pass_none l more)
ends l p (Named g b) more n f = pass_skips l (Named g b) more (λ d. (1, (absent (first more) f).named g b))
ends l p (FoldBody b) more n f =
    takes l (FoldBody b) (λ d. Expression (b - 1) ∷ Mark (codes "}") ∷ Join d ∷ []) true (mark (codes "{")) (null ∷ mark (codes "}") ∷ more) more (λ h. refl) (λ d. (0, refl))
    (λ d. marked_ends l (b - 1) (codes "}") more (Join d ∷ []) (λ h. omega (arith, n h)) refl (pass_skips l (Join d) more (λ e. (1 + max d e, refl))))
ends l p Deeper more n f = pass_skips l Deeper more (λ d. (1 + d, refl))
ends l p (Join m) more n f = pass_skips l (Join m) more (λ d. (1 + max m d, refl))
ends l p (Deepest m) more n f = pass_skips l (Deepest m) more (λ d. (max m d, refl))
ends l p (Counts k) more n f = pass_skips l (Counts k) more (λ d. (k, refl))
ends l p Name more n f = name_ends l more
ends l p (Mark text) more n f = mark_ends l text more
ends l p (File forms) more n f = pass_skips l (File forms) more (λ d. (0, ap (file_answer forms) f))
ends l p (Decls forms) more n f = takes_one l (Decls forms) (mark (codes "}")) more (λ d. (0, refl))
ends l p Lazy more n f = pass_skips l Lazy more (λ d. (0, ap lazy_answer f))
ends l p NotNta more n f = pass_skips l NotNta more (λ d. (0, ap not_nta_answer f))
ends l p (Attribute forms) more n f =
    takes l (Attribute forms) (λ d. named false) true int_word (some_name ∷ mark (codes ".") ∷ some_name ∷ mark
    (codes "(") ∷ mark (codes ")") ∷ more) more (λ h. refl) (λ d. (0, refl)) (λ d. named_ends l more f)
ends l p Kind more n f = takes_one l Kind int_word more (λ d. (0, refl))
ends l p Signed more n f = signed_ends l more
ends l p (Opening g) more n f = params_end l g more
ends l p (Params g) more n f = takes_one l (Params g) (mark (codes ")")) more (λ d. (0, refl))
ends l p OneParam more n f = takes_one l OneParam (mark (codes ")")) more (λ d. (0, refl))
ends l p MoreParams more n f = takes_one l MoreParams (mark (codes ")")) more (λ d. (1, refl))
ends l p (Circular m) more n f = circular_ends l m more f
ends l p Bracket more n f = takes l Bracket (λ d. Start ∷ []) true (mark (codes "[")) (true_word ∷ more) more (λ h. refl) (λ d. (0, refl)) (λ d. start_ends l more)
ends l p Start more n f = start_ends l more
ends l p Ending more n f = takes_one l Ending (mark (codes ";")) more (λ d. (0, refl))
ends l p Body more n f = body_ends l Body more (λ d. refl)
ends l p Defined more n f = body_ends l Defined more (λ d. ap (λ x. on x (Takes true (Signed ∷ Body ∷ []) 0) (body_answer (Some (mark (codes "="))))) (no_both (d == 0)))
ends l p Return more n f = takes_one l Return (word (codes "return") first_place) more (λ d. (0, refl))
ends l p Close more n f = takes_one l Close (mark (codes "}")) more (λ d. (0, refl))

-- What can be completed is, by these symbols.
pub completed : (l p : Bool) (ws : List Want) (d : ℕ) → Open l p ws → run l table ws d (closing ws) ≡ Whole
unfolding run
completed l p [] d o = refl
completed l p (w ∷ ws) d o = let q = ends l p w (closing ws) o.0 o.1 ws d in q.1 ∙ completed l (leaves w) ws q.0 o.2
