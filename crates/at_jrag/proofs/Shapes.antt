-- What stands behind what, where the machine of the table wants it.
use Rattle.std.proofs.Common.{◌≡◌, ℕ, zero, suc, ◌-◌, List, [], ◌∷◌, ◌++◌, Bool, true, false, cond, Option, Some, None, refl, sym, subst, append_assoc}
use Rattle.std.specs.Prelude.{◌&&◌, ◌||◌, ◌==◌, not}
use Rattle.std.specs.Str.{bytes_eq}
use lib.Chars.{codes}
use Rattle.at_text.specs.Symbols.{PlacedToken, is_word_kind}
use Rattle.at_text.specs.Rows.{is_sign, is_word, is_name_token}
use Rattle.at_jrag.specs.declared.Forms.{Forms}
use Rattle.at_jrag.specs.Grammar.{is_number, follows_cast, begins_other}
use Rattle.at_text.specs.Machine.{Answer, Takes, Skips, Refuses, LeavesOut, and_then, Move, Goes, Halts, answered, after}
use Rattle.at_jrag.specs.Wants.{Want, Expression, Binary, Links, Choice, Otherwise, Unary, Minus, Opened, Enclosed, Parenthesized, Calls, Called, Arguments, FirstArgument, MoreArguments, Primary, Named, FoldBody, Deeper, Join, Deepest, Counts, Name, Mark, File, Decls, Lazy, NotNta, Attribute, Kind, Signed, Opening, Params, OneParam, MoreParams, Circular, Bracket, Start, Ending, Body, Defined, Return, Close}
use Rattle.at_jrag.specs.Table.{table, next, is_literal, begins_fold, is_number_within, is_kind, link_rank, or_else, links_from, tails_answer, primary_answer, unary_answer, binary_answer, expression_answer, links_answer, choice_answer, calls_answer, named_answer, enclosed_rest, body_answer, more_params_answer, no_keyword}
use Rattle.at_jrag.proofs.Reached.{Reached, start, step}
use Rattle.at_model.proofs.Options.{or_right}

-- ---- neighbours

-- behind it stands what is firm: what goes on with no `(`, and begins nothing that may be left out
abbrev pub loose : Want → Bool
loose (Called b) = false
loose (Arguments g b) = false
loose (FirstArgument g b) = false
loose (MoreArguments b) = false
loose (Mark text) = false
loose (File forms) = false
loose (Decls forms) = false
loose Signed = false
loose (Opening g) = false
loose (Params g) = false
loose OneParam = false
loose MoreParams = false
loose Ending = false
loose Body = false
loose Defined = false
loose Return = false
loose Close = false
loose w = true

abbrev pub firm : Want → Bool
firm (Expression b) = false
firm (Binary rank b) = false
firm (Unary b) = false
firm (Minus b) = false
firm (Opened b) = false
firm (Enclosed g b) = false
firm (Parenthesized b) = false
firm (Called b) = false
firm (Arguments g b) = false
firm (FirstArgument g b) = false
firm (Primary b) = false
firm (Named g b) = false
firm (Mark text) = not (bytes_eq text (codes "("))
firm (File forms) = false
firm (Decls forms) = false
firm Lazy = false
firm NotNta = false
firm (Opening g) = false
firm (Params g) = false
firm (Circular m) = false
firm Start = false
firm Return = false
firm Close = false
firm w = true

-- it may stand behind another
abbrev pub second : Want → Bool
second (Expression b) = true
second (Primary b) = true
second (Mark text) = true
second (File forms) = true
second (Decls forms) = true
second (Circular m) = true
second Close = true
second w = firm w

abbrev pub next_firm : List Want → Bool
next_firm [] = true
next_firm (w ∷ ws) = firm w

abbrev pub next_second : List Want → Bool
next_second [] = true
next_second (w ∷ ws) = second w

-- the `;` of an attribute that is declared, or its body
abbrev pub next_ends : List Want → Bool
next_ends (Mark text ∷ ws) = bytes_eq text (codes ";")
next_ends (Ending ∷ ws) = true
next_ends ws = false

abbrev pub follows : Want → List Want → Bool
follows (Attribute forms) ws = next_ends ws
follows (Circular m) ws = next_ends ws
follows (Mark text) ws = not (bytes_eq text (codes "[")) && next_second ws
follows w ws = cond (loose w) (next_firm ws) (next_second ws)

-- ---- ends of expressions

-- Where `;` or `}` ends an expression, `||` may stand instead: it is wanted before them.
abbrev pub barred : List Want → Bool
barred [] = true
barred (Links rank b ∷ ws) = (rank == 5) || barred ws
barred (Choice b ∷ ws) = barred ws
barred (Calls b ∷ ws) = barred ws
barred (Named g b ∷ ws) = barred ws
barred (Parenthesized b ∷ ws) = barred ws
barred (Deeper ∷ ws) = barred ws
barred (Join m ∷ ws) = barred ws
barred (Deepest m ∷ ws) = barred ws
barred (Counts n ∷ ws) = barred ws
barred (Lazy ∷ ws) = barred ws
barred (NotNta ∷ ws) = barred ws
barred (Mark text ∷ ws) = not (bytes_eq text (codes ";") || bytes_eq text (codes "}"))
barred (Ending ∷ ws) = false
barred (w ∷ ws) = true

-- so it is behind what may end with its next token
abbrev pub bars : Want → List Want → Bool
bars (Expression b) ws = true
bars (Links rank b) ws = (rank == 5) || barred ws
bars (Choice b) ws = true
bars (Otherwise b m) ws = true
bars Deeper ws = true
bars (Join m) ws = true
bars (Deepest m) ws = true
bars (Counts n) ws = true
bars (Attribute forms) ws = true
bars (Circular m) ws = true
bars w ws = barred ws

abbrev pub Stands : List Want → Type 0
Stands [] = Unit {0}
Stands (w ∷ ws) = (follows w ws ≡ true) × (bars w ws ≡ true) × Stands ws

abbrev pub Shape : List Want → Type 0
Shape ws = (barred ws ≡ true) × Stands ws

-- ---- what an answer leaves

abbrev Kept : List Want → Answer Want → Type 0
Kept ws (Takes within more e) = Shape (more ++ ws)
Kept ws (Skips e) = Unit {0}
Kept ws Refuses = Unit {0}
Kept ws LeavesOut = Unit {0}

-- behind what is loose, and is no end of an expression
abbrev Ready : List Want → Type 0
Ready ws = (next_firm ws ≡ true) × (barred ws ≡ true) × Stands ws

-- behind what is not loose
abbrev Behind : List Want → Type 0
Behind ws = (next_second ws ≡ true) × (barred ws ≡ true) × Stands ws

either : (x : Bool) (ws : List Want) (a b : Answer Want) → Kept ws a → Kept ws b → Kept ws (cond x a b)
either true ws a b h k = h
either false ws a b h k = k

then_keeps : (us ws : List Want) (a : Answer Want) → Kept (us ++ ws) a → Kept ws (and_then a us)
then_keeps us ws (Takes within more e) k = subst Shape (sym (append_assoc more us ws)) k
then_keeps us ws (Skips e) k = tt
then_keeps us ws Refuses k = tt
then_keeps us ws LeavesOut k = tt

else_keeps : (us ws : List Want) (a : Answer Want) (f : ℕ → Answer Want) → Kept (us ++ ws) a → ((e : ℕ) → Kept ws (f e)) → Kept ws (or_else a us f)
else_keeps us ws (Takes within more e) f k h = subst Shape (sym (append_assoc more us ws)) k
else_keeps us ws (Skips e) f k h = h e
else_keeps us ws Refuses f k h = tt
else_keeps us ws LeavesOut f k h = tt

-- ---- expressions

primary_shapes : (b : ℕ) (ws : List Want) (s : Option PlacedToken) → Ready ws → Kept ws (primary_answer b s)
primary_shapes b ws None r = tt
primary_shapes b ws (Some t) r =
    either (is_literal t) ws _ _ (r.1, r.2)
    (either (is_sign (codes "(") t) ws _ _ (refl, (refl, refl, (refl, r.1, (r.0, refl, r.2))))
    (either (begins_fold t) ws _ _ (refl, (refl, refl, (refl, refl, (refl, refl, (refl, refl, (refl, refl, (refl, refl, r)))))))
    (either (is_name_token t) ws _ Refuses (r.1, r) tt)))

unary_shapes : (b : ℕ) (ws : List Want) (s : Option PlacedToken) → Ready ws → Kept ws (unary_answer b s)
unary_shapes b ws s r =
    either (next (is_sign (codes "-")) s) ws _ _ (refl, r)
    (either (next (is_sign (codes "!")) s) ws _ _ (refl, (refl, r.1, (r.0, refl, r.2)))
    (either (next (is_sign (codes "(")) s) ws _ _ (refl, r)
    (then_keeps (Calls b ∷ []) ws (primary_answer b s) (primary_shapes b (Calls b ∷ ws) s (refl, r.1, r)))))

linked : (rank b : ℕ) (ws : List Want) → Ready ws → Ready (Links rank b ∷ ws)
linked rank b ws r = (refl, or_right (rank == 5) (barred ws) r.1, (r.0, or_right (rank == 5) (barred ws) r.1, r.2))

binary_shapes : (rank b : ℕ) (ws : List Want) (s : Option PlacedToken) → Ready ws → Kept ws (binary_answer rank b s)
binary_shapes zero b ws s r = unary_shapes b ws s r
binary_shapes (suc rank) b ws s r = then_keeps (Links rank b ∷ []) ws (binary_answer rank b s) (binary_shapes rank b (Links rank b ∷ ws) s (linked rank b ws r))

expression_shapes : (b : ℕ) (ws : List Want) (s : Option PlacedToken) → next_firm ws ≡ true → Stands ws → Kept ws (expression_answer b s)
expression_shapes b ws s f o =
    then_keeps (Choice b ∷ []) ws (binary_answer 6 b s)
    (then_keeps (Links 5 b ∷ []) (Choice b ∷ ws) (binary_answer 5 b s) (binary_shapes 5 b (Links 5 b ∷ Choice b ∷ ws) s (refl, refl, (refl, refl, (f, refl, o)))))

links_shape : (rank b d : ℕ) (ws : List Want) (s : Option PlacedToken) → next_firm ws ≡ true → (rank == 5) || barred ws ≡ true → Stands ws → Kept ws (links_answer rank b d s)
links_shape rank b d ws None f k o = tt
links_shape rank b d ws (Some t) f k o =
    either (link_rank t == suc rank) ws _ (Skips d) (either (is_word_kind t.kind) ws _ _ (refl, (refl, k, (refl, refl, (f, k, o)))) (refl, (refl, k, (refl, refl, (f, k, o))))) tt

choice_shapes : (b d : ℕ) (ws : List Want) (s : Option PlacedToken) → next_firm ws ≡ true → Stands ws → Kept ws (choice_answer b d s)
choice_shapes b d ws s f o = either (next (is_sign (codes "?")) s) ws _ (Skips d) (refl, (refl, refl, (f, refl, o))) tt

calls_shape : (b d : ℕ) (ws : List Want) (s : Option PlacedToken) → Ready ws → Kept ws (calls_answer b d s)
calls_shape b d ws s r = either (next (is_sign (codes ".")) s) ws _ (Skips d) (refl, (refl, r.1, (refl, refl, r))) tt

named_shapes : (g : Bool) (b : ℕ) (ws : List Want) (s : Option PlacedToken) → Ready ws → Kept ws (named_answer g b s)
named_shapes g b ws s r = either (next (is_sign (codes "(")) s) ws _ (Skips 1) (refl, (refl, r.1, (r.0, refl, r.2))) tt

-- ---- a parenthesis

tails_shape : (rank b : ℕ) (us ws : List Want) (f : ℕ → Answer Want) (d : ℕ) (s : Option PlacedToken) → Ready (us ++ ws) → ((e : ℕ) → Kept ws (f e)) → Kept ws (tails_answer rank b us f d s)
tails_shape zero b us ws f d s r h = h d
tails_shape (suc rank) b us ws f d s r h =
    tails_shape rank b (Links rank b ∷ us) ws (λ e. or_else (links_answer rank b e s) us f) d s (linked rank b (us ++ ws) r)
    (λ e. else_keeps us ws (links_answer rank b e s) f (links_shape rank b e (us ++ ws) s r.0 (or_right (rank == 5) (barred (us ++ ws)) r.1) r.2) h)

enclosed_shapes : (g : Bool) (b d : ℕ) (ws : List Want) (s : Option PlacedToken) → Behind ws → Kept ws (enclosed_rest g b d s)
enclosed_shapes g b d ws s o =
    let behind = Choice b ∷ Mark (codes ")") ∷ [] in
    let chosen : Ready (behind ++ ws) = (refl, refl, (refl, refl, o)) in
    let linked : Ready ((links_from 6 b ++ behind) ++ ws) = (refl, refl, (refl, refl, (refl, refl, (refl, refl, (refl, refl, (refl, refl, (refl, refl, chosen.2))))))) in
    else_keeps (Calls b ∷ (links_from 6 b ++ behind)) ws (named_answer g b s) _ (named_shapes g b (Calls b ∷ (links_from 6 b ++ behind) ++ ws) s (refl, refl, linked))
    (λ e. else_keeps (links_from 6 b ++ behind) ws (calls_answer b e s) _ (calls_shape b e ((links_from 6 b ++ behind) ++ ws) s linked)
    (λ x. tails_shape 6 b behind ws _ x s chosen
    (λ y. else_keeps (Mark (codes ")") ∷ []) ws (choice_answer b y s) (λ z. Refuses) (choice_shapes b y (Mark (codes ")") ∷ ws) s refl o) (λ z. tt))))

-- ---- declarations

body_shapes : (ws : List Want) (s : Option PlacedToken) → Behind ws → Kept ws (body_answer s)
body_shapes ws s o =
    either (next (is_sign (codes "=")) s) ws _ _ (refl, (refl, refl, o))
    (either (next (is_sign (codes "{")) s) ws _ Refuses (refl, (refl, refl, (refl, refl, (refl, refl, o)))) tt)

more_params_shape : (d : ℕ) (ws : List Want) (s : Option PlacedToken) → Behind ws → Kept ws (more_params_answer d s)
more_params_shape d ws s o =
    either (next (is_sign (codes ")")) s) ws _ _ (o.1, o.2)
    (either (next (is_sign (codes ",")) s) ws _ Refuses (refl, (refl, refl, (refl, refl, o))) tt)

no_keyword_shapes : (ws : List Want) (t : PlacedToken) → Kept ws (no_keyword t)
no_keyword_shapes ws t = either (is_word_kind t.kind) ws LeavesOut Refuses tt tt

-- ---- each want

row_shapes : (w : Want) (ws : List Want) (d : ℕ) (t : PlacedToken) → Stands (w ∷ ws) → Kept ws (table w d (Some t))
unfolding table
row_shapes (Expression b) ws d t o = expression_shapes b ws (Some t) o.0 o.2
row_shapes (Binary rank b) ws d t o = binary_shapes rank b ws (Some t) o
row_shapes (Links rank b) ws d t o = links_shape rank b d ws (Some t) o.0 o.1 o.2
row_shapes (Choice b) ws d t o = choice_shapes b d ws (Some t) o.0 o.2
row_shapes (Otherwise b m) ws d t o = either (is_sign (codes ":") t) ws _ Refuses (refl, (refl, refl, (refl, refl, (o.0, refl, o.2)))) tt
row_shapes (Unary b) ws d t o = unary_shapes b ws (Some t) o
row_shapes (Minus b) ws d t o =
    either (is_number t) ws _ _ (either (is_number_within 2147483648 t) ws _ Refuses (o.1, o) tt)
    (then_keeps (Deeper ∷ []) ws (unary_answer (b - 1) (Some t)) (unary_shapes (b - 1) (Deeper ∷ ws) (Some t) (refl, o.1, (o.0, refl, o.2))))
row_shapes (Opened b) ws d t o =
    either (is_name_token t) ws _ _ (refl, o)
    (then_keeps (Mark (codes ")") ∷ Deeper ∷ Calls b ∷ []) ws (expression_answer (b - 1) (Some t))
    (expression_shapes (b - 1) (Mark (codes ")") ∷ Deeper ∷ Calls b ∷ ws) (Some t) refl (refl, o.1, (refl, refl, o))))
row_shapes (Enclosed g b) ws d t o =
    either (is_sign (codes ")") t) ws _ _ (o.1, o)
    (then_keeps (Deeper ∷ Calls b ∷ []) ws (enclosed_rest g (b - 1) d (Some t)) (enclosed_shapes g (b - 1) d (Deeper ∷ Calls b ∷ ws) (Some t) (refl, o.1, (refl, refl, o))))
row_shapes (Parenthesized b) ws d t o =
    either (follows_cast t) ws _ _ (then_keeps (Deeper ∷ []) ws (unary_answer (b - 1) (Some t)) (unary_shapes (b - 1) (Deeper ∷ ws) (Some t) (refl, o.1, (o.0, refl, o.2))))
    (calls_shape b d ws (Some t) o)
row_shapes (Calls b) ws d t o = calls_shape b d ws (Some t) o
row_shapes (Called b) ws d t o = either (is_name_token t) ws _ Refuses (refl, o) tt
row_shapes (Arguments g b) ws d t o = either (is_sign (codes "(") t) ws _ Refuses (refl, o) tt
row_shapes (FirstArgument g b) ws d t o =
    either (is_sign (codes ")") t) ws _ _ (o.1, o.2)
    (either (g && is_word (codes "int") t) ws LeavesOut _ tt
    (then_keeps (MoreArguments b ∷ []) ws (expression_answer b (Some t)) (expression_shapes b (MoreArguments b ∷ ws) (Some t) refl o)))
row_shapes (MoreArguments b) ws d t o = either (is_sign (codes ")") t) ws _ _ (o.1, o.2) (either (is_sign (codes ",") t) ws _ Refuses (refl, (refl, refl, (refl, refl, o))) tt)
row_shapes (Primary b) ws d t o = primary_shapes b ws (Some t) o
row_shapes (Named g b) ws d t o = named_shapes g b ws (Some t) o
row_shapes (FoldBody b) ws d t o = either (is_sign (codes "{") t) ws _ Refuses (refl, (refl, refl, (refl, o.1, (o.0, refl, o.2)))) tt
row_shapes Deeper ws d t o = tt
row_shapes (Join m) ws d t o = tt
row_shapes (Deepest m) ws d t o = tt
row_shapes (Counts n) ws d t o = tt
row_shapes Name ws d t o = either (is_name_token t) ws _ Refuses (o.1, o.2) tt
row_shapes (Mark text) ws d t o = either (is_sign text t) ws _ Refuses (o.1, o.2) tt
row_shapes (File forms) ws d t o = either (is_word (codes "aspect") t) ws _ _ (refl, (refl, refl, (refl, refl, (refl, refl, o)))) (no_keyword_shapes ws t)
row_shapes (Decls forms) ws d t o =
    either (is_sign (codes "}") t) ws _ _ (o.1, o.2)
    (either (is_word (codes "syn") t) ws _ _ (refl, (refl, refl, (refl, refl, (refl, refl, o))))
    (either (is_word (codes "inh") t) ws _ _ (refl, (refl, refl, (refl, refl, (refl, refl, o))))
    (either (is_word (codes "eq") t) ws _ _ (refl, (refl, refl, (refl, refl, (refl, refl, (refl, refl, o))))) (no_keyword_shapes ws t))))
row_shapes Lazy ws d t o = either (is_word (codes "lazy") t) ws _ _ (o.1, o) (either (is_word (codes "nta") t) ws LeavesOut (Skips 0) tt tt)
row_shapes NotNta ws d t o = either (is_word (codes "nta") t) ws LeavesOut (Skips 0) tt tt
row_shapes (Attribute forms) ws d t o = either (is_kind t) ws _ Refuses (refl, (refl, refl, (refl, refl, (refl, refl, (o.0, refl, o.2))))) tt
row_shapes Kind ws d t o = either (is_kind t) ws _ Refuses (o.1, o.2) tt
row_shapes Signed ws d t o = either (is_name_token t) ws _ Refuses (refl, o) tt
row_shapes (Opening g) ws d t o = either (is_sign (codes "(") t) ws _ Refuses (refl, o) tt
row_shapes (Params g) ws d t o =
    either (is_sign (codes ")") t) ws _ _ (o.1, o.2)
    (either (g && is_word (codes "int") t) ws LeavesOut _ tt
    (either (is_word (codes "int") t) ws _ _ (refl, (refl, refl, o)) (either (is_kind t) ws _ Refuses (refl, (refl, refl, o)) tt)))
row_shapes OneParam ws d t o = more_params_shape 0 ws (Some t) o
row_shapes MoreParams ws d t o = more_params_shape 1 ws (Some t) o
row_shapes (Circular m) ws d t o = either (is_word (codes "circular") t) ws _ (Skips 0) (either m ws _ LeavesOut (refl, (refl, refl, (refl, refl, (o.0, refl, o.2)))) tt) tt
row_shapes Bracket ws d t o = either (is_sign (codes "[") t) ws _ Refuses (refl, o) tt
row_shapes Start ws d t o = either (is_word (codes "true") t) ws _ _ (o.1, o.2) (either (is_word (codes "false") t) ws _ _ (o.1, o.2) (either (begins_other t) ws LeavesOut Refuses tt tt))
row_shapes Ending ws d t o = either (is_sign (codes ";") t) ws _ _ (o.1, o.2) (body_shapes ws (Some t) o)
row_shapes Body ws d t o = body_shapes ws (Some t) o
row_shapes Defined ws d t o = either ((d == 0) && is_sign (codes ".") t) ws _ _ (refl, (refl, refl, o)) (body_shapes ws (Some t) o)
row_shapes Return ws d t o = either (is_word (codes "return") t) ws _ LeavesOut (o.1, o.2) tt
row_shapes Close ws d t o = either (is_sign (codes "}") t) ws _ LeavesOut (o.1, o.2) tt

-- ---- a symbol

abbrev GoesShaped : Move Want → Type 0
GoesShaped (Goes more e) = Shape more
GoesShaped (Halts reason) = Unit {0}

answer_shapes : (l : Bool) (ws : List Want) (a : Answer Want) (f : ℕ → Move Want) → Kept ws a → ((e : ℕ) → GoesShaped (f e)) → GoesShaped (answered l a ws f)
answer_shapes l ws (Takes true more e) f k h = k
answer_shapes true ws (Takes false more e) f k h = tt
answer_shapes false ws (Takes false more e) f k h = k
answer_shapes l ws (Skips e) f k h = h e
answer_shapes l ws Refuses f k h = tt
answer_shapes l ws LeavesOut f k h = tt

after_shapes : (l : Bool) (ws : List Want) (d : ℕ) (t : PlacedToken) → Stands ws → GoesShaped (after l table ws d t)
after_shapes l [] d t o = tt
after_shapes l (w ∷ ws) d t o = answer_shapes l ws (table w d (Some t)) (λ e. after l table ws e t) (row_shapes w ws d t o) (λ e. after_shapes l ws e t o.2)

-- What is wanted behind a front stands so.
pub reached_shape : {forms : Forms} (front : List PlacedToken) (ws : List Want) (d : ℕ) → Reached forms front ws d → Shape ws
reached_shape _ _ _ start = (refl, (refl, refl, tt))
reached_shape _ _ _ (step before t vs ws x d h a) = subst GoesShaped a (after_shapes true vs x t (reached_shape before vs x h).1)
