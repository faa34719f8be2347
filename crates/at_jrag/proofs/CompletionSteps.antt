-- Each symbol that is taken leaves what can be completed.
use Rattle.std.proofs.Common.{arith, ◌≡◌, ℕ, zero, suc, ◌+◌, ◌-◌, ◌≤◌, List, [], ◌∷◌, ◌++◌, Bool, true, false, cond, max, Option, Some, None, refl, sym, subst, append_assoc}
use Rattle.std.specs.Prelude.{◌&&◌, ◌==◌, nat_lt}
use Rattle.std.proofs.lemmas.Bool.{ltb-true}
use lib.Chars.{codes}
use Rattle.at_text.specs.Reading.{first}
use Rattle.at_text.specs.Symbols.{PlacedToken, is_word_kind}
use Rattle.at_text.specs.Rows.{is_sign, is_word, is_name_token}
use Rattle.at_jrag.specs.Grammar.{is_number, follows_cast, begins_other, max_nesting}
use Rattle.at_text.specs.Machine.{Answer, Takes, Skips, Refuses, LeavesOut, and_then, Move, Goes, Halts, answered, after}
use Rattle.at_jrag.specs.Wants.{Want, Expression, Binary, Links, Choice, Otherwise, Unary, Minus, Opened, Enclosed, Parenthesized, Calls, Called, Arguments, FirstArgument, MoreArguments, Primary, Named, FoldBody, Deeper, Join, Deepest, Counts, Name, Mark, File, Decls, Lazy, NotNta, Attribute, Kind, Signed, Opening, Params, OneParam, MoreParams, Circular, Bracket, Start, Ending, Body, Defined, Return, Close}
use Rattle.at_jrag.specs.Table.{table, next, is_get_child, is_literal, begins_fold, is_number_within, is_kind, link_rank, or_else, links_from, tails_answer, primary_answer, unary_answer, binary_answer, expression_answer, links_answer, choice_answer, calls_answer, named_answer, enclosed_rest, body_answer, more_params_answer, circular_answer, no_keyword, declared, named}
use Rattle.at_jrag.proofs.Completions.{closing, closes, leaves, Open}

-- the register is known to be 1 at least, or nothing is known of it
abbrev pub Known : Bool → ℕ → Type 0
Known p d = p ≡ true → 1 ≤ d

-- What the answer leaves can be completed, where ws is wanted behind it; where it takes nothing, p says what is known.
abbrev Kept : (limited known : Bool) → List Want → Answer Want → Type 0
Kept l p ws (Takes within more e) = (l ≡ true → within ≡ true) → (q : Bool) × Known q e × Open l q (more ++ ws)
Kept l p ws (Skips e) = Known p e
Kept l p ws Refuses = Unit {0}
Kept l p ws LeavesOut = Unit {0}

nothing_known : (d : ℕ) → Known false d
nothing_known d h = absurd cc

known_some : (d : ℕ) → 1 ≤ d → Known true d
known_some d h e = h

either : (x l p : Bool) (ws : List Want) (a b : Answer Want) → Kept l p ws a → Kept l p ws b → Kept l p ws (cond x a b)
either true l p ws a b h k = h
either false l p ws a b h k = k

-- it takes the symbol, and nothing is known of the register
takes : (l p : Bool) (ws : List Want) (within : Bool) (more : List Want) (e : ℕ) → ((l ≡ true → within ≡ true) → Open l false (more ++ ws)) → Kept l p ws (Takes within more e)
takes l p ws within more e o f = (false, nothing_known e, o f)

then_keeps : (l p r : Bool) (us ws : List Want) (a : Answer Want) → Kept l r (us ++ ws) a → Kept l p ws (and_then a us)
then_keeps l p r us ws (Takes within more e) k = λ f. let x = k f in (x.0, x.1, subst (λ v. Open l x.0 v) (sym (append_assoc more us ws)) x.2)
then_keeps l p r us ws (Skips e) k = tt
then_keeps l p r us ws Refuses k = tt
then_keeps l p r us ws LeavesOut k = tt

else_keeps : (l p r : Bool) (us ws : List Want) (a : Answer Want) (f : ℕ → Answer Want) → Kept l r (us ++ ws) a → ((e : ℕ) → Known r e → Kept l p ws (f e)) → Kept l p ws (or_else a us f)
else_keeps l p r us ws (Takes within more e) f k h = λ g. let x = k g in (x.0, x.1, subst (λ v. Open l x.0 v) (sym (append_assoc more us ws)) x.2)
else_keeps l p r us ws (Skips e) f k h = h e k
else_keeps l p r us ws Refuses f k h = tt
else_keeps l p r us ws LeavesOut f k h = tt

-- ---- budgets

above : (l : Bool) (n b : ℕ) → (l ≡ true → nat_lt n b ≡ true) → l ≡ true → suc n ≤ b
above l n b f h = ltb-true n b (f h)

below : (l : Bool) (n b : ℕ) → (l ≡ true → suc n ≤ b) → l ≡ true → n ≤ b - 1
below l n b f h = let k = f h in omega (arith, k)

-- a register of 1 at least
above_some : (l : Bool) (d b : ℕ) → 1 ≤ d → (l ≡ true → nat_lt d b ≡ true) → l ≡ true → 2 ≤ b
above_some l d b k f h = let j = ltb-true d b (f h) in omega (arith, j, k)

-- ---- expressions

primary_keeps : (l p : Bool) (b : ℕ) (ws : List Want) (s : Option PlacedToken) → closes (first (closing ws)) ≡ true → ((l ≡ true → 1 ≤ b) → Open l true ws) → Kept l p ws (primary_answer b s)
primary_keeps l p b ws None c o = tt
primary_keeps l p b ws (Some t) c o =
    either (is_literal t) l p ws _ _ (λ f. (true, known_some 1 (omega arith), o (above l 0 b f)))
    (either (is_sign (codes "(") t) l p ws _ _
    (takes l p ws (nat_lt 1 b) (Expression (b - 1) ∷ Mark (codes ")") ∷ Deeper ∷ []) 0
    (λ f. (below l 1 b (above l 1 b f), refl, (tt, tt, (tt, tt, o (λ h. let k = above l 1 b f h in omega (arith, k)))))))
    (either (begins_fold t) l p ws _ _
    (takes l p ws (nat_lt 1 b) (Mark (codes "(") ∷ Name ∷ Mark (codes ":") ∷ Primary (b - 1) ∷ Calls (b - 1) ∷ Mark (codes ")") ∷ FoldBody b ∷ []) 0
    (λ f. (tt, tt, (tt, tt, (tt, tt, (below l 1 b (above l 1 b f), refl, (refl, refl, (tt, tt, (above l 1 b f, tt, o (λ h. let k = above l 1 b f h in omega (arith, k)))))))))))
    (either (is_name_token t) l p ws _ Refuses (takes l p ws (nat_lt 0 b) (Named (is_get_child t) b ∷ []) 0 (λ f. (tt, c, o (above l 0 b f)))) tt)))

unary_keeps : (l p : Bool) (b : ℕ) (ws : List Want) (s : Option PlacedToken) → closes (first (closing ws)) ≡ true → ((l ≡ true → 1 ≤ b) → Open l true ws) → Kept l p ws (unary_answer b s)
unary_keeps l p b ws s c o =
    either (next (is_sign (codes "-")) s) l p ws _ _ (takes l p ws (nat_lt 0 b) (Minus b ∷ []) 0 (λ f. (tt, c, o (above l 0 b f))))
    (either (next (is_sign (codes "!")) s) l p ws _ _
    (takes l p ws (nat_lt 1 b) (Unary (b - 1) ∷ Deeper ∷ []) 0 (λ f. (below l 1 b (above l 1 b f), c, (tt, tt, o (λ h. let k = above l 1 b f h in omega (arith, k))))))
    (either (next (is_sign (codes "(")) s) l p ws _ _ (takes l p ws (nat_lt 1 b) (Opened b ∷ []) 0 (λ f. (above l 1 b f, c, o (λ h. let k = above l 1 b f h in omega (arith, k)))))
    (then_keeps l p true (Calls b ∷ []) ws (primary_answer b s) (primary_keeps l true b (Calls b ∷ ws) s c (λ h. (refl, c, o h))))))

binary_keeps : (l p : Bool) (rank b : ℕ) (ws : List Want) (s : Option PlacedToken) → closes (first (closing ws)) ≡ true → ((l ≡ true → 1 ≤ b) → Open l true ws) → Kept l p ws (binary_answer rank b s)
binary_keeps l p zero b ws s c o = unary_keeps l p b ws s c o
binary_keeps l p (suc rank) b ws s c o = then_keeps l p true (Links rank b ∷ []) ws (binary_answer rank b s) (binary_keeps l true rank b (Links rank b ∷ ws) s c (λ h. (refl, c, o h)))

expression_keeps : (l p : Bool) (b : ℕ) (ws : List Want) (s : Option PlacedToken) → closes (first (closing ws)) ≡ true → ((l ≡ true → 1 ≤ b) → Open l true ws) → Kept l p ws (expression_answer b s)
expression_keeps l p b ws s c o = then_keeps l p true (Choice b ∷ []) ws (binary_answer 6 b s) (binary_keeps l true 6 b (Choice b ∷ ws) s c (λ h. (refl, c, o h)))

links_keep : (l : Bool) (rank b d : ℕ) (ws : List Want) (s : Option PlacedToken) → 1 ≤ d → closes (first (closing ws)) ≡ true → Open l true ws → Kept l true ws (links_answer rank b d s)
links_keep l rank b d ws None k c o = known_some d k
links_keep l rank b d ws (Some t) k c o =
    either (link_rank t == suc rank) l true ws _ (Skips d)
    (either (is_word_kind t.kind) l true ws _ _
    (takes l true ws (nat_lt d b) (Name ∷ Counts (1 + d) ∷ Links rank b ∷ []) 0 (λ f. (tt, tt, (omega arith, tt, (refl, c, o)))))
    (takes l true ws (nat_lt d b) (Binary rank (b - 1) ∷ Join d ∷ Links rank b ∷ []) 0 (λ f. (below l 1 b (above_some l d b k f), c, (tt, tt, (refl, c, o))))))
    (known_some d k)

choice_keeps : (l : Bool) (b d : ℕ) (ws : List Want) (s : Option PlacedToken) → 1 ≤ d → closes (first (closing ws)) ≡ true → Open l true ws → Kept l true ws (choice_answer b d s)
choice_keeps l b d ws s k c o =
    either (next (is_sign (codes "?")) s) l true ws _ (Skips d)
    (takes l true ws (nat_lt d b) (Expression (b - 1) ∷ Otherwise b d ∷ []) 0 (λ f. (below l 1 b (above_some l d b k f), refl, (above_some l d b k f, c, o)))) (known_some d k)

calls_keep : (l : Bool) (b d : ℕ) (ws : List Want) (s : Option PlacedToken) → 1 ≤ d → closes (first (closing ws)) ≡ true → Open l true ws → Kept l true ws (calls_answer b d s)
calls_keep l b d ws s k c o =
    either (next (is_sign (codes ".")) s) l true ws _ (Skips d)
    (takes l true ws (nat_lt d b) (Called (b - 1) ∷ Join d ∷ Calls b ∷ []) 0 (λ f. (tt, tt, (tt, tt, (refl, c, o))))) (known_some d k)

named_keeps : (l g : Bool) (b : ℕ) (ws : List Want) (s : Option PlacedToken) → Open l true ws → Kept l true ws (named_answer g b s)
named_keeps l g b ws s o =
    either (next (is_sign (codes "(")) s) l true ws _ (Skips 1) (takes l true ws true (FirstArgument g (b - 1) ∷ Deeper ∷ []) 0 (λ f. (tt, tt, (tt, tt, o)))) (known_some 1 (omega arith))

-- ---- a parenthesis

tails_keep : (l p : Bool) (rank b : ℕ) (us ws : List Want) (f : ℕ → Answer Want) (d : ℕ) (s : Option PlacedToken) → 1 ≤ d → closes (first (closing (us ++ ws))) ≡ true → Open l true (us ++ ws)
    → ((e : ℕ) → Known true e → Kept l p ws (f e)) → Kept l p ws (tails_answer rank b us f d s)
tails_keep l p zero b us ws f d s k c o h = h d (known_some d k)
tails_keep l p (suc rank) b us ws f d s k c o h =
    tails_keep l p rank b (Links rank b ∷ us) ws (λ e. or_else (links_answer rank b e s) us f) d s k c (refl, c, o)
    (λ e i. else_keeps l p true us ws (links_answer rank b e s) f (links_keep l rank b e (us ++ ws) s (i refl) c o) h)

enclosed_keeps : (l p g : Bool) (b d : ℕ) (ws : List Want) (s : Option PlacedToken) → Open l false ws → Kept l p ws (enclosed_rest g b d s)
enclosed_keeps l p g b d ws s o =
    let behind = Choice b ∷ Mark (codes ")") ∷ [] in
    let marked : Open l true (Mark (codes ")") ∷ ws) = (tt, tt, o) in
    let chosen : Open l true (behind ++ ws) = (refl, refl, marked) in
    let linked : Open l true ((links_from 6 b ++ behind) ++ ws) = (refl, refl, (refl, refl, (refl, refl, (refl, refl, (refl, refl, (refl, refl, chosen)))))) in
    else_keeps l p true (Calls b ∷ (links_from 6 b ++ behind)) ws (named_answer g b s) _ (named_keeps l g b (Calls b ∷ (links_from 6 b ++ behind) ++ ws) s (refl, refl, linked))
    (λ e i. else_keeps l p true (links_from 6 b ++ behind) ws (calls_answer b e s) _ (calls_keep l b e ((links_from 6 b ++ behind) ++ ws) s (i refl) refl linked)
    (λ x j. tails_keep l p 6 b behind ws _ x s (j refl) refl chosen
    (λ y k. else_keeps l p true (Mark (codes ")") ∷ []) ws (choice_answer b y s) (λ z. Refuses) (choice_keeps l b y (Mark (codes ")") ∷ ws) s (k refl) refl marked) (λ z m. tt))))

-- ---- declarations

body_keeps : (l p : Bool) (ws : List Want) (s : Option PlacedToken) → Open l false ws → Kept l p ws (body_answer s)
body_keeps l p ws s o =
    either (next (is_sign (codes "=")) s) l p ws _ _ (takes l p ws true (Expression max_nesting ∷ Mark (codes ";") ∷ []) 0 (λ f. ((λ h. omega arith), refl, (tt, tt, o))))
    (either (next (is_sign (codes "{")) s) l p ws _ Refuses
    (takes l p ws true (Return ∷ Expression max_nesting ∷ Mark (codes ";") ∷ Close ∷ []) 0 (λ f. (tt, tt, ((λ h. omega arith), refl, (tt, tt, (tt, tt, o)))))) tt)

more_params_keep : (l p : Bool) (d : ℕ) (ws : List Want) (s : Option PlacedToken) → Open l false ws → Kept l p ws (more_params_answer d s)
more_params_keep l p d ws s o =
    either (next (is_sign (codes ")")) s) l p ws _ _ (takes l p ws true [] d (λ f. o))
    (either (next (is_sign (codes ",")) s) l p ws _ Refuses (takes l p ws true (Kind ∷ Name ∷ MoreParams ∷ []) 0 (λ f. (tt, tt, (tt, tt, (tt, tt, o))))) tt)

no_keyword_keeps : (l p : Bool) (ws : List Want) (t : PlacedToken) → Kept l p ws (no_keyword t)
no_keyword_keeps l p ws t = either (is_word_kind t.kind) l p ws LeavesOut Refuses tt tt

circular_keeps : (l m : Bool) (ws : List Want) (s : Option PlacedToken) → closes (first (closing ws)) ≡ true → Open l false ws → Kept l false ws (circular_answer m s)
circular_keeps l m ws s c o =
    either (next (is_word (codes "circular")) s) l false ws _ (Skips 0)
    (either m l false ws _ LeavesOut (takes l false ws true (Bracket ∷ Mark (codes "]") ∷ Circular false ∷ []) 0 (λ f. (tt, tt, (tt, tt, (tt, c, o))))) tt) (nothing_known 0)

-- one symbol alone, or else
alone_keeps : (x l p : Bool) (ws : List Want) (d : ℕ) (a : Answer Want) → Open l false ws → Kept l p ws a → Kept l p ws (cond x (Takes true [] d) a)
alone_keeps x l p ws d a o k = either x l p ws (Takes true [] d) a (takes l p ws true [] d (λ f. o)) k

-- ---- each want

row_keeps : (l p : Bool) (w : Want) (ws : List Want) (d : ℕ) (t : PlacedToken) → Known p d → Open l p (w ∷ ws) → Kept l (leaves w) ws (table w d (Some t))
unfolding table
row_keeps l p (Expression b) ws d t k o = expression_keeps l true b ws (Some t) o.1 (λ h. o.2)
row_keeps l p (Binary rank b) ws d t k o = binary_keeps l true rank b ws (Some t) o.1 (λ h. o.2)
row_keeps l p (Links rank b) ws d t k o = links_keep l rank b d ws (Some t) (k o.0) o.1 o.2
row_keeps l p (Choice b) ws d t k o = choice_keeps l b d ws (Some t) (k o.0) o.1 o.2
row_keeps l p (Otherwise b m) ws d t k o =
    either (is_sign (codes ":") t) l true ws _ Refuses (takes l true ws true (Expression (b - 1) ∷ Deepest d ∷ Join m ∷ []) 0 (λ f. (below l 1 b o.0, o.1, (tt, tt, (tt, tt, o.2))))) tt
row_keeps l p (Unary b) ws d t k o = unary_keeps l true b ws (Some t) o.1 (λ h. o.2)
row_keeps l p (Minus b) ws d t k o =
    either (is_number t) l true ws _ _ (either (is_number_within 2147483648 t) l true ws _ Refuses (λ f. (true, known_some 1 (omega arith), (refl, o.1, o.2))) tt)
    (then_keeps l true true (Deeper ∷ []) ws (unary_answer (b - 1) (Some t)) (unary_keeps l true (b - 1) (Deeper ∷ ws) (Some t) o.1 (λ h. (tt, tt, o.2))))
row_keeps l p (Opened b) ws d t k o =
    either (is_name_token t) l true ws _ _ (takes l true ws (nat_lt 0 (b - 1)) (Enclosed (is_get_child t) b ∷ []) 0 (λ f. (tt, o.1, o.2)))
    (then_keeps l true true (Mark (codes ")") ∷ Deeper ∷ Calls b ∷ []) ws (expression_answer (b - 1) (Some t)) (expression_keeps l true (b - 1) (Mark (codes ")") ∷ Deeper ∷ Calls b ∷ ws)
    (Some t) refl (λ h. (tt, tt, (tt, tt, (refl, o.1, o.2))))))
row_keeps l p (Enclosed g b) ws d t k o =
    either (is_sign (codes ")") t) l true ws _ _ (λ f. (true, known_some 2 (omega arith), (refl, o.1, o.2)))
    (then_keeps l true true (Deeper ∷ Calls b ∷ []) ws (enclosed_rest g (b - 1) d (Some t)) (enclosed_keeps l true g (b - 1) d (Deeper ∷ Calls b ∷ ws) (Some t) (tt, tt, (refl, o.1, o.2))))
row_keeps l p (Parenthesized b) ws d t k o =
    either (follows_cast t) l true ws _ _ (then_keeps l true true (Deeper ∷ []) ws (unary_answer (b - 1) (Some t)) (unary_keeps l true (b - 1) (Deeper ∷ ws) (Some t) o.1 (λ h. (tt, tt, o.2))))
    (calls_keep l b d ws (Some t) (k o.0) o.1 o.2)
row_keeps l p (Calls b) ws d t k o = calls_keep l b d ws (Some t) (k o.0) o.1 o.2
row_keeps l p (Called b) ws d t k o = either (is_name_token t) l false ws _ Refuses (takes l false ws true (Arguments (is_get_child t) b ∷ []) 0 (λ f. (tt, tt, o.2))) tt
row_keeps l p (Arguments g b) ws d t k o = either (is_sign (codes "(") t) l false ws _ Refuses (takes l false ws true (FirstArgument g b ∷ []) 0 (λ f. (tt, tt, o.2))) tt
row_keeps l p (FirstArgument g b) ws d t k o =
    alone_keeps (is_sign (codes ")") t) l false ws 0 _ o.2
    (either (g && is_word (codes "int") t) l false ws LeavesOut _ tt
    (then_keeps l false true (MoreArguments b ∷ []) ws (expression_answer b (Some t)) (expression_keeps l true b (MoreArguments b ∷ ws) (Some t) refl (λ h. (h, tt, o.2)))))
row_keeps l p (MoreArguments b) ws d t k o =
    alone_keeps (is_sign (codes ")") t) l false ws d _ o.2
    (either (is_sign (codes ",") t) l false ws _ Refuses (takes l false ws true (Expression b ∷ Deepest d ∷ MoreArguments b ∷ []) 0 (λ f. (o.0, refl, (tt, tt, (o.0, tt, o.2))))) tt)
row_keeps l p (Primary b) ws d t k o = primary_keeps l true b ws (Some t) o.1 (λ h. o.2)
row_keeps l p (Named g b) ws d t k o = named_keeps l g b ws (Some t) o.2
row_keeps l p (FoldBody b) ws d t k o =
    either (is_sign (codes "{") t) l true ws _ Refuses (takes l true ws true (Expression (b - 1) ∷ Mark (codes "}") ∷ Join d ∷ []) 0 (λ f. (below l 1 b o.0, refl, (tt, tt, (tt, tt, o.2))))) tt
row_keeps l p Deeper ws d t k o = known_some (1 + d) (omega arith)
row_keeps l p (Join m) ws d t k o = known_some (1 + max m d) (omega arith)
row_keeps l p (Deepest m) ws d t k o = nothing_known (max m d)
row_keeps l p (Counts n) ws d t k o = known_some n o.0
row_keeps l p Name ws d t k o = alone_keeps (is_name_token t) l false ws d Refuses o.2 tt
row_keeps l p (Mark text) ws d t k o = alone_keeps (is_sign text t) l false ws d Refuses o.2 tt
row_keeps l p (File forms) ws d t k o =
    either (is_word (codes "aspect") t) l false ws _ _
    (takes l false ws true (Name ∷ Mark (codes "{") ∷ Decls forms ∷ File forms ∷ []) 0 (λ f. (tt, tt, (tt, tt, (tt, tt, (tt, o.1, o.2)))))) (no_keyword_keeps l false ws t)
row_keeps l p (Decls forms) ws d t k o =
    alone_keeps (is_sign (codes "}") t) l false ws 0 _ o.2
    (either (is_word (codes "syn") t) l false ws _ _
    (takes l false ws true (declared forms (Ending ∷ Decls forms ∷ [])) 0 (λ f. (tt, refl, (tt, refl, (tt, tt, (tt, tt, o.2))))))
    (either (is_word (codes "inh") t) l false ws _ _
    (takes l false ws true (declared forms (Mark (codes ";") ∷ Decls forms ∷ [])) 0 (λ f. (tt, refl, (tt, refl, (tt, tt, (tt, tt, o.2))))))
    (either (is_word (codes "eq") t) l false ws _ _
    (takes l false ws true (Name ∷ Mark (codes ".") ∷ Signed ∷ Defined ∷ Decls forms ∷ []) 0 (λ f. (tt, tt, (tt, tt, (tt, tt, (tt, tt, (tt, tt, o.2))))))) (no_keyword_keeps l false ws t))))
row_keeps l p Lazy ws d t k o =
    either (is_word (codes "lazy") t) l false ws _ _ (takes l false ws true (NotNta ∷ []) 0 (λ f. (tt, o.1, o.2)))
    (either (is_word (codes "nta") t) l false ws LeavesOut (Skips 0) tt (nothing_known 0))
row_keeps l p NotNta ws d t k o = either (is_word (codes "nta") t) l false ws LeavesOut (Skips 0) tt (nothing_known 0)
row_keeps l p (Attribute forms) ws d t k o =
    either (is_kind t) l false ws _ Refuses (takes l false ws true (named (is_word (codes "boolean") t && forms.circular)) 0 (λ f. (tt, tt, (tt, tt, (tt, tt, (tt, o.1, o.2)))))) tt
row_keeps l p Kind ws d t k o = alone_keeps (is_kind t) l false ws 0 Refuses o.2 tt
row_keeps l p Signed ws d t k o = either (is_name_token t) l false ws _ Refuses (takes l false ws true (Opening (is_get_child t) ∷ []) 0 (λ f. (tt, tt, o.2))) tt
row_keeps l p (Opening g) ws d t k o = either (is_sign (codes "(") t) l false ws _ Refuses (takes l false ws true (Params g ∷ []) 0 (λ f. (tt, tt, o.2))) tt
row_keeps l p (Params g) ws d t k o =
    alone_keeps (is_sign (codes ")") t) l false ws 0 _ o.2
    (either (g && is_word (codes "int") t) l false ws LeavesOut _ tt
    (either (is_word (codes "int") t) l false ws _ _ (takes l false ws true (Name ∷ OneParam ∷ []) 0 (λ f. (tt, tt, (tt, tt, o.2))))
    (either (is_kind t) l false ws _ Refuses (takes l false ws true (Name ∷ MoreParams ∷ []) 0 (λ f. (tt, tt, (tt, tt, o.2)))) tt)))
row_keeps l p OneParam ws d t k o = more_params_keep l false 0 ws (Some t) o.2
row_keeps l p MoreParams ws d t k o = more_params_keep l false 1 ws (Some t) o.2
row_keeps l p (Circular m) ws d t k o = circular_keeps l m ws (Some t) o.1 o.2
row_keeps l p Bracket ws d t k o = either (is_sign (codes "[") t) l false ws _ Refuses (takes l false ws true (Start ∷ []) 0 (λ f. (tt, tt, o.2))) tt
row_keeps l p Start ws d t k o =
    alone_keeps (is_word (codes "true") t) l false ws 0 _ o.2
    (alone_keeps (is_word (codes "false") t) l false ws 0 _ o.2 (either (begins_other t) l false ws LeavesOut Refuses tt tt))
row_keeps l p Ending ws d t k o = alone_keeps (is_sign (codes ";") t) l false ws 0 _ o.2 (body_keeps l false ws (Some t) o.2)
row_keeps l p Body ws d t k o = body_keeps l false ws (Some t) o.2
row_keeps l p Defined ws d t k o =
    either ((d == 0) && is_sign (codes ".") t) l false ws _ _ (takes l false ws true (Signed ∷ Body ∷ []) 0 (λ f. (tt, tt, (tt, tt, o.2)))) (body_keeps l false ws (Some t) o.2)
row_keeps l p Return ws d t k o = alone_keeps (is_word (codes "return") t) l false ws 0 LeavesOut o.2 tt
row_keeps l p Close ws d t k o = alone_keeps (is_sign (codes "}") t) l false ws 0 LeavesOut o.2 tt

-- ---- a symbol

-- what is wanted, with the register, can be completed
abbrev pub Completes : (limited : Bool) → List Want → ℕ → Type 0
Completes l ws d = (p : Bool) × Known p d × Open l p ws

abbrev pub GoesOpen : (limited : Bool) → Move Want → Type 0
GoesOpen l (Goes more e) = Completes l more e
GoesOpen l (Halts reason) = Unit {0}

answer_keeps : (l p : Bool) (ws : List Want) (a : Answer Want) (f : ℕ → Move Want) → Kept l p ws a → ((e : ℕ) → Known p e → GoesOpen l (f e)) → GoesOpen l (answered l a ws f)
answer_keeps l p ws (Takes true more e) f k h = k (λ i. refl)
answer_keeps true p ws (Takes false more e) f k h = tt
answer_keeps false p ws (Takes false more e) f k h = k (λ i. absurd cc)
answer_keeps l p ws (Skips e) f k h = h e k
answer_keeps l p ws Refuses f k h = tt
answer_keeps l p ws LeavesOut f k h = tt

keeps : (l p : Bool) (ws : List Want) (d : ℕ) (t : PlacedToken) → Known p d → Open l p ws → GoesOpen l (after l table ws d t)
keeps l p [] d t k o = tt
keeps l p (w ∷ ws) d t k o = answer_keeps l (leaves w) ws (table w d (Some t)) (λ e. after l table ws e t) (row_keeps l p w ws d t k o) (λ e i. keeps l (leaves w) ws e t i o.2)

-- What is wanted behind the symbol can be completed, if what was wanted before it can.
pub symbol_keeps : (l : Bool) (ws : List Want) (d : ℕ) (t : PlacedToken) → Completes l ws d → GoesOpen l (after l table ws d t)
symbol_keeps l ws d t c = keeps l c.0 ws d t c.1 c.2
