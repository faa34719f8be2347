-- Steps of the machine within expressions.
use Rattle.std.proofs.Common.{◌≡◌, ℕ, zero, suc, ◌-◌, List, [], ◌∷◌, ◌++◌, Bool, true, false, cond, Option, Some, None, refl, sym, ap, subst, ◌∙◌, append_assoc}
use Rattle.std.specs.Prelude.{◌||◌, not, nat_lt, chars}
use Rattle.std.specs.Str.{bytes_eq}
use Rattle.std.proofs.lemmas.Slice.Eq.{bytes_eq-Decides}
use lib.Chars.{codes}
use Rattle.at_model.specs.Names.{is_name, is_reserved, reserved_words}
use Rattle.at_model.specs.Names as names
use Rattle.at_model.proofs.Options.{both, and_off}
use Rattle.at_text.specs.Reading.{first}
use Rattle.at_text.specs.declared.token.TokenKind.{TokenKind}
use Rattle.at_text.specs.declared.token.TokenKind.TheVariants as kind
use Rattle.at_text.specs.Symbols.{PlacedToken, is_word_kind, is_sign_kind}
use Rattle.at_text.specs.declared.place.Place.{Place}
use Rattle.at_text.specs.Rows.{Row, sign, word, is_sign, is_name_token}
use Rattle.at_jrag.specs.Grammar.{follows_cast}
use Rattle.at_text.specs.Machine.{Answer, Takes, Skips, Refuses, LeavesOut, and_then, is_skip, Goes, Halts, answered, after, ended, may_end, Outcome, Whole, Stuck, Refused, TooDeep, run}
use Rattle.at_jrag.specs.Wants.{Want, Expression, Links, Choice, Opened, Enclosed, Parenthesized, Calls, Primary, Named, FoldBody, Deeper, Name, Mark}
use Rattle.at_jrag.specs.Table.{next, is_get_child, table, or_else, primary_answer, unary_answer, binary_answer, expression_answer, links_answer, calls_answer, choice_answer, named_answer, links_from, tails_answer, enclosed_rest, is_literal, begins_fold}
use Rattle.at_text.proofs.MachineLaws.{goes_on, run-answer, run-ends, run-takes, run-skips, run-ended}

-- ---- names are no reserved words

pub reserved_is_no_name : (text : List ℕ) → is_reserved text ≡ true → is_name text ≡ false
reserved_is_no_name text e = and_off (names.is_word (chars text)) (not (is_reserved text)) (ap not e)

differs : (b : Bool) (text word : List ℕ) → is_reserved word ≡ true → is_name text ≡ true → bytes_eq text word ≡ b → b ≡ false
differs false text word r is e = refl
differs true text word r is e =
    let same : text ≡ word = (bytes_eq-Decides text word).0 e in
    absurd (let q : true ≡ false = sym is ∙ ap is_name same ∙ reserved_is_no_name word r in cc)

-- a name is no reserved word
pub no_word : (text word : List ℕ) → is_reserved word ≡ true → is_name text ≡ true → bytes_eq text word ≡ false
no_word text word r is = differs (bytes_eq text word) text word r is refl

pub name_is_no_literal : (text : List ℕ) (at : Place) → is_name text ≡ true → is_literal (word text at) ≡ false
unfolding reserved_words
name_is_no_literal text at is = simp (no_word text (codes "true") refl is, no_word text (codes "false") refl is, no_word text (codes "null") refl is, no_word text (codes "this") refl is)

pub name_begins_no_fold : (text : List ℕ) (at : Place) → is_name text ≡ true → begins_fold (word text at) ≡ false
unfolding reserved_words
name_begins_no_fold text at is = simp (no_word text (codes "exists") refl is, no_word text (codes "first") refl is, no_word text (codes "sum") refl is)

-- ---- what an answer comes to

-- where this is what is wanted first, with ws behind it
abbrev pub acts : Bool → Answer Want → List Want → Row → Outcome PlacedToken
acts l a ws [] = cond (ended a (λ e. may_end table ws e)) Whole (Stuck Refused [])
acts l a ws (s ∷ ss) = goes_on l table (answered l a ws (λ e. after l table ws e s)) s ss

pub run-acts : (l : Bool) (w : Want) (ws : List Want) (d : ℕ) (ss : Row) → run l table (w ∷ ws) d ss ≡ acts l (table w d (first ss)) ws ss
run-acts l w ws d [] = run-ends l table w ws d (table w d None) refl
run-acts l w ws d (s ∷ ss) = run-answer l table w ws d s ss (table w d (Some s)) refl

acts-skips : (l : Bool) (e : ℕ) (ws : List Want) (ss : Row) → acts l (Skips e) ws ss ≡ run l table ws e ss
unfolding run
acts-skips l e ws [] = refl
acts-skips l e ws (s ∷ ss) = refl

acts-then : (l : Bool) (a : Answer Want) (us ws : List Want) (ss : Row) → is_skip a ≡ false → acts l (and_then a us) ws ss ≡ acts l a (us ++ ws) ss
acts-then l (Takes within more d) us ws [] h = refl
acts-then l (Takes within more d) us ws (s ∷ ss) h = ap (λ x. goes_on l table (cond (within || not l) (Goes x d) (Halts TooDeep)) s ss) (append_assoc more us ws)
acts-then l (Skips d) us ws ss h = absurd cc
acts-then l Refuses us ws [] h = refl
acts-then l Refuses us ws (s ∷ ss) h = refl
acts-then l LeavesOut us ws [] h = refl
acts-then l LeavesOut us ws (s ∷ ss) h = refl

acts-else : (l : Bool) (a : Answer Want) (us ws : List Want) (f : ℕ → Answer Want) (ss : Row) → ((e : ℕ)
    → acts l (f e) ws ss ≡ run l table (us ++ ws) e ss) → acts l (or_else a us f) ws ss ≡ acts l a (us ++ ws) ss
acts-else l (Takes within more d) us ws f [] h = refl
acts-else l (Takes within more d) us ws f (s ∷ ss) h = ap (λ x. goes_on l table (cond (within || not l) (Goes x d) (Halts TooDeep)) s ss) (append_assoc more us ws)
acts-else l (Skips d) us ws f ss h = h d ∙ sym (acts-skips l d (us ++ ws) ss)
acts-else l Refuses us ws f [] h = refl
acts-else l Refuses us ws f (s ∷ ss) h = refl
acts-else l LeavesOut us ws f [] h = refl
acts-else l LeavesOut us ws f (s ∷ ss) h = refl

or_else_goes : (l : Bool) (w : Want) (us ws : List Want) (d : ℕ) (f : ℕ → Answer Want) (ss : Row)
    → ((e : ℕ) → acts l (f e) ws ss ≡ run l table (us ++ ws) e ss)
    → acts l (or_else (table w d (first ss)) us f) ws ss ≡ run l table (w ∷ (us ++ ws)) d ss
or_else_goes l w us ws d f ss h = acts-else l (table w d (first ss)) us ws f ss h ∙ sym (run-acts l w (us ++ ws) d ss)

-- operators of each rank below this, and what is wanted behind them
tails_go : (l : Bool) (rank b : ℕ) (us ws : List Want) (skipped : ℕ → Answer Want) (d : ℕ) (ss : Row) → ((e : ℕ) → acts l (skipped e) ws ss ≡ run l table (us ++ ws) e ss)
    → acts l (tails_answer rank b us skipped d (first ss)) ws ss ≡ run l table (links_from rank b ++ (us ++ ws)) d ss
unfolding table
tails_go l zero b us ws skipped d ss h = h d
tails_go l (suc rank) b us ws skipped d ss h =
    tails_go l rank b (Links rank b ∷ us) ws (λ e. or_else (links_answer rank b e (first ss)) us skipped) d ss (λ e. or_else_goes l (Links rank b) us ws e skipped ss h)
    ∙ ap (λ x. run l table x d ss) (sym (append_assoc (links_from rank b) (Links rank b ∷ []) (us ++ ws)))

-- ---- a parenthesis in the place of a unary

on_stays : (test : Bool) (a b : Answer Want) → is_skip a ≡ false → is_skip b ≡ false → is_skip (cond test a b) ≡ false
on_stays true a b h k = h
on_stays false a b h k = k

pub then_stays : (a : Answer Want) (ws : List Want) → is_skip (and_then a ws) ≡ false
then_stays (Takes within more d) ws = refl
then_stays (Skips d) ws = refl
then_stays Refuses ws = refl
then_stays LeavesOut ws = refl

pub unary_stays : (b : ℕ) (s : Option PlacedToken) → is_skip (unary_answer b s) ≡ false
unary_stays b s = on_stays (next (is_sign (codes "-")) s) _ _ refl (on_stays (next (is_sign (codes "!")) s) _ _ refl
    (on_stays (next (is_sign (codes "(")) s) _ _ refl (then_stays (primary_answer b s) (Calls b ∷ []))))

pub primary_stays : (b : ℕ) (s : Option PlacedToken) → is_skip (primary_answer b s) ≡ false
primary_stays b None = refl
primary_stays b (Some t) = on_stays (is_literal t) _ _ refl (on_stays (is_sign (codes "(") t) _ _ refl (on_stays (begins_fold t) _ _ refl (on_stays (is_name_token t) _ _ refl refl)))

pub binary_stays : (rank b : ℕ) (s : Option PlacedToken) → is_skip (binary_answer rank b s) ≡ false
binary_stays zero b s = unary_stays b s
binary_stays (suc rank) b s = then_stays (binary_answer rank b s) (Links rank b ∷ [])

or_else_stays : (a : Answer Want) (us : List Want) (f : ℕ → Answer Want) → ((e : ℕ) → is_skip (f e) ≡ false) → is_skip (or_else a us f) ≡ false
or_else_stays (Takes within more d) us f h = refl
or_else_stays (Skips d) us f h = h d
or_else_stays Refuses us f h = refl
or_else_stays LeavesOut us f h = refl

tails_stay : (rank b : ℕ) (us : List Want) (f : ℕ → Answer Want) (d : ℕ) (s : Option PlacedToken) → ((e : ℕ) → is_skip (f e) ≡ false) → is_skip (tails_answer rank b us f d s) ≡ false
tails_stay zero b us f d s h = h d
tails_stay (suc rank) b us f d s h = tails_stay rank b (Links rank b ∷ us) (λ e. or_else (links_answer rank b e s) us f) d s (λ e. or_else_stays (links_answer rank b e s) us f h)

enclosed_stays : (g : Bool) (b d : ℕ) (s : Option PlacedToken) → is_skip (enclosed_rest g b d s) ≡ false
enclosed_stays g b d s = or_else_stays (named_answer g b s) _ _ (λ e. or_else_stays (calls_answer b e s) _ _ (λ x. tails_stay 6 b _ _ x s (λ y. or_else_stays (choice_answer b y s) _ _ (λ z. refl))))

-- what is wanted behind a name that stands first within a parenthesis
abbrev pub within_parenthesis : Bool → ℕ → List Want → List Want
within_parenthesis g b ws = Named g b ∷ Calls b ∷ (links_from 6 b ++ (Choice b ∷ Mark (codes ")") ∷ ws))

mark_refuses : (l : Bool) (text : List ℕ) (ws : List Want) (d : ℕ) (ss : Row) → next (is_sign text) (first ss) ≡ false → acts l Refuses ws ss ≡ run l table (Mark text ∷ ws) d ss
unfolding table
mark_refuses l text ws d ss e = sym (run-acts l (Mark text) ws d ss ∙ ap (λ x. acts l (cond x (Takes true [] d) Refuses) ws ss) e)

-- behind `( NAME`, where no `)` follows
enclosed_goes : (l g : Bool) (b d : ℕ) (ws : List Want) (ss : Row) → next (is_sign (codes ")")) (first ss) ≡ false
    → acts l (enclosed_rest g b d (first ss)) ws ss ≡ run l table (within_parenthesis g b ws) d ss
unfolding table
enclosed_goes l g b d ws ss none =
    let behind = Choice b ∷ Mark (codes ")") ∷ [] in
    or_else_goes l (Named g b) (Calls b ∷ (links_from 6 b ++ behind)) ws d
    (λ e. or_else (calls_answer b e (first ss)) (links_from 6 b ++ behind) (λ x. tails_answer 6 b behind
    (λ y. or_else (choice_answer b y (first ss)) (Mark (codes ")") ∷ []) (λ z. Refuses)) x (first ss))) ss
    (λ e. or_else_goes l (Calls b) (links_from 6 b ++ behind) ws e (λ x. tails_answer 6 b behind (λ y. or_else (choice_answer b y (first ss)) (Mark (codes ")") ∷ []) (λ z. Refuses)) x (first ss)) ss
    (λ x. tails_go l 6 b behind ws (λ y. or_else (choice_answer b y (first ss)) (Mark (codes ")") ∷ []) (λ z. Refuses)) x ss
    (λ y. or_else_goes l (Choice b) (Mark (codes ")") ∷ []) ws y (λ z. Refuses) ss (λ z. mark_refuses l (codes ")") ws z ss none))))

is_sign_of : (k : TokenKind) → is_sign_kind k ≡ true → k ≡ kind.Sign
is_sign_of kind.Word e = absurd cc
is_sign_of kind.Number e = absurd cc
is_sign_of kind.Text e = absurd cc
is_sign_of kind.Sign e = refl

pub is_word_of : (k : TokenKind) → is_word_kind k ≡ true → k ≡ kind.Word
is_word_of kind.Word e = refl
is_word_of kind.Number e = absurd cc
is_word_of kind.Text e = absurd cc
is_word_of kind.Sign e = absurd cc

pub sign_is : (text : List ℕ) (t : PlacedToken) → is_sign text t ≡ true → t ≡ sign text t.at
sign_is text t e =
    let h = both (is_sign_kind t.kind) (bytes_eq t.text text) e in
    let k = is_sign_of t.kind h.0 in
    let x : t.text ≡ text = (bytes_eq-Decides t.text text).0 h.1 in
    λ i. record { kind = k i; text = x i; at = t.at }

pub name_is : (t : PlacedToken) → is_name_token t ≡ true → (t ≡ word t.text t.at) × (is_name t.text ≡ true)
name_is t e =
    let h = both (is_word_kind t.kind) (is_name t.text) e in
    let k = is_word_of t.kind h.0 in
    ((λ i. record { kind = k i; text = t.text; at = t.at }), h.1)

-- a name alone within a parenthesis
name_alone : (l g : Bool) (b d : ℕ) (ws : List Want) (at : Place) (rest : Row) → run l table (within_parenthesis g b (Deeper ∷ ws)) d (sign (codes ")") at ∷ rest) ≡ run l table ws 2 rest
unfolding table
name_alone l g b d ws at rest =
    let ss = sign (codes ")") at ∷ rest in
    let behind = Choice b ∷ Mark (codes ")") ∷ Deeper ∷ ws in
    run-skips l table (Named g b) (Calls b ∷ (links_from 6 b ++ behind)) d 1 ss refl
    ∙ run-skips l table (Calls b) (links_from 6 b ++ behind) 1 1 ss refl
    ∙ run-skips l table (Links 0 b) (Links 1 b ∷ Links 2 b ∷ Links 3 b ∷ Links 4 b ∷ Links 5 b ∷ behind) 1 1 ss refl
    ∙ run-skips l table (Links 1 b) (Links 2 b ∷ Links 3 b ∷ Links 4 b ∷ Links 5 b ∷ behind) 1 1 ss refl
    ∙ run-skips l table (Links 2 b) (Links 3 b ∷ Links 4 b ∷ Links 5 b ∷ behind) 1 1 ss refl
    ∙ run-skips l table (Links 3 b) (Links 4 b ∷ Links 5 b ∷ behind) 1 1 ss refl
    ∙ run-skips l table (Links 4 b) (Links 5 b ∷ behind) 1 1 ss refl
    ∙ run-skips l table (Links 5 b) behind 1 1 ss refl
    ∙ run-skips l table (Choice b) (Mark (codes ")") ∷ Deeper ∷ ws) 1 1 ss refl
    ∙ run-takes l table (Mark (codes ")")) true [] (Deeper ∷ ws) 1 1 (sign (codes ")") at) rest refl (λ h. refl)
    ∙ run-skips l table Deeper ws 1 2 rest refl

enclosed_alone : (l g : Bool) (b : ℕ) (ws : List Want) (at : Place) (rest : Row) → next follows_cast (first rest)
    ≡ false → run l table (Enclosed g b ∷ ws) 0 (sign (codes ")") at ∷ rest) ≡ run l table (Calls b ∷ ws) 2 rest
unfolding table
enclosed_alone l g b ws at rest h =
    run-takes l table (Enclosed g b) true (Parenthesized b ∷ []) ws 0 2 (sign (codes ")") at) rest refl (λ h. refl)
    ∙ run-acts l (Parenthesized b) ws 2 rest
    ∙ ap (λ x. acts l (cond x (and_then (unary_answer (b - 1) (first rest)) (Deeper ∷ [])) (calls_answer b 2 (first rest))) ws rest) h
    ∙ sym (run-acts l (Calls b) ws 2 rest)

-- behind `( NAME`, in both cases; where a `)` follows, nothing that makes a cast may stand behind it
enclosed_either : (x l g : Bool) (b : ℕ) (ws : List Want) (ss : Row) → next (is_sign (codes ")")) (first ss) ≡ x → ((t :
    PlacedToken) (rest : Row) → ss ≡ t ∷ rest → is_sign (codes ")") t ≡ true → next follows_cast (first rest) ≡ false)
    → run l table (Enclosed g b ∷ ws) 0 ss ≡ run l table (within_parenthesis g (b - 1) (Deeper ∷ Calls b ∷ ws)) 0 ss
unfolding table
enclosed_either false l g b ws ss e h =
    run-acts l (Enclosed g b) ws 0 ss
    ∙ ap (λ x. acts l (cond x (Takes true (Parenthesized b ∷ []) 2) (and_then (enclosed_rest g (b - 1) 0 (first ss)) (Deeper ∷ Calls b ∷ []))) ws ss) e
    ∙ acts-then l (enclosed_rest g (b - 1) 0 (first ss)) (Deeper ∷ Calls b ∷ []) ws ss (enclosed_stays g (b - 1) 0 (first ss))
    ∙ enclosed_goes l g (b - 1) 0 (Deeper ∷ Calls b ∷ ws) ss e
enclosed_either true l g b ws [] e h = absurd cc
enclosed_either true l g b ws (t ∷ rest) e h =
    let same = sign_is (codes ")") t e in
    ap (λ x. run l table (Enclosed g b ∷ ws) 0 (x ∷ rest)) same
    ∙ enclosed_alone l g b ws t.at rest (h t rest refl e)
    ∙ sym (ap (λ x. run l table (within_parenthesis g (b - 1) (Deeper ∷ Calls b ∷ ws)) 0 (x ∷ rest)) same ∙ name_alone l g (b - 1) 0 (Calls b ∷ ws) t.at rest)

-- a name begins a primary
pub name_primary : (b : ℕ) (text : List ℕ) (at : Place) → is_name text ≡ true → primary_answer b (Some (word text at)) ≡ Takes (nat_lt 0 b) (Named (is_get_child (word text at)) b ∷ []) 0
name_primary b text at is =
    ap (λ x. cond x (Takes (nat_lt 0 b) [] 1) (cond (begins_fold (word text at)) (Takes (nat_lt 1 b) (Mark
    (codes "(") ∷ Name ∷ Mark (codes ":") ∷ Primary (b - 1) ∷ Calls (b - 1) ∷ Mark (codes ")") ∷ FoldBody b ∷ []) 0)
    (cond (is_name text) (Takes (nat_lt 0 b) (Named (is_get_child (word text at)) b ∷ []) 0) Refuses)))
    (name_is_no_literal text at is)
    ∙ ap (λ x. cond x (Takes (nat_lt 1 b) (Mark (codes "(") ∷ Name ∷ Mark (codes ":") ∷ Primary (b - 1) ∷ Calls
    (b - 1) ∷ Mark (codes ")") ∷ FoldBody b ∷ []) 0) (cond (is_name text)
    (Takes (nat_lt 0 b) (Named (is_get_child (word text at)) b ∷ []) 0) Refuses)) (name_begins_no_fold text at is)
    ∙ ap (λ x. cond x (Takes (nat_lt 0 b) (Named (is_get_child (word text at)) b ∷ []) 0) Refuses) is

pub takes_alike : (x l : Bool) (us vs : List Want) (e : ℕ) (s : PlacedToken) (ss : Row)
    → run l table us e ss ≡ run l table vs e ss → goes_on l table (cond x (Goes us e) (Halts TooDeep)) s ss
    ≡ goes_on l table (cond x (Goes vs e) (Halts TooDeep)) s ss
takes_alike true l us vs e s ss h = h
takes_alike false l us vs e s ss h = refl

-- where no cast stands behind a `(`, an expression does
abbrev pub NoCast : Row → Type 0
NoCast one = (t c : PlacedToken) (rest : Row) → one ≡ t ∷ c ∷ rest → is_name_token t ≡ true → is_sign (codes ")") c ≡ true → next follows_cast (first rest) ≡ false

opened_name : (l : Bool) (b : ℕ) (ws : List Want) (d : ℕ) (text : List ℕ) (at : Place) (ss : Row) → is_name text ≡ true → NoCast (word text at ∷ ss)
    → run l table (Opened b ∷ ws) d (word text at ∷ ss) ≡ run l table (Expression (b - 1) ∷ Mark (codes ")") ∷ Deeper ∷ Calls b ∷ ws) d (word text at ∷ ss)
unfolding table
opened_name l b ws d text at ss is h =
    let t = word text at in
    run-acts l (Opened b) ws d (t ∷ ss)
    ∙ ap (λ x. acts l (cond x (Takes (nat_lt 0 (b - 1)) (Enclosed (is_get_child t) b ∷ []) 0)
    (and_then (expression_answer (b - 1) (Some t)) (Mark (codes ")") ∷ Deeper ∷ Calls b ∷ []))) ws (t ∷ ss)) is
    ∙ takes_alike (nat_lt 0 (b - 1) || not l) l (Enclosed (is_get_child t) b ∷ ws) (within_parenthesis (is_get_child t) (b - 1) (Deeper ∷ Calls b ∷ ws)) 0 t ss
    (enclosed_either (next (is_sign (codes ")")) (first ss)) l (is_get_child t) b ws ss refl (λ c rest e f. h t c rest (ap (λ x. t ∷ x) e) is f))
    ∙ sym (run-acts l (Expression (b - 1)) (Mark (codes ")") ∷ Deeper ∷ Calls b ∷ ws) d (t ∷ ss)
    ∙ ap (λ a. acts l (and_then (and_then (and_then (and_then
    (and_then (and_then (and_then (and_then a (Calls (b - 1) ∷ [])) (Links 0 (b - 1) ∷ [])) (Links 1 (b - 1) ∷ []))
    (Links 2 (b - 1) ∷ [])) (Links 3 (b - 1) ∷ [])) (Links 4 (b - 1) ∷ [])) (Links 5 (b - 1) ∷ []))
    (Choice (b - 1) ∷ [])) (Mark (codes ")") ∷ Deeper ∷ Calls b ∷ ws) (t ∷ ss)) (name_primary (b - 1) text at is))

opened_either : (x l : Bool) (b : ℕ) (ws : List Want) (d : ℕ) (t : PlacedToken) (ss : Row) → is_name_token t ≡ x → NoCast (t ∷ ss)
    → run l table (Opened b ∷ ws) d (t ∷ ss) ≡ run l table (Expression (b - 1) ∷ Mark (codes ")") ∷ Deeper ∷ Calls b ∷ ws) d (t ∷ ss)
unfolding table
opened_either false l b ws d t ss e h =
    run-acts l (Opened b) ws d (t ∷ ss)
    ∙ ap (λ x. acts l (cond x (Takes (nat_lt 0 (b - 1)) (Enclosed (is_get_child t) b ∷ []) 0) (and_then (expression_answer (b - 1) (Some t)) (Mark (codes ")") ∷ Deeper ∷ Calls b ∷ []))) ws (t ∷ ss)) e
    ∙ acts-then l (expression_answer (b - 1) (Some t)) (Mark (codes ")") ∷ Deeper ∷ Calls b ∷ []) ws (t ∷ ss) (then_stays (binary_answer 6 (b - 1) (Some t)) (Choice (b - 1) ∷ []))
    ∙ sym (run-acts l (Expression (b - 1)) (Mark (codes ")") ∷ Deeper ∷ Calls b ∷ ws) d (t ∷ ss))
opened_either true l b ws d t ss e h =
    let n = name_is t e in
    ap (λ x. run l table (Opened b ∷ ws) d (x ∷ ss)) n.0
    ∙ opened_name l b ws d t.text t.at ss n.1 (subst (λ (x : PlacedToken). NoCast (x ∷ ss)) n.0 h)
    ∙ sym (ap (λ x. run l table (Expression (b - 1) ∷ Mark (codes ")") ∷ Deeper ∷ Calls b ∷ ws) d (x ∷ ss)) n.0)

pub opened : (l : Bool) (b : ℕ) (ws : List Want) (d : ℕ) (one : Row) → NoCast one → run l table (Opened b ∷ ws) d one
    ≡ run l table (Expression (b - 1) ∷ Mark (codes ")") ∷ Deeper ∷ Calls b ∷ ws) d one
unfolding table
opened l b ws d [] h = run-ended l table (Opened b) ws d refl ∙ sym (run-ended l table (Expression (b - 1)) (Mark (codes ")") ∷ Deeper ∷ Calls b ∷ ws) d refl)
opened l b ws d (t ∷ ss) h = opened_either (is_name_token t) l b ws d t ss refl h
