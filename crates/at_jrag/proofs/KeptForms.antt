-- Where the table refuses a token, none of the forms begins that the grammar's words name as left out.
use Rattle.std.proofs.Common.{arith, ◌≡◌, ℕ, suc, List, [], ◌∷◌, ◌++◌, Bool, true, false, cond, Some, length, refl, sym, ap, subst, ◌∙◌, length-append, append_assoc, inl, inr}
use Rattle.std.specs.Prelude.{◌&&◌, ◌||◌, ◌==◌, ◌⊎◌, not}
use Rattle.std.specs.Str.{bytes_eq}
use Rattle.std.proofs.lemmas.Bool.{eqb-true}
use Rattle.std.proofs.lemmas.Slice.Eq.{bytes_eq-Decides}
use lib.Chars.{codes}
use Rattle.at_model.specs.Names.{is_name, is_reserved, reserved_words}
use Rattle.at_model.proofs.Options.{both, and_off}
use Rattle.at_text.specs.Symbols.{PlacedToken, is_word_kind}
use Rattle.at_text.specs.declared.place.Place.{Place}
use Rattle.at_text.specs.Place.{first_place}
use Rattle.at_text.specs.Rows.{Row, sign, word, is_sign, is_word}
use Rattle.at_jrag.specs.declared.Forms.{Forms}
use Rattle.at_jrag.specs.Grammar.{is_opening, begins_other}
use Rattle.at_text.specs.Machine.{Answer, Takes, Skips, Refuses, LeavesOut, Move, Goes, Halts, Refused, answered, after}
use Rattle.at_jrag.specs.Wants.{Want, Links, Choice, Parenthesized, Calls, FirstArgument, Named, Deeper, Join, Deepest, Counts, Mark, File, Decls, Lazy, NotNta, Params, Circular, Bracket, Start, Ending, Return, Close}
use Rattle.at_jrag.specs.Table.{table, is_constant, begins_fold}
use Rattle.at_jrag.specs.Forms.{IsLeftOut, no_aspect, no_declaration, nta, circular, start, no_return, no_close, get_child}
use Rattle.at_jrag.proofs.Completed.{move_of_both}
use Rattle.at_jrag.proofs.LeftForms.{last_of, HasLast, decls_take, both_hold}
use Rattle.at_jrag.proofs.Pushes.{Comes, Begins, either}
use Rattle.at_jrag.proofs.Reached.{Reached, TakesIt, goes_taken, taken_goes}
use Rattle.at_jrag.proofs.Shapes.{loose, firm, next_firm, next_second, next_ends, follows, barred, Stands, reached_shape}
use Rattle.at_jrag.proofs.SignRows.{Is, it_is, is_not, end_text, EndsAt, passes, end_row, bar, bar_passes, bar_taken, asks, get_row, paren, paren_row, takes_int, paren_asked, bracket, bracket_row, next_start, TakesBracket}
use Rattle.at_jrag.proofs.SoundTokens.{or_case, word_is}
use Rattle.at_jrag.proofs.of_expressions.ExpressionSteps.{sign_is}
use Rattle.at_jrag.proofs.TokenRows.{IsKeyword, TakesWord, next_lazy, word_row}
use Rattle.at_jrag.proofs.Walks.{never, off, goes_not, halts_not, left_not, loose_firm, IsFirst, IsTaker, taker}

-- ---- keywords

no_name : (text : List ℕ) → is_reserved text ≡ true → is_name text ≡ false
no_name text h = and_off _ (not (is_reserved text)) (ap not h)

or_off : (x y : Bool) → x ≡ false → y ≡ false → x || y ≡ false
or_off true y h k = absurd cc
or_off false y h k = k

keyword : (text : List ℕ) (at : Place) (t : PlacedToken) → t ≡ word text at → is_reserved text ≡ true → is_constant (word text at) ≡ false → begins_fold (word text at) ≡ false
    → is_word (codes "int") (word text at) || is_word (codes "boolean") (word text at) || is_word (codes "String") (word text at) ≡ false → is_word (codes "int") (word text at) ≡ false
    → is_word (codes "instanceof") (word text at) ≡ false → is_opening text ≡ false → IsKeyword t
keyword text at t is reserved constant fold kind int link opening =
    let n = no_name text reserved in
    record {
      text = text;
      at = at;
      is = is;
      name = n;
      literal = constant;
      fold = fold;
      kind = or_off (is_word (codes "int") (word text at) || is_word (codes "boolean") (word text at) || is_word (codes "String") (word text at)) (is_name text) kind n;
      int = int;
      link = ap (λ (x : Bool). cond x 3 0) link;
      cast = or_off (is_name text || is_opening text) false (or_off (is_name text) (is_opening text) n opening) refl;
    }

aspect_word : (at : Place) → IsKeyword (word (codes "aspect") at)
unfolding reserved_words
aspect_word at = keyword (codes "aspect") at _ refl refl refl refl refl refl refl refl

syn_word : (at : Place) (t : PlacedToken) → t ≡ word (codes "syn") at → IsKeyword t
unfolding reserved_words
syn_word at t e = keyword (codes "syn") at t e refl refl refl refl refl refl refl

inh_word : (at : Place) (t : PlacedToken) → t ≡ word (codes "inh") at → IsKeyword t
unfolding reserved_words
inh_word at t e = keyword (codes "inh") at t e refl refl refl refl refl refl refl

lazy_word : (at : Place) (t : PlacedToken) → t ≡ word (codes "lazy") at → IsKeyword t
unfolding reserved_words
lazy_word at t e = keyword (codes "lazy") at t e refl refl refl refl refl refl refl

return_word : (at : Place) → IsKeyword (word (codes "return") at)
unfolding reserved_words
return_word at = keyword (codes "return") at _ refl refl refl refl refl refl refl refl

-- the want that takes a keyword
word_taker : (t : PlacedToken) → IsKeyword t → (ws : List Want) (d : ℕ) (m : List Want) (e : ℕ) → Stands ws → after false table ws d t ≡ Goes m e → IsTaker (TakesWord t) ws m
word_taker t k ws d m e o h = taker (TakesWord t) t (word_row t k) ws d m e o h

-- it stands first
takes_first : (H : Want → Type 0) (t : PlacedToken) → IsKeyword t → ((w : Want) → H w → firm w ≡ false) → ((w : Want)
    (m : List Want) → TakesWord t w m → H w) → (ws : List Want) (d : ℕ) → Stands ws → TakesIt ws d t → IsFirst H ws
takes_first H t k f is ws d o (m, e, h) =
    let x = word_taker t k ws d m e o h in
    let w = is x.want x.left x.holds in
    record { want = x.want; holds = w; behind = x.behind; is = x.first (f x.want w) }

abbrev WantsFile : Want → Type 0
WantsFile w = (f : Forms) × (w ≡ File f)

abbrev WantsDecls : Want → Type 0
WantsDecls w = (f : Forms) × (w ≡ Decls f)

at_aspect : (at : Place) (w : Want) (m : List Want) → TakesWord (word (codes "aspect") at) w m → WantsFile w
at_aspect at (File g) m h = (g, refl)
at_aspect at (Decls g) m (inl h) = absurd cc
at_aspect at (Decls g) m (inr (h, k)) = absurd cc
at_aspect at (Circular x) m h = absurd cc
at_aspect at Lazy m (h, k) = absurd cc
at_aspect at Return m h = absurd cc
at_aspect at w m h = absurd h

at_syn : (at : Place) (w : Want) (m : List Want) → TakesWord (word (codes "syn") at) w m → WantsDecls w
at_syn at (File g) m h = absurd cc
at_syn at (Decls g) m h = (g, refl)
at_syn at (Circular x) m h = absurd cc
at_syn at Lazy m (h, k) = absurd cc
at_syn at Return m h = absurd cc
at_syn at w m h = absurd h

at_return : (at : Place) (w : Want) (m : List Want) → TakesWord (word (codes "return") at) w m → w ≡ Return
at_return at (File g) m h = absurd cc
at_return at (Decls g) m (inl h) = absurd cc
at_return at (Decls g) m (inr (h, k)) = absurd cc
at_return at (Circular x) m h = absurd cc
at_return at Lazy m (h, k) = absurd cc
at_return at Return m h = refl
at_return at w m h = absurd h

-- ---- what is not refused

abbrev Kept : List Want → PlacedToken → Answer Want → Type 0
Kept us t a = answered true a us (λ e. after true table us e t) ≡ Halts Refused → ⊥

file_kept : (g : Forms) (us : List Want) (d : ℕ) (t : PlacedToken) → is_word_kind t.kind ≡ true → after true table (File g ∷ us) d t ≡ Halts Refused → ⊥
unfolding table
file_kept g us d t h = either (Kept us t) (is_word (codes "aspect") t) _ _ (λ x k. goes_not k) (λ x. either (Kept us t)
    (is_word_kind t.kind) LeavesOut Refuses (λ y k. left_not k) (λ y k. never (is_word_kind t.kind) h y))

decls_kept : (g : Forms) (us : List Want) (d : ℕ) (t : PlacedToken) → is_word_kind t.kind ≡ true → after true table (Decls g ∷ us) d t ≡ Halts Refused → ⊥
unfolding table
decls_kept g us d t h =
    either (Kept us t) (is_sign (codes "}") t) _ _ (λ x k. goes_not k)
    (λ x. either (Kept us t) (is_word (codes "syn") t) _ _ (λ x k. goes_not k)
    (λ x. either (Kept us t) (is_word (codes "inh") t) _ _ (λ x k. goes_not k)
    (λ x. either (Kept us t) (is_word (codes "eq") t) _ _ (λ x k. goes_not k)
    (λ x. either (Kept us t) (is_word_kind t.kind) LeavesOut Refuses (λ y k. left_not k) (λ y k. never (is_word_kind t.kind) h y)))))

return_kept : (us : List Want) (d : ℕ) (t : PlacedToken) → after true table (Return ∷ us) d t ≡ Halts Refused → ⊥
unfolding table
return_kept us d t = either (Kept us t) (is_word (codes "return") t) _ LeavesOut (λ x k. goes_not k) (λ x k. left_not k)

close_kept : (us : List Want) (d : ℕ) (t : PlacedToken) → after true table (Close ∷ us) d t ≡ Halts Refused → ⊥
unfolding table
close_kept us d t = either (Kept us t) (is_sign (codes "}") t) _ LeavesOut (λ x k. goes_not k) (λ x k. left_not k)

circular_kept : (m : Bool) (us : List Want) (d : ℕ) (t : PlacedToken) → is_word (codes "circular") t ≡ true → after true table (Circular m ∷ us) d t ≡ Halts Refused → ⊥
unfolding table
circular_kept m us d t h =
    either (Kept us t) (is_word (codes "circular") t) _ (Skips 0) (λ x. either (Kept us t) m _ LeavesOut (λ y k. goes_not k) (λ y k. left_not k)) (λ x k. never (is_word (codes "circular") t) h x)

-- another expression behind `[`
start_kept : (ws : List Want) (d : ℕ) (t : PlacedToken) → next_start ws ≡ true → begins_other t ≡ true → after true table ws d t ≡ Halts Refused → ⊥
unfolding table
start_kept [] d t n h k = off n
start_kept (Start ∷ us) d t n h k =
    either (Kept us t) (is_word (codes "true") t) _ _ (λ x k. goes_not k)
    (λ x. either (Kept us t) (is_word (codes "false") t) _ _ (λ y k. goes_not k)
    (λ y. either (Kept us t) (begins_other t) LeavesOut Refuses (λ z k. left_not k) (λ z k. never (begins_other t) h z))) k
start_kept (w ∷ us) d t n h k = off n

-- `nta` behind `syn`, `inh` or `lazy`
nta_kept : (ws : List Want) (d : ℕ) (t : PlacedToken) → next_lazy ws ≡ true → is_word (codes "nta") t ≡ true → after true table ws d t ≡ Halts Refused → ⊥
unfolding table
nta_kept [] d t n h k = off n
nta_kept (Lazy ∷ us) d t n h k =
    either (Kept us t) (is_word (codes "lazy") t) _ _ (λ x k. goes_not k) (λ x. either (Kept us t) (is_word
    (codes "nta") t) LeavesOut (Skips 0) (λ y k. left_not k) (λ y k. never (is_word (codes "nta") t) h y)) k
nta_kept (NotNta ∷ us) d t n h k = either (Kept us t) (is_word (codes "nta") t) LeavesOut (Skips 0) (λ y k. left_not k) (λ y k. never (is_word (codes "nta") t) h y) k
nta_kept (w ∷ us) d t n h k = off n

abbrev next_int : List Want → Bool
next_int [] = false
next_int (w ∷ ws) = takes_int w

-- `int` behind `getChild` and `(`
int_kept : (ws : List Want) (d : ℕ) (t : PlacedToken) → next_int ws ≡ true → is_word (codes "int") t ≡ true → after true table ws d t ≡ Halts Refused → ⊥
unfolding table
int_kept [] d t n h k = off n
int_kept (FirstArgument g b ∷ us) d t n h k =
    either (Kept us t) (is_sign (codes ")") t) _ _ (λ x k. goes_not k)
    (λ x. either (Kept us t) (g && is_word (codes "int") t) LeavesOut _ (λ y k. left_not k) (λ y k. never (g && is_word (codes "int") t) (both_hold g (is_word (codes "int") t) n h) y)) k
int_kept (Params g ∷ us) d t n h k =
    either (Kept us t) (is_sign (codes ")") t) _ _ (λ x k. goes_not k)
    (λ x. either (Kept us t) (g && is_word (codes "int") t) LeavesOut _ (λ y k. left_not k) (λ y k. never (g && is_word (codes "int") t) (both_hold g (is_word (codes "int") t) n h) y)) k
int_kept (w ∷ us) d t n h k = off n

-- ---- where `;` or `}` may stand

abbrev next_closes : List Want → Bool
next_closes (Circular m ∷ ws) = true
next_closes (Decls g ∷ ws) = true
next_closes (Close ∷ ws) = true
next_closes ws = false

closes_first : (ws : List Want) → next_closes ws ≡ true → next_firm ws ≡ false
closes_first (Circular m ∷ ws) h = refl
closes_first (Decls g ∷ ws) h = refl
closes_first (Close ∷ ws) h = refl
closes_first [] h = off h
closes_first (w ∷ ws) h = off h

-- `||` may stand, too
abbrev Bars : List Want → Type 0
Bars ws = (at : Place) (d : ℕ) → TakesIt ws d (bar at)

barred_behind : (w : Want) (ws : List Want) → Is (passes w) → barred (w ∷ ws) ≡ true → Bars (w ∷ ws) ⊎ ((next_closes (w ∷ ws) ≡ true) ⊎ (barred ws ≡ true))
barred_behind (Links rank b) ws p h =
    or_case (rank == 5) (barred ws) (λ x. inl (λ at d. subst (λ (r : ℕ). TakesIt (Links r b ∷ ws) d (bar at)) (sym (eqb-true rank 5 x)) (bar_taken b ws d at))) (λ x. inr (inr x)) h
barred_behind (Choice b) ws p h = inr (inr h)
barred_behind (Calls b) ws p h = inr (inr h)
barred_behind (Named g b) ws p h = inr (inr h)
barred_behind (Parenthesized b) ws p h = inr (inr h)
barred_behind Deeper ws p h = inr (inr h)
barred_behind (Join m) ws p h = inr (inr h)
barred_behind (Deepest m) ws p h = inr (inr h)
barred_behind (Counts n) ws p h = inr (inr h)
barred_behind Lazy ws p h = inr (inr h)
barred_behind NotNta ws p h = inr (inr h)
barred_behind (Circular m) ws p h = inr (inl refl)
barred_behind w ws p h = absurd p

passes_loose : (w : Want) → Is (passes w) → loose w ≡ true
passes_loose (Links rank b) p = refl
passes_loose (Choice b) p = refl
passes_loose (Calls b) p = refl
passes_loose (Named g b) p = refl
passes_loose (Parenthesized b) p = refl
passes_loose Deeper p = refl
passes_loose (Join m) p = refl
passes_loose (Deepest m) p = refl
passes_loose (Counts n) p = refl
passes_loose Lazy p = refl
passes_loose NotNta p = refl
passes_loose (Circular m) p = refl
passes_loose w p = absurd p

ends_not : (x : Bool) → x ≡ true → not x ≡ true → ⊥
ends_not true h k = absurd cc
ends_not false h k = absurd cc

ends_closes : (w : Want) (ws : List Want) → EndsAt w → barred (w ∷ ws) ≡ true → next_closes (w ∷ ws) ≡ true
ends_closes (Mark text) ws h b = absurd (ends_not (bytes_eq text (codes ";") || bytes_eq text (codes "}")) h b)
ends_closes Ending ws h b = off b
ends_closes (Decls g) ws h b = refl
ends_closes Close ws h b = refl
ends_closes w ws h b = absurd h

walk_at : (w : Want) (ws : List Want) (m : List Want) (e : ℕ) (a : Answer Want) (f : ℕ → Move Want) → Comes (λ m. EndsAt w) (Is (passes w)) (Unit {0}) a → Stands (w ∷ ws) → barred (w ∷ ws) ≡ true
    → ((y : ℕ) → f y ≡ Goes m e → barred ws ≡ true → Bars ws ⊎ (next_closes ws ≡ true)) → answered false a ws f ≡ Goes m e → Bars (w ∷ ws) ⊎ (next_closes (w ∷ ws) ≡ true)
walk_at w ws m e (Takes within more y) f c o b ih h = inr (ends_closes w ws c b)
walk_at w ws m e (Skips y) f c o b ih h = elim (barred_behind w ws c b) [
  | inl bars ↦ inl bars
  | inr x ↦ elim x [
    | inl closes ↦ inr closes
    | inr behind ↦ elim (ih y h behind) [
      | inl bars ↦ inl (λ at d. bar_passes w ws d at (it_is (passes w) c) (bars at))
      | inr closes ↦ never (next_firm ws) (loose_firm w ws (passes_loose w c) o.0) (closes_first ws closes)
    ]
  ]
]
walk_at w ws m e Refuses f c o b ih h = halts_not h
walk_at w ws m e LeavesOut f c o b ih h = halts_not h

-- Where `;` or `}` may stand, an expression ends there and `||` may, or a declaration, a block or an aspect does.
walk : (x : Bool) (ws : List Want) (d : ℕ) (at : Place) (m : List Want) (e : ℕ) → Stands ws → barred ws ≡ true
    → after false table ws d (sign (end_text x) at) ≡ Goes m e → Bars ws ⊎ (next_closes ws ≡ true)
walk x [] d at m e o b h = halts_not h
walk x (w ∷ ws) d at m e o b h =
    walk_at w ws m e (table w d (Some (sign (end_text x) at))) (λ y. after false table ws y (sign (end_text x) at)) (end_row x w d at) o b (λ y i k. walk x ws y at m e o.2 k i) h

-- `circular` is not refused there
circular_there : (ws : List Want) (d : ℕ) (t : PlacedToken) → next_closes ws ≡ true → is_word (codes "circular") t ≡ true → after true table ws d t ≡ Halts Refused → ⊥
circular_there [] d t n h k = off n
circular_there (Circular m ∷ us) d t n h k = circular_kept m us d t h k
circular_there (Decls g ∷ us) d t n h k = let b = both (is_word_kind t.kind) (bytes_eq t.text (codes "circular")) h in decls_kept g us d t b.0 k
circular_there (Close ∷ us) d t n h k = close_kept us d t k
circular_there (w ∷ us) d t n h k = off n

semicolon_closes : (m : Bool) (us : List Want) (d : ℕ) (at : Place) → TakesIt (Circular m ∷ Mark (codes ";") ∷ us) d (sign (codes "}") at) → ⊥
unfolding table
semicolon_closes m us d at (more, e, h) = halts_not h

circular_closes : (m : Bool) (us : List Want) (d : ℕ) (at : Place) → next_ends us ≡ true → TakesIt (Circular m ∷ us) d (sign (codes "}") at) → ⊥
unfolding table
circular_closes m [] d at h k = off h
circular_closes m (Mark text ∷ us) d at h k = semicolon_closes m us d at (subst (λ (s : List ℕ).
    TakesIt (Circular m ∷ Mark s ∷ us) d (sign (codes "}") at)) ((bytes_eq-Decides text (codes ";")).0 h) k)
circular_closes m (Ending ∷ us) d at h (more, e, k) = halts_not k
circular_closes m (w ∷ us) d at h k = off h

close_there : (ws : List Want) (d : ℕ) (at : Place) (t : PlacedToken) → Stands ws → next_closes ws ≡ true → TakesIt ws d (sign (codes "}") at) → (TakesIt ws d (word (codes "syn") first_place) → ⊥)
    → after true table ws d t ≡ Halts Refused → ⊥
close_there [] d at t o n h s k = off n
close_there (Circular m ∷ us) d at t o n h s k = circular_closes m us d at o.0 h
close_there (Decls g ∷ us) d at t o n h s k = s (decls_take g us d first_place)
close_there (Close ∷ us) d at t o n h s k = close_kept us d t k
close_there (w ∷ us) d at t o n h s k = off n

-- ---- the last tokens

snoc : {A : Type 0} (xs ys : List A) (x y : A) → xs ++ x ∷ [] ≡ ys ++ y ∷ [] → (xs ≡ ys) × (x ≡ y)
snoc [] [] x y e = (refl, cc)
snoc [] (b ∷ ys) x y e = absurd (let l : 1 ≡ suc (length (ys ++ y ∷ [])) = ap length e in omega (arith, l, length-append ys (y ∷ [])))
snoc (a ∷ xs) [] x y e = absurd (let l : suc (length (xs ++ x ∷ [])) ≡ 1 = ap length e in omega (arith, l, length-append xs (x ∷ [])))
snoc {A = A} (a ∷ xs) (b ∷ ys) x y e =
    let head : a ≡ b = cc in
    let tail : xs ++ x ∷ [] ≡ ys ++ y ∷ [] = cc in
    let r = snoc xs ys x y tail in
    ((λ i. head i ∷ r.0 i), r.1)

no_snoc : {A : Type 0} (ys : List A) (y : A) → [] ≡ ys ++ y ∷ [] → ⊥
no_snoc ys y e = let l : 0 ≡ length (ys ++ y ∷ []) = ap length e in omega (arith, l, length-append ys (y ∷ []))

-- the step over the last token
record IsStep (forms : Forms) (before : Row) (t : PlacedToken) (ws : List Want) (d : ℕ) : Type 0 where
  wants : List Want
  register : ℕ
  reached : Reached forms before wants register
  moves : after false table wants register t ≡ Goes ws d

last_step : {forms : Forms} (before : Row) (t : PlacedToken) (ws : List Want) (d : ℕ) → Reached forms (before ++ t ∷ []) ws d → IsStep forms before t ws d
last_step {forms} before t ws d r = elim (last_of (before ++ t ∷ []) ws d r) [
  | inl (e, f) ↦ absurd (no_snoc before t (sym e))
  | inr l ↦ stepped before t ws d l
]
  where
    stepped : (before : Row) (t : PlacedToken) (ws : List Want) (d : ℕ) → HasLast forms (before ++ t ∷ []) ws d → IsStep forms before t ws d
    stepped before t ws d l =
        let s = snoc before l.before t l.token l.front_is in
        record {
          wants = l.wants;
          register = l.register;
          reached = subst (λ (x : Row). Reached forms x l.wants l.register) (sym s.0) l.reached;
          moves = ap (λ (x : PlacedToken). after false table l.wants l.register x) s.1 ∙ move_of_both false l.wants l.register l.token ws d l.moves;
        }

-- ---- `nta`

lazy_after : (t : PlacedToken) (w : Want) (m : List Want) → is_word (codes "circular") t ≡ false
    → is_word (codes "aspect") t ≡ false → is_word (codes "eq") t ≡ false → is_word (codes "return") t ≡ false
    → TakesWord t w m → next_lazy m ≡ true
lazy_after t (File g) m c a q r h = never (is_word (codes "aspect") t) h a
lazy_after t (Decls g) m c a q r (inl h) = never (is_word (codes "eq") t) h q
lazy_after t (Decls g) m c a q r (inr (h, k)) = k
lazy_after t Lazy m c a q r (h, k) = k
lazy_after t (Circular x) m c a q r h = never (is_word (codes "circular") t) h c
lazy_after t Return m c a q r h = never (is_word (codes "return") t) h r
lazy_after t w m c a q r h = absurd h

lazy_front : (m us ws : List Want) → ws ≡ m ++ us → next_lazy m ≡ true → next_lazy ws ≡ true
lazy_front [] us ws e h = off h
lazy_front (Lazy ∷ m) us ws e h = ap next_lazy e
lazy_front (NotNta ∷ m) us ws e h = ap next_lazy e
lazy_front (w ∷ m) us ws e h = off h

lazy_stands : (t : PlacedToken) → IsKeyword t → is_word (codes "circular") t ≡ false
    → is_word (codes "aspect") t ≡ false → is_word (codes "eq") t ≡ false → is_word (codes "return") t ≡ false
    → (vs : List Want) (x : ℕ) (ws : List Want) (d : ℕ) → Stands vs
    → after false table vs x t ≡ Goes ws d → next_lazy ws ≡ true
lazy_stands t k c a q r vs x ws d o h = let y = word_taker t k vs x ws d o h in lazy_front y.left y.behind ws y.now (lazy_after t y.want y.left c a q r y.holds)

-- behind `syn`, `inh` or `lazy`
lazy_behind : (t : PlacedToken) (vs : List Want) (x : ℕ) (ws : List Want) (d : ℕ) → Stands vs → is_word (codes "syn") t || (is_word (codes "inh") t || is_word (codes "lazy") t) ≡ true
    → after false table vs x t ≡ Goes ws d → next_lazy ws ≡ true
lazy_behind t vs x ws d o h k =
    or_case (is_word (codes "syn") t) (is_word (codes "inh") t || is_word (codes "lazy") t)
    (λ y. let e = word_is (codes "syn") t y in lazy_stands t (syn_word t.at t e) (ap (is_word (codes "circular")) e)
    (ap (is_word (codes "aspect")) e) (ap (is_word (codes "eq")) e) (ap (is_word (codes "return")) e) vs x ws d o k)
    (λ y. or_case (is_word (codes "inh") t) (is_word (codes "lazy") t)
    (λ z. let e = word_is (codes "inh") t z in lazy_stands t (inh_word t.at t e) (ap (is_word (codes "circular")) e)
    (ap (is_word (codes "aspect")) e) (ap (is_word (codes "eq")) e) (ap (is_word (codes "return")) e) vs x ws d o k)
    (λ z. let e = word_is (codes "lazy") t z in
    lazy_stands t (lazy_word t.at t e) (ap (is_word (codes "circular")) e) (ap (is_word (codes "aspect")) e)
    (ap (is_word (codes "eq")) e) (ap (is_word (codes "return")) e) vs x ws d o k) y) h

-- ---- `[`

bracket_front : (w : Want) (m us ws : List Want) → ws ≡ m ++ us → follows w us ≡ true → TakesBracket w m → next_start ws ≡ true
bracket_front (Mark text) m us ws e f h = never (bytes_eq text (codes "[")) h (is_no (bytes_eq text (codes "[")) ((both (not (bytes_eq text (codes "["))) (next_second us) f).0))
  where
    is_no : (x : Bool) → not x ≡ true → x ≡ false
    is_no true k = absurd cc
    is_no false k = refl
bracket_front w m us ws e f h = ap next_start e ∙ starts m us h
  where
    starts : (m us : List Want) → next_start m ≡ true → next_start (m ++ us) ≡ true
    starts [] us h = off h
    starts (Start ∷ m) us h = refl
    starts (w ∷ m) us h = off h

-- behind it
bracket_stands : (at : Place) (vs : List Want) (x : ℕ) (ws : List Want) (d : ℕ) → Stands vs → after false table vs x (bracket at) ≡ Goes ws d → next_start ws ≡ true
bracket_stands at vs x ws d o h = let y = taker TakesBracket (bracket at) (λ w e. bracket_row w e at) vs x ws d o h in bracket_front y.want y.left y.behind ws y.now y.follows y.holds

-- ---- `getChild` and `(`

abbrev next_asks : List Want → Bool
next_asks [] = false
next_asks (w ∷ ws) = asks w

get_front : (w : Want) (m us ws : List Want) → ws ≡ m ++ us → follows w us ≡ true → Begins (λ v. Is (firm v || asks v)) (Is (loose w)) m → (next_firm ws ≡ true) ⊎ (next_asks ws ≡ true)
get_front w [] us ws e f h = inl (ap next_firm e ∙ loose_firm w us (it_is (loose w) h) f)
get_front w (v ∷ m) us ws e f h = or_case (firm v) (asks v) (λ x. inl (ap next_firm e ∙ x)) (λ x. inr (ap next_asks e ∙ x)) (it_is (firm v || asks v) h)

loosely : (T : List Want → Type 0) (w : Want) (a : Answer Want) → Comes T (Is (loose w)) (Unit {0}) a → Comes T (loose w ≡ true) (Unit {0}) a
loosely T w (Takes within more e) h = h
loosely T w (Skips e) h = it_is (loose w) h
loosely T w Refuses h = tt
loosely T w LeavesOut h = tt

-- behind a `getChild`
get_stands : (at : Place) (vs : List Want) (x : ℕ) (ws : List Want) (d : ℕ) → Stands vs
    → after false table vs x (word (codes "getChild") at) ≡ Goes ws d → (next_firm ws ≡ true) ⊎ (next_asks ws ≡ true)
get_stands at vs x ws d o h =
    let y = taker (λ w. Begins (λ v. Is (firm v || asks v)) (Is (loose w))) (word (codes "getChild") at)
    (λ w e. loosely (Begins (λ v. Is (firm v || asks v)) (Is (loose w))) w
    (table w e (Some (word (codes "getChild") at))) (get_row w e at)) vs x ws d o h in
    get_front y.want y.left y.behind ws y.now y.follows y.holds

asked_at : (us ws : List Want) (d : ℕ) (a : Answer Want) (f : ℕ → Move Want) → Comes (Begins (λ v. takes_int v ≡ true) ⊥) ⊥ (Unit {0}) a → answered false a us f ≡ Goes ws d → next_int ws ≡ true
asked_at us ws d (Takes true [] e) f c h = absurd c
asked_at us ws d (Takes false [] e) f c h = absurd c
asked_at us ws d (Takes true (v ∷ m) e) f c h = let s : v ∷ (m ++ us) ≡ ws = cc in ap next_int (sym s) ∙ c
asked_at us ws d (Takes false (v ∷ m) e) f c h = let s : v ∷ (m ++ us) ≡ ws = cc in ap next_int (sym s) ∙ c
asked_at us ws d (Skips e) f c h = absurd c
asked_at us ws d Refuses f c h = halts_not h
asked_at us ws d LeavesOut f c h = halts_not h

asked_stands : (at : Place) (vs : List Want) (x : ℕ) (ws : List Want) (d : ℕ) → next_asks vs ≡ true → after false table vs x (paren at) ≡ Goes ws d → next_int ws ≡ true
asked_stands at [] x ws d n h = off n
asked_stands at (w ∷ us) x ws d n h = asked_at us ws d (table w x (Some (paren at))) (λ e. after false table us e (paren at)) (paren_asked w x at n) h

-- and behind the `(` after it
int_stands : (at : Place) (vs : List Want) (x : ℕ) (ws : List Want) (d : ℕ) → Stands vs
    → (next_firm vs ≡ true) ⊎ (next_asks vs ≡ true) → after false table vs x (paren at) ≡ Goes ws d → next_int ws ≡ true
int_stands at vs x ws d o (inr n) h = asked_stands at vs x ws d n h
int_stands at vs x ws d o (inl n) h =
    let y = taker (λ w m. Is (not (firm w))) (paren at) (λ w e. loosely (λ m. Is (not (firm w))) w (table w e (Some (paren at))) (paren_row w e at)) vs x ws d o h in
    let f = is_not (firm y.want) y.holds in
    never (firm y.want) (ap next_firm (sym (y.first f)) ∙ n) f

get_child_kept : {forms : Forms} (more : Row) (name p t : PlacedToken) (ws : List Want) (d : ℕ) → Reached forms
    ((more ++ name ∷ []) ++ p ∷ []) ws d → is_word (codes "getChild") name ≡ true → is_sign (codes "(") p ≡ true
    → is_word (codes "int") t ≡ true → after true table ws d t ≡ Halts Refused → ⊥
get_child_kept more name p t ws d r n s i k =
    let one = last_step (more ++ name ∷ []) p ws d r in
    let two = last_step more name one.wants one.register one.reached in
    let named = get_stands name.at two.wants two.register one.wants one.register (reached_shape more two.wants two.register two.reached).1
    (ap (λ (x : PlacedToken). after false table two.wants two.register x) (sym (word_is (codes "getChild") name n)) ∙ two.moves) in
    let opened = int_stands p.at one.wants one.register ws d (reached_shape (more ++ name ∷ []) one.wants one.register one.reached).1 named
    (ap (λ (x : PlacedToken). after false table one.wants one.register x) (sym (sign_is (codes "(") p s)) ∙ one.moves) in
    int_kept ws d t opened i k

-- ---- each form

moved : {forms : Forms} (front other : Row) (ws : List Want) (d : ℕ) → front ≡ other → Reached forms front ws d → Reached forms other ws d
moved {forms} front other ws d e r = subst (λ (x : Row). Reached forms x ws d) e r

-- Where the table refuses the token, it begins no form that is left out.
pub none_left_out : {forms : Forms} (front : Row) (ws : List Want) (d : ℕ) (t : PlacedToken) → Reached forms front ws d → after true table ws d t ≡ Halts Refused → IsLeftOut forms front t → ⊥
none_left_out front ws d t r k (no_aspect h (at, g)) =
    let x = takes_first WantsFile (word (codes "aspect") at) (aspect_word at) (λ w e. ap firm e.1) (at_aspect at) ws d
    (reached_shape front ws d r).1 (goes_taken front ws d (word (codes "aspect") at) r g) in
    file_kept x.holds.0 x.behind d t h (ap (λ (vs : List Want). after true table vs d t) (sym (x.is ∙ ap (λ w. w ∷ x.behind) x.holds.1)) ∙ k)
none_left_out front ws d t r k (no_declaration h (at, g)) =
    let x = takes_first WantsDecls (word (codes "syn") at) (syn_word at (word (codes "syn") at) refl) (λ w e. ap firm
    e.1) (at_syn at) ws d (reached_shape front ws d r).1 (goes_taken front ws d (word (codes "syn") at) r g) in
    decls_kept x.holds.0 x.behind d t h (ap (λ (vs : List Want). after true table vs d t) (sym (x.is ∙ ap (λ w. w ∷ x.behind) x.holds.1)) ∙ k)
none_left_out front ws d t r k (nta more before e b h) =
    let s = last_step more before ws d (moved front (more ++ before ∷ []) ws d e r) in
    nta_kept ws d t (lazy_behind before s.wants s.register ws d (reached_shape more s.wants s.register s.reached).1 b s.moves) h k
none_left_out front ws d t r k (circular h (at, g) n) =
    let o = reached_shape front ws d r in
    let x = goes_taken front ws d (sign (codes ";") at) r g in
    elim (walk true ws d at x.0 x.1 o.1 o.0 x.2) [
      | inl bars ↦ n (first_place, taken_goes front ws d (bar first_place) r (bars first_place d))
      | inr closes ↦ circular_there ws d t closes h k
    ]
none_left_out front ws d t r k (start more before e b h) =
    let s = last_step more before ws d (moved front (more ++ before ∷ []) ws d e r) in
    let stands = bracket_stands before.at s.wants s.register ws d (reached_shape more s.wants s.register s.reached).1
    (ap (λ (x : PlacedToken). after false table s.wants s.register x) (sym (sign_is (codes "[") before b)) ∙ s.moves) in
    start_kept ws d t stands h k
none_left_out front ws d t r k (no_return (at, g)) =
    let x = takes_first (λ w. w ≡ Return) (word (codes "return") at) (return_word at) (λ w e. ap firm e) (at_return at)
    ws d (reached_shape front ws d r).1 (goes_taken front ws d (word (codes "return") at) r g) in
    return_kept x.behind d t (ap (λ (vs : List Want). after true table vs d t) (sym (x.is ∙ ap (λ w. w ∷ x.behind) x.holds)) ∙ k)
none_left_out front ws d t r k (no_close (at, g) n m) =
    let o = reached_shape front ws d r in
    let x = goes_taken front ws d (sign (codes "}") at) r g in
    elim (walk false ws d at x.0 x.1 o.1 o.0 x.2) [
      | inl bars ↦ n (first_place, taken_goes front ws d (bar first_place) r (bars first_place d))
      | inr closes ↦ close_there ws d at t o.1 closes x (λ y. m (first_place, taken_goes front ws d (word (codes "syn") first_place) r y)) k
    ]
none_left_out front ws d t r k (get_child more name p e n s i) =
    get_child_kept more name p t ws d (moved front ((more ++ name ∷ []) ++ p ∷ []) ws d (e ∙ sym (append_assoc more (name ∷ []) (p ∷ []))) r) n s i k
