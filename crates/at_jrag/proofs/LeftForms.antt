-- Where the table leaves a form out, one of the forms begins that the grammar's words name.
use Rattle.std.proofs.Common.{◌≡◌, ℕ, List, [], ◌∷◌, ◌++◌, Bool, true, false, Some, refl, sym, ap, subst, ◌∙◌, append_assoc, inl, inr}
use Rattle.std.specs.Prelude.{◌&&◌, ◌||◌, ◌⊎◌}
use Rattle.std.specs.Str.{bytes_eq}
use Rattle.std.proofs.lemmas.Slice.Eq.{bytes_eq-Decides}
use lib.Chars.{codes}
use Rattle.at_text.specs.Symbols.{PlacedToken, is_word_kind}
use Rattle.at_text.specs.declared.place.Place.{Place}
use Rattle.at_text.specs.Place.{first_place}
use Rattle.at_text.specs.Rows.{Row, sign, word, is_sign, is_word}
use Rattle.at_text.specs.Machine.{Goes, Halts, LeftOut, after}
use Rattle.at_jrag.specs.declared.Forms.{Forms}
use Rattle.at_jrag.specs.Wants.{Want, Enclosed, Arguments, FirstArgument, Named, Name, Mark, File, Decls, Lazy, NotNta, Opening, Params, Circular, Start, Ending, Return, Close}
use Rattle.at_jrag.specs.Grammar.{begins_other}
use Rattle.at_jrag.specs.Table.{table, is_get_child, declared}
use Rattle.at_jrag.specs.Forms.{IsLeftOut, no_aspect, no_declaration, nta, circular, start as other_start, no_return, no_close, get_child}
use Rattle.at_jrag.proofs.Reached.{Reached, start, step, TakesIt, goes_taken, taken_goes}
use Rattle.at_jrag.proofs.Shapes.{firm, second, next_ends, Stands, reached_shape}
use Rattle.at_jrag.proofs.Pushes.{Leaves, LeavesIt, asked}
use Rattle.at_jrag.proofs.Walks.{never, off, halts_not, left_first, pushed}
use Rattle.at_jrag.proofs.SignRows.{bar}

-- ---- the last token of a front

pub record HasLast (forms : Forms) (front : Row) (ws : List Want) (d : ℕ) : Type 0 where
  pub before : Row
  pub token : PlacedToken
  pub wants : List Want
  pub register : ℕ
  pub reached : Reached forms before wants register
  pub front_is : front ≡ before ++ token ∷ []
  pub moves : after true table wants register token ≡ Goes ws d

pub last_of : {forms : Forms} (front : Row) (ws : List Want) (d : ℕ) → Reached forms front ws d → ((front ≡ []) × (ws ≡ File forms ∷ [])) ⊎ HasLast forms front ws d
last_of _ _ _ start = inl (refl, refl)
last_of _ _ _ (step before t vs ws x d h a) = inr (record { before = before; token = t; wants = vs; register = x; reached = h; front_is = refl; moves = a })

-- where this is wanted first
pub has_last : {forms : Forms} (front : Row) (w : Want) (us : List Want) (d : ℕ) → Reached forms front (w ∷ us) d → ((f : Forms) → w ≡ File f → ⊥) → HasLast forms front (w ∷ us) d
has_last {forms} front w us d h never = elim (last_of front (w ∷ us) d h) [
  | inl (e, f) ↦ absurd (never forms (first_is w us f))
  | inr l ↦ l
]
  where
    first_is : (w : Want) (us : List Want) → w ∷ us ≡ File forms ∷ [] → w ≡ File forms
    first_is w us f = cc

abbrev is_file : Want → Bool
is_file (File forms) = true
is_file w = false

other : (w : Want) → is_file w ≡ false → (f : Forms) → w ≡ File f → ⊥
other w n f e = never (is_file w) (ap is_file e) n

-- ---- what is taken

pub file_takes : (forms : Forms) (us : List Want) (d : ℕ) (at : Place) → TakesIt (File forms ∷ us) d (word (codes "aspect") at)
unfolding table
file_takes forms us d at = (Name ∷ Mark (codes "{") ∷ Decls forms ∷ File forms ∷ us, 0, refl)

pub decls_take : (forms : Forms) (us : List Want) (d : ℕ) (at : Place) → TakesIt (Decls forms ∷ us) d (word (codes "syn") at)
unfolding table
decls_take forms us d at = (declared forms (Ending ∷ Decls forms ∷ []) ++ us, 0, refl)

return_takes : (us : List Want) (d : ℕ) (at : Place) → TakesIt (Return ∷ us) d (word (codes "return") at)
unfolding table
return_takes us d at = (us, 0, refl)

close_takes : (us : List Want) (d : ℕ) (at : Place) → TakesIt (Close ∷ us) d (sign (codes "}") at)
unfolding table
close_takes us d at = (us, 0, refl)

close_bars : (us : List Want) (d : ℕ) (at : Place) → TakesIt (Close ∷ us) d (bar at) → ⊥
unfolding table
close_bars us d at (more, e, h) = halts_not h

close_ends : (us : List Want) (d : ℕ) (at : Place) → TakesIt (Close ∷ us) d (word (codes "syn") at) → ⊥
unfolding table
close_ends us d at (more, e, h) = halts_not h

semicolon_of : (text : List ℕ) → bytes_eq text (codes ";") ≡ true → text ≡ codes ";"
semicolon_of text h = (bytes_eq-Decides text (codes ";")).0 h

-- behind the parameters of a declared attribute stands `;`, and no `||`
circular_takes : (m : Bool) (us : List Want) (d : ℕ) (at : Place) → next_ends us ≡ true → TakesIt (Circular m ∷ us) d (sign (codes ";") at)
unfolding table
circular_takes m [] d at h = off h
circular_takes m (Mark text ∷ us) d at h = subst (λ (s : List ℕ). TakesIt (Circular m ∷ Mark s ∷ us) d (sign (codes ";") at)) (sym (semicolon_of text h)) (us, 0, refl)
circular_takes m (Ending ∷ us) d at h = (us, 0, refl)
circular_takes m (w ∷ us) d at h = off h

semicolon_bars : (m : Bool) (us : List Want) (d : ℕ) (at : Place) → TakesIt (Circular m ∷ Mark (codes ";") ∷ us) d (bar at) → ⊥
unfolding table
semicolon_bars m us d at (more, e, h) = halts_not h

circular_bars : (m : Bool) (us : List Want) (d : ℕ) (at : Place) → next_ends us ≡ true → TakesIt (Circular m ∷ us) d (bar at) → ⊥
unfolding table
circular_bars m [] d at h k = off h
circular_bars m (Mark text ∷ us) d at h k = semicolon_bars m us d at (subst (λ (s : List ℕ). TakesIt (Circular m ∷ Mark s ∷ us) d (bar at)) (semicolon_of text h) k)
circular_bars m (Ending ∷ us) d at h (more, e, k) = halts_not k
circular_bars m (w ∷ us) d at h k = off h

-- ---- `int` behind `getChild` and `(`

pub both_hold : (x y : Bool) → x ≡ true → y ≡ true → x && y ≡ true
both_hold true y h k = k
both_hold false y h k = absurd cc

-- the want of the `(` is first alone, and the token before it is `getChild`
record IsAsked (w : Want) : Type 0 where
  first : firm w ≡ false
  second_not : second w ≡ false
  named : (by : Want) (t : PlacedToken) → Leaves by t w → is_word (codes "getChild") t ≡ true
  no_file : (f : Forms) → w ≡ File f → ⊥

asked_is : (w : Want) → asked w ≡ Some true → IsAsked w
asked_is (Arguments g b) h =
    let e : g ≡ true = cc in
    record { first = refl; second_not = refl; named = λ by t n. both_hold (is_word_kind t.kind) (is_get_child t) n.0 (sym n.1 ∙ e); no_file = λ f e. absurd cc }
asked_is (Named g b) h =
    let e : g ≡ true = cc in
    record { first = refl; second_not = refl; named = λ by t n. both_hold (is_word_kind t.kind) (is_get_child t) n.0 (sym n.1 ∙ e); no_file = λ f e. absurd cc }
asked_is (Enclosed g b) h =
    let e : g ≡ true = cc in
    record { first = refl; second_not = refl; named = λ by t n. both_hold (is_word_kind t.kind) (is_get_child t) n.0 (sym n.1 ∙ e); no_file = λ f e. absurd cc }
asked_is (Opening g) h =
    let e : g ≡ true = cc in
    record { first = refl; second_not = refl; named = λ by t n. both_hold (is_word_kind t.kind) (is_get_child t) n.0 (sym n.1 ∙ e); no_file = λ f e. absurd cc }
asked_is w h = absurd cc

two_last : (front before more : Row) (name paren : PlacedToken) → front ≡ before ++ paren ∷ [] → before ≡ more ++ name ∷ [] → front ≡ more ++ name ∷ paren ∷ []
two_last front before more name paren e f = e ∙ ap (λ (x : Row). x ++ paren ∷ []) f ∙ append_assoc more (name ∷ []) (paren ∷ [])

got_child : {forms : Forms} (front : Row) (w : Want) (us : List Want) (d : ℕ) (t : PlacedToken) → Reached forms front (w ∷ us) d → ((f : Forms) → w ≡ File f → ⊥) → second w ≡ false
    → ((by : Want) (p : PlacedToken) → Leaves by p w → (is_sign (codes "(") p ≡ true) × (asked by ≡ Some true)) → is_word (codes "int") t ≡ true → IsLeftOut forms front t
got_child {forms} front w us d t r never s opens int =
    let l = has_last front w us d r never in
    let p = pushed true l.wants l.register l.token w us d (reached_shape l.before l.wants l.register l.reached).1 s l.moves in
    let o = opens p.by l.token p.leaves in
    let a = asked_is p.by o.1 in
    let f = p.first a.first in
    let r2 : Reached forms l.before (p.by ∷ f.0) l.register = subst (λ (vs : List Want). Reached forms l.before vs l.register) f.1 l.reached in
    let m = has_last l.before p.by f.0 l.register r2 a.no_file in
    let q = pushed true m.wants m.register m.token p.by f.0 l.register (reached_shape m.before m.wants m.register m.reached).1 a.second_not m.moves in
    get_child m.before m.token l.token (two_last front l.before m.before m.token l.token l.front_is m.front_is) (a.named q.by m.token q.leaves) o.0 int

-- ---- each form

start_left : {forms : Forms} (front : Row) (us : List Want) (d : ℕ) (t : PlacedToken) → Reached forms front (Start ∷ us) d → begins_other t ≡ true → IsLeftOut forms front t
start_left front us d t r h =
    let l = has_last front Start us d r (other Start refl) in
    let p = pushed true l.wants l.register l.token Start us d (reached_shape l.before l.wants l.register l.reached).1 refl l.moves in
    other_start l.before l.token l.front_is p.leaves h

nta_left : {forms : Forms} (front : Row) (w : Want) (us : List Want) (d : ℕ) (t : PlacedToken) → Reached forms front (w ∷ us) d → ((f : Forms) → w ≡ File f → ⊥) → second w ≡ false
    → ((by : Want) (p : PlacedToken) → Leaves by p w → is_word (codes "syn") p || (is_word (codes "inh") p
    || is_word (codes "lazy") p) ≡ true) → is_word (codes "nta") t ≡ true → IsLeftOut forms front t
nta_left front w us d t r never s before h =
    let l = has_last front w us d r never in
    let p = pushed true l.wants l.register l.token w us d (reached_shape l.before l.wants l.register l.reached).1 s l.moves in
    nta l.before l.token l.front_is (before p.by l.token p.leaves) h

left_by : {forms : Forms} (front : Row) (w : Want) (us : List Want) (d : ℕ) (t : PlacedToken) → Reached forms front (w ∷ us) d → Stands (w ∷ us) → LeavesIt w t → IsLeftOut forms front t
left_by front (File g) us d t r o h = no_aspect h (first_place, taken_goes front (File g ∷ us) d (word (codes "aspect") first_place) r (file_takes g us d first_place))
left_by front (Decls g) us d t r o h = no_declaration h (first_place, taken_goes front (Decls g ∷ us) d (word (codes "syn") first_place) r (decls_take g us d first_place))
left_by front Lazy us d t r o h = nta_left front Lazy us d t r (other Lazy refl) refl (λ by p k. k) h
left_by front NotNta us d t r o h = nta_left front NotNta us d t r (other NotNta refl) refl (λ by p k. k) h
left_by front Start us d t r o h = start_left front us d t r h
left_by front (Circular m) us d t r o h =
    circular h (first_place, taken_goes front (Circular m ∷ us) d (sign (codes ";") first_place) r (circular_takes m us d first_place o.0))
    (λ g. circular_bars m us d g.0 o.0 (goes_taken front (Circular m ∷ us) d (bar g.0) r g.1))
left_by front Return us d t r o h = no_return (first_place, taken_goes front (Return ∷ us) d (word (codes "return") first_place) r (return_takes us d first_place))
left_by front Close us d t r o h =
    no_close (first_place, taken_goes front (Close ∷ us) d (sign (codes "}") first_place) r (close_takes us d first_place))
    (λ g. close_bars us d g.0 (goes_taken front (Close ∷ us) d (bar g.0) r g.1)) (λ g. close_ends us d g.0 (goes_taken front (Close ∷ us) d (word (codes "syn") g.0) r g.1))
left_by front (Params g) us d t r o h = got_child front (Params g) us d t r (other (Params g) refl) refl (λ by p k. (k.0, k.1 ∙ ap Some h.0)) h.1
left_by front (FirstArgument g b) us d t r o h = got_child front (FirstArgument g b) us d t r (other (FirstArgument g b) refl) refl (λ by p k. (k.0, k.1 ∙ ap Some h.0)) h.1
left_by front w us d t r o h = absurd h

-- Where the table leaves a form out, the token begins one.
pub is_left_out : {forms : Forms} (front : Row) (ws : List Want) (d : ℕ) (t : PlacedToken) → Reached forms front ws d → after true table ws d t ≡ Halts LeftOut → IsLeftOut forms front t
is_left_out {forms} front ws d t r h =
    let f = left_first ws d t (reached_shape front ws d r).1 h in
    let s : Reached forms front (f.want ∷ f.behind) d = subst (λ (vs : List Want). Reached forms front vs d) f.is r in
    left_by front f.want f.behind d t s (reached_shape front (f.want ∷ f.behind) d s).1 f.holds
