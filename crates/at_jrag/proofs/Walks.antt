-- Down the stack of wants, at a token: which of them it is that takes it, or leaves a form out there.
use Rattle.std.proofs.Common.{◌≡◌, ℕ, List, [], ◌∷◌, ◌++◌, Bool, true, false, cond, Some, refl, sym, ap, subst, ◌∙◌}
use Rattle.std.specs.Prelude.{◌||◌, not}
use Rattle.std.specs.Str.{bytes_eq}
use Rattle.std.proofs.lemmas.Slice.Eq.{bytes_eq-Decides}
use lib.Chars.{codes}
use Rattle.at_text.specs.Symbols.{PlacedToken}
use Rattle.at_text.specs.Machine.{Answer, Takes, Skips, Refuses, LeavesOut, Move, Goes, Halts, Reason, Refused, LeftOut, TooDeep, answered, after}
use Rattle.at_jrag.specs.Wants.{Want, FirstArgument, Mark, File, Decls, Lazy, NotNta, Attribute, Params, Circular, Start, Ending, Return, Close}
use Rattle.at_jrag.specs.Table.{table}
use Rattle.at_model.proofs.Options.{both}
use Rattle.at_jrag.proofs.Shapes.{loose, firm, second, next_firm, next_second, next_ends, follows, Stands}
use Rattle.at_jrag.proofs.Pushes.{Comes, Begins, Leaves, LeavesIt, row_does}

-- ---- what stands behind

pub never : {A : Type 0} (x : Bool) → x ≡ true → x ≡ false → A
never x h k = absurd (let q : true ≡ false = sym h ∙ k in cc)

-- by terms, where a tactic would compute all that stands beside them
pub off : {A : Type 0} → false ≡ true → A
off h = absurd cc

pub goes_not : {A : Type 0} {m : List Want} {e : ℕ} {r : Reason} → Goes m e ≡ Halts r → A
goes_not h = absurd cc

pub halts_not : {A : Type 0} {m : List Want} {e : ℕ} {r : Reason} → Halts r ≡ Goes m e → A
halts_not h = absurd cc

abbrev pub halts_at : Reason → Move Want
halts_at r = Halts r

pub left_not : {A : Type 0} → halts_at LeftOut ≡ halts_at Refused → A
left_not h = absurd cc

ends_firm : (us : List Want) → next_ends us ≡ true → next_firm us ≡ true
ends_firm [] h = refl
ends_firm (Mark text ∷ us) h = let x : text ≡ codes ";" = (bytes_eq-Decides text (codes ";")).0 h in ap (λ (s : List ℕ). not (bytes_eq s (codes "("))) x
ends_firm (Ending ∷ us) h = refl
ends_firm (w ∷ us) h = absurd cc

of_both : (x y z : Bool) → x ≡ true → cond x y z ≡ true → y ≡ true
of_both true y z h k = k
of_both false y z h k = absurd cc

-- behind what is loose stands what is firm
pub loose_firm : (w : Want) (us : List Want) → loose w ≡ true → follows w us ≡ true → next_firm us ≡ true
loose_firm (Attribute forms) us l f = ends_firm us f
loose_firm (Circular m) us l f = ends_firm us f
loose_firm (Mark text) us l f = off l
loose_firm w us l f = of_both (loose w) (next_firm us) (next_second us) l f

firm_second : (us : List Want) → next_firm us ≡ true → next_second us ≡ true
firm_second [] h = refl
firm_second (Mark text ∷ us) h = refl
firm_second (w ∷ us) h = cc

either_second : (x : Bool) (us : List Want) → cond x (next_firm us) (next_second us) ≡ true → next_second us ≡ true
either_second true us h = firm_second us h
either_second false us h = h

follows_second : (w : Want) (us : List Want) → follows w us ≡ true → next_second us ≡ true
follows_second (Attribute forms) us f = firm_second us (ends_firm us f)
follows_second (Circular m) us f = firm_second us (ends_firm us f)
follows_second (Mark text) us f = (both (not (bytes_eq text (codes "["))) (next_second us) f).1
follows_second w us f = either_second (loose w) us f

-- ---- the want that took the last token

-- the token was taken by this want, and what stands first now was wanted then
pub record IsPushed (vs : List Want) (t : PlacedToken) (h : Want) : Type 0 where
  pub by : Want
  pub leaves : Leaves by t h
  pub first : firm by ≡ false → (us : List Want) × (vs ≡ by ∷ us)

goes_to : (b : Bool) (ws vs : List Want) (e d : ℕ) → cond b (Goes ws e) (Halts TooDeep) ≡ Goes vs d → ws ≡ vs
goes_to true ws vs e d h = cc
goes_to false ws vs e d h = absurd cc

pushed_at : (l : Bool) (w : Want) (us : List Want) (t : PlacedToken) (h : Want) (hs : List Want) (d : ℕ) (a : Answer Want) (f : ℕ → Move Want)
    → Comes (Begins (Leaves w t) (Unit {0})) (loose w ≡ true) (LeavesIt w t) a → follows w us ≡ true → second h ≡ false → ((e : ℕ) → f e ≡ Goes (h ∷ hs) d → IsPushed us t h)
    → answered l a us f ≡ Goes (h ∷ hs) d → IsPushed (w ∷ us) t h
pushed_at l w us t h hs d (Takes within [] e) f c o s ih k =
    let same : us ≡ h ∷ hs = goes_to (within || not l) us (h ∷ hs) e d k in
    never (second h) (ap next_second (sym same) ∙ follows_second w us o) s
pushed_at l w us t h hs d (Takes within (v ∷ vs) e) f c o s ih k =
    let same : v ∷ (vs ++ us) ≡ h ∷ hs = goes_to (within || not l) (v ∷ (vs ++ us)) (h ∷ hs) e d k in
    let first : v ≡ h = cc in
    record { by = w; leaves = subst (Leaves w t) first c; first = λ x. (us, refl) }
pushed_at l w us t h hs d (Skips e) f c o s ih k =
    let r = ih e k in
    record { by = r.by; leaves = r.leaves; first = λ x. let y = r.first x in never (firm r.by) (ap next_firm (sym y.1) ∙ loose_firm w us c o) x }
pushed_at l w us t h hs d Refuses f c o s ih k = absurd cc
pushed_at l w us t h hs d LeavesOut f c o s ih k = absurd cc

-- What stands first after a step, and never stands second, was put there with the token.
pub pushed : (l : Bool) (vs : List Want) (x : ℕ) (t : PlacedToken) (h : Want) (hs : List Want) (d : ℕ) → Stands vs → second h ≡ false → after l table vs x t ≡ Goes (h ∷ hs) d → IsPushed vs t h
pushed l [] x t h hs d o s k = absurd cc
pushed l (w ∷ us) x t h hs d o s k =
    pushed_at l w us t h hs d (table w x (Some t)) (λ e. after l table us e t) (row_does w x t) o.0 s (λ e i. pushed l us e t h hs d o.2 s i) k

-- ---- where a form is left out

-- the want that leaves it out stands first
pub record IsFirst (H : Want → Type 0) (ws : List Want) : Type 0 where
  pub want : Want
  pub holds : H want
  pub behind : List Want
  pub is : ws ≡ want ∷ behind

leaves_first : (w : Want) (t : PlacedToken) → LeavesIt w t → firm w ≡ false
leaves_first (File forms) t h = refl
leaves_first (Decls forms) t h = refl
leaves_first Lazy t h = refl
leaves_first NotNta t h = refl
leaves_first (Circular m) t h = refl
leaves_first Start t h = refl
leaves_first Return t h = refl
leaves_first Close t h = refl
leaves_first (Params g) t h = refl
leaves_first (FirstArgument g b) t h = refl
leaves_first w t h = absurd h

no_limit : (b : Bool) (ws : List Want) (e : ℕ) → cond b (Goes ws e) (Halts TooDeep) ≡ Halts LeftOut → ⊥
no_limit true ws e h = absurd cc
no_limit false ws e h = absurd cc

left_at : (w : Want) (us : List Want) (t : PlacedToken) (a : Answer Want) (f : ℕ → Move Want) → Comes (Begins (Leaves w t) (Unit {0})) (loose w ≡ true) (LeavesIt w t) a → follows w us ≡ true
    → ((e : ℕ) → f e ≡ Halts LeftOut → IsFirst (λ v. LeavesIt v t) us) → answered true a us f ≡ Halts LeftOut → IsFirst (λ v. LeavesIt v t) (w ∷ us)
left_at w us t (Takes within more e) f c o ih k = absurd (no_limit (within || not true) (more ++ us) e k)
left_at w us t (Skips e) f c o ih k = let r = ih e k in never (firm r.want) (ap next_firm (sym r.is) ∙ loose_firm w us c o) (leaves_first r.want t r.holds)
left_at w us t Refuses f c o ih k = absurd cc
left_at w us t LeavesOut f c o ih k = record { want = w; holds = c; behind = us; is = refl }

pub left_first : (ws : List Want) (d : ℕ) (t : PlacedToken) → Stands ws → after true table ws d t ≡ Halts LeftOut → IsFirst (λ v. LeavesIt v t) ws
left_first [] d t o k = absurd cc
left_first (w ∷ us) d t o k = left_at w us t (table w d (Some t)) (λ e. after true table us e t) (row_does w d t) o.0 (λ e i. left_first us e t o.2 i) k

-- ---- where a token is taken

-- a want that takes the token with what is wanted then
pub record IsTaker (T : Want → List Want → Type 0) (ws more : List Want) : Type 0 where
  pub want : Want
  pub left : List Want
  pub holds : T want left
  pub behind : List Want
  pub now : more ≡ left ++ behind
  pub follows : follows want behind ≡ true
  pub first : firm want ≡ false → ws ≡ want ∷ behind

taker_at : (T : Want → List Want → Type 0) (w : Want) (us : List Want) (m : List Want) (d : ℕ) (a : Answer Want) (f : ℕ → Move Want) → Comes (T w) (loose w ≡ true) (Unit {0}) a → follows w us ≡ true
    → ((e : ℕ) → f e ≡ Goes m d → IsTaker T us m) → answered false a us f ≡ Goes m d → IsTaker T (w ∷ us) m
taker_at T w us m d (Takes within more e) f c o ih k =
    record { want = w; left = more; holds = c; behind = us; now = sym (goes_to (within || not false) (more ++ us) m e d k); follows = o; first = λ x. refl }
taker_at T w us m d (Skips e) f c o ih k =
    let r = ih e k in
    record {
      want = r.want;
      left = r.left;
      holds = r.holds;
      behind = r.behind;
      now = r.now;
      follows = r.follows;
      first = λ x. never (firm r.want) (ap next_firm (sym (r.first x)) ∙ loose_firm w us c o) x;
    }
taker_at T w us m d Refuses f c o ih k = absurd cc
taker_at T w us m d LeavesOut f c o ih k = absurd cc

-- The want that takes the token, of which each row of the table says so much.
pub taker : (T : Want → List Want → Type 0) (t : PlacedToken) → ((w : Want) (d : ℕ) → Comes (T w) (loose w ≡ true) (Unit {0}) (table w d (Some t)))
    → (ws : List Want) (d : ℕ) (m : List Want) (e : ℕ) → Stands ws → after false table ws d t ≡ Goes m e → IsTaker T ws m
taker T t rows [] d m e o k = absurd cc
taker T t rows (w ∷ us) d m e o k = taker_at T w us m e (table w d (Some t)) (λ x. after false table us x t) (rows w d) o.0 (λ x i. taker T t rows us x m e o.2 i) k
