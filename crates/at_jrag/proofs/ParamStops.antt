-- Where reading kinds and parameters stops.
use Rattle.std.proofs.Common.{◌≡◌, ℕ, List, [], ◌∷◌, ◌++◌, Bool, true, false, Option, Some, None, refl, sym, ap, ◌∙◌, inl, inr}
use Rattle.std.specs.Prelude.{◌&&◌, ◌||◌, ◌⊎◌}
use Rattle.std.specs.Str.{bytes_eq}
use lib.Chars.{codes}
use Rattle.at_text.specs.Reading.{first}
use Rattle.at_text.specs.declared.token.TokenKind.{TokenKind}
use Rattle.at_text.specs.declared.token.TokenKind.TheVariants as kind
use Rattle.at_text.specs.Symbols.{PlacedToken, is_word_kind, is_sign_kind}
use Rattle.at_text.specs.declared.place.Place.{Place}
use Rattle.at_jrag.specs.Syntax as syntax
use Rattle.at_jrag.specs.Syntax.{Word, Param, KindWord}
use Rattle.at_jrag.specs.Grammar as grammar
use Rattle.at_text.specs.Rows.{Row, sign, word, is_sign, is_word, is_name_token, next_is}
use Rattle.at_jrag.specs.Grammar.{kind_text, Sign, KindOf, ParamOf, Opens}
use Rattle.at_jrag.specs.Heads.{is_int}
use Rattle.at_text.specs.Machine.{Reason, LeftOut, Answer, Takes, Refuses, LeavesOut, run}
use Rattle.at_jrag.specs.Wants as want
use Rattle.at_jrag.specs.Wants.{Want}
use Rattle.at_jrag.specs.Table.{table, next, on, is_kind, is_get_child, more_params_answer}
use Rattle.at_jrag.specs.Runs.{Stay, Missing, NotOpened, NoParam, reason_of}
use Rattle.at_text.specs.declared.fault.Failure.{Failure}
use Rattle.at_text.specs.declared.fault.Failure.TheVariants as failure
use Rattle.at_jrag.specs.declared.JragCode.{JragCode}
use Rattle.at_jrag.specs.declared.JragCode.TheVariants as code
use Rattle.at_text.proofs.MachineLaws.{run-takes}
use Rattle.at_jrag.proofs.DeclarationRuns.{Comes, next_same, kind_cases, int_row, kind_row, kind_pass, name_pass, stay_then, stay_first, stay_takes, stay_refuses, stay_leaves_out, missing_stays, name_missing}
use Rattle.at_model.proofs.Options.{and_off}

-- ---- one want after another

pub comes_stay : (us vs : List Want) (r : Option Reason) (old mid rest : Row) → Comes true us vs old mid → Stay vs r mid rest → Stay us r old rest
comes_stay us vs None old mid rest c s d = tt
comes_stay us vs (Some r) old mid rest c s d = λ ws. let a = c ws d in a.1 ∙ s a.0 ws

pub comes_then : (us vs ts : List Want) (old mid rest : Row) → Comes true us vs old mid → Comes true vs ts mid rest → Comes true us ts old rest
comes_then us vs ts old mid rest p q ws d = let a = p ws d in let b = q ws a.0 in (b.0, a.1 ∙ b.1)

pub takes_comes : (w : Want) (us : List Want) (t : PlacedToken) (old mid : Row) → old ≡ t ∷ mid → ((d : ℕ) → (e : ℕ) × (table w d (Some t) ≡ Takes true us e)) → Comes true (w ∷ []) us old mid
takes_comes w us t old mid front row ws d =
    let r = row d in
    (r.0, ap (run true table (w ∷ ws) d) front ∙ run-takes true table w true us ws d r.0 t mid r.1 (λ h. refl))

-- ---- single tokens

and_right : (a b : Bool) → a && b ≡ true → b ≡ true
and_right true b h = h
and_right false b h = absurd cc

or_first : (a b c d : Bool) → a || b || c || d ≡ false → a ≡ false
or_first true b c d h = absurd cc
or_first false b c d h = refl

kinds_apart : (k : TokenKind) (a b : Bool) → is_word_kind k && a ≡ true → is_sign_kind k && b ≡ false
kinds_apart kind.Word a b h = refl
kinds_apart kind.Number a b h = refl
kinds_apart kind.Text a b h = refl
kinds_apart kind.Sign a b h = absurd cc

-- a word is no sign
pub word_no_sign : (text other : List ℕ) (t : PlacedToken) → is_word text t ≡ true → is_sign other t ≡ false
word_no_sign text other t h = kinds_apart t.kind (bytes_eq t.text text) (bytes_eq t.text other) h

kind_refused : (d : ℕ) (s : Option PlacedToken) → next is_kind s ≡ false → table want.Kind d s ≡ Refuses
unfolding table
kind_refused d s e = ap (λ b. on b (Takes true [] 0) Refuses) e

pub kind_missing : (e : Failure JragCode) (old rest : Row) → Missing is_kind e old rest → Stay (want.Kind ∷ []) (reason_of e) old rest
kind_missing e old rest m = missing_stays want.Kind is_kind e old rest kind_refused m

signed_refused : (d : ℕ) (s : Option PlacedToken) → next is_name_token s ≡ false → table want.Signed d s ≡ Refuses
unfolding table
signed_refused d None e = refl
signed_refused d (Some t) e = ap (λ b. on b (Takes true (want.Opening (is_get_child t) ∷ []) 0) Refuses) e

pub signed_missing : (e : Failure JragCode) (old rest : Row) → Missing is_name_token e old rest → Stay (want.Signed ∷ []) (reason_of e) old rest
signed_missing e old rest m = missing_stays want.Signed is_name_token e old rest signed_refused m

-- ---- "(" behind a name

opening_refused : (g : Bool) (d : ℕ) (s : Option PlacedToken) → next (is_sign (codes "(")) s ≡ false → table (want.Opening g) d s ≡ Refuses
unfolding table
opening_refused g d s e = ap (λ b. on b (Takes true (want.Params g ∷ []) 0) Refuses) e

opening_row : (g : Bool) (at : Place) (d : ℕ) → table (want.Opening g) d (Some (sign (codes "(") at)) ≡ Takes true (want.Params g ∷ []) 0
unfolding table
opening_row g at d = refl

second_row : (a b : Bool) (x y z : Answer Want) → a ≡ false → b ≡ true → on a x (on b y z) ≡ y
second_row a b x y z ea eb = ap (λ v. on v x (on b y z)) ea ∙ ap (λ v. on v y z) eb

params_left_out : (g : Bool) (t : PlacedToken) (d : ℕ) → g && is_word (codes "int") t ≡ true → table (want.Params g) d (Some t) ≡ LeavesOut
unfolding table
params_left_out g t d h = second_row (is_sign (codes ")") t) (g && is_word (codes "int") t) _ LeavesOut _ (word_no_sign (codes "int") (codes ")") t (and_right g _ h)) h

int_stays : (g : Bool) (rest : Row) → g && next_is (is_word (codes "int")) rest ≡ true → Stay (want.Params g ∷ []) (Some LeftOut) rest rest
int_stays g [] h = absurd (let q : false ≡ true = and_right g false h in cc)
int_stays g (t ∷ ts) h = stay_leaves_out (want.Params g) t (t ∷ ts) ts (t ∷ ts) refl refl (λ d. params_left_out g t d h)

pub opens_stays : (name : List ℕ) (e : Failure JragCode) (old rest : Row) → NotOpened name e old rest → Stay (want.Opening (bytes_eq name (codes "getChild")) ∷ []) (reason_of e) old rest
opens_stays name failure.Memory old rest h = λ d. tt
opens_stays name (failure.For code.Syntax) old rest h =
    let g = bytes_eq name (codes "getChild") in
    stay_refuses (want.Opening g) old rest h.0 (λ d. opening_refused g d (first old) (next_same (is_sign (codes "(")) old ∙ h.1))
opens_stays name (failure.For code.LeftOut) old rest h =
    let g = bytes_eq name (codes "getChild") in
    stay_takes (want.Opening g) (want.Params g ∷ []) (sign (codes "(") h.0.0) (Some LeftOut) old rest rest h.0.1 (λ d. (0, opening_row g h.0.0 d)) (int_stays g rest h.1)
opens_stays name (failure.For code.Nesting) old rest h = absurd h

opening_comes : (g : Bool) (old list : Row) → Sign (codes "(") old list → Comes true (want.Opening g ∷ []) (want.Params g ∷ []) old list
opening_comes g old list s = takes_comes (want.Opening g) (want.Params g ∷ []) (sign (codes "(") s.0) old list s.1 (λ d. (0, opening_row g s.0 d))

-- ---- parameters

-- a want behind a parameter
abbrev pub EndsParams : Want → Type 0
EndsParams w = (d : ℕ) (s : Option PlacedToken) → (n : ℕ) × (table w d s ≡ more_params_answer n s)

one_ends : EndsParams want.OneParam
unfolding table
one_ends d s = (0, refl)

more_ends : EndsParams want.MoreParams
unfolding table
more_ends d s = (1, refl)

-- What is wanted where one more parameter is: where there is none the machine is stuck, and behind one it goes on.
pub record BeforeParam (g : Bool) (start old : Row) : Type 0 where
  pub stays : (e : Failure JragCode) (rest : Row) → NoParam e old rest → Stay (want.Opening g ∷ []) (reason_of e) start rest
  pub goes : (p : Param) (mid : Row) → ParamOf p old mid → (w : Want) × EndsParams w × Comes true (want.Opening g ∷ []) (w ∷ []) start mid

name_comes : (w : Word) (us : List Want) (old mid : Row) → grammar.Name w old mid → Comes true (want.Name ∷ us) us old mid
name_comes w us old mid n ws d = name_pass true w old mid n (us ++ ws) d

param_comes : (p : Param) (us : List Want) (old mid : Row) → ParamOf p old mid → Comes true (want.Kind ∷ want.Name ∷ us) us old mid
param_comes p us old mid (one, k, n) ws d =
    let a = kind_pass true p.kind old one k (want.Name ∷ (us ++ ws)) d in
    let b = name_pass true p.name one mid n (us ++ ws) a.0 in
    (b.0, a.1 ∙ b.1)

no_param_stays : (us : List Want) (e : Failure JragCode) (old rest : Row) → NoParam e old rest → Stay (want.Kind ∷ want.Name ∷ us) (reason_of e) old rest
no_param_stays us e old rest (inl m) = stay_first want.Kind (want.Name ∷ us) (reason_of e) old rest (kind_missing e old rest m)
no_param_stays us e old rest (inr (k, mid, is, m)) =
    stay_then want.Kind (want.Name ∷ us) (reason_of e) old mid rest (kind_pass true k old mid is) (stay_first want.Name us (reason_of e) mid rest (name_missing e mid rest m))

before_more : (g : Bool) (start old : Row) → Comes true (want.Opening g ∷ []) (want.Kind ∷ want.Name ∷ want.MoreParams ∷ []) start old → BeforeParam g start old
before_more g start old c = record {
  stays = λ e rest m. comes_stay (want.Opening g ∷ []) (want.Kind ∷ want.Name ∷ want.MoreParams ∷ []) (reason_of e) start old rest c (no_param_stays (want.MoreParams ∷ []) e old rest m);
  goes = λ p mid r. (
    want.MoreParams,
    more_ends,
    comes_then (want.Opening g ∷ []) (want.Kind ∷ want.Name ∷ want.MoreParams ∷ []) (want.MoreParams ∷ []) start old mid c (param_comes p (want.MoreParams ∷ []) old mid r),
  );
}

comma_comes : (w : Want) (mid following : Row) → EndsParams w → Sign (codes ",") mid following → Comes true (w ∷ []) (want.Kind ∷ want.Name ∷ want.MoreParams ∷ []) mid following
comma_comes w mid following ends s = takes_comes w (want.Kind ∷ want.Name ∷ want.MoreParams ∷ []) (sign (codes ",") s.0) mid following s.1 (λ d. (0, (ends d (Some (sign (codes ",") s.0))).1))

pub before_next : (g : Bool) (p : Param) (start old mid following : Row) → BeforeParam g start old → ParamOf p old mid → Sign (codes ",") mid following → BeforeParam g start following
before_next g p start old mid following b r s =
    let f = b.goes p mid r in
    before_more g start following (comes_then (want.Opening g ∷ []) (f.0 ∷ []) (want.Kind ∷ want.Name ∷ want.MoreParams ∷ []) start mid following f.2 (comma_comes f.0 mid following f.1 s))

comma_refused : (n : ℕ) (s : Option PlacedToken) → next (is_sign (codes ")")) s ≡ false → next (is_sign (codes ",")) s ≡ false → more_params_answer n s ≡ Refuses
comma_refused n s a b = simp (a, b)

more_missing : (w : Want) (e : Failure JragCode) (old rest : Row) → EndsParams w → next_is (is_sign (codes ")")) old
    ≡ false → Missing (is_sign (codes ",")) e old rest → Stay (w ∷ []) (reason_of e) old rest
more_missing w failure.Memory old rest ends close m = λ d. tt
more_missing w (failure.For code.Syntax) old rest ends close m =
    stay_refuses w old rest m.0 (λ d. let r = ends d (first old) in r.1 ∙ comma_refused r.0 (first old) (next_same (is_sign (codes ")")) old ∙ close) (next_same (is_sign (codes ",")) old ∙ m.1))
more_missing w (failure.For code.LeftOut) old rest ends close m = absurd m
more_missing w (failure.For code.Nesting) old rest ends close m = absurd m

pub comma_stays : (g : Bool) (p : Param) (e : Failure JragCode) (start old mid rest : Row) → BeforeParam g start old
    → ParamOf p old mid → next_is (is_sign (codes ")")) mid ≡ false → Missing (is_sign (codes ",")) e mid rest
    → Stay (want.Opening g ∷ []) (reason_of e) start rest
comma_stays g p e start old mid rest b r close m =
    let f = b.goes p mid r in
    comes_stay (want.Opening g ∷ []) (f.0 ∷ []) (reason_of e) start mid rest f.2 (more_missing f.0 e mid rest f.1 close m)

-- ---- the first parameter

pub last_row : (a b c d : Bool) (x y z w u : Answer Want) → a ≡ false → b ≡ false → c ≡ false → d ≡ false → on a x (on b y (on c z (on d w u))) ≡ u
last_row a b c d x y z w u ea eb ec ed =
    ap (λ v. on v x (on b y (on c z (on d w u)))) ea ∙ ap (λ v. on v y (on c z (on d w u))) eb ∙ ap (λ v. on v z (on d w u)) ec ∙ ap (λ v. on v w u) ed

no_kind_row : (g : Bool) (d : ℕ) (s : Option PlacedToken) → next (is_sign (codes ")")) s ≡ false → next is_kind s ≡ false → table (want.Params g) d s ≡ Refuses
unfolding table
no_kind_row g d None a b = refl
no_kind_row g d (Some t) a b =
    let none = or_first (is_word (codes "int") t) (is_word (codes "boolean") t) (is_word (codes "String") t) (is_name_token t) b in
    last_row (is_sign (codes ")") t) (g && is_word (codes "int") t) (is_word (codes "int") t) (is_kind t) _ _ _ _ Refuses a (and_off g _ none) none b

no_kind_stays : (g : Bool) (e : Failure JragCode) (old rest : Row) → next_is (is_sign (codes ")")) old ≡ false → Missing is_kind e old rest → Stay (want.Params g ∷ []) (reason_of e) old rest
no_kind_stays g failure.Memory old rest close m = λ d. tt
no_kind_stays g (failure.For code.Syntax) old rest close m = stay_refuses (want.Params g) old rest m.0
    (λ d. no_kind_row g d (first old) (next_same (is_sign (codes ")")) old ∙ close) (next_same is_kind old ∙ m.1))
no_kind_stays g (failure.For code.LeftOut) old rest close m = absurd m
no_kind_stays g (failure.For code.Nesting) old rest close m = absurd m

-- behind the first parameter's kind
abbrev BehindKind : Bool → Row → Row → Type 0
BehindKind g old mid = (w : Want) × EndsParams w × Comes true (want.Params g ∷ []) (want.Name ∷ w ∷ []) old mid

kind_comes_by : (g : Bool) (k : KindWord) (old mid : Row) → g && next_is (is_word (codes "int")) old ≡ false → KindOf k old mid
    → (k.kind ≡ syntax.Int) ⊎ ((is_word (codes "int") (word (kind_text k.kind) k.at) ≡ false) × (is_int k.kind ≡ false)) → BehindKind g old mid
kind_comes_by g k old mid none is (inl int) = (
  want.OneParam,
  one_ends,
  takes_comes (want.Params g) (want.Name ∷ want.OneParam ∷ []) (word (kind_text k.kind) k.at) old mid is.1
      (λ d. (0, int_row g k.kind k.at d int (sym (ap (λ r. g && next_is (is_word (codes "int")) r) is.1) ∙ none))),
)
kind_comes_by g k old mid none is (inr other) = (
  want.MoreParams,
  more_ends,
  takes_comes (want.Params g) (want.Name ∷ want.MoreParams ∷ []) (word (kind_text k.kind) k.at) old mid is.1 (λ d. (0, kind_row g k.kind k.at d is.0 other.0)),
)

kind_comes : (g : Bool) (k : KindWord) (old mid : Row) → g && next_is (is_word (codes "int")) old ≡ false → KindOf k old mid → BehindKind g old mid
kind_comes g k old mid none is = kind_comes_by g k old mid none is (kind_cases k.kind k.at is.0)

first_stays : (g : Bool) (e : Failure JragCode) (old rest : Row) → g && next_is (is_word (codes "int")) old ≡ false
    → next_is (is_sign (codes ")")) old ≡ false → NoParam e old rest → Stay (want.Params g ∷ []) (reason_of e) old rest
first_stays g e old rest none close (inl m) = no_kind_stays g e old rest close m
first_stays g e old rest none close (inr (k, mid, is, m)) =
    let f = kind_comes g k old mid none is in
    comes_stay (want.Params g ∷ []) (want.Name ∷ f.0 ∷ []) (reason_of e) old mid rest f.2 (stay_first want.Name (f.0 ∷ []) (reason_of e) mid rest (name_missing e mid rest m))

first_comes : (g : Bool) (p : Param) (old mid : Row) → g && next_is (is_word (codes "int")) old ≡ false
    → ParamOf p old mid → (w : Want) × EndsParams w × Comes true (want.Params g ∷ []) (w ∷ []) old mid
first_comes g p old mid none (one, k, n) =
    let f = kind_comes g p.kind old one none k in
    (f.0, f.1, comes_then (want.Params g ∷ []) (want.Name ∷ f.0 ∷ []) (f.0 ∷ []) old one mid f.2 (name_comes p.name (f.0 ∷ []) one mid n))

pub before_first : (name : List ℕ) (old list : Row) → Opens name old list → next_is (is_sign (codes ")")) list ≡ false → BeforeParam (bytes_eq name (codes "getChild")) old list
before_first name old list (s, none) close =
    let g = bytes_eq name (codes "getChild") in
    let c = opening_comes g old list s in
    record {
      stays = λ e rest m. comes_stay (want.Opening g ∷ []) (want.Params g ∷ []) (reason_of e) old list rest c (first_stays g e list rest none close m);
      goes = λ p mid r. let f = first_comes g p list mid none r in (f.0, f.1, comes_then (want.Opening g ∷ []) (want.Params g ∷ []) (f.0 ∷ []) old list mid c f.2);
    }
