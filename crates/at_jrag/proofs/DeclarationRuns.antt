-- How the machine goes over declarations, and where it stays.
use Rattle.std.proofs.Common.{arith, ◌≡◌, ℕ, ◌≤◌, List, [], ◌∷◌, ◌++◌, Bool, true, false, cond, Option, Some, None, refl, sym, ap, subst, ◌∙◌, inl, inr}
use Rattle.std.specs.Prelude.{◌&&◌, ◌⊎◌, ◌==◌}
use Rattle.std.specs.List.{AllByRecursion}
use Rattle.std.specs.Str.{bytes_eq}
use Rattle.std.proofs.lemmas.Slice.Eq.{bytes_eq-Decides}
use lib.Chars.{codes}
use Rattle.at_model.specs.Names.{is_name, reserved_words}
use Rattle.at_model.proofs.Options.{and_off}
use Rattle.at_text.specs.Reading.{first}
use Rattle.at_text.specs.Symbols.{PlacedToken}
use Rattle.at_text.specs.declared.place.Place.{Place}
use Rattle.at_jrag.specs.declared.Forms.{Forms}
use Rattle.at_jrag.specs.Syntax as syntax
use Rattle.at_jrag.specs.Syntax.{Word, Param, Params, KindWord, Body, Ending, Decl, DeclForm, Aspect, Expr}
use Rattle.at_jrag.specs.Grammar as grammar
use Rattle.at_text.specs.Rows.{Row, sign, word, is_sign, is_word, is_name_token, next_is}
use Rattle.at_jrag.specs.Grammar.{truth_text, may_be_circular, Circular, StartOf, AttributeOf, kind_text, IsKind, Sign, Keyword, Lazy, KindOf, MoreParams, Listed, Opens, Signature, Owner, Index, Declared, BodyOf, EndingOf, Behind, File, Spells, depth, nesting, ending_depth, max_nesting, NestsWithin, IsWithin}
use Rattle.at_jrag.specs.Heads.{is_int, is_getter}
use Rattle.at_text.specs.Machine.{Reason, Refused, LeftOut, Answer, Takes, Skips, Refuses, LeavesOut, Whole, Stuck, run}
use Rattle.at_jrag.specs.Wants as want
use Rattle.at_jrag.specs.Wants.{Want}
use Rattle.at_jrag.specs.Table.{table, next, on, is_kind, body_answer, declared, named}
use Rattle.at_jrag.specs.Runs.{Stay, Pass, Missing, reason_of}
use Rattle.at_text.specs.declared.fault.Failure.{Failure}
use Rattle.at_text.specs.declared.fault.Failure.TheVariants as failure
use Rattle.at_jrag.specs.declared.JragCode.{JragCode}
use Rattle.at_jrag.specs.declared.JragCode.TheVariants as code
use Rattle.at_text.proofs.MachineLaws.{run-takes, run-skips, run-refuses, run-leaves_out}
use Rattle.at_jrag.proofs.of_expressions.ExpressionSteps.{no_word}
use Rattle.at_jrag.proofs.of_expressions.ExpressionRanks.{EndsWhole}
use Rattle.at_jrag.proofs.of_expressions.ExpressionsTaken.{accepted}

-- ---- one want after another

pub pass_none : (l : Bool) (old : Row) → Pass l [] old old
pass_none l old ws d = (d, refl)

pub pass_then : (l : Bool) (w : Want) (us : List Want) (old mid rest : Row) → Pass l (w ∷ []) old mid → Pass l us mid rest → Pass l (w ∷ us) old rest
pass_then l w us old mid rest p q ws d = let a = p (us ++ ws) d in let b = q ws a.0 in (b.0, a.1 ∙ b.1)

-- the want takes the next token, and then others are wanted
pub pass_takes : (l : Bool) (w : Want) (us : List Want) (t : PlacedToken) (old mid rest : Row) → old ≡ t ∷ mid
    → ((d : ℕ) → (e : ℕ) × (table w d (Some t) ≡ Takes true us e)) → Pass l us mid rest → Pass l (w ∷ []) old rest
pass_takes l w us t old mid rest front row p ws d =
    let r = row d in
    let b = p ws r.0 in
    (b.0, ap (run l table (w ∷ ws) d) front ∙ run-takes l table w true us ws d r.0 t mid r.1 (λ h. refl) ∙ b.1)

pub pass_skips : (l : Bool) (w : Want) (old : Row) → ((d : ℕ) → (e : ℕ) × (table w d (first old) ≡ Skips e)) → Pass l (w ∷ []) old old
pass_skips l w old row ws d = let r = row d in (r.0, run-skips l table w ws d r.0 old r.1)

-- ---- where it stays

pub stay_then : (w : Want) (us : List Want) (r : Option Reason) (old mid rest : Row) → Pass true (w ∷ []) old mid → Stay us r mid rest → Stay (w ∷ us) r old rest
stay_then w us None old mid rest p s d = tt
stay_then w us (Some r) old mid rest p s d = λ ws. let a = p (us ++ ws) d in a.1 ∙ s a.0 ws

pub stay_first : (w : Want) (us : List Want) (r : Option Reason) (old rest : Row) → Stay (w ∷ []) r old rest → Stay (w ∷ us) r old rest
stay_first w us None old rest s d = tt
stay_first w us (Some r) old rest s d = λ ws. s d (us ++ ws)

pub stay_takes : (w : Want) (us : List Want) (t : PlacedToken) (r : Option Reason) (old mid rest : Row) → old ≡ t ∷ mid
    → ((d : ℕ) → (e : ℕ) × (table w d (Some t) ≡ Takes true us e)) → Stay us r mid rest → Stay (w ∷ []) r old rest
stay_takes w us t None old mid rest front row s d = tt
stay_takes w us t (Some r) old mid rest front row s d = λ ws.
    let a = row d in ap (run true table (w ∷ ws) d) front ∙ run-takes true table w true us ws d a.0 t mid a.1 (λ h. refl) ∙ s a.0 ws

pub stay_refuses : (w : Want) (old rest : Row) → rest ≡ old → ((d : ℕ) → table w d (first old) ≡ Refuses) → Stay (w ∷ []) (Some Refused) old rest
stay_refuses w old rest same row d = λ ws. run-refuses true table w ws d old (row d) ∙ ap (Stuck Refused) (sym same)

pub stay_leaves_out : (w : Want) (t : PlacedToken) (old mid rest : Row) → rest ≡ old → old ≡ t ∷ mid → ((d : ℕ) → table w d (Some t) ≡ LeavesOut) → Stay (w ∷ []) (Some LeftOut) old rest
stay_leaves_out w t old mid rest same front row d = λ ws. ap (run true table (w ∷ ws) d) front ∙ run-leaves_out true table w ws d t mid (row d) ∙ ap (Stuck LeftOut) (sym (same ∙ front))

-- ---- single tokens

pub next_same : (test : PlacedToken → Bool) (old : Row) → next test (first old) ≡ next_is test old
next_same test [] = refl
next_same test (t ∷ ts) = refl

-- a want of one token, which is missing
pub missing_stays : (w : Want) (test : PlacedToken → Bool) (e : Failure JragCode) (old rest : Row)
    → ((d : ℕ) (s : Option PlacedToken) → next test s ≡ false → table w d s ≡ Refuses) → Missing test e old rest
    → Stay (w ∷ []) (reason_of e) old rest
missing_stays w test failure.Memory old rest row m = λ d. tt
missing_stays w test (failure.For code.Syntax) old rest row m = stay_refuses w old rest m.0 (λ d. row d (first old) (next_same test old ∙ m.1))
missing_stays w test (failure.For code.LeftOut) old rest row m = absurd m
missing_stays w test (failure.For code.Nesting) old rest row m = absurd m

mark_row : (text : List ℕ) (d : ℕ) (s : Option PlacedToken) → next (is_sign text) s ≡ false → table (want.Mark text) d s ≡ Refuses
unfolding table
mark_row text d s e = ap (λ b. on b (Takes true [] d) Refuses) e

pub mark_missing : (text : List ℕ) (e : Failure JragCode) (old rest : Row) → Missing (is_sign text) e old rest → Stay (want.Mark text ∷ []) (reason_of e) old rest
mark_missing text e old rest m = missing_stays (want.Mark text) (is_sign text) e old rest (mark_row text) m

name_row : (d : ℕ) (s : Option PlacedToken) → next is_name_token s ≡ false → table want.Name d s ≡ Refuses
unfolding table
name_row d s e = ap (λ b. on b (Takes true [] d) Refuses) e

pub name_missing : (e : Failure JragCode) (old rest : Row) → Missing is_name_token e old rest → Stay (want.Name ∷ []) (reason_of e) old rest
name_missing e old rest m = missing_stays want.Name is_name_token e old rest name_row m

same_bytes : (text : List ℕ) → bytes_eq text text ≡ true
same_bytes text = (bytes_eq-Decides text text).1 refl

pub mark_pass : (l : Bool) (text : List ℕ) (old rest : Row) → Sign text old rest → Pass l (want.Mark text ∷ []) old rest
unfolding table
mark_pass l text old rest (at, e) = pass_takes l (want.Mark text) [] (sign text at) old rest rest e (λ d. (d, ap (λ b. on b (Takes true [] d) Refuses) (same_bytes text))) (pass_none l rest)

pub name_pass : (l : Bool) (w : Word) (old rest : Row) → grammar.Name w old rest → Pass l (want.Name ∷ []) old rest
unfolding table
name_pass l w old rest n = pass_takes l want.Name [] (word w.text w.at) old rest rest n.1 (λ d. (d, ap (λ b. on b (Takes true [] d) Refuses) n.0)) (pass_none l rest)

-- ---- kinds

name_is_kind : (text : List ℕ) (at : Place) → is_name text ≡ true → is_kind (word text at) ≡ true
unfolding reserved_words
name_is_kind text at is = simp (no_word text (codes "int") refl is, no_word text (codes "boolean") refl is, no_word text (codes "String") refl is, is)

kind_is_kind : (k : syntax.Kind) (at : Place) → IsKind k → is_kind (word (kind_text k) at) ≡ true
kind_is_kind syntax.Int at is = refl
kind_is_kind syntax.Bool' at is = refl
kind_is_kind syntax.Text at is = refl
kind_is_kind (syntax.Class name) at is = name_is_kind name at is

pub kind_pass : (l : Bool) (k : KindWord) (old rest : Row) → KindOf k old rest → Pass l (want.Kind ∷ []) old rest
unfolding table
kind_pass l k old rest h = pass_takes l want.Kind [] (word (kind_text k.kind) k.at) old rest rest h.1
    (λ d. (0, ap (λ b. on b (Takes true [] 0) Refuses) (kind_is_kind k.kind k.at h.0))) (pass_none l rest)

-- a kind is none of these words
kind_not : (k : syntax.Kind) (at : Place) (text : List ℕ) → is_word text (word (codes "int") at) ≡ false
    → is_word text (word (codes "boolean") at) ≡ false → is_word text (word (codes "String") at) ≡ false
    → ((name : List ℕ) → is_name name ≡ true → bytes_eq name text ≡ false) → IsKind k → is_word text (word (kind_text k) at) ≡ false
kind_not syntax.Int at text a b c n is = a
kind_not syntax.Bool' at text a b c n is = b
kind_not syntax.Text at text a b c n is = c
kind_not (syntax.Class name) at text a b c n is = n name is

kind_no_lazy : (k : syntax.Kind) (at : Place) → IsKind k → is_word (codes "lazy") (word (kind_text k) at) ≡ false
unfolding reserved_words
kind_no_lazy k at is = kind_not k at (codes "lazy") refl refl refl (λ n h. no_word n (codes "lazy") refl h) is

kind_no_nta : (k : syntax.Kind) (at : Place) → IsKind k → is_word (codes "nta") (word (kind_text k) at) ≡ false
unfolding reserved_words
kind_no_nta k at is = kind_not k at (codes "nta") refl refl refl (λ n h. no_word n (codes "nta") refl h) is

-- ---- ["lazy"], where neither it nor `nta` follows

-- the next token is not this word
abbrev pub NoWord : List ℕ → Row → Type 0
NoWord text old = next (is_word text) (first old) ≡ false

pub kind_begins : (k : KindWord) (old rest : Row) → KindOf k old rest → NoWord (codes "lazy") old × NoWord (codes "nta") old
kind_begins k old rest h = (ap (λ r. next (is_word (codes "lazy")) (first r)) h.1 ∙ kind_no_lazy k.kind k.at h.0, ap (λ r. next (is_word (codes "nta")) (first r)) h.1 ∙ kind_no_nta k.kind k.at h.0)

not_nta_pass : (l : Bool) (old : Row) → NoWord (codes "nta") old → Pass l (want.NotNta ∷ []) old old
unfolding table
not_nta_pass l old n = pass_skips l want.NotNta old (λ d. (0, ap (λ b. on b LeavesOut (Skips 0)) n))

no_lazy_row : (d : ℕ) (s : Option PlacedToken) → next (is_word (codes "lazy")) s ≡ false → next (is_word (codes "nta")) s ≡ false → table want.Lazy d s ≡ Skips 0
unfolding table
no_lazy_row d s a b = simp (a, b)

pub lazy_pass : (l : Bool) (lazy : Option Place) (old rest : Row) → Lazy lazy old rest → (lazy ≡ None → NoWord (codes "lazy") rest) → NoWord (codes "nta") rest → Pass l (want.Lazy ∷ []) old rest
unfolding table
lazy_pass l None old rest h a b = subst (λ (x : Row). Pass l (want.Lazy ∷ []) x rest) (sym h) (pass_skips l want.Lazy rest (λ d. (0, no_lazy_row d (first rest) (a refl) b)))
lazy_pass l (Some at) old rest h a b = pass_takes l want.Lazy (want.NotNta ∷ []) (word (codes "lazy") at) old rest rest h (λ d. (0, refl)) (not_nta_pass l rest b)

-- ---- parameters

-- what is wanted is gone over, and the register is this
abbrev pub PassTo : Bool → List Want → ℕ → Row → Row → Type 0
PassTo l us e old rest = (ws : List Want) (d : ℕ) → run l table (us ++ ws) d old ≡ run l table ws e rest

to_then : (l : Bool) (w : Want) (us : List Want) (e : ℕ) (old mid rest : Row) → Pass l (w ∷ []) old mid → PassTo l us e mid rest → PassTo l (w ∷ us) e old rest
to_then l w us e old mid rest p q ws d = let a = p (us ++ ws) d in a.1 ∙ q ws a.0

to_takes : (l : Bool) (w : Want) (us : List Want) (t : PlacedToken) (e f : ℕ) (old mid rest : Row) → old ≡ t ∷ mid
    → ((d : ℕ) → table w d (Some t) ≡ Takes true us f) → PassTo l us e mid rest → PassTo l (w ∷ []) e old rest
to_takes l w us t e f old mid rest front row p ws d = ap (run l table (w ∷ ws) d) front ∙ run-takes l table w true us ws d f t mid (row d) (λ h. refl) ∙ p ws f

to_last : (l : Bool) (w : Want) (t : PlacedToken) (e : ℕ) (old rest : Row) → old ≡ t ∷ rest → ((d : ℕ) → table w d (Some t) ≡ Takes true [] e) → PassTo l (w ∷ []) e old rest
to_last l w t e old rest front row ws d = ap (run l table (w ∷ ws) d) front ∙ run-takes l table w true [] ws d e t rest (row d) (λ h. refl)

more_go : (l : Bool) (ps : List Param) (end : Place) (old rest : Row) → MoreParams ps end old rest → PassTo l (want.MoreParams ∷ []) 1 old rest
unfolding table
more_go l [] end old rest h = to_last l want.MoreParams (sign (codes ")") end) 1 old rest h (λ d. refl)
more_go l (p ∷ ps) end old rest (one, more, c, (mid, k, n), m) =
    to_takes l want.MoreParams (want.Kind ∷ want.Name ∷ want.MoreParams ∷ []) (sign (codes ",") c.0) 1 0 old one rest c.1 (λ d. refl)
    (to_then l want.Kind (want.Name ∷ want.MoreParams ∷ []) 1 one mid rest (kind_pass l p.kind one mid k)
    (to_then l want.Name (want.MoreParams ∷ []) 1 mid more rest (name_pass l p.name mid more n)
    (more_go l ps end more rest m)))

one_go : (l : Bool) (p : Param) (ps : List Param) (end : Place) (old rest : Row) → p.kind.kind ≡ syntax.Int
    → MoreParams ps end old rest → PassTo l (want.OneParam ∷ []) (cond (is_getter (p ∷ ps)) 0 1) old rest
unfolding table
one_go l p [] end old rest int h = to_last l want.OneParam (sign (codes ")") end) (cond (is_int p.kind.kind) 0 1) old rest h (λ d. ap (λ k. Takes true [] (cond (is_int k) 0 1)) (sym int))
one_go l p (q ∷ ps) end old rest int (one, more, c, (mid, k, n), m) =
    to_takes l want.OneParam (want.Kind ∷ want.Name ∷ want.MoreParams ∷ []) (sign (codes ",") c.0) 1 0 old one rest c.1 (λ d. refl)
    (to_then l want.Kind (want.Name ∷ want.MoreParams ∷ []) 1 one mid rest (kind_pass l q.kind one mid k)
    (to_then l want.Name (want.MoreParams ∷ []) 1 mid more rest (name_pass l q.name mid more n)
    (more_go l ps end more rest m)))

-- the first parameter's kind
pub kind_cases : (k : syntax.Kind) (at : Place) → IsKind k → (k ≡ syntax.Int) ⊎ ((is_word (codes "int") (word (kind_text k) at) ≡ false) × (is_int k ≡ false))
unfolding reserved_words
kind_cases syntax.Int at is = inl refl
kind_cases syntax.Bool' at is = inr (refl, refl)
kind_cases syntax.Text at is = inr (refl, refl)
kind_cases (syntax.Class name) at is = inr (no_word name (codes "int") refl is, refl)

and_true : (g : Bool) → g && true ≡ false → g ≡ false
and_true true h = h
and_true false h = refl

other_register : (p : Param) (ps : List Param) → is_int p.kind.kind ≡ false → ◌≡◌ {A = ℕ} (cond (is_getter (p ∷ ps)) 0 1) 1
other_register p [] h = ap (λ b. cond {A = ℕ} b 0 1) h
other_register p (q ∷ ps) h = refl

third_row : (a b c : Bool) (x y z w : Answer Want) → a ≡ false → b ≡ false → c ≡ true → on a x (on b y (on c z w)) ≡ z
third_row a b c x y z w ea eb ec = ap (λ v. on v x (on b y (on c z w))) ea ∙ ap (λ v. on v y (on c z w)) eb ∙ ap (λ v. on v z w) ec

pub int_row : (g : Bool) (k : syntax.Kind) (at : Place) (d : ℕ) → k ≡ syntax.Int
    → g && is_word (codes "int") (word (kind_text k) at) ≡ false
    → table (want.Params g) d (Some (word (kind_text k) at)) ≡ Takes true (want.Name ∷ want.OneParam ∷ []) 0
unfolding table
int_row g k at d e none =
    let no : g ≡ false = and_true g (sym (ap (λ x. g && is_word (codes "int") (word (kind_text x) at)) e) ∙ none) in
    ap (λ x. table (want.Params g) d (Some (word (kind_text x) at))) e ∙ ap (λ b. on b LeavesOut (Takes true (want.Name ∷ want.OneParam ∷ []) 0)) (ap (λ b. b && true) no)

pub kind_row : (g : Bool) (k : syntax.Kind) (at : Place) (d : ℕ) → IsKind k
    → is_word (codes "int") (word (kind_text k) at) ≡ false
    → table (want.Params g) d (Some (word (kind_text k) at)) ≡ Takes true (want.Name ∷ want.MoreParams ∷ []) 0
unfolding table
kind_row g k at d is none = third_row (g && is_word (codes "int") (word (kind_text k) at))
    (is_word (codes "int") (word (kind_text k) at)) (is_kind (word (kind_text k) at)) LeavesOut _ _ Refuses
    (and_off g _ none) none (kind_is_kind k at is)

first_go : (l g : Bool) (p : Param) (ps : List Param) (end : Place) (old mid more rest : Row) → KindOf p.kind old mid
    → grammar.Name p.name mid more → MoreParams ps end more rest → g && next_is (is_word (codes "int")) old ≡ false
    → (p.kind.kind ≡ syntax.Int) ⊎ ((is_word (codes "int") (word (kind_text p.kind.kind) p.kind.at) ≡ false)
    × (is_int p.kind.kind ≡ false)) → PassTo l (want.Params g ∷ []) (cond (is_getter (p ∷ ps)) 0 1) old rest
first_go l g p ps end old mid more rest k n m none (inl int) =
    to_takes l (want.Params g) (want.Name ∷ want.OneParam ∷ [])
    (word (kind_text p.kind.kind) p.kind.at) _ 0 old mid rest k.1
    (λ d. int_row g p.kind.kind p.kind.at d int (sym (ap (λ r. g && next_is (is_word (codes "int")) r) k.1) ∙ none))
    (to_then l want.Name (want.OneParam ∷ []) _ mid more rest (name_pass l p.name mid more n) (one_go l p ps end more rest int m))
first_go l g p ps end old mid more rest k n m none (inr other) =
    to_takes l (want.Params g) (want.Name ∷ want.MoreParams ∷ []) (word (kind_text p.kind.kind) p.kind.at) _ 0 old mid rest k.1 (λ d. kind_row g p.kind.kind p.kind.at d k.0 other.0)
    (to_then l want.Name (want.MoreParams ∷ []) _ mid more rest (name_pass l p.name mid more n)
    (subst (λ (e : ℕ). PassTo l (want.MoreParams ∷ []) e more rest) (sym (other_register p ps other.1))
    (more_go l ps end more rest m)))

listed_go : (l g : Bool) (ps : List Param) (end : Place) (list rest : Row) → Listed ps end list rest → g
    && next_is (is_word (codes "int")) list ≡ false → PassTo l (want.Params g ∷ []) (cond (is_getter ps) 0 1) list rest
unfolding table
listed_go l g [] end list rest h none = to_last l (want.Params g) (sign (codes ")") end) 0 list rest h (λ d. refl)
listed_go l g (p ∷ ps) end list rest (more, (mid, k, n), m) none = first_go l g p ps end list mid more rest k n m none (kind_cases p.kind.kind p.kind.at k.0)

pub signed_row : (text : List ℕ) (at : Place) (d : ℕ) → is_name text ≡ true → table want.Signed d (Some (word text at)) ≡ Takes true (want.Opening (bytes_eq text (codes "getChild")) ∷ []) 0
unfolding table
signed_row text at d is = ap (λ b. on b (Takes true (want.Opening (bytes_eq text (codes "getChild")) ∷ []) 0) Refuses) is

opening_go : (l g : Bool) (e : ℕ) (paren list rest : Row) → Sign (codes "(") paren list → PassTo l (want.Params g ∷ []) e list rest → PassTo l (want.Opening g ∷ []) e paren rest
unfolding table
opening_go l g e paren list rest s p = to_takes l (want.Opening g) (want.Params g ∷ []) (sign (codes "(") s.0) e 0 paren list rest s.1 (λ d. refl) p

pub signature_goes : (l : Bool) (name : Word) (ps : Params) (old rest : Row) → Signature name ps old rest → PassTo l (want.Signed ∷ []) (cond (is_getter ps.items) 0 1) old rest
signature_goes l name ps old rest (paren, list, n, o, h) =
    let g = bytes_eq name.text (codes "getChild") in
    to_takes l want.Signed (want.Opening g ∷ []) (word name.text name.at) _ 0 old paren rest n.1 (λ d. signed_row
    name.text name.at d n.0) (opening_go l g _ paren list rest o.0 (listed_go l g ps.items ps.end list rest h o.1))

-- ---- bodies

ends_at_semicolon : (at : Place) (end rest : Row) → end ≡ sign (codes ";") at ∷ rest → EndsWhole (first end)
ends_at_semicolon at end rest e = subst (λ (x : Option PlacedToken). EndsWhole x) (sym (ap first e))
    (record { ends = record { cast = refl; dot = refl; links = λ j h k. omega (arith, k) }; choice = refl })

-- an expression before a `;` is gone over, with a limit where it fits
expression_pass : (l : Bool) (e : Expr) (at : Place) (old end rest : Row) → (l ≡ true → depth e ≤ max_nesting)
    → Spells e old end → end ≡ sign (codes ";") at ∷ rest → Pass l (want.Expression max_nesting ∷ []) old end
expression_pass l e at old end rest fits h s ws d = (depth e, (accepted e old end h).whole (ends_at_semicolon at end rest s) l max_nesting fits ws d)

pub return_pass : (l : Bool) (old rest : Row) → Keyword (codes "return") old rest → Pass l (want.Return ∷ []) old rest
unfolding table
return_pass l old rest (at, e) = pass_takes l want.Return [] (word (codes "return") at) old rest rest e (λ d. (0, refl)) (pass_none l rest)

pub close_pass : (l : Bool) (old rest : Row) → Sign (codes "}") old rest → Pass l (want.Close ∷ []) old rest
unfolding table
close_pass l old rest (at, e) = pass_takes l want.Close [] (sign (codes "}") at) old rest rest e (λ d. (0, refl)) (pass_none l rest)

-- a want whose row is that of a body at this token
body_pass : (w : Want) (l : Bool) (f : syntax.BodyForm) (e : Expr) (at : Place) (old rest : Row) → ((t : PlacedToken) →
    is_sign (codes ".") t ≡ false → is_sign (codes ";") t ≡ false → (d : ℕ) → table w d (Some t) ≡ body_answer (Some t))
    → (l ≡ true → depth e ≤ max_nesting) → BodyOf (record { at = at; form = f; expr = e }) old rest → Pass l (w ∷ []) old rest
body_pass w l syntax.Equation' e at old rest row fits (one, end, s, r, z) =
    pass_takes l w (want.Expression max_nesting ∷ want.Mark (codes ";") ∷ []) (sign (codes "=") at) old one rest s (λ d. (0, row (sign (codes "=") at) refl refl d))
    (pass_then l (want.Expression max_nesting) (want.Mark (codes ";") ∷ []) one end rest (expression_pass l e z.0 one end rest fits r z.1) (mark_pass l (codes ";") end rest z))
body_pass w l syntax.Block e at old rest row fits (returns, one, end, close, s, k, r, z, c) =
    pass_takes l w (want.Return ∷ want.Expression max_nesting ∷ want.Mark (codes ";") ∷ want.Close ∷ []) (sign (codes "{") at) old returns rest s (λ d. (0, row (sign (codes "{") at) refl refl d))
    (pass_then l want.Return (want.Expression max_nesting ∷ want.Mark (codes ";") ∷ want.Close ∷ []) returns one rest (return_pass l returns one k)
    (pass_then l (want.Expression max_nesting) (want.Mark (codes ";") ∷ want.Close ∷ []) one end rest (expression_pass l e z.0 one end close fits r z.1)
    (pass_then l (want.Mark (codes ";")) (want.Close ∷ []) end close rest (mark_pass l (codes ";") end close z) (close_pass l close rest c))))

body_row : (t : PlacedToken) → is_sign (codes ".") t ≡ false → is_sign (codes ";") t ≡ false → (d : ℕ) → table want.Body d (Some t) ≡ body_answer (Some t)
unfolding table
body_row t a b d = refl

ending_row : (t : PlacedToken) → is_sign (codes ".") t ≡ false → is_sign (codes ";") t ≡ false → (d : ℕ) → table want.Ending d (Some t) ≡ body_answer (Some t)
unfolding table
ending_row t a b d = ap (λ x. on x (Takes true [] 0) (body_answer (Some t))) b

defined_row : (t : PlacedToken) → is_sign (codes ".") t ≡ false → is_sign (codes ";") t ≡ false → (d : ℕ) → table want.Defined d (Some t) ≡ body_answer (Some t)
unfolding table
defined_row t a b d = ap (λ x. on x (Takes true (want.Signed ∷ want.Body ∷ []) 0) (body_answer (Some t))) (and_off (d == 0) (is_sign (codes ".") t) a)

pub body_goes : (l : Bool) (b : Body) (old rest : Row) → (l ≡ true → depth b.expr ≤ max_nesting) → BodyOf b old rest → Pass l (want.Body ∷ []) old rest
body_goes l b old rest fits h = body_pass want.Body l b.form b.expr b.at old rest body_row fits h

pub defined_goes : (l : Bool) (b : Body) (old rest : Row) → (l ≡ true → depth b.expr ≤ max_nesting) → BodyOf b old rest → Pass l (want.Defined ∷ []) old rest
defined_goes l b old rest fits h = body_pass want.Defined l b.form b.expr b.at old rest defined_row fits h

pub ending_goes : (l : Bool) (e : Ending) (old rest : Row) → (l ≡ true → ending_depth e ≤ max_nesting) → EndingOf e old rest → Pass l (want.Ending ∷ []) old rest
unfolding table
ending_goes l (syntax.With b) old rest fits h = body_pass want.Ending l b.form b.expr b.at old rest ending_row fits h
ending_goes l (syntax.Semicolon at) old rest fits h = pass_takes l want.Ending [] (sign (codes ";") at) old rest rest h (λ d. (0, refl)) (pass_none l rest)

-- ---- declarations

pub owner_then : (l : Bool) (us : List Want) (class : Word) (old mid rest : Row) → Owner class old mid → Pass l us mid rest → Pass l (want.Name ∷ want.Mark (codes ".") ∷ us) old rest
owner_then l us class old mid rest (dot, n, s) p =
    pass_then l want.Name (want.Mark (codes ".") ∷ us) old dot rest (name_pass l class old dot n)
    (pass_then l (want.Mark (codes ".")) us dot mid rest (mark_pass l (codes ".") dot mid s) p)

to_pass : (l : Bool) (us : List Want) (e : ℕ) (old rest : Row) → PassTo l us e old rest → Pass l us old rest
to_pass l us e old rest p ws d = (e, p ws d)

pub signed_pass : (l : Bool) (name : Word) (ps : Params) (old rest : Row) → Signature name ps old rest → Pass l (want.Signed ∷ []) old rest
signed_pass l name ps old rest h = to_pass l (want.Signed ∷ []) _ old rest (signature_goes l name ps old rest h)

none_pass : (l m : Bool) (old : Row) → NoWord (codes "circular") old → Pass l (want.Circular m ∷ []) old old
unfolding table
none_pass l m old n =
    pass_skips l (want.Circular m) old (λ d. (0, ap (λ b. on b (cond m (Takes true (want.Bracket ∷ want.Mark (codes "]") ∷ want.Circular false ∷ []) 0) LeavesOut) (Skips 0)) n))

pub circular_row : (m : Bool) (at : Place) (d : ℕ) → m ≡ true → table (want.Circular m) d
    (Some (word (codes "circular") at)) ≡ Takes true (want.Bracket ∷ want.Mark (codes "]") ∷ want.Circular false ∷ []) 0
unfolding table
circular_row m at d may = ap (λ b. cond b (Takes true (want.Bracket ∷ want.Mark (codes "]") ∷ want.Circular false ∷ []) 0) LeavesOut) may

start_row : (b : Bool) (at : Place) (d : ℕ) → table want.Start d (Some (word (truth_text b) at)) ≡ Takes true [] 0
unfolding table
start_row true at d = refl
start_row false at d = refl

pub bracket_pass : (l : Bool) (b : Bool) (old value rest : Row) → Sign (codes "[") old value → Keyword (truth_text b) value rest → Pass l (want.Bracket ∷ []) old rest
unfolding table
bracket_pass l b old value rest s k =
    pass_takes l want.Bracket (want.Start ∷ []) (sign (codes "[") s.0) old value rest s.1 (λ d. (0, refl))
    (pass_takes l want.Start [] (word (truth_text b) k.0) value rest rest k.1 (λ d. (0, start_row b k.0 d)) (pass_none l rest))

pub start_pass : (l : Bool) (b : Bool) (us : List Want) (old mid rest : Row) → StartOf b old mid → Pass l us mid rest → Pass l (want.Bracket ∷ want.Mark (codes "]") ∷ us) old rest
start_pass l b us old mid rest (value, close, s, k, z) p =
    pass_then l want.Bracket (want.Mark (codes "]") ∷ us) old close rest (bracket_pass l b old value close s k)
    (pass_then l (want.Mark (codes "]")) us close mid rest (mark_pass l (codes "]") close mid z) p)

-- the word was taken, and what stands behind it is gone over
pub start_then : (l m : Bool) (at : Place) (old bracket rest : Row) → m ≡ true → old ≡ word (codes "circular") at ∷ bracket
    → Pass l (want.Bracket ∷ want.Mark (codes "]") ∷ want.Circular false ∷ []) bracket rest → Pass l (want.Circular m ∷ []) old rest
start_then l m at old bracket rest may front p =
    pass_takes l (want.Circular m) (want.Bracket ∷ want.Mark (codes "]") ∷ want.Circular false ∷ []) (word (codes "circular") at) old bracket rest front (λ d. (0, circular_row m at d may)) p

pub circular_pass : (l m : Bool) (start : Option Bool) (old rest : Row) → Circular m start old rest → NoWord (codes "circular") rest → Pass l (want.Circular m ∷ []) old rest
circular_pass l m None old rest h n = subst (λ (x : Row). Pass l (want.Circular m ∷ []) x rest) (sym h) (none_pass l m rest n)
circular_pass l m (Some b) old rest (may, bracket, k, s) n =
    start_then l m k.0 old bracket rest may k.1 (start_pass l b (want.Circular false ∷ []) bracket rest rest s (none_pass l false rest n))

-- ---- a declared attribute

pub is_boolean : (k : syntax.Kind) (at : Place) (forms : Forms) → IsKind k → is_word (codes "boolean") (word (kind_text k) at) && forms.circular ≡ may_be_circular forms k
unfolding reserved_words
is_boolean syntax.Int at forms is = refl
is_boolean syntax.Bool' at forms is = refl
is_boolean syntax.Text at forms is = refl
is_boolean (syntax.Class name) at forms is = ap (λ b. b && forms.circular) (no_word name (codes "boolean") refl is)

pub attribute_row : (forms : Forms) (k : syntax.Kind) (at : Place) (d : ℕ) → IsKind k → table (want.Attribute forms) d (Some (word (kind_text k) at)) ≡ Takes true (named (may_be_circular forms k)) 0
unfolding table
attribute_row forms k at d is =
    ap (λ b. on b (Takes true (named (is_word (codes "boolean") (word (kind_text k) at) && forms.circular)) 0) Refuses)
    (kind_is_kind k at is) ∙ ap (λ m. Takes true (named m) 0) (is_boolean k at forms is)

attribute_pass : (l : Bool) (forms : Forms) (k : KindWord) (class name : Word) (ps : Params) (start : Option Bool)
    (old rest : Row) → AttributeOf forms k class name ps start old rest → NoWord (codes "circular") rest
    → Pass l (want.Attribute forms ∷ []) old rest
attribute_pass l forms k class name ps start old rest (owner, called, behind, t, o, s, c) n =
    let m = may_be_circular forms k.kind in
    pass_takes l (want.Attribute forms) (named m) (word (kind_text k.kind) k.at) old owner rest t.1 (λ d. (0, attribute_row forms k.kind k.at d t.0))
    (owner_then l (want.Signed ∷ want.Circular m ∷ []) class owner called rest o
    (pass_then l want.Signed (want.Circular m ∷ []) called behind rest (signed_pass l name ps called behind s) (circular_pass l m start behind rest c n)))

pub declared_then : (l : Bool) (forms : Forms) (us : List Want) (lazy : Option Place) (k : KindWord) (class name : Word)
    (ps : Params) (start : Option Bool) (old end rest : Row) → Declared forms lazy k class name ps start old end
    → NoWord (codes "circular") end → Pass l us end rest → Pass l (declared forms us) old rest
declared_then l forms us lazy k class name ps start old end rest (kinds, z, a) n p =
    let begins = kind_begins k kinds a.0 a.3 in
    pass_then l want.Lazy (want.Attribute forms ∷ us) old kinds rest (lazy_pass l lazy old kinds z (λ e. begins.0) begins.1)
    (pass_then l (want.Attribute forms) us kinds end rest (attribute_pass l forms k class name ps start kinds end a n) p)

no_circular_body : (f : syntax.BodyForm) (e : Expr) (at : Place) (old rest : Row) → BodyOf (record { at = at; form = f; expr = e }) old rest → NoWord (codes "circular") old
no_circular_body syntax.Equation' e at old rest (one, end, s, r, z) = ap (λ r. next (is_word (codes "circular")) (first r)) s
no_circular_body syntax.Block e at old rest (returns, one, end, close, s, k, r, z, c) = ap (λ r. next (is_word (codes "circular")) (first r)) s

pub no_circular : (e : Ending) (old rest : Row) → EndingOf e old rest → NoWord (codes "circular") old
no_circular (syntax.With b) old rest h = no_circular_body b.form b.expr b.at old rest h
no_circular (syntax.Semicolon at) old rest h = ap (λ r. next (is_word (codes "circular")) (first r)) h

pub synthesized_row : (forms : Forms) (at : Place) (d : ℕ) → table (want.Decls forms) d (Some (word (codes "syn") at)) ≡ Takes true (declared forms (want.Ending ∷ want.Decls forms ∷ [])) 0
unfolding table
synthesized_row forms at d = refl

pub inherited_row : (forms : Forms) (at : Place) (d : ℕ) → table (want.Decls forms) d (Some (word (codes "inh") at)) ≡ Takes true (declared forms (want.Mark (codes ";") ∷ want.Decls forms ∷ [])) 0
unfolding table
inherited_row forms at d = refl

pub equation_row : (forms : Forms) (at : Place) (d : ℕ) → table (want.Decls forms) d (Some (word (codes "eq") at))
    ≡ Takes true (want.Name ∷ want.Mark (codes ".") ∷ want.Signed ∷ want.Defined ∷ want.Decls forms ∷ []) 0
unfolding table
equation_row forms at d = refl

pub dot_row : (at : Place) → table want.Defined 0 (Some (sign (codes ".") at)) ≡ Takes true (want.Signed ∷ want.Body ∷ []) 0
unfolding table
dot_row at = refl

-- an index as parameters
abbrev IsIndexed : Row → Row → Type 0
IsIndexed list rest = (ps : List Param) × (end : Place) × (is_getter ps ≡ true) × Listed ps end list rest

indexed : (i : Option Word) (list rest : Row) → Index i list rest → IsIndexed list rest
indexed None list rest (end, h) = ([], end, refl, h)
indexed (Some w) list rest (one, close, k, n, c) = (record { kind = record { kind = syntax.Int; at = k.0 }; name = w } ∷ [], c.0, refl, (close, (one, (tt, k.1), n), c.1))

pub getter_goes : (l : Bool) (getter : Word) (i : Option Word) (old rest : Row) → (dot : Row) → (paren list : Row)
    → grammar.Name getter old paren → Opens getter.text paren list → IsIndexed list dot
    → PassTo l (want.Signed ∷ []) 0 old dot
getter_goes l getter i old rest dot paren list n o (ps, end, is, h) =
    subst (λ (e : ℕ). PassTo l (want.Signed ∷ []) e old dot) (ap (λ b. cond {A = ℕ} b 0 1) is) (signature_goes l getter (record { items = ps; end = end }) old dot (paren, list, n, o, h))

pub getter_then : (l : Bool) (us : List Want) (at : Place) (old dot called rest : Row)
    → PassTo l (want.Signed ∷ []) 0 old dot → dot ≡ sign (codes ".") at ∷ called
    → Pass l (want.Signed ∷ want.Body ∷ us) called rest → Pass l (want.Signed ∷ want.Defined ∷ us) old rest
getter_then l us at old dot called rest p e q ws d =
    let a = q ws 0 in (
      a.0,
      p (want.Defined ∷ (us ++ ws)) d ∙ ap (run l table (want.Defined ∷ (us ++ ws)) 0) e
          ∙ run-takes l table want.Defined true (want.Signed ∷ want.Body ∷ []) (us ++ ws) 0 0 (sign (codes ".") at) called
          (dot_row at) (λ h. refl) ∙ a.1,
    )

-- Where these are wanted, the machine comes to where those are.
abbrev pub Comes : Bool → List Want → List Want → Row → Row → Type 0
Comes l us vs old rest = (ws : List Want) (d : ℕ) → (e : ℕ) × (run l table (us ++ ws) d old ≡ run l table (vs ++ ws) e rest)

decl_comes : (forms : Forms) (l : Bool) (us : List Want) (t : PlacedToken) (old behind more : Row) → old ≡ t ∷ behind
    → ((ws : List Want) (d : ℕ) → run l table (want.Decls forms ∷ ws) d (t ∷ behind) ≡ run l table (us ++ want.Decls
    forms ∷ ws) 0 behind) → Pass l us behind more → Comes l (want.Decls forms ∷ []) (want.Decls forms ∷ []) old more
decl_comes forms l us t old behind more e row p ws d = let a = p (want.Decls forms ∷ ws) 0 in (a.0, ap (run l table (want.Decls forms ∷ ws) d) e ∙ row ws d ∙ a.1)

behind_comes : (forms : Forms) (l : Bool) (f : DeclForm) (at : Place) (old behind more : Row)
    → (l ≡ true → nesting f ≤ max_nesting) → old ≡ word (grammar.keyword f) at ∷ behind → Behind forms f behind more
    → Comes l (want.Decls forms ∷ []) (want.Decls forms ∷ []) old more
behind_comes forms l (syntax.Synthesized lazy k class name ps start ending) at old behind more fits e (end, h, z) =
    decl_comes forms l (declared forms (want.Ending ∷ [])) (word (codes "syn") at) old behind more e
    (λ ws d. run-takes l table (want.Decls forms) true (declared forms (want.Ending ∷ want.Decls forms ∷ [])) ws d 0
    (word (codes "syn") at) behind (synthesized_row forms at d) (λ h. refl))
    (declared_then l forms (want.Ending ∷ []) lazy k class name ps start behind end more h (no_circular ending end more z) (ending_goes l ending end more fits z))
behind_comes forms l (syntax.Inherited lazy k class name ps start) at old behind more fits e (end, h, z) =
    decl_comes forms l (declared forms (want.Mark (codes ";") ∷ [])) (word (codes "inh") at) old behind more e (λ ws d.
    run-takes l table (want.Decls forms) true (declared forms (want.Mark (codes ";") ∷ want.Decls forms ∷ [])) ws d
    0 (word (codes "inh") at) behind (inherited_row forms at d) (λ h. refl))
    (declared_then l forms (want.Mark (codes ";") ∷ []) lazy k class name ps start behind end more h (ap (λ r. next (is_word (codes "circular")) (first r)) z.1) (mark_pass l (codes ";") end more z))
behind_comes forms l (syntax.Equation class name ps b) at old behind more fits e (called, body, o, s, z) =
    decl_comes forms l (want.Name ∷ want.Mark (codes ".") ∷ want.Signed ∷ want.Defined ∷ []) (word (codes "eq") at) old behind more e
    (λ ws d. run-takes l table (want.Decls forms) true (want.Name ∷ want.Mark (codes ".") ∷ want.Signed ∷ want.Defined ∷
    want.Decls forms ∷ []) ws d 0 (word (codes "eq") at) behind (equation_row forms at d) (λ h. refl))
    (owner_then l (want.Signed ∷ want.Defined ∷ []) class behind called more o (pass_then l want.Signed
    (want.Defined ∷ []) called body more (signed_pass l name ps called body s) (defined_goes l b body more fits z)))
behind_comes forms l (syntax.InheritedEquation class getter i name ps b) at old behind more fits e (got, called, body, o, (paren, list, dot, n, opens, x, s), g, z) =
    decl_comes forms l (want.Name ∷ want.Mark (codes ".") ∷ want.Signed ∷ want.Defined ∷ []) (word (codes "eq") at) old behind more e
    (λ ws d. run-takes l table (want.Decls forms) true (want.Name ∷ want.Mark (codes ".") ∷ want.Signed ∷ want.Defined ∷
    want.Decls forms ∷ []) ws d 0 (word (codes "eq") at) behind (equation_row forms at d) (λ h. refl))
    (owner_then l (want.Signed ∷ want.Defined ∷ []) class behind got more o
    (getter_then l [] s.0 got dot called more (getter_goes l getter i got more dot paren list n opens (indexed i list dot x)) s.1
    (pass_then l want.Signed (want.Body ∷ []) called body more (signed_pass l name ps called body g) (body_goes l b body more fits z))))

pub decls_come : (forms : Forms) (l : Bool) (ds : List Decl) (old rest : Row) → (l ≡ true → AllByRecursion NestsWithin
    ds) → grammar.Decls forms ds old rest → Comes l (want.Decls forms ∷ []) (want.Decls forms ∷ []) old rest
decls_come forms l [] old rest fits e ws d = (d, ap (run l table (want.Decls forms ∷ ws) d) e)
decls_come forms l (x ∷ ds) old rest fits (more, (behind, e, h), k) ws d =
    let a = behind_comes forms l x.form x.at old behind more (λ e. (fits e).0) e h ws d in
    let b = decls_come forms l ds more rest (λ e. (fits e).1) k ws a.0 in
    (b.0, a.1 ∙ b.1)

decls_end : (forms : Forms) (l : Bool) (close rest : Row) → Sign (codes "}") close rest → Pass l (want.Decls forms ∷ []) close rest
unfolding table
decls_end forms l close rest s = pass_takes l (want.Decls forms) [] (sign (codes "}") s.0) close rest rest s.1 (λ d. (0, refl)) (pass_none l rest)

decls_pass : (forms : Forms) (l : Bool) (ds : List Decl) (old close rest : Row) → (l ≡ true → AllByRecursion NestsWithin
    ds) → grammar.Decls forms ds old close → Sign (codes "}") close rest → Pass l (want.Decls forms ∷ []) old rest
decls_pass forms l ds old close rest fits h s ws d =
    let a = decls_come forms l ds old close fits h ws d in
    let b = decls_end forms l close rest s ws a.0 in
    (b.0, a.1 ∙ b.1)

pub aspect_row : (forms : Forms) (at : Place) (d : ℕ) → table (want.File forms) d (Some (word (codes "aspect") at))
    ≡ Takes true (want.Name ∷ want.Mark (codes "{") ∷ want.Decls forms ∷ want.File forms ∷ []) 0
unfolding table
aspect_row forms at d = refl

-- whole aspects are gone over, and more of them are wanted
pub file_comes : (forms : Forms) (l : Bool) (as' : List Aspect) (old rest : Row) → (l ≡ true → IsWithin as') → File forms as' old rest → Comes l (want.File forms ∷ []) (want.File forms ∷ []) old rest
file_comes forms l [] old rest fits e ws d = (d, ap (run l table (want.File forms ∷ ws) d) e)
file_comes forms l (a ∷ as') old rest fits (more, (named, brace, inner, close, k, n, b, h, c), t) ws d =
    let p = pass_then l want.Name (want.Mark (codes "{") ∷ want.Decls forms ∷ []) named brace more (name_pass l a.name named brace n)
    (pass_then l (want.Mark (codes "{")) (want.Decls forms ∷ []) brace inner more (mark_pass l (codes "{") brace inner b) (decls_pass forms l a.decls inner close more (λ e. (fits e).0) h c)) in
    let q = p (want.File forms ∷ ws) 0 in
    let r = file_comes forms l as' more rest (λ e. (fits e).1) t ws q.0 in (
      r.0,
      ap (run l table (want.File forms ∷ ws) d) k.1 ∙ run-takes l table (want.File forms) true
          (want.Name ∷ want.Mark (codes "{") ∷ want.Decls forms ∷ want.File forms ∷ []) ws d 0 (word (codes "aspect") k.0)
          named (aspect_row forms k.0 d) (λ h. refl) ∙ q.1 ∙ r.1,
    )

ends_whole : (forms : Forms) (l : Bool) (d : ℕ) → run l table (want.File forms ∷ []) d [] ≡ Whole
unfolding run table
ends_whole forms l d = refl

pub file_taken : (forms : Forms) (l : Bool) (as' : List Aspect) (old : Row) → (l ≡ true → IsWithin as') → File forms as' old [] → (d : ℕ) → run l table (want.File forms ∷ []) d old ≡ Whole
file_taken forms l as' old fits h d = let r = file_comes forms l as' old [] fits h [] d in r.1 ∙ ends_whole forms l r.0
