-- Laws of reading: a run's steps, the first fault, and how reading a form follows from reading its parts.
use Rattle.std.proofs.Common.{◌≡◌, suc, List, [], ◌∷◌, ◌++◌, true, false, Option, Some, None, Result, Ok, Err, length, map, refl, sym, ap, subst, ◌∙◌, append_assoc, arith, inl, inr}
use Rattle.std.specs.Prelude.{◌⊎◌}
use Rattle.std.specs.List.{flat_map, AllByRecursion}
use Rattle.std.proofs.lemmas.List.{append-nil, map_push}
use Rattle.std.proofs.lemmas.Grind.{flat_map-append}
use Rattle.std.proofs.lemmas.List.Concat.{flat_map-cons}
use Rattle.at_text.specs.Machine.{Reason, Refused, LeftOut, TooDeep, Refuses, LeavesOut, and_then, is_skip, Whole, Stuck}
use Rattle.at_text.specs.Reading.{first, Begins, IsFirstFault, Table, takes, skips, by_next, run, Form, Reads, IsReason, Stops, Fails, Parses}
use Rattle.at_text.proofs.MachineLaws as machine

-- ---- one step of a run

-- the form takes the next symbol
pub run-takes : {S W : Type 0} (table : Table S W) (w : W) (more ws : List W) (s : S) (ss : List S) → table w (Some s) ≡ takes more → run table (w ∷ ws) (s ∷ ss) ≡ run table (more ++ ws) ss
run-takes table w more ws s ss e = machine.run-takes true (by_next table) w true more ws 0 0 s ss e (λ _. refl)

-- the form is there without it
pub run-skips : {S W : Type 0} (table : Table S W) (w : W) (ws : List W) (ss : List S) → table w (first ss) ≡ skips → run table (w ∷ ws) ss ≡ run table ws ss
run-skips table w ws ss e = machine.run-skips true (by_next table) w ws 0 0 ss e

-- here begins what is left out
pub run-leaves_out : {S W : Type 0} (table : Table S W) (w : W) (ws : List W) (s : S) (ss : List S) → table w (Some s) ≡ LeavesOut → run table (w ∷ ws) (s ∷ ss) ≡ Stuck LeftOut (s ∷ ss)
run-leaves_out table w ws s ss e = machine.run-leaves_out true (by_next table) w ws 0 s ss e

-- two forms with one answer go on alike
pub run-same : {S W : Type 0} (table : Table S W) (w v : W) (ws : List W) (ss : List S) → table w (first ss) ≡ table v (first ss) → run table (w ∷ ws) ss ≡ run table (v ∷ ws) ss
run-same table w v ws ss e = machine.run-same true (by_next table) w v ws 0 ss e

-- a form that begins with another and goes on with us
pub run-begins : {S W : Type 0} (table : Table S W) (w v : W) (us ws : List W) (ss : List S)
    → table w (first ss) ≡ and_then (table v (first ss)) us → is_skip (table v (first ss)) ≡ false
    → run table (w ∷ ws) ss ≡ run table (v ∷ (us ++ ws)) ss
run-begins table w v us ws ss e h = machine.run-begins true (by_next table) w v us ws 0 ss e h

-- ---- the first fault

-- where reading a form stops, is its first fault, if what it spells is taken whole
pub first_fault : {S W V : Type 0} (table : Table S W) (form : Form S W V) (r : Reason) (old rest : List S)
    → ((v : V) → form.Is v → run table (form.want ∷ []) (form.spell v) ≡ Whole) → (s : Stops table form r old rest)
    → IsFirstFault form.Is form.spell s.front rest
first_fault table form r old rest accepts s = record {
  begins = s.begins;
  ends = λ v other is same text.
      let stuck : run table (form.want ∷ []) (s.front ++ other) ≡ Stuck r other = machine.one_ahead true (by_next table)
      r (form.want ∷ []) 0 s.front rest other same (sym (ap (run table (form.want ∷ [])) s.split) ∙ s.stuck []) in
      let whole : run table (form.want ∷ []) (s.front ++ other) ≡ Whole = sym (ap (run table (form.want ∷ [])) text) ∙ accepts v is in
      absurd cc;
}

-- ---- one text has one first fault

-- two ways to cut a list: at one place, or one behind the other
cut_apart : {S : Type 0} (a b x y : List S) → a ++ x ≡ b ++ y
    → (length a ≡ length b) ⊎ (((s : S) × (z : List S) × (b ≡ a ++ s ∷ z) × (first x ≡ Some s)) ⊎ ((s : S) × (z : List S) × (a ≡ b ++ s ∷ z) × (first y ≡ Some s)))
cut_apart [] [] x y e = inl refl
cut_apart [] (t ∷ b) x y e = inr (inl (t, b, refl, ap first e))
cut_apart (s ∷ a) [] x y e = inr (inr (s, a, refl, ap first (sym e)))
cut_apart {S} (s ∷ a) (t ∷ b) x y e =
    let same : s ≡ t = cc in
    let rest : a ++ x ≡ b ++ y = cc in
    elim (cut_apart a b x y rest) [
      | inl l ↦ inl (ap suc l)
      | inr h ↦ inr (elim h [
        | inl k ↦ inl (k.0, k.1, (λ i. sym same i ∷ k.2 i), k.3)
        | inr k ↦ inr (k.0, k.1, (λ i. same i ∷ k.2 i), k.3)
      ])
    ]

no_later_fault : {S V : Type 0} (Is : V → Type 0) (spell : V → List S) (a x b : List S) (s : S) (z : List S) → IsFirstFault Is spell a x → Begins Is spell b → b ≡ a ++ s ∷ z → first x ≡ Some s → ⊥
no_later_fault Is spell a x b s z f begins e at = f.ends begins.0 (s ∷ (z ++ begins.1)) begins.2 (sym at) (begins.3 ∙ ap (λ l. l ++ begins.1) e ∙ append_assoc a (s ∷ z) begins.1)

pub one_first_fault : {S V : Type 0} (Is : V → Type 0) (spell : V → List S) (a x b y : List S) → IsFirstFault Is spell a x → IsFirstFault Is spell b y → a ++ x ≡ b ++ y → length a ≡ length b
one_first_fault Is spell a x b y f g e = elim (cut_apart a b x y e) [
  | inl l ↦ l
  | inr h ↦ elim h [
    | inl k ↦ absurd (no_later_fault Is spell a x b k.0 k.1 f g.begins k.2 k.3)
    | inr k ↦ absurd (no_later_fault Is spell b y a k.0 k.1 g f.begins k.2 k.3)
  ]
]

pub cut_once : {X : Type 0} (a b x y : List X) → length a ≡ length b → a ++ x ≡ b ++ y → (a ≡ b) × (x ≡ y)
cut_once [] [] x y l e = (refl, e)
cut_once [] (t ∷ b) x y l e = absurd (omega arith)
cut_once (s ∷ a) [] x y l e = absurd (omega arith)
cut_once (s ∷ a) (t ∷ b) x y l e =
    let same : s ≡ t = cc in
    let rest : a ++ x ≡ b ++ y = cc in
    let r = cut_once a b x y (omega arith) rest in
    ((λ i. same i ∷ r.0 i), r.1)

-- ---- any forms

-- The form stops at once, since its next symbol begins none.
pub stops_here : {S W V : Type 0} (table : Table S W) (form : Form S W V) (v : V) (old : List S) → form.Is v → table form.want (first old) ≡ Refuses → Stops table form Refused old old
stops_here table form v old is e = record { front = []; split = refl; begins = (v, form.spell v, is, refl); why = tt; stuck = λ ws. machine.run-refuses true (by_next table) form.want ws 0 old e }

-- The form stops at once, since its next symbol begins what is left out.
pub leaves_here : {S W V : Type 0} (table : Table S W) (form : Form S W V) (v : V) (old : List S) (s : S)
    → first old ≡ Some s → form.Is v → table form.want (Some s) ≡ LeavesOut → form.LeavesAt [] (Some s)
    → Stops table form LeftOut old old
leaves_here table form v [] s e is leaves at = absurd cc
leaves_here {S = S} table form v (x ∷ rest) s e is leaves at =
    let same : s ≡ x = cc in
    record {
      front = [];
      split = refl;
      begins = (v, form.spell v, is, refl);
      why = subst (λ (y : S). form.LeavesAt [] (Some y)) same at;
      stuck = λ ws. run-leaves_out table form.want ws x rest (ap (λ y. table form.want (Some y)) (sym same) ∙ leaves);
    }

reason_within : {S W U V : Type 0} (inner : Form S W U) (form : Form S W V) (r : Reason) (before front rest : List S)
    → ((xs : List S) (s : Option S) → inner.LeavesAt xs s → form.LeavesAt (before ++ xs) s)
    → IsReason inner r front rest → IsReason form r (before ++ front) rest
reason_within inner form Refused before front rest leaves why = tt
reason_within inner form LeftOut before front rest leaves why = leaves front (first rest) why
reason_within inner form TooDeep before front rest leaves why = why

-- A form stops where a part of it does: before the part stood this, and a value of the part is made to one of the form.
pub stops_within : {S W U V : Type 0} (table : Table S W) (inner : Form S W U) (form : Form S W V) (r : Reason) (old mid rest before : List S) (us : List W) (make : U → V) (tail : List S)
    → old ≡ before ++ mid → ((ws : List W) → run table (form.want ∷ ws) old ≡ run table (inner.want ∷ (us ++ ws)) mid)
    → ((u : U) → inner.Is u → form.Is (make u)) → ((u : U) → form.spell (make u) ≡ before ++ (inner.spell u ++ tail))
    → ((xs : List S) (s : Option S) → inner.LeavesAt xs s → form.LeavesAt (before ++ xs) s)
    → Stops table inner r mid rest → Stops table form r old rest
stops_within table inner form r old mid rest before us make tail split goes is spelled leaves s = record {
  front = before ++ s.front;
  split = split ∙ ap (λ l. before ++ l) s.split ∙ sym (append_assoc before s.front rest);
  begins = (
    make s.begins.0,
    s.begins.1 ++ tail,
    is s.begins.0 s.begins.2,
    spelled s.begins.0 ∙ ap (λ l. before ++ (l ++ tail)) s.begins.3 ∙ ap (λ l. before ++ l) (append_assoc s.front s.begins.1 tail) ∙ sym (append_assoc before s.front (s.begins.1 ++ tail)),
  );
  why = reason_within inner form r before s.front rest leaves s.why;
  stuck = λ ws. goes ws ∙ s.stuck (us ++ ws);
}

-- what a call on a part returned, carried to the form
pub fails_on : {S W U V : Type 0} (table : Table S W) (inner : Form S W U) (form : Form S W V) (r : Option Reason)
    (old mid rest : List S) → ((q : Reason) → Stops table inner q mid rest → Stops table form q old rest)
    → Fails table inner r mid rest → Fails table form r old rest
fails_on table inner form None old mid rest stops f = tt
fails_on table inner form (Some q) old mid rest stops f = stops q f

pub parses_on : {S W U V A E : Type 0} (table : Table S W) (reason : E → Option Reason) (inner : Form S W U)
    (form : Form S W V) (M : U → A → Type 0) (N : V → A → Type 0) (r : Result A E) (old mid rest : List S)
    → ((u : U) (a : A) → M u a → Reads table inner u mid rest → (v : V) × N v a × Reads table form v old rest) → ((q : Reason) → Stops table inner q mid rest → Stops table form q old rest)
    → Parses table reason inner M r mid rest → Parses table reason form N r old rest
parses_on table reason inner form M N (Ok a) old mid rest reads stops p = reads p.0 a p.1 p.2
parses_on table reason inner form M N (Err e) old mid rest reads stops p = fails_on table inner form (reason e) old mid rest stops p

-- the same symbols under another name
pub stops_at : {S W V : Type 0} (table : Table S W) (form : Form S W V) (r : Reason) (mid old rest : List S) → mid ≡ old → Stops table form r mid rest → Stops table form r old rest
stops_at {S} {W} {V} table form r mid old rest e s = subst (λ (x : List S). Stops table form r x rest) e s

pub reads_at : {S W V : Type 0} (table : Table S W) (form : Form S W V) (v : V) (mid old rest : List S) → mid ≡ old → Reads table form v mid rest → Reads table form v old rest
reads_at {S} {W} {V} table form v mid old rest e s = subst (λ (x : List S). Reads table form v x rest) e s

-- ---- one form after another, as a loop reads them

-- the forms that a loop has read, and that more of them are wanted
pub record Many {S W U : Type 0} (table : Table S W) (one : Form S W U) (want : W) (old rest : List S) : Type 0 where
  pub items : List U
  pub are : AllByRecursion one.Is items
  pub text : old ≡ flat_map one.spell items ++ rest
  pub goes : (ws : List W) → run table (want ∷ ws) old ≡ run table (want ∷ ws) rest

abbrev pub many_none : {S W U : Type 0} (table : Table S W) (one : Form S W U) (want : W) (old : List S) → Many table one want old old
many_none table one want old = record { items = []; are = tt; text = refl; goes = λ ws. refl }

pub all_push : {U : Type 0} (P : U → Type 0) (us : List U) (u : U) → AllByRecursion P us → P u → AllByRecursion P (us ++ u ∷ [])
all_push P [] u h p = (p, tt)
all_push P (x ∷ xs) u h p = (h.0, all_push P xs u h.1 p)

pub all_append : {U : Type 0} (P : U → Type 0) (us vs : List U) → AllByRecursion P us → AllByRecursion P vs → AllByRecursion P (us ++ vs)
all_append P [] vs h k = k
all_append P (u ∷ us) vs h k = (h.0, all_append P us vs h.1 k)

pub one_more : {S U : Type 0} (f : U → List S) (us : List U) (u : U) → flat_map f (us ++ u ∷ []) ≡ flat_map f us ++ f u
one_more f us u = flat_map-append f us (u ∷ []) ∙ ap (λ l. flat_map f us ++ l) (flat_map-cons f u [] ∙ append-nil (f u))

abbrev pub many_more : {S W U : Type 0} (table : Table S W) (one : Form S W U) (want : W) (u : U)
    (old mid rest : List S) → (m : Many table one want old mid) → ((ws : List W) → run table (want ∷ ws) mid
    ≡ run table (one.want ∷ want ∷ ws) mid) → Reads table one u mid rest → Many table one want old rest
many_more table one want u old mid rest m begins r = record {
  items = m.items ++ u ∷ [];
  are = all_push one.Is m.items u m.are r.is;
  text = m.text ∙ ap (λ l. flat_map one.spell m.items ++ l) r.text ∙ sym (append_assoc (flat_map one.spell m.items) (one.spell u) rest) ∙ ap (λ l. l ++ rest) (sym (one_more one.spell m.items u));
  goes = λ ws. m.goes ws ∙ begins ws ∙ r.goes (want ∷ ws);
}

pub pushed : {X Y V : Type 0} (f : X → Y) (g : V → Y) (xs : List X) (vs : List V) (x : X) (v : V) → map f xs ≡ map g vs → f x ≡ g v → map f (xs ++ x ∷ []) ≡ map g (vs ++ v ∷ [])
pushed f g xs vs x v e h = map_push f xs x ∙ ap (λ l. l ++ f x ∷ []) e ∙ ap (λ y. map g vs ++ y ∷ []) h ∙ sym (map_push g vs v)

pub parses_at : {S W V A E : Type 0} (table : Table S W) (reason : E → Option Reason) (form : Form S W V)
    (M : V → A → Type 0) (r : Result A E) (mid old rest : List S) → mid ≡ old → Parses table reason form M r mid rest
    → Parses table reason form M r old rest
parses_at {S} {W} {V} {A} {E} table reason form M r mid old rest e p = subst (λ (x : List S). Parses table reason form M r x rest) e p
