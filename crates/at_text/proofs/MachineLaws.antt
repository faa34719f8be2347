-- Laws of the machine with a limit: a run's steps, that it looks no further than the next symbol, and what a limited run
-- says of the one without a limit.
use Rattle.std.proofs.Common.{◌≡◌, ℕ, suc, ◌≤◌, List, [], ◌∷◌, ◌++◌, Bool, true, false, cond, Some, None, length, refl, sym, ap, ◌∙◌, length-append, append_assoc, arith, inl, inr}
use Rattle.std.specs.Prelude.{◌||◌, not, ◌⊎◌}
use Rattle.at_text.specs.Reading.{first}
use Rattle.at_text.specs.Machine.{Reason, Refused, LeftOut, TooDeep, Answer, Takes, Skips, Refuses, LeavesOut, and_then, is_skip, Table, Move, Goes, Halts, answered, after, ended, may_end, Outcome, Whole, Stuck, run}

-- ---- one step of a run

-- a run goes on by what is wanted after the symbol
abbrev pub goes_on : {S W : Type 0} → Bool → Table S W → Move W → S → List S → Outcome S
goes_on limited table m s ss = elim m [ Goes more e ↦ run limited table more e ss | Halts reason ↦ Stuck reason (s ∷ ss) ]

pub run-cons : {S W : Type 0} (limited : Bool) (table : Table S W) (ws : List W) (d : ℕ) (s : S) (ss : List S)
    → run limited table ws d (s ∷ ss) ≡ goes_on limited table (after limited table ws d s) s ss
unfolding run
run-cons limited table ws d s ss = refl

-- the answer to the next symbol, or to the end, decides
pub run-answer : {S W : Type 0} (limited : Bool) (table : Table S W) (w : W) (ws : List W) (d : ℕ) (s : S) (ss : List S) (a : Answer W) → table w d (Some s) ≡ a
    → run limited table (w ∷ ws) d (s ∷ ss) ≡ goes_on limited table (answered limited a ws (λ e. after limited table ws e s)) s ss
run-answer limited table w ws d s ss a h = run-cons limited table (w ∷ ws) d s ss ∙ ap (λ x. goes_on limited table (answered limited x ws (λ e. after limited table ws e s)) s ss) h

pub run-ends : {S W : Type 0} (limited : Bool) (table : Table S W) (w : W) (ws : List W) (d : ℕ) (a : Answer W) → table w d None ≡ a
    → run limited table (w ∷ ws) d [] ≡ cond (ended a (λ e. may_end table ws e)) Whole (Stuck Refused [])
unfolding run
run-ends limited table w ws d a h = ap (λ x. cond (ended x (λ e. may_end table ws e)) Whole (Stuck Refused [])) h

passes : (limited within : Bool) → (limited ≡ true → within ≡ true) → within || not limited ≡ true
passes limited true h = refl
passes false false h = refl
passes true false h = h refl

-- the want takes the next symbol, within the limit if there is one
pub run-takes : {S W : Type 0} (limited : Bool) (table : Table S W) (w : W) (within : Bool) (more ws : List W) (d e : ℕ)
    (s : S) (ss : List S) → table w d (Some s) ≡ Takes within more e → (limited ≡ true → within ≡ true)
    → run limited table (w ∷ ws) d (s ∷ ss) ≡ run limited table (more ++ ws) e ss
run-takes limited table w within more ws d e s ss h fits =
    run-answer limited table w ws d s ss (Takes within more e) h ∙ ap (λ b. goes_on limited table (cond b (Goes (more ++ ws) e) (Halts TooDeep)) s ss) (passes limited within fits)

-- the symbol isn't within the limit
pub run-too_deep : {S W : Type 0} (table : Table S W) (w : W) (more ws : List W) (d e : ℕ) (s : S) (ss : List S)
    → table w d (Some s) ≡ Takes false more e → run true table (w ∷ ws) d (s ∷ ss) ≡ Stuck TooDeep (s ∷ ss)
run-too_deep table w more ws d e s ss h = run-answer true table w ws d s ss (Takes false more e) h

-- the want is there without the symbol
pub run-skips : {S W : Type 0} (limited : Bool) (table : Table S W) (w : W) (ws : List W) (d e : ℕ) (ss : List S)
    → table w d (first ss) ≡ Skips e → run limited table (w ∷ ws) d ss ≡ run limited table ws e ss
unfolding run
run-skips limited table w ws d e [] h = run-ends limited table w ws d (Skips e) h
run-skips limited table w ws d e (s ∷ ss) h = run-answer limited table w ws d s ss (Skips e) h

-- the want can't go on
pub run-refuses : {S W : Type 0} (limited : Bool) (table : Table S W) (w : W) (ws : List W) (d : ℕ) (ss : List S) → table w d (first ss) ≡ Refuses → run limited table (w ∷ ws) d ss ≡ Stuck Refused ss
run-refuses limited table w ws d [] h = run-ends limited table w ws d Refuses h
run-refuses limited table w ws d (s ∷ ss) h = run-answer limited table w ws d s ss Refuses h

-- here begins what is left out
pub run-leaves_out : {S W : Type 0} (limited : Bool) (table : Table S W) (w : W) (ws : List W) (d : ℕ) (s : S)
    (ss : List S) → table w d (Some s) ≡ LeavesOut → run limited table (w ∷ ws) d (s ∷ ss) ≡ Stuck LeftOut (s ∷ ss)
run-leaves_out limited table w ws d s ss h = run-answer limited table w ws d s ss LeavesOut h

none_ended : {W : Type 0} (a : Answer W) (skipped : ℕ → Bool) → is_skip a ≡ false → ended a skipped ≡ false
none_ended (Takes within more d) skipped h = refl
none_ended (Skips d) skipped h = absurd cc
none_ended Refuses skipped h = refl
none_ended LeavesOut skipped h = refl

-- the text ends where the want has more to come
pub run-ended : {S W : Type 0} (limited : Bool) (table : Table S W) (w : W) (ws : List W) (d : ℕ) → is_skip (table w d None) ≡ false → run limited table (w ∷ ws) d [] ≡ Stuck Refused []
run-ended limited table w ws d h = run-ends limited table w ws d (table w d None) refl ∙ ap (λ b. cond b Whole (Stuck Refused [])) (none_ended (table w d None) (λ e. may_end table ws e) h)

-- ---- wants that go on alike

begins : {S W : Type 0} (limited : Bool) (table : Table S W) (a : Answer W) (w v : W) (us ws : List W) (d : ℕ)
    (ss : List S) → table w d (first ss) ≡ and_then a us → table v d (first ss) ≡ a → is_skip a ≡ false
    → run limited table (w ∷ ws) d ss ≡ run limited table (v ∷ (us ++ ws)) d ss
begins limited table (Skips x) w v us ws d ss e f h = absurd cc
begins limited table Refuses w v us ws d ss e f h = run-refuses limited table w ws d ss e ∙ sym (run-refuses limited table v (us ++ ws) d ss f)
begins limited table LeavesOut w v us ws d [] e f h = run-ended limited table w ws d (ap is_skip e) ∙ sym (run-ended limited table v (us ++ ws) d (ap is_skip f))
begins limited table LeavesOut w v us ws d (s ∷ ss) e f h = run-leaves_out limited table w ws d s ss e ∙ sym (run-leaves_out limited table v (us ++ ws) d s ss f)
begins limited table (Takes within more x) w v us ws d [] e f h = run-ended limited table w ws d (ap is_skip e) ∙ sym (run-ended limited table v (us ++ ws) d (ap is_skip f))
begins limited table (Takes within more x) w v us ws d (s ∷ ss) e f h =
    run-answer limited table w ws d s ss (Takes within (more ++ us) x) e
    ∙ ap (λ l. goes_on limited table (cond (within || not limited) (Goes l x) (Halts TooDeep)) s ss) (append_assoc more us ws)
    ∙ sym (run-answer limited table v (us ++ ws) d s ss (Takes within more x) f)

-- a want that begins with another and goes on with us
pub run-begins : {S W : Type 0} (limited : Bool) (table : Table S W) (w v : W) (us ws : List W) (d : ℕ) (ss : List S)
    → table w d (first ss) ≡ and_then (table v d (first ss)) us → is_skip (table v d (first ss)) ≡ false
    → run limited table (w ∷ ws) d ss ≡ run limited table (v ∷ (us ++ ws)) d ss
run-begins limited table w v us ws d ss e h = begins limited table (table v d (first ss)) w v us ws d ss e refl h

-- two wants with one answer go on alike
pub run-same : {S W : Type 0} (limited : Bool) (table : Table S W) (w v : W) (ws : List W) (d : ℕ) (ss : List S)
    → table w d (first ss) ≡ table v d (first ss) → run limited table (w ∷ ws) d ss ≡ run limited table (v ∷ ws) d ss
run-same limited table w v ws d [] h = run-ends limited table w ws d (table v d None) h ∙ sym (run-ends limited table v ws d (table v d None) refl)
run-same limited table w v ws d (s ∷ ss) h = run-answer limited table w ws d s ss (table v d (Some s)) h ∙ sym (run-answer limited table v ws d s ss (table v d (Some s)) refl)

-- ---- where a run is stuck, it has looked at no more than the next symbol

pub none_longer : {S : Type 0} (f : S) (front rest : List S) → f ∷ (front ++ rest) ≡ rest → ⊥
none_longer f front rest e = let l : suc (length (front ++ rest)) ≡ length rest = ap length e in omega (arith, length-append front rest)

pub stuck_is : {S : Type 0} (r q : Reason) (xs ys : List S) → Stuck r xs ≡ Stuck q ys → xs ≡ ys
stuck_is r q xs ys e = cc

halts_alike : {S : Type 0} (r q : Reason) (xs ys : List S) → Stuck r xs ≡ Stuck q ys → r ≡ q
halts_alike r q xs ys e = cc

ahead : {S W : Type 0} (limited : Bool) (table : Table S W) (r : Reason) (m : Move W) (f : S) (front rest other : List S)
    → ((ws : List W) (d : ℕ) → run limited table ws d (front ++ rest) ≡ Stuck r rest → run limited table ws d (front ++ other) ≡ Stuck r other)
    → goes_on limited table m f (front ++ rest) ≡ Stuck r rest → goes_on limited table m f (front ++ other) ≡ Stuck r other
ahead limited table r (Halts q) f front rest other ih h = absurd (none_longer f front rest (stuck_is q r _ _ h))
ahead limited table r (Goes more e) f front rest other ih h = ih more e h

ends_within : {S : Type 0} (b : Bool) (r : Reason) (left : List S) → cond b Whole (Stuck Refused []) ≡ Stuck r left → length left ≤ 0
ends_within true r left h = absurd cc
ends_within false r left h = let l : 0 ≡ length left = ap length (stuck_is Refused r _ _ h) in omega arith

left_within : {S W : Type 0} (limited : Bool) (table : Table S W) (r : Reason) (m : Move W) (s : S) (ss left : List S)
    → ((ws : List W) (d : ℕ) (xs : List S) → run limited table ws d ss ≡ Stuck r xs → length xs ≤ length ss)
    → goes_on limited table m s ss ≡ Stuck r left → length left ≤ suc (length ss)
left_within limited table r (Halts q) s ss left ih h = let l : suc (length ss) ≡ length left = ap length (stuck_is q r _ _ h) in omega arith
left_within limited table r (Goes more e) s ss left ih h = let l = ih more e left h in omega arith

stuck_within : {S W : Type 0} (limited : Bool) (table : Table S W) (r : Reason) (ws : List W) (d : ℕ) (ss left : List S) → run limited table ws d ss ≡ Stuck r left → length left ≤ length ss
unfolding run
stuck_within limited table r ws d [] left h = ends_within (may_end table ws d) r left h
stuck_within limited table r ws d (s ∷ ss) left h = left_within limited table r (after limited table ws d s) s ss left (λ vs e xs k. stuck_within limited table r vs e ss xs k) h

ends_behind : {S : Type 0} (b : Bool) (r : Reason) (left : List S) → cond b Whole (Stuck Refused []) ≡ Stuck r left → (front : List S) × ([] ≡ front ++ left)
ends_behind true r left h = absurd cc
ends_behind false r left h = ([], stuck_is Refused r [] left h)

behind_on : {S W : Type 0} (limited : Bool) (table : Table S W) (r : Reason) (m : Move W) (s : S) (ss left : List S)
    → ((ws : List W) (d : ℕ) (xs : List S) → run limited table ws d ss ≡ Stuck r xs
    → (front : List S) × (ss ≡ front ++ xs)) → goes_on limited table m s ss ≡ Stuck r left
    → (front : List S) × (s ∷ ss ≡ front ++ left)
behind_on limited table r (Halts q) s ss left ih h = ([], stuck_is q r (s ∷ ss) left h)
behind_on limited table r (Goes more e) s ss left ih h = let f = ih more e left h in (s ∷ f.0, ap (λ l. s ∷ l) f.1)

-- what is left where a run is stuck ends the symbols
pub stuck_behind : {S W : Type 0} (limited : Bool) (table : Table S W) (r : Reason) (ws : List W) (d : ℕ)
    (ss left : List S) → run limited table ws d ss ≡ Stuck r left → (front : List S) × (ss ≡ front ++ left)
unfolding run
stuck_behind limited table r ws d [] left h = ends_behind (may_end table ws d) r left h
stuck_behind limited table r ws d (s ∷ ss) left h = behind_on limited table r (after limited table ws d s) s ss left (λ vs e xs k. stuck_behind limited table r vs e ss xs k) h

pub none_grows : {S W : Type 0} (limited : Bool) (table : Table S W) (r : Reason) (s : S) (rest : List S) (m : Move W) → goes_on limited table m s rest ≡ Stuck r (s ∷ rest) → m ≡ Halts r
none_grows limited table r s rest (Halts q) h = ap (λ x. Halts x) (halts_alike q r _ _ h)
none_grows limited table r s rest (Goes more e) h = let l : suc (length rest) ≤ length rest = stuck_within limited table r more e rest (s ∷ rest) h in absurd (omega arith)

pub one_ahead : {S W : Type 0} (limited : Bool) (table : Table S W) (r : Reason) (ws : List W) (d : ℕ)
    (front rest other : List S) → first other ≡ first rest → run limited table ws d (front ++ rest) ≡ Stuck r rest
    → run limited table ws d (front ++ other) ≡ Stuck r other
one_ahead limited table r ws d [] [] [] e h = h
one_ahead limited table r ws d [] [] (o ∷ os) e h = absurd cc
one_ahead limited table r ws d [] (s ∷ rest) [] e h = absurd cc
one_ahead {S = S} limited table r ws d [] (s ∷ rest) (o ∷ os) e h =
    let same : o ≡ s = cc in
    let none = none_grows limited table r s rest (after limited table ws d s) (sym (run-cons limited table ws d s rest) ∙ h) in
    run-cons limited table ws d o os ∙ ap (λ a. goes_on limited table (after limited table ws d a) a os) same
    ∙ ap (λ a. goes_on limited table a s os) none ∙ ap (λ (x : S). Stuck r (x ∷ os)) (sym same)
one_ahead limited table r ws d (f ∷ front) rest other e h =
    run-cons limited table ws d f (front ++ other)
    ∙ ahead limited table r (after limited table ws d f) f front rest other (λ vs x. one_ahead limited table r vs x front rest other e) (sym (run-cons limited table ws d f (front ++ rest)) ∙ h)

-- ---- a limited run, and the one without a limit

-- at a symbol the two move alike, or the limited one stops for its limit
answered_alike : {W : Type 0} (a : Answer W) (ws : List W) (f g : ℕ → Move W) → ((e : ℕ) → (f e ≡ Halts TooDeep) ⊎
    (g e ≡ f e)) → (answered true a ws f ≡ Halts TooDeep) ⊎ (answered false a ws g ≡ answered true a ws f)
answered_alike (Takes true more d) ws f g h = inr refl
answered_alike (Takes false more d) ws f g h = inl refl
answered_alike (Skips d) ws f g h = h d
answered_alike Refuses ws f g h = inr refl
answered_alike LeavesOut ws f g h = inr refl

pub after_alike : {S W : Type 0} (table : Table S W) (ws : List W) (d : ℕ) (s : S) → (after true table ws d s ≡ Halts TooDeep) ⊎ (after false table ws d s ≡ after true table ws d s)
after_alike table [] d s = inr refl
after_alike table (w ∷ ws) d s = answered_alike (table w d (Some s)) ws (λ e. after true table ws e s) (λ e. after false table ws e s) (λ e. after_alike table ws e s)

alike_on : {S W : Type 0} (table : Table S W) (m : Move W) (s : S) (ss : List S) (o : Outcome S)
    → ((ws : List W) (d : ℕ) → run true table ws d ss ≡ o → run false table ws d ss ≡ o) → goes_on true table m s ss ≡ o
    → goes_on false table m s ss ≡ o
alike_on table (Halts q) s ss o ih h = h
alike_on table (Goes more e) s ss o ih h = ih more e h

-- a limited run that its limit doesn't stop is the run without a limit
pub run-unlimited : {S W : Type 0} (table : Table S W) (ws : List W) (d : ℕ) (ss : List S) (o : Outcome S)
    → ((rest : List S) → o ≡ Stuck TooDeep rest → ⊥) → run true table ws d ss ≡ o → run false table ws d ss ≡ o
unfolding run
run-unlimited table ws d [] o never h = h
run-unlimited table ws d (s ∷ ss) o never h = elim (after_alike table ws d s) [
  | inl e ↦ absurd (never (s ∷ ss) (sym h ∙ ap (λ m. goes_on true table m s ss) e))
  | inr e ↦ ap (λ m. goes_on false table m s ss) e ∙ alike_on table (after true table ws d s) s ss o (λ vs x. run-unlimited table vs x ss o never) h
]

-- ---- the symbol at which the limit stops a run

deep_answered : {W : Type 0} (a : Answer W) (ws : List W) (f g : ℕ → Move W)
    → ((e : ℕ) → f e ≡ Halts TooDeep → (more : List W) × (d : ℕ) × (g e ≡ Goes more d))
    → answered true a ws f ≡ Halts TooDeep → (more : List W) × (d : ℕ) × (answered false a ws g ≡ Goes more d)
deep_answered (Takes true more d) ws f g ih h = absurd cc
deep_answered (Takes false more d) ws f g ih h = (more ++ ws, d, refl)
deep_answered (Skips d) ws f g ih h = ih d h
deep_answered Refuses ws f g ih h = absurd cc
deep_answered LeavesOut ws f g ih h = absurd cc

pub deep_after : {S W : Type 0} (table : Table S W) (ws : List W) (d : ℕ) (s : S) → after true table ws d s ≡ Halts TooDeep → (more : List W) × (e : ℕ) × (after false table ws d s ≡ Goes more e)
deep_after table [] d s h = absurd cc
deep_after table (w ∷ ws) d s h = deep_answered (table w d (Some s)) ws (λ e. after true table ws e s) (λ e. after false table ws e s) (λ e. deep_after table ws e s) h

pub never_at_end : {S : Type 0} (b : Bool) (rest : List S) → cond b Whole (Stuck Refused []) ≡ Stuck TooDeep rest → ⊥
never_at_end true rest h = absurd cc
never_at_end false rest h = absurd cc
