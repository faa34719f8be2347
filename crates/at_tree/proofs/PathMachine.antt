-- The reader of paths keeps the laws of a reader.
use Rattle.std.proofs.Common.{◌≡◌, ℕ, ◌+◌, ◌-◌, ◌*◌, ◌<◌, ◌≤◌, Bool, true, false, ◌&&◌, ◌==◌, nat_lt, List, [], ◌∷◌, ◌++◌, Option, Some, None, refl, ap, ◌∙◌, subst, append_assoc, append-nil, lit<, arith}
use Rattle.std.specs.Prelude.{chars, encode_utf8, IsUtf8, ⊤, ◌/◌, ◌%◌}
use Rattle.std.specs.List.{flat_map}
use Rattle.std.specs.Fmt.{decimal}
use Rattle.std.proofs.Math.Utf8.{scalar}
use Rattle.std.proofs.lemmas.Bool.Decides.{nat_tests}
use Rattle.std.proofs.lemmas.Fmt.{decimal_digit}
use Rattle.std.proofs.lemmas.Grind.{flat_map-append}
use Rattle.std.proofs.lemmas.Str.{chars-nil, IsUtf8-append}
use Rattle.unicode_ident.proofs.IdentLemmas.{is_xid_continue-ascii}
use Rattle.at_model.specs.Names.{starts_name, continues_name, is_word, is_name, IsName, is_reserved}
use Rattle.at_model.specs.Paths.{Step, Path, IsStep, IsPath, step_text, index_text, path_text}
use Rattle.at_model.proofs.Options.{both}
use Rattle.at_tree.specs.Stops.{IsFront}
use Rattle.at_tree.specs.Partial.{is_digit}
use Rattle.at_tree.specs.PartialPath.{Place, Start, Slash, InPart, Colon, InIndex, Partial, at, nothing_read, plain, indexed, next_step, in_part, in_colon, in_index, step_at, step, whole_at, whole_path}
use Rattle.at_tree.proofs.Machine.{Machine, IsTextOf, run, utf8_char}
use Rattle.at_tree.proofs.Pieces.{not_true, choose, OnStep, ascii, utf8_ascii, run_byte, word_one, word_longer, longer_name, shortest_name, run_name, digit_bounds, low_digit, digit_bytes, one_digit, more_digits, run_decimal}

abbrev pub place_text : Place → List ℕ
place_text Start = []
place_text Slash = 47 ∷ []
place_text (InPart part) = 47 ∷ part
place_text (Colon part) = 47 ∷ (part ++ 58 ∷ [])
place_text (InIndex part n) = step_text (indexed part n)

abbrev pub spelled : Partial → List ℕ
spelled p = flat_map step_text p.steps ++ place_text p.place

abbrev pub PlaceFits : Path → Place → Type 0
PlaceFits ss Start = ss ≡ []
PlaceFits ss Slash = ⊤
PlaceFits ss (InPart part) = (is_word (chars part) ≡ true) × IsUtf8 part
PlaceFits ss (Colon part) = IsName part
PlaceFits ss (InIndex part n) = IsName part × (n < 1000000000)

pub record Fits (p : Partial) : Type 0 where
  pub steps : IsPath p.steps
  pub place : PlaceFits p.steps p.place

-- one more step
pub push_fits : (ss : Path) (s : Step) → IsPath ss → IsStep s → IsPath (ss ++ s ∷ [])
push_fits [] s e h = (h, tt)
push_fits (x ∷ ss) s e h = (e.0, push_fits ss s e.1 h)

pub push_text : (ss : Path) (s : Step) → flat_map step_text (ss ++ s ∷ []) ≡ flat_map step_text ss ++ step_text s
push_text ss s = flat_map-append step_text ss (s ∷ []) ∙ ap (λ y. flat_map step_text ss ++ y) (append-nil (step_text s))

push_path : (ss : Path) (s : Step) → path_text (ss ++ s ∷ []) ≡ flat_map step_text ss ++ step_text s
push_path [] s = append-nil (step_text s)
push_path (x ∷ ss) s = push_text (x ∷ ss) s

-- each step keeps that the partial path fits, and adds its character
abbrev Steps : List ℕ → ℕ → Option Partial → Type 0
Steps before c r = OnStep Fits spelled before c r

next_steps : (ss : Path) (s : Step) (c : ℕ) → IsPath ss → IsStep s → encode_utf8 c ≡ 47 ∷ [] → Steps (flat_map step_text ss ++ step_text s) c (Some (next_step ss s))
next_steps ss s c l h e = (record { steps = push_fits ss s l h; place = tt }, rw (push_text ss s, e) refl)

part_steps : (ss : Path) (part : List ℕ) (c : ℕ) → scalar c ≡ true → IsPath ss → PlaceFits ss (InPart part) → Steps (flat_map step_text ss ++ 47 ∷ part) c (in_part ss part c)
part_steps ss part c s l h =
    let before = flat_map step_text ss ++ 47 ∷ part in
    choose (Steps before c) (continues_name c) _ _
    (λ e. (record { steps = l; place = (word_longer part c s h.1 h.0 e, IsUtf8-append part (encode_utf8 c) h.1 (utf8_char c s)) }, simp append_assoc))
    (λ _. choose (Steps before c) (is_reserved part) _ _ (λ _. tt)
    (λ r. let name : is_name part ≡ true = rw (h.0, r) refl in
    choose (Steps before c) (c == 58) _ _
    (λ e. (record { steps = l; place = (name, h.1) }, rw (ascii c 58 (lit< tt) e) (simp append_assoc)))
    (λ _. choose (Steps before c) (c == 47) _ _
    (λ e. let t : step_text (plain part) ≡ 47 ∷ part = ap (λ y. 47 ∷ y) (append-nil part) in
    subst (λ y. Steps (flat_map step_text ss ++ y) c (Some (next_step ss (plain part)))) t (next_steps ss (plain part) c l ((name, h.1), tt) (ascii c 47 (lit< tt) e)))
    (λ _. tt))))

colon_steps : (ss : Path) (part : List ℕ) (c : ℕ) → IsPath ss → PlaceFits ss (Colon part) → Steps (flat_map step_text ss ++ 47 ∷ (part ++ 58 ∷ [])) c (in_colon ss part c)
colon_steps ss part c l h =
    choose (Steps (flat_map step_text ss ++ 47 ∷ (part ++ 58 ∷ [])) c) (is_digit c) _ _
    (λ e. let b = digit_bounds c e in (record { steps = l; place = (h, omega (arith, b.0, b.1)) }, rw (one_digit c e, digit_bytes c e) (simp append_assoc)))
    (λ _. tt)

index_steps : (ss : Path) (part : List ℕ) (n c : ℕ) → IsPath ss → PlaceFits ss (InIndex part n) → Steps (flat_map step_text ss ++ step_text (indexed part n)) c (in_index ss part n c)
index_steps ss part n c l h =
    let before = flat_map step_text ss ++ step_text (indexed part n) in
    choose (Steps before c) (is_digit c && (nat_lt 0 n && nat_lt n 100000000)) _ _
    (λ e. let p = both (is_digit c) _ e in let q = both (nat_lt 0 n) _ p.1 in
    let b = digit_bounds c p.0 in
    let positive : 0 < n = grind (arith, nat_tests, q.0) in
    let within : n < 100000000 = grind (arith, nat_tests, q.1) in
    (record { steps = l; place = (h.0, omega (arith, b.0, b.1)) }, rw (more_digits n c p.0 positive (omega arith), digit_bytes c p.0) (simp append_assoc)))
    (λ _. choose (Steps before c) (c == 47) _ _
    (λ e. next_steps ss (indexed part n) c l h (ascii c 47 (lit< tt) e))
    (λ _. tt))

steps_at : (ss : Path) (place : Place) (c : ℕ) → scalar c ≡ true → IsPath ss → PlaceFits ss place → Steps (flat_map step_text ss ++ place_text place) c (step_at ss place c)
steps_at ss Start c s l h = choose (Steps (flat_map step_text ss ++ []) c) (c == 47) _ _ (λ e. (record { steps = l; place = tt }, rw (ascii c 47 (lit< tt) e) (simp append_assoc))) (λ _. tt)
steps_at ss Slash c s l h = choose (Steps (flat_map step_text ss ++ 47 ∷ []) c) (starts_name c) _ _ (λ e. (record { steps = l; place = (word_one c s e, utf8_char c s) }, simp append_assoc)) (λ _. tt)
steps_at ss (InPart part) c s l h = part_steps ss part c s l h
steps_at ss (Colon part) c s l h = colon_steps ss part c l h
steps_at ss (InIndex part n) c s l h = index_steps ss part n c l h

pub steps : (p : Partial) (c : ℕ) (q : Partial) → scalar c ≡ true → Fits p → step p c ≡ Some q → Fits q × (spelled q ≡ spelled p ++ encode_utf8 c)
steps p c q s f e = subst (Steps (spelled p) c) e (steps_at p.steps p.place c s f.steps f.place)

-- each partial path can be completed
goes_by : (ss : Path) (s : Step) (front more : List ℕ) → IsPath ss → IsStep s → step_text s ≡ front ++ more → IsFront (IsTextOf IsPath path_text) (flat_map step_text ss ++ front)
goes_by ss s front more l h e = (more, (ss ++ s ∷ [], push_fits ss s l h, push_path ss s ∙ rw e (simp append_assoc)))

pub alive_at : (ss : Path) (place : Place) → IsPath ss → PlaceFits ss place → IsFront (IsTextOf IsPath path_text) (flat_map step_text ss ++ place_text place)
alive_at ss Start l h = (47 ∷ [], ([], tt, rw h refl))
alive_at ss Slash l h = goes_by ss (plain (95 ∷ [])) (47 ∷ []) (95 ∷ []) l ((shortest_name, utf8_ascii 95 (lit< tt)), tt) refl
alive_at ss (InPart part) l h = goes_by ss (plain (part ++ 95 ∷ [])) (47 ∷ part) (95 ∷ []) l ((longer_name part h.1 h.0, IsUtf8-append part (95 ∷ []) h.1 (utf8_ascii 95 (lit< tt))), tt) (simp append-nil)
alive_at ss (Colon part) l h = goes_by ss (indexed part 0) (47 ∷ (part ++ 58 ∷ [])) (48 ∷ []) l (h, lit< tt) (rw (decimal_digit 0 (lit< tt)) (simp append_assoc))
alive_at ss (InIndex part n) l h = goes_by ss (indexed part n) (step_text (indexed part n)) [] l h (simp append-nil)

-- where a text is whole, it is that of the path
pub ends_at : (ss : Path) (place : Place) (v : Path) → IsPath ss → PlaceFits ss place → whole_at ss place ≡ Some v → IsPath v × (path_text v ≡ flat_map step_text ss ++ place_text place)
ends_at ss Start v l h e = cc
ends_at [] Slash v l h e = let is : [] ≡ v = cc in rw (← is) (tt, refl)
ends_at (s ∷ ss) Slash v l h e = cc
ends_at ss (InPart part) v l h e = decide (is_reserved part) refl
  where
    decide : (b : Bool) → is_reserved part ≡ b → IsPath v × (path_text v ≡ flat_map step_text ss ++ 47 ∷ part)
    decide true r = let f : None ≡ Some v = rw r at e in cc
    decide false r =
        let f : Some (ss ++ plain part ∷ []) ≡ Some v = rw r at e in
        let is : ss ++ plain part ∷ [] ≡ v = cc in
        let name : is_name part ≡ true = rw (h.0, r) refl in
        rw (← is) (push_fits ss (plain part) l ((name, h.1), tt), push_path ss (plain part) ∙ simp append-nil)
ends_at ss (Colon part) v l h e = cc
ends_at ss (InIndex part n) v l h e =
    let is : ss ++ indexed part n ∷ [] ≡ v = cc in
    rw (← is) (push_fits ss (indexed part n) l h, push_path ss (indexed part n))

-- a path's text is run through to the path
slash_ends : continues_name 47 ≡ false
slash_ends = rw (is_xid_continue-ascii 47 (lit< tt)) refl

colon_ends : continues_name 58 ≡ false
colon_ends = rw (is_xid_continue-ascii 58 (lit< tt)) refl

abbrev pub Ends : Option Partial → Path → Type 0
Ends r v = (p : Partial) × (r ≡ Some p) × (whole_path p ≡ Some v)

named : (part : List ℕ) → is_name part ≡ true → (is_word (chars part) ≡ true) × (is_reserved part ≡ false)
named part e = let p = both (is_word (chars part)) _ e in (p.0, not_true (is_reserved part) p.1)

run_part : (ss : Path) (part z : List ℕ) → IsUtf8 part → is_word (chars part) ≡ true → run step (Some (at ss Slash)) (chars (part ++ z)) ≡ run step (Some (at ss (InPart part))) (chars z)
run_part ss part z utf8 e = run_name step (at ss Slash) (λ word. at ss (InPart word)) (λ c s. rw s refl) (λ word c s. rw s refl) part z utf8 e

next_slash : (ss : Path) (part : List ℕ) → is_reserved part ≡ false → in_part ss part 47 ≡ Some (next_step ss (plain part))
next_slash ss part r = rw (slash_ends, r) refl

pub next_colon : (ss : Path) (part : List ℕ) → is_reserved part ≡ false → in_part ss part 58 ≡ Some (at ss (Colon part))
next_colon ss part r = rw (colon_ends, r) refl

run_index : (ss : Path) (part : List ℕ) (n : ℕ) (z : List ℕ) → n < 1000000000 → run step (Some (at ss (Colon part))) (chars (decimal n ++ z)) ≡ run step (Some (at ss (InIndex part n))) (chars z)
run_index ss part n z h = run_decimal step (at ss (Colon part)) (λ n. at ss (InIndex part n)) 0 999999999 (omega arith) (omega arith) first next n z (omega arith) (omega arith)
  where
    first : (n : ℕ) → n < 10 → 0 ≤ n → in_colon ss part (48 + n) ≡ Some (at ss (InIndex part n))
    first n m l = let e : 48 + n - 48 ≡ n = omega arith in rw (low_digit n m, e) refl

    next : (n : ℕ) → 10 ≤ n → n ≤ 999999999 → in_index ss part (n / 10) (48 + n % 10) ≡ Some (at ss (InIndex part n))
    next n m l =
        let small : n % 10 < 10 = omega arith in
        let e : n / 10 * 10 + (48 + n % 10 - 48) ≡ n = omega arith in
        let p : nat_lt 0 (n / 10) ≡ true = grind (arith, nat_tests) in
        let q : nat_lt (n / 10) 100000000 ≡ true = grind (arith, nat_tests) in
        rw (low_digit (n % 10) small, e, p, q) refl

-- what stands behind a step's text
record Behind (ss : Path) (s : Step) : Type 0 where
  there : Partial
  goes_on : step there 47 ≡ Some (next_step ss s)
  ends : whole_path there ≡ Some (ss ++ s ∷ [])
  run_to : (z : List ℕ) → run step (Some (at ss Slash)) (chars ((s.part ++ index_text s.index) ++ z)) ≡ run step (Some there) (chars z)

run_one : (ss : Path) (part : List ℕ) (index : Option ℕ) → IsStep (record { part = part; index = index }) → Behind ss (record { part = part; index = index })
run_one ss part None h = let n = named part h.0.0 in record {
  there = at ss (InPart part);
  goes_on = next_slash ss part n.1;
  ends = rw n.1 refl;
  run_to = λ z. ap (λ y. run step (Some (at ss Slash)) (chars (y ++ z))) (append-nil part) ∙ run_part ss part z h.0.1 n.0;
}
run_one ss part (Some i) h = let n = named part h.0.0 in record {
  there = at ss (InIndex part i);
  goes_on = refl;
  ends = refl;
  run_to = λ z. ap (λ y. run step (Some (at ss Slash)) (chars y)) (append_assoc part (58 ∷ decimal i) z) ∙ run_part ss part (58 ∷ (decimal i ++ z)) h.0.1 n.0
      ∙ run_byte step (at ss (InPart part)) 58 (decimal i ++ z) _ (lit< tt) (next_colon ss part n.1) ∙ run_index ss part i z h.1;
}

run_rest : (more : Path) (ss : Path) (s : Step) (b : Behind ss s) → IsPath more → Ends (run step (Some b.there) (chars (flat_map step_text more))) (ss ++ s ∷ more)
run_rest [] ss s b l = (b.there, rw chars-nil refl, b.ends)
run_rest (m ∷ ms) ss s b l =
    let after = run_one (ss ++ s ∷ []) m.part m.index l.0 in
    let e : run step (Some b.there) (chars (flat_map step_text (m ∷ ms))) ≡ run step (Some after.there) (chars (flat_map step_text ms)) =
    run_byte step b.there 47 ((m.part ++ index_text m.index) ++ flat_map step_text ms) _ (lit< tt) b.goes_on ∙ after.run_to (flat_map step_text ms) in
    rw e (subst (Ends (run step (Some after.there) (chars (flat_map step_text ms)))) (append_assoc ss (s ∷ []) (m ∷ ms)) (run_rest ms (ss ++ s ∷ []) m after l.1))

pub completes : (v : Path) → IsPath v → Ends (run step (Some nothing_read) (chars (path_text v))) v
completes [] h = (at [] Slash, run_byte step nothing_read 47 [] _ (lit< tt) refl ∙ rw chars-nil refl, refl)
completes (s ∷ ss) h =
    let after = run_one [] s.part s.index h.0 in
    let e : run step (Some nothing_read) (chars (path_text (s ∷ ss))) ≡ run step (Some after.there) (chars (flat_map step_text ss)) =
    run_byte step nothing_read 47 ((s.part ++ index_text s.index) ++ flat_map step_text ss) (Some (at [] Slash)) (lit< tt) refl ∙ after.run_to (flat_map step_text ss) in
    rw e (run_rest ss [] s after h.1)

abbrev pub path_machine : Machine Partial Path
path_machine = record {
  step = step;
  start = nothing_read;
  whole = whole_path;
  text_of = path_text;
  IsValue = IsPath;
  spelled = spelled;
  Fits = Fits;
  start_fits = record { steps = tt; place = refl };
  start_text = refl;
  steps = steps;
  alive = λ p f. alive_at p.steps p.place f.steps f.place;
  ends = λ p v f e. ends_at p.steps p.place v f.steps f.place e;
  completes = completes;
}
