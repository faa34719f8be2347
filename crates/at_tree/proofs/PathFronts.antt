-- How far a path's text was read.
use Rattle.std.proofs.Common.{◌≡◌, ◌≢◌, ℕ, ◌-◌, ◌<◌, ◌≤◌, ◌==◌, Bool, true, false, List, [], ◌∷◌, ◌++◌, length, get_or, Some, refl, ap, sym, ◌∙◌, subst, length-append, lit<, arith, encode_utf8_all}
use Rattle.std.specs.Prelude.{chars, encode_utf8, IsUtf8}
use Rattle.std.specs.Char.{is_ascii_digit}
use Rattle.std.specs.Str.{IsCharBoundary, bytes_eq}
use Rattle.std.proofs.lemmas.Bool.Decides.{nat_tests}
use Rattle.std.proofs.lemmas.Str.{IsCharBoundary-after_ascii, encode_ascii, encodes-chars}
use Rattle.at_model.specs.Paths.{Step, Path, IsPath, path_text}
use Rattle.at_text.specs.Pieces.{NotBefore}
use Rattle.at_text.specs.declared.fault.Failure.{Failure}
use Rattle.at_text.specs.declared.fault.Failure.TheVariants.{For, Memory}
use Rattle.at_text.proofs.Fronts.{clash}
use Rattle.at_tree.specs.Partial.{is_empty}
use Rattle.at_tree.specs.PartialPath.{Partial, Slash, at, nothing_read, step}
use Rattle.at_tree.specs.PathSteps.{AreBefore, TakesStep, IsStuck, StopsBehind, StopsLeaving}
use Rattle.at_tree.specs.PathView.{steps_view}
use Rattle.at_tree.specs.Stops.{IsPathText, StopsAt}
use Rattle.at_tree.specs.declared.path.Step.{Step as StepValue}
use Rattle.at_tree.proofs.Machine.{ReadTo, read_nothing, read_over, stops_before, stops_at_end, value_read}
use Rattle.at_tree.proofs.Passing.{leads_byte}
use Rattle.at_tree.proofs.PathMachine.{path_machine}
use Rattle.at_tree.proofs.PathRuns.{pushed}
use Rattle.at_tree.proofs.Pieces.{other}

-- the text is read up to the rest, and these are its steps
pub record HasRead (text rest : List ℕ) (ss : Path) : Type 0 where
  pub there : Partial
  pub read : ReadTo path_machine text rest there
  pub before : AreBefore ss rest there
  pub long : is_empty ss ≡ true → rest ≢ 47 ∷ []

pub nothing_yet : (text : List ℕ) (ss : Path) → IsUtf8 text → text ≢ 47 ∷ [] → ss ≡ [] → HasRead text text ss
nothing_yet text ss u long none = subst (HasRead text text) (sym none) (record {
  there = nothing_read;
  read = read_nothing path_machine text u;
  before = record { whole = refl; next = λ c more e. refl };
  long = λ _. long;
})

at_slash : (text rest behind : List ℕ) (ss : Path) → HasRead text rest ss → rest ≡ 47 ∷ behind → ReadTo path_machine text behind (at ss Slash)
at_slash text rest behind ss h e =
    let taken : step h.there 47 ≡ Some (at ss Slash) = h.before.next 47 behind (e ∙ ap (λ y. y ++ behind) (sym (encode_ascii 47 (lit< tt)))) in
    let led = leads_byte step h.there (at ss Slash) 47 rest behind (lit< tt) e taken in
    read_over path_machine text led.0 rest behind h.there (at ss Slash) h.read led.1 led.2

pub one_step_more : (text rest behind next : List ℕ) (ss : Path) (s : Step) → HasRead text rest ss → rest ≡ 47 ∷ behind → TakesStep ss behind s next → HasRead text next (ss ++ s ∷ [])
one_step_more text rest behind next ss s h e t = record {
  there = t.0;
  read = read_over path_machine text t.1.0 behind next (at ss Slash) t.0 (at_slash text rest behind ss h e) t.1.1 t.1.2;
  before = t.2;
  long = λ none. absurd (clash (is_empty (ss ++ s ∷ [])) none (pushed ss s));
}

pub less : (rest behind next : List ℕ) (ss : Path) (s : Step) → rest ≡ 47 ∷ behind → TakesStep ss behind s next → length next < length rest
less rest behind next ss s e t = omega (arith, ap length e, ap length t.1.1, length-append (encode_utf8_all t.1.0) next)

-- where the text stops being a path's
stopped : (text rest : List ℕ) (p : Partial) → ReadTo path_machine text rest p → IsStuck p rest → StopsLeaving text (For (length rest))
stopped text rest p r stuck = (omega (arith, ap length r.1.split, length-append (path_machine.spelled p) rest), by (chars rest) refl)
  where
    is : encode_utf8_all (chars rest) ≡ rest
    is = encodes-chars rest r.1.utf8

    by : (cs : List ℕ) → chars rest ≡ cs → StopsAt IsPathText text (length text - length rest)
    by [] e =
        let none : rest ≡ [] = sym is ∙ ap encode_utf8_all e in
        let all : length text - length rest ≡ length text = omega (arith, ap length none) in
        subst (StopsAt IsPathText text) (sym all) (stops_at_end path_machine text r.0 rest p r.1 (ap length none) (stuck.open_still none))
    by (c ∷ cs) e =
        let split : rest ≡ encode_utf8 c ++ encode_utf8_all cs = sym is ∙ ap encode_utf8_all e in
        stops_before path_machine text (length text - length rest) rest p r refl (c, encode_utf8_all cs, split, stuck.none c (encode_utf8_all cs) split)

pub stops_behind : (text rest behind : List ℕ) (ss : Path) (fault : Failure ℕ) → HasRead text rest ss → rest ≡ 47 ∷ behind
    → ((is_empty ss ≡ true → behind ≢ []) → StopsBehind (at ss Slash) behind fault) → StopsLeaving text fault
stops_behind text rest behind ss Memory h e s = tt
stops_behind text rest behind ss (For left) h e s =
    let t = s (λ none is. h.long none (e ∙ ap (λ y. 47 ∷ y) is)) in
    subst (λ n. StopsLeaving text (For n)) (sym t.4)
    (stopped text t.1 t.0 (read_over path_machine text t.2.0 behind t.1 (at ss Slash) t.0 (at_slash text rest behind ss h e) t.2.1 t.2.2) t.3)

-- no step follows
pub no_slash : (text rest : List ℕ) (ss : Path) → HasRead text rest ss → NotBefore (λ c. c == 47) rest → (rest ≡ [] → is_empty ss ≡ true) → StopsLeaving text (For (length rest))
no_slash text rest ss h off end = stopped text rest h.there h.read (record {
  none = λ c more e. let other : (c == 47) ≡ false = off c more e in h.before.next c more e ∙ rw other refl;
  open_still = λ e. let none : is_empty ss ≡ true = end e in h.before.whole ∙ rw none refl;
})

pub all_steps : (text rest : List ℕ) (ss : Path) → HasRead text rest ss → length rest ≡ 0 → is_empty ss ≡ false → IsPath ss × (path_text ss ≡ text)
all_steps text rest ss h none some = value_read path_machine text h.read.0 rest h.there ss h.read.1 none (h.before.whole ∙ rw some refl)

pub counted : (ss : List StepValue) (n : ℕ) (b : Bool) → b ≡ (n == 0) → n ≡ length ss → is_empty (steps_view ss) ≡ b
counted [] n b e is = sym (e ∙ ap (λ k. k == 0) is)
counted (s ∷ ss) n b e is = sym (e ∙ ap (λ k. k == 0) is ∙ other (length (s ∷ ss)) 0 (λ f. omega (arith, f)))

-- what tests tell
pub not_root : (text : List ℕ) → bytes_eq text (47 ∷ []) ≡ false → text ≢ 47 ∷ []
not_root text other is = let same : bytes_eq text (47 ∷ []) ≡ true = rw is refl in clash (bytes_eq text (47 ∷ [])) same other

pub behind_low : (text : List ℕ) → IsUtf8 text → 1 ≤ length text → get_or text 0 0 < 128 → IsCharBoundary text 1
behind_low text u some low = IsCharBoundary-after_ascii text 0 u (omega (arith, some)) low

pub behind_digit : (text : List ℕ) → IsUtf8 text → 1 ≤ length text → is_ascii_digit (get_or text 0 0) ≡ true → IsCharBoundary text 1
behind_digit text u some h = behind_low text u some (grind (arith, nat_tests, h))
