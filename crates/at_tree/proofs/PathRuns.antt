-- How the reader of paths passes over a step, and where it stops.
use Rattle.std.proofs.Common.{◌≡◌, ◌≢◌, ℕ, ◌+◌, ◌-◌, ◌*◌, ◌<◌, ◌==◌, true, false, nat_lt, List, [], ◌∷◌, ◌++◌, length, Some, None, refl, sym, subst, lit<, arith, encode_utf8_all}
use Rattle.std.specs.Prelude.{encode_utf8}
use Rattle.std.specs.List.{AllByRecursion}
use Rattle.std.proofs.lemmas.Bool.Decides.{nat_tests}
use Rattle.at_model.specs.Names.{starts_name, continues_name, is_reserved}
use Rattle.at_model.specs.Paths.{Path, Step}
use Rattle.at_text.specs.Pieces.{NotBefore}
use Rattle.at_text.specs.declared.fault.Failure.TheVariants.{For}
use Rattle.at_tree.specs.Leads.{Leads, LeadsTo}
use Rattle.at_tree.specs.Partial.{is_digit, is_empty}
use Rattle.at_tree.specs.PartialPath.{at, Slash, InPart, Colon, InIndex, plain, indexed, step, goes_on, whole_at}
use Rattle.at_tree.specs.PathSteps.{TakesStep, StopsBehind}
use Rattle.at_tree.specs.Runs.{IsWordBefore}
use Rattle.at_tree.proofs.Passing.{leads_over, leads_on, leads_byte}
use Rattle.at_tree.proofs.PathMachine.{next_colon}
use Rattle.at_tree.proofs.Pieces.{low_digit}

pub pushed : (ss : Path) (s : Step) → is_empty (ss ++ s ∷ []) ≡ false
pushed [] s = refl
pushed (x ∷ ss) s = refl

-- indexes
pub leads_digit : (ss : Path) (part text rest : List ℕ) (d : ℕ) → d < 10 → text ≡ (48 + d) ∷ rest → LeadsTo step (at ss (Colon part)) text (at ss (InIndex part d)) rest
leads_digit ss part text rest d h e =
    let back : 48 + d - 48 ≡ d = omega arith in
    leads_byte step (at ss (Colon part)) (at ss (InIndex part d)) (48 + d) text rest (omega (arith, h)) e (rw (low_digit d h, back) refl)

pub leads_more : (ss : Path) (part text old new : List ℕ) (n d m : ℕ) → LeadsTo step (at ss (Colon part)) text (at ss (InIndex part n)) old → old ≡ (48 + d) ∷ new → d < 10 → 0 < n → n < 100000000
    → m ≡ n * 10 + d → LeadsTo step (at ss (Colon part)) text (at ss (InIndex part m)) new
leads_more ss part text old new n d m so_far e h some few is =
    let back : 48 + d - 48 ≡ d = omega arith in
    let p : nat_lt 0 n ≡ true = grind (arith, nat_tests) in
    let q : nat_lt n 100000000 ≡ true = grind (arith, nat_tests) in
    leads_on step (at ss (Colon part)) (at ss (InIndex part n)) (at ss (InIndex part m)) text old new so_far
    (leads_byte step (at ss (InIndex part n)) (at ss (InIndex part m)) (48 + d) old new (omega (arith, h)) e (rw (is, low_digit d h, p, q, back) refl))

-- words
begins_name : (ss : Path) (c : ℕ) → starts_name c ≡ true → step (at ss Slash) c ≡ Some (at ss (InPart (encode_utf8 c)))
begins_name ss c s = rw s refl

leads_name : (ss : Path) (word more cs : List ℕ) → more ≡ word ++ encode_utf8_all cs → AllByRecursion (λ c. continues_name c ≡ true) cs → Leads step (at ss (InPart word)) cs (at ss (InPart more))
leads_name ss word more cs is each =
    subst (λ w. Leads step (at ss (InPart word)) cs (at ss (InPart w))) (sym is)
    (leads_over step continues_name (λ w. at ss (InPart w)) (λ w c s. rw s refl) cs word each)

leads_word : (ss : Path) (text word rest : List ℕ) → IsWordBefore text word rest → LeadsTo step (at ss Slash) text (at ss (InPart word)) rest
leads_word ss text word rest w = (w.0 ∷ w.1, w.3, (at ss (InPart (encode_utf8 w.0)), begins_name ss w.0 w.4, leads_name ss (encode_utf8 w.0) word w.1 w.2 w.5.0))

leads_colon : (ss : Path) (text word behind digits : List ℕ) → IsWordBefore text word behind → is_reserved word ≡ false → behind ≡ 58 ∷ digits
    → LeadsTo step (at ss Slash) text (at ss (Colon word)) digits
leads_colon ss text word behind digits w r e =
    leads_on step (at ss Slash) (at ss (InPart word)) (at ss (Colon word)) text behind digits (leads_word ss text word behind w)
    (leads_byte step (at ss (InPart word)) (at ss (Colon word)) 58 behind digits (lit< tt) e (next_colon ss word r))

-- steps
pub plain_taken : (ss : Path) (text word rest : List ℕ) → IsWordBefore text word rest → is_reserved word ≡ false → NotBefore (λ c. c == 58) rest → TakesStep ss text (plain word) rest
plain_taken ss text word rest w r off =
    (at ss (InPart word), leads_word ss text word rest w, record { whole = rw (r, pushed ss (plain word)) refl; next = λ c more e. rw (w.5.1 c more e, r, off c more e) refl })

pub indexed_taken : (ss : Path) (text word behind digits rest : List ℕ) (n : ℕ) → IsWordBefore text word behind → is_reserved word ≡ false → behind ≡ 58 ∷ digits
    → LeadsTo step (at ss (Colon word)) digits (at ss (InIndex word n)) rest → NotBefore (goes_on n) rest → TakesStep ss text (indexed word n) rest
indexed_taken ss text word behind digits rest n w r e led off = (
  at ss (InIndex word n),
  leads_on step (at ss Slash) (at ss (Colon word)) (at ss (InIndex word n)) text digits rest (leads_colon ss text word behind digits w r e) led,
  record { whole = rw (pushed ss (indexed word n)) refl; next = λ c more f. rw (off c more f) refl },
)

-- where a step stops
pub no_word : (ss : Path) (text : List ℕ) → NotBefore starts_name text → (is_empty ss ≡ true → text ≢ []) → StopsBehind (at ss Slash) text (For (length text))
no_word ss text off some = (at ss Slash, text, ([], refl, refl), record { none = λ c more e. rw (off c more e) refl; open_still = λ e. still ss some e }, refl)
  where
    still : (ss : Path) → (is_empty ss ≡ true → text ≢ []) → text ≡ [] → whole_at ss Slash ≡ None
    still [] some e = absurd (some refl e)
    still (s ∷ ss) some e = refl

pub reserved : (ss : Path) (text word rest : List ℕ) → IsWordBefore text word rest → is_reserved word ≡ true → StopsBehind (at ss Slash) text (For (length rest))
reserved ss text word rest w r =
    (at ss (InPart word), rest, leads_word ss text word rest w, record { none = λ c more e. rw (w.5.1 c more e, r) refl; open_still = λ _. rw r refl }, refl)

pub no_index : (ss : Path) (text word behind digits : List ℕ) → IsWordBefore text word behind → is_reserved word ≡ false → behind ≡ 58 ∷ digits → NotBefore is_digit digits
    → StopsBehind (at ss Slash) text (For (length digits))
no_index ss text word behind digits w r e off =
    (at ss (Colon word), digits, leads_colon ss text word behind digits w r e, record { none = λ c more f. rw (off c more f) refl; open_still = λ _. refl }, refl)
