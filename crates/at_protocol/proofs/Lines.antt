-- A line is its session, a space, the version that it expects, where it names one, and the text of its command.
use Rattle.std.proofs.Common.{◌≡◌, ◌≢◌, ℕ, ◌<◌, ◌≤◌, List, ◌∷◌, ◌++◌, drop, length, Option, Some, None, refl, ap, sym, ◌∙◌, subst, arith}
use Rattle.std.specs.Prelude.{codes}
use Rattle.std.specs.Fmt.{decimal}
use Rattle.std.specs.Str.{IsUtf8}
use Rattle.std.proofs.lemmas.Fmt.{decimal_injective}
use Rattle.at_model.specs.Lines.{Command, Line, Spells, IsVersion, max_line, max_sessions, last_version, BeginsWith, IsSessionOf}
use Rattle.at_model.proofs.of_texts.OneLine.{command_text, body_text, line_flat, no_at, same_line}
use Rattle.at_protocol.specs.Commands.{IsCommandText, IsHead}
use Rattle.at_protocol.specs.Words.{HasNoSpace, FailsOn, IsExpected}
use Rattle.at_text.specs.declared.fault.Failure.{Failure}
use Rattle.at_protocol.specs.declared.line.words.Misfit.{Misfit}
use Rattle.at_protocol.proofs.Answering.{fails_with}
use Rattle.at_protocol.proofs.Spaces.{one_front, no_space_decimal, space_inside, two_words}
use Rattle.at_protocol.proofs.Utf8.{utf8_line}

abbrev pub line_of : ℕ → Option ℕ → Command → Line
line_of session expected c = record { session = session; expected = expected; command = c }

-- a text has one line
pub one_line : (bytes : List ℕ) (k l : Line) → Spells bytes k → Spells bytes l → k ≡ l
one_line bytes k l h j = same_line k l h.is_line j.is_line (sym h.text ∙ j.text)

pub line_is_utf8 : (bytes : List ℕ) (l : Line) → Spells bytes l → IsUtf8 bytes
line_is_utf8 bytes l h = subst IsUtf8 (sym h.text) (utf8_line l h.is_line)

pub record IsLineText (bytes : List ℕ) (l : Line) : Type 0 where
  pub rest : List ℕ
  pub small : l.session < max_sessions
  pub split : bytes ≡ decimal l.session ++ 32 ∷ rest
  pub is_body : rest ≡ body_text l.expected l.command

pub taken_apart : (bytes : List ℕ) (l : Line) → Spells bytes l → IsLineText bytes l
taken_apart bytes l h = record {
  rest = body_text l.expected l.command;
  small = h.is_line.session;
  split = h.text ∙ line_flat l.session l.expected l.command;
  is_body = refl;
}

-- a text has one session
pub one_session : (bytes : List ℕ) (m n : ℕ) → BeginsWith bytes m → BeginsWith bytes n → m ≡ n
one_session bytes m n h k =
    let cut = one_front (decimal m) (decimal n) h.rest k.rest (sym h.front ∙ k.front) (no_space_decimal m (omega (arith, h.exists))) (no_space_decimal n (omega (arith, k.exists))) h.behind k.behind in
    decimal_injective m n (omega (arith, h.exists)) (omega (arith, k.exists)) cut.0

begins : (bytes : List ℕ) (l : Line) → IsLineText bytes l → BeginsWith bytes l.session
begins bytes l h = record { exists = h.small; rest = 32 ∷ h.rest; front = h.split; behind = refl }

pub session_is : (bytes : List ℕ) (session : Option ℕ) (l : Line) → IsSessionOf bytes session → Spells bytes l → session ≡ Some l.session
session_is bytes None l none h = absurd (none l.session (begins bytes l (taken_apart bytes l h)))
session_is bytes (Some session) l b h = ap Some (one_session bytes session l.session b (begins bytes l (taken_apart bytes l h)))

pub needs_session : (bytes : List ℕ) (session : Option ℕ) → IsSessionOf bytes session → session ≡ None → (l : Line) → Spells bytes l → ⊥
needs_session bytes session is none l h = let e : None ≡ Some l.session = sym none ∙ session_is bytes session l is h in cc

pub needs_space : (bytes text : List ℕ) → text ≡ bytes → HasNoSpace text → (l : Line) → Spells bytes l → ⊥
needs_space bytes text same none l h =
    let a = taken_apart bytes l h in
    space_inside (decimal l.session) a.rest text (sym a.split ∙ sym same) (no_space_decimal l.session (omega (arith, a.small))) none

-- the version that the line expects
expected_in : (text : List ℕ) (expected : Option ℕ) (c : Command) → IsVersion expected → text ≡ body_text expected c → IsExpected text (expected, command_text c)
unfolding body_text
expected_in text None c v e = (sym e, λ more is. no_at c more (sym e ∙ is))
expected_in text (Some version) c v e = (v, e)

pub one_rest : (text : List ℕ) (a b : Option ℕ) (r s : List ℕ) → IsExpected text (a, r) → IsExpected text (b, s) → r ≡ s
one_rest text None None r s h k = h.0 ∙ sym k.0
one_rest text None (Some w) r s h k = absurd (h.1 _ k.1)
one_rest text (Some v) None r s h k = absurd (k.1 _ h.1)
one_rest text (Some v) (Some w) r s h k = (two_words (decimal v) (decimal w) r s (ap (drop 3) (sym h.1 ∙ k.1)) (no_space_decimal v (omega (arith, h.0))) (no_space_decimal w (omega (arith, k.0)))).1

-- what stands behind the first word of a line
behind_session : (bytes text word rest : List ℕ) (l : Line) → text ≡ bytes → text ≡ word ++ 32 ∷ rest → HasNoSpace word → Spells bytes l → rest ≡ body_text l.expected l.command
behind_session bytes text word rest l same split one h =
    let a = taken_apart bytes l h in
    let words = two_words (decimal l.session) word a.rest rest (sym a.split ∙ sym same ∙ split) (no_space_decimal l.session (omega (arith, a.small))) one in
    sym words.1 ∙ a.is_body

pub needs_expected : (bytes text word rest : List ℕ) (fault : Failure Misfit) → text ≡ bytes → text ≡ word ++ 32 ∷ rest → HasNoSpace word → FailsOn (IsExpected rest) fault → FailsOn (Spells bytes) fault
needs_expected bytes text word rest fault same split one = fails_with (IsExpected rest) (Spells bytes) fault part
  where
    part : (l : Line) → Spells bytes l → (first : Option ℕ × List ℕ) × IsExpected rest first
    part l h = ((l.expected, command_text l.command), expected_in rest l.expected l.command h.is_line.expected (behind_session bytes text word rest l same split one h))

pub needs_command : (bytes rest : List ℕ) (session : ℕ) (expected : Option ℕ) (fault : Failure Misfit) → IsHead bytes session expected rest → FailsOn (IsCommandText rest) fault → FailsOn (Spells bytes) fault
needs_command bytes rest session expected fault head = fails_with (IsCommandText rest) (Spells bytes) fault (λ l h. (l.command, head.only l h))

-- and a line needs no more
body_of : (rest end : List ℕ) (expected : Option ℕ) (c : Command) → IsExpected rest (expected, end) → end ≡ command_text c → rest ≡ body_text expected c
unfolding body_text
body_of rest end None c k e = sym k.0 ∙ e
body_of rest end (Some version) c k e = k.1 ∙ ap (λ y. codes "at" ++ 32 ∷ (decimal version ++ 32 ∷ y)) e

version_of : (rest end : List ℕ) (expected : Option ℕ) → IsExpected rest (expected, end) → IsVersion expected
version_of rest end None k = tt
version_of rest end (Some version) k = k.0

spells : (bytes text word rest end : List ℕ) (session : ℕ) (expected : Option ℕ) (c : Command) → text ≡ bytes → text ≡ word ++ 32 ∷ rest → HasNoSpace word → BeginsWith bytes session → IsExpected rest (expected, end) → IsCommandText end c → length bytes ≤ max_line → Spells bytes (line_of session expected c)
spells bytes text word rest end session expected c same split one b k h short =
    let cut = one_front (decimal session) word b.rest (32 ∷ rest) (sym b.front ∙ sym same ∙ split) (no_space_decimal session (omega (arith, b.exists))) one b.behind refl in
    let body = body_of rest end expected c k h.is_text in
    record {
      is_line = record { session = b.exists; expected = version_of rest end expected k; command = h.is_command };
      text = b.front ∙ ap (λ y. decimal session ++ y) (cut.1 ∙ ap (λ y. 32 ∷ y) body) ∙ sym (line_flat session expected c);
      short = short;
    }

pub is_head : (bytes text word rest end : List ℕ) (session : ℕ) (expected : Option ℕ) → text ≡ bytes → text ≡ word ++ 32 ∷ rest → HasNoSpace word → BeginsWith bytes session → IsExpected rest (expected, end) → length bytes ≤ max_line → IsHead bytes session expected end
is_head bytes text word rest end session expected same split one b k short = record { makes = λ c h. spells bytes text word rest end session expected c same split one b k h short; only = only }
  where
    only : (l : Line) → Spells bytes l → IsCommandText end l.command
    only l h =
        let e = expected_in rest l.expected l.command h.is_line.expected (behind_session bytes text word rest l same split one h) in
        record { is_command = h.is_line.command; is_text = one_rest rest expected l.expected end (command_text l.command) k e }

-- behind `at` stands a version
behind_at : (text rest : List ℕ) (expected : Option ℕ) (end : List ℕ) → text ≡ codes "at" ++ 32 ∷ rest → IsExpected text (expected, end) → (version : ℕ) × (version ≤ last_version) × (rest ≡ decimal version ++ 32 ∷ end)
behind_at text rest None end split k = absurd (k.1 rest split)
behind_at text rest (Some version) end split k = (version, k.0, ap (drop 3) (sym split ∙ k.1))

pub at_alone : (text rest : List ℕ) → text ≡ codes "at" ++ 32 ∷ rest → HasNoSpace rest → (first : Option ℕ × List ℕ) → IsExpected text first → ⊥
at_alone text rest split none first k =
    let v = behind_at text rest first.0 first.1 split k in
    space_inside (decimal v.0) first.1 rest (sym v.2) (no_space_decimal v.0 (omega (arith, v.1))) none

pub no_version : (text rest word end : List ℕ) → text ≡ codes "at" ++ 32 ∷ rest → rest ≡ word ++ 32 ∷ end → HasNoSpace word → ((n : ℕ) → n ≤ last_version → word ≢ decimal n) → (first : Option ℕ × List ℕ) → IsExpected text first → ⊥
no_version text rest word end split cut one none first k =
    let v = behind_at text rest first.0 first.1 split k in
    none v.0 v.1 (two_words word (decimal v.0) end first.1 (sym cut ∙ v.2) one (no_space_decimal v.0 (omega (arith, v.1)))).0

pub one_session_of : (bytes : List ℕ) (m n : Option ℕ) → IsSessionOf bytes m → IsSessionOf bytes n → m ≡ n
one_session_of bytes None None h k = refl
one_session_of bytes None (Some n) h k = absurd (h n k)
one_session_of bytes (Some m) None h k = absurd (k m h)
one_session_of bytes (Some m) (Some n) h k = ap Some (one_session bytes m n h k)
