-- Names of ASCII, told by their bytes.
use Rattle.std.proofs.Common.{◌≡◌, ℕ, zero, suc, ◌+◌, ◌<◌, ◌≤◌, Bool, true, false, ◌&&◌, ◌||◌, ◌==◌, not, List, [], ◌∷◌, ◌++◌, ◌-◌, length, take, drop, get_or, Some, None, refl, ap, sym, ◌∙◌, subst, arith, cond, ltb, encode_utf8_all}
use Rattle.std.specs.Prelude.{chars, encode_utf8, IsUtf8}
use Rattle.std.specs.Char.{is_ascii, is_ascii_alphabetic, is_ascii_digit}
use Rattle.std.specs.List.{list_all, AllByRecursion}
use Rattle.std.specs.Str.{IsAscii, IsCharBoundary}
use Rattle.std.proofs.lemmas.Bool.Decides.{nat_tests}
use Rattle.std.proofs.lemmas.List.Sums.{fails_before_first, passes_at_first, prefix_len-le-length}
use Rattle.std.proofs.lemmas.List.Folds.{list_all_more}
use Rattle.std.proofs.lemmas.List.{take_all, take-append-drop, drop_all, drop_more}
use Rattle.std.proofs.lemmas.Str.{chars-IsAscii, encode_ascii, encodes-chars, IsUtf8-from_ascii, IsCharBoundary-from_take}
use Rattle.std.proofs.lemmas.Str.Ascii.{IsAscii-nil, IsAscii-cons}
use Rattle.unicode_ident.proofs.IdentLemmas.{is_xid_start-ascii, is_xid_continue-ascii}
use Rattle.at_model.specs.Names.{starts_name, continues_name, is_word, IsName, is_reserved}
use Rattle.at_model.proofs.Options.{both}
use Rattle.at_text.specs.Front.{EndsRun}
use Rattle.at_text.specs.Pieces.{NotBefore}
use Rattle.at_text.proofs.Fronts.{not_false, stops_at, stops_at_end}
use Rattle.at_text.proofs.ReadingLaws.{all_append}
use Rattle.at_tree.specs.PlainNames.{is_name_byte, name_len, begins_name, begins_plain}
use Rattle.at_tree.specs.Runs.{Passes, IsWordBefore}
use Rattle.at_tree.proofs.Passing.{cut_back, cut_front, joined, one_before}

below_128 : (b : ℕ) → is_name_byte b ≡ true → b < 128
below_128 b h = grind (arith, nat_tests, h)

goes_on : (b : ℕ) → is_name_byte b ≡ true → continues_name b ≡ true
goes_on b h = is_xid_continue-ascii b (below_128 b h) ∙ h

alphabetic : (b : ℕ) → is_name_byte b ≡ true → not (is_ascii_digit b) ≡ true → (is_ascii_alphabetic b || (b == 95)) ≡ true
alphabetic b h k = grind (arith, nat_tests, h, k)

starts : (b : ℕ) → is_name_byte b ≡ true → not (is_ascii_digit b) ≡ true → starts_name b ≡ true
starts b h k = ap (λ t. t || (b == 95)) (is_xid_start-ascii b (below_128 b h)) ∙ alphabetic b h k

abbrev AreNameBytes : List ℕ → Type 0
AreNameBytes bs = list_all is_name_byte bs ≡ true

all_ascii : (bs : List ℕ) → AreNameBytes bs → IsAscii bs
all_ascii [] h = IsAscii-nil
all_ascii (b ∷ bs) h = let p = both (is_name_byte b) (list_all is_name_byte bs) h in IsAscii-cons b bs (below_128 b p.0) (all_ascii bs p.1)

all_go_on : (bs : List ℕ) → AreNameBytes bs → list_all continues_name bs ≡ true
all_go_on [] h = refl
all_go_on (b ∷ bs) h = let p = both (is_name_byte b) (list_all is_name_byte bs) h in rw (goes_on b p.0, all_go_on bs p.1) refl

word : (bs : List ℕ) → AreNameBytes bs → begins_name bs ≡ true → is_word bs ≡ true
word [] h k = cc
word (b ∷ bs) h k = let p = both (is_name_byte b) (list_all is_name_byte bs) h in rw (starts b p.0 k, all_go_on bs p.1) refl

pub named : (bs : List ℕ) → AreNameBytes bs → begins_name bs ≡ true → is_reserved bs ≡ false → IsName bs
named bs h k r =
    let a = all_ascii bs h in
    let w : is_word (chars bs) ≡ true = ap is_word (chars-IsAscii bs a) ∙ word bs h k in
    (rw (w, r) refl, IsUtf8-from_ascii bs a)

passes : (b : Bool) → not b ≡ false → b ≡ true
passes true e = refl
passes false e = cc

up_to : (text : List ℕ) (k : ℕ) → k ≤ name_len text → k ≤ length text → AreNameBytes (take k text)
up_to text zero h l = refl
up_to text (suc k) h l =
    let byte = passes (is_name_byte (get_or text k 0)) (fails_before_first (λ b. not (is_name_byte b)) text k 0 (omega (arith, h))) in
    let before = up_to text k (omega (arith, h)) (omega (arith, l)) in
    let more : list_all is_name_byte (take (k + 1) text) ≡ (list_all is_name_byte (take k text) && is_name_byte (get_or text k 0)) = list_all_more is_name_byte text k 0 (omega (arith, l)) in
    let next : k + 1 ≡ suc k = omega arith in
    subst (λ n. AreNameBytes (take n text)) next (more ∙ rw (before, byte) refl)

within : (text : List ℕ) → name_len text ≤ length text
within text = prefix_len-le-length (λ b. not (not (is_name_byte b))) text

-- the position that a search gives
pub place_found : (p n i : ℕ) → Some i ≡ cond (ltb p n) (Some p) None → i ≡ p
place_found p n i e = decide (ltb p n) e
  where
    decide : (r : Bool) → Some i ≡ cond r (Some p) None → i ≡ p
    decide true f = cc
    decide false f = cc

-- and none
pub place_past : (p n : ℕ) → None ≡ cond (ltb p n) (Some p) None → n ≤ p
place_past p n e = decide (ltb p n) refl e
  where
    decide : (r : Bool) → ltb p n ≡ r → None ≡ cond r (Some p) None → n ≤ p
    decide true h f = absurd (cc)
    decide false h f = grind (arith, nat_tests)

pub all_names : (text : List ℕ) → None ≡ cond (ltb (name_len text) (length text)) (Some (name_len text)) None → length text ≡ name_len text
all_names text e = let far = place_past (name_len text) (length text) e in omega (arith, far, within text)

pub name_bytes : (text : List ℕ) → AreNameBytes (take (name_len text) text)
name_bytes text = up_to text (name_len text) (omega arith) (within text)

pub cut_behind_name : (text : List ℕ) → IsUtf8 text → IsCharBoundary text (name_len text)
cut_behind_name text u = IsCharBoundary-from_take text (name_len text) u (within text) (IsUtf8-from_ascii _ (all_ascii _ (name_bytes text)))

-- a word that is such bytes alone
pub plain : (word : List ℕ) → length word ≤ name_len word → begins_name word ≡ true → is_reserved word ≡ false → IsName word
plain word all begins free = named word (subst AreNameBytes (take_all (name_len word) word all) (name_bytes word)) begins free

-- words at the front: a character, bytes of ASCII, and a run
all_of : (p : ℕ → Bool) (cs : List ℕ) → list_all p cs ≡ true → AllByRecursion (λ c. p c ≡ true) cs
all_of p [] h = tt
all_of p (c ∷ cs) h = let f = both (p c) (list_all p cs) h in (f.0, all_of p cs f.1)

spelled : (bs : List ℕ) → AreNameBytes bs → encode_utf8_all bs ≡ bs
spelled bs h = let ascii = all_ascii bs h in ap encode_utf8_all (sym (chars-IsAscii bs ascii)) ∙ encodes-chars bs (IsUtf8-from_ascii bs ascii)

pub plain_passes : (text rest : List ℕ) → rest ≡ drop (name_len text) text → Passes continues_name text rest
plain_passes text rest is =
    let name = take (name_len text) text in
    let same = spelled name (name_bytes text) in
    (name, sym (ap (λ y. y ++ rest) same ∙ ap (λ y. name ++ y) is ∙ take-append-drop (name_len text) text), all_of continues_name name (all_go_on name (name_bytes text)))

pub word_split : (text behind next rest : List ℕ) (c : ℕ) → text ≡ encode_utf8 c ++ behind → (plain : Passes continues_name behind next) → (run : EndsRun continues_name next rest)
    → text ≡ encode_utf8_all (c ∷ (plain.0 ++ run.0)) ++ rest
word_split text behind next rest c first plain run = one_before c (plain.0 ++ run.0) text behind rest first (joined behind next rest plain.0 run.0 plain.1 run.1)

pub word_before : (text behind next rest word after : List ℕ) (c : ℕ) → text ≡ encode_utf8 c ++ behind → starts_name c ≡ true → Passes continues_name behind next → EndsRun continues_name next rest
    → word ≡ take (length text - length rest) text → after ≡ drop (length text - length rest) text → IsWordBefore text word after
word_before text behind next rest word after c first starts plain run front back =
    let cs = plain.0 ++ run.0 in
    let split : text ≡ encode_utf8_all (c ∷ cs) ++ rest = word_split text behind next rest c first plain run in
    subst (λ x. IsWordBefore text word x) (sym (back ∙ cut_back text (encode_utf8_all (c ∷ cs)) rest split))
    (c, cs, front ∙ cut_front text (encode_utf8_all (c ∷ cs)) rest split, split, starts, (all_append (λ c. continues_name c ≡ true) plain.0 run.0 plain.2 run.2.0, run.2.1))

-- words of ASCII alone at the front
low : (b : ℕ) → is_ascii b ≡ true → b < 128
low b h = grind (arith, nat_tests, h)

-- a name doesn't go on with a byte of ASCII that is none of a name
ends_here : (b : ℕ) (bs : List ℕ) → not (is_name_byte b) ≡ true → is_ascii b ≡ true → NotBefore continues_name (b ∷ bs)
ends_here b bs h k = stops_at continues_name b (b ∷ bs) bs (ap (λ y. y ++ bs) (sym (encode_ascii b (low b k)))) (is_xid_continue-ascii b (low b k) ∙ not_false (is_name_byte b) h)

ends_plain : (text : List ℕ) → begins_plain (drop (name_len text) text) ≡ true → NotBefore continues_name (drop (name_len text) text)
ends_plain text h = by (ltb (name_len text) (length text)) refl
  where
    by : (r : Bool) → ltb (name_len text) (length text) ≡ r → NotBefore continues_name (drop (name_len text) text)
    by true t =
        let split = drop_more text (name_len text) 0 (grind (arith, nat_tests, t)) in
        let stops = passes_at_first (λ b. not (is_name_byte b)) text 0 (grind (arith, nat_tests, t)) in
        subst (NotBefore continues_name) (sym split) (ends_here _ _ stops (sym (ap begins_plain split) ∙ h))
    by false t = stops_at_end continues_name _ (ap length (drop_all (name_len text) text (grind (arith, nat_tests, t))))

plain_at : (text word rest : List ℕ) → AreNameBytes word → begins_name word ≡ true → text ≡ word ++ rest → NotBefore continues_name rest → IsWordBefore text word rest
plain_at text [] rest h k split stops = absurd cc
plain_at text (b ∷ bs) rest h k split stops =
    let p = both (is_name_byte b) (list_all is_name_byte bs) h in
    let is = spelled (b ∷ bs) h in
    (b, bs, sym is, split ∙ ap (λ y. y ++ rest) (sym is), starts b p.0 k, (all_of continues_name bs (all_go_on bs p.1), stops))

pub plain_before : (text word rest : List ℕ) → word ≡ take (name_len text) text → rest ≡ drop (name_len text) text → begins_name word ≡ true → begins_plain rest ≡ true → IsWordBefore text word rest
plain_before text word rest front back begins ends =
    let split = ap (λ y. y ++ rest) front ∙ ap (λ y. take (name_len text) text ++ y) back ∙ take-append-drop (name_len text) text in
    let stops = ends_plain text (ap begins_plain (sym back) ∙ ends) in
    plain_at text word rest (subst AreNameBytes (sym front) (name_bytes text)) begins (sym split) (subst (NotBefore continues_name) (sym back) stops)
