-- A text is that of at most one line.
use Rattle.std.proofs.Common.{◌≡◌, ℕ, ℤ, ◌+◌, ◌*◌, Bool, true, false, not, ◌&&◌, nat_eq, List, [], ◌∷◌, ◌++◌, map, drop, Option, Some, None, refl, sym, ap, ◌∙◌, arith, append_assoc}
use Rattle.std.specs.Prelude.{IsUtf8, chars}
use Rattle.std.specs.List.{flat_map, join_with_byte, AllByRecursion}
use Rattle.std.specs.Fmt.{decimal}
use Rattle.std.proofs.lemmas.Str.{chars-nil}
use lib.Chars.{codes}
use Rattle.at_model.specs.Names.{is_name, is_word, is_reserved}
use Rattle.at_model.specs.Trees as tree
use Rattle.at_model.specs.Terms.{max_depth, with_commas, token_text, IsToken}
use Rattle.at_model.specs.Paths.{Path, Step, path_text, step_text, index_text, IsPath, IsIndex}
use Rattle.at_model.specs.Lines.{Place, From_root, From_mark, Argument, Text, Int, Truth, Ref, Null, Command, Ask, Set, Put, Drop, Insert, Token, Move, Show, Mark, Unmark, Where, Version, Post, Wait, Line, place_text, argument_text, call_text, command_words, expected_words, line_text, IsPlace, IsArgument, IsCommand, IsVersion, IsLine}
use Rattle.at_model.proofs.of_texts.Words.{apart, apart_bytes, Ends, Stops, same_word, stops, ends_not, ends_wordless, name_inner}
use Rattle.at_model.proofs.of_texts.QuotedTexts.{same_quoted}
use Rattle.at_model.proofs.of_texts.OneTerm.{tail, same_decimal, same_token, same_term, token_no_end, token_headless, token_no_null}

-- steps
pub behind_step : (ps : Path) (r : List ℕ) → Ends r → Stops (flat_map step_text ps ++ r) × ((y : List ℕ) → flat_map step_text ps ++ r ≡ 58 ∷ y → ⊥)
behind_step [] r hr = (stops r hr, λ y. ends_not r y 58 hr refl)
behind_step (p ∷ ps) r hr = (refl, λ y e. apart 47 58 _ y refl e)

index_stops : (i : Option ℕ) (z : List ℕ) → Stops z → Stops (index_text i ++ z)
index_stops None z hz = hz
index_stops (Some i) z hz = refl

same_index : (i j : Option ℕ) (z w : List ℕ) → IsIndex i → IsIndex j → Stops z → Stops w → ((y : List ℕ) → z ≡ 58 ∷ y
    → ⊥) → ((y : List ℕ) → w ≡ 58 ∷ y → ⊥) → index_text i ++ z ≡ index_text j ++ w → (i ≡ j) × (z ≡ w)
same_index None None z w hi hj hz hw nz nw e = (refl, e)
same_index None (Some j) z w hi hj hz hw nz nw e = absurd (nz _ e)
same_index (Some i) None z w hi hj hz hw nz nw e = absurd (nw _ (sym e))
same_index (Some i) (Some j) z w hi hj hz hw nz nw e = let both = same_decimal i j z w (omega arith) (omega arith) hz hw (ap tail e) in (ap Some both.0, both.1)

step_flat : (p : Step) (ps : Path) (r : List ℕ) → flat_map step_text (p ∷ ps) ++ r ≡ 47 ∷ (p.part ++ (index_text p.index ++ (flat_map step_text ps ++ r)))
step_flat p ps r = ap (λ z. 47 ∷ z) (append_assoc (p.part ++ index_text p.index) (flat_map step_text ps) r ∙ append_assoc p.part (index_text p.index) (flat_map step_text ps ++ r))

same_steps : (ps qs : Path) (r s : List ℕ) → IsPath ps → IsPath qs → Ends r → Ends s → flat_map step_text ps ++ r ≡ flat_map step_text qs ++ s → (ps ≡ qs) × (r ≡ s)
same_steps [] [] r s hp hq hr hs e = (refl, e)
same_steps [] (q ∷ qs) r s hp hq hr hs e = absurd (ends_not r _ 47 hr refl e)
same_steps (p ∷ ps) [] r s hp hq hr hs e = absurd (ends_not s _ 47 hs refl (sym e))
same_steps (p ∷ ps) (q ∷ qs) r s hp hq hr hs e =
    let flat = ap tail (sym (step_flat p ps r) ∙ e ∙ step_flat q qs s) in
    let pb = behind_step ps r hr in let qb = behind_step qs s hs in
    let parts = same_word p.part q.part _ _ (name_inner p.part hp.0.0.0 hp.0.0.1) (name_inner q.part hq.0.0.0 hq.0.0.1) (index_stops p.index _ pb.0) (index_stops q.index _ qb.0) flat in
    let indexes = same_index p.index q.index _ _ hp.0.1 hq.0.1 pb.0 qb.0 pb.1 qb.1 parts.1 in
    let rest = same_steps ps qs r s hp.1 hq.1 hr hs indexes.1 in
    (λ i. record { part = parts.0 i; index = indexes.0 i } ∷ rest.0 i, rest.1)

-- a name has a byte
no_empty_name : is_name [] ≡ true → ⊥
no_empty_name h = let f : is_word (chars []) ≡ false = ap is_word chars-nil in at_word (is_word (chars [])) f h
  where
    at_word : (b : Bool) → b ≡ false → (b && not (is_reserved [])) ≡ true → ⊥
    at_word true e g = cc
    at_word false e g = cc

ends_nameless : (r name s : List ℕ) → Ends r → is_name name ≡ true → IsUtf8 name → r ≡ name ++ s → ⊥
ends_nameless r [] s hr hn hu e = no_empty_name hn
ends_nameless r (b ∷ name) s hr hn hu e = ends_wordless r name s b hr (name_inner (b ∷ name) hn hu) e

-- places
pub same_path : (p q : Path) (r s : List ℕ) → IsPath p → IsPath q → Ends r → Ends s → path_text p ++ r ≡ path_text q ++ s → (p ≡ q) × (r ≡ s)
same_path [] [] r s hp hq hr hs e = (refl, ap tail e)
same_path [] (q ∷ qs) r s hp hq hr hs e = absurd (ends_nameless r q.part _ hr hq.0.0.0 hq.0.0.1 (ap tail (e ∙ step_flat q qs s)))
same_path (p ∷ ps) [] r s hp hq hr hs e = absurd (ends_nameless s p.part _ hs hp.0.0.0 hp.0.0.1 (ap tail (sym e ∙ step_flat p ps r)))
same_path (p ∷ ps) (q ∷ qs) r s hp hq hr hs e = same_steps (p ∷ ps) (q ∷ qs) r s hp hq hr hs e

pub path_head : (p : Path) (r y : List ℕ) (d : ℕ) → nat_eq 47 d ≡ false → path_text p ++ r ≡ d ∷ y → ⊥
path_head [] r y d h e = apart 47 d r y h e
path_head (p ∷ ps) r y d h e = apart 47 d _ y h e

pub place_head : (p : Place) (r y : List ℕ) (d : ℕ) → nat_eq 47 d ≡ false → nat_eq 36 d ≡ false → place_text p ++ r ≡ d ∷ y → ⊥
place_head (From_root path) r y d h k e = path_head path r y d h e
place_head (From_mark name steps) r y d h k e = apart 36 d _ y k e

pub mark_flat : (name : List ℕ) (steps : Path) (r : List ℕ) → place_text (From_mark name steps) ++ r ≡ 36 ∷ (name ++ (flat_map step_text steps ++ r))
mark_flat name steps r = ap (λ z. 36 ∷ z) (append_assoc name (flat_map step_text steps) r)

pub same_place : (p q : Place) (r s : List ℕ) → IsPlace p → IsPlace q → Ends r → Ends s → place_text p ++ r ≡ place_text q ++ s → (p ≡ q) × (r ≡ s)
same_place (From_root p) (From_root q) r s hp hq hr hs e = let both = same_path p q r s hp hq hr hs e in (ap From_root both.0, both.1)
same_place (From_root p) (From_mark b qs) r s hp hq hr hs e = absurd (path_head p r _ 36 refl e)
same_place (From_mark a ps) (From_root q) r s hp hq hr hs e = absurd (path_head q s _ 36 refl (sym e))
same_place (From_mark a ps) (From_mark b qs) r s hp hq hr hs e =
    let flat = ap tail (sym (mark_flat a ps r) ∙ e ∙ mark_flat b qs s) in
    let names = same_word a b _ _ (name_inner a hp.0.0 hp.0.1) (name_inner b hq.0.0 hq.0.1) (behind_step ps r hr).0 (behind_step qs s hs).0 flat in
    let steps = same_steps ps qs r s hp.1 hq.1 hr hs names.1 in
    (λ i. From_mark (names.0 i) (steps.0 i), steps.1)

-- arguments
place_no_token : (p : Place) (v : tree.Token) (r s : List ℕ) → IsToken v → Ends s → place_text p ++ r ≡ token_text v ++ s → ⊥
place_no_token (From_root []) v r s hv hs e = token_headless v s _ 47 refl refl refl refl hv hs (sym e)
place_no_token (From_root (p ∷ ps)) v r s hv hs e = token_headless v s _ 47 refl refl refl refl hv hs (sym e)
place_no_token (From_mark name steps) v r s hv hs e = token_headless v s _ 36 refl refl refl refl hv hs (sym e)

abbrev int_of : ℤ → tree.Token → ℤ
int_of n (tree.Int m) = m
int_of n v = n

abbrev truth_of : Bool → tree.Token → Bool
truth_of b (tree.Truth c) = c
truth_of b v = b

pub same_argument : (a b : Argument) (r s : List ℕ) → IsArgument a → IsArgument b → Ends r → Ends s → argument_text a ++ r ≡ argument_text b ++ s → (a ≡ b) × (r ≡ s)
same_argument (Text x) (Text y) r s ha hb hr hs e = let both = same_quoted x y r s e in (ap Text both.0, both.1)
same_argument (Text x) (Int n) r s ha hb hr hs e = let both = same_token (tree.Text x) (tree.Int n) r s ha hb hr hs e in absurd (let f = both.0 in cc)
same_argument (Text x) (Truth b) r s ha hb hr hs e = let both = same_token (tree.Text x) (tree.Truth b) r s ha tt hr hs e in absurd (let f = both.0 in cc)
same_argument (Int m) (Text y) r s ha hb hr hs e = let both = same_token (tree.Int m) (tree.Text y) r s ha hb hr hs e in absurd (let f = both.0 in cc)
same_argument (Int m) (Int n) r s ha hb hr hs e = let both = same_token (tree.Int m) (tree.Int n) r s ha hb hr hs e in (ap (λ v. Int (int_of m v)) both.0, both.1)
same_argument (Int m) (Truth b) r s ha hb hr hs e = let both = same_token (tree.Int m) (tree.Truth b) r s ha tt hr hs e in absurd (let f = both.0 in cc)
same_argument (Int m) (Ref q) r s ha hb hr hs e = absurd (place_no_token q (tree.Int m) s r ha hr (sym e))
same_argument (Int m) Null r s ha hb hr hs e = absurd (token_no_null (tree.Int m) r s ha hr hs e)
same_argument (Truth b) (Text y) r s ha hb hr hs e = let both = same_token (tree.Truth b) (tree.Text y) r s tt hb hr hs e in absurd (let f = both.0 in cc)
same_argument (Truth b) (Int n) r s ha hb hr hs e = let both = same_token (tree.Truth b) (tree.Int n) r s tt hb hr hs e in absurd (let f = both.0 in cc)
same_argument (Truth b) (Truth c) r s ha hb hr hs e = let both = same_token (tree.Truth b) (tree.Truth c) r s tt tt hr hs e in (ap (λ v. Truth (truth_of b v)) both.0, both.1)
same_argument (Truth b) (Ref q) r s ha hb hr hs e = absurd (place_no_token q (tree.Truth b) s r tt hr (sym e))
same_argument (Truth b) Null r s ha hb hr hs e = absurd (token_no_null (tree.Truth b) r s tt hr hs e)
same_argument (Ref p) (Int n) r s ha hb hr hs e = absurd (place_no_token p (tree.Int n) r s hb hs e)
same_argument (Ref p) (Truth b) r s ha hb hr hs e = absurd (place_no_token p (tree.Truth b) r s tt hs e)
same_argument Null (Int n) r s ha hb hr hs e = absurd (token_no_null (tree.Int n) s r hb hs hr (sym e))
same_argument Null (Truth b) r s ha hb hr hs e = absurd (token_no_null (tree.Truth b) s r tt hs hr (sym e))
same_argument (Text x) (Ref q) r s ha hb hr hs e = absurd (place_head q s _ 34 refl refl (sym e))
same_argument (Text x) Null r s ha hb hr hs e = absurd (apart 34 110 _ _ refl e)
same_argument (Ref p) (Text y) r s ha hb hr hs e = absurd (place_head p r _ 34 refl refl e)
same_argument (Ref p) (Ref q) r s ha hb hr hs e = let both = same_place p q r s ha hb hr hs e in (ap Ref both.0, both.1)
same_argument (Ref p) Null r s ha hb hr hs e = absurd (place_head p r _ 110 refl refl e)
same_argument Null (Text y) r s ha hb hr hs e = absurd (apart 110 34 _ _ refl e)
same_argument Null (Ref q) r s ha hb hr hs e = absurd (place_head q s _ 110 refl refl (sym e))
same_argument Null Null r s ha hb hr hs e = (refl, ap (drop 4) e)

pub argument_head : (a : Argument) (r y : List ℕ) → IsArgument a → Ends r → argument_text a ++ r ≡ 41 ∷ y → ⊥
argument_head (Text x) r y ha hr e = apart 34 41 _ y refl e
argument_head (Int n) r y ha hr e = token_no_end (tree.Int n) r y 41 ha refl e
argument_head (Truth b) r y ha hr e = token_no_end (tree.Truth b) r y 41 tt refl e
argument_head (Ref p) r y ha hr e = place_head p r y 41 refl refl e
argument_head Null r y ha hr e = apart 110 41 _ y refl e

commas : List Argument → List ℕ
commas [] = []
commas (a ∷ as') = 44 ∷ with_commas (map argument_text (a ∷ as'))

unfold_commas : (a : Argument) (as' : List Argument) (z : List ℕ) → with_commas (map argument_text (a ∷ as')) ++ z ≡ argument_text a ++ (commas as' ++ z)
unfolding commas
unfold_commas a [] z = refl
unfold_commas a (b ∷ bs) z = append_assoc (argument_text a) (44 ∷ with_commas (map argument_text (b ∷ bs))) z

commas_end : (as' : List Argument) (z : List ℕ) → Ends (commas as' ++ 41 ∷ z)
unfolding commas
commas_end [] z = refl
commas_end (a ∷ as') z = refl

same_behind : (as' bs : List Argument) (r s : List ℕ) → (with_commas (map argument_text as') ++ 41 ∷ r ≡ with_commas (map argument_text bs) ++ 41 ∷ s → (as' ≡ bs) × (r ≡ s)) →
    commas as' ++ 41 ∷ r ≡ commas bs ++ 41 ∷ s → (as' ≡ bs) × (r ≡ s)
unfolding commas
same_behind [] [] r s same e = (refl, ap tail e)
same_behind [] (b ∷ bs) r s same e = absurd (apart 41 44 r _ refl e)
same_behind (a ∷ as') [] r s same e = absurd (apart 44 41 _ s refl e)
same_behind (a ∷ as') (b ∷ bs) r s same e = same (ap tail e)

same_arguments : (as' bs : List Argument) (r s : List ℕ) → AllByRecursion IsArgument as' → AllByRecursion IsArgument bs
    → with_commas (map argument_text as') ++ 41 ∷ r ≡ with_commas (map argument_text bs) ++ 41 ∷ s
    → (as' ≡ bs) × (r ≡ s)
same_arguments [] [] r s ha hb e = (refl, ap tail e)
same_arguments [] (b ∷ bs) r s ha hb e = absurd (argument_head b _ r hb.0 (commas_end bs s) (sym (e ∙ unfold_commas b bs (41 ∷ s))))
same_arguments (a ∷ as') [] r s ha hb e = absurd (argument_head a _ s ha.0 (commas_end as' r) (sym (unfold_commas a as' (41 ∷ r)) ∙ e))
same_arguments (a ∷ as') (b ∷ bs) r s ha hb e =
    let flat = sym (unfold_commas a as' (41 ∷ r)) ∙ e ∙ unfold_commas b bs (41 ∷ s) in
    let first = same_argument a b _ _ ha.0 hb.0 (commas_end as' r) (commas_end bs s) flat in
    let rest = same_behind as' bs r s (same_arguments as' bs r s ha.1 hb.1) first.1 in
    (λ i. first.0 i ∷ rest.0 i, rest.1)

pub same_call : (a b : List ℕ) (as' bs : List Argument) → is_name a ≡ true → IsUtf8 a → is_name b ≡ true → IsUtf8 b
    → AllByRecursion IsArgument as' → AllByRecursion IsArgument bs → call_text a as' ≡ call_text b bs
    → (a ≡ b) × (as' ≡ bs)
same_call a b as' bs ha ua hb ub has hbs e =
    let names = same_word a b _ _ (name_inner a ha ua) (name_inner b hb ub) refl refl e in
    (names.0, (same_arguments as' bs [] [] has hbs (ap tail names.1)).0)

-- commands
abbrev pub command_text : Command → List ℕ
command_text c = join_with_byte 32 (command_words c)

-- the first two bytes tell the commands apart
abbrev pub two : List ℕ → ℕ
two [] = 0
two (b ∷ []) = b
two (b ∷ c ∷ bs) = b + 256 * c

onto_end : {x y : List ℕ} → x ≡ y → x ++ [] ≡ y ++ []
onto_end e = ap (λ z. z ++ []) e

pub same_command : (c d : Command) → IsCommand c → IsCommand d → command_text c ≡ command_text d → c ≡ d
same_command (Ask p a as') (Ask q b bs) hc hd e =
    let places = same_place p q _ _ hc.0 hd.0 refl refl (ap (drop 4) e) in
    let calls = same_call a b as' bs hc.1.0 hc.1.1 hd.1.0 hd.1.1 hc.2 hd.2 (ap tail places.1) in
    λ i. Ask (places.0 i) (calls.0 i) (calls.1 i)
same_command (Set p t) (Set q u) hc hd e =
    let places = same_place p q _ _ hc.0 hd.0 refl refl (ap (drop 4) e) in
    let terms = same_term max_depth max_depth t u [] [] hc.1 hd.1 (onto_end (ap tail places.1)) in
    λ i. Set (places.0 i) (terms.0 i)
same_command (Put p a t) (Put q b u) hc hd e =
    let places = same_place p q _ _ hc.0 hd.0 refl refl (ap (drop 4) e) in
    let parts = same_word a b _ _ (name_inner a hc.1.0 hc.1.1) (name_inner b hd.1.0 hd.1.1) refl refl (ap tail places.1) in
    let terms = same_term max_depth max_depth t u [] [] hc.2 hd.2 (onto_end (ap tail parts.1)) in
    λ i. Put (places.0 i) (parts.0 i) (terms.0 i)
same_command (Drop p) (Drop q) hc hd e = ap Drop (same_place p q [] [] hc hd tt tt (onto_end (ap (drop 5) e))).0
same_command (Insert p a i t) (Insert q b j u) hc hd e =
    let places = same_place p q _ _ hc.0 hd.0 refl refl (ap (drop 7) e) in
    let parts = same_word a b _ _ (name_inner a hc.1.0 hc.1.1) (name_inner b hd.1.0 hd.1.1) refl refl (ap tail places.1) in
    let indexes = same_decimal i j _ _ (omega (arith, hc.2)) (omega (arith, hd.2)) refl refl (ap tail parts.1) in
    let terms = same_term max_depth max_depth t u [] [] hc.3 hd.3 (onto_end (ap tail indexes.1)) in
    λ k. Insert (places.0 k) (parts.0 k) (indexes.0 k) (terms.0 k)
same_command (Token p a v) (Token q b w) hc hd e =
    let places = same_place p q _ _ hc.0 hd.0 refl refl (ap (drop 6) e) in
    let parts = same_word a b _ _ (name_inner a hc.1.0 hc.1.1) (name_inner b hd.1.0 hd.1.1) refl refl (ap tail places.1) in
    let tokens = same_token v w [] [] hc.2 hd.2 tt tt (onto_end (ap tail parts.1)) in
    λ i. Token (places.0 i) (parts.0 i) (tokens.0 i)
same_command (Move p x a i) (Move q y b j) hc hd e =
    let places = same_place p q _ _ hc.0 hd.0 refl refl (ap (drop 5) e) in
    let others = same_place x y _ _ hc.1 hd.1 refl refl (ap (drop 4) places.1) in
    let parts = same_word a b _ _ (name_inner a hc.2.0 hc.2.1) (name_inner b hd.2.0 hd.2.1) refl refl (ap tail others.1) in
    let indexes = same_decimal i j [] [] (omega (arith, hc.3)) (omega (arith, hd.3)) tt tt (onto_end (ap tail parts.1)) in
    λ k. Move (places.0 k) (others.0 k) (parts.0 k) (indexes.0 k)
same_command (Show p) (Show q) hc hd e = ap Show (same_place p q [] [] hc hd tt tt (onto_end (ap (drop 5) e))).0
same_command (Mark a p) (Mark b q) hc hd e =
    let names = same_word a b _ _ (name_inner a hc.0.0 hc.0.1) (name_inner b hd.0.0 hd.0.1) refl refl (ap (drop 5) e) in
    let places = same_place p q [] [] hc.1 hd.1 tt tt (onto_end (ap tail names.1)) in
    λ i. Mark (names.0 i) (places.0 i)
same_command (Unmark a) (Unmark b) hc hd e = ap Unmark (ap (drop 7) e)
same_command (Where a) (Where b) hc hd e = ap Where (ap (drop 6) e)
same_command Version Version hc hd e = refl
same_command (Post p a as') (Post q b bs) hc hd e =
    let places = same_place p q _ _ hc.0 hd.0 refl refl (ap (drop 5) e) in
    let calls = same_call a b as' bs hc.1.0 hc.1.1 hd.1.0 hd.1.1 hc.2 hd.2 (ap tail places.1) in
    λ i. Post (places.0 i) (calls.0 i) (calls.1 i)
same_command (Wait m) (Wait n) hc hd e = ap Wait (same_decimal m n [] [] (omega (arith, hc.1)) (omega (arith, hd.1)) tt tt (onto_end (ap (drop 5) e))).0
same_command c d hc hd e = absurd (apart_bytes (two (command_text c)) (two (command_text d)) refl (ap two e))

-- lines
unfoldable pub body_text : Option ℕ → Command → List ℕ
body_text None c = command_text c
body_text (Some version) c = codes "at" ++ 32 ∷ (decimal version ++ 32 ∷ command_text c)

pub data IsFilled : List (List ℕ) → Type 0 where
  filled : (w : List ℕ) (ws : List (List ℕ)) → IsFilled (w ∷ ws)

words_filled : (c : Command) → IsFilled (command_words c)
words_filled (Ask p a as') = filled _ _
words_filled (Set p t) = filled _ _
words_filled (Put p a t) = filled _ _
words_filled (Drop p) = filled _ _
words_filled (Insert p a i t) = filled _ _
words_filled (Token p a v) = filled _ _
words_filled (Move p x a i) = filled _ _
words_filled (Show p) = filled _ _
words_filled (Mark a p) = filled _ _
words_filled (Unmark a) = filled _ _
words_filled (Where a) = filled _ _
words_filled Version = filled _ _
words_filled (Post p a as') = filled _ _
words_filled (Wait n) = filled _ _

join_filled : (x : List ℕ) (ws : List (List ℕ)) → IsFilled ws → join_with_byte 32 (x ∷ ws) ≡ x ++ (32 ∷ join_with_byte 32 ws)
join_filled x ws (filled w rest) = refl

pub line_flat : (session : ℕ) (o : Option ℕ) (c : Command) → join_with_byte 32 (decimal session ∷ (expected_words o ++ command_words c)) ≡ decimal session ++ 32 ∷ body_text o c
unfolding body_text
line_flat session None c = join_filled (decimal session) (command_words c) (words_filled c)
line_flat session (Some version) c = ap (λ z. decimal session ++ 32 ∷ (codes "at" ++ 32 ∷ z)) (join_filled (decimal version) (command_words c) (words_filled c))

pub no_at : (c : Command) (y : List ℕ) → command_text c ≡ codes "at" ++ 32 ∷ y → ⊥
no_at (Ask p a as') y e = apart_bytes 29537 29793 refl (ap two e)
no_at (Set p t) y e = apart 115 97 _ _ refl e
no_at (Put p a t) y e = apart 112 97 _ _ refl e
no_at (Drop p) y e = apart 100 97 _ _ refl e
no_at (Insert p a i t) y e = apart 105 97 _ _ refl e
no_at (Token p a v) y e = apart 116 97 _ _ refl e
no_at (Move p x a i) y e = apart 109 97 _ _ refl e
no_at (Show p) y e = apart 115 97 _ _ refl e
no_at (Mark a p) y e = apart 109 97 _ _ refl e
no_at (Unmark a) y e = apart 117 97 _ _ refl e
no_at (Where a) y e = apart 119 97 _ _ refl e
no_at Version y e = apart 118 97 _ _ refl e
no_at (Post p a as') y e = apart 112 97 _ _ refl e
no_at (Wait n) y e = apart 119 97 _ _ refl e

same_body : (o p : Option ℕ) (c d : Command) → IsVersion o → IsVersion p → IsCommand c → IsCommand d → body_text o c ≡ body_text p d → (o ≡ p) × (c ≡ d)
unfolding body_text
same_body None None c d ho hp hc hd e = (refl, same_command c d hc hd e)
same_body None (Some v) c d ho hp hc hd e = absurd (no_at c _ e)
same_body (Some v) None c d ho hp hc hd e = absurd (no_at d _ (sym e))
same_body (Some v) (Some w) c d ho hp hc hd e =
    let versions = same_decimal v w _ _ (omega (arith, ho)) (omega (arith, hp)) refl refl (ap (drop 3) e) in
    (ap Some versions.0, same_command c d hc hd (ap tail versions.1))

pub same_line : (l m : Line) → IsLine l → IsLine m → line_text l ≡ line_text m → l ≡ m
same_line l m hl hm e =
    let flat = sym (line_flat l.session l.expected l.command) ∙ e ∙ line_flat m.session m.expected m.command in
    let sessions = same_decimal l.session m.session _ _ (omega (arith, hl.session)) (omega (arith, hm.session)) refl refl flat in
    let bodies = same_body l.expected m.expected l.command m.command hl.expected hm.expected hl.command hm.command (ap tail sessions.1) in
    λ i. record { session = sessions.0 i; expected = bodies.0 i; command = bodies.1 i }
