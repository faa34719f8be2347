-- Texts with blanks for slashes, and the marks of names behind these.
use Rattle.std.proofs.Common.{◌≡◌, ◌∙◌, ℕ, zero, suc, ◌+◌, ◌-◌, ◌<◌, ◌≤◌, ◌==◌, ◌&&◌, true, false, Bool, not, Option, Some, None, Result, Ok, Err, List, [], ◌∷◌, ◌++◌, length, map, take, drop, get_or, set, if◌then◌else◌, refl, sym, ap, subst, add-one, append-nil, arith}
use Rattle.std.specs.Str.{IsUtf8}
use Rattle.std.proofs.lemmas.List.{drop_all, set_split, take_rest}
use Rattle.std.proofs.lemmas.Str.{IsCharBoundary-after_ascii, IsCharBoundary-before_ascii, IsUtf8-append, IsUtf8-drop, IsUtf8-encode, IsUtf8-take, encode_ascii}
use Rattle.at_model.specs.Edits.{changed_at}
use Rattle.std.proofs.Math.Seq.{drop-cons}
use Rattle.std.proofs.lemmas.List.Elements.{All-cons, All-head, All-map, All-nil, All-tail}
use Rattle.std.specs.List.{All, slice_get}
use Rattle.std.specs.Result.{IfOk}
use lib.Chars.{codes}
use Rattle.at_model.specs.Declarations.{Place}
use Rattle.at_class.specs.Grammar.{place_view}
use Rattle.at_text.specs.Symbols.{PlacedToken, placed, placed_in}
use Rattle.at_text.specs.declared.placed.Placed.{Placed}
use Rattle.at_start.specs.Slashes.{Slashed, Unslashes, all_slashed, blank, blanked, closed, cut, first_slashed, goes_on, is_named, is_this, marks_of, next_slashed, slashed_at, slashed_in, slashes, spot_behind, typed_length, uncut}
use Rattle.at_start.specs.SlashesView.{slashed_view}
use Rattle.at_start.specs.declared.slashes.Slashed.{Slashed as SlashedValue}
use Rattle.at_start.specs.declared.slashes.Blanked.{Blanked}
use Rattle.at_start.specs.declared.slashes.Spot.{Spot}
use Rattle.at_start.specs.declared.slashes.Spot.TheVariants.{Outside, Component, Kind, Bracketed}
use Rattle.at_text.specs.Faults.{FaultsAt}
use Rattle.at_text.specs.Pieces.{Cut, Piece, Spelled, spelled, spelled_at}
use Rattle.at_text.specs.declared.scan.ScanFault.{ScanFault}
use Rattle.at_text.specs.declared.scan.ScanFault.TheVariants.{Memory}
use Rattle.at_text.specs.declared.token.Lexeme.{Lexeme}

-- ---- one byte

pub set_changed : (f : ℕ → ℕ) (xs : List ℕ) (i b v : ℕ) → i < length xs → b ≡ get_or xs i b → f b ≡ v → set xs i v ≡ changed_at f xs i
set_changed f [] i b v less there is = absurd (omega (arith, less))
set_changed f (x ∷ xs) zero b v less there is = ap (λ y. y ∷ xs) (sym is ∙ ap f there)
set_changed f (x ∷ xs) (suc i) b v less there is = ap (λ ys. x ∷ ys) (set_changed f xs i b v (omega (arith, less)) there is)

pub changed_past : (f : ℕ → ℕ) (xs : List ℕ) (i : ℕ) → (i < length xs → false ≡ true) → xs ≡ changed_at f xs i
changed_past f [] i past = refl
changed_past f (x ∷ xs) zero past = let no : false ≡ true = past (omega arith) in absurd (cc)
changed_past f (x ∷ xs) (suc i) past = ap (λ ys. x ∷ ys) (changed_past f xs i (λ less. past (omega (arith, less))))

pub blank_slash : (b : ℕ) → (b == 47) ≡ true → blank b ≡ 32
blank_slash b is = ap (λ (t : Bool). if t then 32 else b) is

pub blank_other : (b : ℕ) → (b == 47) ≡ false → blank b ≡ b
blank_other b is = ap (λ (t : Bool). if t then 32 else b) is

same_at : (xs : List ℕ) (i a b : ℕ) → i < length xs → get_or xs i a ≡ get_or xs i b
same_at [] i a b less = absurd (omega (arith, less))
same_at (x ∷ xs) zero a b less = refl
same_at (x ∷ xs) (suc i) a b less = same_at xs i a b (omega (arith, less))

pub blank_utf8 : (bs : List ℕ) (i b : ℕ) → i < length bs → b ≡ get_or bs i b → b < 128 → IsUtf8 bs → IsUtf8 (set bs i 32)
blank_utf8 bs i b less there small utf8 =
    let low : get_or bs i 0 < 128 = omega (arith, small, there, same_at bs i b 0 less) in
    let front = IsUtf8-take bs i utf8 (IsCharBoundary-before_ascii bs i less low) in
    let behind = IsUtf8-drop bs (i + 1) utf8 (IsCharBoundary-after_ascii bs i utf8 less low) in
    let rest = IsUtf8-append (32 ∷ []) (drop (i + 1) bs) (subst IsUtf8 (encode_ascii 32 (omega arith)) (IsUtf8-encode 32 (search))) behind in
    subst IsUtf8 (sym (set_split bs i 32 less ∙ ap (λ n. take i bs ++ 32 ∷ drop n bs) (sym (add-one i))))
    (IsUtf8-append (take i bs) (32 ∷ drop (i + 1) bs) front rest)

-- ---- rows

pub none_slashed : (at : Spot) (n : ℕ) (found : List Slashed) (ts : List Lexeme) (i : ℕ) (zs : List Slashed) → length ts ≤ i
    → found ++ all_slashed at n (map spelled (drop i ts)) ≡ zs → found ≡ zs
none_slashed at n found ts i zs past so_far =
    sym (ap (λ xs. found ++ all_slashed at n (map spelled xs)) (drop_all i ts past) ∙ append-nil found) ∙ so_far

-- those that are left when one more token was looked at
pub one_looked : (ts : List Lexeme) (i : ℕ) (other : Lexeme) (at next : Spot) (n more : ℕ) (old new zs : List Slashed)
    → i < length ts → next ≡ spot_behind at (spelled (get_or ts i other))
    → new ++ next_slashed at more (map spelled (take (length ts - i) (drop i ts))) ≡ old ++ all_slashed at n (map spelled (take (length ts - i) (drop i ts)))
    → old ++ all_slashed at n (map spelled (drop i ts)) ≡ zs → new ++ all_slashed next more (map spelled (drop (i + 1) ts)) ≡ zs
one_looked ts i other at next n more old new zs less goes looked so_far =
    let whole = take_rest ts i in
    ap (λ k. new ++ all_slashed next more (map spelled (drop k ts))) (add-one i)
    ∙ ap (λ s. new ++ all_slashed s more (map spelled (drop (suc i) ts))) goes
    ∙ ap (λ us. new ++ next_slashed at more (map spelled us)) (sym (whole ∙ drop-cons ts i other less))
    ∙ looked ∙ ap (λ us. old ++ all_slashed at n (map spelled us)) whole ∙ so_far

-- ---- marks

places_seen : (ps : List Placed) → map place_view (map (λ (t : Placed). t.at) ps) ≡ map (λ (q : PlacedToken). place_view q.at) (map placed ps)
places_seen [] = refl
places_seen (p ∷ ps) = ap (λ qs. place_view p.at ∷ qs) (places_seen ps)

names_seen : (text : List ℕ) (found : List SlashedValue)
    → map (λ (q : PlacedToken). place_view q.at) (map (placed_in text) (map spelled (map (λ (s : SlashedValue). s.name) found)))
    ≡ marks_of text (map slashed_view found)
names_seen text [] = refl
names_seen text (s ∷ found) = ap (λ qs. place_view (placed_in text (spelled s.name)).at ∷ qs) (names_seen text found)

pub marks_are : (text : List ℕ) (ps : List Placed) (found : List SlashedValue) (names : List Lexeme) → names ≡ map (λ (s : SlashedValue). s.name) found
    → map placed ps ≡ map (placed_in text) (map spelled names)
    → map place_view (map (λ (t : Placed). t.at) ps) ≡ marks_of text (map slashed_view found)
marks_are text ps found names are placing =
    places_seen ps ∙ ap (map (λ (q : PlacedToken). place_view q.at)) placing
    ∙ ap (λ (ns : List Lexeme). map (λ (q : PlacedToken). place_view q.at) (map (placed_in text) (map spelled ns))) are ∙ names_seen text found

pub names_all : (B : ℕ → Type 0) (found : List SlashedValue) → All (λ (s : SlashedValue). B s.name.start) found
    → All (λ (t : Lexeme). B t.start) (map (λ (s : SlashedValue). s.name) found)
names_all B [] all = All-nil (λ (t : Lexeme). B t.start)
names_all B (s ∷ found) all =
    All-cons (λ (t : Lexeme). B t.start) s.name (map (λ (r : SlashedValue). r.name) found) (All-head (λ (r : SlashedValue). B r.name.start) s found all)
    (names_all B found (All-tail (λ (r : SlashedValue). B r.name.start) s found all))

-- what holds of the offsets of all tokens holds of those of the names
module _ (B : ℕ → Type 0) where
  abbrev Stands : Spelled → Type 0
  Stands t = B t.start

  abbrev Named : Slashed → Type 0
  Named s = B s.name.start

  if_tested : (test : Bool) (o : Option Slashed) → ((s : Slashed) → o ≡ Some s → Named s) → (s : Slashed) → (if test then o else None) ≡ Some s → Named s
  if_tested true o named s is = named s is
  if_tested false o named s is = let no : None ≡ Some s = is in absurd (cc)

  closed_named : (t u : Spelled) (n : ℕ) (o next : Option Spelled) → Stands u → (s : Slashed) → closed t u n o next ≡ Some s → Named s
  closed_named t u n None next there s is = let no : None ≡ Some s = is in absurd (cc)
  closed_named t u n (Some v) next there s is =
      let found : Slashed = record { opens = t.start; name = u; closes = v.start; more = n + 2 } in
      if_tested (is_this (codes "/") v && not (goes_on next)) (Some found) (λ r same. let e : found ≡ r = cc in subst Named e there) s is

  first_named : (ts : List Spelled) → All Stands ts → (s : Slashed) → first_slashed ts ≡ Some s → Named s
  first_named [] all s is = let no : None ≡ Some s = is in absurd (cc)
  first_named (t ∷ []) all s is = let no : None ≡ Some s = is in absurd (cc)
  first_named (t ∷ u ∷ ts) all s is =
      let n = typed_length ts in
      if_tested (is_this (codes "/") t && is_named u) (closed t u n (slice_get ts n) (slice_get ts (n + 1)))
      (closed_named t u n (slice_get ts n) (slice_get ts (n + 1)) (All-head Stands u ts (All-tail Stands t (u ∷ ts) all))) s is

  named_at : (at : Spot) (ts : List Spelled) → All Stands ts → (s : Slashed) → slashed_at at ts ≡ Some s → Named s
  named_at Outside ts all s is = let no : None ≡ Some s = is in absurd (cc)
  named_at Component ts all s is = first_named ts all s is
  named_at Kind ts all s is = let no : None ≡ Some s = is in absurd (cc)
  named_at Bracketed ts all s is = let no : None ≡ Some s = is in absurd (cc)

  all_named : (at : Spot) (n : ℕ) (ts : List Spelled) → All Stands ts → All Named (all_slashed at n ts)
  all_named at n [] all = All-nil Named
  all_named at (suc n) (t ∷ ts) all = all_named (spot_behind at t) n ts (All-tail Stands t ts all)
  all_named at zero (t ∷ ts) all =
      at_first (slashed_at at (t ∷ ts)) (named_at at (t ∷ ts) all) (λ k. all_named (spot_behind at t) k ts (All-tail Stands t ts all))
    where
      at_first : (o : Option Slashed) → ((s : Slashed) → o ≡ Some s → Named s) → ((k : ℕ) → All Named (all_slashed (spot_behind at t) k ts))
          → All Named (elim o [ None ↦ all_slashed (spot_behind at t) 0 ts | Some s ↦ s ∷ all_slashed (spot_behind at t) s.more ts ])
      at_first None named rest = rest 0
      at_first (Some s) named rest = All-cons Named s (all_slashed (spot_behind at t) s.more ts) (named s refl) (rest s.more)

  abbrev NamedValue : SlashedValue → Type 0
  NamedValue s = B s.name.start

  values_named : (found : List SlashedValue) → All Named (map slashed_view found) → All NamedValue found
  values_named [] all = All-nil NamedValue
  values_named (s ∷ found) all =
      All-cons NamedValue s found (All-head Named (slashed_view s) (map slashed_view found) all)
      (values_named found (All-tail Named (slashed_view s) (map slashed_view found) all))

  pub found_named : (tokens : List Lexeme) (found : List SlashedValue) → All (λ (t : Lexeme). B t.start) tokens
      → map slashed_view found ≡ slashed_in (map spelled tokens) → All (λ (s : SlashedValue). B s.name.start) found
  found_named tokens found all is =
      values_named found (subst (All Named) (sym is) (all_named Outside 0 (map spelled tokens) (All-map Stands spelled tokens all)))

-- ---- blanks

-- those of one more
pub more_blanks : (found : List SlashedValue) (i : ℕ) (d : SlashedValue) (before opened closed zs : List ℕ) → i < length found
    → opened ≡ changed_at blank before (get_or found i d).opens → closed ≡ changed_at blank opened (get_or found i d).closes
    → blanked before (slashes (map slashed_view (drop i found))) ≡ zs → blanked closed (slashes (map slashed_view (drop (i + 1) found))) ≡ zs
more_blanks found i d before opened closed zs less first second so_far =
    let s = get_or found i d in
    let rest = drop (suc i) found in
    ap (λ n. blanked closed (slashes (map slashed_view (drop n found)))) (add-one i)
    ∙ ap (λ bs. blanked bs (slashes (map slashed_view rest))) (second ∙ ap (λ bs. changed_at blank bs s.closes) first)
    ∙ ap (λ ss. blanked before (slashes (map slashed_view ss))) (sym (drop-cons found i d less)) ∙ so_far

pub no_more_blanks : (found : List SlashedValue) (i : ℕ) (before zs : List ℕ) → length found ≤ i
    → blanked before (slashes (map slashed_view (drop i found))) ≡ zs → before ≡ zs
no_more_blanks found i before zs past so_far = ap (λ ss. blanked before (slashes (map slashed_view ss))) (sym (drop_all i found past)) ∙ so_far

-- ---- texts

cut_same : (text bytes : List ℕ) (marks : List Place) (ps : List Piece) (ts : List Spelled) → Cut text ps [] → ts ≡ spelled_at 0 ps
    → bytes ≡ blanked text (slashes (slashed_in ts)) → marks ≡ marks_of text (slashed_in ts) → Unslashes text bytes marks
cut_same text bytes marks ps ts whole is blanks places =
    subst (λ bs. Unslashes text bs marks) (sym (blanks ∙ ap (λ us. blanked text (slashes (slashed_in us))) is))
    (subst (Unslashes text (blanked text (slashes (slashed_in (spelled_at 0 ps))))) (sym (places ∙ ap (λ us. marks_of text (slashed_in us)) is))
    (cut ps whole))

module _ {E : Type 0} (text : List ℕ) (ts : List Lexeme) (found : (ps : List Piece) × Cut text ps [] × (map spelled ts ≡ spelled_at 0 ps)) where
  pub cut_so : (r : Result Blanked E) → IfOk r (λ u. u.bytes.items ≡ blanked text (slashes (slashed_in (map spelled ts))))
      → IfOk r (λ u. map place_view u.marks.items ≡ marks_of text (slashed_in (map spelled ts)))
      → IfOk r (λ u. Unslashes text u.bytes.items (map place_view u.marks.items))
  cut_so (Ok u) blanks places =
      cut_same text u.bytes.items (map place_view u.marks.items) found.0 (map spelled ts) found.1 found.2 blanks places
  cut_so (Err e) blanks places = tt

pub other_fault : (d e : ScanFault) → e ≡ d → e ≡ Memory → ¬ (d ≡ Memory) → ⊥
other_fault d e is same other = other (sym is ∙ same)

module _ {E : Type 0} (text : List ℕ) (e : ScanFault) (other : ¬ (e ≡ Memory)) (fault : FaultsAt text e) where
  pub uncut_so : (r : Result Blanked E) → IfOk r (λ u. u.bytes.items ≡ text) → IfOk r (λ u. u.marks.items ≡ [])
      → IfOk r (λ u. Unslashes text u.bytes.items (map place_view u.marks.items))
  uncut_so (Ok u) same none =
      subst (λ bs. Unslashes text bs (map place_view u.marks.items)) (sym same)
      (subst (λ ms. Unslashes text text (map place_view ms)) (sym none) (uncut e other fault))
  uncut_so (Err e) same none = tt
