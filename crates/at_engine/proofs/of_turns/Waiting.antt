-- What waits while the lines of a piece are taken.
use Rattle.std.proofs.Common.{◌≡◌, ◌∙◌, ◌⊎◌, ℕ, ◌<◌, ◌++◌, ◌∷◌, [], Bool, true, false, List, length, inl, inr, refl, sym, ap}
use Rattle.std.proofs.Common.{subst, arith, length-append, Option, None, Some, IfSome, true≢false, vec_len}
use denote.Ref.{Bor}
use Rattle.at_model.specs.Lines.{pieces, is_filled}
use Rattle.at_engine.specs.Loop.{kept, lets_wait, IsNext, IsOpen}
use Rattle.at_engine.specs.declared.stream.desk.Desk.{Desk}
use Rattle.std.proofs.lemmas.Bool.{cases_lt}
use Rattle.std.specs.Prelude.{OnOk, Result, Ok, Err}
use Rattle.at_cache.specs.Kept.{Entries}
use Rattle.at_cache.specs.Traced.{Memories}
use Rattle.at_engine.specs.Engines.{rules_of}
use Rattle.at_engine.specs.Going.{SendsEach, Works, sends_answers, sends_nothing, sends_reply}
use Rattle.at_engine.specs.Taking.{Drains}
use Rattle.at_engine.specs.declared.engine.Engine.{Engine}
use Rattle.at_engine.specs.declared.stream.desk.RunFault.{RunFault}
use Rattle.at_engine.proofs.of_keeping.Kept.{empty_as_kept}
use Rattle.at_engine.proofs.Pieces.{IsCons, pieces_cons, splits_then}

-- a line that isn't empty stands before the first newline of the bytes
abbrev pub Follows : List ℕ → Type 0
Follows bytes = (line behind : List ℕ) × IsOpen line × (bytes ≡ line ++ 10 ∷ behind)
    × (is_filled line ≡ true)

-- nothing waits, or such a line follows
abbrev pub MayWait : List ℕ → Bool → Type 0
MayWait rest waits = (waits ≡ false) ⊎ Follows rest

-- the bytes cut at their first newline
cut_at : (line behind : List ℕ) → IsOpen line → pieces (line ++ 10 ∷ behind) ≡ line ∷ pieces behind
cut_at line behind o = splits_then line (10 ∷ behind) [] line o ∙ ap (λ l. l ∷ pieces behind) (nothing_more line)
  where
    nothing_more : (l : List ℕ) → l ++ [] ≡ l
    nothing_more [] = refl
    nothing_more (b ∷ bs) = ap (λ l. b ∷ l) (nothing_more bs)

abbrev head_or : List (List ℕ) → List ℕ
head_or [] = []
head_or (l ∷ ls) = l

-- there is one first line
same_first : (bytes one behind other rest : List ℕ) → IsOpen one → IsOpen other → bytes ≡ one ++ 10 ∷ behind
    → bytes ≡ other ++ 10 ∷ rest → one ≡ other
same_first bytes one behind other rest o p e f =
    ap head_or (sym (cut_at one behind o) ∙ ap pieces (sym e ∙ f) ∙ cut_at other rest p)

-- bytes with no newline have none
two_pieces : (bytes line : List ℕ) (q : List ℕ) (qs : List (List ℕ)) → bytes ∷ [] ≡ line ∷ q ∷ qs → ⊥
two_pieces bytes line q qs e = absurd cc

none_follows : (bytes : List ℕ) → IsOpen bytes → Follows bytes → ⊥
none_follows bytes o (line, behind, p, e, filled) =
    by (pieces behind) (pieces_cons behind) (sym o ∙ ap pieces e ∙ cut_at line behind p)
  where
    by : (ps : List (List ℕ)) → IsCons ps → bytes ∷ [] ≡ line ∷ ps → ⊥
    by (q ∷ qs) h e = two_pieces bytes line q qs e
    by [] h e = elim h [ ]

pub waits_no_more : (waits : Bool) (rest : List ℕ) → IsOpen rest → MayWait rest waits → waits ≡ false
waits_no_more waits rest o (inl none) = none
waits_no_more waits rest o (inr follows) = absurd (none_follows rest o follows)

-- what is told of a line may wait where the next one is known and isn't empty
pub may_wait : (waits : Bool) (next : Option (Bor (List ℕ))) (behind : List ℕ) → IfSome next (IsNext behind)
    → (lets_wait next ≡ false → waits ≡ false) → MayWait behind waits
may_wait waits None behind is none = inl (none refl)
may_wait waits (Some line) behind (o, (after, at)) none = by (is_filled line.now) refl
  where
    by : (b : Bool) → is_filled line.now ≡ b → MayWait behind waits
    by false e = inl (none e)
    by true e = inr (line.now, after, o, at, e)

filled_long : (line : List ℕ) → is_filled line ≡ true → 0 < length line
filled_long [] h = absurd (true≢false (sym h))
filled_long (b ∷ bs) h = omega arith

-- what is kept of it isn't empty
kept_long : (xs : List ℕ) → 0 < length xs → 0 < length (kept xs)
kept_long xs some = elim (cases_lt 0 (length (kept xs))) [
  | inl more ↦ more
  | inr none ↦ absurd (omega (arith, some, ap length (empty_as_kept xs none)))
]

-- the line that was read isn't empty then
pub waits_or_filled : (rest line behind : List ℕ) (next desk : Desk) (waits : Bool) → IsOpen line
    → rest ≡ line ++ 10 ∷ behind → next.line.items ≡ kept (desk.line.items ++ line)
    → MayWait rest waits → (waits ≡ false) ⊎ (0 < vec_len next.line)
waits_or_filled rest line behind next desk waits o e keeps (inl none) = inl none
waits_or_filled rest line behind next desk waits o e keeps (inr (other, after, p, f, filled)) =
    let same = same_first rest line behind other after o p e f in
    let some : 0 < length line = subst (λ l. 0 < length l) (sym same) (filled_long other filled) in
    let more : 0 < length (desk.line.items ++ line) = omega (arith, some, length-append desk.line.items line) in
    let long : 0 < length (kept (desk.line.items ++ line)) = kept_long (desk.line.items ++ line) more in
    inr (omega (arith, long, ap length keeps, next.line.ok.0))

-- one after the other each reply was sent on
pub each_then : {K W : Type 0} (entries : K → Entries) (memories : K → Memories)
    (contents : W → Option (List ℕ)) (failure : W → Option Bool) (waiting : W → Bool) (old mid : Engine K)
    (writer between : W) (new : Engine K) (later : W)
    → SendsEach entries memories contents failure waiting old writer mid between
    → SendsEach entries memories contents failure waiting mid between new later
    → SendsEach entries memories contents failure waiting old writer new later
each_then entries memories contents failure waiting old mid writer between _ _ first sends_nothing = first
each_then entries memories contents failure waiting old mid writer between _ _ first
    (sends_reply next new after later desk desk' done second serves sent) =
    sends_reply next new after later desk desk' done
    (each_then entries memories contents failure waiting old mid writer between next after first second)
    serves sent
each_then entries memories contents failure waiting old mid writer between _ _ first
    (sends_answers next new after later desk desk' done second works) =
    sends_answers next new after later desk desk' done
    (each_then entries memories contents failure waiting old mid writer between next after first second) works

-- and so were the answers to all that was open
pub each_drained : {K W : Type 0} (entries : K → Entries) (memories : K → Memories)
    (contents : W → Option (List ℕ)) (failure : W → Option Bool) (waiting : W → Bool) (old mid new : Engine K)
    (writer between later : W) (desk next : Desk) (result : Result (Unit {0}) RunFault)
    → SendsEach entries memories contents failure waiting old writer mid between
    → Works entries memories contents failure waiting mid new desk next between later
    (Drains result (rules_of mid)) result
    → OnOk result (SendsEach entries memories contents failure waiting old writer new later)
each_drained entries memories contents failure waiting old mid new writer between later desk next (Ok u) first
    works =
    sends_answers mid new between later desk next u first works
each_drained entries memories contents failure waiting old mid new writer between later desk next (Err e) first
    works = tt
