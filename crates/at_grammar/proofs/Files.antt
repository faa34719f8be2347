-- A text's tokens, and what reading them comes to.
use Rattle.std.proofs.Common.{◌≡◌, ℕ, ◌-◌, ◌≤◌, List, [], ◌∷◌, ◌++◌, length, map, drop, refl, sym, ap, subst, ◌∙◌, length-append, arith}
use Rattle.std.proofs.lemmas.List.{append-nil, map-append, length-map}
use Rattle.std.specs.Prelude.{◌⊎◌}
use Rattle.std.proofs.Common.{inl, inr}
use Rattle.at_text.specs.declared.placed.Placed.{Placed}
use Rattle.at_text.specs.declared.fault.Fault.TheVariants as refusal
use Rattle.at_text.specs.declared.scan.ScanFault.{ScanFault}
use Rattle.at_text.specs.declared.scan.ScanFault.TheVariants as scan
use Rattle.at_text.specs.Faults.{FaultsAt}
use Rattle.at_text.specs.Place.{place_of}
use Rattle.at_text.specs.Machine.{Reason, Refused, LeftOut, Stuck}
use Rattle.at_text.specs.Reading.{first, IsFirstFault, run}
use Rattle.at_text.specs.Symbols.{HasTokens, next_place, Symbol, PlacedToken, placed, symbol, symbols, words_keep}
use Rattle.at_text.proofs.ReadingLaws.{first_fault}
use Rattle.at_text.proofs.TextTokens.{drop_front}
use Rattle.at_text.specs.declared.place.Place.{Place}
use Rattle.at_grammar.specs.Grammar as grammar
use Rattle.at_grammar.specs.Grammar.{IsFile, Declaration}
use Rattle.at_grammar.specs.Meaning.{class_means}
use Rattle.at_grammar.specs.declared.AstCode.{AstCode}
use Rattle.at_grammar.specs.declared.AstCode.TheVariants as code
use Rattle.at_grammar.specs.Faults.{Spells, IsLeftOut, MeetsLeftOut, StopsAt, IsScanFaultAt, IsFault}
use Rattle.at_grammar.specs.Table as want
use Rattle.at_grammar.specs.Table.{table}
use Rattle.at_grammar.specs.Forms.{left, file, reason}
use Rattle.at_grammar.proofs.Paths.{Reads, Stops}
use Rattle.at_grammar.proofs.Accepts.{file_taken, left_out_met}
use Rattle.at_grammar.proofs.Unique.{file_unique}

-- ---- tokens and symbols

pub length_left : (ts : List Placed) → length (left ts) ≡ length ts
length_left ts = length-map (map placed ts) (symbol words_keep) ∙ length-map ts placed

-- the tokens of a front of symbols
pub front_of : (ts : List Placed) (front rest : List Symbol) → left ts ≡ front ++ rest → (fs : List Placed) × (rs : List Placed) × (ts ≡ fs ++ rs) × (left fs ≡ front) × (left rs ≡ rest)
front_of ts [] rest e = ([], ts, refl, refl, e)
front_of [] (f ∷ front) rest e = absurd (omega (arith, ap length e))
front_of (t ∷ ts) (f ∷ front) rest e =
    let tail : left ts ≡ front ++ rest = cc in
    let head : symbol words_keep (placed t) ≡ f = cc in
    let more = front_of ts front rest tail in
    (t ∷ more.0, more.1, ap (λ l. t ∷ l) more.2, (λ i. head i ∷ more.3 i), more.4)

pub left_within : (r : Reason) (ts rest : List Placed) → Stops file r (left ts) (left rest) → length rest ≤ length ts
left_within r ts rest s = omega (arith, length_left ts, length_left rest, ap length s.split, length-append s.front (left rest))

-- where reading stops, among the tokens
pub record Met (r : Reason) (ts rest : List Placed) : Type 0 where
  pub front : List Placed
  pub back : List Placed
  pub whole : ts ≡ front ++ back
  pub behind : drop (length ts - length rest) ts ≡ back
  pub fault : IsFirstFault IsFile grammar.file (symbols words_keep (map placed front)) (symbols words_keep (map placed back))

pub same_fault : (a b x y : List Symbol) → a ≡ b → x ≡ y → IsFirstFault IsFile grammar.file b y → IsFirstFault IsFile grammar.file a x
same_fault a b x y e f h = subst (λ (l : List Symbol). IsFirstFault IsFile grammar.file l x) (sym e) (subst (λ (l : List Symbol). IsFirstFault IsFile grammar.file b l) (sym f) h)

abbrev pub met : (r : Reason) (ts rest : List Placed) → Stops file r (left ts) (left rest) → Met r ts rest
met r ts rest s =
    let p = front_of ts s.front (left rest) s.split in
    let same : length p.1 ≡ length rest = sym (length_left p.1) ∙ ap length p.4 ∙ length_left rest in
    let count : length ts - length rest ≡ length p.0 = omega (arith, ap length p.2, length-append p.0 p.1, same) in
    record {
      front = p.0;
      back = p.1;
      whole = p.2;
      behind = ap (λ k. drop k ts) count ∙ ap (drop (length p.0)) p.2 ∙ drop_front p.0 p.1;
      fault = same_fault _ s.front _ (left rest) p.3 p.4 (first_fault table file r (left ts) (left rest) file_taken s);
    }

-- ---- the text's tokens

pub stops_at : (text : List ℕ) (r : Reason) (ts rest : List Placed) (at : Place) → HasTokens text (map placed ts)
    → (m : Met r ts rest) → at ≡ next_place text (map placed (drop (length ts - length rest) ts))
    → StopsAt text (map placed m.front) (map placed m.back) at
stops_at text r ts rest at (ps, cut, e) m p = record {
  tokens = (ps, cut, sym (map-append placed m.front m.back) ∙ ap (map placed) (sym m.whole) ∙ e);
  fault = m.fault;
  place = p ∙ ap (λ l. next_place text (map placed l)) m.behind;
}

-- ---- what stands at the fault

why_met : (front rest a b : List Symbol) → a ≡ front → b ≡ rest → IsLeftOut front (first rest) → IsLeftOut a (first b)
why_met front rest a b e f h = subst (λ (l : List Symbol). IsLeftOut l (first b)) (sym e) (subst (λ (l : List Symbol). IsLeftOut front (first l)) (sym f) h)

pub left_out : (ts rest : List Placed) → (s : Stops file LeftOut (left ts) (left rest)) → let m = met LeftOut ts rest s in MeetsLeftOut (map placed m.front) (map placed m.back)
left_out ts rest s =
    let p = front_of ts s.front (left rest) s.split in
    why_met s.front (left rest) _ _ p.3 p.4 s.why

pub not_left_out : (ts rest : List Placed) → (s : Stops file Refused (left ts) (left rest)) → let m = met Refused ts rest s in MeetsLeftOut (map placed m.front) (map placed m.back) → ⊥
not_left_out ts rest s h =
    let p = front_of ts s.front (left rest) s.split in
    let a = symbols words_keep (map placed p.0) in
    let b = symbols words_keep (map placed p.1) in
    let text : left ts ≡ a ++ b = s.split ∙ (λ i. sym p.3 i ++ sym p.4 i) in
    let out : run table (want.File ∷ []) (left ts) ≡ Stuck LeftOut b = ap (run table (want.File ∷ [])) text ∙ left_out_met a b h in
    absurd (let e : Stuck Refused (left rest) ≡ Stuck LeftOut b = sym (s.stuck []) ∙ out in cc)

-- ---- what is read

pub read_whole : (ts rest : List Placed) (ds : List Declaration) → Reads file ds (left ts) (left rest) → left rest ≡ [] → Spells (map placed ts) ds
read_whole ts rest ds r e = (r.is, r.text ∙ ap (λ l. grammar.file ds ++ l) e ∙ append-nil (grammar.file ds))

pub same_classes : (ts us : List PlacedToken) (ds es : List Declaration) → ts ≡ us → Spells ts ds → Spells us es → map class_means ds ≡ map class_means es
same_classes ts us ds es e a b = ap (map class_means) (file_unique ds es a.0 b.0 (sym a.1 ∙ ap (symbols words_keep) e ∙ b.1))

-- ---- a text that can't be cut into tokens

pub cut_fault : (text : List ℕ) (fault : ScanFault) (offset : ℕ) (at : Place) → at ≡ place_of text offset
    → (fault ≡ scan.Bad offset) ⊎ ((fault ≡ scan.OpenText offset) ⊎ (fault ≡ scan.OpenComment offset))
    → FaultsAt text fault → IsScanFaultAt text at fault
cut_fault text fault offset at p (inl e) f = subst (λ (x : ScanFault). FaultsAt text x → IsScanFaultAt text at x) (sym e) (λ g. (g, p)) f
cut_fault text fault offset at p (inr (inl e)) f = subst (λ (x : ScanFault). FaultsAt text x → IsScanFaultAt text at x) (sym e) (λ g. (g, p)) f
cut_fault text fault offset at p (inr (inr e)) f = subst (λ (x : ScanFault). FaultsAt text x → IsScanFaultAt text at x) (sym e) (λ g. (g, p)) f

pub place_behind : (text : List ℕ) (ts vs : List Placed) (n m : ℕ) (at : Place) → vs ≡ ts → n ≡ m → at ≡ next_place text
    (map placed (drop (length vs - n) vs)) → at ≡ next_place text (map placed (drop (length ts - m) ts))
place_behind text ts vs n m at e f p = p ∙ ap (λ l. next_place text (map placed (drop (length l - n) l))) e ∙ ap (λ k. next_place text (map placed (drop (length ts - k) ts))) f

-- where reading stops for a reason, that is the fault of the text
pub is_met : (text : List ℕ) (c : AstCode) (ts rest : List Placed) (at : Place) → Stops file (reason c) (left ts) (left rest) → HasTokens text (map placed ts)
    → at ≡ next_place text (map placed (drop (length ts - length rest) ts)) → IsFault text (refusal.Refused c at)
is_met text code.Syntax ts rest at s has p = let m = met Refused ts rest s in inr (map placed m.front, map placed m.back, stops_at text Refused ts rest at has m p, not_left_out ts rest s)
is_met text code.LeftOut ts rest at s has p = let m = met LeftOut ts rest s in (map placed m.front, map placed m.back, stops_at text LeftOut ts rest at has m p, left_out ts rest s)
