-- A text spells one grammar or has one fault, and not both.
use Rattle.std.proofs.Common.{◌≡◌, ℕ, List, ◌++◌, refl, sym, ap, subst, ◌∙◌, inl, inr}
use Rattle.std.specs.Prelude.{◌⊎◌}
use Rattle.std.proofs.lemmas.List.{map-append, length-map}
use Rattle.at_text.specs.declared.scan.ScanFault.{ScanFault}
use Rattle.at_text.specs.declared.scan.ScanFault.TheVariants as scan
use Rattle.at_text.specs.Faults as scanning
use Rattle.at_text.specs.Symbols.{HasTokens, next_place, PlacedToken, symbol, symbols, words_keep}
use Rattle.at_text.proofs.ReadingLaws.{one_first_fault, cut_once}
use Rattle.at_text.proofs.TextTokens.{one_row}
use Rattle.at_text.proofs.Scanned as scanned
use Rattle.at_text.specs.declared.place.Place.{Place}
use Rattle.at_text.specs.declared.fault.Fault.{Fault}
use Rattle.at_text.specs.declared.fault.Fault.TheVariants.{Refused, Memory}
use Rattle.at_grammar.specs.declared.AstCode.{AstCode}
use Rattle.at_grammar.specs.declared.AstCode.TheVariants.{Syntax, LeftOut}
use Rattle.at_grammar.specs.Grammar as grammar
use Rattle.at_grammar.specs.Grammar.{IsFile, Declaration}
use Rattle.at_grammar.specs.Faults.{Spells, MeetsLeftOut, StopsAt, IsScanFaultAt, IsFault}

-- a fault of scanning, and its place
scan_fault_of : (text : List ℕ) (at : Place) (fault : ScanFault) → IsScanFaultAt text at fault → (fault ≡ scan.Memory → ⊥) × scanning.FaultsAt text fault
scan_fault_of text at scan.Memory h = absurd h
scan_fault_of text at (scan.Bad offset) h = ((λ e. absurd cc), h.0)
scan_fault_of text at (scan.OpenText offset) h = ((λ e. absurd cc), h.0)
scan_fault_of text at (scan.OpenComment offset) h = ((λ e. absurd cc), h.0)

no_scan_fault : (text : List ℕ) (at : Place) (fault : ScanFault) (ts : List PlacedToken) → IsScanFaultAt text at fault → HasTokens text ts → ⊥
no_scan_fault text at fault ts h k = let s = scan_fault_of text at fault h in s.0 (scanned.fault_only text fault s.1 k.0 k.1)

one_place : (text : List ℕ) (a b : Place) (fault : ScanFault) → IsScanFaultAt text a fault → IsScanFaultAt text b fault → a ≡ b
one_place text a b scan.Memory h k = absurd h
one_place text a b (scan.Bad offset) h k = h.1 ∙ sym k.1
one_place text a b (scan.OpenText offset) h k = h.1 ∙ sym k.1
one_place text a b (scan.OpenComment offset) h k = h.1 ∙ sym k.1

same_scan_fault : (text : List ℕ) (a b : Place) (e f : ScanFault) → IsScanFaultAt text a e → IsScanFaultAt text b f → a ≡ b
same_scan_fault text a b e f h k =
    let s = scan_fault_of text a e h in
    let t = scan_fault_of text b f k in
    elim (scanned.fault_same text e s.1 f t.0 t.1) [
      | inl none ↦ absurd (s.0 none)
      | inr same ↦ one_place text a b f (subst (λ (x : ScanFault). IsScanFaultAt text a x) same h) k
    ]

-- ---- reading stops at one place

-- the tokens in front of the fault, and those behind
cut_alike : (text : List ℕ) (a b x y : List PlacedToken) (p q : Place) → StopsAt text a x p → StopsAt text b y q → (a ≡ b) × (x ≡ y)
cut_alike text a b x y p q s t =
    let tokens = one_row text (a ++ x) (b ++ y) s.tokens t.tokens in
    let whole : symbols words_keep a ++ symbols words_keep x ≡ symbols words_keep b ++ symbols words_keep y = sym
    (map-append (symbol words_keep) a x) ∙ ap (symbols words_keep) tokens ∙ map-append (symbol words_keep) b y in
    let size = one_first_fault IsFile grammar.file (symbols words_keep a) (symbols words_keep x) (symbols words_keep b) (symbols words_keep y) s.fault t.fault whole in
    cut_once a b x y (sym (length-map a (symbol words_keep)) ∙ size ∙ length-map b (symbol words_keep)) tokens

stops_once : (text : List ℕ) (a b x y : List PlacedToken) (p q : Place) → StopsAt text a x p → StopsAt text b y q → p ≡ q
stops_once text a b x y p q s t = s.place ∙ ap (next_place text) (cut_alike text a b x y p q s t).1 ∙ sym t.place

also_left_out : (a b x y : List PlacedToken) → (a ≡ b) × (x ≡ y) → MeetsLeftOut a x → MeetsLeftOut b y
also_left_out a b x y e m = subst (λ (l : List PlacedToken). MeetsLeftOut l y) e.0 (subst (λ (l : List PlacedToken). MeetsLeftOut a l) e.1 m)

no_file_stops : (text : List ℕ) (a x : List PlacedToken) (p : Place) (ts : List PlacedToken) (f : List Declaration) → StopsAt text a x p → HasTokens text ts → Spells ts f → ⊥
no_file_stops text a x p ts f s h k =
    let tokens = one_row text ts (a ++ x) h s.tokens in
    s.fault.ends f (symbols words_keep x) k.0 refl (sym k.1 ∙ ap (symbols words_keep) tokens ∙ map-append (symbol words_keep) a x)

-- ---- the laws

-- a text that spells a file has no fault
pub fault_only : (text : List ℕ) (e : Fault AstCode) → IsFault text e → (ts : List PlacedToken) (f : List Declaration) → HasTokens text ts → Spells ts f → e ≡ Memory
fault_only text Memory h ts f k s = refl
fault_only text (Refused Syntax at) (inl h) ts f k s = absurd (no_scan_fault text at h.0 ts h.1 k)
fault_only text (Refused Syntax at) (inr h) ts f k s = absurd (no_file_stops text h.0 h.1 at ts f h.2 k s)
fault_only text (Refused LeftOut at) h ts f k s = absurd (no_file_stops text h.0 h.1 at ts f h.2 k s)

-- a text has one fault
pub fault_same : (text : List ℕ) (e : Fault AstCode) → IsFault text e → (f : Fault AstCode) → (f ≡ Memory → ⊥) → IsFault text f → (e ≡ Memory) ⊎ (e ≡ f)
fault_same text Memory h f none k = inl refl
fault_same text (Refused Syntax p) h Memory none k = absurd (none refl)
fault_same text (Refused LeftOut p) h Memory none k = absurd (none refl)
fault_same text (Refused Syntax p) (inl h) (Refused Syntax q) none (inl k) = inr (ap (λ at. Refused Syntax at) (same_scan_fault text p q h.0 k.0 h.1 k.1))
fault_same text (Refused Syntax p) (inl h) (Refused Syntax q) none (inr k) = absurd (no_scan_fault text p h.0 (k.0 ++ k.1) h.1 k.2.tokens)
fault_same text (Refused Syntax p) (inr h) (Refused Syntax q) none (inl k) = absurd (no_scan_fault text q k.0 (h.0 ++ h.1) k.1 h.2.tokens)
fault_same text (Refused Syntax p) (inr h) (Refused Syntax q) none (inr k) = inr (ap (λ at. Refused Syntax at) (stops_once text h.0 k.0 h.1 k.1 p q h.2 k.2))
fault_same text (Refused Syntax p) (inl h) (Refused LeftOut q) none k = absurd (no_scan_fault text p h.0 (k.0 ++ k.1) h.1 k.2.tokens)
fault_same text (Refused Syntax p) (inr h) (Refused LeftOut q) none k = absurd (h.3 (also_left_out k.0 h.0 k.1 h.1 (cut_alike text k.0 h.0 k.1 h.1 q p k.2 h.2) k.3))
fault_same text (Refused LeftOut p) h (Refused Syntax q) none (inl k) = absurd (no_scan_fault text q k.0 (h.0 ++ h.1) k.1 h.2.tokens)
fault_same text (Refused LeftOut p) h (Refused Syntax q) none (inr k) = absurd (k.3 (also_left_out h.0 k.0 h.1 k.1 (cut_alike text h.0 k.0 h.1 k.1 p q h.2 k.2) h.3))
fault_same text (Refused LeftOut p) h (Refused LeftOut q) none k = inr (ap (λ at. Refused LeftOut at) (stops_once text h.0 k.0 h.1 k.1 p q h.2 k.2))
