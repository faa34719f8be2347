-- A text has one fault, or a cut, and not both.
use Rattle.std.proofs.Common.{◌≡◌, ℕ, ◌+◌, List, [], ◌∷◌, ◌++◌, length, Bool, true, false, refl, sym, ap, subst, ◌∙◌, arith, inl, inr}
use Rattle.std.specs.List.{flat_map}
use Rattle.at_model.specs.Texts.{escaped}
use Rattle.at_text.specs.declared.scan.ScanFault.{ScanFault}
use Rattle.at_text.specs.declared.scan.ScanFault.TheVariants.{Memory, Bad, OpenText, OpenComment}
use Rattle.at_text.specs.Pieces.{Piece, Cut, spell, begins}
use Rattle.at_text.specs.Faults.{IsOpenComment, IsOpenText, BeginsNone, OpensText, leaves_open, is_misplaced, FaultsAt}
use Rattle.at_text.proofs.Fronts.{clash, tail_same}
use Rattle.at_text.proofs.Quotes.{same_body}
use Rattle.at_text.proofs.Stuck.{Stuck, stuck_at_end, stuck_in_comment, stuck_in_open_text, stuck_at_misplaced, open_means_none, misplaced_means_none, one_break}
use Rattle.at_text.proofs.Cuts.{one_way}

-- what is left at the offset `start` breaks there or within a text between quotes, with this fault
pub data Breaks (rest : List ℕ) (start : ℕ) : ScanFault → Type 0 where
  comment : IsOpenComment rest → Breaks rest start (OpenComment start)
  unclosed : IsOpenText rest → Breaks rest start (OpenText start)
  none : BeginsNone rest → Breaks rest start (Bad start)
  misplaced : (body tail : List ℕ) → OpensText rest body tail → is_misplaced tail ≡ true → Breaks rest start (Bad (start + (1 + length (flat_map escaped body))))

-- a fault, and the pieces before it
pub record Broken (text : List ℕ) (e : ScanFault) : Type 0 where
  pub pieces : List Piece
  pub rest : List ℕ
  pub cut : Cut text pieces rest
  pub breaks : Breaks rest (length (flat_map spell pieces)) e

pub breaks_stuck : (rest : List ℕ) (start : ℕ) (e : ScanFault) → Breaks rest start e → Stuck rest
breaks_stuck rest start _ (comment c) = subst Stuck (sym c.1) (stuck_in_comment c.0 c.2)
breaks_stuck rest start _ (unclosed u) = stuck_in_open_text rest u.0 u.1 u.2 u.3
breaks_stuck rest start _ (none n) = n.3
breaks_stuck rest start _ (misplaced body tail opens m) = stuck_at_misplaced rest body tail opens m

abbrev quoted_front : List ℕ → Bool
quoted_front rest = begins (34 ∷ []) rest

abbrev comment_front : List ℕ → Bool
comment_front rest = begins (47 ∷ 42 ∷ []) rest

comment_begins : (rest : List ℕ) → IsOpenComment rest → (comment_front rest ≡ true) × (quoted_front rest ≡ false)
comment_begins rest c = (ap comment_front c.1, ap quoted_front c.1)

text_begins : (rest body tail : List ℕ) → OpensText rest body tail → (quoted_front rest ≡ true) × (comment_front rest ≡ false)
text_begins rest body tail e = (ap quoted_front e, ap comment_front e)

same_break : (rest body tail other more : List ℕ) → OpensText rest body tail → OpensText rest other more → is_misplaced tail ≡ true → is_misplaced more ≡ true → (body ≡ other) × (tail ≡ more)
same_break rest body tail other more e f m n =
    same_body body other tail more (misplaced_means_none tail m) (misplaced_means_none more n) (tail_same 34 34 (flat_map escaped body ++ tail) (flat_map escaped other ++ more) (sym e ∙ f))

no_both : {A : Type 0} (rest body tail : List ℕ) → IsOpenText rest → OpensText rest body tail → is_misplaced tail ≡ true → A
no_both rest body tail u e m =
    let r = same_body u.0 body u.1 tail (open_means_none u.1 u.3) (misplaced_means_none tail m) (tail_same 34 34 (flat_map escaped u.0 ++ u.1) (flat_map escaped body ++ tail) (sym u.2 ∙ e)) in
    absurd (one_break tail (ap leaves_open (sym r.1) ∙ u.3) m)

same_fault : (rest : List ℕ) (start : ℕ) (e f : ScanFault) → Breaks rest start e → Breaks rest start f → e ≡ f
same_fault rest start _ _ (comment c) (comment d) = refl
same_fault rest start _ _ (comment c) (unclosed u) = absurd (clash (comment_front rest) (comment_begins rest c).0 (text_begins rest u.0 u.1 u.2).1)
same_fault rest start _ _ (comment c) (none n) = absurd (clash (comment_front rest) (comment_begins rest c).0 n.2)
same_fault rest start _ _ (comment c) (misplaced body tail o m) = absurd (clash (comment_front rest) (comment_begins rest c).0 (text_begins rest body tail o).1)
same_fault rest start _ _ (unclosed u) (comment d) = absurd (clash (comment_front rest) (comment_begins rest d).0 (text_begins rest u.0 u.1 u.2).1)
same_fault rest start _ _ (unclosed u) (unclosed v) = refl
same_fault rest start _ _ (unclosed u) (none n) = absurd (clash (quoted_front rest) (text_begins rest u.0 u.1 u.2).0 n.1)
same_fault rest start _ _ (unclosed u) (misplaced body tail o m) = no_both rest body tail u o m
same_fault rest start _ _ (none n) (comment d) = absurd (clash (comment_front rest) (comment_begins rest d).0 n.2)
same_fault rest start _ _ (none n) (unclosed u) = absurd (clash (quoted_front rest) (text_begins rest u.0 u.1 u.2).0 n.1)
same_fault rest start _ _ (none n) (none k) = refl
same_fault rest start _ _ (none n) (misplaced body tail o m) = absurd (clash (quoted_front rest) (text_begins rest body tail o).0 n.1)
same_fault rest start _ _ (misplaced body tail o m) (comment d) = absurd (clash (comment_front rest) (comment_begins rest d).0 (text_begins rest body tail o).1)
same_fault rest start _ _ (misplaced body tail o m) (unclosed u) = no_both rest body tail u o m
same_fault rest start _ _ (misplaced body tail o m) (none n) = absurd (clash (quoted_front rest) (text_begins rest body tail o).0 n.1)
same_fault rest start _ _ (misplaced body tail o m) (misplaced other more p n) = ap (λ b. Bad (start + (1 + length (flat_map escaped b)))) (same_break rest body tail other more o p m n).0

pub broken_from : (text : List ℕ) (e : ScanFault) → (e ≡ Memory → ⊥) → FaultsAt text e → Broken text e
broken_from text Memory memory f = absurd (memory refl)
broken_from text (OpenComment at) memory f = record { pieces = f.0; rest = f.1; cut = f.2; breaks = subst (λ n. Breaks f.1 (length (flat_map spell f.0)) (OpenComment n)) (sym f.3) (comment f.4) }
broken_from text (OpenText at) memory f = record { pieces = f.0; rest = f.1; cut = f.2; breaks = subst (λ n. Breaks f.1 (length (flat_map spell f.0)) (OpenText n)) (sym f.3) (unclosed f.4) }
broken_from text (Bad at) memory (inl f) = record { pieces = f.0; rest = f.1; cut = f.2; breaks = subst (λ n. Breaks f.1 (length (flat_map spell f.0)) (Bad n)) (sym f.3) (none f.4) }
broken_from text (Bad at) memory (inr f) = record {
  pieces = f.0;
  rest = f.1;
  cut = f.2;
  breaks =
      subst (λ n. Breaks f.1 (length (flat_map spell f.0)) (Bad n)) (sym f.3.4) (misplaced f.3.0 f.3.1 f.3.2 f.3.3);
}

-- what is cut to its end has no fault
pub cut_unbroken : (text : List ℕ) (ps : List Piece) (e : ScanFault) → Cut text ps [] → Broken text e → ⊥
cut_unbroken text ps e c b =
    let stuck = breaks_stuck b.rest (length (flat_map spell b.pieces)) e b.breaks in
    nothing_breaks b.rest (length (flat_map spell b.pieces)) e (one_way text [] b.rest ps b.pieces stuck_at_end stuck c b.cut).1 b.breaks
  where
    nothing_breaks : (rest : List ℕ) (start : ℕ) (f : ScanFault) → [] ≡ rest → Breaks rest start f → ⊥
    nothing_breaks rest start _ s (comment d) = clash (comment_front rest) (comment_begins rest d).0 (ap comment_front (sym s))
    nothing_breaks rest start _ s (unclosed u) = clash (quoted_front rest) (text_begins rest u.0 u.1 u.2).0 (ap quoted_front (sym s))
    nothing_breaks rest start _ s (none n) = omega (arith, n.0, ap length s)
    nothing_breaks rest start _ s (misplaced body tail o m) = clash (quoted_front rest) (text_begins rest body tail o).0 (ap quoted_front (sym s))

pub one_broken : (text : List ℕ) (e f : ScanFault) → Broken text e → Broken text f → e ≡ f
one_broken text e f a b =
    let s = breaks_stuck a.rest (length (flat_map spell a.pieces)) e a.breaks in
    let t = breaks_stuck b.rest (length (flat_map spell b.pieces)) f b.breaks in
    let w = one_way text a.rest b.rest a.pieces b.pieces s t a.cut b.cut in
    same_fault b.rest (length (flat_map spell b.pieces)) e f
    (subst (λ (r : List ℕ). Breaks r (length (flat_map spell b.pieces)) e) w.1
    (subst (λ (ps : List Piece). Breaks a.rest (length (flat_map spell ps)) e) w.0 a.breaks)) b.breaks
