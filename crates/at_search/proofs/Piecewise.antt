-- Conditions for a formula, piece by piece.
use Rattle.std.proofs.Common.{◌≡◌, ◌⊎◌, ℕ, zero, suc, ◌+◌, Bool, true, false, List, [], ◌∷◌, ◌++◌, length, reverse, slice_get, Option, Some, None, IsSome, inl}
use Rattle.std.proofs.Common.{inr, refl, sym, ap, ◌∙◌, subst, true≢false}
use Rattle.at_model.specs.Run.{Value, Truth, Instance, Known}
use Rattle.at_model.specs.Meaning.{Among}
use Rattle.at_model.specs.of_fixpoints.Formulas.{Formula, Asks, Both, Either}
use Rattle.at_model.specs.of_fixpoints.Formulas as formula
use Rattle.at_model.proofs.Reached.{front_among, back_among, either_among}
use Rattle.at_body.specs.Pieces.{asked, combined, nothing, operated, piled, stacked, top_of}
use Rattle.at_body.specs.Stacked.{below}
use Rattle.at_body.specs.declared.formula.Piece.{Piece}
use Rattle.at_body.specs.declared.formula.Piece.TheVariants as piece
use Rattle.at_solve.specs.declared.condition.Condition.{Condition}
use Rattle.at_solve.specs.declared.condition.Condition.TheVariants as condition
use Rattle.at_search.specs.declared.conditions.Conditions.{Conditions}
use Rattle.at_search.specs.Systems.{told, two, Stands, AreStanding, HasTarget, Targets, IsUnderWay, StaysUnder, HasPushed, HasOperand, operator}
use Rattle.at_search.specs.Systems as stands

at_front : {A : Type 0} (xs ys : List A) (n : ℕ) (x : A) → slice_get xs n ≡ Some x → slice_get (xs ++ ys) n ≡ Some x
at_front [] ys n x e = absurd cc
at_front (y ∷ xs) ys zero x e = e
at_front (y ∷ xs) ys (suc n) x e = at_front xs ys n x e

pub at_last : {A : Type 0} (xs : List A) (x : A) → slice_get (xs ++ x ∷ []) (length xs) ≡ Some x
at_last [] x = refl
at_last (y ∷ xs) x = at_last xs x

pub stacked_push : (fs : List (Formula ℕ)) (ps : List Piece) (p : Piece) → stacked fs (ps ++ p ∷ []) ≡ piled p (stacked fs ps)
stacked_push fs [] p = refl
stacked_push fs (q ∷ ps) p = stacked_push (piled q fs) ps p

pub asked_push : (ps : List Piece) (p : Piece) → asked (ps ++ p ∷ []) ≡ asked ps ++ asked (p ∷ [])
asked_push [] p = refl
asked_push (piece.Asks i ∷ ps) p = ap (λ z. i ∷ z) (asked_push ps p)
asked_push (piece.Known b ∷ ps) p = asked_push ps p
asked_push (piece.Both ∷ ps) p = asked_push ps p
asked_push (piece.Either ∷ ps) p = asked_push ps p

-- an operator stands on the two formulas on top
pub on_two : (c : Bool) (fs : List (Formula ℕ)) →
    piled (operator c) fs ≡ combined c (top_of (below fs)) (top_of fs) ∷ below (below fs)
on_two true [] = refl
on_two true (g ∷ []) = refl
on_two true (g ∷ f ∷ fs) = refl
on_two false [] = refl
on_two false (g ∷ []) = refl
on_two false (g ∷ f ∷ fs) = refl

pub none_asked : (c : Bool) → asked (operator c ∷ []) ≡ []
none_asked true = refl
none_asked false = refl

module _ (known : Known ℕ) (insts : List (Instance ℕ)) where
  -- conditions behind change nothing
  pub stands_more : (start : Bool) (count : ℕ) (parts more : List Condition) (p : ℕ) (f : Formula ℕ) →
      Stands start count known insts parts p f → Stands start count known insts (parts ++ more) p f
  stands_more start count parts more _ _ (stands.by_value p b at) = stands.by_value p b (at_front parts more p (told start b) at)
  stands_more start count parts more _ _ (stands.by_known p i v k at) = stands.by_known p i v k (at_front parts more p _ at)
  stands_more start count parts more _ _ (stands.by_place p q i k there at) =
      stands.by_place p q i k there (at_front parts more p (condition.When q) at)
  stands_more start count parts more _ _ (stands.nowhere p i k gone at) =
      stands.nowhere p i k gone (at_front parts more p condition.Never at)
  stands_more start count parts more _ _ (stands.by_both p l r f g at x y) =
      stands.by_both p l r f g (at_front parts more p (two start true (count + l) (count + r)) at)
      (stands_more start count parts more l f x) (stands_more start count parts more r g y)
  stands_more start count parts more _ _ (stands.by_either p l r f g at x y) =
      stands.by_either p l r f g (at_front parts more p (two start false (count + l) (count + r)) at)
      (stands_more start count parts more l f x) (stands_more start count parts more r g y)

  pub standing_more : (start : Bool) (count : ℕ) (parts more : List Condition) (ps : List ℕ) (fs : List (Formula ℕ)) →
      AreStanding start count known insts parts ps fs → AreStanding start count known insts (parts ++ more) ps fs
  standing_more start count parts more [] [] x = tt
  standing_more start count parts more [] (f ∷ fs) x = absurd x
  standing_more start count parts more (p ∷ ps) [] x = absurd x
  standing_more start count parts more (p ∷ ps) (f ∷ fs) (x, xs) =
      (stands_more start count parts more p f x, standing_more start count parts more ps fs xs)

  -- one more on top
  pub on_top : (start start' : Bool) (count count' : ℕ) (parts parts' : List Condition) (ops ops' : List ℕ) (fs fs' : List (Formula ℕ))
      (c : Condition) (f : Formula ℕ) → start' ≡ start → count' ≡ count → parts' ≡ parts ++ c ∷ [] → ops' ≡ length parts ∷ ops →
      fs' ≡ f ∷ fs → AreStanding start count known insts parts ops fs → Stands start count known insts (parts ++ c ∷ []) (length parts) f →
      AreStanding start' count' known insts parts' ops' fs'
  on_top start start' count count' parts parts' ops ops' fs fs' c f es ec ep eo ef xs x =
      subst (λ z. AreStanding z count' known insts parts' ops' fs') (sym es)
      (subst (λ z. AreStanding start z known insts parts' ops' fs') (sym ec)
      (subst (λ z. AreStanding start count known insts z ops' fs') (sym ep)
      (subst (λ z. AreStanding start count known insts (parts ++ c ∷ []) z fs') (sym eo)
      (subst (λ z. AreStanding start count known insts (parts ++ c ∷ []) (length parts ∷ ops) z) (sym ef)
      (x, standing_more start count parts (c ∷ []) ops fs xs)))))

  -- what is asked for beside is known
  pub targets_known : (ts : List ℕ) (o : Bool) (is js : List (Instance ℕ)) → Targets known insts ts o is →
      ((i : Instance ℕ) → Among i js → IsSome (known i)) → Targets known insts ts o (is ++ js)
  targets_known ts o is js t all = record {
    covered = λ i h. elim (either_among i is js h) [ inl a ↦ t.covered i a | inr b ↦ inl (all i b) ];
    from = λ q h. let (i, a, k, at) = t.from q h in (i, front_among i is js a, k, at);
    outside = λ e. let (i, a, k, out) = t.outside e in (i, front_among i is js a, k, out);
  }

  -- or has a position
  pub targets_at : (ts : List ℕ) (o : Bool) (is : List (Instance ℕ)) (q : ℕ) (i : Instance ℕ) → Targets known insts ts o is →
      known i ≡ None → slice_get insts q ≡ Some i → Targets known insts (ts ++ q ∷ []) o (is ++ i ∷ [])
  targets_at ts o is q i t none at = record {
    covered = λ j h. elim (either_among j is (i ∷ []) h) [
      | inl a ↦ elim (t.covered j a) [
        | inl k ↦ inl k
        | inr b ↦ elim b [ inl (m, x, y) ↦ inr (inl (m, front_among m ts (q ∷ []) x, y)) | inr e ↦ inr (inr e) ]
      ]
      | inr b ↦ elim b [
        | inl e ↦ inr (inl (q, back_among q ts (q ∷ []) (inl refl), subst (λ z. slice_get insts q ≡ Some z) (sym e) at))
        | inr u ↦ absurd u
      ]
    ];
    from = λ m h. elim (either_among m ts (q ∷ []) h) [
      | inl a ↦ let (j, x, k, y) = t.from m a in (j, front_among j is (i ∷ []) x, k, y)
      | inr b ↦ elim b [
        | inl e ↦ (i, back_among i is (i ∷ []) (inl refl), none, subst (λ z. slice_get insts z ≡ Some i) (sym e) at)
        | inr u ↦ absurd u
      ]
    ];
    outside = λ e. let (j, a, k, out) = t.outside e in (j, front_among j is (i ∷ []) a, k, out);
  }

  -- or has none
  pub targets_out : (ts : List ℕ) (o : Bool) (is : List (Instance ℕ)) (i : Instance ℕ) → Targets known insts ts o is →
      known i ≡ None → (¬ (Among i insts)) → Targets known insts ts true (is ++ i ∷ [])
  targets_out ts o is i t k out = record {
    covered = λ j h. inr (inr refl);
    from = λ m h. let (j, x, n, y) = t.from m h in (j, front_among j is (i ∷ []) x, n, y);
    outside = λ e. (i, back_among i is (i ∷ []) (inl refl), k, out);
  }

  -- nothing is asked for yet
  pub no_targets : Targets known insts [] false []
  no_targets = record { covered = λ i h. absurd h; from = λ q h. absurd h; outside = λ e. absurd (true≢false (sym e)) }

  -- one piece more, whose condition is on top
  pub one_piece : (mid new : Conditions) (c : Condition) (ps : List Piece) (p : Piece) (f : Formula ℕ) (fs : List (Formula ℕ)) →
      AreStanding mid.start mid.count known insts mid.parts.items (reverse mid.operands.items) fs →
      Targets known insts new.targets.items new.is_open (asked ps ++ asked (p ∷ [])) → StaysUnder mid new → HasPushed c mid new →
      piled p (stacked [] ps) ≡ f ∷ fs →
      Stands mid.start mid.count known insts (mid.parts.items ++ c ∷ []) (length mid.parts.items) f →
      IsUnderWay known insts new (ps ++ p ∷ [])
  one_piece mid new c ps p f fs xs ts s h e x = record {
    operands = on_top mid.start new.start mid.count new.count mid.parts.items new.parts.items (reverse mid.operands.items)
        (reverse new.operands.items) fs (stacked [] (ps ++ p ∷ [])) c f s.start s.count h.parts h.operands
        (stacked_push [] ps p ∙ e) xs x;
    targets = subst (λ z. Targets known insts new.targets.items new.is_open z) (sym (asked_push ps p)) ts;
  }

  -- an operand is taken off
  pub operand_taken : (old new : Conditions) (place : ℕ) (fs : List (Formula ℕ)) → HasOperand old new place → StaysUnder old new →
      AreStanding old.start old.count known insts old.parts.items (reverse old.operands.items) fs →
      Stands old.start old.count known insts new.parts.items place (top_of fs)
      × AreStanding old.start old.count known insts new.parts.items (reverse new.operands.items) (below fs)
  operand_taken old new place fs h s xs = by h.taken
    where
      off_top : (start : Bool) (count : ℕ) (parts parts' : List Condition) (m : ℕ) (rest all : List ℕ) (gs : List (Formula ℕ)) →
          all ≡ m ∷ rest → parts' ≡ parts → AreStanding start count known insts parts all gs →
          Stands start count known insts parts' m (top_of gs) × AreStanding start count known insts parts' rest (below gs)
      off_top start count parts parts' m rest all gs e ep y =
          both gs (subst (λ z. AreStanding start count known insts parts z gs) e y)
        where
          both : (hs : List (Formula ℕ)) → AreStanding start count known insts parts (m ∷ rest) hs →
              Stands start count known insts parts' m (top_of hs) × AreStanding start count known insts parts' rest (below hs)
          both [] z = absurd z
          both (g ∷ hs) (a, b) = (
            subst (λ z. Stands start count known insts z m g) (sym ep) a,
            subst (λ z. AreStanding start count known insts z rest hs) (sym ep) b,
          )

      from_none : (gs : List (Formula ℕ)) → AreStanding old.start old.count known insts old.parts.items [] gs → gs ≡ []
      from_none [] z = refl
      from_none (g ∷ gs) z = absurd z

      by : ((reverse old.operands.items ≡ place ∷ reverse new.operands.items) × (new.parts.items ≡ old.parts.items))
          ⊎ ((old.operands.items ≡ []) × (new.operands.items ≡ []) × (place ≡ length old.parts.items)
          × (new.parts.items ≡ old.parts.items ++ told old.start false ∷ [])) →
          Stands old.start old.count known insts new.parts.items place (top_of fs)
          × AreStanding old.start old.count known insts new.parts.items (reverse new.operands.items) (below fs)
      by (inl (e, ep)) =
          off_top old.start old.count old.parts.items new.parts.items place (reverse new.operands.items) (reverse old.operands.items) fs e ep xs
      by (inr (eo, en, el, ep)) =
          let none : fs ≡ [] = from_none fs (subst (λ z. AreStanding old.start old.count known insts old.parts.items (reverse z) fs) eo xs) in (
            subst (λ z. Stands old.start old.count known insts new.parts.items place (top_of z)) (sym none)
                (subst (λ z. Stands old.start old.count known insts z place nothing) (sym ep)
                (subst (λ z. Stands old.start old.count known insts (old.parts.items ++ told old.start false ∷ []) z nothing) (sym el)
                (stands.by_value (length old.parts.items) false (at_last old.parts.items (told old.start false))))),
            subst (λ z. AreStanding old.start old.count known insts new.parts.items (reverse new.operands.items) (below z)) (sym none)
                (subst (λ z. AreStanding old.start old.count known insts new.parts.items (reverse z) []) (sym en) tt),
          )
