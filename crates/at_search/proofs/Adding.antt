-- One piece more of a formula under way.
use Rattle.std.proofs.Common.{◌≡◌, ◌⊎◌, ℕ, ◌+◌, Bool, true, false, List, [], ◌∷◌, ◌++◌, length, reverse, slice_get, Option, Some, None, IsSome, Result, Ok, Err}
use Rattle.std.proofs.Common.{OnOk, inl, inr, refl, sym, ap, ◌∙◌, subst}
use Rattle.at_model.specs.Run.{Value, Truth, Instance, Known}
use Rattle.at_model.specs.Bodies.{truth_of}
use Rattle.at_model.specs.Meaning.{Among}
use Rattle.at_model.specs.of_fixpoints.Formulas.{Formula, Asks, Both, Either}
use Rattle.at_model.specs.of_fixpoints.Formulas as formula
use Rattle.at_body.specs.Pieces.{asked, combined, piled, stacked, top_of}
use Rattle.at_body.specs.Stacked.{below}
use Rattle.at_body.specs.declared.formula.Piece.{Piece}
use Rattle.at_body.specs.declared.formula.Piece.TheVariants as piece
use Rattle.at_solve.specs.declared.condition.Condition.{Condition}
use Rattle.at_solve.specs.declared.condition.Condition.TheVariants as condition
use Rattle.at_search.specs.declared.conditions.Conditions.{Conditions}
use Rattle.at_search.specs.Systems.{told, two, Stands, AreStanding, Targets, IsUnderWay, StaysUnder, HasPushed, HasOperand, operator}
use Rattle.at_search.specs.Systems as stands
use Rattle.at_search.proofs.Piecewise.{at_last, none_asked, on_two, one_piece, operand_taken, stands_more, targets_at, targets_known, targets_out}

module _ (known : Known ℕ) (insts : List (Instance ℕ)) where
  abbrev Under : Conditions → List Piece → Type 0
  Under c ps = IsUnderWay known insts c ps

  -- what stands does so in what is equal
  pub carried : (a b : Bool) (m n : ℕ) (xs ys : List Condition) (os ps : List ℕ) (fs : List (Formula ℕ)) → b ≡ a → n ≡ m → ys ≡ xs → ps ≡ os →
      AreStanding a m known insts xs os fs → AreStanding b n known insts ys ps fs
  carried a b m n xs ys os ps fs ea em ex eo x =
      subst (λ z. AreStanding z n known insts ys ps fs) (sym ea) (subst (λ z. AreStanding a z known insts ys ps fs) (sym em)
      (subst (λ z. AreStanding a m known insts z ps fs) (sym ex) (subst (λ z. AreStanding a m known insts xs z fs) (sym eo) x)))

  pub same_targets : (ts us : List ℕ) (o p : Bool) (is : List (Instance ℕ)) → us ≡ ts → p ≡ o → Targets known insts ts o is → Targets known insts us p is
  same_targets ts us o p is et eo x =
      subst (λ z. Targets known insts z p is) (sym et) (subst (λ z. Targets known insts ts z is) (sym eo) x)

  -- a value
  pub value_added : {E : Type 0} (r : Result (Unit {0}) E) (old new : Conditions) (ps : List Piece) (b : Bool) → Under old ps →
      StaysUnder old new → OnOk r (HasPushed (told old.start b) old new) → OnOk r (Under new (ps ++ piece.Known b ∷ []))
  value_added (Ok t) old new ps b u s h =
      one_piece known insts old new (told old.start b) ps (piece.Known b) (formula.Known (Truth b)) (stacked [] ps) u.operands
      (targets_known known insts new.targets.items new.is_open (asked ps) []
      (same_targets old.targets.items new.targets.items old.is_open new.is_open (asked ps) h.targets h.stays u.targets) (λ i a. absurd a)) s h refl
      (stands.by_value (length old.parts.items) b (at_last old.parts.items (told old.start b)))
  value_added (Err e) old new ps b u s h = tt

  -- an instance that is known
  pub known_added : {E : Type 0} (r : Result (Unit {0}) E) (old new : Conditions) (ps : List Piece) (i : Instance ℕ) (v : Value ℕ) →
      Under old ps → Some v ≡ known i → StaysUnder old new → OnOk r (HasPushed (told old.start (truth_of v)) old new) →
      OnOk r (Under new (ps ++ piece.Asks i ∷ []))
  known_added (Ok t) old new ps i v u k s h =
      one_piece known insts old new (told old.start (truth_of v)) ps (piece.Asks i) (Asks i) (stacked [] ps) u.operands
      (targets_known known insts new.targets.items new.is_open (asked ps) (i ∷ [])
      (same_targets old.targets.items new.targets.items old.is_open new.is_open (asked ps) h.targets h.stays u.targets)
      (λ j a. elim a [ inl e ↦ subst (λ z. IsSome (known z)) (sym e) (some_is (known i) v k) | inr n ↦ absurd n ])) s h refl
      (stands.by_known (length old.parts.items) i v (sym k) (at_last old.parts.items (told old.start (truth_of v))))
    where
      some_is : (o : Option (Value ℕ)) (w : Value ℕ) → Some w ≡ o → IsSome o
      some_is None w e = absurd cc
      some_is (Some x) w e = refl
  known_added (Err e) old new ps i v u k s h = tt

  -- an instance that has a position
  pub placed_added : {E : Type 0} (r : Result (Unit {0}) E) (old mid new : Conditions) (ps : List Piece) (i : Instance ℕ) (q : ℕ) →
      Under old ps → None ≡ known i → slice_get insts q ≡ Some i → mid.start ≡ old.start → mid.count ≡ old.count →
      mid.parts.items ≡ old.parts.items → mid.operands.items ≡ old.operands.items → mid.is_open ≡ old.is_open →
      mid.targets.items ≡ old.targets.items ++ q ∷ [] → StaysUnder mid new → OnOk r (HasPushed (condition.When q) mid new) →
      OnOk r (Under new (ps ++ piece.Asks i ∷ []))
  placed_added (Ok t) old mid new ps i q u k at es ec ep eo ei et s h =
      one_piece known insts mid new (condition.When q) ps (piece.Asks i) (Asks i) (stacked [] ps)
      (carried old.start mid.start old.count mid.count old.parts.items mid.parts.items (reverse old.operands.items) (reverse mid.operands.items)
      (stacked [] ps) es ec ep (ap reverse eo) u.operands)
      (same_targets (old.targets.items ++ q ∷ []) new.targets.items old.is_open new.is_open (asked ps ++ i ∷ []) (h.targets ∙ et) (h.stays ∙ ei)
      (targets_at known insts old.targets.items old.is_open (asked ps) q i u.targets (sym k) at)) s h refl
      (stands.by_place (length mid.parts.items) q i (sym k) at (at_last mid.parts.items (condition.When q)))
  placed_added (Err e) old mid new ps i q u k at es ec ep eo ei et s h = tt

  -- an instance that has none
  pub outside_added : {E : Type 0} (r : Result (Unit {0}) E) (old mid new : Conditions) (ps : List Piece) (i : Instance ℕ) →
      Under old ps → None ≡ known i → (¬ (Among i insts)) → mid.start ≡ old.start → mid.count ≡ old.count →
      mid.parts.items ≡ old.parts.items → mid.operands.items ≡ old.operands.items → mid.is_open ≡ true →
      mid.targets.items ≡ old.targets.items → StaysUnder mid new → OnOk r (HasPushed condition.Never mid new) →
      OnOk r (Under new (ps ++ piece.Asks i ∷ []))
  outside_added (Ok t) old mid new ps i u k gone es ec ep eo ei et s h =
      one_piece known insts mid new condition.Never ps (piece.Asks i) (Asks i) (stacked [] ps)
      (carried old.start mid.start old.count mid.count old.parts.items mid.parts.items (reverse old.operands.items) (reverse mid.operands.items)
      (stacked [] ps) es ec ep (ap reverse eo) u.operands)
      (same_targets old.targets.items new.targets.items true new.is_open (asked ps ++ i ∷ []) (h.targets ∙ et) (h.stays ∙ ei)
      (targets_out known insts old.targets.items old.is_open (asked ps) i u.targets (sym k) gone)) s h refl
      (stands.nowhere (length mid.parts.items) i (sym k) gone (at_last mid.parts.items condition.Never))
  outside_added (Err e) old mid new ps i u k gone es ec ep eo ei et s h = tt

  pair_stands : (start : Bool) (count : ℕ) (parts : List Condition) (c : Bool) (p l r : ℕ) (f g : Formula ℕ) →
      slice_get parts p ≡ Some (two start c (count + l) (count + r)) → Stands start count known insts parts l f →
      Stands start count known insts parts r g → Stands start count known insts parts p (combined c f g)
  pair_stands start count parts true p l r f g at x y = stands.by_both p l r f g at x y
  pair_stands start count parts false p l r f g at x y = stands.by_either p l r f g at x y

  pub carried_one : (a b : Bool) (m n : ℕ) (xs ys : List Condition) (p : ℕ) (f : Formula ℕ) → b ≡ a → n ≡ m → ys ≡ xs →
      Stands a m known insts xs p f → Stands b n known insts ys p f
  carried_one a b m n xs ys p f ea em ex x =
      subst (λ z. Stands z n known insts ys p f) (sym ea) (subst (λ z. Stands a z known insts ys p f) (sym em)
      (subst (λ z. Stands a m known insts z p f) (sym ex) x))

  -- an operator on the two newest operands
  pub two_added : {E : Type 0} (r : Result (Unit {0}) E) (old one both new : Conditions) (ps : List Piece) (c : Bool) (right left first second : ℕ) →
      Under old ps → HasOperand old one right → StaysUnder old one → HasOperand one both left → StaysUnder one both →
      first ≡ both.count + left → second ≡ both.count + right → StaysUnder both new →
      OnOk r (HasPushed (two both.start c first second) both new) → OnOk r (Under new (ps ++ operator c ∷ []))
  two_added (Err e) old one both new ps c right left first second u h1 s1 h2 s2 ef es s h = tt
  two_added (Ok t) old one both new ps c right left first second u h1 s1 h2 s2 ef es s h =
      let (x1, y1) = operand_taken known insts old one right (stacked [] ps) h1 s1 u.operands in
      let (x2, y2) = operand_taken known insts one both left (below (stacked [] ps)) h2 s2
      (carried old.start one.start old.count one.count one.parts.items one.parts.items (reverse one.operands.items)
      (reverse one.operands.items) (below (stacked [] ps)) s1.start s1.count refl refl y1) in
      let right_more = carried_one old.start both.start old.count both.count (one.parts.items ++ s2.more) both.parts.items right
      (top_of (stacked [] ps)) (s2.start ∙ s1.start) (s2.count ∙ s1.count) s2.parts
      (stands_more known insts old.start old.count one.parts.items s2.more right (top_of (stacked [] ps)) x1) in
      let left_more = carried_one one.start both.start one.count both.count both.parts.items both.parts.items left
      (top_of (below (stacked [] ps))) s2.start s2.count refl x2 in
      one_piece known insts both new (two both.start c first second) ps (operator c)
      (combined c (top_of (below (stacked [] ps))) (top_of (stacked [] ps))) (below (below (stacked [] ps)))
      (carried one.start both.start one.count both.count both.parts.items both.parts.items (reverse both.operands.items)
      (reverse both.operands.items) (below (below (stacked [] ps))) s2.start s2.count refl refl y2)
      (targets_known known insts new.targets.items new.is_open (asked ps) (asked (operator c ∷ []))
      (same_targets old.targets.items new.targets.items old.is_open new.is_open (asked ps) (h.targets ∙ h2.targets ∙ h1.targets)
      (h.stays ∙ h2.stays ∙ h1.stays) u.targets) (λ i a. absurd (subst (λ z. Among i z) (none_asked c) a))) s h (on_two c (stacked [] ps))
      (pair_stands both.start both.count (both.parts.items ++ two both.start c first second ∷ []) c (length both.parts.items) left right
      (top_of (below (stacked [] ps))) (top_of (stacked [] ps))
      (at_last both.parts.items (two both.start c first second) ∙ ap (λ z. Some (two both.start c z second)) ef
      ∙ ap (λ z. Some (two both.start c (both.count + left) z)) es)
      (stands_more known insts both.start both.count both.parts.items (two both.start c first second ∷ []) left (top_of (below (stacked [] ps))) left_more)
      (stands_more known insts both.start both.count both.parts.items (two both.start c first second ∷ []) right (top_of (stacked [] ps)) right_more))
