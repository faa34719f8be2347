-- The formula of an instance in a system, once all its pieces have conditions.
use Rattle.std.proofs.Common.{◌≡◌, ℕ, ◌+◌, false, reverse, List, [], ◌∷◌, ◌++◌, Some, Vec, refl, sym, ap, ◌∙◌, subst, append_assoc}
use Rattle.std.proofs.lemmas.List.{append-nil}
use Rattle.std.specs.Global.{Global}
use Rattle.at_model.specs.Run.{Instance, Known}
use Rattle.at_body.specs.Pieces.{asked, formula_of, stacked}
use Rattle.at_body.specs.declared.formula.Piece.{Piece}
use Rattle.at_solve.specs.declared.condition.Condition.TheVariants as condition
use Rattle.at_search.specs.declared.conditions.Conditions.{Conditions}
use Rattle.at_search.specs.declared.system.System.{System}
use Rattle.at_search.specs.Systems.{AreStanding, HasBegun, HasFormed, HasOperand, IsUnderWay, StaysUnder}
use Rattle.at_search.proofs.Piecewise.{no_targets, operand_taken}
use Rattle.at_search.proofs.Adding.{carried_one, same_targets}

-- what stays under one stays under another
pub stays_then : (old mid new : Conditions) → StaysUnder old mid → StaysUnder mid new → StaysUnder old new
stays_then old mid new s t = record {
  start = t.start ∙ s.start;
  count = t.count ∙ s.count;
  more = s.more ++ t.more;
  parts = t.parts ∙ ap (λ z. z ++ t.more) s.parts ∙ append_assoc old.parts.items s.more t.more;
}

-- with the same conditions nothing comes
pub same_conditions : (old new : Conditions) → new.start ≡ old.start → new.count ≡ old.count → new.parts.items ≡ old.parts.items →
    StaysUnder old new
same_conditions old new es ec ep = record { start = es; count = ec; more = []; parts = ep ∙ sym (append-nil old.parts.items) }

module _ (known : Known ℕ) (insts : List (Instance ℕ)) where
  pub formed : (old new : System) (mid one : Conditions) (ps : List Piece) (head first : ℕ) (targets : Vec ℕ Global) →
      IsUnderWay known insts mid ps → StaysUnder old.conditions mid → HasOperand mid one head → StaysUnder mid one →
      first ≡ one.count + head → StaysUnder one new.conditions → new.conditions.parts.items ≡ one.parts.items →
      new.heads.items ≡ old.heads.items ++ condition.When first ∷ [] → new.open.items ≡ old.open.items ++ one.is_open ∷ [] →
      targets.items ≡ one.targets.items → new.edges.items ≡ old.edges.items ++ targets ∷ [] → HasFormed known insts ps old new
  formed old new mid one ps head first targets u s h t ef w ep eh eo et ee =
      let all = stays_then old.conditions mid new.conditions s (stays_then mid one new.conditions t w) in
      let count : first ≡ old.conditions.count + head = ef ∙ ap (λ z. z + head) (t.count ∙ s.count) in
      record {
        stays = all;
        place = head;
        heads = eh ∙ ap (λ z. old.heads.items ++ condition.When z ∷ []) count;
        stands = carried_one known insts mid.start old.conditions.start mid.count old.conditions.count one.parts.items
            new.conditions.parts.items head (formula_of ps) (sym s.start) (sym s.count) ep
            (operand_taken known insts mid one head (stacked [] ps) h t u.operands).0;
        targets = targets;
        edges = ee;
        is_open = one.is_open;
        opens = eo;
        asks = same_targets known insts mid.targets.items targets.items mid.is_open one.is_open (asked ps) (et ∙ h.targets) h.stays u.targets;
      }

  -- a formula begins with no piece
  pub begins : (old new : Conditions) → HasBegun old new → IsUnderWay known insts new []
  begins old new h = record {
    operands = subst (λ z. AreStanding new.start new.count known insts new.parts.items (reverse z) []) (sym h.operands) tt;
    targets = same_targets known insts [] new.targets.items false new.is_open [] h.targets h.closed (no_targets known insts);
  }
