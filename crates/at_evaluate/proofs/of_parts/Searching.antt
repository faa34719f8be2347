-- Evaluations in one go: folds over elements that are looked for by a key.
use Rattle.std.proofs.Common.{◌≡◌, ℕ, List, [], ◌∷◌, ◌++◌, map, Some, Result, Ok, Err, IfOk, refl, sym, ap, ◌∙◌, subst}
use Rattle.at_model.specs.Bodies.{text_of}
use Rattle.at_model.specs.Drawers.{mark_of}
use Rattle.at_model.specs.Run.{Drawer, Location, LooksTo, Ref, Run, Slot, Value, ◌>>=◌}
use Rattle.at_model.specs.Rules.{Rules}
use Rattle.at_model.specs.Seeking.{is_in_drawer, those}
use Rattle.at_class.specs.Keys.{key_view}
use Rattle.at_store.specs.Shown.{IsIdle, Shown, contents}
use Rattle.at_rules.specs.Bodies.{body_view}
use Rattle.at_rules.specs.declared.body.Body.{Body}
use Rattle.at_rules.specs.declared.body.Lookup.{Lookup}
use Rattle.at_body.specs.Rest.{over}
use Rattle.at_body.specs.Seeking.{sought_in}
use Rattle.at_body.specs.Standing.{Place, names, scope}
use Rattle.at_body.specs.Values.{value_view}
use Rattle.at_body.specs.declared.todo.Fold.{Fold}
use Rattle.at_body.specs.declared.value.Value.{Value as ValueCode}
use Rattle.at_body.proofs.Drawn.{drawn}
use Rattle.at_evaluate.specs.Looking.{HasBegun}
use Rattle.at_evaluate.specs.Parts.{found_of, search_of}
use Rattle.at_evaluate.specs.declared.direct.Level.{Level}
use Rattle.at_evaluate.specs.InParts.{EvaluatesTo, HasCome, HasGained, Held}
use Rattle.at_evaluate.proofs.of_parts.ByForm.{run_at}
use Rattle.at_evaluate.proofs.of_parts.Directly.{come_begun, come_then, gains_begun, gains_then, gains_within, grows}

module _ (rules : Rules) (s : Shown) (p : Place) (f : Fold) (look : Lookup) (b : Body) where
  -- what stands behind the node
  abbrev pub behind_found : Value ℕ → Run ℕ (Value ℕ)
  behind_found v = found_of p look v >>= over rules.classes f (body_view b) p

  pub search_gains_first : (a : Body) (old new : Held) → HasGained rules s (run_at rules p a) old new →
      HasGained rules s (search_of rules.classes p f a look b) old new
  search_gains_first a old new g = gains_within rules s (run_at rules p a) behind_found old new g

  abbrev mark : ℕ
  mark = mark_of (text_of (sought_in look.sought (scope p).names))

  abbrev drawer : ℕ → ℕ → Location ℕ
  drawer n m = Drawer n look.part (key_view look.key) m

  -- the fold over those of these nodes that stand under the mark
  abbrev pub under_mark : ℕ → List ℕ → Run ℕ (Value ℕ)
  under_mark m ns = over rules.classes f (body_view b) p (those (is_in_drawer (contents s) (key_view look.key) m) ns)

  candidates : (v : Value ℕ) (n m : ℕ) (ns : List ℕ) (old new : List (Location ℕ)) → IsIdle s → v ≡ Ref (Some n) → m ≡ mark →
      ns ≡ contents s (Slot n look.part) → new ≡ old ++ drawer n m ∷ [] → HasBegun (contents s) old new (behind_found v) (under_mark m ns)
  candidates v n m ns old new idle e marked is reads = record {
    looks = drawer n mark ∷ [];
    goes = subst (λ z. LooksTo (contents s) (behind_found z) (drawer n mark ∷ []) (under_mark m ns)) (sym e) (
      refl,
      ap (over rules.classes f (body_view b) p) (drawn s idle n look.part (key_view look.key) mark
          ∙ ap (those (is_in_drawer (contents s) (key_view look.key) mark)) (sym is))
          ∙ ap (λ (k : ℕ). under_mark k ns) (sym marked),
    );
    reads = reads ∙ ap (λ (k : ℕ). old ++ drawer n k ∷ []) marked;
  }

  -- over the elements of a node that are looked for
  module _ (a : Body) (v : ValueCode) (n m : ℕ) (ns : List ℕ) (first mid last : Held) (old between later : Level) (idle : IsIdle s)
      (e : value_view v ≡ Ref (Some n)) (vs : List ValueCode) (passed : vs ≡ p.passed)
      (marked : m ≡ mark_of (text_of (sought_in look.sought (names p.bound (map value_view vs))))) (is : ns ≡ contents s (Slot n look.part))
      (reads : later.reads ≡ between.reads ++ drawer n m ∷ [])
      (g : HasGained rules s (run_at rules p a) first mid)
      (q : HasCome rules (contents s) mid old between (run_at rules p a) (value_view v))
      (h : HasGained rules s (under_mark m ns) mid last) where
    begun : HasBegun (contents s) between.reads later.reads (behind_found (value_view v)) (under_mark m ns)
    begun = candidates (value_view v) n m ns between.reads later.reads idle e
        (marked ∙ ap (λ (us : List ValueCode). mark_of (text_of (sought_in look.sought (names p.bound (map value_view us))))) passed) is reads

    search_gains : HasGained rules s (search_of rules.classes p f a look b) first last
    search_gains = gains_then rules s (run_at rules p a) behind_found (value_view v) (behind_found (value_view v)) first mid last old between refl g q
        (gains_begun rules s mid last between.reads later.reads (behind_found (value_view v)) (under_mark m ns) begun h)

    search_come : {E : Type 0} (res : Result ValueCode E) (new : Level) → later.uses.items ≡ between.uses.items →
        IfOk res (λ u. HasCome rules (contents s) last later new (under_mark m ns) (value_view u)) →
        IfOk res (λ u. HasCome rules (contents s) last old new (search_of rules.classes p f a look b) (value_view u))
    search_come (Ok u) new same t = come_then rules s (run_at rules p a) behind_found (value_view v) (behind_found (value_view v)) (value_view u)
        mid last old between new refl g.right q (grows rules s (under_mark m ns) mid last h)
        (come_begun rules s last between later new (behind_found (value_view v)) (under_mark m ns) (value_view u) same begun t)
    search_come (Err x) new same t = tt

    pub search_ends : {E : Type 0} (res : Result ValueCode E) (new : Level) → later.uses.items ≡ between.uses.items →
        IfOk res (λ u. HasCome rules (contents s) last later new (under_mark m ns) (value_view u)) →
        EvaluatesTo rules s (search_of rules.classes p f a look b) value_view first last old new res
    search_ends res new same t = record { come = search_come res new same t; gains = search_gains }
