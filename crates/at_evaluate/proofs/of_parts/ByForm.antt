-- Evaluations in one go, form by form.
use Rattle.std.proofs.Common.{◌≡◌, ℕ, Bool, true, false, cond, List, [], ◌∷◌, ◌++◌, map, Option, Some, Result, Ok, Err, IfOk, refl, sym, ap, ◌∙◌, subst}
use Rattle.std.specs.Borrow.{Bor}
use Rattle.at_model.specs.Run.{Value, Text, Truth, Ref, Slot, Instance, Location, Run, Gives, LooksTo, ◌>>=◌}
use Rattle.at_model.specs.Bodies.{Expr, demand_of, elements_of, truth_of}
use Rattle.at_model.specs.Follow.{follow}
use Rattle.at_model.specs.Rules.{Rules}
use Rattle.at_store.specs.Shown.{Shown, contents}
use Rattle.at_rules.specs.Bodies.{bodies_view, body_view}
use Rattle.at_rules.specs.declared.body.Body.{Body}
use Rattle.at_body.specs.Rest.{ev, ev_all, over, with_one, with_two}
use Rattle.at_body.specs.Standing.{Place}
use Rattle.at_body.specs.Values.{value_view}
use Rattle.at_body.specs.declared.todo.Unary.{Unary}
use Rattle.at_body.specs.declared.todo.Binary.{Binary}
use Rattle.at_body.specs.declared.todo.Fold.{Fold}
use Rattle.at_body.specs.declared.value.Value.{Value as ValueCode}
use Rattle.at_evaluate.specs.Looking.{HasBegun, HasLooked}
use Rattle.at_evaluate.specs.Parts.{beside_text, call_of, either_of, fold_of, one_of, or_truth, two_of}
use Rattle.at_evaluate.specs.declared.direct.Level.{Level}
use Rattle.at_evaluate.specs.Inner.{Gains, HasTold}
use Rattle.at_evaluate.specs.InParts.{EndsTold, EvaluatesTo, HasCome, HasGained, Held, demand, values_in}
use Rattle.at_evaluate.specs.Made.{Makes}
use Rattle.at_evaluate.specs.Traces.{StayJustified}
use Rattle.at_evaluate.specs.Led.{AddsDemanded}
use Rattle.at_evaluate.specs.Valued.{kept_values, meaning}
use Rattle.at_evaluate.proofs.of_parts.Directly.{come_begun, come_end, come_then, gains_begun, gains_demand, gains_then, gains_within, grows, grows_then, told_come}

-- an expression where it stands
abbrev pub run_at : Rules → Place → Body → Run ℕ (Value ℕ)
run_at rules p b = ev rules.classes (body_view b) p

-- and those of arguments
abbrev pub all_at : Rules → Place → List Body → Run ℕ (List (Value ℕ))
all_at rules p bs = ev_all rules.classes (bodies_view bs) p

-- what stands behind the first part
abbrev pub behind_left : Rules → Place → Binary → Body → Value ℕ → Run ℕ (Value ℕ)
behind_left rules p o b v = run_at rules p b >>= with_two o v

abbrev pub behind_test : Rules → Place → (these those : Option (Bor Body)) → Value ℕ → Run ℕ (Value ℕ)
behind_test rules p these those v =
    cond (truth_of v) (or_truth rules.classes p these true) (or_truth rules.classes p those false)

abbrev pub behind_receiver : Rules → Place → ℕ → List Body → Value ℕ → Run ℕ (Value ℕ)
behind_receiver rules p k bs v = all_at rules p bs >>= demand_of k v

abbrev pub behind_node : Rules → Place → Fold → ℕ → Body → Value ℕ → Run ℕ (Value ℕ)
behind_node rules p f part b v = elements_of part v >>= over rules.classes f (body_view b) p

-- the instance that is asked for
abbrev pub asked : ℕ → ℕ → List ValueCode → Instance ℕ
asked n k vs = record { node = n; attribute = k; arguments = map value_view vs }

module _ (rules : Rules) (s : Shown) (p : Place) where
  pub one_gains : (u : Unary) (a : Body) (old new : Held) → HasGained rules s (run_at rules p a) old new →
      HasGained rules s (one_of rules.classes p u a) old new
  one_gains u a old new g = gains_within rules s (run_at rules p a) (with_one rules.classes u) old new g

  pub one_come : {E : Type 0} (u : Unary) (a : Body) (v : ValueCode) (res : Result ValueCode E) (first mid : Held)
      (old between new : Level) → new.uses.items ≡ between.uses.items →
      HasGained rules s (run_at rules p a) first mid →
      HasCome rules (contents s) mid old between (run_at rules p a) (value_view v) →
      IfOk res (λ z. HasLooked (contents s) between.reads new.reads (with_one rules.classes u (value_view v))
      (value_view z)) → IfOk res (λ z. HasCome rules (contents s) mid old new (one_of rules.classes p u a) (value_view
      z))
  one_come u a v res first mid old between new same g q h = come_end rules s (run_at rules p a) (with_one rules.classes
      u) (value_view v) value_view res mid old between new same g.right q h

  pub beside_gains : (o : Binary) (text : List ℕ) (a : Body) (old new : Held) → HasGained rules s (run_at rules p a)
      old new → HasGained rules s (beside_text rules.classes p o a text) old new
  beside_gains o text a old new g = gains_within rules s (run_at rules p a) (λ v. with_two o v (Text text)) old
      new g

  pub beside_come : {E : Type 0} (o : Binary) (text : List ℕ) (a : Body) (v : ValueCode) (res : Result ValueCode E)
      (first mid : Held) (old between : Level) → HasGained rules s (run_at rules p a) first mid →
      HasCome rules (contents s) mid old between (run_at rules p a) (value_view v) →
      IfOk res (λ z. with_two o (value_view v) (Text text) ≡ Gives (value_view z)) →
      IfOk res (λ z. HasCome rules (contents s) mid old between (beside_text rules.classes p o a text) (value_view z))
  beside_come o text a v (Ok z) first mid old between g q h = come_end rules s {E = ℕ} (run_at rules p a) (λ w. with_two
      o w (Text text)) (value_view v) value_view (Ok z) mid old between between refl g.right q (ap (follow (contents s)
      between.reads) h)
  beside_come o text a v (Err e) first mid old between g q h = tt

  pub two_gains_first : (o : Binary) (a b : Body) (old new : Held) → HasGained rules s (run_at rules p a) old new
      → HasGained rules s (two_of rules.classes p o a b) old new
  two_gains_first o a b old new g = gains_within rules s (run_at rules p a) (behind_left rules p o b) old new g

  pub two_gains : (o : Binary) (a b : Body) (v : ValueCode) (first mid last : Held) (old between : Level) →
      HasGained rules s (run_at rules p a) first mid →
      HasCome rules (contents s) mid old between (run_at rules p a) (value_view v) →
      HasGained rules s (run_at rules p b) mid last →
      HasGained rules s (two_of rules.classes p o a b) first last
  two_gains o a b v first mid last old between g q h = gains_then rules s (run_at rules p a) (behind_left rules p
      o b) (value_view v) (behind_left rules p o b (value_view v)) first mid last old between refl g q
      (gains_within rules s (run_at rules p b) (with_two o (value_view v)) mid last h)

  pub two_come : {E : Type 0} (o : Binary) (a b : Body) (v u : ValueCode) (res : Result ValueCode E)
      (first mid last : Held) (old between next new : Level) → new.uses.items ≡ next.uses.items →
      HasGained rules s (run_at rules p a) first mid →
      HasCome rules (contents s) mid old between (run_at rules p a) (value_view v) →
      HasGained rules s (run_at rules p b) mid last →
      HasCome rules (contents s) last between next (run_at rules p b) (value_view u) →
      IfOk res (λ z. HasLooked (contents s) next.reads new.reads (with_two o (value_view v) (value_view u)) (value_view
      z)) → IfOk res (λ z. HasCome rules (contents s) last old new (two_of rules.classes p o a b) (value_view z))
  two_come o a b v u (Ok z) first mid last old between next new same f q g t h = come_then rules s (run_at rules p a)
      (behind_left rules p o b) (value_view v) (behind_left rules p o b (value_view v)) (value_view z) mid last old
      between new refl f.right q (grows rules s (run_at rules p b) mid last g)
      (come_end rules s {E = ℕ} (run_at rules p b) (with_two o (value_view v)) (value_view u) value_view (Ok z) last
      between next new same g.right t h)
  two_come o a b v u (Err e) first mid last old between next new same f q g t h = tt

  -- what a truth value chooses
  chose : (v : Value ℕ) (is : Bool) (these those : Option (Bor Body)) (r : Run ℕ (Value ℕ)) → v ≡ Truth is →
      r ≡ cond is (or_truth rules.classes p these true) (or_truth rules.classes p those false) →
      behind_test rules p these those v ≡ r
  chose v is these those r e h = ap (behind_test rules p these those) e ∙ sym h

  pub either_gains_test : (a : Body) (these those : Option (Bor Body)) (old new : Held) →
      HasGained rules s (run_at rules p a) old new →
      HasGained rules s (either_of rules.classes p a these those) old new
  either_gains_test a these those old new g = gains_within rules s (run_at rules p a) (behind_test rules p these
      those) old new g

  -- the part that a test chooses
  module _ (a : Body) (these those : Option (Bor Body)) (v : ValueCode) (is : Bool) (r : Run ℕ (Value ℕ))
      (first mid last : Held) (old between : Level) (e : value_view v ≡ Truth is)
      (h : r ≡ cond is (or_truth rules.classes p these true) (or_truth rules.classes p those false))
      (g : HasGained rules s (run_at rules p a) first mid)
      (q : HasCome rules (contents s) mid old between (run_at rules p a) (value_view v))
      (t : HasGained rules s r mid last) where
    pub either_gains : HasGained rules s (either_of rules.classes p a these those) first last
    either_gains = gains_then rules s (run_at rules p a) (behind_test rules p these those) (value_view v) r first
        mid last old between (chose (value_view v) is these those r e h) g q t

    pub either_come : {E : Type 0} (res : Result ValueCode E) (new : Level) →
        IfOk res (λ z. HasCome rules (contents s) last between new r (value_view z)) →
        IfOk res (λ z. HasCome rules (contents s) last old new (either_of rules.classes p a these those) (value_view z))
    either_come (Ok z) new c = come_then rules s (run_at rules p a) (behind_test rules p these those) (value_view v) r
        (value_view z) mid last old between new (chose (value_view v) is these those r e h) g.right q
        (grows rules s r mid last t) c
    either_come (Err f) new c = tt

    pub either_ends : {E : Type 0} (res : Result ValueCode E) (new : Level) →
        IfOk res (λ z. HasCome rules (contents s) last between new r (value_view z)) →
        EvaluatesTo rules s (either_of rules.classes p a these those) value_view first last old new res
    either_ends res new c = record { come = either_come res new c; gains = either_gains }

  pub call_gains_first : (a : Body) (k : ℕ) (bs : List Body) (old new : Held) →
      HasGained rules s (run_at rules p a) old new → HasGained rules s (call_of rules.classes p a k bs) old
      new
  call_gains_first a k bs old new g = gains_within rules s (run_at rules p a) (behind_receiver rules p k bs) old
      new g

  -- with the receiver's value, and the arguments
  module _ (a : Body) (k : ℕ) (bs : List Body) (v : ValueCode) (first mid next : Held) (old between : Level)
      (g : HasGained rules s (run_at rules p a) first mid)
      (q : HasCome rules (contents s) mid old between (run_at rules p a) (value_view v))
      (h : HasGained rules s (all_at rules p bs) mid next) where
    pub call_gains_second : HasGained rules s (call_of rules.classes p a k bs) first next
    call_gains_second = gains_then rules s (run_at rules p a) (behind_receiver rules p k bs) (value_view v)
        (behind_receiver rules p k bs (value_view v)) first mid next old between refl g q
        (gains_within rules s (all_at rules p bs) (demand_of k (value_view v)) mid next h)

    module _ (n : ℕ) (vs : List ValueCode) (last : Held) (later : Level) (e : value_view v ≡ Ref (Some n))
        (t : HasCome rules (contents s) next between later (all_at rules p bs) (map value_view vs))
        (d : Gains rules s (asked n k vs) next.entries last.entries next.found last.found next.work last.work)
        (w : AddsDemanded (contents s) (meaning rules) (asked n k vs) (kept_values next.entries) (kept_values last.entries))
        (j : StayJustified rules s (asked n k vs) next.memories last.memories)
        (m : Makes next.entries last.entries next.memories last.memories next.made last.made) where
      demands : demand_of k (value_view v) (map value_view vs) ≡ demand (asked n k vs)
      demands = ap (λ z. demand_of k z (map value_view vs)) e

      asks : HasGained rules s (demand (asked n k vs)) next last
      asks = gains_demand rules s (asked n k vs) next last d w j m

      pub call_gains : HasGained rules s (call_of rules.classes p a k bs) first last
      call_gains = gains_then rules s (run_at rules p a) (behind_receiver rules p k bs) (value_view v)
          (behind_receiver rules p k bs (value_view v)) first mid last old between refl g q
          (gains_then rules s (all_at rules p bs) (demand_of k (value_view v)) (map value_view vs) (demand (asked
          n k vs)) mid next last between later demands h t asks)

      pub call_come : {E : Type 0} (res : Result ValueCode E) (new : Level) →
          IfOk res (λ u. HasTold rules (contents s) (values_in last) later new (asked n k vs) (value_view u)) →
          IfOk res (λ u. HasCome rules (contents s) last old new (call_of rules.classes p a k bs) (value_view u))
      call_come (Ok u) new c =
          let first_grows = grows rules s (all_at rules p bs) mid next h in
          let last_grows = grows rules s (demand (asked n k vs)) next last asks in
          come_then rules s (run_at rules p a) (behind_receiver rules p k bs) (value_view v) (behind_receiver rules p k
          bs (value_view v)) (value_view u) mid last old between new refl g.right q
          (grows_then rules s mid next last first_grows last_grows)
          (come_then rules s (all_at rules p bs) (demand_of k (value_view v)) (map value_view vs) (demand (asked n k
          vs)) (value_view u) next last between later new demands h.right t last_grows
          (told_come rules s last later new (asked n k vs) (value_view u) c))
      call_come (Err f) new c = tt

    -- by what the instance is told that it asks for
    pub call_ends : (n : ℕ) (vs : List ValueCode) (last : Held) (later : Level) → value_view v ≡ Ref (Some n) →
        HasCome rules (contents s) next between later (all_at rules p bs) (map value_view vs) → (i : Instance ℕ) →
        i ≡ asked n k vs → {E : Type 0} (res : Result ValueCode E) (new : Level) →
        EndsTold rules s i next last later new res →
        EvaluatesTo rules s (call_of rules.classes p a k bs) value_view first last old new res
    call_ends n vs last later e t i is res new ends =
        let told : EndsTold rules s (asked n k vs) next last later new res = subst (λ (j : Instance ℕ). EndsTold
        rules s j next last later new res) is ends in
        let grown = told.grown in
        record {
          come = call_come n vs last later e t grown.gains grown.demanded grown.traces grown.makes res new told.told;
          gains = call_gains n vs last later e t grown.gains grown.demanded grown.traces grown.makes;
        }

  pub fold_gains_first : (f : Fold) (a : Body) (part : ℕ) (b : Body) (old new : Held) →
      HasGained rules s (run_at rules p a) old new →
      HasGained rules s (fold_of rules.classes p f a part b) old new
  fold_gains_first f a part b old new g = gains_within rules s (run_at rules p a) (behind_node rules p f part b)
      old new g

  elements : (f : Fold) (part : ℕ) (b : Body) (v : Value ℕ) (n : ℕ) (ns : List ℕ) (old new : List (Location ℕ)) →
      v ≡ Ref (Some n) → ns ≡ contents s (Slot n part) → new ≡ old ++ Slot n part ∷ [] →
      HasBegun (contents s) old new (behind_node rules p f part b v) (over rules.classes f (body_view b) p ns)
  elements f part b v n ns old new e is reads = record {
    looks = Slot n part ∷ [];
    goes = subst (λ z. LooksTo (contents s) (behind_node rules p f part b z) (Slot n part ∷ []) (over rules.classes f
        (body_view b) p ns)) (sym e) (refl, ap (over rules.classes f (body_view b) p) (sym is));
    reads = reads;
  }

  -- over the elements of a node
  module _ (f : Fold) (a : Body) (part : ℕ) (b : Body) (v : ValueCode) (n : ℕ) (ns : List ℕ) (first mid last : Held)
      (old between later : Level) (e : value_view v ≡ Ref (Some n)) (is : ns ≡ contents s (Slot n part))
      (reads : later.reads ≡ between.reads ++ Slot n part ∷ [])
      (g : HasGained rules s (run_at rules p a) first mid)
      (q : HasCome rules (contents s) mid old between (run_at rules p a) (value_view v))
      (h : HasGained rules s (over rules.classes f (body_view b) p ns) mid last) where
    begun : HasBegun (contents s) between.reads later.reads (behind_node rules p f part b (value_view v)) (over
        rules.classes f (body_view b) p ns)
    begun = elements f part b (value_view v) n ns between.reads later.reads e is reads

    pub fold_gains : HasGained rules s (fold_of rules.classes p f a part b) first last
    fold_gains = gains_then rules s (run_at rules p a) (behind_node rules p f part b) (value_view v)
        (behind_node rules p f part b (value_view v)) first mid last old between refl g q
        (gains_begun rules s mid last between.reads later.reads (behind_node rules p f part b (value_view v))
        (over rules.classes f (body_view b) p ns) begun h)

    pub fold_come : {E : Type 0} (res : Result ValueCode E) (new : Level) → later.uses.items ≡ between.uses.items →
        IfOk res (λ u. HasCome rules (contents s) last later new (over rules.classes f (body_view b) p ns) (value_view
        u)) →
        IfOk res (λ u. HasCome rules (contents s) last old new (fold_of rules.classes p f a part b) (value_view u))
    fold_come (Ok u) new same t = come_then rules s (run_at rules p a) (behind_node rules p f part b) (value_view v)
        (behind_node rules p f part b (value_view v)) (value_view u) mid last old between new refl g.right q
        (grows rules s (over rules.classes f (body_view b) p ns) mid last h)
        (come_begun rules s last between later new (behind_node rules p f part b (value_view v)) (over rules.classes f
        (body_view b) p ns) (value_view u) same begun t)
    fold_come (Err x) new same t = tt

    pub fold_ends : {E : Type 0} (res : Result ValueCode E) (new : Level) → later.uses.items ≡ between.uses.items →
        IfOk res (λ u. HasCome rules (contents s) last later new (over rules.classes f (body_view b) p ns) (value_view
        u)) → EvaluatesTo rules s (fold_of rules.classes p f a part b) value_view first last old new res
    fold_ends res new same t = record { come = fold_come res new same t; gains = fold_gains }

-- where an expression has that form
module _ (rules : Rules) (s : Shown) where
  pub gains_as : (old new : Held) (p : Place) (b : Body) (e : Expr) → body_view b ≡ e →
      HasGained rules s (ev rules.classes e p) old new → HasGained rules s (run_at rules p b) old new
  gains_as old new p b e is g = subst (λ z. HasGained rules s (ev rules.classes z p) old new) (sym is) g
