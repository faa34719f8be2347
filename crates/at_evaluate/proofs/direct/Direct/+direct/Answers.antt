use Rattle.std.proofs.Common.{◌≡◌, ℕ, List, true, drop, take, length, Option, None, IfNone, Result, refl, sym, ap, ◌+◌, ◌∙◌, subst, arith, ◌++◌, ◌∷◌, [], Ok, Err, IfOk, map, rules}
use Rattle.std.specs.Prelude.{IsErrAnd}
use Rattle.std.proofs.lemmas.Result.{IfOk-weaker}
use Rattle.at_model.specs.Run.{Instance, Location, Gives, Run, Truth, Value, ◌>>=◌}
use Rattle.at_model.specs.Seeking.{is_in_drawer, those}
use Rattle.at_class.specs.Keys.{key_view}
use Rattle.at_store.specs.Shown.{contents}
use Rattle.at_body.specs.Values.{value_view}
use Rattle.at_body.specs.declared.value.Value.{Value as ValueCode}
use Rattle.at_evaluate.specs.declared.direct.Level.{Level}
use Rattle.at_evaluate.specs.Inner.{HasRecalled, HasTold, IsEvaluated, known_by}
use Rattle.at_evaluate.specs.InParts.{EvaluatesTo, HasCome, HasGained, MayHaveCome, held_by}
use Rattle.at_evaluate.specs.Valued.{equations, kept_values}
use Rattle.at_evaluate.proofs.Entered.{absent}
use Rattle.at_evaluate.proofs.of_nesting.Asked.{evaluated_behind, evaluated_in, inner_told, reads_before, reads_longer, told_alike, unkept_result, uses_before, uses_longer}
use Rattle.at_evaluate.proofs.of_nesting.Grown.{evaluated_more, grown_aside, grown_evaluated, grown_from, grown_none, grown_then, held_after, unkept_aside}
use Rattle.std.proofs.lemmas.List.{nil_from_length}
use Rattle.at_rules.specs.Bodies.{bodies_view, body_view}
use Rattle.at_body.specs.Rest.{ev, ev_all, over, with_two}
use Rattle.at_evaluate.specs.Parts.{next_of, or_truth}
use Rattle.at_evaluate.specs.Place.{place_at}
use Rattle.at_evaluate.proofs.of_parts.Directly.{at_once_none, at_once_some, come_begun, come_gives, come_looked, gains_begun, nothing_gained}
use Rattle.at_evaluate.proofs.of_parts.ByForm.{beside_come, beside_gains, call_ends, call_gains_first, call_gains_second, either_ends, either_gains_test, fold_ends, fold_gains_first, one_come, one_gains, two_come, two_gains, two_gains_first}
use Rattle.at_evaluate.proofs.of_parts.PassedBy.{goes_past, less_left}
use Rattle.at_evaluate.proofs.of_parts.Searching.{search_ends, search_gains_first}
use Rattle.at_evaluate.proofs.of_parts.Looping.{bound_at, each_all, each_ends, each_gains, each_on, gains_so_far, passed_all, passed_gains, passed_on, starts, unbound_at}
use Rattle.at_evaluate.proofs.direct.Direct.+direct.Goals as goal
use Rattle.at_body.specs.declared.value.Value.TheVariants as value

-- an exit with an error has no value
no_ok : {T E : Type 0} (r : Result T E) (Q : E → Type 0) (P : T → Type 0) → IsErrAnd r Q → IfOk r P
no_ok (Ok x) Q P h = absurd h
no_ok (Err e) Q P h = tt

pub told-recall-requires : goal.told-recall-requires
told-recall-requires g n c = c.requires.known

pub told-is_inner-requires : goal.told-is_inner-requires
told-is_inner-requires g n c = c.requires.known.circular

pub afresh-keep_again-requires : goal.afresh-keep_again-requires
afresh-keep_again-requires g n c = record {
  lazy = c.requires.lazy;
  own = c.requires.own;
  unkept = c.in_ok-value.ensures.unkept c.requires.unkept;
  held = held_after c.evaluate.ensures.grown;
}

pub afresh-keep-requires : goal.afresh-keep-requires
afresh-keep-requires g n c =
    let rules = c.args.basis.now.rules.now in
    let s = c.args.basis.now.store.now in
    let i = c.args.needed in
    let entries = g.K.Keeper.contents c.keep_again.new.keeper in
    let first = held_by g.K.Keeper.contents g.K.Keeper.memories c.evaluate.new.keeper c.evaluate.new.self in
    record {
      absent = absent rules entries c.keep_again.ensures.grown.gains.known.plain i c.requires.lazy
          (subst (λ (o : Option ValueCode). IfNone o (kept_values entries i ≡ None)) c.in_default.is c.in_ok-again.ensures.unkept);
      evaluated = record {
        lazy = c.requires.lazy;
        own = c.requires.own;
        held = held_after c.keep_again.ensures.grown;
        come = evaluated_more c.keep_again.ensures.grown (held_after c.evaluate.ensures.grown) i (value_view c.in_ok-value.value) c.evaluate.new.level.reads
            c.evaluate.new.level.uses.items (evaluated_in rules s first c.level-below.result c.evaluate.new.level i (value_view c.in_ok-value.value)
            c.in_ok-value.ensures.come c.level-below.ensures.reads c.level-below.ensures.uses);
      };
    }

pub inner-remember-requires : goal.inner-remember-requires
inner-remember-requires g n c = record {
  lazy = c.requires.lazy;
  own = c.requires.own;
  held = held_after c.evaluate.ensures.grown;
  come =
      let rules = c.args.basis.now.rules.now in
      let s = c.args.basis.now.store.now in
      let i = c.args.needed in
      let v = value_view c.in_ok-value.value in
      let d = c.evaluate.new.self in
      let known = known_by (g.K.Keeper.contents c.evaluate.new.keeper) d.found.entries in
      let h = held_by g.K.Keeper.contents g.K.Keeper.memories c.evaluate.new.keeper c.evaluate.new.self in
      let rest = evaluated_behind rules s h c.args.level.now c.evaluate.new.level i v c.in_ok-value.ensures.come in
      let below = c.in_ok-below.below in
      let long : List (Location ℕ) = c.evaluate.new.level.reads in
      let many : List (Instance ℕ) = c.evaluate.new.level.uses.items in
      let reads : drop (length c.args.level.now.reads) long ≡ below.reads = ap (λ k. drop k long) (sym c.len-reads.ensures) ∙ sym c.in_ok-below.ensures.tail.0
      in
      let count : c.len-uses.result ≡ length c.args.level.now.uses.items = omega (
        arith,
        c.len-uses.ensures,
        c.args.level.now.uses.ok.0,
      ) in
      let uses : drop (length c.args.level.now.uses.items) many ≡ below.uses.items = ap (λ k. drop k many) (sym count) ∙ sym c.in_ok-below.ensures.tail.1 in
      subst (λ (xs : List (Location ℕ)). IsEvaluated rules (contents s) known i v xs below.uses.items) reads (subst (λ
      (xs : List (Instance ℕ)). IsEvaluated rules (contents s) known i v (drop (length c.args.level.now.reads) long) xs)
      uses rest);
}

pub verify-in_the_way-requires : goal.verify-in_the_way-requires
verify-in_the_way-requires g n c = held_after c.keep_again.ensures.grown

pub verify-loop-init : goal.verify-loop-init
verify-loop-init g n c = record { grown = grown_none _ _ c.args.needed.now _ c.args.self.now.few c.requires.held; level = refl; unkept = c.requires.unkept }

pub verify-keep_again-requires : goal.verify-keep_again-requires
verify-keep_again-requires g n c = record {
  lazy = c.requires.lazy;
  own = c.requires.own;
  unkept = c.loop.invariant.unkept;
  held = held_after c.loop.invariant.grown;
}

pub verify-returns-in_err-again : goal.verify-returns-in_err-again
verify-returns-in_err-again g n c = record {
  recalled = search rules;
  unkept = search rules;
  grown = grown_then c.loop.invariant.grown c.keep_again.ensures.grown;
}

pub verify-returns-in-Some : goal.verify-returns-in-Some
verify-returns-in-Some g n c = record { recalled = search rules; unkept = search rules; grown = grown_then c.loop.invariant.grown c.keep_again.ensures.grown }

pub verify-returns-in_err-other : goal.verify-returns-in_err-other
verify-returns-in_err-other g n c = record {
  recalled = search rules;
  unkept = search rules;
  grown = grown_then c.loop.invariant.grown c.keep_again.ensures.grown;
}

pub verify-returns-in_default-2 : goal.verify-returns-in_default-2
verify-returns-in_default-2 g n c = record {
  recalled = search rules;
  unkept = subst (λ (o : Option ValueCode). IfNone o (kept_values (g.K.Keeper.contents c.keep_again.new.keeper) c.args.needed.now ≡ None)) c.in_default.is
      c.in_ok-again.ensures.unkept;
  grown = grown_then c.loop.invariant.grown c.keep_again.ensures.grown;
}

pub verify-returns-in_err-afresh : goal.verify-returns-in_err-afresh
verify-returns-in_err-afresh g n c = record {
  recalled = search rules;
  unkept = search rules;
  grown = grown_aside c.args.basis.now.idle c.in-Some-2.is c.in_ok-other.ensures.led (grown_then c.loop.invariant.grown c.keep_again.ensures.grown)
      c.level-aside.ensures.found c.level-aside.ensures.work c.level-aside.ensures.made c.afresh.ensures.grown;
}

pub verify-returns-in_err-push : goal.verify-returns-in_err-push
verify-returns-in_err-push g n c = record {
  recalled = search rules;
  unkept = search rules;
  grown = grown_aside c.args.basis.now.idle c.in-Some-2.is c.in_ok-other.ensures.led (grown_then c.loop.invariant.grown c.keep_again.ensures.grown)
      c.level-aside.ensures.found c.level-aside.ensures.work c.level-aside.ensures.made c.afresh.ensures.grown;
}

pub verify-loop-preserved : goal.verify-loop-preserved
verify-loop-preserved g n c = record {
  grown = grown_aside c.args.basis.now.idle c.in-Some-2.is c.in_ok-other.ensures.led (grown_then c.loop.invariant.grown c.keep_again.ensures.grown)
      c.level-aside.ensures.found c.level-aside.ensures.work c.level-aside.ensures.made c.afresh.ensures.grown;
  level = subst (λ (o : Option ValueCode). HasRecalled c.args.basis.now.rules.now (contents c.args.basis.now.store.now)
      (known_by (g.K.Keeper.contents c.keep_again.new.keeper) c.keep_again.new.self.found.entries) c.loop.level
      c.keep_again.new.level c.args.needed.now o) c.in_default.is c.in_ok-again.ensures.recalled ∙
      c.loop.invariant.level;
  unkept = unkept_aside c.args.needed.now c.requires.own c.in-Some-2.is c.in_ok-other.ensures.led c.in_ok-other.ensures.other c.afresh.ensures.grown (subst (λ
      (o : Option ValueCode). IfNone o (kept_values (g.K.Keeper.contents c.keep_again.new.keeper) c.args.needed.now ≡ None)) c.in_default.is
      c.in_ok-again.ensures.unkept);
}

-- told, where it isn't known and can't be kept again
pub told-returns-in-None : goal.told-returns-in-None
told-returns-in-None g n c =
    let rules = c.args.basis.now.rules.now in
    let s = c.args.basis.now.store.now in
    let i = c.args.needed in
    let e0 = g.K.Keeper.contents c.args.keeper.now in
    let e1 = g.K.Keeper.contents c.verify.new.keeper in
    let e2 = g.K.Keeper.contents c.afresh.new.keeper in
    let d0 = c.args.self.now in
    let d1 = c.verify.new.self in
    let d2 = c.afresh.new.self in
    let before : c.recall.new.level ≡ c.args.level.now = subst (λ (o : Option ValueCode). HasRecalled rules (contents s) (known_by e0 d0.found.entries)
    c.args.level.now c.recall.new.level i o) c.in_default.is c.in_ok-recalled.ensures.recalled in
    let same : c.verify.new.level ≡ c.recall.new.level = subst (λ (o : Option ValueCode). HasRecalled rules (contents s) (known_by e1 d1.found.entries)
    c.recall.new.level c.verify.new.level i o) c.in-None.is c.in_ok-verified.ensures.recalled in
    record {
      told = IfOk-weaker c.afresh.result _ _ (λ v h. subst (λ (l : Level). HasTold rules (contents s) (known_by e2 d2.found.entries) l c.afresh.new.level i
          (value_view v)) (same ∙ before) h) c.afresh.ensures.told;
      grown = grown_then c.verify.ensures.grown c.afresh.ensures.grown;
    }

-- afresh
pub afresh-returns-in_err-value : goal.afresh-returns-in_err-value
afresh-returns-in_err-value g n c = record {
  told = search rules;
  grown = grown_from c.level-below.ensures.found c.level-below.ensures.work c.level-below.ensures.made c.evaluate.ensures.grown;
}

pub afresh-returns-in_err-again : goal.afresh-returns-in_err-again
afresh-returns-in_err-again g n c = record {
  told = search rules;
  grown = grown_then (grown_from c.level-below.ensures.found c.level-below.ensures.work c.level-below.ensures.made c.evaluate.ensures.grown)
      c.keep_again.ensures.grown;
}

pub afresh-returns-in-Some : goal.afresh-returns-in-Some
afresh-returns-in-Some g n c = record {
  told = subst (λ (o : Option ValueCode). HasRecalled c.args.basis.now.rules.now (contents c.args.basis.now.store.now) (known_by (g.K.Keeper.contents
      c.keep_again.new.keeper) c.keep_again.new.self.found.entries) c.args.level.now c.keep_again.new.level c.args.needed o) c.in-Some.is
      c.in_ok-again.ensures.recalled;
  grown = grown_then (grown_from c.level-below.ensures.found c.level-below.ensures.work c.level-below.ensures.made c.evaluate.ensures.grown)
      c.keep_again.ensures.grown;
}

pub afresh-returns-in_err-keep : goal.afresh-returns-in_err-keep
afresh-returns-in_err-keep g n c = record {
  told = search rules;
  grown = grown_then (grown_then (grown_from c.level-below.ensures.found c.level-below.ensures.work c.level-below.ensures.made c.evaluate.ensures.grown)
      c.keep_again.ensures.grown) c.keep.ensures.grown;
}

pub afresh-returns-in_err-push : goal.afresh-returns-in_err-push
afresh-returns-in_err-push g n c = record {
  told = search rules;
  grown = grown_then (grown_then (grown_from c.level-below.ensures.found c.level-below.ensures.work c.level-below.ensures.made c.evaluate.ensures.grown)
      c.keep_again.ensures.grown) c.keep.ensures.grown;
}

pub afresh-returns : goal.afresh-returns
afresh-returns g n c =
    let rules = c.args.basis.now.rules.now in
    let s = c.args.basis.now.store.now in
    let i = c.args.needed in
    let d = c.keep_again.new.self in
    let e = c.keep.new.self in
    let same : c.keep_again.new.level ≡ c.args.level.now = subst (λ (o : Option ValueCode). HasRecalled rules (contents s) (known_by (g.K.Keeper.contents
    c.keep_again.new.keeper) d.found.entries) c.args.level.now c.keep_again.new.level i o) c.in_default.is c.in_ok-again.ensures.recalled in
    record {
      told = subst (λ (l : Level). HasTold rules (contents s) (known_by (g.K.Keeper.contents c.keep.new.keeper) e.found.entries) l c.keep.new.level i
          (value_view c.in_ok-value.value)) same c.in_ok-keep.ensures.told;
      grown = grown_then (grown_then (grown_from c.level-below.ensures.found c.level-below.ensures.work c.level-below.ensures.made c.evaluate.ensures.grown)
          c.keep_again.ensures.grown) c.keep.ensures.grown;
    }

-- inner
pub inner-returns-then-is_small : goal.inner-returns-then-is_small
inner-returns-then-is_small g n c = record {
  told =
      let h = held_by g.K.Keeper.contents g.K.Keeper.memories c.evaluate.new.keeper c.evaluate.new.self in
      inner_told c.args.basis.now.rules.now c.args.basis.now.store.now h c.args.level.now
      c.evaluate.new.level c.args.needed (value_view c.in_ok-value.value) c.in_ok-value.ensures.come c.requires.lazy;
  grown = search rules;
}

pub inner-split_off-requires-clause-reads : goal.inner-split_off-requires-clause-reads
inner-split_off-requires-clause-reads g n c =
    let h = held_by g.K.Keeper.contents g.K.Keeper.memories c.evaluate.new.keeper c.evaluate.new.self in
    let longer = reads_longer c.args.basis.now.rules.now c.args.basis.now.store.now h c.args.level.now c.evaluate.new.level c.args.needed (value_view
    c.in_ok-value.value) c.in_ok-value.ensures.come in
    omega (arith, c.len-reads.ensures, longer)

pub inner-split_off-requires-clause-uses : goal.inner-split_off-requires-clause-uses
inner-split_off-requires-clause-uses g n c =
    let h = held_by g.K.Keeper.contents g.K.Keeper.memories c.evaluate.new.keeper c.evaluate.new.self in
    let longer = uses_longer c.args.basis.now.rules.now c.args.basis.now.store.now h c.args.level.now c.evaluate.new.level c.args.needed (value_view
    c.in_ok-value.value) c.in_ok-value.ensures.come in
    omega (arith, c.len-uses.ensures, longer)

pub inner-returns-in_err-remember : goal.inner-returns-in_err-remember
inner-returns-in_err-remember g n c = record { told = search rules; grown = grown_then c.evaluate.ensures.grown c.remember.ensures.grown }

pub inner-returns : goal.inner-returns
inner-returns g n c =
    let rules = c.args.basis.now.rules.now in
    let s = c.args.basis.now.store.now in
    let i = c.args.needed in
    let v = value_view c.in_ok-value.value in
    let old = c.args.level.now in
    let first = held_by g.K.Keeper.contents g.K.Keeper.memories c.evaluate.new.keeper c.evaluate.new.self in
    let last = held_by g.K.Keeper.contents g.K.Keeper.memories c.remember.new.keeper c.remember.new.self in
    let come = c.in_ok-value.ensures.come in
    let long : List (Location ℕ) = c.evaluate.new.level.reads in
    let many : List (Instance ℕ) = c.evaluate.new.level.uses.items in
    let reads : c.split_off.new.self.reads ≡ old.reads = c.in_ok-below.ensures.front.0 ∙ ap (λ k. take k long) c.len-reads.ensures ∙ reads_before rules s
    first old c.evaluate.new.level i v come in
    let count : c.len-uses.result ≡ length old.uses.items = omega (arith, c.len-uses.ensures, old.uses.ok.0) in
    let uses : c.split_off.new.self.uses.items ≡ old.uses.items = c.in_ok-below.ensures.front.1 ∙ ap (λ k. take k many) count ∙ uses_before rules s first old
    c.evaluate.new.level i v come in
    record {
      told = told_alike rules s last old c.split_off.new.self c.remember.new.level i v reads uses c.in_ok-remember.ensures.told;
      grown = grown_then c.evaluate.ensures.grown c.remember.ensures.grown;
    }

pub evaluate-returns-in_err-begun : goal.evaluate-returns-in_err-begun
evaluate-returns-in_err-begun g n c = record {
  come = search rules;
  unkept = search rules;
  grown = grown_evaluated _ _ c.args.basis.now.idle c.args.inst.now _ _ c.requires.own (nothing_gained _ _ _ _ c.args.self.now.few c.requires.held);
}

pub evaluate-returns : goal.evaluate-returns
evaluate-returns g n c =
    let rules = c.args.basis.now.rules.now in
    let s = c.args.basis.now.store.now in
    let i = c.args.inst.now in
    let old = held_by g.K.Keeper.contents g.K.Keeper.memories c.args.keeper.now c.args.self.now in
    let new = held_by g.K.Keeper.contents g.K.Keeper.memories c.operand.new.keeper c.operand.new.self in
    let run = ev rules.classes (body_view c.in_ok-begun.begun.1.now) (place_at c.in_ok-begun.begun.0) in
    let gained : HasGained rules s (equations rules i) old new = gains_begun rules s old new c.args.level.now.reads c.begin.new.reads (equations rules i) run
    c.in_ok-begun.ensures c.operand.ensures.gains in
    let come : IfOk c.operand.result (λ v. HasCome rules (contents s) new c.args.level.now c.operand.new.level (equations rules i) (value_view v)) =
    IfOk-weaker c.operand.result _ _ (λ v h. come_begun rules s new c.args.level.now (record { reads = c.begin.new.reads; uses = c.args.level.now.uses })
    c.operand.new.level (equations rules i) run (value_view v) refl c.in_ok-begun.ensures h) c.operand.ensures.come in
    record {
      come = come;
      unkept = unkept_result rules s c.operand.result i old new c.args.level.now c.operand.new.level c.requires.own gained come;
      grown = grown_evaluated rules s c.args.basis.now.idle i old new c.requires.own gained;
    }

pub operand-returns-in_err-at_once : goal.operand-returns-in_err-at_once
operand-returns-in_err-at_once g n c = record { come = search rules; gains = nothing_gained _ _ _ _ c.args.self.now.few c.requires }

pub operand-returns-in-Some : goal.operand-returns-in-Some
operand-returns-in-Some g n c = at_once_some _ _ _ _ _ c.value_at_once.new.reads _ c.in-Some.value c.args.self.now.few c.requires c.in_ok-at_once.ensures
    c.in-Some.is

pub operand-returns-in-None : goal.operand-returns-in-None
operand-returns-in-None g n c = at_once_none _ _ _ _ _ _ c.value_at_once.new.reads _ c.in_ok-at_once.ensures c.in-None.is c.value.new.level c.value.result
    c.value.ensures

pub one-returns-in_err-value : goal.one-returns-in_err-value
one-returns-in_err-value g n c = record {
  come = search rules;
  gains = one_gains _ _ (place_at c.args.here.now) c.args.unary c.args.operand.now _ _ c.operand.ensures.gains;
}

pub one-returns : goal.one-returns
one-returns g n c = record {
  come = one_come _ _ (place_at c.args.here.now) c.args.unary c.args.operand.now c.in_ok-value.value c.with_one.result _ _ _ _ _ refl c.operand.ensures.gains
      c.in_ok-value.ensures.come c.with_one.ensures;
  gains = one_gains _ _ (place_at c.args.here.now) c.args.unary c.args.operand.now _ _ c.operand.ensures.gains;
}

pub two-returns-in_err-first : goal.two-returns-in_err-first
two-returns-in_err-first g n c = record {
  come = search rules;
  gains = two_gains_first _ _ (place_at c.args.here.now) c.args.binary c.args.left.now c.args.right.now _ _ c.operand.ensures.gains;
}

pub two-returns-in_err-second : goal.two-returns-in_err-second
two-returns-in_err-second g n c = record {
  come = search rules;
  gains = two_gains _ _ (place_at c.args.here.now) c.args.binary c.args.left.now c.args.right.now c.in_ok-first.first _ _ _ _ _ c.operand.ensures.gains
      c.in_ok-first.ensures.come c.operand-2.ensures.gains;
}

pub two-returns : goal.two-returns
two-returns g n c = record {
  come = two_come _ _ (place_at c.args.here.now) c.args.binary c.args.left.now c.args.right.now c.in_ok-first.first c.in_ok-second.second c.with_two.result _
      _ _ _ _ _ _ refl c.operand.ensures.gains c.in_ok-first.ensures.come c.operand-2.ensures.gains c.in_ok-second.ensures.come c.with_two.ensures;
  gains = two_gains _ _ (place_at c.args.here.now) c.args.binary c.args.left.now c.args.right.now c.in_ok-first.first _ _ _ _ _ c.operand.ensures.gains
      c.in_ok-first.ensures.come c.operand-2.ensures.gains;
}

pub compared-returns-in_err-at_once : goal.compared-returns-in_err-at_once
compared-returns-in_err-at_once g n c = record { come = search rules; gains = nothing_gained _ _ _ _ c.args.self.now.few c.requires.held }

pub compared-returns-in-Some : goal.compared-returns-in-Some
compared-returns-in-Some g n c = at_once_some _ _ _ _ _ c.compare.new.reads _ c.in-Some.value c.args.self.now.few c.requires.held (c.in_ok-at_once.ensures
    c.args.basis.now.rules.now.classes) c.in-Some.is

pub compared-returns-in-None : goal.compared-returns-in-None
compared-returns-in-None g n c = at_once_none _ _ _ _ _ _ c.compare.new.reads _ (c.in_ok-at_once.ensures c.args.basis.now.rules.now.classes) c.in-None.is
    c.in_turn.new.level c.in_turn.result c.in_turn.ensures

pub in_turn-returns-in-Some : goal.in_turn-returns-in-Some
in_turn-returns-in-Some g n c = subst (λ (r : Run ℕ (Value ℕ)). EvaluatesTo c.args.basis.now.rules.now c.args.basis.now.store.now (ev
    c.args.basis.now.rules.now.classes (body_view c.args.left.now) (place_at c.args.here.now) >>= λ v. r >>= with_two c.args.comparison v) value_view (held_by
    g.K.Keeper.contents g.K.Keeper.memories c.args.keeper.now c.args.self.now) (held_by g.K.Keeper.contents g.K.Keeper.memories c.beside.new.keeper
    c.beside.new.self) c.args.level.now c.beside.new.level c.beside.result) (sym (c.in-Some.ensures c.args.basis.now.rules.now.classes)) c.beside.ensures

pub beside-returns-in_err-value : goal.beside-returns-in_err-value
beside-returns-in_err-value g n c = record {
  come = search rules;
  gains = beside_gains _ _ (place_at c.args.here.now) c.args.comparison c.args.text.now c.args.left.now _ _ c.operand.ensures.gains;
}

pub beside-returns : goal.beside-returns
beside-returns g n c = record {
  come = beside_come _ _ (place_at c.args.here.now) c.args.comparison c.args.text.now c.args.left.now c.in_ok-value.value c.compare_with.result _ _ _ _
      c.operand.ensures.gains c.in_ok-value.ensures.come c.compare_with.ensures;
  gains = beside_gains _ _ (place_at c.args.here.now) c.args.comparison c.args.text.now c.args.left.now _ _ c.operand.ensures.gains;
}

pub either-returns-in_err-value : goal.either-returns-in_err-value
either-returns-in_err-value g n c = record {
  come = search rules;
  gains = either_gains_test _ _ (place_at c.args.here.now) c.args.test.now c.args.yes c.args.no _ _ c.value.ensures.gains;
}

pub either-returns-in_err-holds : goal.either-returns-in_err-holds
either-returns-in_err-holds g n c = record {
  come = search rules;
  gains = either_gains_test _ _ (place_at c.args.here.now) c.args.test.now c.args.yes c.args.no _ _ c.value.ensures.gains;
}

pub either-returns-in-Some : goal.either-returns-in-Some
either-returns-in-Some g n c = either_ends _ _ (place_at c.args.here.now) c.args.test.now c.args.yes c.args.no c.in_ok-value.value c.in_ok-holds.holds (ev
    c.args.basis.now.rules.now.classes (body_view c.in-Some.body.now) (place_at c.args.here.now)) _ _ _ _ _ c.in_ok-holds.ensures (ap (λ o. or_truth
    c.args.basis.now.rules.now.classes (place_at c.args.here.now) o c.in_ok-holds.holds) (sym c.in-Some.is) ∙ c.chosen.ensures
    c.args.basis.now.rules.now.classes (place_at c.args.here.now)) c.value.ensures.gains c.in_ok-value.ensures.come c.operand.ensures.gains c.operand.result
    c.operand.new.level c.operand.ensures.come

pub either-returns : goal.either-returns
either-returns g n c = either_ends _ _ (place_at c.args.here.now) c.args.test.now c.args.yes c.args.no c.in_ok-value.value c.in_ok-holds.holds (Gives (Truth
    c.in_ok-holds.holds)) _ _ _ _ _ c.in_ok-holds.ensures (ap (λ o. or_truth c.args.basis.now.rules.now.classes (place_at c.args.here.now) o
    c.in_ok-holds.holds) (sym c.in-None.is) ∙ c.chosen.ensures c.args.basis.now.rules.now.classes (place_at c.args.here.now)) c.value.ensures.gains
    c.in_ok-value.ensures.come (nothing_gained c.args.basis.now.rules.now c.args.basis.now.store.now (Gives (Truth c.in_ok-holds.holds)) _
    c.value.new.self.few c.value.ensures.gains.right) (Ok (value.Bool c.in_ok-holds.holds)) c.value.new.level (come_gives c.args.basis.now.rules.now
    c.args.basis.now.store.now _ c.value.new.level (Gives (Truth c.in_ok-holds.holds)) (Truth c.in_ok-holds.holds) refl)

pub call-returns-in_err-value : goal.call-returns-in_err-value
call-returns-in_err-value g n c = record {
  come = search rules;
  gains = call_gains_first _ _ (place_at c.args.here.now) c.args.receiver.now c.args.attribute c.args.passed.now _ _ c.operand.ensures.gains;
}

pub call-returns-in_err-arguments : goal.call-returns-in_err-arguments
call-returns-in_err-arguments g n c = record {
  come = search rules;
  gains = call_gains_second _ _ (place_at c.args.here.now) c.args.receiver.now c.args.attribute c.args.passed.now c.in_ok-value.value _ _ (held_by
      g.K.Keeper.contents g.K.Keeper.memories c.passed.new.keeper c.passed.new.self) _ _ c.operand.ensures.gains c.in_ok-value.ensures.come
      c.passed.ensures.gains;
}

pub call-returns-in_err-node : goal.call-returns-in_err-node
call-returns-in_err-node g n c = record {
  come = search rules;
  gains = call_gains_second _ _ (place_at c.args.here.now) c.args.receiver.now c.args.attribute c.args.passed.now c.in_ok-value.value _ _ (held_by
      g.K.Keeper.contents g.K.Keeper.memories c.passed.new.keeper c.passed.new.self) _ _ c.operand.ensures.gains c.in_ok-value.ensures.come
      c.passed.ensures.gains;
}

pub call-returns : goal.call-returns
call-returns g n c = call_ends _ _ (place_at c.args.here.now) c.args.receiver.now c.args.attribute c.args.passed.now c.in_ok-value.value _ _ (held_by
    g.K.Keeper.contents g.K.Keeper.memories c.passed.new.keeper c.passed.new.self) _ _ c.operand.ensures.gains c.in_ok-value.ensures.come
    c.passed.ensures.gains c.in_ok-node.node c.in_ok-arguments.arguments (held_by g.K.Keeper.contents g.K.Keeper.memories c.told.new.keeper c.told.new.self)
    c.passed.new.level c.in_ok-node.ensures c.in_ok-arguments.ensures.come _ c.new.ensures c.told.result c.told.new.level c.told.ensures

pub over-returns-in_err-value : goal.over-returns-in_err-value
over-returns-in_err-value g n c = record {
  come = search rules;
  gains = fold_gains_first _ _ (place_at c.args.here.now) c.args.fold c.args.of.now c.args.part c.args.body.now _ _ c.operand.ensures.gains;
}

pub over-returns-in_err-node : goal.over-returns-in_err-node
over-returns-in_err-node g n c = record {
  come = search rules;
  gains = fold_gains_first _ _ (place_at c.args.here.now) c.args.fold c.args.of.now c.args.part c.args.body.now _ _ c.operand.ensures.gains;
}

pub over-returns-in_err-push : goal.over-returns-in_err-push
over-returns-in_err-push g n c = record {
  come = search rules;
  gains = fold_gains_first _ _ (place_at c.args.here.now) c.args.fold c.args.of.now c.args.part c.args.body.now _ _ c.operand.ensures.gains;
}

pub over-returns : goal.over-returns
over-returns g n c = fold_ends _ _ (place_at c.args.here.now) c.args.fold c.args.of.now c.args.part c.args.body.now
    c.in_ok-value.value c.in_ok-node.node c.children.result.now _ _ _ _ _
    (record { reads = c.push.new.self; uses = c.operand.new.level.uses }) c.in_ok-node.ensures c.children.ensures.shown
    c.in_ok-push.ensures.gained c.operand.ensures.gains c.in_ok-value.ensures.come c.each.ensures.gains c.each.result
    c.each.new.level refl c.each.ensures.come

pub passed-returns-then-hands_on : goal.passed-returns-then-hands_on
passed-returns-then-hands_on g n c = record {
  come = IfOk-weaker c.handed_on.result _ _ (λ a h. come_gives c.args.basis.now.rules.now c.args.basis.now.store.now (held_by g.K.Keeper.contents
      g.K.Keeper.memories c.args.keeper.now c.args.self.now) c.args.level.now (ev_all c.args.basis.now.rules.now.classes (bodies_view c.args.passed.now)
      (place_at c.args.here.now)) (map value_view a) (c.hands_on.ensures c.if-hands_on.true c.args.basis.now.rules.now.classes ∙ ap (λ (vs : List ValueCode).
      Gives (map value_view vs)) (sym h))) c.handed_on.ensures;
  gains = nothing_gained _ _ _ _ c.args.self.now.few c.requires;
}

pub passed-loop-argument-init : goal.passed-loop-argument-init
passed-loop-argument-init g n c = starts _ _ _ c.args.level.now _ (λ vs. map value_view c.new-values.result.items ++ vs) (λ vs. ap (λ (us : List ValueCode).
    map value_view us ++ vs) c.new-values.ensures.items) c.requires

pub passed-returns-in_err-value : goal.passed-returns-in_err-value
passed-returns-in_err-value g n c = record {
  come = no_ok c.from_residual.result _ _ c.from_residual.ensures.1;
  gains = passed_gains _ _ (place_at c.args.here.now) _ _ _ _ _ _ c.value.new.level c.in-Some.argument.now c.in-Some.others.now c.loop-argument.rest.now
      c.in-Some.ensures.cases.0 c.loop-argument.values.items c.loop-argument.invariant c.value.ensures.gains;
}

pub passed-returns-in_err-push : goal.passed-returns-in_err-push
passed-returns-in_err-push g n c = record {
  come = search rules;
  gains = passed_gains _ _ (place_at c.args.here.now) _ _ _ _ _ _ c.value.new.level c.in-Some.argument.now c.in-Some.others.now c.loop-argument.rest.now
      c.in-Some.ensures.cases.0 c.loop-argument.values.items c.loop-argument.invariant c.value.ensures.gains;
}

pub passed-loop-argument-preserved : goal.passed-loop-argument-preserved
passed-loop-argument-preserved g n c = passed_on _ _ (place_at c.args.here.now) _ _ _ _ _ _ c.value.new.level c.in-Some.argument.now _ _
    c.in-Some.ensures.cases.0 c.loop-argument.values.items c.loop-argument.invariant c.value.ensures.gains c.in_ok-value.value c.push.new.self.items
    c.in_ok-push.ensures.items c.in_ok-value.ensures.come

pub passed-returns-in_err-arguments : goal.passed-returns-in_err-arguments
passed-returns-in_err-arguments g n c = record {
  come = search rules;
  gains = gains_so_far _ _ _ _ _ _ _ _ _ c.loop-argument.self.few c.loop-argument.invariant;
}

pub passed-returns : goal.passed-returns
passed-returns g n c = record {
  come = subst (λ (vs : List ValueCode). HasCome c.args.basis.now.rules.now (contents c.args.basis.now.store.now) (held_by g.K.Keeper.contents
      g.K.Keeper.memories c.loop-argument.keeper c.loop-argument.self) c.args.level.now c.loop-argument.level (ev_all c.args.basis.now.rules.now.classes
      (bodies_view c.args.passed.now) (place_at c.args.here.now)) (map value_view vs)) (sym c.in_ok-arguments.ensures) (passed_all _ _ (place_at
      c.args.here.now) _ _ _ c.args.level.now c.loop-argument.level c.loop-argument.rest.now (nil_from_length _ c.in_default.ensures.cases)
      c.loop-argument.values.items c.loop-argument.invariant);
  gains = gains_so_far _ _ _ _ _ _ _ _ _ c.loop-argument.self.few c.loop-argument.invariant;
}

pub each-asked_inside-asked_here-requires : goal.each-asked_inside-asked_here-requires
each-asked_inside-asked_here-requires g n c = (
  bound_at (place_at c.loop-node.inside) (place_at c.args.here.now) c.in-Some.node.now c.push.new.self
      c.loop-node.invariant.place c.in_ok-push.ensures,
  c.inner_of_each-asked.ensures,
)

pub each-behind-requires : goal.each-behind-requires
each-behind-requires g n c = c.inner_of_each-asked.ensures

pub each-behind-requires-in-Some : goal.each-behind-requires-in-Some
each-behind-requires-in-Some g n c = c.inner_of_each-asked.ensures

pub each-returns-in_err-rest : goal.each-returns-in_err-rest
each-returns-in_err-rest g n c = record { come = search rules; gains = nothing_gained _ _ _ _ c.args.self.now.few c.requires }

pub each-returns-in_err-inside : goal.each-returns-in_err-inside
each-returns-in_err-inside g n c = record { come = search rules; gains = nothing_gained _ _ _ _ c.args.self.now.few c.requires }

pub each-loop-node-init : goal.each-loop-node-init
each-loop-node-init g n c =
    let rules = c.args.basis.now.rules.now in
    let s = c.args.basis.now.store.now in
    let p = place_at c.args.here.now in
    let whole = over rules.classes c.args.fold (body_view c.args.body.now) p c.args.nodes.now in
    record {
      place = c.in_ok-inside.ensures;
      goes = goes_past rules s p c.args.fold c.args.body.now whole _ _ c.args.level.now c.args.level.now c.behind.new.level c.args.nodes.now
          c.in_ok-rest.rest.now c.args.self.now.few c.in_ok-rest.ensures (starts rules s _ c.args.level.now whole (λ v. v) (λ v. refl) c.requires);
    }

pub each-returns-in_err-push : goal.each-returns-in_err-push
each-returns-in_err-push g n c = record { come = search rules; gains = gains_so_far _ _ _ _ _ _ _ _ _ c.loop-node.self.few c.loop-node.invariant.goes }

pub each-returns-in_err-value : goal.each-returns-in_err-value
each-returns-in_err-value g n c = record {
  come = search rules;
  gains = each_gains _ _ (place_at c.args.here.now) _ _ _ _ _ _ c.element.new.level c.loop-node.going c.args.body.now _ _ _ c.in-Some.ensures.cases.0 _
      (bound_at _ _ _ _ c.loop-node.invariant.place c.in_ok-push.ensures) c.loop-node.invariant.goes c.element.ensures.gains;
}

pub each-returns-in_err-next : goal.each-returns-in_err-next
each-returns-in_err-next g n c = record {
  come = search rules;
  gains = each_gains _ _ (place_at c.args.here.now) _ _ _ _ _ _ c.element.new.level c.loop-node.going c.args.body.now _ _ _ c.in-Some.ensures.cases.0 _
      (bound_at _ _ _ _ c.loop-node.invariant.place c.in_ok-push.ensures) c.loop-node.invariant.goes c.element.ensures.gains;
}

pub each-returns-in_err-rest-2 : goal.each-returns-in_err-rest-2
each-returns-in_err-rest-2 g n c = record {
  come = search rules;
  gains = each_gains _ _ (place_at c.args.here.now) _ _ _ _ _ _ c.element.new.level c.loop-node.going c.args.body.now _ _ _ c.in-Some.ensures.cases.0 _
      (bound_at _ _ _ _ c.loop-node.invariant.place c.in_ok-push.ensures) c.loop-node.invariant.goes c.element.ensures.gains;
}

pub each-returns-in-End : goal.each-returns-in-End
each-returns-in-End g n c = record {
  come = each_ends _ _ (place_at c.args.here.now) _ _ _ _ _ _ c.element.new.level c.loop-node.going c.args.body.now _ _ _ c.in-Some.ensures.cases.0 _
      (bound_at _ _ _ _ c.loop-node.invariant.place c.in_ok-push.ensures) c.loop-node.invariant.goes c.element.ensures.gains (value_view c.in_ok-value.value)
      c.in_ok-value.ensures.come (value_view c.in-End.value) (c.in_ok-next.ensures c.args.basis.now.rules.now.classes (body_view c.args.body.now) (place_at
      c.args.here.now) c.in-Some.others.now ∙ ap (next_of c.args.basis.now.rules.now.classes (body_view c.args.body.now) (place_at c.args.here.now)
      c.in-Some.others.now) c.in-End.is);
  gains = each_gains _ _ (place_at c.args.here.now) _ _ _ _ _ _ c.element.new.level c.loop-node.going c.args.body.now _ _ _ c.in-Some.ensures.cases.0 _
      (bound_at _ _ _ _ c.loop-node.invariant.place c.in_ok-push.ensures) c.loop-node.invariant.goes c.element.ensures.gains;
}

pub each-loop-node-preserved : goal.each-loop-node-preserved
each-loop-node-preserved g n c =
    let p = place_at c.args.here.now in
    record {
      place = unbound_at _ p _ _ _ c.loop-node.invariant.place c.in_ok-push.ensures c.pop.ensures.left;
      goes = goes_past _ _ p c.in-On.further c.args.body.now _ _ _ _ c.element.new.level c.behind-in-Some.new.level c.in-Some.others.now
          c.in_ok-rest-2.rest.now c.element.new.self.few c.in_ok-rest-2.ensures (each_on c.args.basis.now.rules.now c.args.basis.now.store.now p _ _ _ _ _ _
          c.element.new.level c.loop-node.going c.args.body.now _ _ _ c.in-Some.ensures.cases.0 _ (bound_at _ _ _ _ c.loop-node.invariant.place
          c.in_ok-push.ensures) c.loop-node.invariant.goes c.element.ensures.gains (value_view c.in_ok-value.value) c.in_ok-value.ensures.come c.in-On.further
          (c.in_ok-next.ensures c.args.basis.now.rules.now.classes (body_view c.args.body.now) p c.in-Some.others.now ∙ ap (next_of
          c.args.basis.now.rules.now.classes (body_view c.args.body.now) p c.in-Some.others.now) c.in-On.is));
    }

pub each-loop-node-preserved-in_ok-rest-2 : goal.each-loop-node-preserved-in_ok-rest-2
each-loop-node-preserved-in_ok-rest-2 g n c =
    let p = place_at c.args.here.now in
    record {
      place = unbound_at _ p _ _ _ c.loop-node.invariant.place c.in_ok-push.ensures c.pop.ensures.left;
      goes = goes_past _ _ p c.in-On.further c.args.body.now _ _ _ _ c.element.new.level c.behind-in-Some.new.level c.in-Some.others.now
          c.in_ok-rest-2.rest.now c.element.new.self.few c.in_ok-rest-2.ensures (each_on c.args.basis.now.rules.now c.args.basis.now.store.now p _ _ _ _ _ _
          c.element.new.level c.loop-node.going c.args.body.now _ _ _ c.in-Some.ensures.cases.0 _ (bound_at _ _ _ _ c.loop-node.invariant.place
          c.in_ok-push.ensures) c.loop-node.invariant.goes c.element.ensures.gains (value_view c.in_ok-value.value) c.in_ok-value.ensures.come c.in-On.further
          (c.in_ok-next.ensures c.args.basis.now.rules.now.classes (body_view c.args.body.now) p c.in-Some.others.now ∙ ap (next_of
          c.args.basis.now.rules.now.classes (body_view c.args.body.now) p c.in-Some.others.now) c.in-On.is));
    }

pub each-loop-node-smaller : goal.each-loop-node-smaller
each-loop-node-smaller g n c = less_left c.args.basis.now.rules.now (contents c.args.basis.now.store.now) (place_at c.args.here.now) c.in-On.further
    c.args.body.now c.element.new.level c.behind-in-Some.new.level c.in-Some.node.now c.loop-node.rest.now c.in-Some.others.now c.in_ok-rest-2.rest.now
    c.in-Some.ensures.cases.0 c.in_ok-rest-2.ensures

pub each-loop-node-smaller-in_ok-rest-2 : goal.each-loop-node-smaller-in_ok-rest-2
each-loop-node-smaller-in_ok-rest-2 g n c = less_left c.args.basis.now.rules.now (contents c.args.basis.now.store.now) (place_at c.args.here.now)
    c.in-On.further c.args.body.now c.element.new.level c.behind-in-Some.new.level c.in-Some.node.now c.loop-node.rest.now c.in-Some.others.now
    c.in_ok-rest-2.rest.now c.in-Some.ensures.cases.0 c.in_ok-rest-2.ensures

pub each-returns : goal.each-returns
each-returns g n c = record {
  come = each_all _ _ (place_at c.args.here.now) _ _ _ c.args.level.now c.loop-node.level c.loop-node.going c.args.body.now c.loop-node.rest.now
      (nil_from_length _ c.in_default.ensures.cases) (value_view c.come_to.result) (c.come_to.ensures c.args.basis.now.rules.now.classes (body_view
      c.args.body.now) (place_at c.args.here.now)) c.loop-node.invariant.goes;
  gains = gains_so_far _ _ _ _ _ _ _ _ _ c.loop-node.self.few c.loop-node.invariant.goes;
}

pub under-returns-in_err-value : goal.under-returns-in_err-value
under-returns-in_err-value g n c = record {
  come = search rules;
  gains = search_gains_first _ _ (place_at c.args.here.now) c.args.fold c.args.lookup.now c.args.body.now c.args.of.now _ _ c.operand.ensures.gains;
}

pub under-returns-in_err-node : goal.under-returns-in_err-node
under-returns-in_err-node g n c = record {
  come = search rules;
  gains = search_gains_first _ _ (place_at c.args.here.now) c.args.fold c.args.lookup.now c.args.body.now c.args.of.now _ _ c.operand.ensures.gains;
}

pub under-returns-in_err-push : goal.under-returns-in_err-push
under-returns-in_err-push g n c = record {
  come = search rules;
  gains = search_gains_first _ _ (place_at c.args.here.now) c.args.fold c.args.lookup.now c.args.body.now c.args.of.now _ _ c.operand.ensures.gains;
}

pub under-returns : goal.under-returns
under-returns g n c = search_ends _ _ (place_at c.args.here.now) c.args.fold c.args.lookup.now c.args.body.now c.args.of.now c.in_ok-value.value
    c.in_ok-node.node c.mark_at-mark.result c.children.result.now _ _ _ _ _ (record { reads = c.push.new.self; uses = c.operand.new.level.uses })
    c.args.basis.now.idle c.in_ok-node.ensures c.as_slice.result.now c.as_slice.ensures c.mark_at-mark.ensures c.children.ensures.shown
    (c.in_ok-push.ensures.gained ∙ ap (λ (l : Location ℕ). c.operand.new.level.reads ++ l ∷ []) c.drawer.ensures)
    c.operand.ensures.gains c.in_ok-value.ensures.come c.each_under.ensures.gains c.each_under.result c.each_under.new.level refl c.each_under.ensures.come

pub each_under-asked_inside-asked_here-requires : goal.each_under-asked_inside-asked_here-requires
each_under-asked_inside-asked_here-requires g n c = (
  bound_at (place_at c.loop-found.inside) (place_at c.args.here.now) c.in-Some.found.0 c.push.new.self c.loop-found.invariant.place c.in_ok-push.ensures,
  c.inner_of_each-asked.ensures,
)

pub each_under-returns-in_err-inside : goal.each_under-returns-in_err-inside
each_under-returns-in_err-inside g n c = record { come = search rules; gains = nothing_gained _ _ _ _ c.args.self.now.few c.requires }

pub each_under-loop-found-init : goal.each_under-loop-found-init
each_under-loop-found-init g n c = record { place = c.in_ok-inside.ensures; goes = starts _ _ _ c.args.level.now _ (λ v. v) (λ v. refl) c.requires }

pub each_under-returns-in_err-push : goal.each_under-returns-in_err-push
each_under-returns-in_err-push g n c = record { come = search rules; gains = gains_so_far _ _ _ _ _ _ _ _ _ c.loop-found.self.few c.loop-found.invariant.goes }

pub each_under-returns-in_err-value : goal.each_under-returns-in_err-value
each_under-returns-in_err-value g n c = record {
  come = search rules;
  gains = each_gains _ _ (place_at c.args.here.now) _ _ _ _ _ _ c.element.new.level c.loop-found.going c.args.body.now _ _ _ c.in-Some.ensures.found _
      (bound_at _ _ _ _ c.loop-found.invariant.place c.in_ok-push.ensures) c.loop-found.invariant.goes c.element.ensures.gains;
}

pub each_under-returns-in_err-next : goal.each_under-returns-in_err-next
each_under-returns-in_err-next g n c = record {
  come = search rules;
  gains = each_gains _ _ (place_at c.args.here.now) _ _ _ _ _ _ c.element.new.level c.loop-found.going c.args.body.now _ _ _ c.in-Some.ensures.found _
      (bound_at _ _ _ _ c.loop-found.invariant.place c.in_ok-push.ensures) c.loop-found.invariant.goes c.element.ensures.gains;
}

pub each_under-returns-in-End : goal.each_under-returns-in-End
each_under-returns-in-End g n c =
    let rules = c.args.basis.now.rules.now in
    let p = place_at c.args.here.now in
    let ns = those (is_in_drawer (contents c.args.basis.now.store.now) (key_view c.args.key) c.args.mark) c.in-Some.found.1.now in
    record {
      come = each_ends _ _ p _ _ _ _ _ _ c.element.new.level c.loop-found.going c.args.body.now _ _ _ c.in-Some.ensures.found _
          (bound_at _ _ _ _ c.loop-found.invariant.place c.in_ok-push.ensures) c.loop-found.invariant.goes c.element.ensures.gains
          (value_view c.in_ok-value.value) c.in_ok-value.ensures.come (value_view c.in-End.value)
          (c.in_ok-next.ensures rules.classes (body_view c.args.body.now) p ns ∙ ap (next_of rules.classes (body_view c.args.body.now) p ns) c.in-End.is);
      gains = each_gains _ _ p _ _ _ _ _ _ c.element.new.level c.loop-found.going c.args.body.now _ _ _ c.in-Some.ensures.found _
          (bound_at _ _ _ _ c.loop-found.invariant.place c.in_ok-push.ensures) c.loop-found.invariant.goes c.element.ensures.gains;
    }

pub each_under-loop-found-preserved : goal.each_under-loop-found-preserved
each_under-loop-found-preserved g n c =
    let rules = c.args.basis.now.rules.now in
    let p = place_at c.args.here.now in
    let ns = those (is_in_drawer (contents c.args.basis.now.store.now) (key_view c.args.key) c.args.mark) c.in-Some.found.1.now in
    record {
      place = unbound_at _ p _ _ _ c.loop-found.invariant.place c.in_ok-push.ensures c.pop.ensures.left;
      goes = each_on rules c.args.basis.now.store.now p _ _ _ _ _ _ c.element.new.level c.loop-found.going c.args.body.now _ _ _ c.in-Some.ensures.found _
          (bound_at _ _ _ _ c.loop-found.invariant.place c.in_ok-push.ensures) c.loop-found.invariant.goes c.element.ensures.gains
          (value_view c.in_ok-value.value) c.in_ok-value.ensures.come c.in-On.further
          (c.in_ok-next.ensures rules.classes (body_view c.args.body.now) p ns ∙ ap (next_of rules.classes (body_view c.args.body.now) p ns) c.in-On.is);
    }

pub each_under-loop-found-preserved-in-On : goal.each_under-loop-found-preserved-in-On
each_under-loop-found-preserved-in-On g n c =
    let rules = c.args.basis.now.rules.now in
    let p = place_at c.args.here.now in
    let ns = those (is_in_drawer (contents c.args.basis.now.store.now) (key_view c.args.key) c.args.mark) c.in-Some.found.1.now in
    record {
      place = unbound_at _ p _ _ _ c.loop-found.invariant.place c.in_ok-push.ensures c.pop.ensures.left;
      goes = each_on rules c.args.basis.now.store.now p _ _ _ _ _ _ c.element.new.level c.loop-found.going c.args.body.now _ _ _ c.in-Some.ensures.found _
          (bound_at _ _ _ _ c.loop-found.invariant.place c.in_ok-push.ensures) c.loop-found.invariant.goes c.element.ensures.gains
          (value_view c.in_ok-value.value) c.in_ok-value.ensures.come c.in-On.further
          (c.in_ok-next.ensures rules.classes (body_view c.args.body.now) p ns ∙ ap (next_of rules.classes (body_view c.args.body.now) p ns) c.in-On.is);
    }

pub each_under-returns : goal.each_under-returns
each_under-returns g n c = record {
  come = each_all _ _ (place_at c.args.here.now) _ _ _ c.args.level.now c.loop-found.level c.loop-found.going c.args.body.now _ c.in_default.ensures.none
      (value_view c.come_to.result) (c.come_to.ensures c.args.basis.now.rules.now.classes (body_view c.args.body.now) (place_at c.args.here.now))
      c.loop-found.invariant.goes;
  gains = gains_so_far _ _ _ _ _ _ _ _ _ c.loop-found.self.few c.loop-found.invariant.goes;
}

pub value-returns-in-Under : goal.value-returns-in-Under
value-returns-in-Under g n c = rw (c.form_of.ensures.means c.args.basis.now.rules.now.classes (place_at c.args.here.now), c.in-Under.is) c.under.ensures

-- element
pub element-plain_element-requires : goal.element-plain_element-requires
element-plain_element-requires g n c = c.requires.0

pub element-returns-in_err-at_once : goal.element-returns-in_err-at_once
element-returns-in_err-at_once g n c = record { come = search rules; gains = nothing_gained _ _ _ _ c.args.self.now.few c.requires.1 }

pub element-returns-in-Some : goal.element-returns-in-Some
element-returns-in-Some g n c = record {
  come = subst (λ o. MayHaveCome c.args.basis.now.rules.now (contents c.args.basis.now.store.now) c.args.level.now c.plain_element.new.level (ev
      c.args.basis.now.rules.now.classes (body_view c.args.body.now) (place_at c.args.inside.now)) o) c.in-Some.is c.in_ok-at_once.ensures (held_by
      g.K.Keeper.contents g.K.Keeper.memories c.args.keeper.now c.args.self.now);
  gains = nothing_gained _ _ _ _ c.args.self.now.few c.requires.1;
}

pub element-returns-in-None : goal.element-returns-in-None
element-returns-in-None g n c =
    let rules = c.args.basis.now.rules.now in
    let s = c.args.basis.now.store.now in
    let run = ev rules.classes (body_view c.args.body.now) (place_at c.args.inside.now) in
    let old = held_by g.K.Keeper.contents g.K.Keeper.memories c.args.keeper.now c.args.self.now in
    let new = held_by g.K.Keeper.contents g.K.Keeper.memories c.value.new.keeper c.value.new.self in
    let same : c.plain_element.new.level ≡ c.args.level.now = subst (λ o. MayHaveCome rules (contents s) c.args.level.now c.plain_element.new.level run o)
    c.in-None.is c.in_ok-at_once.ensures in
    subst (λ (l : Level). EvaluatesTo rules s run value_view old new l c.value.new.level c.value.result)
    same c.value.ensures

pub value-returns-then-above-eq0 : goal.value-returns-then-above-eq0
value-returns-then-above-eq0 g n c = record { come = search rules; gains = nothing_gained _ _ _ _ c.args.self.now.few c.requires }

pub value-returns-in-One : goal.value-returns-in-One
value-returns-in-One g n c = rw (c.form_of.ensures.means c.args.basis.now.rules.now.classes (place_at c.args.here.now), c.in-One.is) c.one.ensures

pub value-returns-in-Two : goal.value-returns-in-Two
value-returns-in-Two g n c = rw (c.form_of.ensures.means c.args.basis.now.rules.now.classes (place_at c.args.here.now), c.in-Two.is) c.two.ensures

pub value-returns-in-Compared : goal.value-returns-in-Compared
value-returns-in-Compared g n c = rw (c.form_of.ensures.means c.args.basis.now.rules.now.classes (place_at c.args.here.now), c.in-Compared.is)
    c.compared.ensures

pub value-returns-in-Either : goal.value-returns-in-Either
value-returns-in-Either g n c = rw (c.form_of.ensures.means c.args.basis.now.rules.now.classes (place_at c.args.here.now), c.in-Either.is) c.either.ensures

pub value-returns-in-Call : goal.value-returns-in-Call
value-returns-in-Call g n c = rw (c.form_of.ensures.means c.args.basis.now.rules.now.classes (place_at c.args.here.now), c.in-Call.is) c.call.ensures

pub value-returns-in-Over : goal.value-returns-in-Over
value-returns-in-Over g n c = rw (c.form_of.ensures.means c.args.basis.now.rules.now.classes (place_at c.args.here.now), c.in-Over.is) c.over.ensures

pub value-returns-in-Plain : goal.value-returns-in-Plain
value-returns-in-Plain g n c = record {
  come = IfOk-weaker c.value.result _ _ (λ v h. come_looked c.args.basis.now.rules.now c.args.basis.now.store.now (held_by g.K.Keeper.contents
      g.K.Keeper.memories c.args.keeper.now c.args.self.now) c.args.level.now (record { reads = c.value.new.reads; uses = c.args.level.now.uses }) (ev
      c.args.basis.now.rules.now.classes (body_view c.args.body.now) (place_at c.args.here.now)) (value_view v) refl h) (c.value.ensures
      c.args.basis.now.rules.now.classes);
  gains = nothing_gained _ _ _ _ c.args.self.now.few c.requires;
}

pub told-returns-in_err-recalled : goal.told-returns-in_err-recalled
told-returns-in_err-recalled g n c = record { told = search rules; grown = grown_none _ _ c.args.needed _ c.args.self.now.few c.requires }

pub told-returns-in-Some : goal.told-returns-in-Some
told-returns-in-Some g n c = record { told = search rules; grown = grown_none _ _ c.args.needed _ c.args.self.now.few c.requires }
