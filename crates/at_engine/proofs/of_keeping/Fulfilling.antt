-- The exits of commands: a refusal, an obstacle, want of memory, an edit, and what neither edits nor asks.
use Rattle.std.proofs.Common.{◌≡◌, Result, Ok, Err, IfOk, OnErr, refl, sym, subst}
use Rattle.at_model.specs.Machine.{Verdict}
use Rattle.at_protocol.specs.declared.reply.Form.{Form}
use Rattle.at_protocol.specs.declared.reply.Form.TheVariants as form
use Rattle.at_protocol.specs.declared.reply.Refusal.{Refusal}
use Rattle.at_store.specs.Shown.{numbers, tree}
use Rattle.at_cache.specs.Kept.{Entries}
use Rattle.at_cache.specs.Traced.{Memories}
use Rattle.at_engine.specs.Commanding.{Continues, Fulfils}
use Rattle.at_engine.specs.Engines.{rules_of, state_of, IsHeld}
use Rattle.at_engine.specs.Following.{Follows}
use Rattle.at_engine.specs.Keeping.{IsSpare}
use Rattle.at_engine.specs.Telling.{IsToldOf}
use Rattle.at_engine.specs.declared.engine.Engine.{Engine}
use Rattle.at_engine.specs.declared.engine.editing.Obstacle.{Obstacle}
use Rattle.at_engine.proofs.Storing.{on_err}
use Rattle.at_engine.proofs.of_keeping.GoneOn.{went_same}
use Rattle.at_engine.proofs.of_keeping.KeepingLemmas.{IsQuiet, any_obstacle_quiet, failed_spares, quiet_spares, refused_quiet, stays_spare}

-- where all is as it was
module _ {K : Type 0} (entries : K → Entries) (memories : K → Memories)
    (e : Engine K) (held : IsHeld entries memories e) (v : Verdict) where
  pub stays_quiet : {E : Type 0} (result : Result Form E) → IfOk result (λ _. IsQuiet v) → IfOk result (λ f. Follows (rules_of e) (state_of e) v f (state_of e)) → Fulfils entries memories e v result e
  stays_quiet result quiet follows = record {
    obeys = follows;
    err = on_err result _ refl;
    spares = λ spare. stays_spare entries e v spare result quiet;
    stays = record { rules = refl; settings = refl; sound = held; known = λ k. k };
    went = went_same entries memories _ e e refl;
  }

  pub refused_so : {E : Type 0} (r : Refusal) → Follows (rules_of e) (state_of e) v (form.Refused r) (state_of e) → Fulfils {E = E} entries memories e v (Ok (form.Refused r)) e
  refused_so r follows = stays_quiet (Ok (form.Refused r)) (refused_quiet (rules_of e) (state_of e) (state_of e) v r follows) follows

  pub hindered : {E : Type 0} (o : Obstacle) (result : Result Form E) → IfOk result (IsToldOf o) → IfOk result (λ f. Follows (rules_of e) (state_of e) v f (state_of e)) → Fulfils entries memories e v result e
  hindered o result told follows = stays_quiet result (any_obstacle_quiet (rules_of e) (state_of e) (state_of e) v o result told follows) follows

  pub failed_so : {E : Type 0} (result : Result Form E) (x : E) → result ≡ Err x → Fulfils entries memories e v result e
  failed_so {E} result x is =
      let all : Fulfils {E = E} entries memories e v (Err x) e = record {
        obeys = tt;
        err = refl;
        spares = λ spare. failed_spares entries e v spare;
        stays = record { rules = refl; settings = refl; sound = held; known = λ k. k };
        went = went_same entries memories _ e e refl;
      } in
      subst (λ (r : Result Form E). Fulfils entries memories e v r e) (sym is) all

-- where the store, the rules and what is kept are as they were
pub quiet_so : {K E : Type 0} (entries : K → Entries) (memories : K → Memories) (old new : Engine K) (v : Verdict) (result : Result Form E) → numbers new.store ≡ numbers old.store → tree new.store ≡ tree old.store → new.demand ≡ old.demand → Continues entries memories old new
    → IfOk result (λ _. IsQuiet v) → IfOk result (λ f. Follows (rules_of old) (state_of old) v f (state_of new)) → OnErr result (state_of new ≡ state_of old) → (IsSpare entries old → IsSpare entries new) → Fulfils entries memories old v result new
quiet_so entries memories old new v result same_numbers same_tree same_demand stays quiet follows err spare = record {
  obeys = follows;
  err = err;
  spares = λ was. quiet_spares entries old new same_numbers same_tree stays.rules same_demand result v quiet (spare was);
  stays = stays;
  went = went_same entries memories _ old new same_demand;
}

-- the verdict comes to another one
pub turned_so : {K E : Type 0} (entries : K → Entries) (memories : K → Memories) (old new : Engine K) (v w : Verdict) (result : Result Form E) → v ≡ w → Fulfils entries memories old w result new → Fulfils entries memories old v result new
turned_so entries memories old new v w result same fulfils = subst (λ (y : Verdict). Fulfils entries memories old y result new) (sym same) fulfils
