use Rattle.std.proofs.Common.{ℕ, List, None, ap, refl, subst, rules}
use Rattle.std.specs.Prelude.{Contains}
use Rattle.at_model.specs.Run.{Instance}
use Rattle.at_store.specs.Shown.{contents}
use Rattle.at_body.specs.Values.{value_view}
use Rattle.at_evaluate.specs.Valued.{meaning}
use Rattle.at_evaluate.proofs.Counting.{counts_same}
use Rattle.at_cache.specs.Kept.{value_at}
use Rattle.at_evaluate.proofs.Entered.{none_entered, put_unvalued}
use Rattle.at_evaluate.proofs.of_nesting.Demanding.{demanded_same}
use Rattle.at_evaluate.proofs.of_nesting.Grown.{grown_entered, grown_none, put_alike}
use Rattle.at_evaluate.proofs.of_nesting.InnerGains.{gains_same, put_there, taken}
use Rattle.at_evaluate.proofs.of_traces.Justified.{stay_any, untraced_inner}
use Rattle.at_evaluate.proofs.of_traces.Putting.{traced_on}
use Rattle.at_evaluate.proofs.of_traces.Making.{unmade}
use Rattle.at_evaluate.proofs.direct.Direct.stand.Goals as goal

pub put-requires-clause-present : goal.put-requires-clause-present
put-requires-clause-present g c = λ u h.
    let entries = g.K.Keeper.contents c.args.keeper.now in
    let below = c.args.below.now in
    taken c.args.basis.now.rules.now c.args.basis.now.store.now c.args.needed.now entries entries
    c.args.self.now.found.entries (value_view c.args.value.now) below.reads below.uses.items c.requires.held.known
    c.requires.own c.requires.come u
    (subst (λ (xs : List (Instance ℕ)). Contains xs u) c.as_slice-uses.ensures.value h)

pub returns-then-stands : goal.returns-then-stands
returns-then-stands g c = record {
  stands = search rules;
  found = refl;
  grown = grown_none c.args.basis.now.rules.now c.args.basis.now.store.now c.args.needed.now _
      c.args.self.now.few c.requires.held;
}

pub returns-in_err-copy : goal.returns-in_err-copy
returns-in_err-copy g c = record {
  stands = search rules;
  found = refl;
  grown = grown_none c.args.basis.now.rules.now c.args.basis.now.store.now c.args.needed.now _
      c.args.self.now.few c.requires.held;
}

pub returns-in_err-put : goal.returns-in_err-put
returns-in_err-put g c = record {
  stands = search rules;
  found = refl;
  grown = record {
    gains =
        let old = g.K.Keeper.contents c.args.keeper.now in
        let new = g.K.Keeper.contents c.put.new.self in
        gains_same c.args.basis.now.rules.now c.args.basis.now.store.now c.args.needed.now old new
        c.args.self.now.found.entries c.args.self.now.work c.args.self.now.work c.in_err-put.ensures.err
        c.requires.held.known
        (counts_same old new c.args.self.now.work c.args.self.now.few c.in_err-put.ensures.err);
    demanded = demanded_same (contents c.args.basis.now.store.now) (meaning c.args.basis.now.rules.now) c.args.needed.now
        (g.K.Keeper.contents c.args.keeper.now) (g.K.Keeper.contents c.put.new.self) c.in_err-put.ensures.err;
    traces =
        let old = g.K.Keeper.memories c.args.keeper.now in
        let new = g.K.Keeper.memories c.put.new.self in
        traced_on c.args.basis.now.rules.now c.args.basis.now.store.now c.args.needed.now old new
        (stay_any _ _ _ _ old new c.put.ensures.traces) c.requires.held.justified;
    makes = unmade (g.K.Keeper.contents c.args.keeper.now) (g.K.Keeper.contents c.put.new.self)
        (g.K.Keeper.memories c.args.keeper.now) (g.K.Keeper.memories c.put.new.self) c.args.needed.now _ c.in_ok-copy.ensures (none_entered
        (g.K.Keeper.contents c.args.keeper.now c.args.needed.now) c.stands.result c.stands.ensures c.if-stands.false)
        c.put.ensures.spares (untraced_inner _ _ _ c.requires.held.justified c.args.needed.now c.requires.lazy)
        (λ j. ap value_at (c.in_err-put.ensures.err j)) c.in_err-put.ensures.fails c.args.self.now.made;
  };
}

pub returns : goal.returns
returns g c =
    let old = g.K.Keeper.contents c.args.keeper.now in
    let new = g.K.Keeper.contents c.put.new.self in
    let i = c.args.needed.now in
    let below = c.args.below.now in
    let puts = put_alike old new None c.in_ok-copy.ensures c.as_slice-reads.ensures
    c.as_slice-uses.ensures.value c.in_ok-put.ensures.puts in
    record {
      stands = put_there old new i None below.reads below.uses.items puts;
      found = refl;
      grown = grown_entered c.args.basis.now.rules.now c.args.basis.now.store.now c.args.self.now.few c.requires
          (none_entered (old i) c.stands.result c.stands.ensures c.if-stands.false)
          (stay_any _ _ _ _ (g.K.Keeper.memories c.args.keeper.now) (g.K.Keeper.memories c.put.new.self)
          c.put.ensures.traces) (unmade (g.K.Keeper.contents c.args.keeper.now) (g.K.Keeper.contents c.put.new.self)
          (g.K.Keeper.memories c.args.keeper.now) (g.K.Keeper.memories c.put.new.self) i _ c.in_ok-copy.ensures (none_entered (old i) c.stands.result c.stands.ensures
          c.if-stands.false) c.put.ensures.spares (untraced_inner _ _ _ c.requires.held.justified c.args.needed.now c.requires.lazy)
          (λ j. put_unvalued old new i puts.entry puts.value (none_entered (old i) c.stands.result c.stands.ensures c.if-stands.false) puts.adds j)
          (stay_any _ _ _ _ (g.K.Keeper.memories c.args.keeper.now) (g.K.Keeper.memories c.put.new.self) c.put.ensures.traces)
          c.args.self.now.made) puts;
    }
