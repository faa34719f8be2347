use Rattle.at_cache.proofs.Common.{◌≡◌, ◌+◌, ◌∙◌, None, Some, ℕ, inl, map, option_map, rules, subst, sym, true≢false, Instance, value_view, loc_view, KeepRecorded, edges_to, Info, memory_of, AreKept, Entries, Puts, IsAwaited, IsSlotFor, kept_held, remembered}
use Rattle.at_cache.proofs.of_cut.Goes.{stay_traced}
use Rattle.at_cache.proofs.of_cut.LeftHeld.{on_err}
use Rattle.at_cache.proofs.of_cut.Outdated.{puts_after, stay_after}
use Rattle.at_cache.proofs.of_cut.Spared.{alike_itself, spares_after, spares_alike, sure_put}
use Rattle.at_cache.proofs.keep_recorded.KeepRecordedKeeper.put.Goals as goal

-- the instance that is put isn't kept
awaited : (k : KeepRecorded) (i : Instance ℕ) (slot : ℕ)
    → kept_held (edges_to k.readers) k.cut.entries k.cut.standings.items k.puts i ≡ None
    → IsSlotFor k.cut.entries i slot → ((e : Info) → memory_of k.cut.entries slot ≡ Some e → e.instance ≡ i)
    → IsAwaited (edges_to k.readers) k.cut.entries k.cut.standings.items k.puts i slot
awaited k i slot absent place its = record {
  indexed = k.indexed;
  tied = k.tied;
  valued = k.valued;
  absent = absent;
  place = place;
  its = its;
}

pub returns-in_err-slot-clause-fails : goal.returns-in_err-slot-clause-fails
returns-in_err-slot-clause-fails c = on_err _ (stay_traced _)

pub returns-in_err-slot-clause-spares : goal.returns-in_err-slot-clause-spares
returns-in_err-slot-clause-spares c = spares_alike c.args.inst _ _ _ (alike_itself _)

pub invariant_of-self : goal.invariant_of-self
invariant_of-self c =
    let s = c.outdate-known.ensures _ _ (awaited c.args.self.now c.args.inst _ c.requires.absent c.in_ok-slot.ensures.slot
    c.in_ok-slot.ensures.its) in
    record {
      indexed = s.awaited.indexed;
      tied = s.awaited.tied;
      valued = s.awaited.valued;
      noted = c.args.self.now.noted;
      sure = λ off. absurd (true≢false off);
    }

pub returns-then-stamp-ge-NUMBERS : goal.returns-then-stamp-ge-NUMBERS
returns-then-stamp-ge-NUMBERS c =
    let s = c.outdate-known.ensures _ _ (awaited c.args.self.now c.args.inst _ c.requires.absent c.in_ok-slot.ensures.slot
    c.in_ok-slot.ensures.its) in
    record {
      puts = tt;
      err = s.keeps;
      traces = λ j t h. inl (s.traced j t h);
      fails = s.traced;
      spares = record { spares = λ j t apart h. inl (s.others j apart t h); last = λ u. inl (s.last u) };
    }

pub enter_held-requires : goal.enter_held-requires
enter_held-requires c =
    let s = c.outdate-known.ensures _ _ (awaited c.args.self.now c.args.inst _ c.requires.absent c.in_ok-slot.ensures.slot
    c.in_ok-slot.ensures.its) in
    record {
      awaited = s.awaited;
      present = subst (λ (es : Entries). AreKept es c.args.uses.now) (λ n j. sym (s.keeps j) n) c.requires.present;
      fits = search rules;
    }

pub invariant_of-self-in-Break-branch-2 : goal.invariant_of-self-in-Break-branch-2
invariant_of-self-in-Break-branch-2 c = record {
  indexed = c.enter_held.ensures.enters.indexed;
  tied = c.enter_held.ensures.enters.tied;
  valued = c.enter_held.ensures.enters.valued;
  noted = c.enter_held.ensures.noted c.args.self.now.noted;
  sure = λ off. absurd (true≢false off);
}

pub returns-in_err-enter_held : goal.returns-in_err-enter_held
returns-in_err-enter_held c =
    let s = c.outdate-known.ensures _ _ (awaited c.args.self.now c.args.inst _ c.requires.absent c.in_ok-slot.ensures.slot
    c.in_ok-slot.ensures.its) in
    record {
      puts = search rules;
      err = let all = λ (j : Instance ℕ). (rw c.in_err-enter_held.was at c.enter_held.ensures.enters.err) j ∙ s.keeps j in search rules;
      traces = puts_after c.args.inst (option_map value_view c.args.value) (map loc_view c.args.reads.now)
          c.args.uses.now c.args.order _ _ _ s.traced c.enter_held.ensures.enters.traces;
      fails = on_err _ (stay_after _ _ _ s.traced (rw c.in_err-enter_held.was at c.enter_held.ensures.enters.fails));
      spares = spares_after c.args.inst _ _ _ _ s.others s.last c.enter_held.ensures.enters.spares;
    }

pub invariant_of-self-2 : goal.invariant_of-self-2
invariant_of-self-2 c =
    let k = c.args.self.now in
    let s = c.outdate-known.ensures _ _ (awaited k c.args.inst _ c.requires.absent c.in_ok-slot.ensures.slot
    c.in_ok-slot.ensures.its) in
    let v = option_map value_view c.args.value in
    let looked = map loc_view c.args.reads.now in
    let last = kept_held (edges_to c.enter_held.new.readers) c.enter_held.new.cut.entries
    c.enter_held.new.cut.standings.items (c.outdate-known.new.puts + 1) in
    record {
      indexed = c.enter_held.ensures.enters.indexed;
      tied = c.enter_held.ensures.enters.tied;
      valued = c.enter_held.ensures.enters.valued;
      noted = c.enter_held.ensures.noted k.noted;
      sure = λ off. sure_put (kept_held (edges_to k.readers) k.cut.entries k.cut.standings.items k.puts) last
          (remembered (edges_to k.readers) k.cut.entries k.cut.standings.items) _ c.args.inst v looked c.args.uses.now
          c.args.order
          (subst (λ (es : Entries). Puts es c.args.inst v looked c.args.uses.now last)
          (λ n j. s.keeps j n) (rw c.in_ok-enter_held.was at c.enter_held.ensures.enters.puts))
          (puts_after c.args.inst v looked c.args.uses.now c.args.order _ _ _ s.traced
          c.enter_held.ensures.enters.traces)
          (k.sure off);
    }

pub returns : goal.returns
returns c =
    let s = c.outdate-known.ensures _ _ (awaited c.args.self.now c.args.inst _ c.requires.absent c.in_ok-slot.ensures.slot
    c.in_ok-slot.ensures.its) in
    let last = kept_held (edges_to c.enter_held.new.readers) c.enter_held.new.cut.entries
    c.enter_held.new.cut.standings.items (c.outdate-known.new.puts + 1) in
    record {
      puts = subst (λ (es : Entries). Puts es c.args.inst (option_map value_view c.args.value)
          (map loc_view c.args.reads.now) c.args.uses.now last)
          (λ n j. s.keeps j n) (rw c.in_ok-enter_held.was at c.enter_held.ensures.enters.puts);
      err = tt;
      traces = puts_after c.args.inst (option_map value_view c.args.value) (map loc_view c.args.reads.now)
          c.args.uses.now c.args.order _ _ _ s.traced c.enter_held.ensures.enters.traces;
      fails = tt;
      spares = spares_after c.args.inst last _ _ _ s.others s.last c.enter_held.ensures.enters.spares;
    }
