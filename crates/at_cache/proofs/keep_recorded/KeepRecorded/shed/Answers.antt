use Rattle.at_cache.proofs.Common.{◌≤◌, length, subst, sym, true≢false, edges_to}
use Rattle.at_cache.proofs.of_cut.Shed.{indexed_shed, keeps_shed, stay_shed, tied_shed, valued_shed}
use Rattle.at_cache.proofs.keep_recorded.KeepRecorded.shed.Goals as goal

pub shed-requires : goal.shed-requires
shed-requires c = record { all = subst (λ n. length c.args.self.now.cut.entries.places.slots ≤ n) (sym c.in_ok-count.ensures) c.capacity.ensures.slots }

pub invariant_of-self : goal.invariant_of-self
invariant_of-self c =
    let k = c.args.self.now in
    let sheds = rw c.as_slice.ensures.value at c.shed.ensures.sheds in
    record {
      indexed = indexed_shed (edges_to k.readers) k.cut.entries c.shed.new.entries k.cut.standings.items k.puts sheds k.indexed;
      tied = tied_shed (edges_to k.readers) k.cut.entries c.shed.new.entries k.cut.standings.items k.puts sheds k.indexed;
      valued = valued_shed (edges_to k.readers) k.cut.entries c.shed.new.entries k.cut.standings.items k.puts sheds k.valued;
      noted = k.noted;
      sure = λ off. absurd (true≢false off);
    }

pub returns : goal.returns
returns c =
    let k = c.args.self.now in
    let sheds = rw c.as_slice.ensures.value at c.shed.ensures.sheds in
    record {
      held = sheds.only;
      kept = keeps_shed (edges_to k.readers) k.cut.entries c.shed.new.entries k.cut.standings.items k.puts sheds;
      stay = stay_shed (edges_to k.readers) k.cut.entries c.shed.new.entries k.cut.standings.items k.puts sheds k.indexed;
      fewer = c.shed.ensures.fewer;
    }
