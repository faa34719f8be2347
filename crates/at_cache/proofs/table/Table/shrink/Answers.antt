use Rattle.at_cache.proofs.Common.{ℕ, List, ap, option_map, subst, sym, get, Instance, HaveCome, Entry, info}
use Rattle.at_cache.proofs.Moving.{at_same, placed_same}
use Rattle.at_cache.proofs.table.Table.shrink.Goals as goal

pub invariant_of-self : goal.invariant_of-self
invariant_of-self c =
    let same = c.shrink_to_fit.ensures.entries in
    record {
      placed = placed_same c.args.self.now.entries.entries c.shrink_to_fit.new.self.entries (get c.args.self.now.places) (get c.shrink_to_fit-2.new.self)
          same c.shrink_to_fit-2.ensures.values c.args.self.now.placed;
      come = subst (λ (es : List (Instance ℕ × Entry)). HaveCome es c.args.self.now.attributes.items) (sym same) c.args.self.now.come;
    }

pub returns : goal.returns
returns c k = ap (option_map info) (at_same c.args.self.now.entries.entries c.shrink_to_fit.new.self.entries (get c.args.self.now.places) (get c.shrink_to_fit-2.new.self)
    k c.shrink_to_fit.ensures.entries c.shrink_to_fit-2.ensures.values)
