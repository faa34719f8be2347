use Rattle.at_cache.proofs.Common.{◌≡◌, ◌+◌, ◌*◌, List, [], cond, is_some, Edge, Work, Memory, table_len, Passes, held_count, held_in}
use Rattle.at_cache.proofs.cutting.forget_all.Given as goal

abbrev pub invariant-loop-first : goal.invariant-loop-first
invariant-loop-first l = record {
  works : (old : Memory) (start : List Edge) → Work old start [] l.initial.first (held_in l.initial.cut) → Work old start [] l.first (held_in l.cut);
  passes : Passes l.initial.cut l.cut;
  len : table_len l.cut.entries ≡ table_len l.initial.cut.entries;
}

abbrev pub decreases-loop-first : goal.decreases-loop-first
decreases-loop-first l = 2 * held_count l.cut + cond (is_some l.first) 1 0
