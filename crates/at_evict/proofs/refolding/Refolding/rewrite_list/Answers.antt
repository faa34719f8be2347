use Rattle.at_evict.proofs.Common.{into_of, is_told}
use Rattle.at_evict.proofs.of_folding.Gathering.{refolded_alone}
use Rattle.at_evict.proofs.refolding.Refolding.rewrite_list.Goals as goal

pub returns-then-has_all : goal.returns-then-has_all
returns-then-has_all c = refolded_alone _ _ _ (c.has_all.ensures (is_told c.args.self.now) (into_of c.args.self.now) c.args.self.now.alone c.if-has_all.true)
