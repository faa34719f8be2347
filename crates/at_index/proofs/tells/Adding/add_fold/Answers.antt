use Rattle.at_index.proofs.Common.{◌∙◌, eqb-true, length, map, sym, loc_view, edges_to, own_edges}
use Rattle.at_index.proofs.of_runs.Over.{noted_from, noted_to}
use Rattle.at_index.proofs.of_runs.Stretches.{adds_beside, both_ok, but_all, but_beside, but_then, in_back, in_front, in_parts, lists_parts, none_left, reads_parts, reads_then, reads_within}
use Rattle.at_index.proofs.tells.Adding.add_fold.Goals as goal

pub returns-in_err-add_own-clause-reads : goal.returns-in_err-add_own-clause-reads
returns-in_err-add_own-clause-reads g c =
    reads_within (rw c.split_at.ensures.front at c.add_own.ensures.reads) (in_front loc_view c.before_fold-place.result c.args.locations.now)

pub returns-in_err-rest-clause-reads : goal.returns-in_err-rest-clause-reads
returns-in_err-rest-clause-reads g c =
    let xs = c.args.locations.now in
    let n = c.before_fold-place.result in
    reads_parts (in_front loc_view n xs) (in_back loc_view n xs) (rw c.split_at.ensures.front at c.add_own.ensures.reads)
    (adds_beside (own_edges c.add_own.new.readers.desks.entries c.add_own.new.readers.own.items) (rw c.split_at.ensures.back at c.add_stretch.ensures.adds))

pub returns-in_err-rest-clause-noted : goal.returns-in_err-rest-clause-noted
returns-in_err-rest-clause-noted g c h =
    let rs = c.add_own.new.readers in
    let nodes = c.add_own.new.index_read.items in
    noted_from rs.own.items c.add_stretch.new.seats.items c.add_stretch.new.runs.items nodes
    (noted_to rs.own.items rs.seats.items rs.runs.items nodes (c.add_own.ensures.noted h))

pub loop-init : goal.loop-init
loop-init g c =
    let xs = c.args.locations.now in
    let n = c.before_fold-place.result in
    let own = own_edges c.add_own.new.readers.desks.entries c.add_own.new.readers.own.items in
    let rs = c.add_own.new.readers in
    let nodes = c.add_own.new.index_read.items in
    record {
      reads = reads_parts (in_front loc_view n xs) (in_back loc_view n xs)
          (rw c.split_at.ensures.front at c.add_own.ensures.reads)
          (adds_beside own (rw c.split_at.ensures.back at c.add_stretch.ensures.adds));
      noted = λ h. noted_from rs.own.items c.add_stretch.new.seats.items c.add_stretch.new.runs.items nodes
          (noted_to rs.own.items rs.seats.items rs.runs.items nodes (c.add_own.ensures.noted h));
      listed = lists_parts (g.T.Tells.tells c.args.self.now.teller.now) _ (in_back loc_view n xs) (in_parts loc_view n xs) (rw c.split_at.ensures.front at c.in_ok-add_own.ensures.listed)
          (adds_beside own (rw c.split_at.ensures.back at c.add_stretch.ensures.adds))
          (but_beside own (rw c.split_at.ensures.back at c.in_ok-rest.ensures.listed));
    }

pub returns-then-is_empty-clause-listed : goal.returns-then-is_empty-clause-listed
returns-then-is_empty-clause-listed g c =
    none_left loc_view _ (map loc_view c.args.locations.now) c.loop.rest.now (edges_to c.loop.readers)
    (eqb-true (length c.loop.rest.now) 0 (sym c.is_empty.ensures ∙ c.if-is_empty.true)) c.loop.invariant.listed

pub returns-in_err-rest-2-clause-reads : goal.returns-in_err-rest-2-clause-reads
returns-in_err-rest-2-clause-reads g c =
    reads_then c.loop.invariant.reads c.add_further.ensures.reads c.loop.invariant.listed.rest

pub loop-preserved : goal.loop-preserved
loop-preserved g c = record {
  reads = reads_then c.loop.invariant.reads c.add_further.ensures.reads c.loop.invariant.listed.rest;
  noted = λ h. c.add_further.ensures.noted (c.loop.invariant.noted h);
  listed = but_then c.loop.invariant.listed c.in_ok-rest-2.ensures.stay c.in_ok-rest-2.ensures.listed;
}

pub returns-clause-reads : goal.returns-clause-reads
returns-clause-reads g c =
    reads_then c.loop.invariant.reads c.add_own-2.ensures.reads c.loop.invariant.listed.rest

pub returns-clause-listed : goal.returns-clause-listed
returns-clause-listed g c =
    both_ok c.add_own-2.result (λ stay listed. but_all _ c.loop.invariant.listed stay listed) c.add_own-2.ensures.stay c.add_own-2.ensures.listed
