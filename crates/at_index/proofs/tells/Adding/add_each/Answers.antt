use Rattle.at_index.proofs.Common.{inr, map, loc_view, own_edges}
use Rattle.at_index.proofs.Listing.{reads_unchanged}
use Rattle.at_index.proofs.of_runs.Stretches.{but_first, but_then, none_left, reads_first, reads_then}
use Rattle.at_index.proofs.tells.Adding.add_each.Goals as goal

pub loop-location-init : goal.loop-location-init
loop-location-init g c = record {
  reads = reads_unchanged _ _ _ _;
  stay = λ k d. d;
  listed = record { all = λ k d. inr d; rest = λ k d. d };
  noted = λ n. n;
  short = λ h. h;
}

pub loop-location-preserved : goal.loop-location-preserved
loop-location-preserved g c =
    let l = c.loop-location in
    let is = c.in-Some.ensures.cases.0 in
    record {
      reads = reads_then l.invariant.reads (reads_first c.in-Some.location.now l.rest.now c.in-Some.others.now is c.add_first.ensures.reads) l.invariant.listed.rest;
      noted = λ n. c.add_first.ensures.noted (l.invariant.noted n);
      listed = but_then l.invariant.listed c.in_ok-rest.ensures.stay (but_first c.in-Some.location.now l.rest.now c.in-Some.others.now is c.in_ok-rest.ensures.listed);
      stay = λ k d. c.in_ok-rest.ensures.stay k (l.invariant.stay k d);
      short = λ h. c.add_first.ensures.short (l.invariant.short h);
    }

pub returns-in_err-rest-clause-reads : goal.returns-in_err-rest-clause-reads
returns-in_err-rest-clause-reads g c =
    let l = c.loop-location in
    reads_then l.invariant.reads (reads_first c.in-Some.location.now l.rest.now c.in-Some.others.now c.in-Some.ensures.cases.0 c.add_first.ensures.reads) l.invariant.listed.rest

pub returns-clause-listed : goal.returns-clause-listed
returns-clause-listed g c =
    let l = c.loop-location in
    none_left loc_view _ (map loc_view c.args.locations.now) l.rest.now (own_edges l.desks.entries l.readers.items)
    c.in_default.ensures.cases l.invariant.listed
