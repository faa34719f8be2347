use Rattle.at_index.proofs.Common.{◌∷◌, inl, inr, map, refl, loc_view, edges_at, stands_for}
use Rattle.at_index.proofs.Listing.{listed_on, reads_on, reads_unchanged}
use Rattle.at_index.proofs.Locations.{first_of, index_is_first}
use Rattle.at_index.proofs.Noted.{noted_on}
use Rattle.at_index.proofs.of_runs.Stretches.{stays_on}
use Rattle.at_index.proofs.tells.Adding.add_near.Goals as goal

pub returns-in_err-note-clause-reads : goal.returns-in_err-note-clause-reads
returns-in_err-note-clause-reads g c = reads_unchanged _ _ _ _

pub returns-in_err-facet-clause-reads : goal.returns-in_err-facet-clause-reads
returns-in_err-facet-clause-reads g c = reads_unchanged _ _ _ _

pub returns-in_err-add_reader-clause-reads : goal.returns-in_err-add_reader-clause-reads
returns-in_err-add_reader-clause-reads g c =
    let x = c.args.location in
    let ys = c.args.others.now in
    let all = loc_view x ∷ map loc_view ys in
    let node = c.node.result in
    let first = first_of node x (x ∷ ys) ys c.node.ensures refl c.in_ok-facet.ensures in
    reads_on all (stands_for node c.in_ok-facet.facet) c.add_reader.ensures.others (reads_unchanged _ _ all (edges_at c.args.readers.now.items))
    c.add_reader.ensures.lists first.from

pub returns-in_err-add_reader-clause-noted : goal.returns-in_err-add_reader-clause-noted
returns-in_err-add_reader-clause-noted g c n =
    let node = c.node.result in
    let stay = (rw c.as_slice.ensures.value at c.note.ensures.stay) n in
    let noted = (rw c.as_slice.ensures.value at c.in_ok-note.ensures.noted) n in
    let index = index_is_first node c.args.location c.args.others.now c.node.ensures c.in_ok-facet.ensures in
    noted_on (edges_at c.args.readers.now.items) (edges_at c.add_reader.new.readers.items) c.note.new.index_read.items
    (stands_for node c.in_ok-facet.facet) stay (λ k h. noted k (index k h)) c.add_reader.ensures.others

pub returns : goal.returns
returns g c =
    let x = c.args.location in
    let ys = c.args.others.now in
    let all = loc_view x ∷ map loc_view ys in
    let left = map loc_view c.in_ok-facet.left.now in
    let node = c.node.result in
    let come = stands_for node c.in_ok-facet.facet in
    let old = edges_at c.args.readers.now.items in
    let new = edges_at c.add_reader.new.readers.items in
    let others = c.add_reader.ensures.others in
    let has = c.in_ok-add_reader.ensures.has in
    let first = first_of node x (x ∷ ys) ys c.node.ensures refl c.in_ok-facet.ensures in
    let index = index_is_first node x ys c.node.ensures c.in_ok-facet.ensures in
    record {
      reads = reads_on all come others (reads_unchanged _ _ all old) c.add_reader.ensures.lists first.from;
      stay = stays_on old old new come others (λ k d. d) has;
      listed = record {
        all = λ k d. elim (listed_on all come others all left (λ j e. inl e) has first.all k d) [ inl e ↦ inr e | inr e ↦ inl e ];
        rest = first.rest;
      };
      noted = λ n.
          let stay = (rw c.as_slice.ensures.value at c.note.ensures.stay) n in
          let noted = (rw c.as_slice.ensures.value at c.in_ok-note.ensures.noted) n in
          noted_on old new c.note.new.index_read.items come stay (λ k h. noted k (index k h)) others;
      short = c.add_reader.ensures.short;
      fewer = first.fewer;
    }
