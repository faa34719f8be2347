use Rattle.at_cache.proofs.Common.{inl, inr, ap, sym, ◌∙◌, ne_eqb, Answers, is_of_index, edges_on, Seat, over_touched, over_untouched}
use Rattle.at_cache.proofs.Naming.{goes_not, goes_past_seat}
use Rattle.at_cache.proofs.forgetting.begin_over.Goals as goal
use Rattle.at_cache.proofs.forgetting.begin_over.Goals.{then-seat-eq0-via-then-seat-eq0, then-seat-eq0-via-else-seat-eq0+then-is_index}

pub returns-then-seat-eq0 : goal.returns-then-seat-eq0
returns-then-seat-eq0 g c =
    let rs = c.args.readers.now in
    let is = rw c.as_slice.ensures.value at c.seat_of-seat.ensures.is in
    goes_past_seat {says = Answers (goal.F-post g c.args.touched.now)} c.args.scope rs.seats.items rs.runs.items c.args.node
    (λ s h. elim c.then-seat-eq0.branch [
      | then-seat-eq0-via-then-seat-eq0 w ↦ inl (ap (λ (t : Seat). t.place) (is s h) ∙ w.if-seat-eq0.true)
      | then-seat-eq0-via-else-seat-eq0+then-is_index w ↦ inr (ap (λ (t : Seat). is_of_index t.facet) (is s h) ∙ sym w.if-is_index.ensures)
    ])
    c.args.first c.args.cut.now

pub returns-then-is_touched : goal.returns-then-is_touched
returns-then-is_touched g c =
    let rs = c.args.readers.now in
    let seat = c.seat_of-seat.result in
    let there = (rw c.as_slice.ensures.value at c.seat_of-seat.ensures.there) (ne_eqb seat.place 0 c.if-seat-eq0.false) in
    let says = Answers (goal.F-post g c.args.touched.now) in (
      edges_on rs.runs.items seat,
      rw c.as_slice-then-is_touched.ensures.value at c.doom_on.ensures,
      over_touched {says = says} c.args.scope rs.seats.items rs.runs.items c.args.node seat there (sym c.if-is_index.ensures) c.if-is_touched.ensures,
    )

pub returns : goal.returns
returns g c =
    let rs = c.args.readers.now in
    let seat = c.seat_of-seat.result in
    let there = (rw c.as_slice.ensures.value at c.seat_of-seat.ensures.there) (ne_eqb seat.place 0 c.if-seat-eq0.false) in
    let says = Answers (goal.F-post g c.args.touched.now) in
    goes_not {says = says} (over_untouched {says = says} c.args.scope rs.seats.items rs.runs.items c.args.node seat there c.if-is_touched.ensures)
    c.args.first c.args.cut.now
