use Rattle.at_index.proofs.Common.{◌≡◌, ◌∙◌, Some, arith, refl, rules, slice_get, subst, slice_get_read, Seat}
use Rattle.at_index.proofs.of_runs.Seats.{beyond, over_runs, sits_apart, sits_given, sits_same}
use Rattle.at_index.proofs.seating.sit.Goals as goal

pub returns-in_default-clause-seated : goal.returns-in_default-clause-seated
returns-in_default-clause-seated c = record {
  apart = c.in_ok-make_seat.ensures.apart c.requires.seated.apart;
  given = λ n s h.
      let a = c.in_ok-make_seat.ensures.given c.args.runs.now.items c.requires.seated.given n s h in
      let b = c.give.ensures.given s.run in
      omega (arith, a, b);
  past = c.give.ensures.past c.requires.seated.past;
}

pub returns : goal.returns
returns c =
    let seats = c.make_seat.new.seats.items in
    let runs = c.args.runs.now.items in
    let was = c.index_mut.result.now in
    let v : Seat = record { run = c.args.run; place = c.in-Some.place; facet = c.args.facet } in
    let there = slice_get_read seats _ c.index.result was refl (rw c.index.ensures c.in_ok-make_seat.ensures.there) c.index_mut.ensures.value in
    let given = c.in_ok-make_seat.ensures.given runs c.requires.seated.given in
    record {
      seated = record {
        apart = sits_apart seats _ c.index.result was v there refl runs (c.in_ok-make_seat.ensures.apart c.requires.seated.apart) given c.in-Some.ensures.next.0;
        given = sits_given seats _ c.index.result was v there refl runs c.give.new.runs.items c.give.ensures.given given c.in-Some.ensures.next.1;
        past = c.give.ensures.past c.requires.seated.past;
      };
      same = λ l.
          let at = subst (λ n. slice_get seats n ≡ Some was) c.index.ensures there in
          let before = c.give.ensures.same was ∙ c.in_ok-make_seat.ensures.free runs c.requires.free was at in
          let after = c.give.ensures.same v ∙ beyond runs v c.requires.seated.past c.in-Some.ensures.next.0 in
          sits_same seats _ c.index.result was v there refl c.give.new.runs.items before after l
          ∙ over_runs seats runs c.give.new.runs.items c.give.ensures.same l ∙ c.in_ok-make_seat.ensures.same runs l;
      short = search rules;
    }
