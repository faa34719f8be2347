use Rattle.at_index.proofs.Common.{◌≡◌, ◌∙◌, refl, rules, subst, sym, AreApart, AreGiven, IsFree, edges_over}
use Rattle.at_index.proofs.of_runs.Seats.{apart_pushed, free_pushed, given_pushed, over_pushed}
use Rattle.at_index.proofs.seating.make_seat.Goals as goal

pub loop-node-init : goal.loop-node-init
loop-node-init c = record { apart = λ h. h; given = λ rs h. h; same = λ rs l. refl; free = λ rs h. h; short = λ h. h }

pub loop-node-preserved : goal.loop-node-preserved
loop-node-preserved c =
    let l = c.loop-node in
    let was = l.seats.items in
    let is = c.nowhere.ensures in
    let so = sym c.in_ok-push.ensures.items in
    record {
      apart = λ h. subst AreApart so (apart_pushed was c.nowhere.result is (l.invariant.apart h));
      given = λ rs h. subst (λ ss. AreGiven ss rs) so (given_pushed was c.nowhere.result is rs (l.invariant.given rs h));
      same = λ rs k. subst (λ ss. edges_over ss rs k ≡ edges_over c.args.seats.now.items rs k) so (over_pushed was c.nowhere.result is rs k ∙ l.invariant.same rs k);
      free = λ rs h. subst (λ ss. IsFree ss rs c.args.node) so (free_pushed was c.nowhere.result is rs c.args.node (l.invariant.free rs h));
      short = search rules;
    }
