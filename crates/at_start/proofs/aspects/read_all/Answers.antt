use Rattle.std.proofs.Common.{◌+◌, ◌<◌, List, ℕ, ap, length, map, take, sym, subst, arith}
use Rattle.std.proofs.lemmas.Bool.Decides.{nat_tests}
use Rattle.std.proofs.lemmas.Result.{err_from_is_err_and}
use Rattle.at_java.specs.Seen.{contents_view}
use Rattle.at_start.specs.AspectFiles.{Holds, IsReadingFaultOf, IsUnread}
use Rattle.at_start.specs.PlacedView.{placed_view}
use Rattle.at_start.specs.Starts.{aspect_bytes}
use Rattle.at_start.specs.FilesView.{aspects_of}
use Rattle.at_start.proofs.Ruled.{none_given_yet, one_more_read, unread_at}
use Rattle.at_start.proofs.aspects.read_all.Goals as goal

pub loop-i-init : goal.loop-i-init
loop-i-init c = none_given_yet c.args.language c.args.names.now _ _ (ap (map aspects_of) c.new.ensures.items) (ap (map placed_view) c.new-2.ensures.items)

pub returns-in_err-takes-in-Ok-clause-refused : goal.returns-in_err-takes-in-Ok-clause-refused
returns-in_err-takes-in-Ok-clause-refused c =
    let p = err_from_is_err_and c.from_residual.result c.from_residual.ensures.1 in
    rw (p.1, p.2) tt

pub returns-in-Err-clause-refused : goal.returns-in-Err-clause-refused
returns-in-Err-clause-refused c =
    let sources = c.args.aspects.now in
    let i = c.loop-i.i in
    let x = c.index-aspects-i.result in
    let within : i < length sources = grind (arith, nat_tests) in
    let fault = subst (λ (b : List ℕ). IsReadingFaultOf c.args.language c.args.names.now b c.in-Err.fault) c.deref.ensures.value
    c.in-Err.ensures.refused in
    subst (IsUnread c.args.language c.args.names.now (aspect_bytes sources)) (sym c.of_file.ensures)
    (unread_at c.args.language c.args.names.now sources i x c.loop-i.invariant.contents c.in-Err.fault within c.index-aspects-i.is
    c.loop-i.invariant.hold fault)

pub loop-i-preserved : goal.loop-i-preserved
loop-i-preserved c =
    let sources = c.args.aspects.now in
    let i = c.loop-i.i in
    let x = c.index-aspects-i.result in
    let within : i < length sources = grind (arith, nat_tests) in
    let contents = contents_view c.in-Ok.contents in
    let holds = subst (λ (b : List ℕ). Holds c.args.language c.args.names.now b contents) c.deref.ensures.value
    c.in-Ok.ensures.hold in
    one_more_read c.args.language c.args.names.now sources i x contents (map aspects_of c.loop-i.all.aspects.items) _
    (map placed_view c.loop-i.all.constants.items) _ within c.index-aspects-i.is
    c.loop-i.invariant holds c.in_ok-takes-in-Ok.ensures.aspects c.in_ok-takes-in-Ok.ensures.constants
