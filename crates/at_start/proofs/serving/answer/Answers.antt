use Rattle.std.proofs.Common.{◌∙◌, refl}
use Rattle.std.proofs.lemmas.Result.{err_from_is_err_and}
use Rattle.at_start.proofs.WholeLemmas.{answers_by, runs_by, set_again}
use Rattle.at_start.proofs.serving.answer.Goals as goal

pub run_gathering-run-requires : goal.run_gathering-run-requires
run_gathering-run-requires g c =
    record { sound = c.set_most.ensures.sound (c.set_slice.ensures.sound c.in_ok-engine.ensures.ready) }

pub returns-clause-answers : goal.returns-clause-answers
returns-clause-answers g c =
    let made = c.in_ok-engine.engine in
    let set = c.set_most.new.self in
    answers_by c.args.files.now c.args.slice made set c.run_gathering-run.new.engine c.run_gathering-run.result
    (g.R.Input.remaining c.args.reader.now) (g.R.Input.remaining c.run_gathering-run.new.reader) (g.W.Output.contents c.args.writer.now) (g.W.Output.contents c.run_gathering-run.new.writer)
    (set_again made c.set_slice.new.self set c.set_slice.ensures.rest c.set_most.ensures.rest)
    (c.set_most.ensures.slice ∙ c.set_slice.ensures.slice) c.in_ok-engine.ensures.started c.run_gathering-run.ensures.ran

pub returns-clause-runs : goal.returns-clause-runs
returns-clause-runs g c =
    let R = g.R.Input in
    let W = g.W.Output in
    let K = g.K.Keeper in
    let made = c.in_ok-engine.engine in
    let set = c.set_most.new.self in
    runs_by K.contents K.memories R.remaining R.failed R.ended R.reads W.contents W.failed W.waits c.args.files.now c.args.slice
    c.args.most c.args.gathers made set c.args.reader.now c.run_gathering-run.new.reader
    c.args.writer.now c.run_gathering-run.new.writer (record { run = c.run_gathering-run.result; engine = c.run_gathering-run.new.engine })
    (set_again made c.set_slice.new.self set c.set_slice.ensures.rest c.set_most.ensures.rest)
    (c.set_most.ensures.slice ∙ c.set_slice.ensures.slice) c.set_most.ensures.most
    c.in_ok-engine.ensures.started c.in_ok-engine.ensures.spare c.in_ok-engine.ensures.work c.in_ok-engine.ensures.made
    c.run_gathering-run.ensures

pub returns-in_err-engine-clause-answers : goal.returns-in_err-engine-clause-answers
returns-in_err-engine-clause-answers g c =
    let p = err_from_is_err_and c.from_residual.result c.from_residual.ensures.1 in
    rw (p.1, p.2) (c.in_err-engine.ensures.refused, refl, refl)
