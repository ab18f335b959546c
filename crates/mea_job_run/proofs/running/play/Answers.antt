use Rattle.std.proofs.Common.{◌≡◌, ◌⊎◌, subst}
use Rattle.mea_script.specs.Runs.{IsFault, Answers, Tells}
use Rattle.mea_script.specs.declared.status.Status.TheVariants as status
use Rattle.mea_job_run.proofs.Follows.{told_same, no_cause}
use Rattle.mea_job_run.proofs.running.play.Goals as goal

pub returns-clause-status : goal.returns-clause-status
returns-clause-status g c = λ script left.
    let same = told_same c.args.permits c.args.most_queued c.args.results _ c.in-Ok.ensures script in
    subst (λ told. IsFault c.play_script.result ⊎ (c.play_script.result ≡ told.status)) same (c.play_script.ensures.status script left)

pub returns-clause-text : goal.returns-clause-text
returns-clause-text g c = λ script before left taken.
    let same = told_same c.args.permits c.args.most_queued c.args.results _ c.in-Ok.ensures script in
    subst (λ told. Tells told c.play_script.result before (g.K.Sink.taken c.play_script.new.sink)) same (c.play_script.ensures.text script before left taken)

pub returns-clause-whole : goal.returns-clause-whole
returns-clause-whole g c = λ script before left taken no_read no_write.
    let same = told_same c.args.permits c.args.most_queued c.args.results _ c.in-Ok.ensures script in
    subst (λ told. (c.play_script.result ≡ status.NoMemory) ⊎ Answers told c.play_script.result before (g.K.Sink.taken c.play_script.new.sink)) same (c.play_script.ensures.whole script before left taken no_read no_write)

pub returns-clause-stopped : goal.returns-clause-stopped
returns-clause-stopped g c = λ at cause is. no_cause cause (c.play_script.ensures.stopped at cause is)
