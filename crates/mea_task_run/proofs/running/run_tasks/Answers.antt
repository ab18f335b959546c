use Rattle.std.proofs.Common.{◌≡◌, ◌⊎◌, subst}
use Rattle.mea_script.specs.declared.status.Status.TheVariants as statuses
use Rattle.mea_script.specs.Runs.{IsFault, Answers, Tells}
use Rattle.mea_script.specs.Told.{Told}
use Rattle.mea_task_run.proofs.Ends.{told_new, rests_done, no_cause}
use Rattle.mea_task_run.proofs.running.run_tasks.Goals as goal

pub returns-clause-stopped : goal.returns-clause-stopped
returns-clause-stopped g c = λ at cause is. no_cause cause (c.play_script.ensures.stopped at cause is)

pub returns-clause-status : goal.returns-clause-status
returns-clause-status g c = λ script words h.
    let told = told_new c.new-machine.result script c.new-machine.ensures.executor c.new-machine.ensures.latest in
    subst (λ (t : Told). IsFault c.play_script.result ⊎ (c.play_script.result ≡ t.status)) told (c.play_script.ensures.status script h)

pub returns-clause-text : goal.returns-clause-text
returns-clause-text g c = λ script before words h taken.
    let told = told_new c.new-machine.result script c.new-machine.ensures.executor c.new-machine.ensures.latest in
    subst (λ (t : Told). Tells t c.play_script.result before (g.K.Sink.taken c.play_script.new.sink)) told (c.play_script.ensures.text script before h taken)

pub returns-clause-whole : goal.returns-clause-whole
returns-clause-whole g c = λ script before words h taken no_reads no_writes.
    let told = told_new c.new-machine.result script c.new-machine.ensures.executor c.new-machine.ensures.latest in
    subst (λ (t : Told). (c.play_script.result ≡ statuses.NoMemory) ⊎ Answers t c.play_script.result before (g.K.Sink.taken c.play_script.new.sink)) told
    (c.play_script.ensures.whole script before h taken no_reads no_writes)

pub returns-clause-rests : goal.returns-clause-rests
returns-clause-rests g c = λ script words h done. rests_done c.play_script.result script (returns-clause-status g c script words h) done
