use Rattle.std.proofs.Common.{◌≡◌, ◌⊎◌, ap, subst}
use Rattle.mea_hall.specs.World.{Play}
use Rattle.mea_script.specs.Runs.{IsFault, Tells}
use Rattle.mea_script.specs.Told.{Told}
use Rattle.mea_run.proofs.Tells.{tells_script}
use Rattle.mea_run.proofs.running.play.Goals as goal

pub returns-clause-status : goal.returns-clause-status
returns-clause-status g c = λ script h.
    let told = tells_script c.long_lines_are_no_events.ensures c.new-machine.result.hall.world (ap (λ (p : Play). p.world) c.new-machine.ensures) script in
    subst (λ (t : Told). IsFault c.play_script.result ⊎ (c.play_script.result ≡ t.status)) told (c.play_script.ensures.status script h)

pub returns-clause-text : goal.returns-clause-text
returns-clause-text g c = λ script before h taken.
    let told = tells_script c.long_lines_are_no_events.ensures c.new-machine.result.hall.world (ap (λ (p : Play). p.world) c.new-machine.ensures) script in
    subst (λ (t : Told). Tells t c.play_script.result before (g.K.Sink.taken c.play_script.new.sink)) told (c.play_script.ensures.text script before h taken)
