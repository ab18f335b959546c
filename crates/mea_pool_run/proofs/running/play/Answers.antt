use Rattle.std.proofs.Common.{◌≡◌, ◌⊎◌, ap, subst}
use Rattle.mea_script.specs.Runs.{IsFault, Answers, Tells}
use Rattle.mea_script.specs.Told.{Told, told_by}
use Rattle.mea_script.specs.declared.status.Status.TheVariants as status
use Rattle.mea_pool_run.specs.PoolByName.{PoolByName}
use Rattle.mea_pool_run.specs.Script.{pool_rules}
use Rattle.mea_pool_run.proofs.Starts.{no_cause}
use Rattle.mea_pool_run.proofs.running.play.Goals as goal

pub play_script-requires : goal.play_script-requires
play_script-requires g c = c.in-Ok.ensures.stands

pub returns-in-Ok-clause-status : goal.returns-in-Ok-clause-status
returns-in-Ok-clause-status g c = λ script left.
    subst (λ (told : Told). IsFault c.play_script.result ⊎ (c.play_script.result ≡ told.status)) (ap (λ (s : PoolByName). told_by pool_rules s script) c.in-Ok.ensures.state) (c.play_script.ensures.status script left)

pub returns-in-Ok-clause-text : goal.returns-in-Ok-clause-text
returns-in-Ok-clause-text g c = λ script before left taken.
    subst (λ (told : Told). Tells told c.play_script.result before (g.K.Sink.taken c.play_script.new.sink)) (ap (λ (s : PoolByName). told_by pool_rules s script) c.in-Ok.ensures.state)
    (c.play_script.ensures.text script before left taken)

pub returns-in-Ok-clause-whole : goal.returns-in-Ok-clause-whole
returns-in-Ok-clause-whole g c = λ script before left taken no_read no_write.
    subst (λ (told : Told). (c.play_script.result ≡ status.NoMemory) ⊎ Answers told c.play_script.result before (g.K.Sink.taken c.play_script.new.sink))
    (ap (λ (s : PoolByName). told_by pool_rules s script) c.in-Ok.ensures.state) (c.play_script.ensures.whole script before left taken no_read no_write)

pub returns-in-Ok-clause-stopped : goal.returns-in-Ok-clause-stopped
returns-in-Ok-clause-stopped g c = λ at cause is. no_cause cause (c.play_script.ensures.stopped at cause is)
