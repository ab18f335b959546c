use Rattle.mea_sem_model.proofs.SmallLaws.{none_free, try_waits, forgetting_try_waits, first_poll_waits}
use Rattle.mea_sem_model.proofs.semaphore_laws.nobody_overtakes.Goals as goal

pub returns-clause-free : goal.returns-clause-free
returns-clause-free c = λ h v s waited. none_free h v s waited

pub returns-clause-tries : goal.returns-clause-tries
returns-clause-tries c = λ h v i s n plain waited some. try_waits h v i s n plain waited some

pub returns-clause-forgetting : goal.returns-clause-forgetting
returns-clause-forgetting c = λ h v s n waited some. forgetting_try_waits h v s n waited some

pub returns-clause-polls : goal.returns-clause-polls
returns-clause-polls c = λ h v i f w x is unpolled open_still waited some. first_poll_waits h v i f w x is unpolled open_still waited some
