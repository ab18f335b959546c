use Rattle.mea_sem_model.proofs.Closed.{stays_closed, grants_no_more, refuses, try_refused, forgetting_try_refused}
use Rattle.mea_sem_model.proofs.closing.a_closed_semaphore_stays_closed.Goals as goal

pub returns-clause-stays : goal.returns-clause-stays
returns-clause-stays c = λ h i e low s closed. stays_closed h i e low s closed

pub returns-clause-grants : goal.returns-clause-grants
returns-clause-grants c = λ h i e v low cause f x y is closed at done. grants_no_more h i e v low cause f x y is closed at done

pub returns-clause-refuses : goal.returns-clause-refuses
returns-clause-refuses c = λ h i f w x v is closed ungranted. refuses h i f w x v is closed ungranted

pub returns-clause-tries : goal.returns-clause-tries
returns-clause-tries c = λ h i s n plain closed. try_refused h i s n plain closed

pub returns-clause-forgetting : goal.returns-clause-forgetting
returns-clause-forgetting c = λ h s n closed. forgetting_try_refused h s n closed
