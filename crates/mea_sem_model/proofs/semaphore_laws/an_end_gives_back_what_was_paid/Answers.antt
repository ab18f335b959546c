use Rattle.mea_sem_model.proofs.SmallLaws.{end_new, end_cut, end_waiting, end_granted, leaves_with, end_conserves}
use Rattle.mea_sem_model.proofs.semaphore_laws.an_end_gives_back_what_was_paid.Goals as goal

pub returns-clause-new : goal.returns-clause-new
returns-clause-new c = λ h i f x is unpolled. end_new h i f x is unpolled

pub returns-clause-cut : goal.returns-clause-cut
returns-clause-cut c = λ h i f x is cut. end_cut h i f x is cut

pub returns-clause-waiting : goal.returns-clause-waiting
returns-clause-waiting c = λ h i f x is w waits. end_waiting h i f x is w waits

pub returns-clause-granted : goal.returns-clause-granted
returns-clause-granted c = λ h i f x is done. end_granted h i f x is done

pub returns-clause-leaving : goal.returns-clause-leaving
returns-clause-leaving c = λ h v f w x is waits. leaves_with h v f w x is waits

pub returns-clause-conserves : goal.returns-clause-conserves
returns-clause-conserves c = λ h i k v low cause s. end_conserves h i k v low cause s
