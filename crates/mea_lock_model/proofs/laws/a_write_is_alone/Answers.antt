use Rattle.mea_lock_model.proofs.Alone.{writes_alone, one_guard}
use Rattle.mea_lock_model.proofs.laws.a_write_is_alone.Goals as goal

pub returns-clause-alone : goal.returns-clause-alone
returns-clause-alone c = λ h fit. writes_alone h fit

pub returns-clause-one : goal.returns-clause-one
returns-clause-one c = λ h fit. one_guard h fit
