use Rattle.mea_task_core.specs.Machine.{name_of}
use Rattle.mea_task_core.proofs.Halls.{release_refused}
use Rattle.mea_task_core.proofs.laws.releases_overflow_alone.Goals as goal

pub returns : goal.returns
returns c = λ m s n stop sound there refused. release_refused m.hall (name_of m s) n stop (sound.hall.each_open s there) refused
