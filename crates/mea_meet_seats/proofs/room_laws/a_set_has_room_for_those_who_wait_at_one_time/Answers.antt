use Rattle.mea_meet_seats.proofs.Rooms.{sound_run}
use Rattle.mea_meet_seats.proofs.room_laws.a_set_has_room_for_those_who_wait_at_one_time.Goals as goal

pub returns-clause-room : goal.returns-clause-room
returns-clause-room g c = λ s most run. (sound_run s most run).room

pub returns-clause-vacant : goal.returns-clause-vacant
returns-clause-vacant g c = λ s most run. (sound_run s most run).vacant
