-- what a recorded hall keeps beside its history
use Rattle.std.specs.Prelude.{ℕ, ◌≡◌, ◌≤◌, [], length}
use Rattle.mea_events.specs.Replies.{ReplyList}
use Rattle.mea_sem.specs.Play.{Play}
use Rattle.mea_sem_model.specs.Waiters.{waiters}
use Rattle.mea_recorded.specs.History.{History, IsHistory, hall_after}
use Rattle.mea_recorded.specs.Things.{things}

-- the hall is that of the history; for each future and permit that lives there is a place for the entry of its end,
-- and for each future that waits a place for its wake
pub record IsKeptHistory (play : Play) (h : History) (living room : ℕ) (told : ReplyList) : Type 0 where
  pub history : IsHistory h
  pub hall : play.hall ≡ hall_after h.events
  pub quiet : play.wakes ≡ []
  pub numbers : play.next ≤ length h.events
  pub counted : things play.hall ≤ living
  pub places : living ≤ room
  pub answers : living ≤ told.room
  pub wakes : waiters play.hall ≤ told.spare
