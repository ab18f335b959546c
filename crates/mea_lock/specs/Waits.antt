-- waits: whether one was polled, and which is new
use Rattle.std.specs.Prelude.{◌≡◌, Bool, true, false}
use Rattle.mea_sem_core.specs.declared.acquire.Acquire.{Acquire}
use Rattle.mea_sem_core.specs.declared.acquire.Acquire.TheVariants as acquire
use Rattle.mea_lock_core.specs.RwLock.{share_of, is_write}
use Rattle.mea_lock_core.specs.declared.rw_wait.RwWait.{RwWait}
use Rattle.mea_lock.specs.Cores.{NamedLock, acquire_of}
use Rattle.mea_family.specs.declared.answer.Answer.{Answer}
use Rattle.mea_family.specs.declared.answer.Answer.TheVariants as answers
use Rattle.mea_lock_model.specs.declared.until.Until.{Until}
use Rattle.mea_lock_model.specs.declared.until.Until.TheVariants as untils
use Rattle.mea_lock.specs.declared.until.Asked.{Asked}
use Rattle.mea_lock.specs.declared.until.Asked.TheVariants as asked

-- what was replied, and whether a future that is pending asks for the lock
abbrev pub answer_to : Asked → Answer
answer_to asked.Ready = answers.Ready
answer_to asked.Asks = answers.Pending
answer_to asked.Lays = answers.Pending

abbrev pub AsksFor : Asked → Bool → Type 0
AsksFor asked.Ready asks = Unit {0}
AsksFor asked.Asks asks = asks ≡ true
AsksFor asked.Lays asks = asks ≡ false

-- whether one that has the lock goes on waiting at some value
abbrev pub may_go_on : Until → Bool
may_go_on untils.Held = false
may_go_on (untils.Reached least) = true
may_go_on untils.Never = true

abbrev pub has_number : Acquire → Bool
has_number (acquire.New d) = false
has_number (acquire.Queued d n) = true
has_number (acquire.Done d) = true
has_number (acquire.Refused d) = true

abbrev pub is_polled : RwWait → Bool
is_polled x = has_number (acquire_of 0 x)

-- a wait that was never polled, of a lock, to read or to write
pub record IsNewWait (l : NamedLock) (write : Bool) (x : RwWait) : Type 0 where
  pub acquire : acquire_of l.most x ≡ acquire.New (share_of l write)
  pub writes : is_write x ≡ write
  pub unpolled : is_polled x ≡ false
