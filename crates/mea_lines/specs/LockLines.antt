-- the lines of locks
use Rattle.std.specs.Prelude.{List, [], ◌∷◌, codes}
use Rattle.mea_events.specs.declared.lock_event.LockEvent.{LockEvent}
use Rattle.mea_events.specs.declared.lock_event.LockEvent.TheVariants as Lock
use Rattle.mea_text.specs.Tables.{Line, alone, one, two, three}

-- mx: the lines that speak of a mutex
unfoldable pub mutex_lines : List (Line LockEvent)
mutex_lines =
    one (codes "new") Lock.MxNew ∷
    one (codes "lock") Lock.MxLock ∷
    one (codes "locko") Lock.MxLocko ∷
    two (codes "poll") Lock.MxPoll ∷
    one (codes "try") Lock.MxTry ∷
    one (codes "tryo") Lock.MxTryo ∷
    one (codes "get") Lock.MxGet ∷
    two (codes "set") Lock.MxSet ∷
    one (codes "end") Lock.MxEnd ∷
    one (codes "peek") Lock.MxPeek ∷
    two (codes "put") Lock.MxPut ∷
    one (codes "into") Lock.MxInto ∷
    one (codes "drop") Lock.MxDrop ∷
    []

-- rw: the lines that speak of a reader-writer lock
unfoldable pub rw_lock_lines : List (Line LockEvent)
rw_lock_lines =
    one (codes "new") Lock.RwNew ∷
    two (codes "max") Lock.RwMax ∷
    one (codes "read") Lock.RwRead ∷
    one (codes "reado") Lock.RwReado ∷
    one (codes "write") Lock.RwWrite ∷
    one (codes "writeo") Lock.RwWriteo ∷
    two (codes "poll") Lock.RwPoll ∷
    one (codes "tryr") Lock.RwTryr ∷
    one (codes "tryro") Lock.RwTryro ∷
    one (codes "tryw") Lock.RwTryw ∷
    one (codes "trywo") Lock.RwTrywo ∷
    one (codes "get") Lock.RwGet ∷
    two (codes "set") Lock.RwSet ∷
    one (codes "down") Lock.RwDown ∷
    one (codes "end") Lock.RwEnd ∷
    one (codes "peek") Lock.RwPeek ∷
    two (codes "put") Lock.RwPut ∷
    one (codes "into") Lock.RwInto ∷
    one (codes "drop") Lock.RwDrop ∷
    []

-- cv: the lines that speak of a condition variable and its waits
unfoldable pub condvar_lines : List (Line LockEvent)
condvar_lines =
    alone (codes "new") Lock.CvNew ∷
    two (codes "wait") Lock.CvWait ∷
    three (codes "waitw") Lock.CvWaitw ∷
    two (codes "poll") Lock.CvPoll ∷
    one (codes "one") Lock.CvOne ∷
    one (codes "all") Lock.CvAll ∷
    one (codes "end") Lock.CvEnd ∷
    one (codes "drop") Lock.CvDrop ∷
    []
