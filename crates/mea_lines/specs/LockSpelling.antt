-- how an event of a lock is spelled
use Rattle.std.specs.Prelude.{ℕ, List, codes}
use Rattle.mea_events.specs.declared.lock_event.LockEvent.{LockEvent}
use Rattle.mea_events.specs.declared.lock_event.LockEvent.TheVariants as Lock
use Rattle.mea_text.specs.declared.numbers.Numbers.{Numbers}
use Rattle.mea_text.specs.declared.numbers.Numbers.TheVariants.{Bare, One, Two, Three}
use Rattle.mea_text.specs.Number.{AreFit}
use Rattle.mea_text.specs.Words.{listed}

-- its word, and the numbers after it in their order
abbrev pub lock_said : LockEvent → List ℕ × Numbers
lock_said (Lock.MxNew v) = (codes "mx.new", One v)
lock_said (Lock.MxLock m) = (codes "mx.lock", One m)
lock_said (Lock.MxLocko m) = (codes "mx.locko", One m)
lock_said (Lock.MxPoll f w) = (codes "mx.poll", Two f w)
lock_said (Lock.MxTry m) = (codes "mx.try", One m)
lock_said (Lock.MxTryo m) = (codes "mx.tryo", One m)
lock_said (Lock.MxGet g) = (codes "mx.get", One g)
lock_said (Lock.MxSet g v) = (codes "mx.set", Two g v)
lock_said (Lock.MxEnd x) = (codes "mx.end", One x)
lock_said (Lock.MxPeek m) = (codes "mx.peek", One m)
lock_said (Lock.MxPut m v) = (codes "mx.put", Two m v)
lock_said (Lock.MxInto m) = (codes "mx.into", One m)
lock_said (Lock.MxDrop m) = (codes "mx.drop", One m)
lock_said (Lock.RwNew v) = (codes "rw.new", One v)
lock_said (Lock.RwMax v n) = (codes "rw.max", Two v n)
lock_said (Lock.RwRead l) = (codes "rw.read", One l)
lock_said (Lock.RwReado l) = (codes "rw.reado", One l)
lock_said (Lock.RwWrite l) = (codes "rw.write", One l)
lock_said (Lock.RwWriteo l) = (codes "rw.writeo", One l)
lock_said (Lock.RwPoll f w) = (codes "rw.poll", Two f w)
lock_said (Lock.RwTryr l) = (codes "rw.tryr", One l)
lock_said (Lock.RwTryro l) = (codes "rw.tryro", One l)
lock_said (Lock.RwTryw l) = (codes "rw.tryw", One l)
lock_said (Lock.RwTrywo l) = (codes "rw.trywo", One l)
lock_said (Lock.RwGet g) = (codes "rw.get", One g)
lock_said (Lock.RwSet g v) = (codes "rw.set", Two g v)
lock_said (Lock.RwDown g) = (codes "rw.down", One g)
lock_said (Lock.RwEnd x) = (codes "rw.end", One x)
lock_said (Lock.RwPeek l) = (codes "rw.peek", One l)
lock_said (Lock.RwPut l v) = (codes "rw.put", Two l v)
lock_said (Lock.RwInto l) = (codes "rw.into", One l)
lock_said (Lock.RwDrop l) = (codes "rw.drop", One l)
lock_said Lock.CvNew = (codes "cv.new", Bare)
lock_said (Lock.CvWait c g) = (codes "cv.wait", Two c g)
lock_said (Lock.CvWaitw c g v) = (codes "cv.waitw", Three c g v)
lock_said (Lock.CvPoll f w) = (codes "cv.poll", Two f w)
lock_said (Lock.CvOne c) = (codes "cv.one", One c)
lock_said (Lock.CvAll c) = (codes "cv.all", One c)
lock_said (Lock.CvEnd f) = (codes "cv.end", One f)
lock_said (Lock.CvDrop c) = (codes "cv.drop", One c)

-- each number fits its type
abbrev pub LockFits : LockEvent → Type 0
LockFits e = AreFit (listed (lock_said e).1)
