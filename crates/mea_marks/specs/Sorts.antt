-- what a row is of
use Rattle.std.specs.Prelude.{ℕ, Bool, true, false, List, codes}
use Rattle.mea_marks.specs.declared.sort.Sort.{Sort}
use Rattle.mea_marks.specs.declared.sort.Sort.TheVariants as sorts

-- each has a number of its own
unfoldable pub code_of : Sort → ℕ
code_of sorts.Semaphore = 0
code_of sorts.Barrier = 1
code_of sorts.Latch = 2
code_of sorts.WaitGroup = 3
code_of sorts.Shutdown = 4
code_of sorts.Mutex = 5
code_of sorts.RwLock = 6
code_of sorts.Condvar = 7
code_of sorts.Bounded = 8
code_of sorts.Unbounded = 9
code_of sorts.Oneshot = 10
code_of sorts.Broadcast = 11
code_of sorts.AtomicBox = 12
code_of sorts.OptionBox = 13
code_of sorts.Admission = 14
code_of sorts.Call = 15
code_of sorts.Cell = 16
code_of sorts.Map = 17
code_of sorts.Flight = 18
code_of sorts.Acquire = 19
code_of sorts.Arrival = 20
code_of sorts.LatchWait = 21
code_of sorts.GroupWait = 22
code_of sorts.Signal = 23
code_of sorts.Lock = 24
code_of sorts.Access = 25
code_of sorts.CondvarWait = 26
code_of sorts.Send = 27
code_of sorts.BoundedReceive = 28
code_of sorts.Receive = 29
code_of sorts.OneshotReceive = 30
code_of sorts.Hear = 31
code_of sorts.Admit = 32
code_of sorts.CallWait = 33
code_of sorts.CellWait = 34
code_of sorts.MapWait = 35
code_of sorts.FlightWait = 36

-- its name in a picture
unfoldable pub word_of : Sort → List ℕ
word_of sorts.Semaphore = codes "semaphore"
word_of sorts.Barrier = codes "barrier"
word_of sorts.Latch = codes "latch"
word_of sorts.WaitGroup = codes "wait group"
word_of sorts.Shutdown = codes "shutdown"
word_of sorts.Mutex = codes "mutex"
word_of sorts.RwLock = codes "lock"
word_of sorts.Condvar = codes "condition variable"
word_of sorts.Bounded = codes "bounded channel"
word_of sorts.Unbounded = codes "channel"
word_of sorts.Oneshot = codes "oneshot"
word_of sorts.Broadcast = codes "broadcast"
word_of sorts.AtomicBox = codes "box"
word_of sorts.OptionBox = codes "option box"
word_of sorts.Admission = codes "admission"
word_of sorts.Call = codes "call"
word_of sorts.Cell = codes "cell"
word_of sorts.Map = codes "map"
word_of sorts.Flight = codes "group"
word_of sorts.Acquire = codes "acquire"
word_of sorts.Arrival = codes "arrival"
word_of sorts.LatchWait = codes "wait"
word_of sorts.GroupWait = codes "wait"
word_of sorts.Signal = codes "wait"
word_of sorts.Lock = codes "lock"
word_of sorts.Access = codes "access"
word_of sorts.CondvarWait = codes "wait"
word_of sorts.Send = codes "send"
word_of sorts.BoundedReceive = codes "receiver"
word_of sorts.Receive = codes "receiver"
word_of sorts.OneshotReceive = codes "receive"
word_of sorts.Hear = codes "receive"
word_of sorts.Admit = codes "acquire"
word_of sorts.CallWait = codes "caller"
word_of sorts.CellWait = codes "caller"
word_of sorts.MapWait = codes "caller"
word_of sorts.FlightWait = codes "caller"

-- it lives on after a poll that was answered
abbrev pub is_lasting : Sort → Bool
is_lasting sorts.BoundedReceive = true
is_lasting sorts.Receive = true
is_lasting sorts.OneshotReceive = true
is_lasting _ = false
