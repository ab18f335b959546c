-- how an event of a semaphore is spelled
use Rattle.std.specs.Prelude.{ℕ, List, codes}
use Rattle.mea_events.specs.declared.sem_event.SemEvent.{SemEvent}
use Rattle.mea_events.specs.declared.sem_event.SemEvent.TheVariants as Sem
use Rattle.mea_text.specs.declared.numbers.Numbers.{Numbers}
use Rattle.mea_text.specs.declared.numbers.Numbers.TheVariants.{One, Two}
use Rattle.mea_text.specs.Number.{AreFit}
use Rattle.mea_text.specs.Words.{listed}

-- its word, and the numbers after it in their order
abbrev pub semaphore_said : SemEvent → List ℕ × Numbers
semaphore_said (Sem.New n) = (codes "new", One n)
semaphore_said (Sem.Free s) = (codes "free", One s)
semaphore_said (Sem.Forget s n) = (codes "forget", Two s n)
semaphore_said (Sem.Forgetx s n) = (codes "forgetx", Two s n)
semaphore_said (Sem.Release s n) = (codes "release", Two s n)
semaphore_said (Sem.Try s n) = (codes "try", Two s n)
semaphore_said (Sem.Tryo s n) = (codes "tryo", Two s n)
semaphore_said (Sem.Tryf s n) = (codes "tryf", Two s n)
semaphore_said (Sem.Tryof s n) = (codes "tryof", Two s n)
semaphore_said (Sem.Acq s n) = (codes "acq", Two s n)
semaphore_said (Sem.Acqo s n) = (codes "acqo", Two s n)
semaphore_said (Sem.Acqf s n) = (codes "acqf", Two s n)
semaphore_said (Sem.Acqof s n) = (codes "acqof", Two s n)
semaphore_said (Sem.Poll f w) = (codes "poll", Two f w)
semaphore_said (Sem.End x) = (codes "end", One x)
semaphore_said (Sem.Lose p) = (codes "lose", One p)
semaphore_said (Sem.Merge p q) = (codes "merge", Two p q)
semaphore_said (Sem.Split p n) = (codes "split", Two p n)
semaphore_said (Sem.Size p) = (codes "size", One p)
semaphore_said (Sem.Endsem s) = (codes "endsem", One s)
semaphore_said (Sem.Ledger s) = (codes "ledger", One s)
semaphore_said (Sem.Close s) = (codes "close", One s)
semaphore_said (Sem.Closed s) = (codes "closed", One s)

-- each number fits its type
abbrev pub SemaphoreFits : SemEvent → Type 0
SemaphoreFits e = AreFit (listed (semaphore_said e).1)
