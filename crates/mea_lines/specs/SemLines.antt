-- the lines of semaphores, whose words have no mark
use Rattle.std.specs.Prelude.{List, [], ◌∷◌, codes}
use Rattle.mea_events.specs.declared.sem_event.SemEvent.{SemEvent}
use Rattle.mea_events.specs.declared.sem_event.SemEvent.TheVariants as Sem
use Rattle.mea_text.specs.Tables.{Line, one, two}

-- the lines that speak of a semaphore, its futures and its permits
unfoldable pub semaphore_lines : List (Line SemEvent)
semaphore_lines =
    one (codes "new") Sem.New ∷
    one (codes "free") Sem.Free ∷
    two (codes "forget") Sem.Forget ∷
    two (codes "forgetx") Sem.Forgetx ∷
    two (codes "release") Sem.Release ∷
    two (codes "try") Sem.Try ∷
    two (codes "tryo") Sem.Tryo ∷
    two (codes "tryf") Sem.Tryf ∷
    two (codes "tryof") Sem.Tryof ∷
    two (codes "acq") Sem.Acq ∷
    two (codes "acqo") Sem.Acqo ∷
    two (codes "acqf") Sem.Acqf ∷
    two (codes "acqof") Sem.Acqof ∷
    two (codes "poll") Sem.Poll ∷
    one (codes "end") Sem.End ∷
    one (codes "lose") Sem.Lose ∷
    two (codes "merge") Sem.Merge ∷
    two (codes "split") Sem.Split ∷
    one (codes "size") Sem.Size ∷
    one (codes "endsem") Sem.Endsem ∷
    one (codes "ledger") Sem.Ledger ∷
    one (codes "close") Sem.Close ∷
    one (codes "closed") Sem.Closed ∷
    []
