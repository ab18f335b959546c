-- what tells one event of semaphores from another
use Rattle.std.specs.Prelude.{ℕ, List, ◌∷◌, []}
use Rattle.mea_events.specs.declared.sem_event.SemEvent.{SemEvent}
use Rattle.mea_events.specs.declared.sem_event.SemEvent.TheVariants as Sem

-- its place among the events of its family, and its numbers, 0 where it has fewer
unfoldable pub parts : SemEvent → List ℕ
parts (Sem.New a) = 0 ∷ a ∷ 0 ∷ 0 ∷ []
parts (Sem.Free a) = 1 ∷ a ∷ 0 ∷ 0 ∷ []
parts (Sem.Forget a b) = 2 ∷ a ∷ b ∷ 0 ∷ []
parts (Sem.Forgetx a b) = 3 ∷ a ∷ b ∷ 0 ∷ []
parts (Sem.Release a b) = 4 ∷ a ∷ b ∷ 0 ∷ []
parts (Sem.Try a b) = 5 ∷ a ∷ b ∷ 0 ∷ []
parts (Sem.Tryo a b) = 6 ∷ a ∷ b ∷ 0 ∷ []
parts (Sem.Tryf a b) = 7 ∷ a ∷ b ∷ 0 ∷ []
parts (Sem.Tryof a b) = 8 ∷ a ∷ b ∷ 0 ∷ []
parts (Sem.Acq a b) = 9 ∷ a ∷ b ∷ 0 ∷ []
parts (Sem.Acqo a b) = 10 ∷ a ∷ b ∷ 0 ∷ []
parts (Sem.Acqf a b) = 11 ∷ a ∷ b ∷ 0 ∷ []
parts (Sem.Acqof a b) = 12 ∷ a ∷ b ∷ 0 ∷ []
parts (Sem.Poll a b) = 13 ∷ a ∷ b ∷ 0 ∷ []
parts (Sem.End a) = 14 ∷ a ∷ 0 ∷ 0 ∷ []
parts (Sem.Lose a) = 15 ∷ a ∷ 0 ∷ 0 ∷ []
parts (Sem.Merge a b) = 16 ∷ a ∷ b ∷ 0 ∷ []
parts (Sem.Split a b) = 17 ∷ a ∷ b ∷ 0 ∷ []
parts (Sem.Size a) = 18 ∷ a ∷ 0 ∷ 0 ∷ []
parts (Sem.Endsem a) = 19 ∷ a ∷ 0 ∷ 0 ∷ []
parts (Sem.Ledger a) = 20 ∷ a ∷ 0 ∷ 0 ∷ []
parts (Sem.Close a) = 21 ∷ a ∷ 0 ∷ 0 ∷ []
parts (Sem.Closed a) = 22 ∷ a ∷ 0 ∷ 0 ∷ []
