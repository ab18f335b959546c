-- events of a semaphore with the same parts
use Rattle.std.proofs.Common.{◌≡◌, ℕ, List, [], ◌∷◌, refl, ap, sym, ◌∙◌, get_or}
use Rattle.mea_events.specs.declared.sem_event.SemEvent.{SemEvent}
use Rattle.mea_events.specs.declared.sem_event.SemEvent.TheVariants as Sem
use Rattle.mea_events.specs.SemParts.{parts}

-- the event at a place, with these numbers
abbrev event_at : ℕ → ℕ → ℕ → SemEvent
event_at p a b = get_or (Sem.New a ∷ Sem.Free a ∷ Sem.Forget a b ∷ Sem.Forgetx a b ∷ Sem.Release a b ∷ Sem.Try a b ∷ Sem.Tryo a b ∷ Sem.Tryf a b ∷ Sem.Tryof a b ∷ Sem.Acq a b ∷ Sem.Acqo a b ∷ Sem.Acqf a b ∷ Sem.Acqof a b ∷ Sem.Poll a b ∷ Sem.End a ∷ Sem.Lose a ∷ Sem.Merge a b ∷ Sem.Split a b ∷ Sem.Size a ∷ Sem.Endsem a ∷ Sem.Ledger a ∷ Sem.Close a ∷ Sem.Closed a ∷ []) p (Sem.New a)

abbrev event_of : List ℕ → SemEvent
event_of (p ∷ a ∷ b ∷ rest) = event_at p a b
event_of (p ∷ a ∷ []) = event_at p a 0
event_of (p ∷ []) = event_at p 0 0
event_of [] = Sem.New 0

back : (e : SemEvent) → event_of (parts e) ≡ e
unfolding parts
back (Sem.New a) = refl
back (Sem.Free a) = refl
back (Sem.Forget a b) = refl
back (Sem.Forgetx a b) = refl
back (Sem.Release a b) = refl
back (Sem.Try a b) = refl
back (Sem.Tryo a b) = refl
back (Sem.Tryf a b) = refl
back (Sem.Tryof a b) = refl
back (Sem.Acq a b) = refl
back (Sem.Acqo a b) = refl
back (Sem.Acqf a b) = refl
back (Sem.Acqof a b) = refl
back (Sem.Poll a b) = refl
back (Sem.End a) = refl
back (Sem.Lose a) = refl
back (Sem.Merge a b) = refl
back (Sem.Split a b) = refl
back (Sem.Size a) = refl
back (Sem.Endsem a) = refl
back (Sem.Ledger a) = refl
back (Sem.Close a) = refl
back (Sem.Closed a) = refl

pub parts_one : (a b : SemEvent) → parts a ≡ parts b → a ≡ b
parts_one a b e = sym (back a) ∙ ap event_of e ∙ back b
