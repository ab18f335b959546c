-- what becomes of an event that is asked for: it is played, or refused and nothing has changed
use Rattle.std.specs.Prelude.{ℕ, ◌≡◌, ◌≢◌, ◌⊎◌, Option, Some, None, Result, Ok, Err}
use Rattle.mea_base.specs.Ready.{Waking}
use Rattle.mea_family.specs.declared.answer.Answer.{Answer}
use Rattle.mea_family.specs.declared.stop.Stop.{Stop}
use Rattle.mea_family.specs.declared.stop.Stop.TheVariants as stops
use Rattle.mea_family.specs.Family.{Outcome}
use Rattle.mea_family.specs.Play.{Part, PartYields, PartRests}

-- refused for its cause, which is never want of memory; or, where there is no cause and memory may be taken, for want of it
abbrev pub Refuses : Option Stop → Type 0 → Stop → Type 0
Refuses cause free stop = ((cause ≡ Some stop) × (stop ≢ stops.NoMemory)) ⊎ ((cause ≡ None) × (stop ≡ stops.NoMemory) × (free → ⊥))

-- event number i has this cause for refusal, or this outcome: it was played; or refused, and nothing has changed
module _ {H : Type 0} (registered : H → ℕ) (cause : Option Stop) (free : Type 0) (old : Part H) (i : ℕ) (o : Outcome H) where
  abbrev pub Acts : Result Answer Stop → Part H → Waking ℕ → Waking ℕ → Type 0
  Acts (Ok answer) new before after = (cause ≡ None) × PartYields registered old i o answer new before after
  Acts (Err stop) new before after = Refuses cause free stop × (new ≡ old) × (after ≡ before)

  -- and no waker was made ready
  abbrev pub ActsQuietly : Result Answer Stop → Part H → Type 0
  ActsQuietly (Ok answer) new = (cause ≡ None) × PartRests registered old i o answer new
  ActsQuietly (Err stop) new = Refuses cause free stop × (new ≡ old)
