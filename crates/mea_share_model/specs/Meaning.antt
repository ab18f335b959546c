-- what each line does, and why it is refused
use Rattle.std.specs.Prelude.{ℕ, Bool, true, false, Option}
use Rattle.mea_family.specs.declared.stop.Stop.{Stop}
use Rattle.mea_family.specs.Family.{Outcome}
use Rattle.mea_events.specs.declared.share_event.ShareEvent.{ShareEvent}
use Rattle.mea_events.specs.declared.share_event.ShareEvent.TheVariants.{FsNew, FsFree, FsWaiters, FsTry, FsTryo, FsAcq, FsAcqo, FsPoll, FsKey, FsEnd, FsDrop, FsWeight, FsWeightof}
use Rattle.mea_share_model.specs.Admissions.{ShareHall}
use Rattle.mea_share_model.specs.Actions.{Action, Make, Free, Waiters, Weight, Weigh, Try, Begin, Poll, Key, End, Drop, cause_in, act_in, registers_in}

-- what each line means
abbrev pub meaning_of : ShareEvent → Action
meaning_of (FsNew n) = Make n
meaning_of (FsFree s) = Free s
meaning_of (FsWaiters s) = Waiters s
meaning_of (FsTry s k) = Try s k true
meaning_of (FsTryo s k) = Try s k false
meaning_of (FsAcq s k) = Begin s k true
meaning_of (FsAcqo s k) = Begin s k false
meaning_of (FsPoll f w) = Poll f w
meaning_of (FsKey p) = Key p
meaning_of (FsEnd x) = End x
meaning_of (FsDrop s) = Drop s
meaning_of (FsWeight s k n) = Weigh s k n
meaning_of (FsWeightof s k) = Weight s k

-- why a line is refused; none where it is not
abbrev pub cause_of : ShareHall → ShareEvent → Option Stop
cause_of h e = cause_in h (meaning_of e)

-- what follows where line i is played
abbrev pub step : ShareHall → ℕ → ShareEvent → Outcome ShareHall
step h i e = act_in h i (meaning_of e)

-- whether an event can register a waker; a poll alone can
abbrev pub registers : ShareEvent → Bool
registers e = registers_in (meaning_of e)
