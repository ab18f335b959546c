-- the lines of locks are what their events say
use Rattle.std.proofs.Common.{◌≡◌, ◌++◌, ◌∷◌, true, codes, Some, refl, rules}
use Rattle.mea_events.specs.declared.lock_event.LockEvent.{LockEvent}
use Rattle.mea_events.specs.declared.lock_event.LockEvent.TheVariants as Locks
use Rattle.mea_events.specs.declared.event.Event.TheVariants.{Lock}
use Rattle.mea_lines.specs.Lines.{event_of_word}
use Rattle.mea_lines.specs.Marks.{marks}
use Rattle.mea_lines.specs.LockLines.{mutex_lines, rw_lock_lines, condvar_lines}
use Rattle.mea_lines.specs.LockSpelling.{lock_said, LockFits}
use Rattle.mea_text.proofs.Cuts.{lacks_byte}
use Rattle.mea_text.proofs.Tables.{AreSaid}

pub lock_told : (e : LockEvent) → LockFits e → event_of_word (lock_said e).0 (lock_said e).1 ≡ Some (Lock e)
unfolding event_of_word marks mutex_lines rw_lock_lines condvar_lines
lock_told (Locks.MxNew v) fits = refl
lock_told _ fits = refl

pub lock_spaceless : (e : LockEvent) → lacks_byte 32 (lock_said e).0 ≡ true
lock_spaceless (Locks.MxNew v) = refl
lock_spaceless _ = refl

pub mutex_lines_are_said : AreSaid lock_said LockFits (λ verb. codes "mx" ++ 46 ∷ verb) mutex_lines
unfolding mutex_lines
mutex_lines_are_said = search rules

pub rw_lock_lines_are_said : AreSaid lock_said LockFits (λ verb. codes "rw" ++ 46 ∷ verb) rw_lock_lines
unfolding rw_lock_lines
rw_lock_lines_are_said = search rules

pub condvar_lines_are_said : AreSaid lock_said LockFits (λ verb. codes "cv" ++ 46 ∷ verb) condvar_lines
unfolding condvar_lines
condvar_lines_are_said = search rules
