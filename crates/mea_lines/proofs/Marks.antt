-- what is found by the mark of a word
use Rattle.std.proofs.Common.{◌≡◌, ◌≢◌, ℕ, ◌++◌, List, [], ◌∷◌, Option, Some, None, sym, subst, option_and_then}
use Rattle.std.specs.Str.{bytes_eq}
use Rattle.std.proofs.lemmas.Option.{option_and_then_some}
use Rattle.mea_events.specs.declared.event.Event.{Event}
use Rattle.mea_events.specs.declared.event.Event.TheVariants.{Meet, Lock, Chan, Share, Once}
use Rattle.mea_text.specs.declared.numbers.Numbers.{Numbers}
use Rattle.mea_text.specs.Tables.{of_table}
use Rattle.mea_text.proofs.Readings.{some_same}
use Rattle.mea_text.proofs.Tables.{AreSaid, IsFound, if_some, same_bytes, table_only}
use Rattle.mea_lines.specs.Marks.{Table, meet, lock, chan, share, once, of_family, marks, of_marks}
use Rattle.mea_lines.specs.Spelling.{said, Fits}
use Rattle.mea_lines.specs.MeetSpelling.{meet_said, MeetFits}
use Rattle.mea_lines.specs.LockSpelling.{lock_said, LockFits}
use Rattle.mea_lines.specs.ChanSpelling.{chan_said, ChanFits}
use Rattle.mea_lines.specs.ShareSpelling.{share_said, ShareFits}
use Rattle.mea_lines.specs.OnceSpelling.{once_said, OnceFits}
use Rattle.mea_lines.proofs.MeetSpellings.{barrier_lines_are_said, latch_lines_are_said, group_lines_are_said, shutdown_lines_are_said}
use Rattle.mea_lines.proofs.LockSpellings.{mutex_lines_are_said, rw_lock_lines_are_said, condvar_lines_are_said}
use Rattle.mea_lines.proofs.ChanSpellings.{bounded_lines_are_said, unbounded_lines_are_said, oneshot_lines_are_said, broadcast_lines_are_said, box_lines_are_said, option_box_lines_are_said}
use Rattle.mea_lines.proofs.ShareSpellings.{admission_lines_are_said}
use Rattle.mea_lines.proofs.OnceSpellings.{call_lines_are_said, cell_lines_are_said, map_lines_are_said, work_lines_are_said}

pub none_where_no_event : (o : Option Event) → ((e : Event) → o ≢ Some e) → o ≡ None
none_where_no_event None h = λ _. None
none_where_no_event (Some e) h = absurd (h e (λ _. Some e))

-- an event of all families that one of them found
pub unwrapped : {E : Type 0} (own_said : E → List ℕ × Numbers) (OwnFits : E → Type 0) (wrap : E → Event) (o : Option E) (word : List ℕ) (numbers : Numbers)
    (event : Event) → ((e : E) → IsFound own_said OwnFits word numbers e → IsFound said Fits word numbers (wrap e))
    → option_and_then (λ e. Some (wrap e)) o ≡ Some event → ((e : E) → o ≡ Some e → IsFound own_said OwnFits word numbers e) → IsFound said Fits word numbers event
unwrapped own_said OwnFits wrap o word numbers event wraps is found = option_and_then_some (λ e. Some (wrap e)) o event is
    (λ e given made. subst (IsFound said Fits word numbers) (some_same _ _ made) (wraps e (found e given)))

-- the events of a table say its words
abbrev IsSaidIn : (List ℕ → List ℕ) → Table → Type 0
IsSaidIn whole (meet lines) = AreSaid meet_said MeetFits whole lines
IsSaidIn whole (lock lines) = AreSaid lock_said LockFits whole lines
IsSaidIn whole (chan lines) = AreSaid chan_said ChanFits whole lines
IsSaidIn whole (share lines) = AreSaid share_said ShareFits whole lines
IsSaidIn whole (once lines) = AreSaid once_said OnceFits whole lines

-- and so do those of the tables behind all marks
abbrev AreMarked : List (List ℕ × Table) → Type 0
AreMarked [] = Unit {0}
AreMarked (m ∷ ms) = IsSaidIn (λ verb. m.0 ++ 46 ∷ verb) m.1 × AreMarked ms

family_only : (table : Table) (whole : List ℕ → List ℕ) (verb : List ℕ) (numbers : Numbers) (event : Event) → IsSaidIn whole table
    → of_family table verb numbers ≡ Some event → IsFound said Fits (whole verb) numbers event
family_only (meet lines) whole verb numbers event are is =
    unwrapped meet_said MeetFits Meet (of_table lines verb numbers) (whole verb) numbers event (λ e h. h) is
    (λ e given. table_only meet_said MeetFits whole lines verb numbers e are given)
family_only (lock lines) whole verb numbers event are is =
    unwrapped lock_said LockFits Lock (of_table lines verb numbers) (whole verb) numbers event (λ e h. h) is
    (λ e given. table_only lock_said LockFits whole lines verb numbers e are given)
family_only (chan lines) whole verb numbers event are is =
    unwrapped chan_said ChanFits Chan (of_table lines verb numbers) (whole verb) numbers event (λ e h. h) is
    (λ e given. table_only chan_said ChanFits whole lines verb numbers e are given)
family_only (share lines) whole verb numbers event are is =
    unwrapped share_said ShareFits Share (of_table lines verb numbers) (whole verb) numbers event (λ e h. h) is
    (λ e given. table_only share_said ShareFits whole lines verb numbers e are given)
family_only (once lines) whole verb numbers event are is =
    unwrapped once_said OnceFits Once (of_table lines verb numbers) (whole verb) numbers event (λ e h. h) is
    (λ e given. table_only once_said OnceFits whole lines verb numbers e are given)

among_marks : (ms : List (List ℕ × Table)) (mark verb : List ℕ) (numbers : Numbers) (event : Event) → AreMarked ms
    → of_marks ms mark verb numbers ≡ Some event → IsFound said Fits (mark ++ 46 ∷ verb) numbers event
among_marks [] mark verb numbers event are is = absurd (cc)
among_marks (m ∷ ms) mark verb numbers event are is =
    if_some (bytes_eq mark m.0) (of_family m.1 verb numbers) (of_marks ms mark verb numbers) event is
    (λ same given. subst (λ k. IsFound said Fits (k ++ 46 ∷ verb) numbers event) (sym (same_bytes mark m.0 same))
    (family_only m.1 (λ v. m.0 ++ 46 ∷ v) verb numbers event are.0 given))
    (among_marks ms mark verb numbers event are.1)

lines_are_said : AreMarked marks
unfolding marks
lines_are_said =
    (barrier_lines_are_said, (latch_lines_are_said, (group_lines_are_said, (shutdown_lines_are_said, (mutex_lines_are_said, (rw_lock_lines_are_said, (condvar_lines_are_said, (bounded_lines_are_said, (unbounded_lines_are_said, (oneshot_lines_are_said, (broadcast_lines_are_said, (box_lines_are_said, (option_box_lines_are_said, (admission_lines_are_said, (call_lines_are_said, (cell_lines_are_said, (map_lines_are_said, (work_lines_are_said, tt))))))))))))))))))

pub marked_only : (mark verb : List ℕ) (numbers : Numbers) (event : Event) → of_marks marks mark verb numbers ≡ Some event
    → IsFound said Fits (mark ++ 46 ∷ verb) numbers event
marked_only mark verb numbers event is = among_marks marks mark verb numbers event lines_are_said is
