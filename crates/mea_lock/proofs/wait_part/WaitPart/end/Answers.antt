use Rattle.std.proofs.Common.{sym, ap, ◌∙◌, arith}
use Rattle.std.proofs.lemmas.Bool.{not-true, not-false, and_parts}
use Rattle.mea_family.specs.Causes.{unknown_unless}
use Rattle.mea_lock.proofs.WaitEvents.{site, wait_there, some_waits, known_number, notified_number, refuted, under_waits, one_counted, one_waits, waiting_fits, ends_waiting, ends_quietly, ends_last, next_there, ends_passing}
use Rattle.mea_lock.proofs.wait_part.WaitPart.end.Goals as goal

pub remove-wait-requires : goal.remove-wait-requires
remove-wait-requires c = wait_there (site c.self.inside.condvars c.self.inside.waits c.self.inside.next c.self.view_is c.self.invariant c.requires.next c.ranges.number.fits) c.args.f (and_parts _ _ (sym c.lives.ensures ∙ c.if-not-lives.false)).0

pub finish-requires : goal.finish-requires
finish-requires c = some_waits (site c.self.inside.condvars c.self.inside.waits c.self.inside.next c.self.view_is c.self.invariant c.requires.next c.ranges.number.fits) c.args.f c.remove-wait.result c.at_mut-entry.result.now c.remove-wait.ensures.value c.at_mut-entry.ensures.value

pub is_waiting_under-requires : goal.is_waiting_under-requires
is_waiting_under-requires c = rw c.finish.ensures (known_number (site c.self.inside.condvars c.self.inside.waits c.self.inside.next c.self.view_is c.self.invariant c.requires.next c.ranges.number.fits) c.args.f c.remove-wait.result c.at_mut-entry.result.now c.remove-wait.ensures.value c.at_mut-entry.ensures.value)

pub unlist_under-requires-clause-waits : goal.unlist_under-requires-clause-waits
unlist_under-requires-clause-waits c = under_waits c.finish.new.self.condvar c.remove-wait.result.number (c.is_waiting_under.ensures.0 c.if-is_waiting_under.true)

pub unlist_under-requires-clause-room : goal.unlist_under-requires-clause-room
unlist_under-requires-clause-room c = omega (arith, one_counted c.at_mut-entry.result.now.condvar c.remove-wait.result.number (rw c.finish.ensures at (c.is_waiting_under.ensures.0 c.if-is_waiting_under.true)), one_waits (site c.self.inside.condvars c.self.inside.waits c.self.inside.next c.self.view_is c.self.invariant c.requires.next c.ranges.number.fits) c.args.f c.remove-wait.result c.at_mut-entry.result.now c.remove-wait.ensures.value c.at_mut-entry.ensures.value c.args.mutexes.now c.end_wait-answer.new.self c.end_wait-answer.result c.args.ready.now c.end_wait-answer.new.ready c.requires.room c.end_wait-answer.ensures (rw c.finish.ensures at (c.is_waiting_under.ensures.0 c.if-is_waiting_under.true)))

pub invariant_of-self : goal.invariant_of-self
invariant_of-self c = rw (c.remove-wait.ensures.rest, c.unlist_under.ensures.entry, c.finish.ensures) (ends_waiting (site c.self.inside.condvars c.self.inside.waits c.self.inside.next c.self.view_is c.self.invariant c.requires.next c.ranges.number.fits) c.args.f c.remove-wait.result c.at_mut-entry.result.now c.remove-wait.ensures.value c.at_mut-entry.ensures.value c.args.mutexes.now c.end_wait-answer.new.self c.end_wait-answer.result c.args.ready.now c.end_wait-answer.new.ready c.requires.room c.end_wait-answer.ensures (rw c.finish.ensures at (c.is_waiting_under.ensures.0 c.if-is_waiting_under.true)) c.unlist_under.new.ready (rw (one_counted c.at_mut-entry.result.now.condvar c.remove-wait.result.number (rw c.finish.ensures at (c.is_waiting_under.ensures.0 c.if-is_waiting_under.true))) at c.unlist_under.ensures.counted)).0

pub returns-then-is_waiting_under : goal.returns-then-is_waiting_under
returns-then-is_waiting_under c = (ap unknown_unless (sym c.lives.ensures ∙ c.if-not-lives.false), rw (c.remove-wait.ensures.rest, c.unlist_under.ensures.entry, c.finish.ensures) (ends_waiting (site c.self.inside.condvars c.self.inside.waits c.self.inside.next c.self.view_is c.self.invariant c.requires.next c.ranges.number.fits) c.args.f c.remove-wait.result c.at_mut-entry.result.now c.remove-wait.ensures.value c.at_mut-entry.ensures.value c.args.mutexes.now c.end_wait-answer.new.self c.end_wait-answer.result c.args.ready.now c.end_wait-answer.new.ready c.requires.room c.end_wait-answer.ensures (rw c.finish.ensures at (c.is_waiting_under.ensures.0 c.if-is_waiting_under.true)) c.unlist_under.new.ready (rw (one_counted c.at_mut-entry.result.now.condvar c.remove-wait.result.number (rw c.finish.ensures at (c.is_waiting_under.ensures.0 c.if-is_waiting_under.true))) at c.unlist_under.ensures.counted)).1)

pub forget_under-requires : goal.forget_under-requires
forget_under-requires c = rw c.finish.ensures (notified_number (site c.self.inside.condvars c.self.inside.waits c.self.inside.next c.self.view_is c.self.invariant c.requires.next c.ranges.number.fits) c.args.f c.remove-wait.result c.at_mut-entry.result.now c.remove-wait.ensures.value c.at_mut-entry.ensures.value (λ under. refuted c.is_waiting_under.result c.is_waiting_under.ensures c.if-is_waiting_under.false (rw c.finish.ensures under)))

pub invariant_of-self-then-not-wait : goal.invariant_of-self-then-not-wait
invariant_of-self-then-not-wait c = rw (c.remove-wait.ensures.rest, c.forget_under.ensures, c.finish.ensures) (ends_quietly (site c.self.inside.condvars c.self.inside.waits c.self.inside.next c.self.view_is c.self.invariant c.requires.next c.ranges.number.fits) c.args.f c.remove-wait.result c.at_mut-entry.result.now c.remove-wait.ensures.value c.at_mut-entry.ensures.value c.args.mutexes.now c.end_wait-answer.new.self c.end_wait-answer.result c.args.ready.now c.end_wait-answer.new.ready c.requires.room c.end_wait-answer.ensures (λ under. refuted c.is_waiting_under.result c.is_waiting_under.ensures c.if-is_waiting_under.false (rw c.finish.ensures under)) (not-true c.remove-wait.result.alone c.if-not-wait.true)).0

pub returns-then-not-wait : goal.returns-then-not-wait
returns-then-not-wait c = (ap unknown_unless (sym c.lives.ensures ∙ c.if-not-lives.false), rw (c.remove-wait.ensures.rest, c.forget_under.ensures, c.finish.ensures) (ends_quietly (site c.self.inside.condvars c.self.inside.waits c.self.inside.next c.self.view_is c.self.invariant c.requires.next c.ranges.number.fits) c.args.f c.remove-wait.result c.at_mut-entry.result.now c.remove-wait.ensures.value c.at_mut-entry.ensures.value c.args.mutexes.now c.end_wait-answer.new.self c.end_wait-answer.result c.args.ready.now c.end_wait-answer.new.ready c.requires.room c.end_wait-answer.ensures (λ under. refuted c.is_waiting_under.result c.is_waiting_under.ensures c.if-is_waiting_under.false (rw c.finish.ensures under)) (not-true c.remove-wait.result.alone c.if-not-wait.true)).1)

pub notify_one-requires-clause-room : goal.notify_one-requires-clause-room
notify_one-requires-clause-room c = rw (c.forget_under.ensures, c.finish.ensures) (waiting_fits (site c.self.inside.condvars c.self.inside.waits c.self.inside.next c.self.view_is c.self.invariant c.requires.next c.ranges.number.fits) c.args.f c.remove-wait.result c.at_mut-entry.result.now c.remove-wait.ensures.value c.at_mut-entry.ensures.value c.args.mutexes.now c.end_wait-answer.new.self c.end_wait-answer.result c.args.ready.now c.end_wait-answer.new.ready c.requires.room c.end_wait-answer.ensures)

pub invariant_of-self-in_default : goal.invariant_of-self-in_default
invariant_of-self-in_default c = rw (c.in_default.ensures.none.1, c.remove-wait.ensures.rest, c.forget_under.ensures, c.finish.ensures) (ends_last (site c.self.inside.condvars c.self.inside.waits c.self.inside.next c.self.view_is c.self.invariant c.requires.next c.ranges.number.fits) c.args.f c.remove-wait.result c.at_mut-entry.result.now c.remove-wait.ensures.value c.at_mut-entry.ensures.value c.args.mutexes.now c.end_wait-answer.new.self c.end_wait-answer.result c.args.ready.now c.end_wait-answer.new.ready c.requires.room c.end_wait-answer.ensures (λ under. refuted c.is_waiting_under.result c.is_waiting_under.ensures c.if-is_waiting_under.false (rw c.finish.ensures under)) (not-false c.remove-wait.result.alone c.if-not-wait.false) (rw (c.forget_under.ensures, c.finish.ensures) at c.in_default.ensures.none.0)).0

pub returns-in_default : goal.returns-in_default
returns-in_default c = (ap unknown_unless (sym c.lives.ensures ∙ c.if-not-lives.false), rw (c.in_default.ensures.none.1, c.in_default.ensures.none.2, c.remove-wait.ensures.rest, c.forget_under.ensures, c.finish.ensures) (ends_last (site c.self.inside.condvars c.self.inside.waits c.self.inside.next c.self.view_is c.self.invariant c.requires.next c.ranges.number.fits) c.args.f c.remove-wait.result c.at_mut-entry.result.now c.remove-wait.ensures.value c.at_mut-entry.ensures.value c.args.mutexes.now c.end_wait-answer.new.self c.end_wait-answer.result c.args.ready.now c.end_wait-answer.new.ready c.requires.room c.end_wait-answer.ensures (λ under. refuted c.is_waiting_under.result c.is_waiting_under.ensures c.if-is_waiting_under.false (rw c.finish.ensures under)) (not-false c.remove-wait.result.alone c.if-not-wait.false) (rw (c.forget_under.ensures, c.finish.ensures) at c.in_default.ensures.none.0)).1)

pub at_mut-requires : goal.at_mut-requires
at_mut-requires c = rw c.remove-wait.ensures.rest (next_there (site c.self.inside.condvars c.self.inside.waits c.self.inside.next c.self.view_is c.self.invariant c.requires.next c.ranges.number.fits) c.args.f c.remove-wait.result c.at_mut-entry.result.now c.remove-wait.ensures.value c.at_mut-entry.ensures.value c.args.mutexes.now c.end_wait-answer.new.self c.end_wait-answer.result c.args.ready.now c.end_wait-answer.new.ready c.requires.room c.end_wait-answer.ensures (λ under. refuted c.is_waiting_under.result c.is_waiting_under.ensures c.if-is_waiting_under.false (rw c.finish.ensures under)) (not-false c.remove-wait.result.alone c.if-not-wait.false) c.in-Some.next c.notify_one.new.self c.notify_one.new.ready (rw (c.forget_under.ensures, c.finish.ensures) at c.in-Some.ensures.some))

pub invariant_of-self-2 : goal.invariant_of-self-2
invariant_of-self-2 c = rw c.remove-wait.ensures.rest (ends_passing (site c.self.inside.condvars c.self.inside.waits c.self.inside.next c.self.view_is c.self.invariant c.requires.next c.ranges.number.fits) c.args.f c.remove-wait.result c.at_mut-entry.result.now c.remove-wait.ensures.value c.at_mut-entry.ensures.value c.args.mutexes.now c.end_wait-answer.new.self c.end_wait-answer.result c.args.ready.now c.end_wait-answer.new.ready c.requires.room c.end_wait-answer.ensures (λ under. refuted c.is_waiting_under.result c.is_waiting_under.ensures c.if-is_waiting_under.false (rw c.finish.ensures under)) (not-false c.remove-wait.result.alone c.if-not-wait.false) c.in-Some.next c.notify_one.new.self c.notify_one.new.ready (rw (c.forget_under.ensures, c.finish.ensures) at c.in-Some.ensures.some) c.at_mut.result.now (rw c.remove-wait.ensures.rest at c.at_mut.ensures.value)).0

pub returns : goal.returns
returns c = (ap unknown_unless (sym c.lives.ensures ∙ c.if-not-lives.false), rw c.remove-wait.ensures.rest (ends_passing (site c.self.inside.condvars c.self.inside.waits c.self.inside.next c.self.view_is c.self.invariant c.requires.next c.ranges.number.fits) c.args.f c.remove-wait.result c.at_mut-entry.result.now c.remove-wait.ensures.value c.at_mut-entry.ensures.value c.args.mutexes.now c.end_wait-answer.new.self c.end_wait-answer.result c.args.ready.now c.end_wait-answer.new.ready c.requires.room c.end_wait-answer.ensures (λ under. refuted c.is_waiting_under.result c.is_waiting_under.ensures c.if-is_waiting_under.false (rw c.finish.ensures under)) (not-false c.remove-wait.result.alone c.if-not-wait.false) c.in-Some.next c.notify_one.new.self c.notify_one.new.ready (rw (c.forget_under.ensures, c.finish.ensures) at c.in-Some.ensures.some) c.at_mut.result.now (rw c.remove-wait.ensures.rest at c.at_mut.ensures.value)).1)
