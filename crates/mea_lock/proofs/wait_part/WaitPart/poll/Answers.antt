use Rattle.std.proofs.Common.{refl, sym, ap, ◌∙◌, ◌&&◌}
use Rattle.std.specs.Option.{option_copied_mut}
use Rattle.mea_family.specs.Causes.{unknown_unless}
use Rattle.mea_base.proofs.Maps.{get-there, is_there}
use Rattle.mea_by_name.proofs.Own.{insert_same, put_gone}
use Rattle.mea_lock_model.specs.Locks.{is_condvar_future}
use Rattle.mea_lock.proofs.WaitEvents.{site, wait_is, some_waits, known_number, notified_number, waits_on, unchanged, refuted, place_waits, given_up, forgotten_alone, uncounted, notified_still, lists, asks, ready}
use Rattle.mea_family.proofs.Refusals.{unknown, lacking}
use Rattle.mea_lock.proofs.wait_part.WaitPart.poll.Goals as goal

pub returns-in_default : goal.returns-in_default
returns-in_default c = (unknown _ _ (ap (λ b. unknown_unless (b && is_condvar_future c.args.mutexes.now.hall c.args.f)) (wait_is (site c.self.inside.condvars c.self.inside.waits c.self.inside.next c.self.view_is c.self.invariant c.requires.next c.ranges.number.fits) c.args.f _ (sym c.get_mut.ensures.value ∙ ap option_copied_mut c.in_default.is))), refl, c.self.view_is, refl)

pub poll_until-requires-clause-there : goal.poll_until-requires-clause-there
poll_until-requires-clause-there c = (sym c.is_condvar_future.ensures ∙ c.if-not-is_condvar_future.false)

pub is_waiting_under-requires : goal.is_waiting_under-requires
is_waiting_under-requires c = known_number (site c.self.inside.condvars c.self.inside.waits c.self.inside.next c.self.view_is c.self.invariant c.requires.next c.ranges.number.fits) c.args.f c.in-Some.wait.now c.at_mut-entry.result.now (sym c.get_mut.ensures.value ∙ ap option_copied_mut c.in-Some.is) c.at_mut-entry.ensures.value

pub invariant_of-self-then-is_waiting_under : goal.invariant_of-self-then-is_waiting_under
invariant_of-self-then-is_waiting_under c = rw (c.rewake_under.ensures, insert_same c.self.inside.waits c.args.f c.in-Some.wait.now (sym c.get_mut.ensures.value ∙ ap option_copied_mut c.in-Some.is)) (waits_on (site c.self.inside.condvars c.self.inside.waits c.self.inside.next c.self.view_is c.self.invariant c.requires.next c.ranges.number.fits) c.args.f c.in-Some.wait.now c.at_mut-entry.result.now (sym c.get_mut.ensures.value ∙ ap option_copied_mut c.in-Some.is) c.at_mut-entry.ensures.value c.args.waker (c.is_waiting_under.ensures.0 c.if-is_waiting_under.true)).0

pub returns-then-is_waiting_under : goal.returns-then-is_waiting_under
returns-then-is_waiting_under c = ((λ j. unknown_unless (wait_is (site c.self.inside.condvars c.self.inside.waits c.self.inside.next c.self.view_is c.self.invariant c.requires.next c.ranges.number.fits) c.args.f _ (sym c.get_mut.ensures.value ∙ ap option_copied_mut c.in-Some.is) j && (sym c.is_condvar_future.ensures ∙ c.if-not-is_condvar_future.false) j)), rw (c.rewake_under.ensures, insert_same c.self.inside.waits c.args.f c.in-Some.wait.now (sym c.get_mut.ensures.value ∙ ap option_copied_mut c.in-Some.is)) ((waits_on (site c.self.inside.condvars c.self.inside.waits c.self.inside.next c.self.view_is c.self.invariant c.requires.next c.ranges.number.fits) c.args.f c.in-Some.wait.now c.at_mut-entry.result.now (sym c.get_mut.ensures.value ∙ ap option_copied_mut c.in-Some.is) c.at_mut-entry.ensures.value c.args.waker (c.is_waiting_under.ensures.0 c.if-is_waiting_under.true)).1 c.args.mutexes.now c.args.ready.now c.requires.mutexes))

pub invariant_of-self-in_default-list_if : goal.invariant_of-self-in_default-list_if
invariant_of-self-in_default-list_if c = rw (c.in_default-list_if.ensures.err.0, insert_same c.self.inside.waits c.args.f c.in-Some.wait.now (sym c.get_mut.ensures.value ∙ ap option_copied_mut c.in-Some.is)) (unchanged (site c.self.inside.condvars c.self.inside.waits c.self.inside.next c.self.view_is c.self.invariant c.requires.next c.ranges.number.fits) c.in-Some.wait.now.condvar c.at_mut-entry.result.now c.at_mut-entry.ensures.value).0

pub returns-in_default-list_if : goal.returns-in_default-list_if
returns-in_default-list_if c = (lacking _ _ (λ j. unknown_unless (wait_is (site c.self.inside.condvars c.self.inside.waits c.self.inside.next c.self.view_is c.self.invariant c.requires.next c.ranges.number.fits) c.args.f _ (sym c.get_mut.ensures.value ∙ ap option_copied_mut c.in-Some.is) j && (sym c.is_condvar_future.ensures ∙ c.if-not-is_condvar_future.false) j)) (λ none. none), refl, rw (c.in_default-list_if.ensures.err.0, insert_same c.self.inside.waits c.args.f c.in-Some.wait.now (sym c.get_mut.ensures.value ∙ ap option_copied_mut c.in-Some.is)) (unchanged (site c.self.inside.condvars c.self.inside.waits c.self.inside.next c.self.view_is c.self.invariant c.requires.next c.ranges.number.fits) c.in-Some.wait.now.condvar c.at_mut-entry.result.now c.at_mut-entry.ensures.value).1, c.in_default-list_if.ensures.err.1)

pub unlist_under-requires-clause-waits : goal.unlist_under-requires-clause-waits
unlist_under-requires-clause-waits c = place_waits c.at_mut-entry.result.now c.list_if.new.self c.in-Ok.place _ c.in-Ok.ensures.ok.0

pub invariant_of-self-in_default-poll_until : goal.invariant_of-self-in_default-poll_until
invariant_of-self-in_default-poll_until c = rw (c.unlist_under.ensures.entry ∙ given_up c.at_mut-entry.result.now c.list_if.new.self c.in-Ok.place _ c.in-Ok.ensures.ok.0, insert_same c.self.inside.waits c.args.f c.in-Some.wait.now (sym c.get_mut.ensures.value ∙ ap option_copied_mut c.in-Some.is)) (unchanged (site c.self.inside.condvars c.self.inside.waits c.self.inside.next c.self.view_is c.self.invariant c.requires.next c.ranges.number.fits) c.in-Some.wait.now.condvar c.at_mut-entry.result.now c.at_mut-entry.ensures.value).0

pub returns-in_default-poll_until : goal.returns-in_default-poll_until
returns-in_default-poll_until c = (lacking _ _ (λ j. unknown_unless (wait_is (site c.self.inside.condvars c.self.inside.waits c.self.inside.next c.self.view_is c.self.invariant c.requires.next c.ranges.number.fits) c.args.f _ (sym c.get_mut.ensures.value ∙ ap option_copied_mut c.in-Some.is) j && (sym c.is_condvar_future.ensures ∙ c.if-not-is_condvar_future.false) j)) (λ none. none), c.in_default-poll_until.ensures.err.0, rw (c.unlist_under.ensures.entry ∙ given_up c.at_mut-entry.result.now c.list_if.new.self c.in-Ok.place _ c.in-Ok.ensures.ok.0, insert_same c.self.inside.waits c.args.f c.in-Some.wait.now (sym c.get_mut.ensures.value ∙ ap option_copied_mut c.in-Some.is)) (unchanged (site c.self.inside.condvars c.self.inside.waits c.self.inside.next c.self.view_is c.self.invariant c.requires.next c.ranges.number.fits) c.in-Some.wait.now.condvar c.at_mut-entry.result.now c.at_mut-entry.ensures.value).1, uncounted c.args.ready.now c.list_if.new.ready c.poll_until.new.ready c.unlist_under.new.ready _ c.in-Ok.ensures.ok.1 c.in_default-poll_until.ensures.err.1 c.unlist_under.ensures.counted)

pub forget_under-requires : goal.forget_under-requires
forget_under-requires c = rw (notified_still c.at_mut-entry.result.now c.list_if.new.self c.in-Ok.place _ c.in-Ok.ensures.ok.0) (notified_number (site c.self.inside.condvars c.self.inside.waits c.self.inside.next c.self.view_is c.self.invariant c.requires.next c.ranges.number.fits) c.args.f c.in-Some.wait.now c.at_mut-entry.result.now (sym c.get_mut.ensures.value ∙ ap option_copied_mut c.in-Some.is) c.at_mut-entry.ensures.value (refuted c.is_waiting_under.result c.is_waiting_under.ensures c.if-is_waiting_under.false))

pub invariant_of-self-in-Lays : goal.invariant_of-self-in-Lays
invariant_of-self-in-Lays c = rw (c.forget_under.ensures, c.list.ensures) (lists (site c.self.inside.condvars c.self.inside.waits c.self.inside.next c.self.view_is c.self.invariant c.requires.next c.ranges.number.fits) c.args.f c.in-Some.wait.now c.at_mut-entry.result.now (sym c.get_mut.ensures.value ∙ ap option_copied_mut c.in-Some.is) c.at_mut-entry.ensures.value c.args.waker (refuted c.is_waiting_under.result c.is_waiting_under.ensures c.if-is_waiting_under.false) c.args.mutexes.now c.poll_until.new.self c.args.ready.now c.list_if.new.ready c.poll_until.new.ready c.requires.room c.in-Ok.place c.in-Ok.ensures.ok.1 (rw (c.in-Lays.is, c.until_of-until.ensures) at c.in-Ok-poll_until.ensures.ok) (rw c.in-Lays.is at c.in-Ok-poll_until.ensures.asked) c.list_if.new.self (c.in-Ok.ensures.listed ∙ c.may_go_on.ensures ∙ c.in-Ok-poll_until.ensures.lays c.in-Lays.is) c.in-Ok.ensures.ok.0).0

pub returns-in-Lays : goal.returns-in-Lays
returns-in-Lays c = ((λ j. unknown_unless (wait_is (site c.self.inside.condvars c.self.inside.waits c.self.inside.next c.self.view_is c.self.invariant c.requires.next c.ranges.number.fits) c.args.f _ (sym c.get_mut.ensures.value ∙ ap option_copied_mut c.in-Some.is) j && (sym c.is_condvar_future.ensures ∙ c.if-not-is_condvar_future.false) j)), rw (c.forget_under.ensures, c.list.ensures) (lists (site c.self.inside.condvars c.self.inside.waits c.self.inside.next c.self.view_is c.self.invariant c.requires.next c.ranges.number.fits) c.args.f c.in-Some.wait.now c.at_mut-entry.result.now (sym c.get_mut.ensures.value ∙ ap option_copied_mut c.in-Some.is) c.at_mut-entry.ensures.value c.args.waker (refuted c.is_waiting_under.result c.is_waiting_under.ensures c.if-is_waiting_under.false) c.args.mutexes.now c.poll_until.new.self c.args.ready.now c.list_if.new.ready c.poll_until.new.ready c.requires.room c.in-Ok.place c.in-Ok.ensures.ok.1 (rw (c.in-Lays.is, c.until_of-until.ensures) at c.in-Ok-poll_until.ensures.ok) (rw c.in-Lays.is at c.in-Ok-poll_until.ensures.asked) c.list_if.new.self (c.in-Ok.ensures.listed ∙ c.may_go_on.ensures ∙ c.in-Ok-poll_until.ensures.lays c.in-Lays.is) c.in-Ok.ensures.ok.0).1)

pub unlist_under-requires-in-Asks-clause-waits : goal.unlist_under-requires-in-Asks-clause-waits
unlist_under-requires-in-Asks-clause-waits c = rw c.forget_under.ensures (place_waits c.at_mut-entry.result.now c.list_if.new.self c.in-Ok.place _ c.in-Ok.ensures.ok.0)

pub invariant_of-self-in-Asks : goal.invariant_of-self-in-Asks
invariant_of-self-in-Asks c = rw (forgotten_alone c.at_mut-entry.result.now c.list_if.new.self c.forget_under.new.self c.unlist_under-in-Asks.new.self c.in-Ok.place _ _ c.in-Ok.ensures.ok.0 c.forget_under.ensures c.unlist_under-in-Asks.ensures.entry, c.ask.ensures) (asks (site c.self.inside.condvars c.self.inside.waits c.self.inside.next c.self.view_is c.self.invariant c.requires.next c.ranges.number.fits) c.args.f c.in-Some.wait.now c.at_mut-entry.result.now (sym c.get_mut.ensures.value ∙ ap option_copied_mut c.in-Some.is) c.at_mut-entry.ensures.value c.args.waker (refuted c.is_waiting_under.result c.is_waiting_under.ensures c.if-is_waiting_under.false) c.args.mutexes.now c.poll_until.new.self c.args.ready.now c.list_if.new.ready c.poll_until.new.ready c.requires.room c.in-Ok.place c.in-Ok.ensures.ok.1 (rw (c.in-Asks.is, c.until_of-until.ensures) at c.in-Ok-poll_until.ensures.ok) (rw c.in-Asks.is at c.in-Ok-poll_until.ensures.asked) c.unlist_under-in-Asks.new.ready c.unlist_under-in-Asks.ensures.counted).0

pub returns-in-Asks : goal.returns-in-Asks
returns-in-Asks c = ((λ j. unknown_unless (wait_is (site c.self.inside.condvars c.self.inside.waits c.self.inside.next c.self.view_is c.self.invariant c.requires.next c.ranges.number.fits) c.args.f _ (sym c.get_mut.ensures.value ∙ ap option_copied_mut c.in-Some.is) j && (sym c.is_condvar_future.ensures ∙ c.if-not-is_condvar_future.false) j)), rw (forgotten_alone c.at_mut-entry.result.now c.list_if.new.self c.forget_under.new.self c.unlist_under-in-Asks.new.self c.in-Ok.place _ _ c.in-Ok.ensures.ok.0 c.forget_under.ensures c.unlist_under-in-Asks.ensures.entry, c.ask.ensures) (asks (site c.self.inside.condvars c.self.inside.waits c.self.inside.next c.self.view_is c.self.invariant c.requires.next c.ranges.number.fits) c.args.f c.in-Some.wait.now c.at_mut-entry.result.now (sym c.get_mut.ensures.value ∙ ap option_copied_mut c.in-Some.is) c.at_mut-entry.ensures.value c.args.waker (refuted c.is_waiting_under.result c.is_waiting_under.ensures c.if-is_waiting_under.false) c.args.mutexes.now c.poll_until.new.self c.args.ready.now c.list_if.new.ready c.poll_until.new.ready c.requires.room c.in-Ok.place c.in-Ok.ensures.ok.1 (rw (c.in-Asks.is, c.until_of-until.ensures) at c.in-Ok-poll_until.ensures.ok) (rw c.in-Asks.is at c.in-Ok-poll_until.ensures.asked) c.unlist_under-in-Asks.new.ready c.unlist_under-in-Asks.ensures.counted).1)

pub unlist_under-requires-in-Ready-clause-waits : goal.unlist_under-requires-in-Ready-clause-waits
unlist_under-requires-in-Ready-clause-waits c = rw c.forget_under.ensures (place_waits c.at_mut-entry.result.now c.list_if.new.self c.in-Ok.place _ c.in-Ok.ensures.ok.0)

pub remove-requires : goal.remove-requires
remove-requires c = is_there _ _ (get-there c.self.inside.waits c.args.f _)

pub finish-requires : goal.finish-requires
finish-requires c = rw (forgotten_alone c.at_mut-entry.result.now c.list_if.new.self c.forget_under.new.self c.unlist_under-in-Ready.new.self c.in-Ok.place _ _ c.in-Ok.ensures.ok.0 c.forget_under.ensures c.unlist_under-in-Ready.ensures.entry) (some_waits (site c.self.inside.condvars c.self.inside.waits c.self.inside.next c.self.view_is c.self.invariant c.requires.next c.ranges.number.fits) c.args.f c.in-Some.wait.now c.at_mut-entry.result.now (sym c.get_mut.ensures.value ∙ ap option_copied_mut c.in-Some.is) c.at_mut-entry.ensures.value)

pub invariant_of-self-in-Ready : goal.invariant_of-self-in-Ready
invariant_of-self-in-Ready c = rw (c.finish.ensures, forgotten_alone c.at_mut-entry.result.now c.list_if.new.self c.forget_under.new.self c.unlist_under-in-Ready.new.self c.in-Ok.place _ _ c.in-Ok.ensures.ok.0 c.forget_under.ensures c.unlist_under-in-Ready.ensures.entry, c.remove.ensures.rest, put_gone c.self.inside.waits c.args.f c.in-Some.wait.now) (ready (site c.self.inside.condvars c.self.inside.waits c.self.inside.next c.self.view_is c.self.invariant c.requires.next c.ranges.number.fits) c.args.f c.in-Some.wait.now c.at_mut-entry.result.now (sym c.get_mut.ensures.value ∙ ap option_copied_mut c.in-Some.is) c.at_mut-entry.ensures.value c.args.waker (refuted c.is_waiting_under.result c.is_waiting_under.ensures c.if-is_waiting_under.false) c.args.mutexes.now c.poll_until.new.self c.args.ready.now c.list_if.new.ready c.poll_until.new.ready c.requires.room c.in-Ok.place c.in-Ok.ensures.ok.1 (rw (c.in-Ready.is, c.until_of-until.ensures) at c.in-Ok-poll_until.ensures.ok) c.unlist_under-in-Ready.new.ready c.unlist_under-in-Ready.ensures.counted).0

pub returns-in-Ready : goal.returns-in-Ready
returns-in-Ready c = ((λ j. unknown_unless (wait_is (site c.self.inside.condvars c.self.inside.waits c.self.inside.next c.self.view_is c.self.invariant c.requires.next c.ranges.number.fits) c.args.f _ (sym c.get_mut.ensures.value ∙ ap option_copied_mut c.in-Some.is) j && (sym c.is_condvar_future.ensures ∙ c.if-not-is_condvar_future.false) j)), rw (c.finish.ensures, forgotten_alone c.at_mut-entry.result.now c.list_if.new.self c.forget_under.new.self c.unlist_under-in-Ready.new.self c.in-Ok.place _ _ c.in-Ok.ensures.ok.0 c.forget_under.ensures c.unlist_under-in-Ready.ensures.entry, c.remove.ensures.rest, put_gone c.self.inside.waits c.args.f c.in-Some.wait.now) (ready (site c.self.inside.condvars c.self.inside.waits c.self.inside.next c.self.view_is c.self.invariant c.requires.next c.ranges.number.fits) c.args.f c.in-Some.wait.now c.at_mut-entry.result.now (sym c.get_mut.ensures.value ∙ ap option_copied_mut c.in-Some.is) c.at_mut-entry.ensures.value c.args.waker (refuted c.is_waiting_under.result c.is_waiting_under.ensures c.if-is_waiting_under.false) c.args.mutexes.now c.poll_until.new.self c.args.ready.now c.list_if.new.ready c.poll_until.new.ready c.requires.room c.in-Ok.place c.in-Ok.ensures.ok.1 (rw (c.in-Ready.is, c.until_of-until.ensures) at c.in-Ok-poll_until.ensures.ok) c.unlist_under-in-Ready.new.ready c.unlist_under-in-Ready.ensures.counted).1)
