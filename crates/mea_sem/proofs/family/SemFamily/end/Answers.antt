use Rattle.std.proofs.Common.{◌≡◌, ◌≢◌, ◌≤◌, Some, None, subst, rules, sym, ap, ◌∙◌, arith}
use Rattle.std.specs.Option.{option_copied_mut}
use Rattle.std.specs.Result.{IfOk, IfErr, OnOk, OnErr}
use Rattle.std.specs.FinMap.{get}
use Rattle.mea_family.specs.declared.stop.Stop.TheVariants.{NoMemory}
use Rattle.mea_events.specs.declared.sem_event.SemEvent.TheVariants as events
use Rattle.mea_sem_model.specs.Cause.{cause_of}
use Rattle.mea_family.specs.Play.{Part}
use Rattle.mea_sem_model.specs.Hall.{Hall}
use Rattle.mea_sem_model.specs.Waiters.{waiters}
use Rattle.mea_sem.specs.Play.{Play, PlaysIn}
use Rattle.mea_sem.proofs.Things.{at-entries, entries_gone, entries_same}
use Rattle.mea_sem.proofs.Meets.{kept_as_futures, MeetsFuture, its_semaphore, seen_as_futures}
use Rattle.mea_sem.proofs.Refusals.{future_missing, future_there, end_known}
use Rattle.mea_sem.proofs.StandingSemaphores.{is_quiet, wakers_registered}
use Rattle.mea_sem.proofs.StandingFutures.{semaphore_living, its_belongs, future_plain, future_thing}
use Rattle.mea_sem.proofs.StandingWaits.{left_within, end_done}
use Rattle.mea_sem.proofs.Endings.{living_in, beside}
use Rattle.mea_sem.proofs.Lists.{kept_lent, own, listed, lists}
use Rattle.mea_sem.proofs.Inside.{lent, part_of, played_with, seen_with}
use Rattle.mea_sem.proofs.family.SemFamily.end.Goals as goal
use Rattle.mea_sem.proofs.family.SemFamily.end.Goals.{In-Some-get_mut}

-- the future and its semaphore, as they were found
met : (c : In-Some-get_mut) → MeetsFuture (lent c.self.inside c.args.ready.now) (played_with c.args.self.now c.args.ready.now) c.args.number c.args.f c.in-Some.future c.in-Some-get_mut.entry.now
met c = record {
  meets = record { seen = (seen_with c.args.ready.now c.self.view_is); kept = (kept_lent c.self.inside c.args.ready.now c.self.view_is c.self.invariant c.requires.room); least = c.requires.next; low = omega arith };
  is = at-entries _ _ ∙ sym c.take.ensures.value ∙ c.in-Some.is;
  there = living_in (lent c.self.inside c.args.ready.now) _ _ (sym c.get_mut.ensures.value ∙ ap option_copied_mut c.in-Some-get_mut.is);
}

pub end_permit-requires-clause-no_future : goal.end_permit-requires-clause-no_future
end_permit-requires-clause-no_future c = subst (λ (p : Play). get p.hall.futures c.args.f ≡ None) (sym (seen_as_futures (lent c.self.inside c.args.ready.now) (seen_with c.args.ready.now c.self.view_is) (entries_same _ _ _ c.take.ensures.rest (sym c.take.ensures.value ∙ c.in_default.is))))
    (future_missing (lent c.self.inside c.args.ready.now) (seen_with c.args.ready.now c.self.view_is) c.args.f (at-entries _ _ ∙ sym c.take.ensures.value ∙ c.in_default.is))

pub end_permit-requires-clause-room : goal.end_permit-requires-clause-room
end_permit-requires-clause-room c = subst (λ (p : Play). waiters p.hall ≤ c.args.ready.now.registered) (sym (seen_as_futures (lent c.self.inside c.args.ready.now) (seen_with c.args.ready.now c.self.view_is) (entries_same _ _ _ c.take.ensures.rest (sym c.take.ensures.value ∙ c.in_default.is)))) c.requires.room

pub returns-in_default-clause-played : goal.returns-in_default-clause-played
returns-in_default-clause-played c = subst (λ (p : Part Hall). IfOk c.end_permit.result (λ reply. PlaysIn p c.args.number (events.End c.args.f) reply c.end_permit.new.self c.args.ready.now c.end_permit.new.ready)) (ap part_of (seen_as_futures (lent c.self.inside c.args.ready.now) (seen_with c.args.ready.now c.self.view_is) (entries_same _ _ _ c.take.ensures.rest (sym c.take.ensures.value ∙ c.in_default.is))))
    c.end_permit.ensures.played

pub returns-in_default-clause-allowed : goal.returns-in_default-clause-allowed
returns-in_default-clause-allowed c = subst (λ (p : Play). OnOk c.end_permit.result (cause_of p.hall (events.End c.args.f) ≡ None)) (seen_as_futures (lent c.self.inside c.args.ready.now) (seen_with c.args.ready.now c.self.view_is) (entries_same _ _ _ c.take.ensures.rest (sym c.take.ensures.value ∙ c.in_default.is))) c.end_permit.ensures.allowed

pub returns-in_default-clause-refused : goal.returns-in_default-clause-refused
returns-in_default-clause-refused c = subst (λ (p : Play). IfErr c.end_permit.result (λ stop. (cause_of p.hall (events.End c.args.f) ≡ Some stop) × (stop ≢ NoMemory))) (seen_as_futures (lent c.self.inside c.args.ready.now) (seen_with c.args.ready.now c.self.view_is) (entries_same _ _ _ c.take.ensures.rest (sym c.take.ensures.value ∙ c.in_default.is)))
    c.end_permit.ensures.refused

pub returns-in_default-clause-err : goal.returns-in_default-clause-err
returns-in_default-clause-err c = subst (λ (p : Part Hall). OnErr c.end_permit.result ((c.end_permit.new.self ≡ p) × (c.end_permit.new.ready ≡ c.args.ready.now))) (ap part_of (seen_as_futures (lent c.self.inside c.args.ready.now) (seen_with c.args.ready.now c.self.view_is) (entries_same _ _ _ c.take.ensures.rest (sym c.take.ensures.value ∙ c.in_default.is)))) c.end_permit.ensures.err

pub unreachable-requires : goal.unreachable-requires
unreachable-requires c =
    semaphore_living (lent c.self.inside c.args.ready.now) c.args.f (kept_lent c.self.inside c.args.ready.now c.self.view_is c.self.invariant c.requires.room) (at-entries _ _ ∙ sym c.take.ensures.value ∙ c.in-Some.is)
    (sym c.get_mut.ensures.value ∙ ap option_copied_mut c.in_default-get_mut.is)

pub end-requires : goal.end-requires
end-requires c =
    let m = met (goal.at.end-requires c).In-Some-get_mut in
    record {
      belongs = (its_belongs m).0;
      plain = future_plain m;
      thing = future_thing m;
      quiet = is_quiet (its_semaphore m);
      room = omega (arith, wakers_registered (its_semaphore m), (kept_lent c.self.inside c.args.ready.now c.self.view_is c.self.invariant c.requires.room).room);
    }

pub invariant_of-self-2 : goal.invariant_of-self-2
invariant_of-self-2 c =
    own ((end_done (met (goal.at.invariant_of-self-2 c).In-Some-get_mut)
    c.end.new.self c.end.new.ready.wakers c.end.ensures.ends.0 c.end.ensures.ends.1 (future_there (lent c.self.inside c.args.ready.now) (seen_with c.args.ready.now c.self.view_is) c.args.f c.in-Some.future (at-entries _ _ ∙ sym c.take.ensures.value ∙ c.in-Some.is)) _ _ c.end.new.ready.registered
    (entries_gone _ _ _ c.take.ensures.rest) (beside (lent c.self.inside c.args.ready.now) _ _ _ ((c.get_mut.follows.holds c.end.new.self).3 (search rules)).0) (omega (arith, c.end.ensures.ends.2)) c.end.ensures.held).kept)

pub returns-clause-played : goal.returns-clause-played
returns-clause-played c =
    listed c.tidy.ensures (lists (met (goal.at.returns-clause-played c).In-Some-get_mut).meets (end_done (met (goal.at.returns-clause-played c).In-Some-get_mut)
    c.end.new.self c.end.new.ready.wakers c.end.ensures.ends.0 c.end.ensures.ends.1 (future_there (lent c.self.inside c.args.ready.now) (seen_with c.args.ready.now c.self.view_is) c.args.f c.in-Some.future (at-entries _ _ ∙ sym c.take.ensures.value ∙ c.in-Some.is)) _ _ c.end.new.ready.registered
    (entries_gone _ _ _ c.take.ensures.rest) (beside (lent c.self.inside c.args.ready.now) _ _ _ ((c.get_mut.follows.holds c.end.new.self).3 (search rules)).0) (omega (arith, c.end.ensures.ends.2)) c.end.ensures.held) (omega (arith, left_within (met (goal.at.returns-clause-played c).In-Some-get_mut) c.end.new.self c.end.new.ready.wakers c.end.ensures.ends.0 c.end.ensures.ends.1, c.end.ensures.ends.2)))

pub returns-clause-allowed : goal.returns-clause-allowed
returns-clause-allowed c = end_known (lent c.self.inside c.args.ready.now) (seen_with c.args.ready.now c.self.view_is) c.args.f c.in-Some.future (at-entries _ _ ∙ sym c.take.ensures.value ∙ c.in-Some.is)

pub invariant_of-self : goal.invariant_of-self
invariant_of-self c = own (kept_as_futures (lent c.self.inside c.args.ready.now) (kept_lent c.self.inside c.args.ready.now c.self.view_is c.self.invariant c.requires.room) (entries_same _ _ _ c.take.ensures.rest (sym c.take.ensures.value ∙ c.in_default.is)))
