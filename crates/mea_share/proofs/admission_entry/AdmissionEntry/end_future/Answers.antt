use Rattle.std.proofs.Common.{◌≤◌, ◌-◌, ap, sym, subst, ◌∙◌, arith}
use Rattle.mea_share_core.specs.Fair.{Fair, waiters_of}
use Rattle.mea_share.specs.Kept.{KeptAdmission}
use Rattle.mea_share.specs.Entries.{HandsOn}
use Rattle.mea_share.proofs.Handing.{cancels_hands, hands_one, hands_none, fewer, one_less}
use Rattle.mea_share.proofs.admission_entry.AdmissionEntry.end_future.Goals as goal
use Rattle.mea_share.proofs.admission_entry.AdmissionEntry.end_future.Goals.{in-Some, in-None}

pub overflow_sub-before : goal.overflow_sub-before
overflow_sub-before c =
    let quiet = ap (λ (e : KeptAdmission). e.fair.wakes) c.self.view_is ∙ c.requires.quiet in
    let belongs = rw (← c.self.view_is, ← c.future.view_is) at c.requires.belongs in
    let hands = cancels_hands c.self.inside.core c.cancel.new.self c.future.inside.acquire.key c.future.inside.acquire.stage belongs c.cancel.ensures.cancels quiet in
    let few = fewer c.self.inside.core c.cancel.new.self hands.0 hands.1 in
    let same = ap (λ (f : Fair _ _). waiters_of f) c.in-None.ensures.none.1 in
    omega (arith, few, same, c.num_waiters.ensures.is, c.num_waiters-before.ensures.is)

pub returns : goal.returns
returns c =
    let f = c.self.inside.core in
    let f1 = c.cancel.new.self in
    let old : KeptAdmission = record { fair = f; named = c.self.inside.named; things = c.self.inside.things; plain = c.self.inside.plain } in
    let quiet = ap (λ (e : KeptAdmission). e.fair.wakes) c.self.view_is ∙ c.requires.quiet in
    let belongs = rw (← c.self.view_is, ← c.future.view_is) at c.requires.belongs in
    let room : waiters_of f ≤ c.args.ready.now.registered = rw (← c.self.view_is) at c.requires.room in
    let hands = cancels_hands f f1 c.future.inside.acquire.key c.future.inside.acquire.stage belongs c.cancel.ensures.cancels quiet in
    rw (← c.self.view_is, ← c.future.view_is) (
      f1,
      c.cancel.ensures.cancels,
      elim c.match-next_wake.branch as (λ _. HandsOn old f1 (record old { fair = c.next_wake.new.self }) c.args.ready.now c.match-next_wake.ready) [
        | in-Some w ↦
            let is = w.in-Some.ensures.some in
            let one = one_less f f1 hands.0 hands.1 w.in-Some.waker c.next_wake.new.self.wakes (ap (λ (g : Fair _ _). g.wakes) is) in
            subst (λ a. HandsOn old f1 (record old { fair = c.next_wake.new.self }) c.args.ready.now a) (sym (w.ready-is ∙ w.wake.ensures))
            (hands_one old f1 c.next_wake.new.self c.cancel.ensures.settled c.args.ready.now w.in-Some.waker hands.0 hands.1 is (omega (arith, one, room)))
        | in-None w ↦
            let none = w.in-None.ensures.none in
            let few = fewer f f1 hands.0 hands.1 in
            let same = ap (λ (g : Fair _ _). waiters_of g) none.1 in
            let n = c.num_waiters-before.result - w.num_waiters.result in
            subst (λ a. HandsOn old f1 (record old { fair = c.next_wake.new.self }) c.args.ready.now a) (sym (w.ready-is ∙ w.unregister.ensures))
            (hands_none old f1 c.next_wake.new.self c.cancel.ensures.settled c.args.ready.now hands.0 n hands.1 none.0 none.1 (omega (arith, few, same, w.num_waiters.ensures.is, c.num_waiters-before.ensures.is)) room)
      ],
    )
