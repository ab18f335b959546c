use Rattle.std.proofs.Common.{◌≤◌, ap, sym, subst, ◌∙◌, refl, arith}
use Rattle.mea_share_core.specs.Share.{released}
use Rattle.mea_share_core.specs.Fair.{Fair, share_of, waiters_of}
use Rattle.std.proofs.Common.{nat_eq}
use Rattle.mea_share.specs.Kept.{KeptAdmission}
use Rattle.mea_share.specs.Entries.{HandsOn}
use Rattle.mea_share.proofs.Handing.{gives_hands, hands_one, hands_same, one_less, as_many}
use Rattle.mea_share.proofs.admission_entry.AdmissionEntry.end_permit.Goals as goal
use Rattle.mea_share.proofs.admission_entry.AdmissionEntry.end_permit.Goals.{in-Some, in_default}

pub returns : goal.returns
returns c =
    let f = c.self.inside.core in
    let f1 = c.release.new.self in
    let old : KeptAdmission = record { fair = f; named = c.self.inside.named; things = c.self.inside.things; plain = c.self.inside.plain } in
    let quiet = ap (λ (e : KeptAdmission). e.fair.wakes) c.self.view_is ∙ c.requires.quiet in
    let room : waiters_of f ≤ c.args.ready.now.registered = rw (← c.self.view_is) at c.requires.room in
    let hands = gives_hands f f1 c.args.key.now (released (share_of nat_eq f c.args.key.now)) c.release.ensures.gives_back refl quiet in
    rw (← c.self.view_is) (
      f1,
      c.release.ensures.gives_back,
      elim c.match-next_wake.branch as (λ _. HandsOn old f1 (record old { fair = c.next_wake.new.self }) c.args.ready.now c.match-next_wake.ready) [
        | in-Some w ↦
            let is = w.in-Some.ensures.some in
            let one = one_less f f1 0 hands w.in-Some.waker c.next_wake.new.self.wakes (ap (λ (g : Fair _ _). g.wakes) is) in
            subst (λ a. HandsOn old f1 (record old { fair = c.next_wake.new.self }) c.args.ready.now a) (sym (w.ready-is ∙ w.wake.ensures))
            (hands_one old f1 c.next_wake.new.self c.release.ensures.settled c.args.ready.now w.in-Some.waker 0 hands is (omega (arith, one, room)))
        | in_default w ↦
            let none = w.in_default.ensures.none in
            subst (λ a. HandsOn old f1 (record old { fair = c.next_wake.new.self }) c.args.ready.now a) (sym w.ready-is)
            (hands_same old f1 c.next_wake.new.self c.release.ensures.settled c.args.ready.now 0 hands none.0 none.1 (as_many f f1 hands none.0))
      ],
    )
