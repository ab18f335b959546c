use Rattle.std.proofs.Common.{Some, ap, refl, arith, IsSome, length}
use Rattle.mea_base.specs.WaitList.{get}
use Rattle.mea_base.proofs.Chains.{unlinked_from_absent}
use Rattle.mea_sem_core.proofs.Grants.{Updates-with_value, Updates-Updates, unlinks_first, first_used, grants_acquire, grants_debt}
use Rattle.mea_sem_core.proofs.pouring.grant_first.Goals as goal

pub unlink_counted-requires : goal.unlink_counted-requires
unlink_counted-requires g c = first_used c.args.waiters.now c.args.number c.requires.kept c.requires.first

pub remove_unlinked-requires-clause-unlinked : goal.remove_unlinked-requires-clause-unlinked
remove_unlinked-requires-clause-unlinked g c =
    let first = unlinks_first c.args.waiters.now c.unlink_counted.new.self c.args.number c.requires.kept c.requires.first c.unlink_counted.ensures.is in
    unlinked_from_absent _ _ first.absent

pub returns-in-Some-clause-grants : goal.returns-in-Some-clause-grants
returns-in-Some-clause-grants g c =
    let first = unlinks_first c.args.waiters.now c.unlink_counted.new.self c.args.number c.requires.kept c.requires.first c.unlink_counted.ensures.is in
    let kept = rw first.is at c.requires.kept in
    let used : IsSome (get c.unlink_counted.new.self c.args.number) = rw c.get_mut_counted.ensures.value refl in
    let updates = Updates-with_value c.unlink_counted.new.self c.args.number c.grant.new.self used in
    let shorter = rw first.is at c.requires.room in
    rw first.is (
    grants_acquire _ _ _ _ _ _ first.absent updates refl c.get_mut_counted.result.now c.in-Some.waker c.get_mut_counted.ensures.value c.in-Some.ensures.waker (ap Some c.grant.ensures.granted) kept (rw c.push.ensures refl) (rw c.push.ensures (omega (arith, shorter))))

pub returns-in-None-clause-grants : goal.returns-in-None-clause-grants
returns-in-None-clause-grants g c =
    let first = unlinks_first c.args.waiters.now c.unlink_counted.new.self c.args.number c.requires.kept c.requires.first c.unlink_counted.ensures.is in
    let kept = rw first.is at c.requires.kept in
    let used : IsSome (get c.unlink_counted.new.self c.args.number) = rw c.get_mut_counted.ensures.value refl in
    let updates = Updates-Updates _ _ _ _ _ _ (Updates-with_value c.unlink_counted.new.self c.args.number c.grant.new.self used)
    c.remove_unlinked.ensures.updates in
    let shorter = rw first.is at c.requires.room in
    rw first.is (
    grants_debt _ _ _ _ _ _ first.absent updates c.remove_unlinked.ensures.order c.get_mut_counted.result.now c.get_mut_counted.ensures.value c.in-None.ensures.waker refl kept refl (omega (arith, shorter, ap length c.remove_unlinked.ensures.order)))
