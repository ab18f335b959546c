use Rattle.std.proofs.Common.{◌≡◌, ◌-◌, ◌∙◌, sym, ap, arith}
use Rattle.mea_sem_core.proofs.Walks.{walks_in_use, walks_turn, walks_end, walks_owes, walks_lacks}
use Rattle.mea_sem_core.proofs.pouring.lack_at_most.Goals as goal
use Rattle.mea_sem_core.proofs.pouring.lack_at_most.Goals.{then-is_debt-via-then-is_debt, then-is_debt-via-else-is_debt+then-rest-lack}

pub get-record-requires : goal.get-record-requires
get-record-requires g c = walks_in_use c.args.waiters.now c.in-Some.number c.loop-next.rest c.args.most c.requires (rw c.in-Some.is at c.loop-next.invariant)

pub returns-then-is_debt : goal.returns-then-is_debt
returns-then-is_debt g c =
    let so = rw c.in-Some.is at c.loop-next.invariant in
    let w = c.args.waiters.now in
    let n = c.in-Some.number in
    let place = c.get-record.result.now in (
      λ is. absurd (cc),
      λ both. elim c.then-is_debt.branch [
        | then-is_debt-via-then-is_debt v ↦ absurd (walks_owes w n c.loop-next.rest c.args.most place so c.get-record.ensures (sym c.is_debt.ensures ∙ v.if-is_debt.true) both.0)
        | then-is_debt-via-else-is_debt+then-rest-lack v ↦ absurd (walks_lacks w n c.loop-next.rest c.args.most place so c.get-record.ensures (rw v.lack.ensures at v.if-rest-lack.true) both.1)
      ],
    )

pub loop-next-smaller : goal.loop-next-smaller
loop-next-smaller g c =
    let so = rw c.in-Some.is at c.loop-next.invariant in
    let fits = rw c.lack.ensures at c.if-rest-lack.false in
    let turn = walks_turn c.args.waiters.now c.in-Some.number c.loop-next.rest c.args.most c.next-next.result c.get-record.result.now c.requires so c.get-record.ensures (sym c.is_debt.ensures ∙ c.if-is_debt.false) fits c.next-next.ensures.some c.next-next.ensures.last in
    rw c.in-Some.is turn.less

pub loop-next-preserved : goal.loop-next-preserved
loop-next-preserved g c =
    let so = rw c.in-Some.is at c.loop-next.invariant in
    let fits = rw c.lack.ensures at c.if-rest-lack.false in
    let turn = walks_turn c.args.waiters.now c.in-Some.number c.loop-next.rest c.args.most c.next-next.result c.get-record.result.now c.requires so c.get-record.ensures (sym c.is_debt.ensures ∙ c.if-is_debt.false) fits c.next-next.ensures.some c.next-next.ensures.last in
    rw c.lack-rest.ensures turn.walks
