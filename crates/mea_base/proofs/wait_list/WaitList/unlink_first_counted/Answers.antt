use Rattle.mea_base.proofs.Chains.{first-without}
use Rattle.mea_base.proofs.wait_list.WaitList.unlink_first_counted.Goals as goal

pub returns-clause-some : goal.returns-clause-some
returns-clause-some g c =
    let order = first-without c.in_ok-first.first c.args.self.now.order c.in_ok-first.ensures.some c.in_ok-first.ensures.sound.distinct in
    rw c.unlink_counted.ensures.is (λ i. record { order = order i; slots = c.args.self.now.slots; spare = c.args.self.now.spare })
