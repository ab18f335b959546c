use Rattle.mea_task_run.proofs.Texts.{account_put, counted_once_more}
use Rattle.mea_task_run.proofs.results.put_accounts.Goals as goal

pub loop-semaphore-preserved : goal.loop-semaphore-preserved
loop-semaphore-preserved c = record {
  text = account_put c.args.executor.now c.loop-semaphore.executor _ c.loop-semaphore.semaphore c.ledger.result c.args.text.now.items c.loop-semaphore.text.items _
      c.loop-semaphore.invariant.executor c.ledger.ensures.told c.loop-semaphore.invariant.text c.in_ok-put_reply.ensures.ok;
  executor = counted_once_more c.args.executor.now c.loop-semaphore.executor _ c.loop-semaphore.semaphore c.loop-semaphore.invariant.executor c.ledger.ensures.counted;
}
