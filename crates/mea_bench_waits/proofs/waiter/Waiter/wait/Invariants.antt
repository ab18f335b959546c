use Rattle.mea_bench_waits.proofs.waiter.Waiter.wait.Given as goal

abbrev pub invariant-loop : goal.invariant-loop
invariant-loop g l = g.F.Waits.can_poll l.wait
