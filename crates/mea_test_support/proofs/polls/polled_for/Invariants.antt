use Rattle.mea_test_support.proofs.polls.polled_for.Given as goal

-- the wait may be polled, and gives no more than at first
abbrev pub invariant-loop : goal.invariant-loop
invariant-loop g l = record {
  again : g.F.Waits.can_poll l.wait;
  same : (x : _) → g.F.Waits.gives l.wait x → g.F.Waits.gives l.fn.wait x;
}
