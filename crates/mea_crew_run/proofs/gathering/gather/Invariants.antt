use Rattle.std.proofs.Common.{◌≡◌, ◌+◌, ◌*◌, ◌≤◌, ◌⊎◌, [], All, None, IfSome, vec_len, sum_by}
use Rattle.mea_crew_run.specs.Rounds.{AreRounds, StopsWorker}
use Rattle.mea_crew_run.proofs.gathering.gather.Given as goal

-- the passes so far and the workers that are left have all parts and all rounds
abbrev pub invariant-loop-worker : goal.invariant-loop-worker
invariant-loop-worker g l =
    (sum_by (λ p. p.parts) l.passes.items + vec_len l.list ≡ l.fn.rest.parts + vec_len l.initial.list)
    × (vec_len l.initial.list * l.rounds ≤ sum_by (λ p. vec_len p.noted) l.passes.items + vec_len l.list * l.rounds)
    × (sum_by (λ p. vec_len p.noted) l.passes.items + vec_len l.list * (2 * l.rounds) ≤ vec_len l.initial.list * (2 * l.rounds))
    × All (λ w. (w.pass.parts ≡ 1) × (w.fault ≡ None → AreRounds l.rounds w.pass.noted.items)) l.list.items
    × All (λ w. IfSome w.fault (λ r. StopsWorker r)) l.list.items × All (λ p. (p.noted.items ≡ []) ⊎ AreRounds l.rounds p.noted.items) l.passes.items

abbrev pub decreases-loop-worker : goal.decreases-loop-worker
decreases-loop-worker g l = vec_len l.list
