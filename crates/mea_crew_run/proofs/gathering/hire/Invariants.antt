use Rattle.std.proofs.Common.{◌≡◌, ◌+◌, All, vec_len, []}
use Rattle.mea_crew_run.proofs.gathering.hire.Given as goal

-- each worker so far has a part
abbrev pub invariant-loop-i : goal.invariant-loop-i
invariant-loop-i g l =
    (l.rest.parts + l._i ≡ l.initial.rest.parts) × (l.rest.noted.items ≡ l.initial.rest.noted.items) × (vec_len l.list ≡ l._i)
    × All (λ w. (w.pass.parts ≡ 1) × (w.pass.noted.items ≡ [])) l.list.items
