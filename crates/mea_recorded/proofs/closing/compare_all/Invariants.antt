use Rattle.std.proofs.Common.{All, ◌≡◌, true, take}
use Rattle.mea_recorded.specs.Closing.{Stands, rise_from}
use Rattle.mea_recorded.proofs.closing.compare_all.Given as goal

-- the receipts of the passes so far stand in their entries, and rise
abbrev pub invariant-loop-pass : goal.invariant-loop-pass
invariant-loop-pass g l =
    All (λ p. All (λ n. Stands l.recorded n) p.noted.items) (take l.pass-index l.passes)
    × All (λ p. rise_from 0 p.noted.items ≡ true) (take l.pass-index l.passes)
