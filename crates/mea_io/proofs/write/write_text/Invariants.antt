use Rattle.std.proofs.Common.{◌≡◌, ◌≤◌, ◌++◌, ℕ, List, Some, length}
use Rattle.mea_io.proofs.write.write_text.Given as goal

-- what was written and what is left are the text
abbrev pub invariant-loop-rest : goal.invariant-loop-rest
invariant-loop-rest g l =
    let taken = g.K.Sink.taken in
    let faults = g.K.Sink.faults in
    record {
      told : (before : List ℕ) → taken l.fn.sink ≡ Some before → (written : List ℕ) × (taken l.sink ≡ Some (before ++ written)) × (l.text ≡ written ++ l.rest);
      faults : faults l.fn.sink ≤ faults l.sink;
    }

abbrev pub decreases-loop-rest : goal.decreases-loop-rest
decreases-loop-rest g l = length l.rest
