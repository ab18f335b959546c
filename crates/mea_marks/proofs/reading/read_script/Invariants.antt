use Rattle.std.proofs.Common.{◌≡◌, ◌++◌, ◌+◌, ◌-◌, ◌≤◌, ℕ, List, Some, length}
use Rattle.mea_script.specs.Lines.{limit}
use Rattle.mea_marks.proofs.reading.read_script.Given as goal

-- what was read, and what is left
abbrev pub invariant-loop-script : goal.invariant-loop-script
invariant-loop-script g l =
    let left = g.S.Source.left in
    let faults = g.S.Source.faults in
    record {
      few : length l.script.items ≤ limit + 1;
      faults : faults l.fn.source ≤ faults l.source;
      told : (whole : List ℕ) → left l.fn.source ≡ Some whole → (rest : List ℕ) × (left l.source ≡ Some rest) × (whole ≡ l.script.items ++ rest);
    }

abbrev pub decreases-loop-script : goal.decreases-loop-script
decreases-loop-script g l = limit + 1 - length l.script.items
