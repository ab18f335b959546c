use Rattle.std.proofs.Common.{◌≡◌, ◌+◌, ◌-◌, ◌≤◌, ◌++◌, ℕ, List, [], Some, length}
use Rattle.mea_script.specs.Begun.{Keeps}
use Rattle.mea_script.specs.Player.{due, GoesOn}
use Rattle.mea_script.specs.Lines.{IsUnended, lines_ended}
use Rattle.mea_script.proofs.running.play_pieces.Given as goal

-- what is due of the script is what was written and what is due of the line that has begun and of what is left
abbrev pub invariant-loop-read : goal.invariant-loop-read
invariant-loop-read g l =
    let rules = g.M.Machine.rules in
    let state = g.M.Machine.state in
    let stands_at = g.M.Machine.stands_at in
    let left = g.S.Source.left in
    let reads = g.S.Source.faults in
    let taken = g.K.Sink.taken in
    let writes = g.K.Sink.faults in
    record {
      stands : stands_at l.machine l.player.lines;
      few : l.player.lines ≤ l.read;
      kept : l.player.text.items ≡ [];
      within : l.read ≤ 16777216;
      reads : reads l.fn.source ≤ reads l.source;
      writes : writes l.fn.sink ≤ writes l.sink;
      counted : (script : List ℕ) → left l.fn.source ≡ Some script
          → (before : List ℕ) × (rest : List ℕ) × (left l.source ≡ Some rest) × (script ≡ before ++ rest) × (lines_ended before ≡ l.player.lines);
      told : (script : List ℕ) → left l.fn.source ≡ Some script
          → (rest : List ℕ) × (line : List ℕ) × (left l.source ≡ Some rest) × Keeps l.player.begun line × IsUnended line
          × GoesOn (due rules (state l.fn.machine) l.fn.player 16777216 script) (due rules (state l.machine) l.player (length line + (16777216 - l.read)) (line ++ rest)) (taken l.fn.sink) (taken l.sink);
    }

abbrev pub decreases-loop-read : goal.decreases-loop-read
decreases-loop-read g l = 16777216 - l.read
