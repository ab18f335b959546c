use Rattle.std.proofs.Common.{◌≡◌, ◌+◌, ◌≤◌, ◌++◌, ℕ, List, length}
use Rattle.mea_script.specs.Begun.{Keeps}
use Rattle.mea_script.specs.Player.{due, GoesOn}
use Rattle.mea_script.specs.Lines.{IsUnended, lines_ended}
use Rattle.mea_script.proofs.player.Player.play.Given as goal

-- what was due at the start is what was written and what is due now: of the line that has begun, of the rest of
-- the piece and of what comes after it
abbrev pub invariant-loop-end : goal.invariant-loop-end
invariant-loop-end g l =
    let rules = g.M.Machine.rules in
    let state = g.M.Machine.state in
    let stands_at = g.M.Machine.stands_at in
    let taken = g.K.Sink.taken in
    let faults = g.K.Sink.faults in
    record {
      stands : stands_at l.machine l.self.lines;
      more : l.fn.self.lines ≤ l.self.lines;
      counted : l.self.lines + lines_ended l.rest ≡ l.fn.self.lines + lines_ended l.piece;
      few : l.self.lines + length l.rest ≤ l.fn.self.lines + length l.piece;
      faults : faults l.fn.sink ≤ faults l.sink;
      told : (line bytes : List ℕ) (room : ℕ) → Keeps l.fn.self.begun line → IsUnended line
          → (now : List ℕ) × Keeps l.self.begun now × IsUnended now
          × GoesOn (due rules (state l.fn.machine) l.fn.self (length line + (length l.piece + room)) (line ++ (l.piece ++ bytes)))
          (due rules (state l.machine) l.self (length now + (length l.rest + room)) (now ++ (l.rest ++ bytes))) (taken l.fn.sink) (taken l.sink);
    }

abbrev pub decreases-loop-end : goal.decreases-loop-end
decreases-loop-end g l = length l.rest
