use Rattle.std.proofs.Common.{◌+◌, ◌-◌, ◌<◌, ◌≤◌, ◌++◌, ◌∙◌, ℕ, Some, ap, sym, drop, length, arith, length-take}
use Rattle.mea_script.proofs.Ended.{taken_further, taken_to}
use Rattle.mea_script.proofs.Tells.{goes_alike, ends_later}
use Rattle.mea_script.proofs.Pieces.{took, pieces_on, nothing_left, no_room, stops_later_status, stops_later}
use Rattle.mea_script.proofs.running.play_pieces.Goals as goal

pub returns-in-Ok-eq0-clause-status : goal.returns-in-Ok-eq0-clause-status
returns-in-Ok-eq0-clause-status g c = λ script h.
    let t = c.loop-read.invariant.told script h in
    let room : ℕ = 16777216 - c.loop-read.read in
    let k : ℕ = c.in-Ok-eq0.field-0 in
    let next = c.in-Ok-eq0.ensures.goes_on t.1 t.0 room t.3 t.4 t.2 in
    let whole = pieces_on g.M.Machine.rules (g.M.Machine.state c.loop-read.machine) (g.M.Machine.state c.play_next.new.machine) _ c.loop-read.player c.play_next.new.player t.1 t.0 next.0 k room room _ _ _ (omega (arith, c.in-Ok-eq0.field-0-test)) t.5 next.5 in
    stops_later_status _ _ _ _
    (goes_alike _ _ _ _ _ (nothing_left g.M.Machine.rules (g.M.Machine.state c.play_next.new.machine) c.play_next.new.player next.0 t.0 k room c.in-Ok-eq0.field-0-test (next.4 c.in-Ok-eq0.field-0-test)) whole)
    c.finish.result c.finish.new.self.text.items (c.finish.ensures.stops next.0 (length next.0 + room) next.1 next.2 (omega arith))

pub returns-in-Ok-eq0-clause-text : goal.returns-in-Ok-eq0-clause-text
returns-in-Ok-eq0-clause-text g c = λ script before h told.
    let t = c.loop-read.invariant.told script h in
    let room : ℕ = 16777216 - c.loop-read.read in
    let k : ℕ = c.in-Ok-eq0.field-0 in
    let next = c.in-Ok-eq0.ensures.goes_on t.1 t.0 room t.3 t.4 t.2 in
    let whole = pieces_on g.M.Machine.rules (g.M.Machine.state c.loop-read.machine) (g.M.Machine.state c.play_next.new.machine) _ c.loop-read.player c.play_next.new.player t.1 t.0 next.0 k room room _ _ _ (omega (arith, c.in-Ok-eq0.field-0-test)) t.5 next.5 in
    stops_later _ _ _ _
    (goes_alike _ _ _ _ _ (nothing_left g.M.Machine.rules (g.M.Machine.state c.play_next.new.machine) c.play_next.new.player next.0 t.0 k room c.in-Ok-eq0.field-0-test (next.4 c.in-Ok-eq0.field-0-test)) whole)
    c.finish.result c.finish.new.self.text.items (c.finish.ensures.stops next.0 (length next.0 + room) next.1 next.2 (omega arith)) before told

pub loop-read-preserved : goal.loop-read-preserved
loop-read-preserved g c =
    let asked : c.in-Ok.count ≤ 16777216 - c.loop-read.read = omega (arith, c.in-Ok.ensures.few.0, c.min-asked.ensures, length-take {A = ℕ}) in
    record {
      stands = c.in-Ok.ensures.stands;
      few = omega (arith, c.in-Ok.ensures.few.1, c.loop-read.invariant.few);
      kept = c.in-Ok.ensures.kept;
      within = omega (arith, asked, c.loop-read.invariant.within);
      reads = omega (arith, c.loop-read.invariant.reads, c.play_next.ensures.source_faults);
      writes = omega (arith, c.loop-read.invariant.writes, c.play_next.ensures.faults);
      counted = λ script h.
          let t = c.loop-read.invariant.counted script h in
          let next = c.in-Ok.ensures.counted t.1 t.2 in
          let now = taken_further script t.0 t.1 t.3 c.loop-read.player.lines t.4 c.in-Ok.count c.play_next.new.player.lines next.1 in
          (now.0, now.1, next.0 ∙ ap Some (sym now.2), now.3, now.4);
      told = λ script h.
          let t = c.loop-read.invariant.told script h in
          let room : ℕ = 16777216 - (c.loop-read.read + c.in-Ok.count) in
          let next = c.in-Ok.ensures.goes_on t.1 t.0 room t.3 t.4 t.2 in (
            drop c.in-Ok.count t.0,
            next.0,
            next.3,
            next.1,
            next.2,
            pieces_on g.M.Machine.rules (g.M.Machine.state c.loop-read.machine) (g.M.Machine.state c.play_next.new.machine) _ c.loop-read.player c.play_next.new.player t.1 t.0 next.0 c.in-Ok.count room (16777216 - c.loop-read.read) _ _ _ (omega (arith, asked, c.loop-read.invariant.within)) t.5 next.5,
          );
    }

pub returns-in-Err-clause-text : goal.returns-in-Err-clause-text
returns-in-Err-clause-text g c = λ script before h told.
    let t = c.loop-read.invariant.told script h in
    ends_later _ _ c.in-Err.status before _ _ _ c.play_next.new.player.text.items t.5
    (c.in-Err.ensures.text t.1 t.0 (before ++ t.5.written) (16777216 - c.loop-read.read) t.3 t.4 t.2 (omega (arith, c.min-asked.ensures, length-take {A = ℕ})) (t.5.taken before told))

pub returns-in-Ok-eq0-take-clause-status : goal.returns-in-Ok-eq0-take-clause-status
returns-in-Ok-eq0-take-clause-status g c = λ script h.
    let t = c.loop-read.invariant.told script h in
    let room : ℕ = 16777216 - c.loop-read.read in
    let takes = took _ _ _ t.0 c.in-Ok-eq0-take.field-0 t.2 c.in-Ok-eq0-take.ensures.told in
    let empty = takes.3 (omega (arith, c.take.auto.into, c.loop-read.auto.buffer, c.requires.buffer, length-take {A = ℕ})) c.in-Ok-eq0-take.field-0-test in
    stops_later_status _ _ _ _ (goes_alike _ _ _ _ _ (nothing_left g.M.Machine.rules (g.M.Machine.state c.loop-read.machine) c.loop-read.player t.1 t.0 0 room (omega arith) empty) t.5)
    c.finish-in-Ok-eq0-take.result c.finish-in-Ok-eq0-take.new.self.text.items (c.finish-in-Ok-eq0-take.ensures.stops t.1 (length t.1 + room) t.3 t.4 (omega arith))

pub returns-in-Ok-eq0-take-clause-text : goal.returns-in-Ok-eq0-take-clause-text
returns-in-Ok-eq0-take-clause-text g c = λ script before h told.
    let t = c.loop-read.invariant.told script h in
    let room : ℕ = 16777216 - c.loop-read.read in
    let takes = took _ _ _ t.0 c.in-Ok-eq0-take.field-0 t.2 c.in-Ok-eq0-take.ensures.told in
    let empty = takes.3 (omega (arith, c.take.auto.into, c.loop-read.auto.buffer, c.requires.buffer, length-take {A = ℕ})) c.in-Ok-eq0-take.field-0-test in
    stops_later _ _ _ _ (goes_alike _ _ _ _ _ (nothing_left g.M.Machine.rules (g.M.Machine.state c.loop-read.machine) c.loop-read.player t.1 t.0 0 room (omega arith) empty) t.5)
    c.finish-in-Ok-eq0-take.result c.finish-in-Ok-eq0-take.new.self.text.items (c.finish-in-Ok-eq0-take.ensures.stops t.1 (length t.1 + room) t.3 t.4 (omega arith)) before told

pub returns-in-Ok-take-clause-status : goal.returns-in-Ok-take-clause-status
returns-in-Ok-take-clause-status g c = λ script h.
    let t = c.loop-read.invariant.told script h in
    let takes = took _ _ _ t.0 c.in-Ok-take.field-0 t.2 c.in-Ok-take.ensures.told in
    let some : 0 < length t.0 = omega (arith, takes.2, c.in-Ok-take.field-0-test) in
    stops_later_status _ _ _ _ (goes_alike _ _ _ _ _ (no_room g.M.Machine.rules (g.M.Machine.state c.loop-read.machine) c.loop-read.player t.1 t.0 c.loop-read.read c.loop-read-test.false) t.5)
    c.cut_off.result c.cut_off.new.self.text.items (c.cut_off.ensures.stops t.1 t.0 t.4 some)

pub returns-in-Ok-take-clause-text : goal.returns-in-Ok-take-clause-text
returns-in-Ok-take-clause-text g c = λ script before h told.
    let t = c.loop-read.invariant.told script h in
    let takes = took _ _ _ t.0 c.in-Ok-take.field-0 t.2 c.in-Ok-take.ensures.told in
    let some : 0 < length t.0 = omega (arith, takes.2, c.in-Ok-take.field-0-test) in
    stops_later _ _ _ _ (goes_alike _ _ _ _ _ (no_room g.M.Machine.rules (g.M.Machine.state c.loop-read.machine) c.loop-read.player t.1 t.0 c.loop-read.read c.loop-read-test.false) t.5)
    c.cut_off.result c.cut_off.new.self.text.items (c.cut_off.ensures.stops t.1 t.0 t.4 some) before told

pub returns-in-Ok-eq0-clause-taken_to : goal.returns-in-Ok-eq0-clause-taken_to
returns-in-Ok-eq0-clause-taken_to g c = λ script n h is.
    let t = c.loop-read.invariant.counted script h in
    let next = c.in-Ok-eq0.ensures.counted t.1 t.2 in
    let k : ℕ = c.in-Ok-eq0.field-0 in
    let late = c.finish.ensures.line n is in
    (drop k t.1, next.0, taken_to script t.0 t.1 t.3 c.loop-read.player.lines t.4 k n (omega (arith, c.in-Ok-eq0.field-0-test)) (omega (arith, late, next.1)))

pub returns-in-Err-clause-taken_to : goal.returns-in-Err-clause-taken_to
returns-in-Err-clause-taken_to g c = λ script n h is.
    let t = c.loop-read.invariant.counted script h in
    let took = c.in-Err.ensures.took n t.1 is t.2 in
    (drop took.0 t.1, took.2, taken_to script t.0 t.1 t.3 c.loop-read.player.lines t.4 took.0 n (omega (arith, took.1, c.min-asked.ensures, length-take {A = ℕ})) (c.in-Err.ensures.line n is))

pub returns-in-Ok-eq0-take-clause-taken_to : goal.returns-in-Ok-eq0-take-clause-taken_to
returns-in-Ok-eq0-take-clause-taken_to g c = λ script n h is.
    let t = c.loop-read.invariant.counted script h in
    let k : ℕ = c.in-Ok-eq0-take.field-0 in
    let takes = took _ _ _ t.1 k t.2 c.in-Ok-eq0-take.ensures.told in
    (drop k t.1, takes.0, taken_to script t.0 t.1 t.3 c.loop-read.player.lines t.4 k n (omega (arith, c.in-Ok-eq0-take.field-0-test)) (c.finish-in-Ok-eq0-take.ensures.line n is))

pub returns-in-Ok-take-clause-taken_to : goal.returns-in-Ok-take-clause-taken_to
returns-in-Ok-take-clause-taken_to g c = λ script n h is.
    let t = c.loop-read.invariant.counted script h in
    let k : ℕ = c.in-Ok-take.field-0 in
    let takes = took _ _ _ t.1 k t.2 c.in-Ok-take.ensures.told in
    (drop k t.1, takes.0, taken_to script t.0 t.1 t.3 c.loop-read.player.lines t.4 k n (omega (arith, c.in-Ok-take.ensures.within, length-take {A = ℕ})) (c.cut_off.ensures.line n is))
