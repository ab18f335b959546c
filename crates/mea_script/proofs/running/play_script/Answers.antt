use Rattle.std.proofs.Common.{inl, inr, refl, ap, sym, ◌∙◌}
use Rattle.mea_io.specs.Bytes.{Rose}
use Rattle.mea_script.specs.Lines.{limit}
use Rattle.mea_script.specs.Player.{due}
use Rattle.mea_script.specs.Runs.{line_of}
use Rattle.mea_script.specs.Told.{told_by}
use Rattle.mea_script.proofs.Pieces.{failed_in_all}
use Rattle.mea_script.proofs.Ended.{no_line}
use Rattle.mea_script.proofs.Endings.{due_all, tells_nothing, tells_status, tells_all, tells_whole}
use Rattle.mea_script.proofs.running.play_script.Goals as goal

pub returns-in-Err-clause-text : goal.returns-in-Err-clause-text
returns-in-Err-clause-text g c = λ script before h told.
    tells_nothing (told_by g.M.Machine.rules (g.M.Machine.state c.args.machine) script) _ before _ (inr (inr refl)) told

pub returns-clause-status : goal.returns-clause-status
returns-clause-status g c = λ script h.
    let p = c.new-player.result in
    let m = g.M.Machine.rules in
    let s = g.M.Machine.state c.args.machine in
    tells_status (due m s p limit script) (told_by m s script) c.play_pieces-status.result c.close.result
    (due_all m s p.text.items script p.lines c.new-player.ensures.text c.new-player.ensures.lines)
    (c.play_pieces-status.ensures.status script h) c.close.ensures.same

pub returns-clause-text : goal.returns-clause-text
returns-clause-text g c = λ script before h told.
    let p = c.new-player.result in
    let m = g.M.Machine.rules in
    let s = g.M.Machine.state c.args.machine in
    tells_all (due m s p limit script) (told_by m s script) c.play_pieces-status.result c.close.result before _
    (due_all m s p.text.items script p.lines c.new-player.ensures.text c.new-player.ensures.lines)
    (c.play_pieces-status.ensures.status script h)
    (c.close.ensures.told (due m s p limit script).text before (c.play_pieces-status.ensures.text script before h told))

pub returns-clause-write_fault : goal.returns-clause-write_fault
returns-clause-write_fault g c = λ failed.
    failed_in_all c.play_pieces-status.result _ _ _ c.play_pieces-status.ensures.faults c.close.ensures.faults c.play_pieces-status.ensures.write_fault
    (c.close.ensures.write_fault failed)

pub returns-clause-taken_to : goal.returns-clause-taken_to
returns-clause-taken_to g c = λ script n h is. elim c.close.ensures.same [
  | inl fault ↦ absurd (no_line c.close.result n fault is)
  | inr same ↦ c.play_pieces-status.ensures.taken_to script n h (ap line_of (sym same) ∙ is)
]

pub returns-clause-cause : goal.returns-clause-cause
returns-clause-cause g c = λ at is. c.play_pieces-status.ensures.rules.memory at (c.close.ensures.stopped at _ is)

pub returns-clause-stopped : goal.returns-clause-stopped
returns-clause-stopped g c = λ at stop is. c.play_pieces-status.ensures.rules.caused at stop (c.close.ensures.stopped at stop is)

pub returns-clause-usage : goal.returns-clause-usage
returns-clause-usage g c = λ is. c.play_pieces-status.ensures.rules.no_usage (c.close.ensures.usage is)

pub returns-clause-whole : goal.returns-clause-whole
returns-clause-whole g c = λ script before h told.
    let reads = g.S.Source.faults in
    let writes = g.K.Sink.faults in
    λ no_reads no_writes.
    tells_whole (told_by g.M.Machine.rules (g.M.Machine.state c.args.machine) script) c.close.result before _
    (Rose (reads c.args.source.now) (reads c.play_pieces-status.new.source)) (Rose (writes c.args.sink.now) (writes c.close.new.sink))
    (λ is. c.play_pieces-status.ensures.read_fault (c.close.ensures.read_fault is)) (returns-clause-write_fault g c) no_reads no_writes
    (returns-clause-text g c script before h told)
