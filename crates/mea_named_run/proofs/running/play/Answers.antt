use Rattle.std.proofs.Common.{refl, [], sym, ap, ◌∙◌, Some, append-nil, arith}
use Rattle.mea_named_run.specs.Program.{text_of}
use Rattle.mea_named_run.specs.declared.counts.Counts.{Counts}
use Rattle.mea_named_run.proofs.running.play.Goals as goal

-- nothing was written
pub returns-in-Err-clause-part : goal.returns-in-Err-clause-part
returns-in-Err-clause-part g c = λ before was.
    let none : Counts = record { kept = 0; held = 0; free = 0 } in
    (none, record { same = refl; few = omega arith }, ([], text_of none, refl, was ∙ ap Some (sym (append-nil before))))
