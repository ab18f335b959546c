use Rattle.std.proofs.Common.{inl, sym, ap, ◌∙◌, Some, append-nil}
use Rattle.mea_crew_run.proofs.running.play.Goals as goal

-- nothing was written
pub returns-in-Err-clause-part : goal.returns-in-Err-clause-part
returns-in-Err-clause-part g c = λ before was. inl (was ∙ ap Some (sym (append-nil before)))
