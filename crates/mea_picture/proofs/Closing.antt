-- a picture that is written
use Rattle.std.proofs.Common.{◌≡◌, ◌≢◌, inl, inr, ℕ, List, Option, refl, ap, sym, ◌∙◌}
use Rattle.mea_io.specs.Bytes.{HasWritten}
use Rattle.mea_script.specs.declared.status.Status.{Status}
use Rattle.mea_script.specs.Runs.{IsWriteFault, IsClosed}
use Rattle.mea_marks.specs.declared.ending.Ending.{Ending}
use Rattle.mea_marks.specs.declared.ending.Ending.TheVariants.{Whole, Stopped, Bad, Long, TooGreat}
use Rattle.mea_picture.specs.declared.status.DrawStatus.TheVariants.{Played}
use Rattle.mea_picture.specs.Picture.{IsPictureOf}
use Rattle.mea_marks.specs.Script.{Shown, marks_of}
use Rattle.mea_picture.specs.Drawing.{draw_status, IsDrawFault, IsWrittenAt, Draws}

written_at : (ending : Ending) (shown : Shown) (before text : List ℕ) (taken : Option (List ℕ)) → ending ≢ TooGreat
    → IsPictureOf (marks_of shown) text → HasWritten text before taken → IsWrittenAt ending shown before taken
written_at Whole shown before text taken not pictured whole = (text, pictured, whole)
written_at (Stopped stop) shown before text taken not pictured whole = (text, pictured, whole)
written_at Bad shown before text taken not pictured whole = (text, pictured, whole)
written_at Long shown before text taken not pictured whole = (text, pictured, whole)
written_at TooGreat shown before text taken not pictured whole = absurd (not refl)

fault_of : (status : Status) → IsWriteFault status → IsDrawFault (Played status)
fault_of status (inl failed) = inr (inl (ap Played failed))
fault_of status (inr none) = inr (inr (ap Played none))

pub closes : (shown : Shown) (status result : Status) (before text : List ℕ) (taken : Option (List ℕ)) → IsPictureOf (marks_of shown) text
    → draw_status shown ≡ Played status → shown.ending ≢ TooGreat → IsClosed text status result before taken → Draws shown (Played result) before taken
closes shown status result before text taken pictured ended not (inl part) = inl (fault_of result part.0, inr (text, pictured, part.1))
closes shown status result before text taken pictured ended not (inr whole) =
    inr (ap Played whole.0 ∙ sym ended, written_at shown.ending shown before text taken not pictured whole.1)
