-- texts that grow at their end
use Rattle.std.proofs.Common.{◌≡◌, ℕ, ◌-◌, ◌++◌, ◌≤◌, List, length, take, ap, sym, ◌∙◌, arith, length-append}
use Rattle.std.proofs.lemmas.List.{take-take}
use Rattle.std.proofs.Math.Seq.{take-append_seam}

-- what was there before something was put stays, whatever is put after it
pub kept_before : (old put mid new : List ℕ) → mid ≡ old ++ put → take (length mid) new ≡ mid → take (length old) new ≡ old
kept_before old put mid new is kept =
    let longer : length old ≤ length mid = omega (arith, ap length is, length-append old put) in
    sym (take-take (length old) (length mid) new longer)
    ∙ ap (take (length old)) (kept ∙ is)
    ∙ take-append_seam old put
