-- the receipts of passes, held against the entries that they name
use Rattle.std.specs.Prelude.{suc, ℕ, ◌≡◌, ◌≢◌, ◌+◌, ◌≤◌, ◌⊎◌, Bool, true, List, [], ◌∷◌, Some, slice_get, nat_lt, ◌&&◌, Any, length}
use Rattle.mea_events.specs.declared.sem_event.SemEvent.{SemEvent}
use Rattle.mea_recorded.specs.History.{History, answer_at}
use Rattle.mea_recorded.specs.declared.pass.Noted.{Noted}
use Rattle.mea_recorded.specs.declared.mismatch.Mismatch.{Mismatch}
use Rattle.mea_recorded.specs.declared.mismatch.Mismatch.TheVariants as mismatches

-- the entry of the receipt's number holds the event that was asked and the answer that was told
pub record Stands (h : History) (n : Noted) : Type 0 where
  pub event : slice_get h.events n.receipt.number ≡ Some n.asked
  pub answer : answer_at h n.receipt.number ≡ Some n.receipt.answer

-- the least number that may come after these receipts
abbrev pub next_after : ℕ → List Noted → ℕ
next_after least [] = least
next_after least (n ∷ ns) = next_after (suc n.receipt.number) ns

-- their numbers rise, from the least that may come
abbrev pub rise_from : ℕ → List Noted → Bool
rise_from least [] = true
rise_from least (n ∷ ns) = nat_lt least (suc n.receipt.number) && rise_from (suc n.receipt.number) ns

-- the numbers of two receipts that follow each other
pub record Follow (before after : ℕ) (ns : List Noted) : Type 0 where
  pub place : ℕ
  pub first : Noted
  pub second : Noted
  pub at_first : slice_get ns place ≡ Some first
  pub at_second : slice_get ns (place + 1) ≡ Some second
  pub is_first : first.receipt.number ≡ before
  pub is_second : second.receipt.number ≡ after

-- how a receipt and the history differ
abbrev pub Differs : History → Mismatch → Noted → Type 0
Differs h (mismatches.Entry number asked played told kept) n =
    (n.receipt.number ≡ number) × (n.asked ≡ asked) × (n.receipt.answer ≡ told)
    × (slice_get h.events number ≡ Some played) × (answer_at h number ≡ Some kept) × ((asked ≢ played) ⊎ (told ≢ kept))
Differs h (mismatches.Beyond number entries) n = (n.receipt.number ≡ number) × (entries ≡ length h.events) × (entries ≤ number)
Differs h (mismatches.Order before after) n = ⊥

-- two receipts that follow each other, of which the later has no greater number
abbrev pub IsOutOfOrder : List Noted → Mismatch → Type 0
IsOutOfOrder ns (mismatches.Entry number asked played told kept) = ⊥
IsOutOfOrder ns (mismatches.Beyond number entries) = ⊥
IsOutOfOrder ns (mismatches.Order before after) = Follow before after ns × (after ≤ before)

-- why the receipts of a pass and a history do not agree
abbrev pub Explains : History → Mismatch → List Noted → Type 0
Explains h m ns = Any (Differs h m) ns ⊎ IsOutOfOrder ns m

-- the first entry holds another event than was asked for it
abbrev pub BeginsOtherwise : History → SemEvent → Mismatch → Type 0
BeginsOtherwise h first (mismatches.Entry number asked played told kept) =
    (number ≡ 0) × (asked ≡ first) × (slice_get h.events 0 ≡ Some played) × (answer_at h 0 ≡ Some kept) × (told ≡ kept) × (asked ≢ played)
BeginsOtherwise h first (mismatches.Beyond number entries) = ⊥
BeginsOtherwise h first (mismatches.Order before after) = ⊥
