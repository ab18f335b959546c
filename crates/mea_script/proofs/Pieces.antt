-- what is due of a script that comes in pieces
use Rattle.std.proofs.Common.{◌≡◌, ◌⊎◌, inl, inr, ℕ, ◌+◌, ◌-◌, ◌≤◌, List, [], ◌++◌, length, take, drop, Option, Some, ap, sym, subst, ◌∙◌, arith, append-nil}
use Rattle.std.proofs.lemmas.List.{take-append-drop, length-take-le}
use Rattle.mea_script.specs.declared.player.Player.{Player}
use Rattle.mea_script.specs.declared.status.Status.{Status}
use Rattle.mea_script.specs.declared.status.Status.TheVariants as statuses
use Rattle.mea_io.specs.Bytes.{Rose, Takes}
use Rattle.mea_script.specs.Player.{due, GoesOn, Stops, Ends}
use Rattle.mea_script.specs.Rules.{Rules}
use Rattle.mea_script.specs.Runs.{IsFault}
use Rattle.mea_script.specs.Told.{Told}
use Rattle.mea_script.proofs.Tells.{goes_further, goes_alike, ends_later, ends_now, status_of_stop}

-- a count that rose later rose since
pub rose_since : (a b c : ℕ) → a ≤ b → Rose b c → Rose a c
rose_since a b c less (inl rose) = inl (omega arith)
rose_since a b c less (inr stands) = inr stands

-- what a source that tells its bytes gave
pub took : (old new : Option (List ℕ)) (into rest : List ℕ) (k : ℕ) → old ≡ Some rest → Takes old new into k → Takes (Some rest) new into k
took old new into rest k is h = subst (λ (o : Option (List ℕ)). Takes o new into k) is h

module _ {S E : Type 0} (m : Rules S E) (s : S) (p : Player) (line rest piece : List ℕ) (k : ℕ) (is : piece ≡ take k rest) (few : k ≤ length rest) where
  pub due_piece : (room : ℕ) → due m s p (length line + (length piece + room)) (line ++ (piece ++ drop k rest)) ≡ due m s p (length line + (k + room)) (line ++ rest)
  due_piece room =
      let size : length piece ≡ k = ap length is ∙ length-take-le k rest few in
      let joined : piece ++ drop k rest ≡ rest = ap (λ xs. xs ++ drop k rest) is ∙ take-append-drop k rest in
      λ i. due m s p (length line + (size i + room)) (line ++ joined i)

  -- the same, of all that counts
  pub due_whole : (room : ℕ) → k ≤ room → due m s p (length line + (length piece + (room - k))) (line ++ (piece ++ drop k rest)) ≡ due m s p (length line + room) (line ++ rest)
  due_whole room fits = let all : k + (room - k) ≡ room = omega arith in due_piece (room - k) ∙ ap (λ n. due m s p (length line + n) (line ++ rest)) all

pub goes_from : (old same new : Told) (first second : Option (List ℕ)) → old ≡ same → GoesOn old new first second → GoesOn same new first second
goes_from old same new first second is h = subst (λ (t : Told). GoesOn t new first second) is h

pub ends_from : (old same : Told) (status : Status) (before : List ℕ) (taken : Option (List ℕ)) (text : List ℕ) → old ≡ same → Ends status old.text before taken text → Ends status same.text before taken text
ends_from old same status before taken text is h = subst (λ (t : Told). Ends status t.text before taken text) is h

pub status_from : (old same : Told) (status : Status) → old ≡ same → IsFault status ⊎ (status ≡ old.status) → IsFault status ⊎ (status ≡ same.status)
status_from old same status is h = subst (λ (t : Told). IsFault status ⊎ (status ≡ t.status)) is h

-- a script that went on and then stopped
module _ (start now : Told) (first second : Option (List ℕ)) (g : GoesOn start now first second) (status : Status) where
  pub later_status : IsFault status ⊎ (status ≡ now.status) → IsFault status ⊎ (status ≡ start.status)
  later_status h = elim h [ inl fault ↦ inl fault | inr same ↦ inr (same ∙ sym (ap (λ t. t.status) g.told)) ]

  module _ (text : List ℕ) (stops : Stops status now text) where
    pub stops_later_status : IsFault status ⊎ (status ≡ start.status)
    stops_later_status = later_status (status_of_stop status now text stops)

    pub stops_later : (before : List ℕ) → first ≡ Some before → Ends status start.text before second text
    stops_later before is = ends_later start now status before first second second text g (ends_now status now text (before ++ g.written) second stops (g.taken before is))

-- one piece more
pub pieces_on : {S E : Type 0} (m : Rules S E) (s t : S) (start : Told) (p q : Player) (line rest next : List ℕ) (k room all : ℕ) (first second third : Option (List ℕ)) → all ≡ k + room
    → GoesOn start (due m s p (length line + all) (line ++ rest)) first second
    → GoesOn (due m s p (length line + (k + room)) (line ++ rest)) (due m t q (length next + room) (next ++ drop k rest)) second third
    → GoesOn start (due m t q (length next + room) (next ++ drop k rest)) first third
pieces_on m s t start p q line rest next k room all first second third is g h =
    goes_further start _ _ first second third (goes_alike start _ _ first second (ap (λ n. due m s p (length line + n) (line ++ rest)) is) g) h

-- nothing is left behind a line
pub nothing_left : {S E : Type 0} (m : Rules S E) (s : S) (p : Player) (line rest : List ℕ) (k room : ℕ) → k ≡ 0 → rest ≡ [] → due m s p (length line + room) (line ++ drop k rest) ≡ due m s p (length line + room) line
nothing_left m s p line rest k room none empty = (λ i. due m s p (length line + room) (line ++ drop (none i) (empty i))) ∙ ap (due m s p (length line + room)) (append-nil line)

pub no_room : {S E : Type 0} (m : Rules S E) (s : S) (p : Player) (line rest : List ℕ) (read : ℕ) → 16777216 ≤ read → due m s p (length line + (16777216 - read)) (line ++ rest) ≡ due m s p (length line) (line ++ rest)
no_room m s p line rest read full = let none : length line + (16777216 - read) ≡ length line = omega arith in ap (λ n. due m s p n (line ++ rest)) none

-- a count that rose and does not fall has risen
pub rose_still : (a b c : ℕ) → a ≤ b → b ≤ c → Rose a b → Rose a c
rose_still a b c less later rose = grind arith

-- a write failed before the last ones, or among them
pub failed_in_all : (status : Status) (a b c : ℕ) → a ≤ b → b ≤ c → (status ≡ statuses.WriteFault → Rose a b) → (status ≡ statuses.WriteFault) ⊎ Rose b c → Rose a c
failed_in_all status a b c less later before all = elim all [
  | inl is ↦ rose_still a b c less later (before is)
  | inr rose ↦ rose_since a b c less rose
]
