-- what a player is due, by the lines that are left
use Rattle.std.proofs.Common.{if◌then◌else◌, None, ◌≡◌, inl, ◌↔◌, ℕ, suc, ◌+◌, ◌<◌, ◌≤◌, Bool, true, false, IsTrue, List, [], ◌∷◌, ◌++◌, length, nat_lt, Option, Some, refl, ap, sym, subst, ◌∙◌, arith, append-nil, append_assoc, length-append}
use Rattle.std.proofs.lemmas.Bool.Decides.{nat_tests}
use Rattle.mea_io.specs.Bytes.{HasWrittenPart}
use Rattle.mea_script.specs.declared.player.Player.{Player}
use Rattle.mea_script.specs.declared.status.Status.{Status}
use Rattle.mea_script.specs.Lines.{IsUnended}
use Rattle.mea_script.specs.Player.{due, due_from, told_of, lines_left, GoesOn, Stops, Ends}
use Rattle.mea_script.specs.Rules.{Rules, event_at}
use Rattle.mea_script.specs.Runs.{IsFault}
use Rattle.mea_script.specs.Told.{Told, with_text, told_line, told_from}
use Rattle.mea_script.proofs.Tells.{told_first, told_last, told_none, with_both, goes_further, goes_alike, ends_later, ends_now, stops_at_fault}

pub due_last : {S E : Type 0} (m : Rules S E) (s : S) (p : Player) (line : List ℕ) (room : ℕ) → IsUnended line → 0 < length line → length line ≤ room
    → due m s p room line ≡ due_from m s p false ((line ++ []) ∷ [])
due_last m s p line room unended some fits =
    ap (with_text p.text.items) (told_last m s p.lines line room unended some fits
    ∙ ap (λ l. told_from m false s p.lines (l ∷ [])) (sym (append-nil line)))

pub due_none : {S E : Type 0} (m : Rules S E) (s : S) (p : Player) (line : List ℕ) (room : ℕ) → line ≡ [] → due m s p room line ≡ due_from m s p false []
due_none m s p line room none =
    ap (λ l. due m s p room l) none ∙ ap (with_text p.text.items) (told_none m s p.lines room)

pub stops_due : (status : Status) (new : List ℕ) (one two : Told) → one ≡ two → Stops status two new → Stops status one new
stops_due status new one two same h = subst (λ (t : Told). Stops status t new) (sym same) h

pub has_bytes : (empty : Bool) (line : List ℕ) → empty ≡ false → (IsTrue empty ↔ (line ≡ [])) → 0 < length line
has_bytes empty [] not is = absurd (let yes = is.1 refl in cc)
has_bytes empty (b ∷ line) not is = omega arith

pub has_none : (empty : Bool) (line : List ℕ) → empty ≡ true → (IsTrue empty ↔ (line ≡ [])) → line ≡ []
has_none empty line true_of is = is.0 true_of

-- ---- a piece, line by line

module _ {S E : Type 0} (m : Rules S E) (s : S) (p : Player) (now end after rest bytes : List ℕ) (room : ℕ) (cuts : rest ≡ end ++ 10 ∷ after) (unended : IsUnended (now ++ end)) where
  -- what is due of the line that ends in the piece, and of what comes after it
  pub due_first : due m s p (length now + (length rest + room)) (now ++ (rest ++ bytes))
      ≡ due_from m s p (nat_lt (length after + room) (length (after ++ bytes))) ((now ++ end) ∷ lines_left (length after + room) (after ++ bytes))
  due_first =
      let joined : now ++ (rest ++ bytes) ≡ (now ++ end) ++ 10 ∷ (after ++ bytes) =
      ap (λ r. now ++ (r ++ bytes)) cuts ∙ ap (λ r. now ++ r) (append_assoc end (10 ∷ after) bytes) ∙ sym (append_assoc now end (10 ∷ (after ++ bytes))) in
      let size : length now + (length rest + room) ≡ length (now ++ end) + suc (length after + room) =
      omega (arith, ap length cuts, length-append now end, length-append end (10 ∷ after)) in
      (λ i. due m s p (size i) (joined i))
      ∙ ap (with_text p.text.items) (told_first m s p.lines (now ++ end) (after ++ bytes) (length after + room) unended)

-- what is due of the next lines, before any of them has begun
due_next : {S E : Type 0} (m : Rules S E) (s : S) (p : Player) (after bytes : List ℕ) (room : ℕ)
    → due_from m s p (nat_lt (length after + room) (length (after ++ bytes))) (lines_left (length after + room) (after ++ bytes))
    ≡ due m s p (0 + (length after + room)) ([] ++ (after ++ bytes))
unfolding told_of
due_next m s p after bytes room =
    let same : length after + room ≡ 0 + (length after + room) = omega arith in
    ap (λ k. due m s p k (after ++ bytes)) same

-- some of what is due was written
pub goes_written : {S E : Type 0} (m : Rules S E) (s : S) (p q : Player) (room : ℕ) (bytes written : List ℕ) (old new : Option (List ℕ)) → q.lines ≡ p.lines → p.text.items ≡ written ++ q.text.items
    → ((before : List ℕ) → old ≡ Some before → new ≡ Some (before ++ written)) → GoesOn (due m s p room bytes) (due m s q room bytes) old new
goes_written m s p q room bytes written old new lines split wrote = record {
  written = written;
  taken = wrote;
  told = ap (λ text. with_text text (told_of m s p.lines room bytes)) split
      ∙ with_both written q.text.items (told_of m s p.lines room bytes)
      ∙ ap (λ n. with_text written (with_text q.text.items (told_of m s n room bytes))) (sym lines);
}

-- a line was played, and its reply written or kept
pub goes_line : {S E : Type 0} (m : Rules S E) (s t : S) (start : Told) (p q r : Player) (now end after rest bytes written : List ℕ) (room : ℕ) (first second third : Option (List ℕ))
    → GoesOn start (due m s p (length now + (length rest + room)) (now ++ (rest ++ bytes))) first second
    → rest ≡ end ++ 10 ∷ after → IsUnended (now ++ end)
    → ((long : Bool) (lines : List (List ℕ)) → due_from m s p long ((now ++ end) ∷ lines) ≡ due_from m t q long lines)
    → r.lines ≡ q.lines → q.text.items ≡ written ++ r.text.items → ((before : List ℕ) → second ≡ Some before → third ≡ Some (before ++ written))
    → GoesOn start (due m t r (0 + (length after + room)) ([] ++ (after ++ bytes))) first third
goes_line m s t start p q r now end after rest bytes written room first second third so_far cuts unended played lines split wrote =
    let line : due m s p (length now + (length rest + room)) (now ++ (rest ++ bytes)) ≡ due m t q (0 + (length after + room)) ([] ++ (after ++ bytes)) =
    due_first m s p now end after rest bytes room cuts unended
    ∙ played (nat_lt (length after + room) (length (after ++ bytes))) (lines_left (length after + room) (after ++ bytes))
    ∙ due_next m t q after bytes room in
    goes_further start _ _ first second third (goes_alike start _ _ first second line so_far)
    (goes_written m t q r (0 + (length after + room)) ([] ++ (after ++ bytes)) written second third lines split wrote)

-- some of what is kept was written, and nothing more can be told
pub ends_in_part : (start next : Told) (own before : List ℕ) (first second third : Option (List ℕ)) (status : Status) (text : List ℕ) → GoesOn start (with_text own next) first second
    → IsFault status → text ≡ [] → ((b : List ℕ) → second ≡ Some b → HasWrittenPart own b third) → first ≡ Some before → Ends status start.text before third text
ends_in_part start next own before first second third status text g fault none wrote is =
    let part = wrote (before ++ g.written) (g.taken before is) in
    ends_later start (with_text own next) status before first second third text g (record {
      written = part.0;
      rest = part.1 ++ next.text;
      took = part.3;
      front = ap (λ t. t ++ next.text) part.2 ∙ append_assoc part.0 part.1 next.text ∙ ap (λ t. part.0 ++ (t ++ (part.1 ++ next.text))) (sym none);
      ended = inl fault;
    })

-- a line was played, and its reply written in part
pub ends_line : {S E : Type 0} (m : Rules S E) (s t : S) (start : Told) (p q : Player) (now end after rest bytes before : List ℕ) (room : ℕ) (first second third : Option (List ℕ)) (status : Status) (text : List ℕ)
    → GoesOn start (due m s p (length now + (length rest + room)) (now ++ (rest ++ bytes))) first second
    → rest ≡ end ++ 10 ∷ after → IsUnended (now ++ end)
    → ((long : Bool) (lines : List (List ℕ)) → due_from m s p long ((now ++ end) ∷ lines) ≡ due_from m t q long lines)
    → IsFault status → text ≡ [] → ((b : List ℕ) → second ≡ Some b → HasWrittenPart q.text.items b third) → first ≡ Some before
    → Ends status start.text before third text
ends_line m s t start p q now end after rest bytes before room first second third status text so_far cuts unended played =
    let next : Told = told_from m (nat_lt (length after + room) (length (after ++ bytes))) t q.lines (lines_left (length after + room) (after ++ bytes)) in
    let line : due m s p (length now + (length rest + room)) (now ++ (rest ++ bytes)) ≡ with_text q.text.items next =
    due_first m s p now end after rest bytes room cuts unended
    ∙ played (nat_lt (length after + room) (length (after ++ bytes))) (lines_left (length after + room) (after ++ bytes)) in
    ends_in_part start next q.text.items before first second third status text (goes_alike start _ _ first second line so_far)

-- a line ended the script
pub stops_at_line : {S E : Type 0} (m : Rules S E) (s : S) (p : Player) (now end after rest bytes : List ℕ) (room : ℕ) (status : Status) (text : List ℕ) → rest ≡ end ++ 10 ∷ after → IsUnended (now ++ end)
    → ((long : Bool) (lines : List (List ℕ)) → Stops status (due_from m s p long ((now ++ end) ∷ lines)) text)
    → Stops status (due m s p (length now + (length rest + room)) (now ++ (rest ++ bytes))) text
stops_at_line m s p now end after rest bytes room status text cuts unended stops =
    stops_due status text _ _ (due_first m s p now end after rest bytes room cuts unended)
    (stops (nat_lt (length after + room) (length (after ++ bytes))) (lines_left (length after + room) (after ++ bytes)))

-- nothing more can be told
pub ends_at_fault : {S E : Type 0} (m : Rules S E) (s : S) (start : Told) (p : Player) (room : ℕ) (bytes before : List ℕ) (first second : Option (List ℕ)) (status : Status)
    → GoesOn start (due m s p room bytes) first second → IsFault status → first ≡ Some before → Ends status start.text before second p.text.items
ends_at_fault m s start p room bytes before first second status so_far fault is =
    ends_later start (due m s p room bytes) status before first second second p.text.items so_far
    (ends_now status (due m s p room bytes) p.text.items (before ++ so_far.written) second
    (stops_at_fault status p.text.items (told_of m s p.lines room bytes) fault) (so_far.taken before is))

-- what no newline ends goes to the next piece
pub due_begun : {S E : Type 0} (m : Rules S E) (s : S) (p : Player) (now rest bytes : List ℕ) (room : ℕ)
    → due m s p (length now + (length rest + room)) (now ++ (rest ++ bytes)) ≡ due m s p (length (now ++ rest) + room) ((now ++ rest) ++ bytes)
due_begun m s p now rest bytes room =
    let size : length now + (length rest + room) ≡ length (now ++ rest) + room = omega (arith, length-append now rest) in
    λ i. due m s p (size i) (sym (append_assoc now rest bytes) i)

-- ---- a line that is there whole

-- one of more than 96 bytes stands for no event
pub long_line : {S E : Type 0} (m : Rules S E) (s : S) (line : List ℕ) → 96 < length line → event_at m s line ≡ None
long_line m s line more =
    let long : nat_lt 96 (length line) ≡ true = grind (arith, nat_tests) in
    ap (λ t. if t then None else m.event s line) long

-- another for the one that the rules say
pub short_line : {S E : Type 0} (m : Rules S E) (s : S) (line : List ℕ) → length line ≤ 96 → event_at m s line ≡ m.event s line
short_line m s line few =
    let short : nat_lt 96 (length line) ≡ false = grind (arith, nat_tests) in
    ap (λ t. if t then None else m.event s line) short

-- what was done of the event is done of the line
module _ {S E : Type 0} (m : Rules S E) (s t : S) (p q : Player) (line : List ℕ) (event : Option E) (is : event_at m s line ≡ event) where
  line_told : (long : Bool) (lines : List (List ℕ)) → due_from m s p long (line ∷ lines)
      ≡ with_text p.text.items (told_line m s p.lines event (λ after. told_from m long after (p.lines + 1) lines))
  line_told long lines = ap (λ o. with_text p.text.items (told_line m s p.lines o (λ after. told_from m long after (p.lines + 1) lines))) is

  pub line_played : ((long : Bool) (lines : List (List ℕ)) → with_text p.text.items (told_line m s p.lines event (λ after. told_from m long after (p.lines + 1) lines)) ≡ due_from m t q long lines)
      → (long : Bool) (lines : List (List ℕ)) → due_from m s p long (line ∷ lines) ≡ due_from m t q long lines
  line_played played = λ long lines. line_told long lines ∙ played long lines

  pub line_stops : (status : Status) (new : List ℕ) → ((long : Bool) (lines : List (List ℕ)) → Stops status (with_text p.text.items (told_line m s p.lines event (λ after. told_from m long after (p.lines + 1) lines))) new)
      → (long : Bool) (lines : List (List ℕ)) → Stops status (due_from m s p long (line ∷ lines)) new
  line_stops status new stops = λ long lines. stops_due status new _ _ (line_told long lines) (stops long lines)

-- where no line has begun, a line is what ends it
pub alone_played : {S E : Type 0} (m : Rules S E) (s t : S) (p q : Player) (line end : List ℕ) → line ≡ []
    → ((long : Bool) (lines : List (List ℕ)) → due_from m s p long (end ∷ lines) ≡ due_from m t q long lines)
    → (long : Bool) (lines : List (List ℕ)) → due_from m s p long ((line ++ end) ∷ lines) ≡ due_from m t q long lines
alone_played m s t p q line end none played long lines = ap (λ l. due_from m s p long ((l ++ end) ∷ lines)) none ∙ played long lines

pub alone_stops : {S E : Type 0} (m : Rules S E) (s : S) (p : Player) (line end new : List ℕ) (status : Status) → line ≡ []
    → ((long : Bool) (lines : List (List ℕ)) → Stops status (due_from m s p long (end ∷ lines)) new)
    → (long : Bool) (lines : List (List ℕ)) → Stops status (due_from m s p long ((line ++ end) ∷ lines)) new
alone_stops m s p line end new status none stops long lines = stops_due status new _ _ (ap (λ l. due_from m s p long ((l ++ end) ∷ lines)) none) (stops long lines)
