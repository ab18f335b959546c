-- what is told of a script, line by line
use Rattle.std.specs.Prelude.{ℕ, ◌+◌, Bool, true, false, List, [], ◌∷◌, ◌++◌, Option, Some, None, codes}
use Rattle.mea_family.specs.declared.stop.Stop.{Stop}
use Rattle.mea_family.specs.declared.stop.Stop.TheVariants as stops
use Rattle.mea_script.specs.declared.status.Status.{Status}
use Rattle.mea_script.specs.declared.status.Status.TheVariants.{Done, Stopped, BadLine, TooLong}
use Rattle.mea_script.specs.Lines.{is_long, lines_of}
use Rattle.mea_script.specs.Rules.{Rules, event_at}
use Rattle.mea_text.specs.Text.{number_text, counted_line}

-- a text, and how the script ends
pub record Told : Type 0 where
  pub text : List ℕ
  pub status : Status

-- ---- how a script ends after n replies: where an event has a cause for refusal, where a line is no event
-- line, where the script is too long, or at its end

-- its status
abbrev pub status_at : Option Stop → Bool → Bool → ℕ → Status
status_at (Some stop) bad long n = Stopped n stop
status_at None true long n = BadLine n
status_at None false true n = TooLong
status_at None false false n = Done

-- the word of a cause; want of memory has none
abbrev pub cause_text : Stop → List ℕ
cause_text stops.Unknown = codes " unknown"
cause_text stops.Borrowed = codes " borrowed"
cause_text stops.Zero = codes " zero"
cause_text stops.Overflow = codes " overflow"
cause_text stops.NoMemory = []

-- the line that says so
abbrev pub ending_at : Option Stop → Bool → Bool → ℕ → List ℕ
ending_at (Some stop) bad long n = codes "stop" ++ number_text n ++ cause_text stop ++ codes "\n"
ending_at None true long n = counted_line (codes "bad") n
ending_at None false true n = counted_line (codes "long") n
ending_at None false false n = counted_line (codes "done") n

-- that line and that status
abbrev pub ending : Option Stop → Bool → Bool → ℕ → Told
ending cause bad long n = record { text = ending_at cause bad long n; status = status_at cause bad long n }

-- ---- line by line

-- a text, and then what is told
abbrev pub with_text : List ℕ → Told → Told
with_text text told = record { text = text ++ told.text; status = told.status }

-- event number n has this cause for refusal, or has this reply, and then the rest is told
abbrev pub told_at : Option Stop → ℕ → List ℕ → Told → Told
told_at (Some stop) n reply next = ending (Some stop) false false n
told_at None n reply next = with_text reply next

-- line number n stands for no event, or for one after which the rest is told of the state that it leaves
abbrev pub told_line : {State Event : Type 0} → Rules State Event → State → ℕ → Option Event → (State → Told) → Told
told_line rules s n None rest = ending None true false n
told_line rules s n (Some e) rest = told_at (rules.cause s e) n (rules.reply s n e) (rest (rules.next s n e))

-- after the last line, of n: where the script is too long, or at its end
abbrev pub told_end : {State Event : Type 0} → Rules State Event → Bool → State → ℕ → Told
told_end rules true s n = ending None false true n
told_end rules false s n = with_text (rules.last s n) (ending None false false n)

-- what is told of these lines from this state on, after n lines, where the script may be too long
abbrev pub told_from : {State Event : Type 0} → Rules State Event → Bool → State → ℕ → List (List ℕ) → Told
told_from rules long s n [] = told_end rules long s n
told_from rules long s n (line ∷ lines) = told_line rules s n (event_at rules s line) (λ after. told_from rules long after (n + 1) lines)

-- what a machine tells of a script that it plays from this state on
unfoldable pub told_by : {State Event : Type 0} → Rules State Event → State → List ℕ → Told
told_by rules s script = told_from rules (is_long script) s 0 (lines_of script)
