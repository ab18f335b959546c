-- line by line is told what the whole script is answered
use Rattle.std.proofs.Common.{◌≡◌, ℕ, suc, ◌+◌, ◌<◌, ◌++◌, Bool, true, false, cond, List, [], ◌∷◌, length, nat_lt, Option, Some, None, refl, ap, sym, ◌∙◌, arith, append_assoc}
use Rattle.std.proofs.lemmas.Bool.{ltb-true}
use Rattle.mea_family.specs.declared.answer.Answer.{Answer}
use Rattle.mea_family.specs.declared.stop.Stop.{Stop}
use Rattle.mea_events.specs.declared.event.Event.{Event}
use Rattle.mea_lines.specs.Lines.{event_of}
use Rattle.mea_text.specs.Reply.{reply_text}
use Rattle.mea_hall.specs.Front.{Front, front_at, front_from, front_of}
use Rattle.mea_hall.specs.World.{World, empty_world, cause_of, step}
use Rattle.mea_script.specs.Lines.{is_long, lines_of}
use Rattle.mea_script.specs.Rules.{event_at}
use Rattle.mea_script.specs.Told.{Told, ending, with_text, told_at, told_line, told_from, told_by}
use Rattle.mea_run.specs.Script.{Reading, reading_at, reading_of, replies_text, text_of, status_of, hall_rules}

-- what a front tells, after n events before it
abbrev pub told_of_front : Front → Bool → Bool → ℕ → Told
told_of_front front bad long n = with_text (replies_text front.replies) (ending front.cause bad long (n + length front.replies))

-- a reply before what a front tells
reply_first : (reply : Answer × List ℕ) (next : Front) (bad long : Bool) (n : ℕ)
    → with_text (reply_text reply.0 reply.1) (told_of_front next bad long (n + 1))
    ≡ with_text (reply_text reply.0 reply.1 ++ replies_text next.replies) (ending next.cause bad long (n + suc (length next.replies)))
reply_first reply next bad long n =
    let counted : n + 1 + length next.replies ≡ n + suc (length next.replies) = omega arith in
    let told : ℕ → Told = λ k. ending next.cause bad long k in
    ap (λ k. with_text (reply_text reply.0 reply.1) (with_text (replies_text next.replies) (told k))) counted
    ∙ ap (λ text. record { text = text; status = (told (n + suc (length next.replies))).status })
    (sym (append_assoc (reply_text reply.0 reply.1) (replies_text next.replies) (told (n + suc (length next.replies))).text))

-- an event and what is told after it
tells_event : (w : World) (n : ℕ) (long bad : Bool) (e : Event) (events : List Event) (rest : Told)
    → rest ≡ told_of_front (front_from (step w n e).world (n + 1) events) bad long (n + 1)
    → (cause : Option Stop) → told_at cause n (reply_text (step w n e).reply.0 (step w n e).reply.1) rest
    ≡ told_of_front (front_at cause w (step w n e).reply (front_from (step w n e).world (n + 1) events)) bad long n
tells_event w n long bad e events rest later (Some stop) = let same : n ≡ n + 0 = omega arith in ap (λ k. ending (Some stop) false false k) same
tells_event w n long bad e events rest later None =
    ap (with_text (reply_text (step w n e).reply.0 (step w n e).reply.1)) later
    ∙ reply_first (step w n e).reply (front_from (step w n e).world (n + 1) events) bad long n

tells_line : (w : World) (n : ℕ) (long : Bool) (reading : Reading) (rest : World → Told)
    → ((v : World) → rest v ≡ told_of_front (front_from v (n + 1) reading.events) reading.bad long (n + 1))
    → (o : Option Event) → told_line hall_rules w n o rest ≡ told_of_front (front_from w n (reading_at o reading).events) (reading_at o reading).bad long n
unfolding hall_rules
tells_line w n long reading rest later None = let same : n ≡ n + 0 = omega arith in ap (λ k. ending None true false k) same
tells_line w n long reading rest later (Some e) =
    tells_event w n long reading.bad e reading.events (rest (step w n e).world) (later (step w n e).world) (cause_of w e)

-- no line of more than 96 bytes stands for an event
abbrev pub LongIsNone : Type 0
LongIsNone = (line : List ℕ) → 96 < length line → event_of line ≡ None

-- so that the limit of a line leaves no event out
limited : (is_long : Bool) (o : Option Event) → (is_long ≡ true → o ≡ None) → cond is_long None o ≡ o
limited true o none = sym (none refl)
limited false o none = refl

event_in_limit : LongIsNone → (w : World) (line : List ℕ) → event_at hall_rules w line ≡ event_of line
unfolding hall_rules
event_in_limit none w line = limited (nat_lt 96 (length line)) (event_of line) (λ is. none line (ltb-true 96 (length line) is))

tells_end : (long : Bool) (w : World) (n : ℕ) → told_from hall_rules long w n [] ≡ told_of_front (front_from w n []) false long n
unfolding hall_rules
tells_end true w n = let same : n ≡ n + 0 = omega arith in ap (λ k. ending None false true k) same
tells_end false w n = let same : n ≡ n + 0 = omega arith in ap (λ k. ending None false false k) same

tells_lines : LongIsNone → (lines : List (List ℕ)) (w : World) (n : ℕ) (long : Bool)
    → told_from hall_rules long w n lines ≡ told_of_front (front_from w n (reading_of lines).events) (reading_of lines).bad long n
unfolding hall_rules
tells_lines none [] w n long = tells_end long w n
tells_lines none (line ∷ lines) w n long =
    ap (λ o. told_line hall_rules w n o (λ after. told_from hall_rules long after (n + 1) lines)) (event_in_limit none w line)
    ∙ tells_line w n long (reading_of lines) (λ after. told_from hall_rules long after (n + 1) lines) (λ v. tells_lines none lines v (n + 1) long) (event_of line)

pub tells_script : LongIsNone → (w : World) → w ≡ empty_world → (script : List ℕ)
    → told_by hall_rules w script ≡ record { text = text_of script; status = status_of script }
unfolding told_by hall_rules
tells_script none w fresh script =
    let front : Front = front_of (reading_of (lines_of script)).events in
    let same : 0 + length front.replies ≡ length front.replies = omega arith in
    ap (λ v. told_by hall_rules v script) fresh
    ∙ tells_lines none (lines_of script) empty_world 0 (is_long script)
    ∙ ap (λ k. with_text (replies_text front.replies) (ending front.cause (reading_of (lines_of script)).bad (is_long script) k)) same
