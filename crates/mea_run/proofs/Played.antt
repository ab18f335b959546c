-- a script that is played in parts
use Rattle.std.proofs.Common.{◌≡◌, ◌≢◌, ℕ, ◌+◌, ◌-◌, ◌<◌, ◌++◌, List, [], ◌∷◌, Option, Some, None, length, refl, ap, sym, subst, ◌∙◌, arith, if◌then◌else◌, append_assoc}
use Rattle.mea_family.specs.declared.answer.Answer.{Answer}
use Rattle.mea_family.specs.declared.stop.Stop.{Stop}
use Rattle.mea_family.specs.declared.stop.Stop.TheVariants.{Unknown, Borrowed, Zero, Overflow, NoMemory}
use Rattle.mea_family.specs.Family.{is_pending}
use Rattle.mea_events.specs.declared.sem_event.SemEvent.TheVariants as events
use Rattle.mea_events.specs.declared.event.Event.{Event}
use Rattle.mea_events.specs.declared.event.Event.TheVariants.{Sem}
use Rattle.mea_hall.specs.World.{World, Play, empty_world, cause_of, step}
use Rattle.mea_hall.specs.Front.{Front, front_at, front_from, front_of, prepended, IsLegal}
use Rattle.mea_text.specs.Reply.{reply_text}
use Rattle.mea_hall.proofs.Fronts.{front_goes_on}
use Rattle.mea_run.specs.Generated.{drawn_by, round_of, rounds_from, first_state, script_of, pendings, wakes_in, last_text}
use Rattle.mea_run.proofs.Counts.{pendings-append, wakes_in-append}
use Rattle.mea_run.proofs.Legal.{script_legal}
use Rattle.mea_run.proofs.RoundsLeft.{rounds_step, rounds_done}

abbrev Replies : Type 0
Replies = List (Answer × List ℕ)

-- of a script the rest is left, which goes on from this hall, and p replies `pending` and q wakes were counted
pub record IsPlayedTo (script rest : List Event) (h : Play) (p q : ℕ) : Type 0 where
  pub replies : Replies
  pub front : front_of script ≡ prepended replies (front_from h.world h.events rest)
  pub pending : p ≡ pendings replies
  pub wakes : q ≡ wakes_in replies

-- nothing was played yet
pub at_start : (script : List Event) (h : Play) (p q : ℕ) → h ≡ record { world = empty_world; wakes = []; events = 0 } → p ≡ 0 → q ≡ 0
    → IsPlayedTo script script h p q
at_start script h p q is none_pending no_wakes = record {
  replies = [];
  front = (λ j. prepended [] (front_from (sym is j).world (sym is j).events script));
  pending = none_pending;
  wakes = no_wakes;
}

-- a cause stays where events follow
stops_early : (w : World) (i : ℕ) (es more : List Event) (stop : Stop) → (front_from w i es).cause ≡ Some stop → (front_from w i (es ++ more)).cause ≡ Some stop
stops_early w i [] more stop is = absurd (cc)
stops_early w i (e ∷ es) more stop is = by_cause (cause_of w e) (stops_early (step w i e).world (i + 1) es more stop) is
  where
    by_cause : (c : Option Stop)
        → ((front_from (step w i e).world (i + 1) es).cause ≡ Some stop → (front_from (step w i e).world (i + 1) (es ++ more)).cause ≡ Some stop)
        → (front_at c w (step w i e).reply (front_from (step w i e).world (i + 1) es)).cause ≡ Some stop
        → (front_at c w (step w i e).reply (front_from (step w i e).world (i + 1) (es ++ more))).cause ≡ Some stop
    by_cause (Some s) later h = h
    by_cause None later h = later h

module _ (script es more : List Event) (h : Play) (p q : ℕ) (so : IsPlayedTo script (es ++ more) h p q) where
  abbrev part : Front
  part = front_from h.world h.events es

  -- so many events more
  pub played_on : (g : Play) (r s : ℕ) → part.cause ≡ None → g ≡ record { world = part.world; wakes = []; events = h.events + length es }
      → r ≡ p + pendings part.replies → s ≡ q + wakes_in part.replies → IsPlayedTo script more g r s
  played_on g r s none is pending wakes =
      let whole : part ≡ record { world = part.world; replies = part.replies; cause = None } =
      (λ j. record { world = part.world; replies = part.replies; cause = none j }) in
      let on : front_from h.world h.events (es ++ more) ≡ prepended part.replies (front_from part.world (h.events + length es) more) =
      front_goes_on h.world h.events es more part.world part.replies whole in
      let after : Front = front_from part.world (h.events + length es) more in
      let before_pending = so.pending in
      let before_wakes = so.wakes in
      record {
        replies = so.replies ++ part.replies;
        front = so.front ∙ ap (prepended so.replies) on
            ∙ (λ j. record { world = after.world; replies = sym (append_assoc so.replies part.replies after.replies) j; cause = after.cause })
            ∙ (λ j. prepended (so.replies ++ part.replies) (front_from (sym is j).world (sym is j).events more));
        pending = omega (arith, pending, before_pending, pendings-append so.replies part.replies);
        wakes = omega (arith, wakes, before_wakes, wakes_in-append so.replies part.replies);
      }

  -- a legal script is refused nowhere
  pub never_refused : IsLegal script → (stop : Stop) → part.cause ≡ Some stop → ⊥
  never_refused legal stop refused =
      let later : (front_from h.world h.events (es ++ more)).cause ≡ Some stop = stops_early h.world h.events es more stop refused in
      let whole : (front_of script).cause ≡ (front_from h.world h.events (es ++ more)).cause = ap (λ (f : Front). f.cause) so.front in
      absurd (cc)

-- a cause that never comes leaves want of memory
pub memory_alone : (stop : Stop) → (stop ≢ NoMemory → ⊥) → stop ≡ NoMemory
memory_alone Unknown never = absurd (never (λ e. cc))
memory_alone Borrowed never = absurd (never (λ e. cc))
memory_alone Zero never = absurd (never (λ e. cc))
memory_alone Overflow never = absurd (never (λ e. cc))
memory_alone NoMemory never = refl

-- ---- the script
abbrev pub first : Event
first = Sem (events.New 0)

abbrev pub last : Event
last = Sem (events.Ledger 0)

-- the first event has no cause for refusal
pub first_memory : (w : World) (i : ℕ) (stop : Stop) → (stop ≢ NoMemory → (front_from w i (first ∷ [])).cause ≡ Some stop) → stop ≡ NoMemory
unfolding cause_of
first_memory w i stop caused = memory_alone stop (λ other. absurd (let refused = caused other in cc))

-- what is left of it before round j
abbrev pub left_of : ℕ → ℕ → ℕ → List Event
left_of state j n = rounds_from state j (n - j) ++ last ∷ []

pub left_step : (state j n : ℕ) → j < n → left_of state j n ≡ round_of state j ++ left_of (drawn_by 4 state) (j + 1) n
left_step state j n less = ap (λ es. es ++ last ∷ []) (rounds_step state j n less)
    ∙ append_assoc (round_of state j) (rounds_from (drawn_by 4 state) (j + 1) (n - (j + 1))) (last ∷ [])

pub left_done : (state j n : ℕ) → j ≡ n → left_of state j n ≡ last ∷ []
left_done state j n is = ap (λ es. es ++ last ∷ []) (rounds_done state j n is)

pub last_of : (rs : Replies) (r : Answer × List ℕ) → last_text (rs ++ r ∷ []) ≡ reply_text r.0 r.1
last_of [] r = refl
last_of (q ∷ []) r = refl
last_of (q ∷ p ∷ rs) r = last_of (p ∷ rs) r

-- ---- the script, part by part
module _ (seed n : ℕ) where
  abbrev script : List Event
  script = script_of seed n

  -- the first event
  pub start_played : (state : ℕ) (h g : Play) (r s : ℕ) → state ≡ first_state seed → h ≡ record { world = empty_world; wakes = []; events = 0 }
      → (front_from h.world h.events (first ∷ [])).cause ≡ None
      → g ≡ record { world = (front_from h.world h.events (first ∷ [])).world; wakes = []; events = h.events + 1 }
      → r ≡ pendings (front_from h.world h.events (first ∷ [])).replies → s ≡ wakes_in (front_from h.world h.events (first ∷ [])).replies
      → IsPlayedTo script (left_of state 0 n) g r s
  start_played state h g r s begins is none hall pending wakes =
      let all : rounds_from state 0 (n - 0) ≡ rounds_from (first_state seed) 0 n =
      (λ j. rounds_from (begins j) 0 ((let same : n - 0 ≡ n = omega arith in same) j)) in
      let whole : script ≡ (first ∷ []) ++ left_of state 0 n = ap (λ es. first ∷ (es ++ last ∷ [])) (sym all) in
      played_on script (first ∷ []) (left_of state 0 n) h 0 0
      (subst (λ es. IsPlayedTo script es h 0 0) whole (at_start script h 0 0 is refl refl)) g r s none hall (omega (arith, pending)) (omega (arith, wakes))

  module _ (state j : ℕ) (es : List Event) (h : Play) (p q : ℕ) (less : j < n) (so : IsPlayedTo script (left_of state j n) h p q)
      (round : es ≡ round_of state j) where
    before : IsPlayedTo script (es ++ left_of (drawn_by 4 state) (j + 1) n) h p q
    before = subst (λ fs. IsPlayedTo script fs h p q) (left_step state j n less ∙ ap (λ fs. fs ++ left_of (drawn_by 4 state) (j + 1) n) (sym round)) so

    -- a round
    pub round_played : (next : ℕ) (g : Play) (r s : ℕ) → next ≡ drawn_by 4 state → (front_from h.world h.events es).cause ≡ None
        → g ≡ record { world = (front_from h.world h.events es).world; wakes = []; events = h.events + length es }
        → r ≡ p + pendings (front_from h.world h.events es).replies → s ≡ q + wakes_in (front_from h.world h.events es).replies
        → IsPlayedTo script (left_of next (j + 1) n) g r s
    round_played next g r s on none hall pending wakes = subst (λ k. IsPlayedTo script (left_of k (j + 1) n) g r s) (sym on)
        (played_on script es (left_of (drawn_by 4 state) (j + 1) n) h p q before g r s none hall pending wakes)

    -- has no cause for refusal
    pub round_memory : (stop : Stop) → (stop ≢ NoMemory → (front_from h.world h.events es).cause ≡ Some stop) → stop ≡ NoMemory
    round_memory stop caused = memory_alone stop
        (λ other. never_refused script es (left_of (drawn_by 4 state) (j + 1) n) h p q before (script_legal seed n) stop (caused other))

  module _ (state j : ℕ) (h : Play) (p q : ℕ) (done : j ≡ n) (so : IsPlayedTo script (left_of state j n) h p q) where
    at_last : IsPlayedTo script ((last ∷ []) ++ []) h p q
    at_last = subst (λ fs. IsPlayedTo script fs h p q) (left_done state j n done) so

    -- the last event has no cause for refusal
    pub last_memory : (stop : Stop) → (stop ≢ NoMemory → cause_of h.world last ≡ Some stop) → stop ≡ NoMemory
    last_memory stop caused = memory_alone stop (λ other. never_refused script (last ∷ []) [] h p q at_last (script_legal seed n) stop
        (ap (λ c. (front_at c h.world (step h.world h.events last).reply (front_from (step h.world h.events last).world (h.events + 1) [])).cause)
        (caused other)))

    -- after the last event all was counted, and the last reply is that event's
    all_replies : cause_of h.world last ≡ None → (front_of script).replies ≡ at_last.replies ++ (step h.world h.events last).reply ∷ []
    all_replies none = ap (λ (f : Front). f.replies) at_last.front
        ∙ ap (λ c. at_last.replies ++
        (front_at c h.world (step h.world h.events last).reply (front_from (step h.world h.events last).world (h.events + 1) [])).replies) none

    pub all_pending : (r : ℕ) → cause_of h.world last ≡ None → r ≡ p + (if is_pending (step h.world h.events last).reply.0 then 1 else 0)
        → r ≡ pendings (front_of script).replies
    all_pending r none more =
        let sums : pendings (front_of script).replies ≡ pendings at_last.replies + (0 + (if is_pending (step h.world h.events last).reply.0 then 1 else 0)) =
        ap pendings (all_replies none) ∙ pendings-append at_last.replies ((step h.world h.events last).reply ∷ []) in
        let were = at_last.pending in
        omega (arith, sums, were, more)

    pub all_wakes : (s : ℕ) → cause_of h.world last ≡ None → s ≡ q + length (step h.world h.events last).reply.1 → s ≡ wakes_in (front_of script).replies
    all_wakes s none more =
        let sums : wakes_in (front_of script).replies ≡ wakes_in at_last.replies + (0 + length (step h.world h.events last).reply.1) =
        ap wakes_in (all_replies none) ∙ wakes_in-append at_last.replies ((step h.world h.events last).reply ∷ []) in
        let were = at_last.wakes in
        omega (arith, sums, were, more)

    pub last_reply : (answer : Answer) → cause_of h.world last ≡ None → answer ≡ (step h.world h.events last).reply.0
        → reply_text answer [] ≡ last_text (front_of script).replies
    unfolding step
    last_reply answer none is = ap (λ a. reply_text a []) is
        ∙ sym (ap last_text (all_replies none) ∙ last_of at_last.replies (step h.world h.events last).reply)
