-- what a wait may give, poll for poll
use Rattle.std.specs.Prelude.{⊤, Result, MatchResult, IfErr, IfSome}
use Rattle.mea_wait.specs.declared.polled.Polled.{Polled}
use Rattle.mea_wait.specs.declared.polled.Polled.TheVariants.{Ready, Pending}
use Rattle.mea_wait.specs.declared.unpolled.PollFault.{PollFault}
use Rattle.mea_wait.specs.declared.unpolled.Unpolled.{Unpolled}

-- where the answer is ready, its output is such
abbrev pub IfReady : {F R : Type 0} → Polled F R → (R → Type 0) → Type 0
IfReady (Ready r) P = P r
IfReady (Pending f) P = ⊤

-- where the answer is pending, the wait that comes back is such
abbrev pub IfPending : {F R : Type 0} → Polled F R → (F → Type 0) → Type 0
IfPending (Ready r) P = ⊤
IfPending (Pending f) P = P f

-- an answer that is ready is one that the wait may give
abbrev pub Gives : {F R W : Type 0} → (F → R → Type 0) → F → Result (Polled F R) (Unpolled F W) → Type 0
Gives gives f result = MatchResult result (λ p. IfReady p (gives f)) (λ e. ⊤)

-- a wait that comes back may give no more than before
abbrev pub StillGives : {F R W : Type 0} → (F → R → Type 0) → F → Result (Polled F R) (Unpolled F W) → Type 0
StillGives {F} {R} gives f result =
    MatchResult result (λ p. IfPending p (λ g. (x : R) → gives g x → gives f x)) (λ e. (x : R) → gives e.future x → gives f x)

-- a wait that comes back may be polled again
abbrev pub IsPollable : {F R W : Type 0} → (F → Type 0) → Result (Polled F R) (Unpolled F W) → Type 0
IsPollable can_poll result = MatchResult result (λ p. IfPending p can_poll) (λ e. can_poll e.future)

-- a poll that is refused has such a cause
abbrev pub IsRefusedFor : {F R W : Type 0} → (PollFault → Type 0) → Result (Polled F R) (Unpolled F W) → Type 0
IsRefusedFor refuses result = IfErr result (λ e. refuses e.fault)

-- the waker that a refused poll hands back, where it hands one back, is such, of the one that it was given
abbrev pub HandsBack : {F R W : Type 0} → (W → W → Type 0) → W → Result (Polled F R) (Unpolled F W) → Type 0
HandsBack hands_back waker result = IfErr result (λ e. IfSome e.waker (λ back. hands_back waker back))
