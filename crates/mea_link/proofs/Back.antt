-- a poll of a send keeps its value, or hands it out
use Rattle.std.proofs.Common.{◌≡◌, Option, Some, None, Result, Ok, Err, MatchResult, refl, sym, subst}
use Rattle.mea_base.specs.declared.poll.Poll.{Poll}
use Rattle.mea_base.specs.declared.poll.Poll.TheVariants.{Pending}
use Rattle.mea_base.specs.declared.no_memory.NoMemory.{NoMemory}
use Rattle.mea_sem_core.specs.declared.acquire.Acquire.{Acquire}
use Rattle.mea_chan_core.specs.declared.errors.SendError.{SendError}
use Rattle.mea_chan_core.specs.declared.errors.TrySendError.{TrySendError}
use Rattle.mea_chan_core.specs.declared.errors.TrySendError.TheVariants.{Full, Disconnected}
use Rattle.mea_chan_core.specs.Channel.{Channel}
use Rattle.mea_chan_core.specs.Bounded.{PollsSend, PollsValue, send_answer}
use Rattle.mea_link.specs.Back.{ComesBack}

-- what a poll of a send answers
abbrev Answer : Type 0 → Type 0 → Type 0
Answer T W = Result (Poll (Result (Unit {0}) (SendError T))) (W × NoMemory)

module _ {T W : Type 0} where
  value_comes_back : (c c' : Channel T W) (v : T) (now : Result (Unit {0}) (TrySendError T)) (old new : Acquire) (w : W) (r : Answer T W) (after : Option T)
      → PollsValue c v now old w r c' after new → ComesBack (Some v) r after
  value_comes_back c c' v (Ok _) old new w r after h = subst (λ (x : Answer T W). ComesBack (Some v) x after) (sym h.0) tt
  value_comes_back c c' v (Err (Disconnected _)) old new w r after h = subst (λ (x : Answer T W). ComesBack (Some v) x after) (sym h.0) refl
  value_comes_back c c' v (Err (Full _)) old new w r after h = by_answer r h.0
    where
      by_answer : (r : Answer T W) → MatchResult r (λ poll. poll ≡ Pending) (λ _. Unit {0}) → ComesBack (Some v) r after
      by_answer (Ok poll) is = subst (λ (x : Poll (Result (Unit {0}) (SendError T))). ComesBack {T = T} {W = W} (Some v) (Ok x) after) (sym is) h.1
      by_answer (Err e) is = h.1

  pub comes_back : (c c' : Channel T W) (value after : Option T) (old new : Acquire) (w : W) (r : Answer T W)
      → PollsSend c value old w r c' after new → ComesBack value r after
  comes_back c c' None after old new w r h = subst (λ (x : Answer T W). ComesBack None x after) (sym h.0) tt
  comes_back c c' (Some v) after old new w r h = value_comes_back c c' v (send_answer c v) old new w r after h
