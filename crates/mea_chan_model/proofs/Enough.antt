-- enough senders are woken, after every event
use Rattle.std.proofs.Common.{◌≡◌, ℕ, ◌+◌, ◌<◌, ◌≤◌, ◌++◌, ◌⊎◌, inl, inr, true, false, length, List, [], Option, Some, None, is_some, refl, ap, sym, subst, ◌∙◌, arith}
use Rattle.std.specs.List.{Contains}
use Rattle.std.specs.FinMap.{get}
use Rattle.std.proofs.lemmas.List.Elements.{Contains-append_left, Contains-append_right}
use Rattle.mea_base.proofs.Tests.{by_name}
use Rattle.mea_by_name.specs.NamedQueue.{waits, waker_for}
use Rattle.mea_by_name.specs.LackingQueue.{Lacking, who}
use Rattle.mea_chan_model.specs.Bounded.{Bounded, BoundedSend}
use Rattle.mea_chan_model.specs.InOrder.{queued_in}
use Rattle.mea_chan_model.specs.Sends.{queue_at, capacity_at, granted_at}
use Rattle.mea_chan_model.proofs.SendLines.{InLine, line_at, line_map, granted_apart, weighs_none, not_granted_elsewhere}
use Rattle.mea_chan_model.proofs.MailKeeps.{ended_in, Lessens}

-- f has had the waker of its last poll woken since
pub record IsWoken (last : ℕ → Option ℕ) (since : ℕ → List ℕ) (f : ℕ) : Type 0 where
  pub w : ℕ
  pub told : last f ≡ Some w
  pub woken : Contains (since f) w

-- what holds after each event: names are below the next number, and a send is of the channel of its sender; each in a queue
-- waits there; who was granted a place was woken; and while one waits, at least as many are granted as places are free
pub record Held (h : Bounded) (last : ℕ → Option ℕ) (since : ℕ → List ℕ) (n : ℕ) : Type 0 where
  pub below : (f : ℕ) (x : BoundedSend) → get h.sends f ≡ Some x → f < n
  pub low : (s o : ℕ) → get h.mail.senders s ≡ Some o → s < n
  pub alike : (f : ℕ) (x : BoundedSend) → get h.sends f ≡ Some x → get h.mail.senders x.sender ≡ Some x.channel
  pub lines : (o : ℕ) → InLine h.sends last o (queue_at h o)
  pub told : (f : ℕ) (x : BoundedSend) → get h.sends f ≡ Some x → x.polled ≡ true → waits (who (queue_at h x.channel)) f ≡ false → IsWoken last since f
  pub places : (o : ℕ) → ended_in (get h.mail.channels o) ≡ false → (queue_at h o ≡ [] → ⊥) → capacity_at h o ≤ length (queued_in (get h.mail.channels o)) + granted_at h o
  pub shut : (o : ℕ) → ended_in (get h.mail.channels o) ≡ true → queue_at h o ≡ []

-- an event of number i changes the queue of o alone, and the send k alone, and wakes ws
pub record Changes (h h' : Bounded) (last last' : ℕ → Option ℕ) (since since' : ℕ → List ℕ) (i k o : ℕ) (ws : List ℕ) : Type 0 where
  pub queues : (q : ℕ) → (o ≡ q → ⊥) → queue_at h' q ≡ queue_at h q
  pub capacities : (q : ℕ) → (o ≡ q → ⊥) → capacity_at h' q ≡ capacity_at h q
  pub others : (f : ℕ) → (k ≡ f → ⊥) → get h'.sends f ≡ get h.sends f
  pub was_of : (x : BoundedSend) → get h.sends k ≡ Some x → x.channel ≡ o
  pub is_of : (x : BoundedSend) → get h'.sends k ≡ Some x → x.channel ≡ o
  pub small : (x : BoundedSend) → get h'.sends k ≡ Some x → k < i + 1
  pub keeps : (f w : ℕ) → (k ≡ f → ⊥) → waker_for (who (queue_at h o)) f ≡ Some w → (waker_for (who (queue_at h' o)) f ≡ Some w) ⊎ Contains ws w
  pub line : InLine h'.sends last' o (queue_at h' o)
  pub its : (x : BoundedSend) → get h'.sends k ≡ Some x → x.polled ≡ true → waits (who (queue_at h' o)) k ≡ false → ⊥
  pub lasts : (f : ℕ) → (k ≡ f → ⊥) → last' f ≡ last f
  pub sinces : (f : ℕ) → (k ≡ f → ⊥) → since' f ≡ since f ++ ws
  pub low : (s p : ℕ) → get h'.mail.senders s ≡ Some p → s < i + 1
  pub alike : (f : ℕ) (x : BoundedSend) → get h'.sends f ≡ Some x → get h'.mail.senders x.sender ≡ Some x.channel
  pub mail : (q : ℕ) → (o ≡ q → ⊥) → Lessens 0 (get h.mail.channels q) (get h'.mail.channels q)
  pub places : ended_in (get h'.mail.channels o) ≡ false → (queue_at h' o ≡ [] → ⊥) → capacity_at h' o ≤ length (queued_in (get h'.mail.channels o)) + granted_at h' o
  pub shut : ended_in (get h'.mail.channels o) ≡ true → queue_at h' o ≡ []

waits_or_not : (q : Lacking) (f : ℕ) → ((w : ℕ) × (waker_for (who q) f ≡ Some w)) ⊎ (waits (who q) f ≡ false)
waits_or_not q f = at (waker_for (who q) f) refl
  where
    at : (p : Option ℕ) → waker_for (who q) f ≡ p → ((w : ℕ) × (waker_for (who q) f ≡ Some w)) ⊎ (waits (who q) f ≡ false)
    at None is = inr (ap is_some is)
    at (Some w) is = inl (w, is)

module _ (h h' : Bounded) (last last' : ℕ → Option ℕ) (since since' : ℕ → List ℕ) (n i k o : ℕ) (ws : List ℕ) (held : Held h last since n) (later : n ≤ i) (change : Changes h h' last last' since since' i k o ws) where
  line_after : (q : ℕ) → InLine h'.sends last' q (queue_at h' q)
  line_after q = by_name o q (λ same. subst (λ j. InLine h'.sends last' j (queue_at h' j)) same change.line)
      (λ apart. rw (change.queues q apart) (line_map h.sends last q h'.sends last' (queue_at h q) (λ f w waiting it.
      let other : k ≡ f → ⊥ = λ same. apart (sym (change.was_of it.x (ap (get h.sends) same ∙ it.there)) ∙ it.of) in
      record { x = it.x; there = change.others f other ∙ it.there; of = it.of; polled = it.polled; told = change.lasts f other ∙ it.told }) (held.lines q)))

  woken_on : (f : ℕ) → (k ≡ f → ⊥) → IsWoken last since f → IsWoken last' since' f
  woken_on f other it = record { w = it.w; told = change.lasts f other ∙ it.told; woken = rw (change.sinces f other) (Contains-append_left (since f) ws it.w it.woken) }

  told_after : (f : ℕ) (x : BoundedSend) → get h'.sends f ≡ Some x → x.polled ≡ true → waits (who (queue_at h' x.channel)) f ≡ false → IsWoken last' since' f
  told_after f x there polled free = by_name k f
      (λ same. absurd (
      let here = ap (get h'.sends) same ∙ there in
      change.its x here polled (ap (λ j. waits (who (queue_at h' j)) k) (sym (change.is_of x here)) ∙ ap (waits (who (queue_at h' x.channel))) same ∙ free)))
      (λ other. let was = sym (change.others f other) ∙ there in elim (waits_or_not (queue_at h x.channel) f) [
        | inl waiting ↦ at_queue other was waiting.0 waiting.1
        | inr free_before ↦ woken_on f other (held.told f x was polled free_before)
      ])
    where
      not_both : (q : Lacking) (w : ℕ) → waker_for (who q) f ≡ Some w → waits (who q) f ≡ false → ⊥
      not_both q w is none = absurd (let some = ap is_some is in cc)

      at_queue : (k ≡ f → ⊥) → get h.sends f ≡ Some x → (w : ℕ) → waker_for (who (queue_at h x.channel)) f ≡ Some w → IsWoken last' since' f
      at_queue other was w waiting = by_name o x.channel
          (λ same. elim (change.keeps f w other (ap (λ j. waker_for (who (queue_at h j)) f) same ∙ waiting)) [
            | inl still ↦ absurd (not_both (queue_at h' x.channel) w (ap (λ j. waker_for (who (queue_at h' j)) f) (sym same) ∙ still) free)
            | inr woken ↦ record { w = w; told = change.lasts f other ∙ (line_at h.sends last x.channel (queue_at h x.channel) f w (held.lines x.channel) waiting).told; woken = rw (change.sinces f other) (Contains-append_right (since f) ws w woken) }
          ])
          (λ apart. absurd (not_both (queue_at h' x.channel) w (ap (λ q. waker_for (who q) f) (change.queues x.channel apart) ∙ waiting) free))

  granted_elsewhere : (q : ℕ) → (o ≡ q → ⊥) → granted_at h' q ≡ granted_at h q
  granted_elsewhere q apart =
      let same = change.queues q apart in
      let all = granted_apart (queue_at h q) (queue_at h' q) h.sends h'.sends q k change.others (λ f other. ap (λ p. waits (who p) f) same) in
      let none = weighs_none (queue_at h q) q k (get h.sends k) (λ x is. not_granted_elsewhere (queue_at h q) q k x (λ mine. apart (sym (change.was_of x is) ∙ mine))) in
      let none' = weighs_none (queue_at h' q) q k (get h'.sends k) (λ x is. not_granted_elsewhere (queue_at h' q) q k x (λ mine. apart (sym (change.is_of x is) ∙ mine))) in
      omega (arith, all, none, none')

  places_after : (q : ℕ) → ended_in (get h'.mail.channels q) ≡ false → (queue_at h' q ≡ [] → ⊥) → capacity_at h' q ≤ length (queued_in (get h'.mail.channels q)) + granted_at h' q
  places_after q lives some = by_name o q
      (λ same. subst (λ j. capacity_at h' j ≤ length (queued_in (get h'.mail.channels j)) + granted_at h' j) same
      (change.places (ap (λ j. ended_in (get h'.mail.channels j)) same ∙ lives) (λ none. some (ap (queue_at h') (sym same) ∙ none))))
      (λ apart.
      let m = change.mail q apart in
      let lived = sym m.ended ∙ lives in
      let before = held.places q lived (λ none. some (change.queues q apart ∙ none)) in
      let size = m.queued lived in
      omega (arith, before, size, change.capacities q apart, granted_elsewhere q apart))

  shut_after : (q : ℕ) → ended_in (get h'.mail.channels q) ≡ true → queue_at h' q ≡ []
  shut_after q ends = by_name o q
      (λ same. subst (λ j. queue_at h' j ≡ []) same (change.shut (ap (λ j. ended_in (get h'.mail.channels j)) same ∙ ends)))
      (λ apart. change.queues q apart ∙ held.shut q (sym (change.mail q apart).ended ∙ ends))

  pub held_after : Held h' last' since' (i + 1)
  held_after = record {
    below = λ f x is. by_name k f (λ same. subst (λ j. j < i + 1) same (change.small x (ap (get h'.sends) same ∙ is))) (λ other. let low = held.below f x (sym (change.others f other) ∙ is) in omega (arith, low, later));
    low = change.low;
    alike = change.alike;
    lines = line_after;
    told = told_after;
    places = places_after;
    shut = shut_after;
  }
