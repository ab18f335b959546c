-- what is counted of events that are played one after another
use Rattle.std.proofs.Common.{◌≡◌, ℕ, suc, ◌+◌, ◌<◌, ◌≤◌, ◌++◌, List, [], ◌∷◌, Some, None, length, take, drop, get_or, ap, sym, ◌∙◌, arith, if◌then◌else◌}
use Rattle.std.proofs.lemmas.List.{take_more, length-take-le, take-append-drop}
use Rattle.std.proofs.Math.Seq.{drop-cons}
use Rattle.std.proofs.lemmas.List.Sums.{sum_by-append}
use Rattle.mea_family.specs.declared.answer.Answer.{Answer}
use Rattle.mea_family.specs.declared.stop.Stop.{Stop}
use Rattle.mea_family.specs.Family.{is_pending}
use Rattle.mea_events.specs.declared.event.Event.{Event}
use Rattle.mea_hall.specs.World.{World, Play, Plays, registered, cause_of, step}
use Rattle.mea_hall.specs.Front.{Front, front_at, front_from, prepended}
use Rattle.mea_hall.proofs.Fronts.{front_goes_on}
use Rattle.mea_hall.proofs.EachFamily.{most_woken}
use Rattle.mea_run.specs.Generated.{pendings, wakes_in}

abbrev Replies : Type 0
Replies = List (Answer × List ℕ)

-- ---- sums over replies
pub pendings-append : (rs qs : Replies) → pendings (rs ++ qs) ≡ pendings rs + pendings qs
pendings-append rs qs = sum_by-append {X = Answer × List ℕ} (λ r. if is_pending r.0 then 1 else 0) rs qs

pub wakes_in-append : (rs qs : Replies) → wakes_in (rs ++ qs) ≡ wakes_in rs + wakes_in qs
wakes_in-append rs qs = sum_by-append {X = Answer × List ℕ} (λ r. length r.1) rs qs

-- ---- events that were played with no cause so far, from a world on
module _ (w : World) (i : ℕ) (es : List Event) (k : ℕ) (d : Event) (more : k < length es) (none : (front_from w i (take k es)).cause ≡ None) where
  abbrev so_far : Front
  so_far = front_from w i (take k es)

  front_is : so_far ≡ record { world = so_far.world; replies = so_far.replies; cause = None }
  front_is = λ j. record { world = so_far.world; replies = so_far.replies; cause = none j }

  few : length (take k es) ≡ k
  few = length-take-le k es (omega arith)

  then_others : (fs : List Event) → front_from w i (take k es ++ fs) ≡ prepended so_far.replies (front_from so_far.world (i + k) fs)
  then_others fs = front_goes_on w i (take k es) fs so_far.world so_far.replies front_is
      ∙ ap (λ j. prepended so_far.replies (front_from so_far.world j fs)) (omega (arith, few))

  -- the next one is played too
  pub one_more : cause_of so_far.world (get_or es k d) ≡ None → front_from w i (take (k + 1) es) ≡ record {
    world = (step so_far.world (i + k) (get_or es k d)).world;
    replies = so_far.replies ++ (step so_far.world (i + k) (get_or es k d)).reply ∷ [];
    cause = None;
  }
  one_more allowed = ap (front_from w i) (take_more es k d more) ∙ then_others (get_or es k d ∷ [])
      ∙ ap (λ c. prepended so_far.replies (front_at c so_far.world (step so_far.world (i + k) (get_or es k d)).reply
      (front_from (step so_far.world (i + k) (get_or es k d)).world (i + k + 1) []))) allowed

  -- the next one is refused
  pub stops_here : (stop : Stop) → cause_of so_far.world (get_or es k d) ≡ Some stop → (front_from w i es).cause ≡ Some stop
  stops_here stop refused =
      let whole : es ≡ take k es ++ get_or es k d ∷ drop (suc k) es = sym (take-append-drop k es) ∙ ap (λ fs. take k es ++ fs) (drop-cons es k d more) in
      ap (λ fs. (front_from w i fs).cause) whole ∙ ap (λ (f : Front). f.cause) (then_others (get_or es k d ∷ drop (suc k) es))
      ∙ ap (λ c. (front_at c so_far.world (step so_far.world (i + k) (get_or es k d)).reply
      (front_from (step so_far.world (i + k) (get_or es k d)).world (i + k + 1) (drop (suc k) es))).cause) refused

-- ---- the wakers that an event makes ready are no more than those that were registered
pub most_ready : (old new : Play) (e : Event) (answer : Answer) (n : ℕ) → Plays old e answer new → old.wakes ≡ [] → n ≡ registered old.world
    → length new.wakes ≤ n
most_ready old new e answer n plays quiet is =
    let ready : new.wakes ≡ (step old.world old.events e).reply.1 = plays.woken ∙ ap (λ ws. ws ++ (step old.world old.events e).reply.1) quiet in
    let same : length new.wakes ≡ length (step old.world old.events e).reply.1 = ap length ready in
    omega (arith, same, is, most_woken old.world old.events e)

-- ---- the events so far are played on a hall, and what was counted of them came to what there was
pub record AreCounted (w : World) (i a b : ℕ) (es : List Event) (k : ℕ) (h : Play) (p q : ℕ) : Type 0 where
  pub allowed : (front_from w i (take k es)).cause ≡ None
  pub hall : h ≡ record { world = (front_from w i (take k es)).world; wakes = []; events = i + k }
  pub pending : p ≡ a + pendings (front_from w i (take k es)).replies
  pub wakes : q ≡ b + wakes_in (front_from w i (take k es)).replies

-- one event more
pub counts_on : (w : World) (i a b : ℕ) (es : List Event) (k : ℕ) (d : Event) (old new : Play) (p q r s : ℕ) → k < length es → AreCounted w i a b es k old p q
    → cause_of old.world (get_or es k d) ≡ None
    → new ≡ record { world = (step old.world old.events (get_or es k d)).world; wakes = []; events = old.events + 1 }
    → r ≡ p + (if is_pending (step old.world old.events (get_or es k d)).reply.0 then 1 else 0)
    → s ≡ q + length (step old.world old.events (get_or es k d)).reply.1 → AreCounted w i a b es (k + 1) new r s
counts_on w i a b es k d old new p q r s more c cause hall pending wakes =
    let e : Event = get_or es k d in
    let so : Front = front_from w i (take k es) in
    let here : old.world ≡ so.world = ap (λ (h : Play). h.world) c.hall in
    let number : old.events ≡ i + k = ap (λ (h : Play). h.events) c.hall in
    let allowed : cause_of so.world e ≡ None = ap (λ v. cause_of v e) (sym here) ∙ cause in
    let next = one_more w i es k d more c.allowed allowed in
    let told : (step old.world old.events e).reply ≡ (step so.world (i + k) e).reply = (λ j. (step (here j) (number j) e).reply) in
    let world : (step old.world old.events e).world ≡ (front_from w i (take (k + 1) es)).world =
    (λ j. (step (here j) (number j) e).world) ∙ sym (ap (λ (f : Front). f.world) next) in
    let replies : (front_from w i (take (k + 1) es)).replies ≡ so.replies ++ (step old.world old.events e).reply ∷ [] =
    ap (λ (f : Front). f.replies) next ∙ ap (λ t. so.replies ++ t ∷ []) (sym told) in
    let pends : pendings (front_from w i (take (k + 1) es)).replies ≡ pendings so.replies +
    (0 + (if is_pending (step old.world old.events e).reply.0 then 1 else 0)) =
    ap pendings replies ∙ pendings-append so.replies ((step old.world old.events e).reply ∷ []) in
    let woken : wakes_in (front_from w i (take (k + 1) es)).replies ≡ wakes_in so.replies + (0 + length (step old.world old.events e).reply.1) =
    ap wakes_in replies ∙ wakes_in-append so.replies ((step old.world old.events e).reply ∷ []) in
    let before = c.pending in
    let before_wakes = c.wakes in
    record {
      allowed = ap (λ (f : Front). f.cause) next;
      hall = hall ∙ (λ j. record { world = world j; wakes = []; events = (let on : old.events + 1 ≡ i + (k + 1) = omega (arith, number) in on) j });
      pending = omega (arith, pending, before, pends);
      wakes = omega (arith, wakes, before_wakes, woken);
    }

-- one event is refused
pub refused_on : (w : World) (i a b : ℕ) (es : List Event) (k : ℕ) (d : Event) (h : Play) (p q : ℕ) (stop : Stop) → k < length es
    → AreCounted w i a b es k h p q
    → cause_of h.world (get_or es k d) ≡ Some stop → (front_from w i es).cause ≡ Some stop
refused_on w i a b es k d h p q stop more c refused =
    stops_here w i es k d more c.allowed stop (ap (λ (g : Play). cause_of g.world (get_or es k d)) (sym c.hall) ∙ refused)
