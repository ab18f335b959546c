-- which events reply `leader`, and how many arrivals of a round do
use Rattle.std.proofs.Common.{◌≡◌, ℕ, zero, suc, ◌+◌, ◌/◌, ◌≤◌, ◌==◌, Bool, true, false, cond, [], Option, Some, None, IsSome, unwrap_or, if◌then◌else◌, refl, ap, sym, ◌∙◌, arith}
use Rattle.std.specs.FinMap.{get, insert, remove}
use Rattle.std.proofs.lemmas.Bool.{eq-eqb, ne_eqb}
use Rattle.mea_base.proofs.Maps.{by_gone, by_at_put, value_in}
use Rattle.mea_base.proofs.Tests.{on_true, on_false}
use Rattle.mea_family.specs.Family.{Outcome, quietly}
use Rattle.mea_family.specs.Play.{found}
use Rattle.mea_family.specs.declared.answer.Answer.{Answer}
use Rattle.mea_family.specs.declared.answer.Answer.TheVariants as answers
use Rattle.mea_by_name.specs.ByName.{Names}
use Rattle.mea_by_name.specs.NamedQueue.{registering, wakers}
use Rattle.mea_by_name.proofs.Cases.{by_found, by_if, found_is}
use Rattle.mea_events.specs.declared.meet_event.MeetEvent.{MeetEvent}
use Rattle.mea_events.specs.declared.meet_event.MeetEvent.TheVariants as events
use Rattle.mea_meet_model.specs.Barriers as barriers
use Rattle.mea_meet_model.specs.Barriers.{Barriers, Barrier, BarrierWait, new_barrier, barrier_at, leads, has_completed}
use Rattle.mea_meet_model.specs.BarrierActions as at_barriers
use Rattle.mea_meet_model.specs.Counts as counts
use Rattle.mea_meet_model.specs.Counts.{Counts, count_at, end_of, is_holder}
use Rattle.mea_meet_model.specs.CountActions.{Action, Make, Try, Now, Begin, Copy, Poll, EndWait, EndEither, CopySender, Send, Await, EndSender, act_in, end_by}
use Rattle.mea_meet_model.specs.Hall.{Hall, Kind, Latches, part}
use Rattle.mea_meet_model.specs.Meaning.{Meaning, OnBarriers, OnCounts, meaning_of}
use Rattle.mea_meet_model.specs.Step.{step_by, step}
use Rattle.mea_meet_model.specs.Leaders.{is_leader, leads_new, leads_there, leads_wait, leads_meant, leads_by, arrivals_new, arrivals_wait, arrivals_meant, arrivals_by, leaders}
use Rattle.mea_meet_model.specs.Valid.{HasBarriers, IsValid}
use Rattle.mea_meet_model.proofs.ByHolder.{by_holder}
use Rattle.mea_meet_model.proofs.Rounds.{same_round, next_round, one_round}

-- ---- points that count have no leader
module _ (h : Counts) (i : ℕ) where
  abbrev P : Outcome Counts → Type 0
  P o = is_leader o.reply ≡ false

  ends : (f : ℕ) → P (end_by h f)
  ends f = by_found P (get h.waits f) h _ refl (λ x future. by_found P (get h.points x.point) h _ refl (λ r there. refl))

  told : (b : Bool) (one_of other : Answer) → is_leader one_of ≡ false → is_leader other ≡ false → is_leader (if b then one_of else other) ≡ false
  told true one_of other first second = first
  told false one_of other first second = second

  pub none_leads : (a : Action) → P (act_in h i a)
  none_leads (Make new) = refl
  none_leads (Try k) = by_holder P h refl k (λ x. counts.try h) (λ x r holder there. told (r.signal.number == 0) answers.Accepted (answers.Left r.signal.number) refl refl)
  none_leads (Now k) = by_holder P h refl k (λ x. counts.now h) (λ x r holder there. told (r.signal.number == 0) answers.Yes answers.No refl refl)
  none_leads (Begin k plain) = by_found P (get h.holders k) h _ refl (λ x holder. refl)
  none_leads (Copy f) = by_found P (get h.waits f) h _ refl (λ x future. refl)
  none_leads (Poll f w) = by_found P (get h.waits f) h _ refl (λ x future. by_found P (get h.points x.point) h _ refl (λ r there. by_if P ((count_at (end_of x.awaits) r).number == 0) _ _ (λ over. refl) (λ goes_on. refl)))
  none_leads (EndWait f) = ends f
  none_leads (EndEither k) = by_if P (is_holder h k) _ _ (λ holds. by_holder P h refl k (counts.end_holder h k) (λ x r holder there. refl)) (λ future. ends k)
  none_leads (CopySender k) = by_found P (get h.senders k) h _ refl (λ o sender. refl)
  none_leads (Send k) = by_found P (get h.senders k) h _ refl (λ o sender. by_found P (get h.points o) h _ refl (λ r there. refl))
  none_leads (Await k) = by_found P (get h.senders k) h _ refl (λ o sender. refl)
  none_leads (EndSender k) = by_found P (get h.senders k) h _ refl (λ o sender. by_found P (get h.points o) h _ refl (λ r there. refl))
  none_leads _ = by_holder P h refl _ _ (λ x r holder there. refl)

-- ---- a poll at a barrier
module _ (h : Barriers) (f w : ℕ) (x : BarrierWait) where
  leader-at : (r : Barrier) (o : Option ℕ) → is_leader (barriers.poll_at h f w x r o).reply ≡ leads_new r o
  leader-at r None = elim (leads r) as (λ b. is_leader (if b then barriers.leading h f x r else barriers.joining h f w x r).reply ≡ b) [ true ↦ refl | false ↦ refl ]
  leader-at r (Some round) = elim (has_completed r round) as (λ b. is_leader (if b then quietly (barriers.gone h f) answers.Ready else barriers.waiting_on h f w x r).reply ≡ false) [ true ↦ refl | false ↦ refl ]

  leader-there : (p : Option Barrier) → is_leader (found p h (barriers.poll h f w x)).reply ≡ leads_there p x.round
  leader-there None = refl
  leader-there (Some r) = leader-at r x.round

  wakes-at : (r : Barrier) (o : Option ℕ) → leads_new r o ≡ true → (barriers.poll_at h f w x r o).wakes ≡ wakers r.waiting
  wakes-at r None e = ap (λ b. (if b then barriers.leading h f x r else barriers.joining h f w x r).wakes) e
  wakes-at r (Some round) e = absurd (cc)

  wakes-there : (p : Option Barrier) → leads_there p x.round ≡ true → (found p h (barriers.poll h f w x)).wakes ≡ wakers (unwrap_or p (new_barrier 1)).waiting
  wakes-there None e = absurd (cc)
  wakes-there (Some r) e = wakes-at r x.round e

leader-poll : (h : Barriers) (f w : ℕ) (o : Option BarrierWait) → is_leader (found o h (λ x. found (get h.barriers x.barrier) h (barriers.poll h f w x))).reply ≡ leads_wait h o
leader-poll h f w None = refl
leader-poll h f w (Some x) = leader-there h f w x (get h.barriers x.barrier)

module _ (h : Hall) (i : ℕ) where
  by_meaning : (d : Meaning) → is_leader (step_by h i d).reply ≡ leads_meant h d
  by_meaning (OnCounts k a) = none_leads (part h k) i a
  by_meaning (OnBarriers (at_barriers.Poll f w)) = leader-poll h.barriers f w (get h.barriers.waits f)
  by_meaning _ = refl

pub exactly : (h : Hall) (i : ℕ) (e : MeetEvent) → is_leader (step h i e).reply ≡ leads_by h e
exactly h i e = by_meaning h i (meaning_of e)

pub wakes : (h : Hall) (i f w : ℕ) (x : BarrierWait) → get h.barriers.waits f ≡ Some x → leads_by h (events.BarPoll f w) ≡ true
    → (step h i (events.BarPoll f w)).wakes ≡ wakers (barrier_at h.barriers x.barrier).waiting
wakes h i f w x is e = ap (λ (o : Outcome Barriers). o.wakes) (found_is (get h.barriers.waits f) h.barriers (λ x. found (get h.barriers.barriers x.barrier) h.barriers (barriers.poll h.barriers f w x)) x is)
    ∙ wakes-there h.barriers f w x (get h.barriers.barriers x.barrier) (sym (ap (leads_wait h.barriers) is) ∙ e)

-- ---- arrivals at a barrier
-- of a barrier that stays: as many more as counted
abbrev Arrives : Barriers → Barriers → (ℕ → ℕ) → Type 0
Arrives h m count = (b : ℕ) → IsSome (get h.barriers b) → IsSome (get m.barriers b) → (barrier_at m b).arrivals ≡ (barrier_at h b).arrivals + count b

module _ (h : Barriers) where
  arrives-same : (m : Barriers) → m.barriers ≡ h.barriers → (count : ℕ → ℕ) → ((b : ℕ) → count b ≡ 0) → Arrives h m count
  arrives-same m same count none b there still = rw same (omega (arith, none b))

  arrives-put : (a : ℕ) (p : Barrier) (ws : Names BarrierWait) (count : ℕ → ℕ) → p.arrivals ≡ (barrier_at h a).arrivals + count a → ((b : ℕ) → (a ≡ b → ⊥) → count b ≡ 0) → Arrives h (record { barriers = insert h.barriers a p; waits = ws }) count
  arrives-put a p ws count here others b there still = by_at_put (new_barrier 1) h.barriers a p (λ c s. s.arrivals ≡ (barrier_at h c).arrivals + count c) here (λ c apart. let none = others c apart in omega (arith, none)) b

  module _ (f w : ℕ) (x : BarrierWait) (r : Barrier) (there : get h.barriers x.barrier ≡ Some r) where
    at : barrier_at h x.barrier ≡ r
    at = ap (λ o. unwrap_or o (new_barrier 1)) there

    arrives-at : (o : Option ℕ) → Arrives h (barriers.poll_at h f w x r o).hall (λ b. cond (x.barrier == b) (arrivals_new o) 0)
    arrives-at None =
        let one = on_true (x.barrier == x.barrier) 1 (eq-eqb x.barrier x.barrier refl) in
        let arrived : (barrier_at h x.barrier).arrivals ≡ r.arrivals = ap (λ (r : Barrier). r.arrivals) at in
        by_if (λ (o : Outcome Barriers). Arrives h o.hall (λ c. cond (x.barrier == c) 1 0)) (leads r) _ _
        (λ leads. arrives-put x.barrier (record r { arrivals = r.arrivals + 1; waiting = [] }) (remove h.waits f) (λ c. cond (x.barrier == c) 1 0) (omega (arith, one, arrived)) (λ c apart. on_false (x.barrier == c) 1 (ne_eqb x.barrier c apart)))
        (λ follows. arrives-put x.barrier (record r { arrivals = r.arrivals + 1; waiting = registering r.waiting f w }) (insert h.waits f (record x { round = Some (r.arrivals / r.size) })) (λ c. cond (x.barrier == c) 1 0) (omega (arith, one, arrived)) (λ c apart. on_false (x.barrier == c) 1 (ne_eqb x.barrier c apart)))
    arrives-at (Some round) =
        let arrived : (barrier_at h x.barrier).arrivals ≡ r.arrivals = ap (λ (r : Barrier). r.arrivals) at in
        by_if (λ (o : Outcome Barriers). Arrives h o.hall (λ c. cond (x.barrier == c) 0 0)) (has_completed r round) _ _
        (λ over. arrives-same (barriers.gone h f) refl (λ c. cond (x.barrier == c) 0 0) (λ c. idle (x.barrier == c)))
        (λ runs. arrives-put x.barrier (record r { waiting = registering r.waiting f w }) h.waits (λ c. cond (x.barrier == c) 0 0) (let none = idle (x.barrier == x.barrier) in omega (arith, none, arrived)) (λ c apart. idle (x.barrier == c)))
      where
        idle : (b : Bool) → ◌≡◌ {A = ℕ} (cond b 0 0) 0
        idle true = refl
        idle false = refl

  arrives-poll : (n : ℕ) → HasBarriers h n → (f w : ℕ) (o : Option BarrierWait) → get h.waits f ≡ o → Arrives h (found o h (λ x. found (get h.barriers x.barrier) h (barriers.poll h f w x))).hall (arrivals_wait o)
  arrives-poll n v f w None absent = arrives-same h refl (λ b. 0) (λ b. refl)
  arrives-poll n v f w (Some x) future = let it = value_in (get h.barriers x.barrier) (v.waits.at f x future).1 in
      rw (found_is (get h.barriers x.barrier) h (barriers.poll h f w x) it.0 it.1) (arrives-at f w x it.0 it.1 x.round)

  arrives-drop : (a : ℕ) → Arrives h (barriers.drop h a).hall (λ b. 0)
  arrives-drop a b there = by_gone h.barriers a (λ c o. IsSome o → (unwrap_or o (new_barrier 1)).arrivals ≡ (barrier_at h c).arrivals + 0) (λ still. absurd (cc)) (λ c apart still. omega arith) b

  arrives-make : (n i k : ℕ) → n ≤ i → HasBarriers h n → Arrives h (barriers.make h i k).hall (λ b. 0)
  arrives-make n i k later v b there still = by_at_put (new_barrier 1) h.barriers i (new_barrier k) (λ c r. IsSome (get h.barriers c) → r.arrivals ≡ (barrier_at h c).arrivals + 0)
      (λ known. absurd (let it = value_in (get h.barriers i) known in let low = (v.each i it.0 it.1).below in omega (arith, low, later))) (λ c apart known. omega arith) b there

arrives-meant : (h : Hall) (n i : ℕ) (d : Meaning) → IsValid h n → n ≤ i → Arrives h.barriers (step_by h i d).hall.barriers (arrivals_meant h d)
arrives-meant h n i (OnBarriers (at_barriers.Make k)) v later = arrives-make h.barriers n i k later v.barriers
arrives-meant h n i (OnBarriers (at_barriers.Begin b)) v later = arrives-same h.barriers (barriers.begin h.barriers i b).hall refl (λ b. 0) (λ b. refl)
arrives-meant h n i (OnBarriers (at_barriers.Poll f w)) v later = arrives-poll h.barriers n v.barriers f w (get h.barriers.waits f) refl
arrives-meant h n i (OnBarriers (at_barriers.End f)) v later = arrives-same h.barriers (barriers.gone h.barriers f) refl (λ b. 0) (λ b. refl)
arrives-meant h n i (OnBarriers (at_barriers.Drop b)) v later = arrives-drop h.barriers b
arrives-meant h n i (OnCounts k a) v later = still k
  where
    still : (k : Kind) → Arrives h.barriers (step_by h i (OnCounts k a)).hall.barriers (λ b. 0)
    still Latches = arrives-same h.barriers h.barriers refl (λ b. 0) (λ b. refl)
    still _ = arrives-same h.barriers h.barriers refl (λ b. 0) (λ b. refl)

pub arrives : (h : Hall) (n i : ℕ) (e : MeetEvent) → IsValid h n → n ≤ i → (b : ℕ) → IsSome (get h.barriers.barriers b) → IsSome (get (step h i e).hall.barriers.barriers b)
    → (barrier_at (step h i e).hall.barriers b).arrivals ≡ (barrier_at h.barriers b).arrivals + arrivals_by h e b
arrives h n i e v later = arrives-meant h n i (meaning_of e) v later

-- ---- how many lead
-- an arrival that leads ends a round, and no other does
ends_round : (r : Barrier) → 1 ≤ r.size → cond (leads r) 1 0 + r.arrivals / r.size ≡ (r.arrivals + 1) / r.size
ends_round r some = elim (leads r) as (λ b. leads r ≡ b → cond b 1 0 + r.arrivals / r.size ≡ (r.arrivals + 1) / r.size) [
  | true ↦ λ e. omega (arith, next_round r.size r.arrivals some e)
  | false ↦ λ e. omega (arith, same_round r.size r.arrivals some e)
] refl

-- who leads among the next arrivals are as many as the rounds that these end
leaders-rounds : (r : Barrier) (k : ℕ) → 1 ≤ r.size → leaders r k + r.arrivals / r.size ≡ (r.arrivals + k) / r.size
leaders-rounds r zero some =
    let all : r.arrivals / r.size ≡ (r.arrivals + 0) / r.size = ap (λ a. a / r.size) (let same : r.arrivals ≡ r.arrivals + 0 = omega arith in same) in
    omega (arith, all)
leaders-rounds r (suc k) some =
    let further = leaders-rounds (record r { arrivals = r.arrivals + 1 }) k some in
    let all : (r.arrivals + 1 + k) / r.size ≡ (r.arrivals + suc k) / r.size =
    ap (λ a. a / r.size) (let same : r.arrivals + 1 + k ≡ r.arrivals + suc k = omega arith in same) in
    omega (arith, further, all, ends_round r some)

pub one : (r : Barrier) → 1 ≤ r.size → leaders r r.size ≡ 1
one r some = omega (arith, leaders-rounds r r.size some, one_round r.size r.arrivals some)
