-- what each event does to barriers, as they are kept and as they are seen
use Rattle.std.proofs.Common.{◌≡◌, ℕ, ◌+◌, ◌-◌, ◌*◌, ◌/◌, ◌<◌, ◌≤◌, ◌^◌, ◌++◌, inl, inr, Bool, true, false, cond, List, length, map, max, [], nat_lt, nat_le, Option, Some, None, IsSome, is_some, Result, Ok, if◌then◌else◌, refl, ap, sym, subst, ◌∙◌, arith, append-nil}
use Rattle.std.specs.Option.{option_map}
use Rattle.std.specs.FinMap.{get, insert, remove, empty, len, len-empty}
use Rattle.std.specs.Ordering.{nat_cmp}
use Rattle.std.proofs.lemmas.Bool.{cases_eq, le-leb, leb-true, leb-false, and_from}
use Rattle.std.proofs.lemmas.Nat.{le-div}
use Rattle.mea_base.specs.Ready.{Waking}
use Rattle.mea_base.specs.Totals.{total, weight}
use Rattle.mea_base.proofs.Totals.{total-insert, total-remove, total-same}
use Rattle.mea_base.proofs.Maps.{by_put, by_gone, total-has, nothing_at, inside, removed_there}
use Rattle.mea_base.proofs.NamedMaps.{is_some-map, get-seen}
use Rattle.mea_family.specs.Causes.{unknown_unless, borrowed_by}
use Rattle.mea_family.specs.Family.{Outcome, quietly}
use Rattle.mea_family.specs.Play.{Part, PartYields, PartRests}
use Rattle.mea_family.specs.declared.answer.Answer.{Answer}
use Rattle.mea_family.specs.declared.answer.Answer.TheVariants as answers
use Rattle.mea_family.specs.declared.stop.Stop.TheVariants as stops
use Rattle.mea_by_name.specs.declared.named_waker.NamedWaker.{NamedWaker}
use Rattle.mea_by_name.specs.ByName.{Names, seen, own}
use Rattle.mea_by_name.specs.NamedQueue.{registering}
use Rattle.mea_by_name.proofs.Cases.{found_is, if_true, if_false}
use Rattle.mea_by_name.proofs.Own.{Moves, Comes, Goes, moves_elsewhere, seen-at, seen-empty, seen-insert, seen-remove, seen-alike, own-at, own-none, own-put, own-gone, own-empty, own-seen, insert_same, gone_none, len-new, len-over, len-gone, len-some, len-seen, total-seen, seen-none_back, seen-some_back}
use Rattle.mea_sets.specs.declared.place.Place.{Place}
use Rattle.mea_sets.specs.Poll.{Poll, Ready, Pending}
use Rattle.mea_sets.specs.WaitSet.{has_given, with_waker, slot_after}
use Rattle.mea_cores_by_name.specs.SetLinked.{SetLinked, set_names}
use Rattle.mea_cores_by_name.proofs.Sets.{registered_links, registered_names, drained_links, begun_links, gone_links, length-set_names, wakers-names, linked_later}
use Rattle.mea_meet_core.specs.Barrier as cores
use Rattle.mea_meet_core.specs.Barrier.{is_open, led, joined, Polls, Arrives, Returns}
use Rattle.mea_meet_core.specs.declared.barrier_fault.BarrierFault.{BarrierFault}
use Rattle.mea_meet_core.specs.declared.barrier_wait.BarrierWait.{BarrierWait as Wait}
use Rattle.mea_meet_core.specs.declared.barrier_wait.BarrierWait.TheVariants.{New, Arrived, Done}
use Rattle.mea_meet_model.specs.Barriers as model
use Rattle.mea_meet_model.specs.Barriers.{Barriers, Barrier, no_barriers, is_barrier, is_wait, waits_of, registered, leads, has_completed}
use Rattle.mea_meet_model.specs.declared.barrier_action.BarrierAction.{BarrierAction}
use Rattle.mea_meet_model.specs.declared.barrier_action.BarrierAction.TheVariants.{Make, Begin, Poll as PollIt, End, Drop}
use Rattle.mea_meet_model.specs.BarrierActions.{cause_at, act_at}
use Rattle.mea_meet_model.specs.Valid.{HasBarriers, IsBarrier}
use Rattle.mea_meet_model.proofs.BarriersKept.{barriers_empty, keeps}
use Rattle.mea_by_name.proofs.Halls.{no_thing}
use Rattle.mea_meet_model.proofs.Rounds.{has_begun}
use Rattle.mea_meet.specs.declared.barrier_entry.BarrierEntry.{BarrierEntry}
use Rattle.mea_meet.specs.declared.barrier_entry.BarrierWaitEntry.{BarrierWaitEntry}
use Rattle.mea_meet.specs.BarrierEntries.{Turns}
use Rattle.mea_meet.specs.BarrierParts.{core_seen, barrier_seen, slot_of, round_of, wait_seen, barriers_seen, of_barrier, slots_of, IsUnfinished, AreKept, AreKeptBarriers}
use Rattle.mea_meet.proofs.OneCount.{fresh_linked}

-- ---- nothing
pub new_kept : AreKeptBarriers empty empty 0
new_kept = record { valid = rw (seen-empty barrier_seen, seen-empty wait_seen) barriers_empty; each = λ b e is. absurd (nothing_at BarrierEntry b e is) }

pub new_view : ◌≡◌ {A = Part Barriers} (record { hall = barriers_seen empty empty; next = 0 }) (record { hall = no_barriers; next = 0 })
new_view = rw (seen-empty barrier_seen, seen-empty wait_seen) refl

-- ---- how many wakers are registered
abbrev kept_by : BarrierEntry → ℕ
kept_by e = length e.core.waiting.wakers

abbrev kept_in : Names BarrierEntry → ℕ
kept_in bs = total (λ b (e : BarrierEntry). length e.core.waiting.wakers) bs

registered_is : (bs : Names BarrierEntry) → total (λ b (r : Barrier). length r.waiting) (seen barrier_seen bs) ≡ kept_in bs
registered_is bs = total-seen barrier_seen (λ (r : Barrier). length r.waiting) bs
    ∙ total-same (λ b (e : BarrierEntry). length (set_names e.core.waiting)) (λ b (e : BarrierEntry). length e.core.waiting.wakers) bs (λ b e is. length-set_names e.core.waiting.wakers)

-- a round that has begun is not past the one under way
reached : (size round arrivals : ℕ) → 1 ≤ size → round * size ≤ arrivals → nat_le round (arrivals / size) ≡ true
reached size round arrivals some begun = le-leb round (arrivals / size) (le-div round arrivals size (omega (arith, some)) begun)

-- ---- one barrier
module _ (e : BarrierEntry) (ws : Names BarrierWaitEntry) (n i : ℕ) (a : AreKept e ws n) where
  pub lasts : n ≤ i → AreKept e ws i
  lasts later = record { linked = linked_later e.core.waiting (slots_of ws) n i a.linked later; unfinished = a.unfinished; quiet = a.quiet; counted = a.counted; few = let few = a.few in omega (arith, few, later) }

  module _ (later : n ≤ i) where
    begins : (x : BarrierWaitEntry) → x.wait ≡ New → get ws i ≡ None → AreKept (record e { waits = e.waits + 1 }) (insert ws i x) (i + 1)
    begins x new fresh = record {
      linked = subst (λ m. SetLinked e.core.waiting m (i + 1)) (sym (seen-insert (λ (x : BarrierWaitEntry). slot_of x.wait) ws i x ∙ ap (λ w. insert (slots_of ws) i (slot_of w)) new)) (begun_links e.core.waiting (slots_of ws) n i a.linked later);
      unfinished = by_put ws i x (λ f p. (y : BarrierWaitEntry) → p ≡ Some y → IsUnfinished y.wait) (λ y is. subst IsUnfinished (sym new ∙ ap (λ (x : BarrierWaitEntry). x.wait) (inside is)) tt) (λ f apart y is. a.unfinished f y is);
      quiet = a.quiet;
      counted = let all = a.counted in let more = len-new ws i x fresh in omega (arith, all, more);
      few = let few = a.few in omega (arith, few, later);
    }

    -- by a future
    module _ (f : ℕ) (x : BarrierWaitEntry) (there : get ws f ≡ Some x) where
      gone : SetLinked e.core.waiting (slots_of (remove ws f)) (i + 1)
      gone = linked_later e.core.waiting (slots_of (remove ws f)) n (i + 1) (subst (λ m. SetLinked e.core.waiting m n) (sym (seen-remove (λ (x : BarrierWaitEntry). slot_of x.wait) ws f)) (gone_links e.core.waiting (slots_of ws) n f a.linked)) (omega (arith, later))

      -- it is gone, and its barrier is this
      leaves : (c : cores.Barrier NamedWaker) → SetLinked c.waiting (slots_of (remove ws f)) (i + 1) → c.wakes ≡ [] → AreKept (record { core = c; waits = e.waits - 1 }) (remove ws f) (i + 1)
      leaves c linked quiet = record {
        linked = linked;
        unfinished = λ g y is. a.unfinished g y (removed_there ws f g y is);
        quiet = quiet;
        counted = let all = a.counted in let less = len-gone ws f x there in let some = len-some ws f x there in omega (arith, all, less, some);
        few = let few = a.few in omega (arith, few, later);
      }

      slot_known : get (slots_of ws) f ≡ Some (slot_of x.wait)
      slot_known = seen-at (λ (x : BarrierWaitEntry). slot_of x.wait) ws f x there

      given : has_given e.core.waiting (slot_of x.wait) ≡ true
      given = ((a.linked).each f (slot_of x.wait) slot_known).1.given

      names_now : (w : ℕ) → set_names (with_waker e.core.waiting (slot_of x.wait) (record { name = f; waker = w })) ≡ registering (set_names e.core.waiting) f w
      names_now w = registered_names e.core.waiting (slots_of ws) n f w (slot_of x.wait) a.linked slot_known

      -- its waker is registered
      waits_on : (w round : ℕ) (c : cores.Barrier NamedWaker) → c.waiting ≡ with_waker e.core.waiting (slot_of x.wait) (record { name = f; waker = w }) → c.wakes ≡ []
          → AreKept (record e { core = c }) (insert ws f (record x { wait = Arrived round (slot_after e.core.waiting (slot_of x.wait)) })) (i + 1)
      waits_on w round c waiting quiet = record {
        linked = subst (λ s. SetLinked s (slots_of (insert ws f (record x { wait = Arrived round (slot_after e.core.waiting (slot_of x.wait)) }))) (i + 1)) (sym waiting)
            (subst (λ m. SetLinked (with_waker e.core.waiting (slot_of x.wait) (record { name = f; waker = w })) m (i + 1)) (sym (seen-insert (λ (x : BarrierWaitEntry). slot_of x.wait) ws f (record x { wait = Arrived round (slot_after e.core.waiting (slot_of x.wait)) })))
            (linked_later _ _ n (i + 1) (registered_links e.core.waiting (slots_of ws) n f w (slot_of x.wait) a.linked slot_known) (omega (arith, later))));
        unfinished = by_put ws f (record x { wait = Arrived round (slot_after e.core.waiting (slot_of x.wait)) }) (λ f p. (y : BarrierWaitEntry) → p ≡ Some y → IsUnfinished y.wait) (λ y is. subst (λ (y : BarrierWaitEntry). IsUnfinished y.wait) (inside is) tt) (λ g apart y is. a.unfinished g y is);
        quiet = quiet;
        counted = let all = a.counted in let same = len-over ws f (record x { wait = Arrived round (slot_after e.core.waiting (slot_of x.wait)) }) x there in omega (arith, all, same);
        few = let few = a.few in omega (arith, few, later);
      }

-- ---- what is seen at a name
module _ (bs : Names BarrierEntry) (ws : Names BarrierWaitEntry) (next : ℕ) {old : Part Barriers} (view : ◌≡◌ {A = Part Barriers} (record { hall = barriers_seen bs ws; next = next }) old) where
  pub barrier_is : (b : ℕ) (p : Option BarrierEntry) → get bs b ≡ p → option_map barrier_seen p ≡ get old.hall.barriers b
  barrier_is b p is = ap (option_map barrier_seen) (sym is) ∙ sym (get-seen (λ k e. barrier_seen e) bs b) ∙ ap (λ (p : Part Barriers). get p.hall.barriers b) view

  pub is_barrier_is : (b : ℕ) → is_some (get bs b) ≡ is_barrier old.hall b
  is_barrier_is b = sym (is_some-map barrier_seen (get bs b)) ∙ ap is_some (barrier_is b (get bs b) refl)

  pub is_wait_is : (f : ℕ) → is_some (get ws f) ≡ is_wait old.hall f
  is_wait_is f = sym (is_some-map wait_seen (get ws f)) ∙ ap is_some (sym (get-seen (λ k y. wait_seen y) ws f)) ∙ ap (λ (p : Part Barriers). is_wait p.hall f) view

-- ---- the barriers before event number i
pub record Site (old : Part Barriers) (i : ℕ) : Type 0 where
  pub bs : Names BarrierEntry
  pub ws : Names BarrierWaitEntry
  pub next : ℕ
  pub view : ◌≡◌ {A = Part Barriers} (record { hall = barriers_seen bs ws; next = next }) old
  pub kept : AreKeptBarriers bs ws next
  pub later : next ≤ i

abbrev pub site : {old : Part Barriers} {i : ℕ} (bs : Names BarrierEntry) (ws : Names BarrierWaitEntry) (next : ℕ) → ◌≡◌ {A = Part Barriers} (record { hall = barriers_seen bs ws; next = next }) old → AreKeptBarriers bs ws next → old.next ≤ i → Site old i
site bs ws next view kept later = record { bs = bs; ws = ws; next = next; view = view; kept = kept; later = rw (← view) at later }

abbrev pub look : {old : Part Barriers} (bs : Names BarrierEntry) (ws : Names BarrierWaitEntry) (next : ℕ) → ◌≡◌ {A = Part Barriers} (record { hall = barriers_seen bs ws; next = next }) old → AreKeptBarriers bs ws next → Site old next
look bs ws next view kept = record { bs = bs; ws = ws; next = next; view = view; kept = kept; later = omega arith }

abbrev pub part_of : Names BarrierEntry → Names BarrierWaitEntry → ℕ → Part Barriers
part_of bs ws next = record { hall = barriers_seen bs ws; next = next }

module _ {old : Part Barriers} {i : ℕ} (s : Site old i) where
  abbrev here : Barriers
  here = barriers_seen s.bs s.ws

  in_view : (P : Barriers → Type 0) → P old.hall → P (barriers_seen s.bs s.ws)
  in_view P is = subst (λ (p : Part Barriers). P p.hall) (sym s.view) is

  abbrev Rests : BarrierAction → Answer → Names BarrierEntry → Names BarrierWaitEntry → Type 0
  Rests a answer bs ws = AreKeptBarriers bs ws (i + 1) × ((cause_at old.hall a ≡ None) × PartRests registered old i (act_at old.hall i a) answer (part_of bs ws (i + 1)))

  abbrev Yields : BarrierAction → Answer → Names BarrierEntry → Names BarrierWaitEntry → Waking ℕ → Waking ℕ → Type 0
  Yields a answer bs ws before after = AreKeptBarriers bs ws (i + 1) × ((cause_at old.hall a ≡ None) × PartYields registered old i (act_at old.hall i a) answer (part_of bs ws (i + 1)) before after)

  -- ---- the new maps stand for what the event leaves
  module _ (a : BarrierAction) (out : Outcome Barriers) (is : act_at here i a ≡ out) (allowed : cause_at old.hall a ≡ None) (answer : Answer) (replied : answer ≡ out.reply) (bs' : Names BarrierEntry) (ws' : Names BarrierWaitEntry)
      (barriers : seen barrier_seen bs' ≡ out.hall.barriers) (waits : seen wait_seen ws' ≡ out.hall.waits) (each : (b : ℕ) (e : BarrierEntry) → get bs' b ≡ Some e → AreKept e (own of_barrier b ws') (i + 1)) where
    same : barriers_seen bs' ws' ≡ out.hall
    same j = record { barriers = barriers j; waits = waits j }

    keeps_as : AreKeptBarriers bs' ws' (i + 1)
    keeps_as = record { valid = subst (λ (g : Barriers). HasBarriers g (i + 1)) (ap (λ (o : Outcome Barriers). o.hall) is ∙ sym same) (keeps here s.next i s.kept.valid s.later a (in_view (λ h. cause_at h a ≡ None) allowed)); each = each }

    before_is : registered here ≡ kept_in s.bs
    before_is = registered_is s.bs

    after_is : registered out.hall ≡ kept_in bs'
    after_is = ap registered (sym same) ∙ registered_is bs'

    rests_as : out.wakes ≡ [] → kept_in bs' ≡ kept_in s.bs → Rests a answer bs' ws'
    rests_as silent waiting = (
      keeps_as,
      (allowed, subst (λ p. PartRests registered p i (act_at p.hall i a) answer (part_of bs' ws' (i + 1))) s.view (rw is (record { replied = replied; moved = λ j. record { hall = same j; next = i + 1 }; silent = silent; counted = after_is ∙ waiting ∙ sym before_is }))),
    )

    yields_as : (before after : Waking ℕ) → after.wakers ≡ before.wakers ++ out.wakes → after.registered + kept_in s.bs ≡ before.registered + kept_in bs' → Yields a answer bs' ws' before after
    yields_as before after woken waiting = (
      keeps_as,
      (allowed, subst (λ p. PartYields registered p i (act_at p.hall i a) answer (part_of bs' ws' (i + 1)) before after) s.view (rw is (record { replied = replied; moved = λ j. record { hall = same j; next = i + 1 }; woken = woken; counted = omega (arith, waiting, before_is, after_is) }))),
    )

  -- ---- what is there
  pub barrier_there : (b : ℕ) → is_barrier old.hall b ≡ true → IsSome (get s.bs b)
  barrier_there b is = seen-some_back barrier_seen s.bs b (in_view (λ h. is_barrier h b ≡ true) is)

  pub waits_barrier : (f : ℕ) (x : BarrierWaitEntry) → get s.ws f ≡ Some x → IsSome (get s.bs x.barrier)
  waits_barrier f x there = seen-some_back barrier_seen s.bs x.barrier (s.kept.valid.waits.at f (wait_seen x) (seen-at wait_seen s.ws f x there)).1

  new_wait : get s.ws i ≡ None
  new_wait = seen-none_back wait_seen s.ws i (no_thing model.of_wait _ _ s.next i s.kept.valid.waits s.later)

  -- ---- why it is refused, or is not
  known_barrier : (b : ℕ) (p : Option BarrierEntry) → get s.bs b ≡ p → is_barrier old.hall b ≡ is_some p
  known_barrier b p is = sym (is_barrier_is s.bs s.ws s.next s.view b) ∙ ap is_some is

  known_wait : (f : ℕ) (p : Option BarrierWaitEntry) → get s.ws f ≡ p → is_wait old.hall f ≡ is_some p
  known_wait f p is = sym (is_wait_is s.bs s.ws s.next s.view f) ∙ ap is_some is

  pub barrier_told : (b : ℕ) (p : Option BarrierEntry) → get s.bs b ≡ p → unknown_unless (is_barrier old.hall b) ≡ unknown_unless (is_some p)
  barrier_told b p is = ap unknown_unless (known_barrier b p is)

  pub wait_told : (f : ℕ) (p : Option BarrierWaitEntry) → get s.ws f ≡ p → unknown_unless (is_wait old.hall f) ≡ unknown_unless (is_some p)
  wait_told f p is = ap unknown_unless (known_wait f p is)

  -- what was lent or sought, and did not change
  untold : (bs' : Names BarrierEntry) (ws' : Names BarrierWaitEntry) → bs' ≡ s.bs → ws' ≡ s.ws → AreKeptBarriers bs' ws' s.next × (part_of bs' ws' s.next ≡ old)
  untold bs' ws' barriers waits = rw (barriers, waits) (s.kept, s.view)

  pub unlent : (b : ℕ) (e : BarrierEntry) → get s.bs b ≡ Some e → AreKeptBarriers (insert s.bs b e) s.ws s.next × (part_of (insert s.bs b e) s.ws s.next ≡ old)
  unlent b e there = untold (insert s.bs b e) s.ws (insert_same s.bs b e there) refl

  pub untaken : (f : ℕ) → get s.ws f ≡ None → (ws' : Names BarrierWaitEntry) → ws' ≡ remove s.ws f → AreKeptBarriers s.bs ws' s.next × (part_of s.bs ws' s.next ≡ old)
  untaken f none ws' gone = untold s.bs ws' refl (gone ∙ gone_none s.ws f none)

  -- ---- at a barrier that is there
  module _ (b : ℕ) (e : BarrierEntry) (there : get s.bs b ≡ Some e) where
    abbrev its : AreKept e (own of_barrier b s.ws) s.next
    its = s.kept.each b e there

    its_seen : get (seen barrier_seen s.bs) b ≡ Some (barrier_seen e)
    its_seen = seen-at barrier_seen s.bs b e there

    pub valid_there : IsBarrier b (barrier_seen e) (seen wait_seen s.ws) s.next
    valid_there = s.kept.valid.each b (barrier_seen e) (seen-at barrier_seen s.bs b e there)

    pub its_quiet : e.core.wakes ≡ []
    its_quiet = (its).quiet

    pub its_room : (before : Waking ℕ) → registered old.hall ≤ before.registered → length e.core.waiting.wakers ≤ before.registered
    its_room before room =
        let all : registered old.hall ≡ kept_in s.bs = ap (λ (p : Part Barriers). registered p.hall) (sym s.view) ∙ registered_is s.bs in
        omega (arith, room, all, total-has (λ b (e : BarrierEntry). length e.core.waiting.wakers) s.bs b e there)

    pub its_few : i < 2 ^ 64 → e.core.arrivals < 18446744073709551615
    its_few fits = let few = (valid_there).few in let later = s.later in omega (arith, few, later, fits)

    pub few_waits : i < 2 ^ 64 → e.waits + 1 < 2 ^ 128
    few_waits fits = let few = (its).few in let later = s.later in omega (arith, few, later, fits)

    pub waits_is : waits_of old.hall b ≡ e.waits
    waits_is = ap (λ (p : Part Barriers). waits_of p.hall b) (sym s.view) ∙ ap len (own-seen of_barrier model.of_wait wait_seen (λ x. refl) b s.ws) ∙ len-seen wait_seen (own of_barrier b s.ws) ∙ sym (its).counted

    pub drop_cause : (if nat_lt 0 e.waits then Some stops.Borrowed else None) ≡ borrowed_by (is_barrier old.hall b) (waits_of old.hall b)
    drop_cause = ap (λ n. if nat_lt 0 n then Some stops.Borrowed else None) (sym waits_is) ∙ sym (ap (λ k. borrowed_by k (waits_of old.hall b)) (known_barrier b (Some e) there))

    kept_now : (d : BarrierEntry) → kept_in (insert s.bs b d) + kept_by e ≡ kept_in s.bs + kept_by d
    kept_now d =
        let was : weight (λ b (e : BarrierEntry). length e.core.waiting.wakers) b (get s.bs b) ≡ kept_by e = ap (weight (λ b (e : BarrierEntry). length e.core.waiting.wakers) b) there in
        omega (arith, was, total-insert (λ b (e : BarrierEntry). length e.core.waiting.wakers) s.bs b d)

    each_turned : (ws' : Names BarrierWaitEntry) → Moves of_barrier b i s.ws ws' → (d : BarrierEntry) → AreKept d (own of_barrier b ws') (i + 1) → (q : ℕ) (g : BarrierEntry) → get (insert s.bs b d) q ≡ Some g → AreKept g (own of_barrier q ws') (i + 1)
    each_turned ws' moves d good = by_put s.bs b d (λ q p. (g : BarrierEntry) → p ≡ Some g → AreKept g (own of_barrier q ws') (i + 1)) (λ g is. subst (λ g. AreKept g (own of_barrier b ws') (i + 1)) (inside is) good)
        (λ q apart g is. rw (moves_elsewhere of_barrier b i s.ws ws' moves q apart) (lasts g (own of_barrier q s.ws) s.next (i + 1) (s.kept.each q g is) (let later = s.later in omega (arith, later))))

    pub begun : (w : Wait) → w ≡ New → (ws' : Names BarrierWaitEntry) → ws' ≡ insert s.ws i (record { barrier = b; wait = w })
        → Rests (Begin b) answers.Made (insert s.bs b (record e { waits = e.waits + 1 })) ws'
    begun w new ws' put =
        let now = kept_now (record e { waits = e.waits + 1 }) in
        rw put (rests_as (Begin b) (model.begin here i b) refl (barrier_told b (Some e) there) answers.Made refl (insert s.bs b (record e { waits = e.waits + 1 })) (insert s.ws i (record { barrier = b; wait = w }))
        (seen-alike barrier_seen s.bs b e (record e { waits = e.waits + 1 }) there refl)
        (seen-insert wait_seen s.ws i (record { barrier = b; wait = w }) ∙ ap (insert (seen wait_seen s.ws) i) (λ j. record { barrier = b; round = round_of (new j) }))
        (each_turned (insert s.ws i (record { barrier = b; wait = w })) (Comes i (record { barrier = b; wait = w }) (omega arith) refl (λ z is. absurd (let none = new_wait in cc))) (record e { waits = e.waits + 1 })
        (rw (own-put of_barrier b s.ws i (record { barrier = b; wait = w }) refl) (begins e (own of_barrier b s.ws) s.next i its s.later (record { barrier = b; wait = w }) new (own-none of_barrier b s.ws i new_wait))))
        refl (omega (arith, now)))

    pub dropped : borrowed_by (is_barrier old.hall b) (waits_of old.hall b) ≡ None → (bs' : Names BarrierEntry) → bs' ≡ remove s.bs b → (before after : Waking ℕ) → after ≡ record before { registered = before.registered - length e.core.waiting.wakers } → registered old.hall ≤ before.registered
        → Yields (Drop b) answers.Done bs' s.ws before after
    dropped allowed bs' gone before after less room =
        let was : weight (λ b (e : BarrierEntry). length e.core.waiting.wakers) b (get s.bs b) ≡ kept_by e = ap (weight (λ b (e : BarrierEntry). length e.core.waiting.wakers) b) there in
        let all = total-remove (λ b (e : BarrierEntry). length e.core.waiting.wakers) s.bs b in
        let fits = its_room before room in
        let counted = ap (λ (w : Waking ℕ). w.registered) less in
        rw gone (yields_as (Drop b) (model.drop here b) refl allowed answers.Done refl (remove s.bs b) s.ws (seen-remove barrier_seen s.bs b) refl
        (by_gone s.bs b (λ q p. (g : BarrierEntry) → p ≡ Some g → AreKept g (own of_barrier q s.ws) (i + 1)) (λ g is. absurd (cc)) (λ q apart g is. lasts g (own of_barrier q s.ws) s.next (i + 1) (s.kept.each q g is) (let later = s.later in omega (arith, later))))
        before after (ap (λ (w : Waking ℕ). w.wakers) less ∙ sym (append-nil before.wakers)) (omega (arith, was, all, fits, counted)))

    -- ---- by a future of it
    module _ (f : ℕ) (x : BarrierWaitEntry) (future : get s.ws f ≡ Some x) (mine : x.barrier ≡ b) where
      own_future : get (own of_barrier b s.ws) f ≡ Some x
      own_future = own-at of_barrier b s.ws f x future mine

      pub some_waits : 1 ≤ e.waits
      some_waits = let all = (its).counted in let one = len-some (own of_barrier b s.ws) f x own_future in omega (arith, all, one)

      pub opened : is_open e.core x.wait ≡ true
      opened = at x.wait refl
        where
          at : (u : Wait) → x.wait ≡ u → is_open e.core x.wait ≡ true
          at New to = ap (is_open e.core) to
          at Done to = absurd (subst IsUnfinished to ((its).unfinished f x own_future))
          at (Arrived round slot) to = ap (is_open e.core) to ∙ and_from (nat_le round (e.core.arrivals / e.core.size)) (has_given e.core.waiting slot)
              (reached e.core.size round e.core.arrivals (valid_there).sized ((valid_there).begun f (wait_seen x) round (seen-at wait_seen s.ws f x future) mine (ap round_of to)))
              (ap (λ u. has_given e.core.waiting (slot_of u)) (sym to) ∙ given e (own of_barrier b s.ws) s.next i its s.later f x own_future)

      goes : Moves of_barrier b i s.ws (remove s.ws f)
      goes = Goes f (λ z is. ap (λ (x : BarrierWaitEntry). x.barrier) (inside (sym is ∙ future)) ∙ mine)

      pub ended : (ws' : Names BarrierWaitEntry) → ws' ≡ remove s.ws f → Rests (End f) answers.Done (insert s.bs b (record e { waits = e.waits - 1 })) ws'
      ended ws' gone_now =
          let now = kept_now (record e { waits = e.waits - 1 }) in
          rw gone_now (rests_as (End f) (model.end here f) refl (wait_told f (Some x) future) answers.Done refl (insert s.bs b (record e { waits = e.waits - 1 })) (remove s.ws f)
          (seen-alike barrier_seen s.bs b e (record e { waits = e.waits - 1 }) there refl) (seen-remove wait_seen s.ws f)
          (each_turned (remove s.ws f) goes (record e { waits = e.waits - 1 })
          (rw (own-gone of_barrier b s.ws f) (leaves e (own of_barrier b s.ws) s.next i its s.later f x own_future e.core (gone e (own of_barrier b s.ws) s.next i its s.later f x own_future) its_quiet)))
          refl (omega (arith, now)))

      -- what a poll does, by the model
      act_is : (w : ℕ) → act_at here i (PollIt f w) ≡ model.poll_at here f w (wait_seen x) (barrier_seen e) (round_of x.wait)
      act_is w = found_is _ _ _ (wait_seen x) (seen-at wait_seen s.ws f x future) ∙ found_is _ _ _ (barrier_seen e) (ap (get (seen barrier_seen s.bs)) mine ∙ its_seen)

      -- the core after its wakers were handed on
      quiet_core : (d : BarrierEntry) (c : cores.Barrier NamedWaker) (woken : List NamedWaker) → d.core.wakes ≡ [] → record d.core { wakes = woken } ≡ c → d.core ≡ record c { wakes = [] }
      quiet_core d c woken quiet is = λ j. record { size = (is j).size; arrivals = (is j).arrivals; waiting = (is j).waiting; wakes = quiet j }

      module _ (w : ℕ) (d : BarrierEntry) (u : Wait) (before after : Waking ℕ) where
        -- it waits: its waker is registered
        registers : (round : ℕ) (c : cores.Barrier NamedWaker) → c.waiting ≡ with_waker e.core.waiting (slot_of x.wait) (record { name = f; waker = w }) → c.wakes ≡ [] → (out : Outcome Barriers) → act_at here i (PollIt f w) ≡ out → out.reply ≡ answers.Pending → out.wakes ≡ []
            → out.hall ≡ record { barriers = insert (seen barrier_seen s.bs) b (record (core_seen c) { waiting = registering (set_names e.core.waiting) f w }); waits = insert (seen wait_seen s.ws) f (record { barrier = b; round = Some round }) }
            → (t : Turns e x.wait (record { name = f; waker = w }) Pending d u before after) → record d.core { wakes = t.woken } ≡ c → u ≡ Arrived round (slot_after e.core.waiting (slot_of x.wait))
            → Yields (PollIt f w) answers.Pending (insert s.bs b d) (insert s.ws f (record x { wait = u })) before after
        registers round c waiting calm out is pends silent hall t core wait =
            let core_is : d.core ≡ c = quiet_core d c t.woken t.quiet core ∙ (λ j. record c { wakes = sym calm j }) in
            let d_is : d ≡ record e { core = c } = λ j. record { core = core_is j; waits = t.waits j } in
            let now = kept_now d in
            let counted = t.counted in
            let none : t.woken ≡ [] = ap (λ (c : cores.Barrier NamedWaker). c.wakes) core ∙ calm in
            let names : set_names c.waiting ≡ registering (set_names e.core.waiting) f w = ap set_names waiting ∙ names_now e (own of_barrier b s.ws) s.next i its s.later f x own_future w in
            yields_as (PollIt f w) out is (wait_told f (Some x) future) answers.Pending (sym pends) (insert s.bs b d) (insert s.ws f (record x { wait = u }))
            (seen-insert barrier_seen s.bs b d ∙ ap (insert (seen barrier_seen s.bs) b) (ap core_seen core_is ∙ (λ j. record (core_seen c) { waiting = names j })) ∙ ap (λ (h : Barriers). h.barriers) (sym hall))
            (seen-insert wait_seen s.ws f (record x { wait = u }) ∙ ap (insert (seen wait_seen s.ws) f) (λ j. record { barrier = mine j; round = round_of (wait j) }) ∙ ap (λ (h : Barriers). h.waits) (sym hall))
            (each_turned (insert s.ws f (record x { wait = u })) (Comes f (record x { wait = u }) (let low = (s.kept.valid.waits.at f (wait_seen x) (seen-at wait_seen s.ws f x future)).0 in let later = s.later in omega (arith, low, later)) mine (λ z is. ap (λ (x : BarrierWaitEntry). x.barrier) (inside (sym is ∙ future)) ∙ mine)) d
            (rw (own-put of_barrier b s.ws f (record x { wait = u }) mine, wait, d_is) (waits_on e (own of_barrier b s.ws) s.next i its s.later f x own_future w round c waiting calm)))
            before after (t.wakers ∙ ap (λ ws. before.wakers ++ map (λ (k : NamedWaker). k.waker) ws) none ∙ ap (λ ws. before.wakers ++ ws) (sym silent)) (omega (arith, now, counted))

        pub pends : Turns e x.wait (record { name = f; waker = w }) Pending d u before after → Yields (PollIt f w) answers.Pending (insert s.bs b d) (insert s.ws f (record x { wait = u })) before after
        pends t = at x.wait refl t.polls
          where
            follows : (c : Bool) → leads (barrier_seen e) ≡ c → x.wait ≡ New → Arrives e.core (record { name = f; waker = w }) (Ok Pending) (record d.core { wakes = t.woken }) u → Yields (PollIt f w) answers.Pending (insert s.bs b d) (insert s.ws f (record x { wait = u })) before after
            follows true decided to arrives = elim (cases_eq (e.core.arrivals / e.core.size) 18446744073709551615) [
              | inl last ↦ absurd (let clash = (arrives.overflow decided last).0 in cc)
              | inr few ↦ absurd (let clash = (arrives.completes decided few).0 in cc)
            ]
            follows false decided to arrives =
                let it = arrives.follows decided in
                registers (e.core.arrivals / e.core.size) (joined e.core (record { name = f; waker = w })) (ap (λ u. with_waker e.core.waiting (slot_of u) (record { name = f; waker = w })) (sym to)) its_quiet
                (model.joining here f w (wait_seen x) (barrier_seen e)) (act_is w ∙ ap (λ u. model.poll_at here f w (wait_seen x) (barrier_seen e) (round_of u)) to ∙ if_false (leads (barrier_seen e)) _ _ decided) refl refl
                (λ j. record { barriers = insert (seen barrier_seen s.bs) (mine j) (record (barrier_seen e) { arrivals = e.core.arrivals + 1; waiting = registering (set_names e.core.waiting) f w }); waits = insert (seen wait_seen s.ws) f (record { barrier = mine j; round = Some (e.core.arrivals / e.core.size) }) })
                t it.1 (it.2 ∙ ap (λ u. Arrived (e.core.arrivals / e.core.size) (slot_after e.core.waiting (slot_of u))) (sym to))

            runs : (round : ℕ) (slot : Option Place) (c : Bool) → has_completed (barrier_seen e) round ≡ c → x.wait ≡ Arrived round slot → Returns e.core round slot (record { name = f; waker = w }) (Ok Pending) (record d.core { wakes = t.woken }) u
                → Yields (PollIt f w) answers.Pending (insert s.bs b d) (insert s.ws f (record x { wait = u })) before after
            runs round slot true over to returns = absurd (let clash = (returns.ready (leb-true ((round + 1) * e.core.size) e.core.arrivals over)).0 in cc)
            runs round slot false over to returns =
                let it = returns.pending (leb-false ((round + 1) * e.core.size) e.core.arrivals over) in
                registers round (record e.core { waiting = with_waker e.core.waiting slot (record { name = f; waker = w }) }) (ap (λ u. with_waker e.core.waiting (slot_of u) (record { name = f; waker = w })) (sym to)) its_quiet
                (model.waiting_on here f w (wait_seen x) (barrier_seen e)) (act_is w ∙ ap (λ u. model.poll_at here f w (wait_seen x) (barrier_seen e) (round_of u)) to ∙ if_false (has_completed (barrier_seen e) round) _ _ over) refl refl
                (λ j. record {
                  barriers = insert (seen barrier_seen s.bs) (mine j) (record (barrier_seen e) { waiting = registering (set_names e.core.waiting) f w });
                  waits = sym (insert_same (seen wait_seen s.ws) f (record { barrier = b; round = Some round }) (seen-at wait_seen s.ws f x future ∙ (λ j. Some (record { barrier = mine j; round = round_of (to j) })))) j;
                })
                t it.1 (it.2 ∙ ap (λ u. Arrived round (slot_after e.core.waiting (slot_of u))) (sym to))

            at : (v : Wait) → x.wait ≡ v → Polls e.core x.wait (record { name = f; waker = w }) (Ok Pending) (record d.core { wakes = t.woken }) u → Yields (PollIt f w) answers.Pending (insert s.bs b d) (insert s.ws f (record x { wait = u })) before after
            at New to polls = follows (leads (barrier_seen e)) refl to (subst (λ v. Polls e.core v (record { name = f; waker = w }) (Ok Pending) (record d.core { wakes = t.woken }) u) to polls)
            at (Arrived round slot) to polls = runs round slot (has_completed (barrier_seen e) round) refl to (subst (λ v. Polls e.core v (record { name = f; waker = w }) (Ok Pending) (record d.core { wakes = t.woken }) u) to polls)
            at Done to polls = absurd (subst IsUnfinished to ((its).unfinished f x own_future))

        -- it is ready, and gone
        goes_off : (c : cores.Barrier NamedWaker) → SetLinked c.waiting (slots_of (own of_barrier b (remove s.ws f))) (i + 1) → (out : Outcome Barriers) → act_at here i (PollIt f w) ≡ out → (answer : Answer) → answer ≡ out.reply → out.wakes ≡ map (λ (k : NamedWaker). k.waker) c.wakes
            → out.hall.barriers ≡ insert (seen barrier_seen s.bs) b (core_seen c) → out.hall.waits ≡ remove (seen wait_seen s.ws) f → (told : Bool) → (t : Turns e x.wait (record { name = f; waker = w }) (Ready told) d u before after) → record d.core { wakes = t.woken } ≡ c
            → Yields (PollIt f w) answer (insert s.bs b (record d { waits = d.waits - 1 })) (remove s.ws f) before after
        goes_off c linked out is answer replied woken barriers waits told t core =
            let core_is : d.core ≡ record c { wakes = [] } = quiet_core d c t.woken t.quiet core in
            let d_is : record d { waits = d.waits - 1 } ≡ record { core = record c { wakes = [] }; waits = e.waits - 1 } = λ j. record { core = core_is j; waits = t.waits j - 1 } in
            let now = kept_now (record d { waits = d.waits - 1 }) in
            let counted = t.counted in
            yields_as (PollIt f w) out is (wait_told f (Some x) future) answer replied (insert s.bs b (record d { waits = d.waits - 1 })) (remove s.ws f)
            (seen-insert barrier_seen s.bs b (record d { waits = d.waits - 1 }) ∙ ap (insert (seen barrier_seen s.bs) b) (ap core_seen core_is) ∙ sym barriers) (seen-remove wait_seen s.ws f ∙ sym waits)
            (each_turned (remove s.ws f) goes (record d { waits = d.waits - 1 })
            (rw d_is (subst (λ m. AreKept (record { core = record c { wakes = [] }; waits = e.waits - 1 }) m (i + 1)) (sym (own-gone of_barrier b s.ws f)) (leaves e (own of_barrier b s.ws) s.next i its s.later f x own_future (record c { wakes = [] }) (subst (λ m. SetLinked c.waiting (slots_of m) (i + 1)) (own-gone of_barrier b s.ws f) linked) refl))))
            before after (t.wakers ∙ ap (λ (c : cores.Barrier NamedWaker). before.wakers ++ map (λ (k : NamedWaker). k.waker) c.wakes) core ∙ ap (λ ws. before.wakers ++ ws) (sym woken)) (omega (arith, now, counted))

        pub readies : i < 2 ^ 64 → (told : Bool) → Turns e x.wait (record { name = f; waker = w }) (Ready told) d u before after → Yields (PollIt f w) (cond told answers.Leader answers.Ready) (insert s.bs b (record d { waits = d.waits - 1 })) (remove s.ws f) before after
        readies fits told t = at x.wait refl t.polls
          where
            not_last : e.core.arrivals / e.core.size ≡ 18446744073709551615 → ⊥
            not_last last = absurd (
                let most : 18446744073709551615 * e.core.size ≤ e.core.arrivals = subst (λ q. q * e.core.size ≤ e.core.arrivals) last (has_begun e.core.size e.core.arrivals) in
                let sized = (valid_there).sized in
                let few = its_few fits in
                omega (arith, most, sized, few))

            own_gone : SetLinked e.core.waiting (slots_of (own of_barrier b (remove s.ws f))) (i + 1)
            own_gone = subst (λ m. SetLinked e.core.waiting (slots_of m) (i + 1)) (sym (own-gone of_barrier b s.ws f)) (gone e (own of_barrier b s.ws) s.next i its s.later f x own_future)

            leads_now : (c : Bool) → leads (barrier_seen e) ≡ c → x.wait ≡ New → Arrives e.core (record { name = f; waker = w }) (Ok (Ready told)) (record d.core { wakes = t.woken }) u → Yields (PollIt f w) (cond told answers.Leader answers.Ready) (insert s.bs b (record d { waits = d.waits - 1 })) (remove s.ws f) before after
            leads_now false decided to arrives = absurd (let clash = (arrives.follows decided).0 in cc)
            leads_now true decided to arrives =
                let it = arrives.completes decided not_last in
                let leader : told ≡ true = (let same : ◌≡◌ {A = Result (Poll Bool) (BarrierFault NamedWaker)} (Ok (Ready told)) (Ok (Ready true)) = it.0 in cc) in
                goes_off (led e.core) (drained_links e.core.waiting (slots_of (own of_barrier b (remove s.ws f))) (i + 1) own_gone)
                (model.leading here f (wait_seen x) (barrier_seen e)) (act_is w ∙ ap (λ u. model.poll_at here f w (wait_seen x) (barrier_seen e) (round_of u)) to ∙ if_true (leads (barrier_seen e)) _ _ decided)
                (cond told answers.Leader answers.Ready) (ap (λ t. cond t answers.Leader answers.Ready) leader)
                (wakers-names e.core.waiting.wakers ∙ ap (λ ws. map (λ (k : NamedWaker). k.waker) (ws ++ e.core.waiting.wakers)) (sym its_quiet))
                (λ j. insert (seen barrier_seen s.bs) (mine j) (record (barrier_seen e) { arrivals = e.core.arrivals + 1; waiting = [] })) refl told t it.1

            over_now : (round : ℕ) (slot : Option Place) (c : Bool) → has_completed (barrier_seen e) round ≡ c → x.wait ≡ Arrived round slot → Returns e.core round slot (record { name = f; waker = w }) (Ok (Ready told)) (record d.core { wakes = t.woken }) u
                → Yields (PollIt f w) (cond told answers.Leader answers.Ready) (insert s.bs b (record d { waits = d.waits - 1 })) (remove s.ws f) before after
            over_now round slot false over to returns = absurd (let clash = (returns.pending (leb-false ((round + 1) * e.core.size) e.core.arrivals over)).0 in cc)
            over_now round slot true over to returns =
                let it = returns.ready (leb-true ((round + 1) * e.core.size) e.core.arrivals over) in
                let follower : told ≡ false = (let same : ◌≡◌ {A = Result (Poll Bool) (BarrierFault NamedWaker)} (Ok (Ready told)) (Ok (Ready false)) = it.0 in cc) in
                goes_off e.core own_gone (quietly (model.gone here f) answers.Ready) (act_is w ∙ ap (λ u. model.poll_at here f w (wait_seen x) (barrier_seen e) (round_of u)) to ∙ if_true (has_completed (barrier_seen e) round) _ _ over)
                (cond told answers.Leader answers.Ready) (ap (λ t. cond t answers.Leader answers.Ready) follower) (ap (map (λ (k : NamedWaker). k.waker)) (sym its_quiet))
                (sym (insert_same (seen barrier_seen s.bs) b (barrier_seen e) its_seen)) refl told t it.1

            at : (v : Wait) → x.wait ≡ v → Polls e.core x.wait (record { name = f; waker = w }) (Ok (Ready told)) (record d.core { wakes = t.woken }) u → Yields (PollIt f w) (cond told answers.Leader answers.Ready) (insert s.bs b (record d { waits = d.waits - 1 })) (remove s.ws f) before after
            at New to polls = leads_now (leads (barrier_seen e)) refl to (subst (λ v. Polls e.core v (record { name = f; waker = w }) (Ok (Ready told)) (record d.core { wakes = t.woken }) u) to polls)
            at (Arrived round slot) to polls = over_now round slot (has_completed (barrier_seen e) round) refl to (subst (λ v. Polls e.core v (record { name = f; waker = w }) (Ok (Ready told)) (record d.core { wakes = t.woken }) u) to polls)
            at Done to polls = absurd (subst IsUnfinished to ((its).unfinished f x own_future))

      -- where nothing changed
      pub unpolled : (d : BarrierEntry) (u : Wait) → d ≡ e → u ≡ x.wait → AreKeptBarriers (insert s.bs b d) (insert s.ws f (record x { wait = u })) s.next × (part_of (insert s.bs b d) (insert s.ws f (record x { wait = u })) s.next ≡ old)
      unpolled d u first second = rw (first, second, insert_same s.bs b e there, insert_same s.ws f x future) (s.kept, s.view)

  -- ---- a barrier is made
  pub made : (n : ℕ) (c : cores.Barrier NamedWaker) → c ≡ record { size = max n 1; arrivals = 0; waiting = record { wakers = []; drains = 0 }; wakes = [] } → (bs' : Names BarrierEntry) → bs' ≡ insert s.bs i (record { core = c; waits = 0 }) → Rests (Make n) answers.Made bs' s.ws
  made n c is bs' put =
      let new : get s.bs i ≡ None = seen-none_back barrier_seen s.bs i no_barrier in
      let nothing : weight (λ b (e : BarrierEntry). length e.core.waiting.wakers) i (get s.bs i) ≡ 0 = ap (weight (λ b (e : BarrierEntry). length e.core.waiting.wakers) i) new in
      let all = total-insert (λ b (e : BarrierEntry). length e.core.waiting.wakers) s.bs i (record { core = fresh; waits = 0 }) in
      rw (put, is) (rests_as (Make n) (model.make here i n) refl refl answers.Made refl (insert s.bs i (record { core = fresh; waits = 0 })) s.ws (seen-insert barrier_seen s.bs i (record { core = fresh; waits = 0 })) refl
      (by_put s.bs i (record { core = fresh; waits = 0 }) (λ q p. (g : BarrierEntry) → p ≡ Some g → AreKept g (own of_barrier q s.ws) (i + 1)) (λ g is. subst (λ g. AreKept g (own of_barrier i s.ws) (i + 1)) (inside is) (rw own_none new_kept_one))
      (λ q apart g is. lasts g (own of_barrier q s.ws) s.next (i + 1) (s.kept.each q g is) (let later = s.later in omega (arith, later))))
      refl (omega (arith, nothing, all)))
    where
      fresh : cores.Barrier NamedWaker
      fresh = record { size = max n 1; arrivals = 0; waiting = record { wakers = []; drains = 0 }; wakes = [] }

      no_barrier : get (seen barrier_seen s.bs) i ≡ None
      no_barrier = at (get (seen barrier_seen s.bs) i) refl
        where
          at : (p : Option Barrier) → get (seen barrier_seen s.bs) i ≡ p → get (seen barrier_seen s.bs) i ≡ None
          at None is = is
          at (Some r) is = absurd (let low = (s.kept.valid.each i r is).below in let later = s.later in omega (arith, low, later))

      own_none : own of_barrier i s.ws ≡ empty
      own_none = own-empty of_barrier i s.ws (λ f x is mine. absurd (let some = subst (λ b. IsSome (get (seen barrier_seen s.bs) b)) (sym mine) (s.kept.valid.waits.at f (wait_seen x) (seen-at wait_seen s.ws f x is)).1 in let none = ap is_some no_barrier in let no = sym none ∙ some in cc))

      new_kept_one : AreKept (record { core = fresh; waits = 0 }) empty (i + 1)
      new_kept_one = record {
        linked = subst (λ m. SetLinked (record { wakers = []; drains = 0 }) m (i + 1)) (sym (seen-empty (λ (x : BarrierWaitEntry). slot_of x.wait))) (fresh_linked (i + 1));
        unfinished = λ f x is. absurd (nothing_at BarrierWaitEntry f x is);
        quiet = refl;
        counted = sym (len-empty nat_cmp BarrierWaitEntry);
        few = omega arith;
      }
