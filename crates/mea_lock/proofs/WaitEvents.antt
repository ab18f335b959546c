-- what each event does to condition variables and their waits, as they are kept and as they are seen
use Rattle.std.proofs.Common.{◌≡◌, ℕ, ◌+◌, ◌-◌, ◌<◌, ◌≤◌, ◌^◌, ◌++◌, Bool, true, false, cond, length, List, [], ◌∷◌, map, Option, Some, None, is_some, nat_lt, refl, ap, sym, subst, ◌∙◌, arith, append-nil, append_assoc, if◌then◌else◌, IfSome, IsTrue, ◌↔◌}
use Rattle.std.specs.Option.{IsSome, option_map}
use Rattle.std.specs.Ordering.{nat_cmp}
use Rattle.std.specs.FinMap.{get, insert, remove, len, empty, len-empty}
use Rattle.std.proofs.lemmas.List.{length-map, length-append}
use Rattle.mea_family.specs.Causes.{borrowed_by}
use Rattle.mea_family.specs.declared.answer.Answer.{Answer}
use Rattle.mea_family.specs.declared.answer.Answer.TheVariants as answers
use Rattle.mea_family.specs.Family.{Outcome, quietly, is_pending}
use Rattle.mea_base.specs.Ready.{Waking}
use Rattle.mea_base.specs.Totals.{total, weight}
use Rattle.mea_base.proofs.Maps.{by_put, total-has, nothing_at, inside, get-there, is_there, removed_there}
use Rattle.mea_base.proofs.Totals.{total-insert, total-remove, total-same, total-alike}
use Rattle.mea_base.proofs.NamedMaps.{is_some-map, get-seen}
use Rattle.mea_by_name.specs.declared.named_waker.NamedWaker.{NamedWaker}
use Rattle.mea_by_name.specs.ByName.{Names, seen, own, AreHome}
use Rattle.mea_family.specs.Play.{Part, PartYields, PartRests, found}
use Rattle.mea_by_name.specs.NamedQueue.{Waiting, waits}
use Rattle.mea_by_name.proofs.NamedQueues.{length-with_waker}
use Rattle.mea_by_name.proofs.Cases.{found_is, if_true, if_false}
use Rattle.mea_by_name.proofs.Halls as halls
use Rattle.mea_by_name.proofs.Own.{seen-at, seen-empty, seen-insert, seen-remove, seen-alike, own-seen, len-seen, total-seen, own-at, own-had, own-none, own-put, own-gone, own-empty, len-some, len-total, insert_same, Moves, Stays, Comes, Goes, moves_elsewhere, moves_home}
use Rattle.mea_lock_core.specs.Condvar.{Condvar, Lists, Knows, waker_under}
use Rattle.mea_lock_model.specs.Locks as locks
use Rattle.mea_lock_model.specs.Locks.{Locks, was_polled}
use Rattle.mea_lock_model.specs.Condvars as model
use Rattle.mea_lock_model.specs.Condvars.{Condvars, CondWait, is_condvar, is_wait, waits_of, until_of, registered}
use Rattle.mea_family.specs.declared.stop.Stop.TheVariants as stops
use Rattle.mea_lock_model.specs.Actions.{Action, Hand, PollUntil, EndWait, act_in}
use Rattle.mea_lock_model.specs.declared.cond_action.CondAction.{CondAction}
use Rattle.mea_lock_model.specs.declared.cond_action.CondAction.TheVariants.{Make, Wait, Poll, One, All, End, Drop}
use Rattle.mea_lock_model.specs.CondActions.{act_on, on_both, told_by}
use Rattle.mea_lock_model.specs.LockHall.{LockHall}
use Rattle.mea_lock.specs.declared.wait_entry.WaitEntry.{WaitEntry}
use Rattle.mea_lock.specs.CondEntries.{KeptCondvar, listed_in, wakers_in, condvar_seen, wait_seen, IsWaitingUnder, ListsAt, counted_at, rewoken_under, left_under, forgotten_under, NotifiesFirst, NotifiesEach}
use Rattle.mea_lock.specs.CondParts.{condvars_seen, AreOf, AreListed, AreGood, AreKept, of_wait}
use Rattle.mea_lock.specs.Halls.{PlaysWaits}
use Rattle.mea_lock.specs.Lends.{ListsAs, counted_by, notified_by}
use Rattle.mea_lock.proofs.OneCondvar as one
use Rattle.mea_lock.proofs.Notified.{noted_by, told_are}

-- how many wait at the condition variables that are kept
abbrev waiters : KeptCondvar → ℕ
waiters e = length e.condvar.waiting

abbrev waiting_in : Names KeptCondvar → ℕ
waiting_in cs = total (λ o e. waiters e) cs

registered_is : (cs : Names KeptCondvar) (ws : Names WaitEntry) → registered (condvars_seen cs ws) ≡ waiting_in cs
registered_is cs ws = total-seen condvar_seen (λ (q : Waiting). length q) cs
    ∙ total-same (λ o (e : KeptCondvar). length (listed_in e.condvar.waiting)) (λ o e. waiters e) cs (λ o e there. length-map e.condvar.waiting (λ (k : ℕ × NamedWaker). (k.1.name, k.1.waker)))

-- ---- what is looked up
pub condvar_seen_is : (cs : Names KeptCondvar) (c : ℕ) → is_some (get cs c) ≡ is_some (get (seen condvar_seen cs) c)
condvar_seen_is cs c = sym (is_some-map condvar_seen (get cs c)) ∙ ap is_some (sym (get-seen (λ k x. condvar_seen x) cs c))

pub wait_seen_is : (ws : Names WaitEntry) (f : ℕ) → is_some (get ws f) ≡ is_some (get (seen wait_seen ws) f)
wait_seen_is ws f = sym (is_some-map wait_seen (get ws f)) ∙ ap is_some (sym (get-seen (λ k x. wait_seen x) ws f))

waits_seen : (cs : Names KeptCondvar) (ws : Names WaitEntry) (c : ℕ) → waits_of (condvars_seen cs ws) c ≡ len (own of_wait c ws)
waits_seen cs ws c = ap (λ n. len n) (own-seen of_wait (λ (x : CondWait). x.condvar) wait_seen (λ x. refl) c ws) ∙ len-seen wait_seen (own of_wait c ws)

module _ {old : Part Condvars} (cs : Names KeptCondvar) (ws : Names WaitEntry) (next : ℕ) (view : ◌≡◌ {A = Part Condvars} (record { hall = condvars_seen cs ws; next = next }) old) where
  pub condvar_of : (c : ℕ) → is_some (get cs c) ≡ is_condvar old.hall c
  condvar_of c = condvar_seen_is cs c ∙ ap (λ (p : Part Condvars). is_condvar p.hall c) view

  pub wait_of : (f : ℕ) → is_some (get ws f) ≡ is_wait old.hall f
  wait_of f = wait_seen_is ws f ∙ ap (λ (p : Part Condvars). is_wait p.hall f) view

  pub waits_of_it : AreKept cs ws next → (c : ℕ) (e : KeptCondvar) → get cs c ≡ Some e → waits_of old.hall c ≡ e.waits
  waits_of_it kept c e there = ap (λ (p : Part Condvars). waits_of p.hall c) (sym view) ∙ waits_seen cs ws c ∙ sym (kept.each c e there).counted

  pub lists_it : AreKept cs ws next → (c : ℕ) (e : KeptCondvar) → get cs c ≡ Some e → ListsAs old.hall c e.condvar
  lists_it kept c e there = record {
    waiting = ap (λ (p : Part Condvars). get p.hall.condvars c) (sym view) ∙ seen-at condvar_seen cs c e there;
    notified = len-total e.condvar.notified ∙ sym (told (λ by_one. 1));
    alone = sym (told (λ by_one. cond by_one 1 0));
  }
    where
      at : (counts : Bool → ℕ) (f : ℕ) (o : Option WaitEntry) → weight (λ f x. counted_by counts (listed_in e.condvar.waiting) f x) f (option_map wait_seen o) ≡ weight (λ f x. noted_by counts e.condvar.waiting f x) f o
      at counts f None = refl
      at counts f (Some x) = refl

      told : (counts : Bool → ℕ) → notified_by counts old.hall c (listed_in e.condvar.waiting) ≡ total (λ n by_one. counts by_one) e.condvar.notified
      told counts =
          ap (λ (p : Part Condvars). notified_by counts p.hall c (listed_in e.condvar.waiting)) (sym view)
          ∙ ap (λ xs. total (λ f x. counted_by counts (listed_in e.condvar.waiting) f x) xs) (own-seen of_wait (λ (x : CondWait). x.condvar) wait_seen (λ x. refl) c ws)
          ∙ total-alike (λ f x. counted_by counts (listed_in e.condvar.waiting) f x) (λ f x. noted_by counts e.condvar.waiting f x) (seen wait_seen (own of_wait c ws)) (own of_wait c ws)
          (λ f. ap (weight (λ f x. counted_by counts (listed_in e.condvar.waiting) f x) f) (get-seen (λ k x. wait_seen x) (own of_wait c ws) f) ∙ at counts f (get (own of_wait c ws) f))
          ∙ told_are counts (len e.condvar.notified) e (own of_wait c ws) refl (kept.each c e there)

  -- why it may not be dropped
  pub drop_unknown : (c : ℕ) → get cs c ≡ None → Some stops.Unknown ≡ borrowed_by (is_condvar old.hall c) (waits_of old.hall c)
  drop_unknown c none = ap (λ b. borrowed_by b (waits_of old.hall c)) (ap is_some (sym none) ∙ condvar_of c)

  pub drop_known : AreKept cs ws next → (c : ℕ) (e : KeptCondvar) → get cs c ≡ Some e → (if nat_lt 0 e.waits then Some stops.Borrowed else None) ≡ borrowed_by (is_condvar old.hall c) (waits_of old.hall c)
  drop_known kept c e there = ap (λ n. borrowed_by true n) (sym (waits_of_it kept c e there)) ∙ ap (λ b. borrowed_by b (waits_of old.hall c)) (ap is_some (sym there) ∙ condvar_of c)

-- ---- condition variables before event number i
pub record Site (old : Part Condvars) (i : ℕ) : Type 0 where
  pub cs : Names KeptCondvar
  pub ws : Names WaitEntry
  pub next : ℕ
  pub view : ◌≡◌ {A = Part Condvars} (record { hall = condvars_seen cs ws; next = next }) old
  pub kept : AreKept cs ws next
  pub later : next ≤ i
  pub fits : i < 2 ^ 64

abbrev pub site : {old : Part Condvars} {i : ℕ} (cs : Names KeptCondvar) (ws : Names WaitEntry) (next : ℕ) → ◌≡◌ {A = Part Condvars} (record { hall = condvars_seen cs ws; next = next }) old → AreKept cs ws next → old.next ≤ i → i < 2 ^ 64 → Site old i
site cs ws next view kept later fits = record { cs = cs; ws = ws; next = next; view = view; kept = kept; later = rw (← view) at later; fits = fits }

-- condition variables after it
abbrev pub part_of : Names KeptCondvar → Names WaitEntry → ℕ → Part Condvars
part_of cs ws next = record { hall = condvars_seen cs ws; next = next }

abbrev pub new_condvar : KeptCondvar
new_condvar = record { condvar = record { waiting = []; notified = empty; wakes = [] }; waits = 0 }

-- all that is there, with condition variables as they are kept
abbrev hall_with : Part Locks → Part Locks → Condvars → LockHall
hall_with m l v = record { mutexes = m.hall; rw_locks = l.hall; condvars = v }

-- a place that was taken, if one was, and is given up leaves what there was
pub given_up : (e e1 : KeptCondvar) (place : Option ℕ) (k : NamedWaker) → ListsAt e e1 place k → left_under e1 place ≡ e
given_up e e1 None k same = same
given_up e e1 (Some n) k listed =
    ap (λ (d : KeptCondvar). left_under d (Some n)) (listed.1 ∙ ap (λ s. record e { condvar = s }) listed.0.is)
    ∙ ap (λ q. record e { condvar = record e.condvar { waiting = q } }) (one.end-without e.condvar.waiting n k listed.0.not_waiting)

-- where it is given up after what was there before was forgotten, that alone was
pub forgotten_alone : (e e1 e2 e3 : KeptCondvar) (place : Option ℕ) (k : NamedWaker) (number : Option ℕ) → ListsAt e e1 place k → e2 ≡ forgotten_under e1 number → e3 ≡ left_under e2 place → e3 ≡ forgotten_under e number
forgotten_alone e e1 e2 e3 place k number listed forgotten left =
    left ∙ ap (λ (d : KeptCondvar). left_under d place) forgotten ∙ ap (λ (d : KeptCondvar). forgotten_under d number) (given_up e e1 place k listed)

-- and the wakers that were counted for it are counted no more
pub uncounted : (r r1 r2 r3 : Waking ℕ) (n : ℕ) → r1 ≡ record r { registered = r.registered + n } → r2 ≡ r1 → r3 ≡ record r2 { registered = r2.registered - n } → r3 ≡ r
uncounted r r1 r2 r3 n more same less = less ∙ ap (λ (r : Waking ℕ). record r { registered = r.registered - n }) (same ∙ more) ∙ (λ j. record { wakers = r.wakers; registered = back r.registered j })
  where
    back : (m : ℕ) → m + n - n ≡ m
    back m = omega arith

-- a place that was taken changes nothing of those that were notified
pub notified_still : (e e1 : KeptCondvar) (place : Option ℕ) (k : NamedWaker) → ListsAt e e1 place k → e1.condvar.notified ≡ e.condvar.notified
notified_still e e1 None k same = ap (λ (d : KeptCondvar). d.condvar.notified) same
notified_still e e1 (Some n) k listed = ap (λ (s : Condvar NamedWaker). s.notified) listed.0.is

-- one that waits under a number has one, for which a waker is counted
pub under_waits : (s : Condvar NamedWaker) (number : Option ℕ) → IsWaitingUnder s number → IfSome number (λ n. IsSome (waker_under s.waiting n))
under_waits s None under = absurd under
under_waits s (Some n) under = under

pub one_counted : (s : Condvar NamedWaker) (number : Option ℕ) → IsWaitingUnder s number → counted_at number ≡ 1
one_counted s None under = absurd under
one_counted s (Some n) under = refl

-- what is refused does not hold
pub refuted : {P : Type 0} (b : Bool) → IsTrue b ↔ P → b ≡ false → P → ⊥
refuted b is wrong p = absurd (let right = is.1 p in cc)

pub place_waits : (e e1 : KeptCondvar) (place : Option ℕ) (k : NamedWaker) → ListsAt e e1 place k → IfSome place (λ n. IsSome (waker_under e1.condvar.waiting n))
place_waits e e1 None k same = tt
place_waits e e1 (Some n) k listed = ap (λ (s : Condvar NamedWaker). is_some (waker_under s.waiting n)) listed.0.is ∙ ap is_some (one.end-there e.condvar.waiting n k listed.0.not_waiting)

module _ {old : Part Condvars} {i : ℕ} (s : Site old i) where
  abbrev now : Condvars
  now = condvars_seen s.cs s.ws

  -- what is said of condition variables as they are kept is said of them as they are seen
  plays_as : (a : CondAction) (answer : Answer) (m m' : Part Locks) (v : Condvars) (cs' : Names KeptCondvar) (ws' : Names WaitEntry) (before after : Waking ℕ) (wakes : List ℕ)
      → ((l : Part Locks) → act_on (hall_with m l now) i a ≡ record { hall = hall_with m' l v; reply = answer; wakes = wakes }) → seen condvar_seen cs' ≡ v.condvars → seen wait_seen ws' ≡ v.waits
      → after.wakers ≡ before.wakers ++ wakes → after.registered + (locks.registered m.hall + waiting_in s.cs) ≡ before.registered + (locks.registered m'.hall + waiting_in cs') → m'.next ≤ i + 1
      → PlaysWaits m old i a answer m' (part_of cs' ws' (i + 1)) before after
  plays_as a answer m m' v cs' ws' before after wakes is condvars waits woken counted next = subst (λ (p : Part Condvars). PlaysWaits m p i a answer m' (part_of cs' ws' (i + 1)) before after) s.view (record {
    wakes = wakes;
    moved = λ l. is l ∙ (λ j. record { hall = hall_with m' l (record { condvars = sym condvars j; waits = sym waits j }); reply = answer; wakes = wakes });
    woken = woken;
    counted = omega (arith, counted, registered_is s.cs s.ws, registered_is cs' ws');
    next = (next, omega arith);
  })

  -- ---- what is there
  pub condvar_there : (c : ℕ) → is_condvar old.hall c ≡ true → IsSome (get s.cs c)
  condvar_there c is = condvar_of s.cs s.ws s.next s.view c ∙ is

  pub wait_is : (f : ℕ) (p : Option WaitEntry) → get s.ws f ≡ p → is_wait old.hall f ≡ is_some p
  wait_is f p is = sym (wait_of s.cs s.ws s.next s.view f) ∙ ap is_some is

  pub wait_there : (f : ℕ) → is_wait old.hall f ≡ true → IsSome (get s.ws f)
  wait_there f is = wait_of s.cs s.ws s.next s.view f ∙ is

  pub no_wait : get s.ws i ≡ None
  no_wait = halls.no_first of_wait of_wait AreGood (λ e. e.waits) s.cs s.ws empty s.next i s.kept s.later s.fits

  room_in : (before : Waking ℕ) → registered old.hall ≤ before.registered → waiting_in s.cs ≤ before.registered
  room_in before room =
      let all : registered old.hall ≡ waiting_in s.cs = ap (λ (p : Part Condvars). registered p.hall) (sym s.view) ∙ registered_is s.cs s.ws in
      omega (arith, all, room)

  -- ---- a condition variable is made
  pub made : AreKept (insert s.cs i new_condvar) s.ws (i + 1) × ((m : Part Locks) (w : Waking ℕ) → m.next ≤ i → PlaysWaits m old i Make answers.Made m (part_of (insert s.cs i new_condvar) s.ws (i + 1)) w w)
  made =
      let absent = halls.no_object of_wait of_wait AreGood (λ e. e.waits) s.cs s.ws empty s.next i s.kept s.later s.fits in
      let nothing : weight (λ o e. waiters e) i (get s.cs i) ≡ 0 = ap (weight (λ o e. waiters e) i) absent in (
        halls.makes of_wait of_wait AreGood (λ e. e.waits) s.cs s.ws empty s.next i s.kept s.later s.fits new_condvar one.new_listed refl,
        λ m w later. plays_as Make answers.Made m m _ (insert s.cs i new_condvar) s.ws w w [] (λ l. refl) (seen-insert condvar_seen s.cs i new_condvar) refl (sym (append-nil w.wakers))
            (omega (arith, nothing, total-insert (λ o e. waiters e) s.cs i new_condvar)) (omega arith),
      )

  -- ---- one condition variable
  module _ (c : ℕ) (e : KeptCondvar) (there : get s.cs c ≡ Some e) where
    pub good : AreListed e (own of_wait c s.ws)
    good = s.kept.each c e there

    pub its_room : (before : Waking ℕ) → registered old.hall ≤ before.registered → waiters e ≤ before.registered
    its_room before room = omega (arith, room_in before room, total-has (λ o e. waiters e) s.cs c e there)

    found_condvar : (h : LockHall) (act : Waiting → Outcome LockHall) → found (get (seen condvar_seen s.cs) c) h act ≡ act (condvar_seen e)
    found_condvar h act = found_is _ h act (condvar_seen e) (seen-at condvar_seen s.cs c e there)

    -- how many wait where it is e' now
    waiting_now : (e' : KeptCondvar) → waiting_in (insert s.cs c e') + waiters e ≡ waiting_in s.cs + waiters e'
    waiting_now e' =
        let here : weight (λ o e. waiters e) c (get s.cs c) ≡ waiters e = ap (weight (λ o e. waiters e) c) there in
        omega (arith, here, total-insert (λ o e. waiters e) s.cs c e')

    -- it changes, with its waits, and no others do
    turns_by : (e' : KeptCondvar) (ws' : Names WaitEntry) → ((p : ℕ) → (c ≡ p → ⊥) → own of_wait p ws' ≡ own of_wait p s.ws) → AreHome of_wait (insert s.cs c e') ws' (i + 1) → AreListed e' (own of_wait c ws') → e'.waits ≤ e.waits + 1
        → AreKept (insert s.cs c e') ws' (i + 1)
    turns_by e' ws' elsewhere home listed few = record {
      each = by_put s.cs c e' (λ q p. (d : KeptCondvar) → p ≡ Some d → AreListed d (own of_wait q ws')) (λ d is. subst (λ (d : KeptCondvar). AreListed d (own of_wait c ws')) (inside is) listed)
          (λ q apart d is. rw (elsewhere q apart) (s.kept.each q d is));
      below = by_put s.cs c e' (λ q p. (d : KeptCondvar) → p ≡ Some d → (q < i + 1) × (d.waits ≤ i + 1))
          (λ d is. let same : e' ≡ d = inside is in let low = s.kept.below c e there in let later = s.later in rw (← same) (omega (arith, low.0), omega (arith, low.1)))
          (λ q apart d is. let low = s.kept.below q d is in let later = s.later in (omega (arith, low.0), omega (arith, low.1)));
      firsts = home;
      seconds = record { at = λ k x is. absurd (nothing_at WaitEntry k x is) };
      low = let fits = s.fits in omega arith;
    }

    keeps : (e' : KeptCondvar) (q : ℕ) → IsSome (get s.cs q) → IsSome (get (insert s.cs c e') q)
    keeps e' q some = by_put s.cs c e' (λ q p. IsSome (get s.cs q) → IsSome p) (λ some. refl) (λ q apart some. some) q some

    here : (e' : KeptCondvar) → IsSome (get (insert s.cs c e') c)
    here e' = is_there (get (insert s.cs c e') c) e' (get-there s.cs c e')

    turns : (e' : KeptCondvar) (ws' : Names WaitEntry) → Moves of_wait c i s.ws ws' → AreListed e' (own of_wait c ws') → e'.waits ≤ e.waits + 1 → AreKept (insert s.cs c e') ws' (i + 1)
    turns e' ws' moves = turns_by e' ws' (moves_elsewhere of_wait c i s.ws ws' moves) (moves_home of_wait s.cs (insert s.cs c e') c i s.next s.ws ws' moves s.later s.kept.firsts (here e') (keeps e'))

    -- a look alone changes nothing
    pub unchanged : AreKept (insert s.cs c e) s.ws s.next × (part_of (insert s.cs c e) s.ws s.next ≡ old)
    unchanged = rw (insert_same s.cs c e there) (s.kept, s.view)

    -- ---- a wait on it is made, which takes a guard over
    module _ (g : ℕ) (bound : Option ℕ) where
      abbrev pub new_wait : WaitEntry
      new_wait = record { condvar = c; bound = bound; polled = false; number = None; alone = false }

      pub begun : AreKept (insert s.cs c (record e { waits = e.waits + 1 })) (insert s.ws i new_wait) (i + 1)
          × ((m m' : Part Locks) (answer : Answer) (w : Waking ℕ) → PartRests locks.registered m i (act_in m.hall i (Hand g)) answer m' → PlaysWaits m old i (Wait c g bound) answer m' (part_of (insert s.cs c (record e { waits = e.waits + 1 })) (insert s.ws i new_wait) (i + 1)) w w)
      begun =
          let counted = waiting_now (record e { waits = e.waits + 1 }) in (
            turns (record e { waits = e.waits + 1 }) (insert s.ws i new_wait) (Comes i new_wait (omega arith) refl (λ y had. absurd (let none = no_wait in cc)))
                (rw (own-put of_wait c s.ws i new_wait refl) (one.begins e _ good i new_wait (own-none of_wait c s.ws i no_wait) refl)) (omega arith),
            λ m m' answer w rests.
                let mutexes : locks.registered m'.hall ≡ locks.registered m.hall = ap (λ (p : Part Locks). locks.registered p.hall) rests.moved ∙ rests.counted in
                let next : m'.next ≡ i + 1 = ap (λ (p : Part Locks). p.next) rests.moved in
                plays_as (Wait c g bound) answer m m' _ (insert s.cs c (record e { waits = e.waits + 1 })) (insert s.ws i new_wait) w w []
                (λ l j. record {
                  hall = hall_with (sym rests.moved j) l (record { condvars = seen condvar_seen s.cs; waits = insert (seen wait_seen s.ws) i (wait_seen new_wait) });
                  reply = sym rests.replied j;
                  wakes = ap (λ ws. ws ++ []) rests.silent j;
                })
                (seen-alike condvar_seen s.cs c e (record e { waits = e.waits + 1 }) there refl) (seen-insert wait_seen s.ws i new_wait) (sym (append-nil w.wakers)) (omega (arith, mutexes, counted)) (omega (arith, next)),
          )

    -- ---- notifying
    -- where nobody waits
    pub notified_none : e.condvar.waiting ≡ [] → (m : Part Locks) → m.next ≤ i → (w : Waking ℕ) → PlaysWaits m old i (One c) answers.Done m (part_of (insert s.cs c e) s.ws (i + 1)) w w
    notified_none none m later w = plays_as (One c) answers.Done m m _ (insert s.cs c e) s.ws w w [] (λ l. found_condvar (hall_with m l now) _ ∙ ap (λ q. act_one l (listed_in q)) none)
        (ap (λ ls. seen condvar_seen ls) (insert_same s.cs c e there)) refl (sym (append-nil w.wakers)) (let counted = waiting_now e in omega (arith, counted)) (omega arith)
      where
        act_one : Part Locks → Waiting → Outcome LockHall
        act_one l q = let o = model.notify_one now c q in record { hall = hall_with m l o.hall; reply = o.reply; wakes = o.wakes }

    pub rests : AreKept (insert s.cs c e) s.ws (i + 1)
    rests = turns e s.ws Stays good (omega arith)

    pub notified_each : (e' : KeptCondvar) (before after : Waking ℕ) → NotifiesEach e e' before after
        → AreKept (insert s.cs c e') s.ws (i + 1) × ((m : Part Locks) → m.next ≤ i → PlaysWaits m old i (All c) answers.Done m (part_of (insert s.cs c e') s.ws (i + 1)) before after)
    notified_each e' before after each =
        let counted = waiting_now e' in
        let none : waiters e' ≡ 0 = ap waiters each.entry in (
          turns e' s.ws Stays (rw each.entry (one.notifies_each e _ good)) (let waits = ap (λ (e : KeptCondvar). e.waits) each.entry in omega (arith, waits)),
          λ m later. plays_as (All c) answers.Done m m _ (insert s.cs c e') s.ws before after _ (λ l. found_condvar (hall_with m l now) _)
              (seen-insert condvar_seen s.cs c e' ∙ ap (λ (e : KeptCondvar). insert (seen condvar_seen s.cs) c (condvar_seen e)) each.entry) refl (each.wakers ∙ ap (λ ws. before.wakers ++ ws) (wakers-listed e.condvar.waiting))
              (omega (arith, counted, none, each.counted)) (omega arith),
        )
      where
        wakers-listed : (q : List (ℕ × NamedWaker)) → wakers_in q ≡ map (λ (e : ℕ × ℕ). e.1) (listed_in q)
        wakers-listed [] = refl
        wakers-listed (k ∷ q) = ap (λ ws. k.1.waker ∷ ws) (wakers-listed q)

    -- the first is notified
    module _ (g : ℕ) (e' : KeptCondvar) (before after : Waking ℕ) (told : NotifiesFirst e g e' before after) where
      first_own : (x : WaitEntry) × (get (own of_wait c s.ws) g ≡ Some x) × (x.number ≡ Some told.number)
      first_own = one.first_there e _ good told.number told.waker g told.others told.first

      pub first_there : IsSome (get s.ws g)
      first_there = is_there _ first_own.0 (own-had of_wait c s.ws g first_own.0 first_own.1).0

      pub notified_first : (x : WaitEntry) → get s.ws g ≡ Some x → AreKept (insert s.cs c e') (insert s.ws g (record x { alone = true })) (i + 1)
          × ((m : Part Locks) → m.next ≤ i → registered old.hall ≤ before.registered → PlaysWaits m old i (One c) answers.Done m (part_of (insert s.cs c e') (insert s.ws g (record x { alone = true })) (i + 1)) before after)
      notified_first x is =
          let had = own-had of_wait c s.ws g first_own.0 first_own.1 in
          let mine : x.condvar ≡ c = ap of_wait (inside (sym is ∙ had.0)) ∙ had.1 in
          let noted : WaitEntry = record x { alone = true } in
          let counted = waiting_now e' in
          let fewer : waiters e ≡ waiters e' + 1 = omega (arith, ap (λ (q : List (ℕ × NamedWaker)). length q) told.first, ap (λ (e : KeptCondvar). waiters e) told.entry) in
          let ready = ap (λ (w : Waking ℕ). w.registered) told.ready in (
            turns e' (insert s.ws g (record x { alone = true })) (Comes g (record x { alone = true }) (let later = s.later in omega (arith, (s.kept.firsts.at g x is).0)) mine (λ y at. ap of_wait (inside (sym at ∙ is)) ∙ mine))
                (rw (own-put of_wait c s.ws g (record x { alone = true }) mine, told.entry) (one.notifies_first e _ good told.number told.waker g told.others told.first x (own-at of_wait c s.ws g x is mine)))
                (let waits = ap (λ (e : KeptCondvar). e.waits) told.entry in omega (arith, waits)),
            λ m later room. plays_as (One c) answers.Done m m _ (insert s.cs c e') (insert s.ws g (record x { alone = true })) before after (told.waker ∷ [])
                (λ l. found_condvar (hall_with m l now) _ ∙ ap (λ q. act_one m l (listed_in q)) told.first ∙ ap (λ o. noted_as m l (model.noted_at (seen wait_seen s.ws) g o)) (seen-at wait_seen s.ws g x is))
                (seen-insert condvar_seen s.cs c e' ∙ ap (λ (e : KeptCondvar). insert (seen condvar_seen s.cs) c (condvar_seen e)) told.entry)
                (seen-insert wait_seen s.ws g (record x { alone = true })) (ap (λ (w : Waking ℕ). w.wakers) told.ready) (omega (arith, counted, fewer, ready, its_room before room)) (omega arith),
          )
        where
          act_one : Part Locks → Part Locks → Waiting → Outcome LockHall
          act_one m l q = let o = model.notify_one now c q in record { hall = hall_with m l o.hall; reply = o.reply; wakes = o.wakes }

          noted_as : Part Locks → Part Locks → Names CondWait → Outcome LockHall
          noted_as m l xs = record { hall = hall_with m l (record { condvars = insert (seen condvar_seen s.cs) c (listed_in told.others); waits = xs }); reply = answers.Done; wakes = told.waker ∷ [] }

    -- ---- its end
    pub dropped : waits_of old.hall c ≡ 0 → AreKept (remove s.cs c) s.ws (i + 1) × ((m : Part Locks) (w : Waking ℕ) → m.next ≤ i → PlaysWaits m old i (Drop c) answers.Done m (part_of (remove s.cs c) s.ws (i + 1)) w w)
    dropped alone =
        let none : len (own of_wait c s.ws) ≡ 0 = sym good.counted ∙ sym (waits_of_it s.cs s.ws s.next s.view s.kept c e there) ∙ alone in
        let nobody : waiters e ≡ 0 = no_waiter e.condvar.waiting good.waits none in
        let was : weight (λ o e. waiters e) c (get s.cs c) ≡ waiters e = ap (weight (λ o e. waiters e) c) there in (
          halls.goes_out of_wait of_wait AreGood (λ e. e.waits) s.cs s.ws empty s.next i s.kept s.later s.fits c e s.ws empty there Stays Stays none
              (ap (λ n. len n) (own-empty of_wait c empty (λ k x is. absurd (nothing_at WaitEntry k x is))) ∙ len-empty nat_cmp WaitEntry),
          λ m w later. plays_as (Drop c) answers.Done m m _ (remove s.cs c) s.ws w w [] (λ l. found_condvar (hall_with m l now) _) (seen-remove condvar_seen s.cs c) refl (sym (append-nil w.wakers))
              (omega (arith, nobody, was, total-remove (λ o e. waiters e) s.cs c)) (omega arith),
        )
      where
        no_waiter : (q : List (ℕ × NamedWaker)) → AreOf (own of_wait c s.ws) q → len (own of_wait c s.ws) ≡ 0 → length q ≡ 0
        no_waiter [] are none = refl
        no_waiter (k ∷ q) are none = absurd (let some = len-some (own of_wait c s.ws) k.1.name are.0.0 are.0.1 in omega arith)

  -- ---- one wait
  module _ (f : ℕ) (x : WaitEntry) (e : KeptCondvar) (wait : get s.ws f ≡ Some x) (there : get s.cs x.condvar ≡ Some e) where
    own_wait : get (own of_wait x.condvar s.ws) f ≡ Some x
    own_wait = own-at of_wait x.condvar s.ws f x wait refl

    pub some_waits : 1 ≤ e.waits
    some_waits = let k = good x.condvar e there in omega (arith, k.counted, len-some (own of_wait x.condvar s.ws) f x own_wait)

    pub is_known : (n : ℕ) → x.number ≡ Some n → Knows e.condvar n
    is_known n number = ((good x.condvar e there).known f x own_wait n number).0

    pub was_notified : (IsWaitingUnder e.condvar x.number → ⊥) → (n : ℕ) → x.number ≡ Some n → IsSome (get e.condvar.notified n)
    was_notified = one.was_notified e _ (good x.condvar e there) f x own_wait

    -- what is asked of its number, if it has one
    pub known_number : IfSome x.number (λ n. Knows e.condvar n)
    known_number = at x.number refl
      where
        at : (number : Option ℕ) → x.number ≡ number → IfSome number (λ n. Knows e.condvar n)
        at None is = tt
        at (Some n) is = is_known n is

    pub notified_number : (IsWaitingUnder e.condvar x.number → ⊥) → IfSome x.number (λ n. IsSome (get e.condvar.notified n))
    notified_number not = at x.number refl
      where
        at : (number : Option ℕ) → x.number ≡ number → IfSome number (λ n. IsSome (get e.condvar.notified n))
        at None is = tt
        at (Some n) is = was_notified not n is

    found_wait : (m l : Part Locks) (act : CondWait → Waiting → Outcome LockHall)
        → found (get (seen wait_seen s.ws) f) (hall_with m l now) (λ y. found (get (seen condvar_seen s.cs) y.condvar) (hall_with m l now) (act y)) ≡ act (wait_seen x) (condvar_seen e)
    found_wait m l act = found_is _ (hall_with m l now) _ (wait_seen x) (seen-at wait_seen s.ws f x wait) ∙ found_condvar x.condvar e there (hall_with m l now) (act (wait_seen x))

    goes : Moves of_wait x.condvar i s.ws (remove s.ws f)
    goes = Goes f (λ y is. ap of_wait (inside (sym is ∙ wait)))

    comes : (y : WaitEntry) → y.condvar ≡ x.condvar → Moves of_wait x.condvar i s.ws (insert s.ws f y)
    comes y mine = Comes f y (let later = s.later in omega (arith, (s.kept.firsts.at f x wait).0)) mine (λ z is. ap of_wait (inside (sym is ∙ wait)))

    -- ---- one that waits has another waker
    pub waits_on : (w : ℕ) → IsWaitingUnder e.condvar x.number
        → AreKept (insert s.cs x.condvar (rewoken_under e x.number (record { name = f; waker = w }))) s.ws (i + 1)
        × ((m : Part Locks) (r : Waking ℕ) → m.next ≤ i → PlaysWaits m old i (Poll f w) answers.Pending m (part_of (insert s.cs x.condvar (rewoken_under e x.number (record { name = f; waker = w }))) s.ws (i + 1)) r r)
    waits_on w under = at x.number refl
      where
        waits_now : waits (listed_in e.condvar.waiting) f ≡ true
        waits_now = one.waits_under e _ (good x.condvar e there) f x own_wait under

        at : (number : Option ℕ) → x.number ≡ number → AreKept (insert s.cs x.condvar (rewoken_under e number (record { name = f; waker = w }))) s.ws (i + 1)
            × ((m : Part Locks) (r : Waking ℕ) → m.next ≤ i → PlaysWaits m old i (Poll f w) answers.Pending m (part_of (insert s.cs x.condvar (rewoken_under e number (record { name = f; waker = w }))) s.ws (i + 1)) r r)
        at None is = absurd (subst (IsWaitingUnder e.condvar) is under)
        at (Some n) is =
            let k = good x.condvar e there in
            let e' : KeptCondvar = rewoken_under e (Some n) (record { name = f; waker = w }) in
            let polled = (k.known f x own_wait n is).1 in
            let seen_is = one.listed_with _ k.apart f n x own_wait is w e.condvar.waiting k.waits in
            let counted = waiting_now x.condvar e there (rewoken_under e (Some n) (record { name = f; waker = w })) in
            let many = sym (length-map (rewoken_under e (Some n) (record { name = f; waker = w })).condvar.waiting (λ (k : ℕ × NamedWaker). (k.1.name, k.1.waker))) ∙ ap (λ (q : Waiting). length q) seen_is
            ∙ length-with_waker (listed_in e.condvar.waiting) f w ∙ length-map e.condvar.waiting (λ (k : ℕ × NamedWaker). (k.1.name, k.1.waker)) in (
              turns x.condvar e there (rewoken_under e (Some n) (record { name = f; waker = w })) s.ws Stays (one.rewakes e _ k f x own_wait n w is) (omega arith),
              λ m r later. plays_as (Poll f w) answers.Pending m m _ (insert s.cs x.condvar (rewoken_under e (Some n) (record { name = f; waker = w }))) s.ws r r [] (λ l. found_wait m l _ ∙ if_true _ _ _ waits_now)
                  (seen-insert condvar_seen s.cs x.condvar _ ∙ ap (insert (seen condvar_seen s.cs) x.condvar) seen_is)
                  (sym (insert_same (seen wait_seen s.ws) f _ (seen-at wait_seen s.ws f x wait ∙ (λ j. Some (record (wait_seen x) { polled = polled j; listed = ap (λ (o : Option ℕ). is_some o) is j })))))
                  (sym (append-nil r.wakers)) (omega (arith, counted, many)) (omega arith),
            )

    -- ---- one that does not wait asks its mutex; its place was taken first, where it may go on waiting
    module _ (w : ℕ) (not : IsWaitingUnder e.condvar x.number → ⊥) (m m' : Part Locks) (r0 r1 r2 : Waking ℕ) (room : locks.registered m.hall + registered old.hall ≤ r0.registered) (place : Option ℕ) (counted_more : r1 ≡ record r0 { registered = r0.registered + counted_at place }) where
      idle : waits (listed_in e.condvar.waiting) f ≡ false
      idle = one.waits_not e _ (good x.condvar e there) f x own_wait not

      abbrev asking : Action
      asking = PollUntil f w (until_of (wait_seen x))

      module _ (answer : Answer) (yields : PartYields locks.registered m i (act_in m.hall i asking) answer m' r1 r2) where
        pub still_counted : counted_at place ≤ r2.registered
        still_counted =
            let more = ap (λ (r : Waking ℕ). r.registered) counted_more in
            omega (arith, room, more, yields.counted)

        asks_as : (v : Condvars) (cs' : Names KeptCondvar) (ws' : Names WaitEntry) (r3 : Waking ℕ) → ((l : Part Locks) → (told_by (act_in m.hall i asking) now f w (wait_seen x) (condvar_seen e)) ≡ quietly v answer) → seen condvar_seen cs' ≡ v.condvars → seen wait_seen ws' ≡ v.waits
            → r3.wakers ≡ r2.wakers → r3.registered + counted_at place + waiting_in s.cs ≡ r2.registered + waiting_in cs' → PlaysWaits m old i (Poll f w) answer m' (part_of cs' ws' (i + 1)) r0 r3
        asks_as v cs' ws' r3 told condvars waits wakers counted =
            let more = ap (λ (r : Waking ℕ). r.registered) counted_more in
            let mutexes = ap (λ (p : Part Locks). locks.registered p.hall) yields.moved in
            let next : m'.next ≡ i + 1 = ap (λ (p : Part Locks). p.next) yields.moved in
            plays_as (Poll f w) answer m m' v cs' ws' r0 r3 (act_in m.hall i asking).wakes
            (λ l. found_wait m l _ ∙ if_false _ _ _ idle ∙ ap (on_both (hall_with m l now) (act_in m.hall i asking)) (told l)
            ∙ (λ j. record { hall = hall_with (sym yields.moved j) l v; reply = sym yields.replied j; wakes = append-nil (act_in m.hall i asking).wakes j }))
            condvars waits (wakers ∙ yields.woken ∙ ap (λ (r : Waking ℕ). r.wakers ++ (act_in m.hall i asking).wakes) counted_more) (omega (arith, more, mutexes, counted, yields.counted, room)) (omega (arith, next))

      -- it has the lock, and is over
      pub ready : PartYields locks.registered m i (act_in m.hall i asking) answers.Ready m' r1 r2 → (r3 : Waking ℕ) → r3 ≡ record r2 { registered = r2.registered - counted_at place }
          → AreKept (insert s.cs x.condvar (record (forgotten_under e x.number) { waits = e.waits - 1 })) (remove s.ws f) (i + 1)
          × PlaysWaits m old i (Poll f w) answers.Ready m' (part_of (insert s.cs x.condvar (record (forgotten_under e x.number) { waits = e.waits - 1 })) (remove s.ws f) (i + 1)) r0 r3
      ready yields r3 less =
          let counted = waiting_now x.condvar e there (record (forgotten_under e x.number) { waits = e.waits - 1 }) in
          let fewer = ap (λ (r : Waking ℕ). r.registered) less in (
            turns x.condvar e there (record (forgotten_under e x.number) { waits = e.waits - 1 }) (remove s.ws f) goes (rw (own-gone of_wait x.condvar s.ws f) (one.is_over e _ (good x.condvar e there) f x own_wait idle)) (omega arith),
            asks_as answers.Ready yields _ _ (remove s.ws f) r3 (λ l. if_false _ _ _ (ap is_pending (sym yields.replied)))
                (seen-alike condvar_seen s.cs x.condvar e (record (forgotten_under e x.number) { waits = e.waits - 1 }) there refl) (seen-remove wait_seen s.ws f) (ap (λ (r : Waking ℕ). r.wakers) less) (omega (arith, counted, fewer, still_counted answers.Ready yields)),
          )

      module _ (yields : PartYields locks.registered m i (act_in m.hall i asking) answers.Pending m' r1 r2) where
        polled_now : (b : Bool) → was_polled (get m'.hall.futures f) ≡ b → was_polled (get (act_in m.hall i asking).hall.futures f) ≡ b
        polled_now b is = ap (λ (p : Part Locks). was_polled (get p.hall.futures f)) (sym yields.moved) ∙ is

        abbrev pub asker : WaitEntry
        asker = record x { polled = true; number = None }

        -- it asks for the lock
        pub asks : was_polled (get m'.hall.futures f) ≡ true → (r3 : Waking ℕ) → r3 ≡ record r2 { registered = r2.registered - counted_at place }
            → AreKept (insert s.cs x.condvar (forgotten_under e x.number)) (insert s.ws f asker) (i + 1)
            × PlaysWaits m old i (Poll f w) answers.Pending m' (part_of (insert s.cs x.condvar (forgotten_under e x.number)) (insert s.ws f asker) (i + 1)) r0 r3
        asks polled r3 less =
            let counted = waiting_now x.condvar e there (forgotten_under e x.number) in
            let fewer = ap (λ (r : Waking ℕ). r.registered) less in (
              turns x.condvar e there (forgotten_under e x.number) (insert s.ws f asker) (comes asker refl) (rw (own-put of_wait x.condvar s.ws f asker refl) (one.asks e _ (good x.condvar e there) f x own_wait idle asker refl)) (omega arith),
              asks_as answers.Pending yields _ _ (insert s.ws f asker) r3 (λ l. if_true _ _ _ (ap is_pending (sym yields.replied)) ∙ if_true _ _ _ (polled_now true polled))
                  (seen-alike condvar_seen s.cs x.condvar e (forgotten_under e x.number) there refl) (seen-insert wait_seen s.ws f asker) (ap (λ (r : Waking ℕ). r.wakers) less) (omega (arith, counted, fewer, still_counted answers.Pending yields)),
            )

        -- it gave the lock up, and is the last that waits
        module _ (polled : was_polled (get m'.hall.futures f) ≡ false) (e1 : KeptCondvar) where
          -- the wait under a number
          abbrev lister : Option ℕ → WaitEntry
          lister number = record x { polled = true; number = number; alone = false }

          -- what is to be shown of it
          abbrev ListedAt : Option ℕ → Type 0
          ListedAt number = AreKept (insert s.cs x.condvar (forgotten_under e1 x.number)) (insert s.ws f (lister number)) (i + 1)
              × PlaysWaits m old i (Poll f w) answers.Pending m' (part_of (insert s.cs x.condvar (forgotten_under e1 x.number)) (insert s.ws f (lister number)) (i + 1)) r0 r2

          module _ (number : ℕ) (one_place : counted_at place ≡ 1) (listed : Lists e.condvar e1.condvar number (record { name = f; waker = w })) (is : e1 ≡ record e { condvar = e1.condvar }) where
            abbrev with_place : KeptCondvar
            with_place = record e { condvar = record e.condvar { waiting = e.condvar.waiting ++ (number, record { name = f; waker = w }) ∷ [] } }

            listed_is : e1 ≡ with_place
            listed_is = is ∙ ap (λ s. record e { condvar = s }) listed.is

            listed_end : (q : List (ℕ × NamedWaker)) → listed_in (q ++ (number, record { name = f; waker = w }) ∷ []) ≡ listed_in q ++ (f, w) ∷ []
            listed_end [] = refl
            listed_end (k ∷ q) = ap (λ r. (k.1.name, k.1.waker) ∷ r) (listed_end q)

            lists_under : ListedAt (Some number)
            lists_under =
                let counted = waiting_now x.condvar e there (forgotten_under with_place x.number) in
                let longer = length-append e.condvar.waiting ((number, record { name = f; waker = w }) ∷ []) in
                rw listed_is (
                  turns x.condvar e there (forgotten_under with_place x.number) (insert s.ws f (lister (Some number))) (comes (lister (Some number)) refl)
                      (rw (own-put of_wait x.condvar s.ws f (lister (Some number)) refl) (one.lists e _ (good x.condvar e there) f x own_wait idle number w listed.not_waiting listed.not_notified (lister (Some number)) refl refl refl)) (omega arith),
                  asks_as answers.Pending yields _ _ (insert s.ws f (lister (Some number))) r2 (λ l. if_true _ _ _ (ap is_pending (sym yields.replied)) ∙ if_false _ _ _ (polled_now false polled))
                      (seen-insert condvar_seen s.cs x.condvar (forgotten_under with_place x.number) ∙ ap (insert (seen condvar_seen s.cs) x.condvar) (listed_end e.condvar.waiting)) (seen-insert wait_seen s.ws f (lister (Some number))) refl (omega (arith, counted, longer, one_place)),
                )

          -- so it is at the place that was taken
          pub lists : IsSome place → ListsAt e e1 place (record { name = f; waker = w }) → ListedAt place
          lists = at place refl
            where
              at : (number : Option ℕ) → place ≡ number → IsSome number → ListsAt e e1 number (record { name = f; waker = w }) → ListedAt number
              at None is some same = absurd (cc)
              at (Some n) is some listed = lists_under n (ap counted_at is) listed.0 listed.1

    -- ---- it ends, after its future at the mutex
    module _ (m m' : Part Locks) (answer : Answer) (r0 r1 : Waking ℕ) (room : locks.registered m.hall + registered old.hall ≤ r0.registered) (yields : PartYields locks.registered m i (act_in m.hall i (EndWait f)) answer m' r0 r1) where
      abbrev fewer_waits : KeptCondvar
      fewer_waits = record e { waits = e.waits - 1 }

      pub enough_left : waiting_in s.cs ≤ r1.registered
      enough_left =
          let all : registered old.hall ≡ waiting_in s.cs = ap (λ (p : Part Condvars). registered p.hall) (sym s.view) ∙ registered_is s.cs s.ws in
          omega (arith, room, all, yields.counted)

      pub waiting_fits : waiters e ≤ r1.registered
      waiting_fits = omega (arith, enough_left, total-has (λ o e. waiters e) s.cs x.condvar e there)

      pub one_waits : IsWaitingUnder e.condvar x.number → 1 ≤ r1.registered
      one_waits under = at x.number under
        where
          at : (number : Option ℕ) → IsWaitingUnder e.condvar number → 1 ≤ r1.registered
          at None under = absurd under
          at (Some n) under = omega (arith, waiting_fits, one.some_length e.condvar.waiting n under)

      ends_as : (p : Outcome Condvars) (cs' : Names KeptCondvar) (ws' : Names WaitEntry) (r2 : Waking ℕ) → model.end_wait now f (wait_seen x) (condvar_seen e) ≡ p → seen condvar_seen cs' ≡ p.hall.condvars → seen wait_seen ws' ≡ p.hall.waits
          → r2.wakers ≡ r1.wakers ++ p.wakes → r2.registered + waiting_in s.cs ≡ r1.registered + waiting_in cs' → PlaysWaits m old i (End f) answer m' (part_of cs' ws' (i + 1)) r0 r2
      ends_as p cs' ws' r2 out condvars waits wakers counted =
          let mutexes = ap (λ (p : Part Locks). locks.registered p.hall) yields.moved in
          let next : m'.next ≡ i + 1 = ap (λ (p : Part Locks). p.next) yields.moved in
          plays_as (End f) answer m m' p.hall cs' ws' r0 r2 ((act_in m.hall i (EndWait f)).wakes ++ p.wakes)
          (λ l. found_wait m l _ ∙ ap (on_both (hall_with m l now) (act_in m.hall i (EndWait f))) out
          ∙ (λ j. record { hall = hall_with (sym yields.moved j) l p.hall; reply = sym yields.replied j; wakes = (act_in m.hall i (EndWait f)).wakes ++ p.wakes }))
          condvars waits (wakers ∙ ap (λ ws. ws ++ p.wakes) yields.woken ∙ append_assoc r0.wakers (act_in m.hall i (EndWait f)).wakes p.wakes) (omega (arith, mutexes, counted, yields.counted, room)) (omega (arith, next))

      -- one that waits
      pub ends_waiting : IsWaitingUnder e.condvar x.number → (r2 : Waking ℕ) → r2 ≡ record r1 { registered = r1.registered - 1 }
          → AreKept (insert s.cs x.condvar (left_under fewer_waits x.number)) (remove s.ws f) (i + 1)
          × PlaysWaits m old i (End f) answer m' (part_of (insert s.cs x.condvar (left_under fewer_waits x.number)) (remove s.ws f) (i + 1)) r0 r2
      ends_waiting under r2 less = at x.number refl
        where
          waits_now : waits (listed_in e.condvar.waiting) f ≡ true
          waits_now = one.waits_under e _ (good x.condvar e there) f x own_wait under

          at : (number : Option ℕ) → x.number ≡ number → AreKept (insert s.cs x.condvar (left_under fewer_waits number)) (remove s.ws f) (i + 1)
              × PlaysWaits m old i (End f) answer m' (part_of (insert s.cs x.condvar (left_under fewer_waits number)) (remove s.ws f) (i + 1)) r0 r2
          at None is = absurd (subst (IsWaitingUnder e.condvar) is under)
          at (Some n) is =
              let k = good x.condvar e there in
              let seen_is = one.listed_without _ k.apart f n x own_wait is e.condvar.waiting k.waits in
              let counted = waiting_now x.condvar e there (left_under fewer_waits (Some n)) in
              let fewer = ap (λ (r : Waking ℕ). r.registered) less in
              let shorter = one.left_length e.condvar.waiting n k.distinct (subst (IsWaitingUnder e.condvar) is under) in
              let all = total-has (λ o e. waiters e) s.cs x.condvar e there in (
                turns x.condvar e there (left_under fewer_waits (Some n)) (remove s.ws f) goes (rw (own-gone of_wait x.condvar s.ws f) (one.leaves e _ k f x own_wait n is (subst (IsWaitingUnder e.condvar) is under))) (omega arith),
                ends_as _ _ (remove s.ws f) r2 (if_true _ _ _ waits_now) (seen-insert condvar_seen s.cs x.condvar (left_under fewer_waits (Some n)) ∙ ap (insert (seen condvar_seen s.cs) x.condvar) seen_is) (seen-remove wait_seen s.ws f)
                    (ap (λ (r : Waking ℕ). r.wakers) less ∙ sym (append-nil r1.wakers)) (omega (arith, counted, fewer, shorter, all, enough_left)),
              )

      -- one that does not wait
      module _ (not : IsWaitingUnder e.condvar x.number → ⊥) where
        abbrev forgotten_now : KeptCondvar
        forgotten_now = record (forgotten_under e x.number) { waits = e.waits - 1 }

        not_waiting : waits (listed_in e.condvar.waiting) f ≡ false
        not_waiting = one.waits_not e _ (good x.condvar e there) f x own_wait not

        over_now : AreListed forgotten_now (own of_wait x.condvar (remove s.ws f))
        over_now = rw (own-gone of_wait x.condvar s.ws f) (one.is_over e _ (good x.condvar e there) f x own_wait not_waiting)

        over_kept : AreKept (insert s.cs x.condvar forgotten_now) (remove s.ws f) (i + 1)
        over_kept = turns x.condvar e there forgotten_now (remove s.ws f) goes over_now (omega arith)

        -- it was not notified alone
        pub ends_quietly : x.alone ≡ false → AreKept (insert s.cs x.condvar forgotten_now) (remove s.ws f) (i + 1) × PlaysWaits m old i (End f) answer m' (part_of (insert s.cs x.condvar forgotten_now) (remove s.ws f) (i + 1)) r0 r1
        ends_quietly with_all =
            let counted = waiting_now x.condvar e there forgotten_now in (
              over_kept,
              ends_as _ _ (remove s.ws f) r1 (if_false _ _ _ not_waiting ∙ if_false _ _ _ with_all) (seen-alike condvar_seen s.cs x.condvar e forgotten_now there refl) (seen-remove wait_seen s.ws f) (sym (append-nil r1.wakers)) (omega (arith, counted)),
            )

        module _ (alone : x.alone ≡ true) where
          -- nobody waits
          pub ends_last : e.condvar.waiting ≡ [] → AreKept (insert s.cs x.condvar forgotten_now) (remove s.ws f) (i + 1) × PlaysWaits m old i (End f) answer m' (part_of (insert s.cs x.condvar forgotten_now) (remove s.ws f) (i + 1)) r0 r1
          ends_last none =
              let counted = waiting_now x.condvar e there forgotten_now in (
                over_kept,
                ends_as _ _ (remove s.ws f) r1 (if_false _ _ _ not_waiting ∙ if_true _ _ _ alone ∙ ap (λ q. model.notify_one (record now { waits = remove (seen wait_seen s.ws) f }) x.condvar (listed_in q)) none)
                    (seen-alike condvar_seen s.cs x.condvar e forgotten_now there refl) (seen-remove wait_seen s.ws f) (sym (append-nil r1.wakers)) (omega (arith, counted)),
              )

          -- it passes that on to the first that waits
          module _ (g : ℕ) (e' : KeptCondvar) (r2 : Waking ℕ) (told : NotifiesFirst forgotten_now g e' r1 r2) where
            next_own : (z : WaitEntry) × (get (own of_wait x.condvar (remove s.ws f)) g ≡ Some z) × (z.number ≡ Some told.number)
            next_own = one.first_there forgotten_now _ over_now told.number told.waker g told.others told.first

            pub next_there : IsSome (get (remove s.ws f) g)
            next_there = is_there _ next_own.0 (own-had of_wait x.condvar (remove s.ws f) g next_own.0 next_own.1).0

            pub ends_passing : (z : WaitEntry) → get (remove s.ws f) g ≡ Some z → AreKept (insert s.cs x.condvar e') (insert (remove s.ws f) g (record z { alone = true })) (i + 1)
                × PlaysWaits m old i (End f) answer m' (part_of (insert s.cs x.condvar e') (insert (remove s.ws f) g (record z { alone = true })) (i + 1)) r0 r2
            ends_passing z is =
                let had = own-had of_wait x.condvar (remove s.ws f) g next_own.0 next_own.1 in
                let mine : z.condvar ≡ x.condvar = ap of_wait (inside (sym is ∙ had.0)) ∙ had.1 in
                let counted = waiting_now x.condvar e there e' in
                let fewer : waiters e ≡ waiters e' + 1 = omega (arith, ap (λ (q : List (ℕ × NamedWaker)). length q) told.first, ap (λ (e : KeptCondvar). waiters e) told.entry) in
                let ready = ap (λ (r : Waking ℕ). r.registered) told.ready in
                let all = total-has (λ o e. waiters e) s.cs x.condvar e there in
                let home : AreHome of_wait s.cs (remove s.ws f) s.next = record { at = λ k y at. s.kept.firsts.at k y (removed_there s.ws f k y at) } in
                let small : g ≤ i = let later = s.later in omega (arith, (home.at g z is).0) in
                let moves : Moves of_wait x.condvar i (remove s.ws f) (insert (remove s.ws f) g (record z { alone = true })) = Comes g (record z { alone = true }) small mine (λ y at. ap of_wait (inside (sym at ∙ is)) ∙ mine) in (
                  turns_by x.condvar e there e' (insert (remove s.ws f) g (record z { alone = true }))
                      (λ p apart. moves_elsewhere of_wait x.condvar i (remove s.ws f) _ moves p apart ∙ moves_elsewhere of_wait x.condvar i s.ws (remove s.ws f) goes p apart)
                      (moves_home of_wait s.cs (insert s.cs x.condvar e') x.condvar i s.next (remove s.ws f) _ moves s.later home (here x.condvar e there e') (keeps x.condvar e there e'))
                      (rw (own-put of_wait x.condvar (remove s.ws f) g (record z { alone = true }) mine, told.entry) (one.notifies_first forgotten_now _ over_now told.number told.waker g told.others told.first z (own-at of_wait x.condvar (remove s.ws f) g z is mine)))
                      (let waits = ap (λ (e : KeptCondvar). e.waits) told.entry in omega (arith, waits)),
                  ends_as _ _ (insert (remove s.ws f) g (record z { alone = true })) r2
                      (if_false _ _ _ not_waiting ∙ if_true _ _ _ alone ∙ ap (λ q. model.notify_one (record now { waits = remove (seen wait_seen s.ws) f }) x.condvar (listed_in q)) told.first
                      ∙ ap (λ o. passed_as (model.noted_at (remove (seen wait_seen s.ws) f) g o)) (ap (λ xs. get xs g) (sym (seen-remove wait_seen s.ws f)) ∙ seen-at wait_seen (remove s.ws f) g z is))
                      (seen-insert condvar_seen s.cs x.condvar e' ∙ ap (λ (e : KeptCondvar). insert (seen condvar_seen s.cs) x.condvar (condvar_seen e)) told.entry)
                      (seen-insert wait_seen (remove s.ws f) g (record z { alone = true }) ∙ ap (λ xs. insert xs g (wait_seen (record z { alone = true }))) (seen-remove wait_seen s.ws f))
                      (ap (λ (r : Waking ℕ). r.wakers) told.ready) (omega (arith, counted, fewer, ready, all, enough_left)),
                )
              where
                passed_as : Names CondWait → Outcome Condvars
                passed_as xs = record { hall = record { condvars = insert (seen condvar_seen s.cs) x.condvar (listed_in told.others); waits = xs }; reply = answers.Done; wakes = told.waker ∷ [] }

-- ---- no condition variable
pub new_kept : AreKept empty empty 0
new_kept = record {
  each = λ o e there. absurd (nothing_at KeptCondvar o e there);
  below = λ o e there. absurd (nothing_at KeptCondvar o e there);
  firsts = record { at = λ k x there. absurd (nothing_at WaitEntry k x there) };
  seconds = record { at = λ k x there. absurd (nothing_at WaitEntry k x there) };
  low = omega arith;
}

pub new_view : ◌≡◌ {A = Part Condvars} (part_of empty empty 0) (record { hall = model.no_condvars; next = 0 })
new_view j = record { hall = record { condvars = seen-empty condvar_seen j; waits = seen-empty wait_seen j }; next = 0 }
