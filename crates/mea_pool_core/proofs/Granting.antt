-- what every list of calls keeps of those that wait, and of the order in which they are granted
use Rattle.std.proofs.Common.{◌≡◌, ◌∙◌, ℕ, ◌+◌, ◌<◌, ◌≤◌, ◌++◌, inl, inr, Bool, true, false, cond, List, [], ◌∷◌, Some, None, Result, Ok, Err, MatchResult, length, set, refl, ap, sym, subst, arith, append-nil, append_assoc, length-set}
use Rattle.std.proofs.lemmas.Bool.{cases_lt, cases_Bool}
use Rattle.std.specs.Prelude.{IsSome, map as map_list}
use Rattle.std.specs.Ordering.{nat_cmp, eq_by_cmp}
use Rattle.std.specs.Cmp.{nat_cmp_total}
use Rattle.std.specs.FinMap as map
use Rattle.std.specs.FinMap.{get-remove}
use Rattle.mea_base.specs.declared.poll.Poll.{Poll}
use Rattle.mea_base.specs.declared.poll.Poll.TheVariants as poll
use Rattle.mea_base.specs.declared.no_memory.NoMemory.{NoMemory}
use Rattle.mea_lock_core.specs.Condvar.{waker_under, with_waker, without_wait, AreApart}
use Rattle.mea_pool_core.specs.declared.lease_wait.LeaseWait.{LeaseWait}
use Rattle.mea_pool_core.specs.declared.lease_wait.LeaseWait.TheVariants.{New, Queued, Done, Refused}
use Rattle.mea_pool_core.specs.declared.lease_poll.LeasePoll.{LeasePoll}
use Rattle.mea_pool_core.specs.declared.lease_poll.LeasePoll.TheVariants as answer
use Rattle.mea_pool_core.specs.declared.drain_wait.DrainWait.{DrainWait}
use Rattle.mea_pool_core.specs.declared.drain_wait.DrainWait.TheVariants as drain
use Rattle.mea_pool_core.specs.Shelf.{is_lent, lent_count, times, one_if, StandOnce, slots_of}
use Rattle.mea_pool_core.specs.Places.{cutting}
use Rattle.mea_pool_core.specs.Pool.{Pool, fresh, taken, is_drained, settled, passed_for, passed_on, with_lease, drained}
use Rattle.mea_pool_core.specs.Calls.{MayPoll, Belongs, Gets, Waits, PollsLease, TriesLease, CancelsLease, MayPollDrain, Lists, PollsDrain, EndsDrain}
use Rattle.mea_pool_core.specs.Runs.{History, nothing_yet, without_slot, still_waiting, newly_granted, heard, after_poll, Goes, Runs, IsRising}
use Rattle.mea_pool_core.specs.Runs.Goes.{PollLease, TryLease, CancelLease, PutBack, Drain, PollDrained, EndDrain, NextWake}
use Rattle.mea_pool_core.specs.Runs.Runs.{Starts, Later}
use Rattle.mea_pool_core.proofs.Gates.{by_flag}
use Rattle.mea_pool_core.proofs.Lines.{inserted, removed}
use Rattle.mea_pool_core.proofs.Shelves.{first_free, count_lent, lent_within, count_back}
use Rattle.mea_pool_core.proofs.Slots.{Slots, slots_of_run}
use Rattle.mea_pool_core.proofs.Orders.{AllBelow, rising_last, below_last, rising_without, below_without, rising_front, below_front, in_line, first_in, all_still, none_new, none_still, fewer_wait, apart_without, still_without, numbers_without, rest_still, first_new, apart_last, wider, still_none, rewaked_numbers, rewaked_some, apart_rewaked, last_some}

abbrev snds : List (ℕ × ℕ) → List ℕ
snds line = map_list {A = ℕ × ℕ} (λ e. e.1) line

abbrev fsts : List (ℕ × ℕ) → List ℕ
fsts line = map_list {A = ℕ × ℕ} (λ e. e.0) line

still_ungranted : (m : map.FinMap nat_cmp ℕ) (n k : ℕ) → map.get m k ≡ None → map.get (map.remove m n) k ≡ None
still_ungranted m n k none = get-remove nat_cmp_total m n k ∙ both (eq_by_cmp nat_cmp k n)
  where
    both : (b : Bool) → cond b None (map.get m k) ≡ None
    both true = refl
    both false = none

no_line : (line : List (ℕ × ℕ)) → fsts line ≡ [] → line ≡ []
no_line [] none = refl
no_line (l ∷ line) none = absurd (cc)

fsts_last : (line : List (ℕ × ℕ)) (e : ℕ × ℕ) → fsts (line ++ e ∷ []) ≡ fsts line ++ e.0 ∷ []
fsts_last [] e = refl
fsts_last (l ∷ line) e = ap (λ (ns : List ℕ). l.0 ∷ ns) (fsts_last line e)

snds_last : (line : List (ℕ × ℕ)) (e : ℕ × ℕ) → snds (line ++ e ∷ []) ≡ snds line ++ e.1 ∷ []
snds_last [] e = refl
snds_last (l ∷ line) e = ap (λ (ns : List ℕ). l.1 ∷ ns) (snds_last line e)

module _ {W : Type 0} where
  abbrev numbers : List (ℕ × W) → List ℕ
  numbers q = map_list {A = ℕ × W} (λ e. e.0) q

  -- what holds of those that wait at a pool with these parts, and of the history
  pub record Line (waiting : List (ℕ × W)) (granted : map.FinMap nat_cmp ℕ) (draining : Bool) (size taken : ℕ) (h : History) : Type 0 where
    pub apart : AreApart waiting
    pub ungranted : (n : ℕ) → IsSome (waker_under waiting n) → map.get granted n ≡ None
    pub line : fsts h.line ≡ numbers waiting
    pub rising : IsRising (h.granted ++ snds h.line)
    pub below : AllBelow h.asked (h.granted ++ snds h.line)
    -- nobody waits beside a free place
    pub full : (waiting ≡ [] → ⊥) → size ≤ taken
    pub empty : draining ≡ true → waiting ≡ []

  -- ---- a call by which nobody is granted and nobody leaves

  nobody_moves : (q : List (ℕ × W)) (m m' : map.FinMap nat_cmp ℕ) (d d' : Bool) (size size' taken taken' : ℕ) (h h' : History) → Line q m d size taken h → ((n : ℕ) → IsSome (waker_under q n) → map.get m' n ≡ None) → ((q ≡ [] → ⊥) → size' ≤ taken') → (d' ≡ true → q ≡ [])
      → h'.asked ≡ h.asked → h'.line ≡ still_waiting q h.line → h'.granted ≡ h.granted ++ newly_granted m' h.line → Line q m' d' size' taken' h'
  nobody_moves q m m' d d' size size' taken taken' h h' are none full empty asked line granted =
      let all = in_line q h.line are.line in
      let line_is : h'.line ≡ h.line = line ∙ all_still q h.line all in
      let granted_is : h'.granted ≡ h.granted = granted ∙ ap (λ (ls : List ℕ). h.granted ++ ls) (none_new m' q h.line all none) ∙ append-nil h.granted in
      record {
        apart = are.apart;
        ungranted = none;
        line = ap fsts line_is ∙ are.line;
        rising = subst IsRising (sym (both_is h h' granted_is line_is)) are.rising;
        below = subst (λ (k : ℕ). AllBelow k (h'.granted ++ snds h'.line)) (sym asked) (subst (λ (ns : List ℕ). AllBelow h.asked ns) (sym (both_is h h' granted_is line_is)) are.below);
        full = full;
        empty = empty;
      }
    where
      both_is : (h h' : History) → h'.granted ≡ h.granted → h'.line ≡ h.line → h'.granted ++ snds h'.line ≡ h.granted ++ snds h.line
      both_is h h' granted line = λ i. granted i ++ snds (line i)

  -- ---- a place goes to the first that waits, if any does

  first_goes : (e : ℕ × W) (q : List (ℕ × W)) (m t : map.FinMap nat_cmp ℕ) (d d' : Bool) (size size' taken taken' : ℕ) (h h' : History) → Line (e ∷ q) m d size taken h → ((n : ℕ) → map.get m n ≡ None → map.get t n ≡ None) → (size ≤ taken → size' ≤ taken') → d' ≡ d
      → h'.asked ≡ h.asked → h'.line ≡ still_waiting q h.line → h'.granted ≡ h.granted ++ newly_granted (map.insert t e.0 1) h.line → Line q (map.insert t e.0 1) d' size' taken' h'
  first_goes e q m t d d' size size' taken taken' h h' are none more same asked line granted = by_line h.line refl
    where
      ungranted : (n : ℕ) → IsSome (waker_under q n) → map.get t n ≡ None
      ungranted n some = none n (are.ungranted n (wider e q n some))

      by_line : (l : List (ℕ × ℕ)) → h.line ≡ l → Line q (map.insert t e.0 1) d' size' taken' h'
      by_line [] is = absurd (let no : [] ≡ e.0 ∷ numbers q = sym (ap fsts is) ∙ are.line in cc)
      by_line (l ∷ rest) is =
          let numbers_are : l.0 ∷ fsts rest ≡ e.0 ∷ numbers q = sym (ap fsts is) ∙ are.line in
          let first : l.0 ≡ e.0 = cc in
          let others : fsts rest ≡ numbers q = cc in
          let all = in_line q rest others in
          let line_is : h'.line ≡ rest = line ∙ ap (λ (ls : List (ℕ × ℕ)). still_waiting q ls) is ∙ rest_still e q l rest first are.apart.0 all in
          let granted_is : h'.granted ≡ h.granted ++ l.1 ∷ [] =
          granted ∙ ap (λ (ls : List (ℕ × ℕ)). h.granted ++ newly_granted (map.insert t e.0 1) ls) is ∙ ap (λ (ls : List ℕ). h.granted ++ ls) (first_new t e q l rest first are.apart.0 all ungranted) in
          let whole : h'.granted ++ snds h'.line ≡ h.granted ++ snds h.line =
          (λ i. granted_is i ++ snds (line_is i)) ∙ append_assoc h.granted (l.1 ∷ []) (snds rest) ∙ ap (λ (ls : List (ℕ × ℕ)). h.granted ++ snds ls) (sym is) in
          record {
            apart = are.apart.1;
            ungranted = λ n some. still_none t e q n are.apart.0 some (ungranted n some);
            line = ap fsts line_is ∙ others;
            rising = subst IsRising (sym whole) are.rising;
            below = subst (λ (k : ℕ). AllBelow k (h'.granted ++ snds h'.line)) (sym asked) (subst (λ (ns : List ℕ). AllBelow h.asked ns) (sym whole) are.below);
            full = λ _. more (are.full (λ no. absurd (cc)));
            empty = λ yes. absurd (let no : e ∷ q ≡ [] = are.empty (sym same ∙ yes) in cc);
          }

module _ {R W : Type 0} where
  abbrev LineOf : Pool R W → History → Type 0
  LineOf p h = Line p.waiting p.granted p.draining (length p.lent) (taken p) h

  fresh_line : (resources : List R) → LineOf (fresh {R = R} {W = W} resources) nothing_yet
  fresh_line resources = record {
    apart = tt;
    ungranted = λ n some. absurd (cc);
    line = refl;
    rising = tt;
    below = tt;
    full = λ waits. absurd (waits refl);
    empty = λ _. refl;
  }

  -- a place that comes back: of q one fewer is taken than was of the pool before it
  passes_by : (ws : List (ℕ × W)) (q : Pool R W) (m : map.FinMap nat_cmp ℕ) (d : Bool) (size tk : ℕ) (h : History) (o : List ℕ) → Line ws m d size tk h → ((n : ℕ) → map.get m n ≡ None → map.get q.granted n ≡ None)
      → q.draining ≡ d → length q.lent ≡ size → taken q + 1 ≡ tk → q.waiting ≡ ws → LineOf (passed_for ws q) (heard (passed_for ws q) (record h { out = o }))
  passes_by [] q m d size tk h o are none draining long fewer waits =
      subst (λ (ws : List (ℕ × W)). Line ws q.granted q.draining (length q.lent) (taken q) (record h { out = o; line = still_waiting ws h.line; granted = h.granted ++ newly_granted q.granted h.line })) (sym waits)
      (nobody_moves [] m q.granted d q.draining size (length q.lent) tk (taken q) h _ are (λ n some. none n (are.ungranted n some)) (λ no. absurd (no refl)) (λ _. refl) refl refl refl)
  passes_by (e ∷ ws) q m d size tk h o are none draining long fewer waits =
      let fresh : map.get q.granted e.0 ≡ None = none e.0 (are.ungranted e.0 (first_in e ws e.0 refl)) in
      let more : map.len (map.insert q.granted e.0 1) ≡ map.len q.granted + 1 = inserted q.granted e.0 1 fresh in
      first_goes e ws m q.granted d q.draining size (length q.lent) tk (lent_count q.lent + map.len (map.insert q.granted e.0 1)) h _ are none (λ less. omega arith) draining refl refl refl

  pick_line : (b : Bool) (x y : Pool R W) (h : History) → LineOf x (heard x h) → LineOf y (heard y h) → LineOf (cond b x y) (heard (cond b x y) h)
  pick_line true x y h first second = first
  pick_line false x y h first second = second

  settled_line : (q : Pool R W) (h : History) → LineOf q (heard q h) → LineOf (settled q) (heard (settled q) h)
  settled_line q h are = pick_line (is_drained q) _ q h are are

  stays_line : (p : Pool R W) (h : History) → LineOf p h → LineOf p (heard p h)
  stays_line p h are = nobody_moves p.waiting p.granted p.granted p.draining p.draining (length p.lent) (length p.lent) (taken p) (taken p) h (heard p h) are are.ungranted are.full are.empty refl refl refl

  heard_as : (p q : Pool R W) (h : History) → p ≡ q → LineOf q (heard q h) → LineOf p (heard p h)
  heard_as p q h is are = subst (λ (x : Pool R W). LineOf x (heard x h)) (sym is) are

  -- ---- a wait that is taken out

  taken_out : (p : Pool R W) (n : ℕ) (h : History) → LineOf p h → LineOf (record p { waiting = without_wait p.waiting n }) (heard (record p { waiting = without_wait p.waiting n }) h)
  taken_out p n h are =
      let all = in_line p.waiting h.line are.line in
      let line_is : still_waiting (without_wait p.waiting n) h.line ≡ without_wait h.line n = still_without p.waiting n h.line all in
      let granted_is : h.granted ++ newly_granted p.granted h.line ≡ h.granted = ap (λ (ls : List ℕ). h.granted ++ ls) (none_new p.granted p.waiting h.line all are.ungranted) ∙ append-nil h.granted in
      let whole : (h.granted ++ newly_granted p.granted h.line) ++ snds (still_waiting (without_wait p.waiting n) h.line) ≡ h.granted ++ snds (without_wait h.line n) = λ i. granted_is i ++ snds (line_is i) in
      record {
        apart = apart_without p.waiting n are.apart;
        ungranted = λ m some. are.ungranted m (fewer_wait p.waiting n m some);
        line = ap fsts line_is ∙ numbers_without p.waiting n h.line are.line;
        rising = subst IsRising (sym whole) (rising_without n h.granted h.line are.rising);
        below = subst (λ (ns : List ℕ). AllBelow h.asked ns) (sym whole) (below_without n h.asked h.granted h.line are.below);
        full = λ waits. are.full (λ none. waits (ap (λ (q : List (ℕ × W)). without_wait q n) none));
        empty = λ yes. ap (λ (q : List (ℕ × W)). without_wait q n) (are.empty yes);
      }

  cancels_line : (p p' : Pool R W) (a : LeaseWait) (h : History) → LineOf p h → Belongs p a → CancelsLease p a p' → LineOf p' (heard p' h)
  cancels_line p p' New h are fits ends = heard_as p' p h ends (stays_line p h are)
  cancels_line p p' (Queued n) h are (inl (inl there)) ends =
      let less : map.len (map.remove p.granted n) + 1 ≡ map.len p.granted = removed p.granted n 1 there in
      heard_as p' (passed_on (record p { granted = map.remove p.granted n })) h (ends.0 there) (settled_line (passed_for p.waiting (record p { granted = map.remove p.granted n })) h (passes_by p.waiting (record p { granted = map.remove p.granted n }) p.granted p.draining (length p.lent) (taken p) h h.out are (still_ungranted p.granted n) refl refl (omega arith) refl))
  cancels_line p p' (Queued n) h are (inl (inr some)) ends = heard_as p' _ h (ends.1 some) (taken_out p n h are)
  cancels_line p p' (Queued n) h are (inr there) ends = heard_as p' (record p { cut = map.remove p.cut n }) h (ends.2 there) (stays_line p h are)
  cancels_line p p' Done h are fits ends = heard_as p' p h ends (stays_line p h are)
  cancels_line p p' Refused h are fits ends = heard_as p' p h ends (stays_line p h are)

  -- ---- a drain

  cut_line : (p : Pool R W) (cut : map.FinMap nat_cmp ℕ) (wakes : List W) (h : History) → LineOf p h
      → LineOf (record p { waiting = []; cut = cut; draining = true; wakes = wakes }) (heard (record p { waiting = []; cut = cut; draining = true; wakes = wakes }) h)
  cut_line p cut wakes h are =
      let all = in_line p.waiting h.line are.line in
      let line_is : still_waiting {W = W} [] h.line ≡ [] = none_still W h.line in
      let granted_is : h.granted ++ newly_granted p.granted h.line ≡ h.granted = ap (λ (ls : List ℕ). h.granted ++ ls) (none_new p.granted p.waiting h.line all are.ungranted) ∙ append-nil h.granted in
      let whole : (h.granted ++ newly_granted p.granted h.line) ++ snds (still_waiting {W = W} [] h.line) ≡ h.granted ++ [] = λ i. granted_is i ++ snds (line_is i) in
      record {
        apart = tt;
        ungranted = λ n some. absurd (cc);
        line = ap fsts line_is;
        rising = subst IsRising (sym whole) (rising_front h.granted (snds h.line) are.rising);
        below = subst (λ (ns : List ℕ). AllBelow h.asked ns) (sym whole) (below_front h.asked h.granted (snds h.line) are.below);
        full = λ waits. absurd (waits refl);
        empty = λ _. refl;
      }

  drained_line : (p : Pool R W) (h : History) → LineOf p h → LineOf (drained p) (heard (drained p) h)
  drained_line p h are = pick_line p.draining p _ h (stays_line p h are)
      (settled_line (record p { waiting = []; cut = cutting p.cut p.waiting; draining = true; wakes = p.wakes ++ map_list {A = ℕ × W} (λ e. e.1) p.waiting }) h
      (cut_line p (cutting p.cut p.waiting) (p.wakes ++ map_list {A = ℕ × W} (λ e. e.1) p.waiting) h are))

  -- ---- polls

  -- what a pool has beside those that wait
  line_as : (p q : Pool R W) (h : History) → p ≡ q → LineOf q h → LineOf p h
  line_as p q h is are = subst (λ (x : Pool R W). LineOf x h) (sym is) are

  -- a place was free, so nobody waits
  nobody : (p : Pool R W) (h : History) → LineOf p h → taken p < length p.lent → p.waiting ≡ []
  nobody p h are room = by_list p.waiting refl
    where
      by_list : (q : List (ℕ × W)) → p.waiting ≡ q → q ≡ []
      by_list [] is = refl
      by_list (e ∷ q) is = absurd (let waits : length p.lent ≤ taken p = are.full (λ none. let both : e ∷ q ≡ [] = sym is ∙ none in absurd (cc)) in omega arith)

  got_first : (p : Pool R W) (shelf : List (ℕ × R)) (lent : List Bool) (out : List ℕ) (h : History) → LineOf p h → taken p < length p.lent
      → LineOf (record p { shelf = shelf; lent = lent }) (record h { out = out; asked = h.asked + 1; granted = h.granted ++ h.asked ∷ [] })
  got_first p shelf lent out h are room =
      let none : p.waiting ≡ [] = nobody p h are room in
      let line_is : h.line ≡ [] = no_line h.line (are.line ∙ ap numbers none) in
      let before : h.granted ++ snds h.line ≡ h.granted = ap (λ (l : List (ℕ × ℕ)). h.granted ++ snds l) line_is ∙ append-nil h.granted in
      let after : (h.granted ++ h.asked ∷ []) ++ snds h.line ≡ h.granted ++ h.asked ∷ [] = ap (λ (l : List (ℕ × ℕ)). (h.granted ++ h.asked ∷ []) ++ snds l) line_is ∙ append-nil (h.granted ++ h.asked ∷ []) in
      let rising = subst IsRising before are.rising in
      let below = subst (λ (ns : List ℕ). AllBelow h.asked ns) before are.below in
      record {
        apart = are.apart;
        ungranted = are.ungranted;
        line = are.line;
        rising = subst IsRising (sym after) (rising_last h.asked h.granted rising below);
        below = subst (λ (ns : List ℕ). AllBelow (h.asked + 1) ns) (sym after) (below_last h.asked h.granted below);
        full = λ waits. absurd (waits none);
        empty = are.empty;
      }

  got_granted : (p : Pool R W) (n : ℕ) (shelf : List (ℕ × R)) (lent : List Bool) (out : List ℕ) (h : History) → LineOf p h → length lent ≡ length p.lent → lent_count lent + map.len (map.remove p.granted n) ≡ taken p
      → LineOf (record p { granted = map.remove p.granted n; shelf = shelf; lent = lent }) (record h { out = out })
  got_granted p n shelf lent out h are long same = record {
    apart = are.apart;
    ungranted = λ m some. still_ungranted p.granted n m (are.ungranted m some);
    line = are.line;
    rising = are.rising;
    below = are.below;
    full = λ waits. let less : length p.lent ≤ taken p = are.full waits in omega arith;
    empty = are.empty;
  }

  stands_last : (p : Pool R W) (n : ℕ) (w : W) (h : History) → LineOf p h → waker_under p.waiting n ≡ None → map.get p.granted n ≡ None → length p.lent ≤ taken p → p.draining ≡ false
      → LineOf (record p { waiting = p.waiting ++ (n, w) ∷ [] }) (record h { asked = h.asked + 1; line = h.line ++ (n, h.asked) ∷ [] })
  stands_last p n w h are waits granted full opens =
      let whole : h.granted ++ snds (h.line ++ (n, h.asked) ∷ []) ≡ (h.granted ++ snds h.line) ++ h.asked ∷ [] =
      ap (λ (ns : List ℕ). h.granted ++ ns) (snds_last h.line (n, h.asked)) ∙ sym (append_assoc h.granted (snds h.line) (h.asked ∷ [])) in
      record {
        apart = apart_last p.waiting n w are.apart waits;
        ungranted = λ m some. elim (last_some p.waiting n m w some) [ inl there ↦ are.ungranted m there | inr same ↦ ap (λ (k : ℕ). map.get p.granted k) same ∙ granted ];
        line = fsts_last h.line (n, h.asked) ∙ ap (λ (ns : List ℕ). ns ++ n ∷ []) are.line ∙ sym (numbers_last p.waiting n w);
        rising = subst IsRising (sym whole) (rising_last h.asked (h.granted ++ snds h.line) are.rising are.below);
        below = subst (λ (ns : List ℕ). AllBelow (h.asked + 1) ns) (sym whole) (below_last h.asked (h.granted ++ snds h.line) are.below);
        full = λ _. full;
        empty = λ yes. absurd (let both : true ≡ false = sym yes ∙ opens in cc);
      }
    where
      numbers_last : (q : List (ℕ × W)) (n : ℕ) (w : W) → numbers (q ++ (n, w) ∷ []) ≡ numbers q ++ n ∷ []
      numbers_last [] n w = refl
      numbers_last (e ∷ q) n w = ap (λ (ns : List ℕ). e.0 ∷ ns) (numbers_last q n w)

  rewaked_line : (p : Pool R W) (n : ℕ) (w : W) (h : History) → LineOf p h → LineOf (record p { waiting = with_waker p.waiting n w }) h
  rewaked_line p n w h are = record {
    apart = apart_rewaked p.waiting n w are.apart;
    ungranted = λ m some. are.ungranted m (sym (rewaked_some p.waiting n m w) ∙ some);
    line = are.line ∙ sym (rewaked_numbers p.waiting n w);
    rising = are.rising;
    below = are.below;
    full = λ waits. are.full (λ none. waits (ap (λ (q : List (ℕ × W)). with_waker q n w) none));
    empty = λ yes. ap (λ (q : List (ℕ × W)). with_waker q n w) (are.empty yes);
  }

  waits_line : (p p' : Pool R W) (h : History) (a' : LeaseWait) (w : W) (r : Result (LeasePoll R) (W × NoMemory)) → LineOf p h → length p.lent ≤ taken p → p.draining ≡ false
      → MatchResult r (λ x. (x ≡ answer.Pending) × ((n : ℕ) × Waits p p' n w × (a' ≡ Queued n))) (λ e. (e.0 ≡ w) × (p' ≡ p) × (a' ≡ New)) → LineOf p' (after_poll New r a' h)
  waits_line p p' h a' w (Ok x) are full opens k =
      let last : Waits p p' k.1.0 w = k.1.1 in
      let h_is : after_poll {R = R} {W = W} New (Ok x) a' h ≡ record h { asked = h.asked + 1; line = h.line ++ (k.1.0, h.asked) ∷ [] } =
      ap (λ (y : LeasePoll R). after_poll {R = R} {W = W} New (Ok y) a' h) k.0 ∙ ap (λ (a : LeaseWait). after_poll {R = R} {W = W} New (Ok answer.Pending) a h) k.1.2 in
      subst (λ (g : History). LineOf p' g) (sym h_is) (line_as p' (record p { waiting = p.waiting ++ (k.1.0, w) ∷ [] }) _ last.is (stands_last p k.1.0 w h are last.not_waiting last.not_granted full opens))
  waits_line p p' h a' w (Err e) are full opens k = line_as p' p h k.1 are

  as_answered : (p' : Pool R W) (h : History) (a a' : LeaseWait) (r s : Result (LeasePoll R) (W × NoMemory)) → r ≡ s → LineOf p' (after_poll a s a' h) → LineOf p' (after_poll a r a' h)
  as_answered p' h a a' r s is are = subst (λ (x : Result (LeasePoll R) (W × NoMemory)). LineOf p' (after_poll a x a' h)) (sym is) are

  lent_more : (resources : List R) (p q p' : Pool R W) (h : History) (r : Result (LeasePoll R) (W × NoMemory)) → Slots resources p h → q.shelf ≡ p.shelf → q.lent ≡ p.lent → (gets : Gets q r p') → lent_count (set q.lent gets.lease.0 true) ≡ lent_count p.lent + 1
  lent_more resources p q p' h r slots shelf lent gets =
      let l = gets.lease in
      let once : StandOnce (l.0 ∷ slots_of p'.shelf) p.lent = subst (λ (s : List (ℕ × R)). StandOnce (slots_of s) p.lent) (sym shelf ∙ gets.first) slots.once in
      let free = first_free l.0 (slots_of p'.shelf) p.lent once in
      ap (λ (m : List Bool). lent_count (set m l.0 true)) lent ∙ count_lent l.0 p.lent free.0 free.1

  polls_line : (resources : List R) (p p' : Pool R W) (h : History) (a a' : LeaseWait) (w : W) (r : Result (LeasePoll R) (W × NoMemory)) → Slots resources p h → LineOf p h → MayPoll p a → PollsLease p a w r p' a' → LineOf p' (after_poll a r a' h)
  polls_line resources p p' h New a' w r slots are may polls = elim (cases_Bool p.draining) [
    | inl closed ↦ let k = polls.0 closed in as_answered p' h New a' r (Ok answer.Closed) k.0 (line_as p' p h k.1 are)
    | inr opens ↦ elim (cases_lt (taken p) (length p.lent)) [
      | inl room ↦ let k = (polls.1 opens room).0 in
          as_answered p' h New a' r (Ok (answer.Got k.lease)) k.answers (line_as p' _ _ k.is (got_first p p'.shelf (set p.lent k.lease.0 true) (k.lease.0 ∷ h.out) h are room))
      | inr full ↦ waits_line p p' h a' w r are full opens (polls.2 opens full)
    ]
  ]
  polls_line resources p p' h (Queued n) a' w r slots are (inl (inl there), _) polls =
      let k = (polls.0 there).0 in
      let less : map.len (map.remove p.granted n) + 1 ≡ map.len p.granted = removed p.granted n 1 there in
      let more : lent_count (set p.lent k.lease.0 true) ≡ lent_count p.lent + 1 = lent_more resources p (record p { granted = map.remove p.granted n }) p' h r slots refl refl k in
      as_answered p' h (Queued n) a' r (Ok (answer.Got k.lease)) k.answers (line_as p' _ _ k.is (got_granted p n p'.shelf (set p.lent k.lease.0 true) (k.lease.0 ∷ h.out) h are (length-set p.lent k.lease.0 true) (omega arith)))
  polls_line resources p p' h (Queued n) a' w r slots are (inl (inr some), _) polls =
      let k = polls.1 some in as_answered p' h (Queued n) a' r (Ok answer.Pending) k.0 (line_as p' _ h k.1 (rewaked_line p n w h are))
  polls_line resources p p' h (Queued n) a' w r slots are (inr there, _) polls =
      let k = polls.2 there in as_answered p' h (Queued n) a' r (Ok answer.Closed) k.0 (line_as p' (record p { cut = map.remove p.cut n }) h k.1 are)
  polls_line resources p p' h Done a' w r slots are may polls = absurd may.1
  polls_line resources p p' h Refused a' w r slots are may polls = line_as p' p h polls.1 are

  -- ---- waits for the end

  lists_line : (p p' : Pool R W) (h : History) (c' : DrainWait) (w : W) (r : Result (Poll (Unit {0})) (W × NoMemory)) → LineOf p h
      → MatchResult r (λ x. (x ≡ poll.Pending) × ((n : ℕ) × Lists p p' n w × (c' ≡ drain.Listed n))) (λ e. (e.0 ≡ w) × (p' ≡ p) × (c' ≡ drain.New)) → LineOf p' h
  lists_line p p' h c' w (Ok x) are k = let last : Lists p p' k.1.0 w = k.1.1 in line_as p' (record p { drains = p.drains ++ (k.1.0, w) ∷ [] }) h last.is are
  lists_line p p' h c' w (Err e) are k = line_as p' p h k.1 are

  poll_end_line : (p p' : Pool R W) (h : History) (c c' : DrainWait) (w : W) (r : Result (Poll (Unit {0})) (W × NoMemory)) → LineOf p h → MayPollDrain p c → PollsDrain p c w r p' c' → LineOf p' h
  poll_end_line p p' h drain.New c' w r are may polls = by_flag (is_drained p) (λ all. line_as p' p h (polls.0 all).1 are) (λ some. lists_line p p' h c' w r are (polls.1 some))
  poll_end_line p p' h (drain.Listed n) c' w r are may polls = by_flag (is_drained p)
      (λ all. line_as p' (record p { told = map.remove p.told n }) h (polls.0 all).1 are) (λ some. line_as p' (record p { drains = with_waker p.drains n w }) h (polls.1 some).1 are)
  poll_end_line p p' h drain.Done c' w r are may polls = absurd may

  end_line : (p p' : Pool R W) (h : History) (c : DrainWait) → LineOf p h → EndsDrain p c p' → LineOf p' h
  end_line p p' h drain.New are ends = line_as p' p h ends are
  end_line p p' h (drain.Listed n) are ends = by_flag (is_drained p)
      (λ all. line_as p' (record p { told = map.remove p.told n }) h (ends.0 all) are) (λ some. line_as p' (record p { drains = without_wait p.drains n }) h (ends.1 some) are)
  end_line p p' h drain.Done are ends = line_as p' p h ends are

  -- ---- a lease that is put back

  back_line : (resources : List R) (p : Pool R W) (h : History) (l : ℕ × R) → Slots resources p h → LineOf p h → 1 ≤ times l.0 h.out → LineOf (with_lease p l) (heard (with_lease p l) (record h { out = without_slot l.0 h.out }))
  back_line resources p h l slots are stands =
      let is : is_lent p.lent l.0 ≡ true = by_flag (is_lent p.lent l.0) (λ x. x) (λ none. absurd (let zero_out : times l.0 h.out ≡ 0 = slots.out l.0 ∙ ap one_if none in omega arith)) in
      let fewer : lent_count (set p.lent l.0 false) + 1 ≡ lent_count p.lent = count_back l.0 p.lent (lent_within l.0 (slots_of p.shelf) p.lent slots.once is) is in
      settled_line (passed_for p.waiting (record p { shelf = p.shelf ++ l ∷ []; lent = set p.lent l.0 false })) (record h { out = without_slot l.0 h.out })
      (passes_by p.waiting (record p { shelf = p.shelf ++ l ∷ []; lent = set p.lent l.0 false }) p.granted p.draining (length p.lent) (taken p) h (without_slot l.0 h.out) are (λ n none. none) refl (length-set p.lent l.0 false) (omega arith) refl)

  -- a lease that was got by a try
  tries_line : (p p' : Pool R W) (h : History) (l : ℕ × R) → LineOf p h → TriesLease p (Some l) p' → LineOf p' (record h { out = l.0 ∷ h.out; asked = h.asked + 1; granted = h.granted ++ h.asked ∷ [] })
  tries_line p p' h l are tries = line_as p' _ _ tries.2.is (got_first p p'.shelf (set p.lent tries.2.lease.0 true) (l.0 ∷ h.out) h are tries.1)

  goes_line : (resources : List R) (p p' : Pool R W) (h h' : History) → Slots resources p h → LineOf p h → Goes p h p' h' → LineOf p' h'
  goes_line resources p _ h _ slots are (PollLease a a' w r p' may polls) = polls_line resources p p' h a a' w r slots are may polls
  goes_line resources p _ h _ slots are (TryLease l p' tries) = tries_line p p' h l are tries
  goes_line resources p _ h _ slots are (CancelLease a p' fits ends) = cancels_line p p' a h are fits ends
  goes_line resources p _ h _ slots are (PutBack l stands) = back_line resources p h l slots are stands
  goes_line resources p _ h _ slots are Drain = drained_line p h are
  goes_line resources p _ h _ slots are (PollDrained c c' w r p' may polls) = poll_end_line p p' h c c' w r are may polls
  goes_line resources p _ h _ slots are (EndDrain c p' may ends) = end_line p p' h c are ends
  goes_line resources p _ h _ slots are (NextWake wakes) = are

  pub line_of_run : (resources : List R) (p : Pool R W) (h : History) → Runs resources p h → LineOf p h
  line_of_run resources _ _ Starts = fresh_line resources
  line_of_run resources _ _ (Later p p' h h' runs goes) = goes_line resources p p' h h' (slots_of_run resources p h runs) (line_of_run resources p h runs) goes
