-- what each action changes: one admission, one future and one permit at the most
use Rattle.std.proofs.Common.{◌≡◌, ℕ, ◌+◌, ◌<◌, ◌≤◌, ◌==◌, ◌&&◌, inl, Bool, true, false, cond, length, List, [], Option, Some, None, IsSome, is_some, refl, ap, sym, subst, ◌∙◌, arith}
use Rattle.std.specs.FinMap.{get, insert, remove, len}
use Rattle.std.proofs.lemmas.Bool.{eqb-true, eq-eqb, ne_eqb}
use Rattle.mea_family.specs.declared.answer.Answer.TheVariants as answers
use Rattle.mea_family.specs.Causes.{unknown_unless}
use Rattle.mea_family.specs.Family.{Outcome, quietly}
use Rattle.mea_base.proofs.Maps.{get-there, get-gone, is_there}
use Rattle.mea_by_name.specs.ByName.{Names, own, count}
use Rattle.mea_family.specs.Play.{found}
use Rattle.mea_by_name.proofs.Cases.{by_found, by_if}
use Rattle.mea_by_name.proofs.Own.{own-nothing, count-new, count-gone}
use Rattle.mea_share_core.specs.Share.{taken, queued, left, readied, given_up, released, weighing}
use Rattle.mea_share_model.specs.Next.{Shares, Waiter, share_at, put_share, waiting_in, next_of}
use Rattle.mea_share_model.specs.Admissions as admissions
use Rattle.mea_share_model.specs.Admissions.{Admission, ShareFuture, SharePermit, ShareHall, new_admission, with_share, taken_for, passed, woken, tidied_admissions}
use Rattle.mea_share_model.specs.Actions.{Action, Make, Free, Waiters, Weight, Weigh, Try, Begin, Poll, Key, End, Drop, cause_in, act_in, end_by, polled_in, ends_in, registers_in}
use Rattle.mea_share_model.specs.Valid.{is_of, HasNumber, HasAt, AreValid}
use Rattle.mea_share_model.proofs.Waiting.{share_put}
use Rattle.mea_share_model.proofs.Changes.{Change, At, at, Is, No, share_changes, no_change, change_less, passes, then_passes, takes, releases, weighs, gets_ready, gives_up, leaves, begins, waits_again}

-- who is next has its number still
pub passed_next : (r : Admission) (o : Option Waiter) → (passed r o).next ≡ r.next
passed_next r None = refl
passed_next r (Some a) = refl

-- no future has the next number
pub none_next : (h : ShareHall) → AreValid h → (o : ℕ) (r : Admission) → get h.admissions o ≡ Some r → (g : ℕ) (y : ShareFuture) (n : ℕ) → get h.futures g ≡ Some y → o ≡ y.admission → y.number ≡ Some n → r.next ≡ n
    → ⊥
none_next h valid o r there g y n was same of next =
    let has : HasNumber (share_at r.shares y.key) n = subst (λ p. HasAt p y.key n) (ap (get h.admissions) (sym same) ∙ there) (valid.there g y n was of) in
    absurd (let low = valid.below o r there y.key n has in omega (arith, low, next))

-- one number of one key, or none
abbrev pub On : Option (ℕ × ℕ) → ℕ → ℕ → Type 0
On None k n = ⊥
On (Some s) k n = (s.0 ≡ k) × (s.1 ≡ n)

at_zero : (q k : ℕ) → at q 0 k ≡ 0
at_zero q k = none (q == k)
  where
    none : (b : Bool) → ◌≡◌ {A = ℕ} (cond b 0 0) 0
    none true = refl
    none false = refl

module _ (h : ShareHall) (i : ℕ) where
  -- event number i, which touches the future f at the most, wakes ws, and leaves these futures and permits, does this to the admissions:
  -- nothing; one changes, at which none but f loses its waker unwoken; one is made; one is gone that has no future left
  pub data AdmissionsGo (f extra : ℕ) (xs : Names ShareFuture) (ps : Names SharePermit) : Names Admission → List ℕ → Type 0 where
    Same : ((o k : ℕ) → count (is_of o k) ps ≡ count (is_of o k) h.permits) → AdmissionsGo f extra xs ps h.admissions []
    Put : (o : ℕ) (r r' : Admission) (s l : Option (ℕ × ℕ)) (ws : List ℕ) (more less : ℕ → ℕ) → get h.admissions o ≡ Some r → Change r.shares r'.shares r.next r'.next (On s) (On l) ws extra more less
        → ((g : ℕ) (x : ShareFuture) (n : ℕ) → get h.futures g ≡ Some x → o ≡ x.admission → x.number ≡ Some n → On s x.key n → f ≡ g)
        → ((g : ℕ) (x : ShareFuture) (n : ℕ) → get h.futures g ≡ Some x → o ≡ x.admission → x.number ≡ Some n → On l x.key n → get xs g ≡ None)
        → ((k : ℕ) → count (is_of o k) ps + less k ≡ count (is_of o k) h.permits + more k)
        → ((p k : ℕ) → (o ≡ p → ⊥) → count (is_of p k) ps ≡ count (is_of p k) h.permits) → AdmissionsGo f extra xs ps (insert h.admissions o r') ws
    Made : (n : ℕ) → ps ≡ h.permits → AdmissionsGo f extra xs ps (insert h.admissions i (new_admission n)) []
    Gone : (o : ℕ) (r r' : Admission) (ws : List ℕ) → get h.admissions o ≡ Some r → length ws ≤ waiting_in r.shares
        → ((g : ℕ) (x : ShareFuture) → get xs g ≡ Some x → o ≡ x.admission → ⊥)
        → ((p k : ℕ) → (o ≡ p → ⊥) → count (is_of p k) ps ≡ count (is_of p k) h.permits) → AdmissionsGo f extra xs ps (remove h.admissions o) ws

  -- and this to the futures: nothing; one is made; f begins to wait, under the next number; f is gone
  pub data FuturesGo (a : Action) (f : ℕ) (rs : Names Admission) : Names ShareFuture → Type 0 where
    Kept : FuturesGo a f rs h.futures
    Begun : (y : ShareFuture) → y.number ≡ None → (cause_in h a ≡ None → IsSome (get h.admissions y.admission)) → FuturesGo a f rs (insert h.futures i y)
    Queued : (x : ShareFuture) (r : Admission) → get h.futures f ≡ Some x → get h.admissions x.admission ≡ Some r → HasAt (get rs x.admission) x.key r.next
        → FuturesGo a f rs (insert h.futures f (record x { number = Some r.next }))
    Ended : FuturesGo a f rs (remove h.futures f)

  -- and this to the permits: nothing; one is made; one is gone
  pub data PermitsGo : Names SharePermit → Type 0 where
    Stay : PermitsGo h.permits
    Come : (p : SharePermit) → IsSome (get h.admissions p.admission) → PermitsGo (insert h.permits i p)
    Leave : (k : ℕ) → PermitsGo (remove h.permits k)

  -- why f is no future that lived before and is neither polled nor ended
  pub data Touches (a : Action) (f : ℕ) : Type 0 where
    Fresh : f ≡ i → Touches a f
    Polled : (w : ℕ) → polled_in a f ≡ Some w → Touches a f
    Ends : ends_in a f ≡ true → Touches a f

  pub record Acts (a : Action) (extra : ℕ) (o : Outcome ShareHall) : Type 0 where
    pub f : ℕ
    pub touches : Touches a f
    pub admissions : AdmissionsGo f extra o.hall.futures o.hall.permits o.hall.admissions o.wakes
    pub futures : FuturesGo a f o.hall.admissions o.hall.futures
    pub permits : PermitsGo o.hall.permits
    -- a future that is ended is gone
    pub over : (g : ℕ) → ends_in a g ≡ true → get o.hall.futures g ≡ None

  -- ---- what the permits are
  permit_count : (k : ℕ) (p : SharePermit) (o j : ℕ) → get h.permits k ≡ None → count (is_of o j) (insert h.permits k p) ≡ count (is_of o j) h.permits + cond (is_of o j p) 1 0
  permit_count k p o j none = count-new h.permits k (is_of o j) p none

  mine : (p : SharePermit) (k : ℕ) → ◌≡◌ {A = ℕ} (cond (is_of p.admission k p) 1 0) (at p.key 1 k)
  mine p k = ap (λ b. cond (b && (p.key == k)) 1 0) (eq-eqb p.admission p.admission refl)

  others : (p : SharePermit) (o k : ℕ) → (p.admission ≡ o → ⊥) → ◌≡◌ {A = ℕ} (cond (is_of o k p) 1 0) 0
  others p o k apart = ap (λ b. cond (b && (p.key == k)) 1 0) (ne_eqb p.admission o apart)

  -- a permit is made, or is gone
  come_here : (p : SharePermit) (k : ℕ) → get h.permits i ≡ None → count (is_of p.admission k) (insert h.permits i p) + at p.key 0 k ≡ count (is_of p.admission k) h.permits + at p.key 1 k
  come_here p k none = let c = permit_count i p p.admission k none in omega (arith, c, mine p k, at_zero p.key k)

  come_others : (p : SharePermit) (o k : ℕ) → get h.permits i ≡ None → (p.admission ≡ o → ⊥) → count (is_of o k) (insert h.permits i p) ≡ count (is_of o k) h.permits
  come_others p o k none apart = let c = permit_count i p o k none in omega (arith, c, others p o k apart)

  gone_here : (q : ℕ) (p : SharePermit) (k : ℕ) → get h.permits q ≡ Some p → count (is_of p.admission k) (remove h.permits q) + at p.key 1 k ≡ count (is_of p.admission k) h.permits + at p.key 0 k
  gone_here q p k is = let c = count-gone h.permits q (is_of p.admission k) p is in omega (arith, c, mine p k, at_zero p.key k)

  gone_others : (q : ℕ) (p : SharePermit) (o k : ℕ) → get h.permits q ≡ Some p → (p.admission ≡ o → ⊥) → count (is_of o k) (remove h.permits q) ≡ count (is_of o k) h.permits
  gone_others q p o k is apart = let c = count-gone h.permits q (is_of o k) p is in omega (arith, c, others p o k apart)

  -- ---- a change of a key that touches no number, or one
  none_touched : (q : ℕ) (m m' : Shares) (next next' : ℕ) (ws : List ℕ) (extra : ℕ) (more less : ℕ → ℕ) → Change m m' next next' (At q No) (At q No) ws extra more less
      → Change m m' next next' (On None) (On None) ws extra more less
  none_touched q m m' next next' ws extra more less change = change_less m m' next next' (At q No) (On None) (At q No) (On None) ws extra more less (λ k n s. s.1) (λ k n s. s.1) change

  one_gone : (q k : ℕ) (m m' : Shares) (next next' : ℕ) (ws : List ℕ) (extra : ℕ) (more less : ℕ → ℕ) → Change m m' next next' (At q No) (At q (Is k)) ws extra more less
      → Change m m' next next' (On None) (On (Some (q, k))) ws extra more less
  one_gone q k m m' next next' ws extra more less change = change_less m m' next next' (At q No) (On None) (At q (Is k)) (On (Some (q, k))) ws extra more less (λ k n s. s.1) (λ k n s. s) change

  one_touched : (q k : ℕ) (m m' : Shares) (next next' : ℕ) (ws : List ℕ) (extra : ℕ) (more less : ℕ → ℕ) → Change m m' next next' (At q (Is k)) (At q No) ws extra more less
      → Change m m' next next' (On (Some (q, k))) (On None) ws extra more less
  one_touched q k m m' next next' ws extra more less change = change_less m m' next next' (At q (Is k)) (On (Some (q, k))) (At q No) (On None) ws extra more less (λ k n s. s) (λ k n s. s.1) change

  -- ---- the admission is left so, or gone with its last thing
  tidy : (f extra : ℕ) (xs : Names ShareFuture) (ps : Names SharePermit) (o : ℕ) (r r' : Admission) (s l : Option (ℕ × ℕ)) (ws : List ℕ) (more less : ℕ → ℕ) → get h.admissions o ≡ Some r
      → Change r.shares r'.shares r.next r'.next (On s) (On l) ws extra more less
      → ((g : ℕ) (x : ShareFuture) (n : ℕ) → get h.futures g ≡ Some x → o ≡ x.admission → x.number ≡ Some n → On s x.key n → f ≡ g)
      → ((g : ℕ) (x : ShareFuture) (n : ℕ) → get h.futures g ≡ Some x → o ≡ x.admission → x.number ≡ Some n → On l x.key n → get xs g ≡ None)
      → ((k : ℕ) → count (is_of o k) ps + less k ≡ count (is_of o k) h.permits + more k)
      → ((p k : ℕ) → (o ≡ p → ⊥) → count (is_of p k) ps ≡ count (is_of p k) h.permits)
      → AdmissionsGo f extra xs ps (tidied_admissions h.admissions o r' (len (own (λ (x : ShareFuture). x.admission) o xs) + len (own (λ (x : SharePermit). x.admission) o ps))) ws
  tidy f extra xs ps o r r' s l ws more less there change touch loses here elsewhere =
      by_if (λ rs. AdmissionsGo f extra xs ps rs ws) r'.named _ _ (λ named. put) (λ unnamed. by_if (λ rs. AdmissionsGo f extra xs ps rs ws) (things == 0) _ _
      (λ none. Gone o r r' ws there change.most (own-nothing (λ (x : ShareFuture). x.admission) o xs (let zero = eqb-true things 0 none in omega (arith, zero))) elsewhere)
      (λ some. put))
    where
      things : ℕ
      things = len (own (λ (x : ShareFuture). x.admission) o xs) + len (own (λ (x : SharePermit). x.admission) o ps)

      put : AdmissionsGo f extra xs ps (insert h.admissions o r') ws
      put = Put o r r' s l ws more less there change touch loses here elsewhere

  module _ (valid : AreValid h) (no_future : get h.futures i ≡ None) (no_permit : get h.permits i ≡ None) where
    touch : (f : ℕ) (x : ShareFuture) (k : ℕ) → get h.futures f ≡ Some x → x.number ≡ Some k → (g : ℕ) (y : ShareFuture) (n : ℕ) → get h.futures g ≡ Some y → x.admission ≡ y.admission → y.number ≡ Some n
        → (x.key ≡ y.key) × (k ≡ n) → f ≡ g
    touch f x k is number g y n was same of spot = valid.apart f g x y n is was same (number ∙ ap (λ m. Some m) spot.1) of

    gone_with : (f g : ℕ) → f ≡ g → get (remove h.futures f) g ≡ None
    gone_with f g same = ap (get (remove h.futures f)) (sym same) ∙ get-gone h.futures f

    -- who begins to wait has its number
    waits_now : (x : ShareFuture) (r : Admission) (w : ℕ)
        → HasAt (get (insert h.admissions x.admission (record (with_share r x.key (queued (share_at r.shares x.key) r.next w)) { next = r.next + 1 })) x.admission) x.key r.next
    waits_now x r w =
        let s = queued (share_at r.shares x.key) r.next w in
        let here : share_at (put_share r.shares x.key s) x.key ≡ s = share_put r.shares x.key s x.key ∙ ap (λ b. cond b s (share_at r.shares x.key)) (eq-eqb x.key x.key refl) in
        subst (λ o. HasAt o x.key r.next) (sym (get-there h.admissions x.admission (record (with_share r x.key s) { next = r.next + 1 })))
        (inl (is_there (get (share_at (put_share r.shares x.key s) x.key).waiting r.next) w (ap (λ t. get t.waiting r.next) here ∙ get-there (share_at r.shares x.key).waiting r.next w)))

    permit_counts : (o : ℕ) (p : SharePermit) (q : ℕ) (r : Admission) → get h.permits q ≡ Some p → get h.admissions p.admission ≡ Some r → 0 < (share_at r.shares p.key).living
    permit_counts o p q r is there = let all = valid.living p.admission p.key r there in let one = gone_here q p p.key is in let here : at p.key 1 p.key ≡ 1 = ap (λ b. cond b 1 0) (eq-eqb p.key p.key refl) in omega (arith, all, one, here, at_zero p.key p.key)

    module _ (a : Action) (none : (g : ℕ) → ends_in a g ≡ true → ⊥) where
      still : (extra : ℕ) (reply : _) → Acts a extra (quietly h reply)
      still extra reply = record { f = i; touches = Fresh refl; admissions = Same (λ o k. refl); futures = Kept; permits = Stay; over = λ g is. absurd (none g is) }

      tries : (o k : ℕ) (plain : Bool) (r : Admission) → get h.admissions o ≡ Some r → Acts a 0 (admissions.try h i o k plain r)
      tries o k plain r there = by_if (Acts a 0) (r.free == 0) _ _ (λ nothing. still 0 answers.Lacking) (λ some. record {
        f = i;
        touches = Fresh refl;
        admissions = Put o r (taken_for r k) None None [] (at k 1) (at k 0) there
            (none_touched k r.shares _ r.next r.next [] 0 (at k 1) (at k 0) (share_changes r.shares k (taken (share_at r.shares k)) r.next r.next No No [] 0 1 0 (takes (share_at r.shares k) r.next) (omega arith)))
            (λ g x n is same number never. absurd never) (λ g x n is same number never. absurd never)
            (λ j. come_here (record { admission = o; key = k; plain = plain }) j no_permit)
            (λ p j apart. come_others (record { admission = o; key = k; plain = plain }) p j no_permit apart);
        futures = Kept;
        permits = Come (record { admission = o; key = k; plain = plain }) (is_there (get h.admissions o) r there);
        over = λ g is. absurd (none g is);
      })

      weighs_key : (o k n : ℕ) (r : Admission) → get h.admissions o ≡ Some r → Acts a 0 (admissions.weigh h o k n r)
      weighs_key o k n r there = record {
        f = i;
        touches = Fresh refl;
        admissions = Put o r (with_share r k (weighing (share_at r.shares k) n)) None None [] (at k 0) (at k 0) there
            (none_touched k r.shares _ r.next r.next [] 0 (at k 0) (at k 0) (share_changes r.shares k (weighing (share_at r.shares k) n) r.next r.next No No [] 0 0 0 (weighs (share_at r.shares k) r.next n) (omega arith)))
            (λ g x m is same number never. absurd never) (λ g x m is same number never. absurd never)
            (λ j. refl) (λ p j apart. refl);
        futures = Kept;
        permits = Stay;
        over = λ g is. absurd (none g is);
      }

      drops : (o : ℕ) (r : Admission) → get h.admissions o ≡ Some r → Acts a 0 (admissions.drop h o r)
      drops o r there = record {
        f = i;
        touches = Fresh refl;
        admissions = tidy i 0 h.futures h.permits o r (record r { named = false }) None None [] (λ k. 0) (λ k. 0) there (no_change r.shares r.next 0)
            (λ g x m is same number never. absurd never) (λ g x m is same number never. absurd never) (λ j. refl) (λ p j apart. refl);
        futures = Kept;
        permits = Stay;
        over = λ g is. absurd (none g is);
      }

      -- f has its permit
      readies : (f w extra : ℕ) (x : ShareFuture) (r r' : Admission) (l : Option (ℕ × ℕ)) → polled_in a f ≡ Some w → get h.futures f ≡ Some x → get h.admissions x.admission ≡ Some r
          → Change r.shares r'.shares r.next r'.next (On None) (On l) [] extra (at x.key 1) (at x.key 0)
          → ((g : ℕ) (y : ShareFuture) (n : ℕ) → get h.futures g ≡ Some y → x.admission ≡ y.admission → y.number ≡ Some n → On l y.key n → f ≡ g)
          → Acts a extra (admissions.becomes_permit h i f x r')
      readies f w extra x r r' l poll is there change touch = record {
        f = f;
        touches = Polled w poll;
        admissions = Put x.admission r r' None l [] (at x.key 1) (at x.key 0) there change
            (λ g y n was same number never. absurd never) (λ g y n was same number spot. gone_with f g (touch g y n was same number spot))
            (λ j. come_here (record { admission = x.admission; key = x.key; plain = x.plain }) j no_permit)
            (λ p j apart. come_others (record { admission = x.admission; key = x.key; plain = x.plain }) p j no_permit apart);
        futures = Ended;
        permits = Come (record { admission = x.admission; key = x.key; plain = x.plain }) (is_there (get h.admissions x.admission) r there);
        over = λ g is. absurd (none g is);
      }

      more : (extra : ℕ) (m m' : Shares) (next next' : ℕ) (l : Option (ℕ × ℕ)) (up down : ℕ → ℕ) → Change m m' next next' (On None) (On l) [] 0 up down → Change m m' next next' (On None) (On l) [] extra up down
      more extra m m' next next' l up down change = record { keeps = change.keeps; most = change.most; grows = omega (arith, change.grows); up = change.up; fresh = change.fresh; had = change.had; has = change.has; living = change.living }

      polls : (f w : ℕ) (x : ShareFuture) (r : Admission) (p : Option ℕ) → polled_in a f ≡ Some w → get h.futures f ≡ Some x → get h.admissions x.admission ≡ Some r → x.number ≡ p → Acts a 1 (admissions.poll_at h i f w x r p)
      polls f w x r None poll is there new = by_if (Acts a 1) (r.free == 0) _ _
          (λ nothing. record {
            f = f;
            touches = Polled w poll;
            admissions = Put x.admission r (record (with_share r x.key (queued (share_at r.shares x.key) r.next w)) { next = r.next + 1 }) (Some (x.key, r.next)) None [] (at x.key 0) (at x.key 0) there
                (one_touched x.key r.next r.shares _ r.next (r.next + 1) [] 1 (at x.key 0) (at x.key 0)
                (share_changes r.shares x.key (queued (share_at r.shares x.key) r.next w) r.next (r.next + 1) (Is r.next) No [] 1 0 0 (begins (share_at r.shares x.key) r.next w) (omega arith)))
                (λ g y n was same number spot. absurd (none_next h valid x.admission r there g y n was same number spot.1)) (λ g y n was same number never. absurd never)
                (λ j. refl) (λ p j apart. refl);
            futures = Queued x r is there (waits_now x r w);
            permits = Stay;
            over = λ g is. absurd (none g is);
          })
          (λ some. readies f w 1 x r (taken_for r x.key) None poll is there
          (more 1 r.shares _ r.next r.next None (at x.key 1) (at x.key 0)
          (none_touched x.key r.shares _ r.next r.next [] 0 (at x.key 1) (at x.key 0) (share_changes r.shares x.key (taken (share_at r.shares x.key)) r.next r.next No No [] 0 1 0 (takes (share_at r.shares x.key) r.next) (omega arith))))
          (λ g y n was same number never. absurd never))
      polls f w x r (Some k) poll is there number = by_if (Acts a 1) (is_some (get (share_at r.shares x.key).waiting k)) _ _
          (λ waits. record {
            f = f;
            touches = Polled w poll;
            admissions = Put x.admission r (with_share r x.key (queued (share_at r.shares x.key) k w)) (Some (x.key, k)) None [] (at x.key 0) (at x.key 0) there
                (one_touched x.key k r.shares _ r.next r.next [] 1 (at x.key 0) (at x.key 0)
                (share_changes r.shares x.key (queued (share_at r.shares x.key) k w) r.next r.next (Is k) No [] 1 0 0 (waits_again (share_at r.shares x.key) r.next k w waits) (omega arith)))
                (λ g y n was same of spot. touch f x k is number g y n was same of spot) (λ g y n was same of never. absurd never)
                (λ j. refl) (λ p j apart. refl);
            futures = Kept;
            permits = Stay;
            over = λ g is. absurd (none g is);
          })
          (λ was. readies f w 1 x r (with_share r x.key (readied (share_at r.shares x.key) k)) (Some (x.key, k)) poll is there
          (more 1 r.shares _ r.next r.next (Some (x.key, k)) (at x.key 1) (at x.key 0)
          (one_gone x.key k r.shares _ r.next r.next [] 0 (at x.key 1) (at x.key 0) (share_changes r.shares x.key (readied (share_at r.shares x.key) k) r.next r.next No (Is k) [] 0 1 0 (gets_ready (share_at r.shares x.key) r.next k) (omega arith))))
          (touch f x k is number))

    -- ---- what ends a future or a permit
    -- a permit comes back from a key
    gives : (r r1 : Admission) (s l : Option (ℕ × ℕ)) (more less : ℕ → ℕ) → r1.next ≡ r.next → Change r.shares r1.shares r.next r.next (On s) (On l) [] 0 more less
        → Change r.shares (passed r1 (next_of r1.shares)).shares r.next (passed r1 (next_of r1.shares)).next (On s) (On l) (woken (next_of r1.shares)) 0 more less
    gives r r1 s l more less same change =
        subst (λ n. Change r.shares (passed r1 (next_of r1.shares)).shares r.next n (On s) (On l) (woken (next_of r1.shares)) 0 more less) (sym (passed_next r1 (next_of r1.shares) ∙ same))
        (then_passes r.shares r1.shares (passed r1 (next_of r1.shares)).shares r.next (On s) (On l) (woken (next_of r1.shares)) more less change (passes r1.shares r.next (next_of r1.shares) refl r1 refl))

    over_by : (k g : ℕ) → k == g ≡ true → get (remove h.futures k) g ≡ None
    over_by k g is = ap (get (remove h.futures k)) (sym (eqb-true k g is)) ∙ get-gone h.futures k

    module _ (k : ℕ) where
      ends_permit : (p : SharePermit) (r : Admission) → get h.futures k ≡ None → get h.permits k ≡ Some p → get h.admissions p.admission ≡ Some r → Acts (End k) 0 (admissions.end_permit h k p r)
      ends_permit p r none is there =
          let r1 = with_share r p.key (released (share_at r.shares p.key)) in
          record {
            f = k;
            touches = Ends (eq-eqb k k refl);
            admissions = tidy k 0 h.futures (remove h.permits k) p.admission r (passed r1 (next_of r1.shares)) None None (woken (next_of r1.shares)) (at p.key 0) (at p.key 1) there
                (gives r r1 None None (at p.key 0) (at p.key 1) refl
                (none_touched p.key r.shares r1.shares r.next r.next [] 0 (at p.key 0) (at p.key 1) (share_changes r.shares p.key (released (share_at r.shares p.key)) r.next r.next No No [] 0 0 1
                (releases (share_at r.shares p.key) r.next (permit_counts p.admission p k r is there)) (omega arith))))
                (λ g x m was same number never. absurd never) (λ g x m was same number never. absurd never) (λ j. gone_here k p j is) (λ o j apart. gone_others k p o j is apart);
            futures = Kept;
            permits = Leave k;
            over = λ g ended. ap (get h.futures) (sym (eqb-true k g ended)) ∙ none;
          }

      ends_at : (x : ShareFuture) (r : Admission) (p : Option ℕ) → get h.futures k ≡ Some x → get h.admissions x.admission ≡ Some r → x.number ≡ p → Acts (End k) 0 (admissions.end_at (record h { futures = remove h.futures k }) x r p)
      ends_at x r None is there new = record {
        f = k;
        touches = Ends (eq-eqb k k refl);
        admissions = tidy k 0 (remove h.futures k) h.permits x.admission r r None None [] (λ j. 0) (λ j. 0) there (no_change r.shares r.next 0)
            (λ g y m was same number never. absurd never) (λ g y m was same number never. absurd never) (λ j. refl) (λ o j apart. refl);
        futures = Ended;
        permits = Stay;
        over = over_by k;
      }
      ends_at x r (Some n) is there number = by_if (Acts (End k) 0) (is_some (get (share_at r.shares x.key).waiting n)) _ _
          (λ waits. record {
            f = k;
            touches = Ends (eq-eqb k k refl);
            admissions = tidy k 0 (remove h.futures k) h.permits x.admission r (with_share r x.key (left (share_at r.shares x.key) n)) (Some (x.key, n)) (Some (x.key, n)) [] (at x.key 0) (at x.key 0) there
                (share_changes r.shares x.key (left (share_at r.shares x.key) n) r.next r.next (Is n) (Is n) [] 0 0 0 (leaves (share_at r.shares x.key) r.next n) (omega arith))
                (λ g y m was same of spot. touch k x n is number g y m was same of spot) (λ g y m was same of spot. gone_with k g (touch k x n is number g y m was same of spot)) (λ j. refl) (λ o j apart. refl);
            futures = Ended;
            permits = Stay;
            over = over_by k;
          })
          (λ admitted.
          let r1 = with_share r x.key (given_up (share_at r.shares x.key) n) in
          record {
            f = k;
            touches = Ends (eq-eqb k k refl);
            admissions = tidy k 0 (remove h.futures k) h.permits x.admission r (passed r1 (next_of r1.shares)) None (Some (x.key, n)) (woken (next_of r1.shares)) (at x.key 0) (at x.key 0) there
                (gives r r1 None (Some (x.key, n)) (at x.key 0) (at x.key 0) refl
                (one_gone x.key n r.shares r1.shares r.next r.next [] 0 (at x.key 0) (at x.key 0) (share_changes r.shares x.key (given_up (share_at r.shares x.key) n) r.next r.next No (Is n) [] 0 0 0
                (gives_up (share_at r.shares x.key) r.next n) (omega arith))))
                (λ g y m was same of never. absurd never) (λ g y m was same of spot. gone_with k g (touch k x n is number g y m was same of spot)) (λ j. refl) (λ o j apart. refl);
            futures = Ended;
            permits = Stay;
            over = over_by k;
          })

      ends_future : (x : ShareFuture) (o : Option Admission) → get h.futures k ≡ Some x → get h.admissions x.admission ≡ o → Acts (End k) 0 (admissions.end_future h k x o)
      ends_future x None is there = record { f = k; touches = Ends (eq-eqb k k refl); admissions = Same (λ o j. refl); futures = Ended; permits = Stay; over = over_by k }
      ends_future x (Some r) is there = ends_at x r x.number is there refl

      ends_by : (o : Option ShareFuture) → get h.futures k ≡ o → Acts (End k) 0 (end_by h k o)
      ends_by None none = by_found (Acts (End k) 0) (get h.permits k) h _ nothing (λ p is. by_found (Acts (End k) 0) (get h.admissions p.admission) h _ nothing (λ r there. ends_permit p r none is there))
        where
          nothing : Acts (End k) 0 (quietly h answers.Done)
          nothing = record { f = k; touches = Ends (eq-eqb k k refl); admissions = Same (λ o j. refl); futures = Kept; permits = Stay; over = λ g ended. ap (get h.futures) (sym (eqb-true k g ended)) ∙ none }
      ends_by (Some x) is = ends_future x (get h.admissions x.admission) is refl

    -- ---- each action
    known_named : (o : ℕ) → unknown_unless (admissions.is_named h o) ≡ None → IsSome (get h.admissions o)
    known_named o is = by_value (get h.admissions o) is
      where
        by_value : (p : Option Admission) → unknown_unless (admissions.is_named_one p) ≡ None → IsSome p
        by_value None is = absurd (cc)
        by_value (Some r) is = refl

    looks : (a : Action) → ((g : ℕ) → ends_in a g ≡ true → ⊥) → (o : ℕ) (act : Admission → Outcome ShareHall) → ((r : Admission) → get h.admissions o ≡ Some r → Acts a 0 (act r)) → Acts a 0 (found (get h.admissions o) h act)
    looks a none o act does = by_found (Acts a 0) (get h.admissions o) h act (still a none 0 answers.Done) does

    pub acts : (a : Action) → Acts a (cond (registers_in a) 1 0) (act_in h i a)
    acts (Make n) = record { f = i; touches = Fresh refl; admissions = Made n refl; futures = Kept; permits = Stay; over = λ g is. absurd (cc) }
    acts (Free o) = looks (Free o) (λ g is. absurd (cc)) o _ (λ r is. still (Free o) (λ g is. absurd (cc)) 0 _)
    acts (Waiters o) = looks (Waiters o) (λ g is. absurd (cc)) o _ (λ r is. still (Waiters o) (λ g is. absurd (cc)) 0 _)
    acts (Weight o k) = looks (Weight o k) (λ g is. absurd (cc)) o _ (λ r is. still (Weight o k) (λ g is. absurd (cc)) 0 _)
    acts (Weigh o k n) = looks (Weigh o k n) (λ g is. absurd (cc)) o _ (λ r is. weighs_key (Weigh o k n) (λ g is. absurd (cc)) o k n r is)
    acts (Try o k plain) = looks (Try o k plain) (λ g is. absurd (cc)) o _ (λ r is. tries (Try o k plain) (λ g is. absurd (cc)) o k plain r is)
    acts (Begin o k plain) = record { f = i; touches = Fresh refl; admissions = Same (λ q j. refl); futures = Begun (record { admission = o; key = k; plain = plain; number = None }) refl (known_named o); permits = Stay; over = λ g is. absurd (cc) }
    acts (Poll f w) =
        let none : (g : ℕ) → ends_in (Poll f w) g ≡ true → ⊥ = λ g is. absurd (cc) in
        by_found (Acts (Poll f w) 1) (get h.futures f) h _ (still (Poll f w) none 1 answers.Done)
        (λ x is. by_found (Acts (Poll f w) 1) (get h.admissions x.admission) h _ (still (Poll f w) none 1 answers.Done)
        (λ r there. polls (Poll f w) none f w x r x.number (ap (λ b. cond b (Some w) None) (eq-eqb f f refl)) is there refl))
    acts (Key p) = by_found (Acts (Key p) 0) (get h.permits p) h _ (still (Key p) (λ g is. absurd (cc)) 0 answers.Done) (λ x is. still (Key p) (λ g is. absurd (cc)) 0 _)
    acts (End x) = ends_by x (get h.futures x) refl
    acts (Drop o) = looks (Drop o) (λ g is. absurd (cc)) o _ (λ r is. drops (Drop o) (λ g is. absurd (cc)) o r is)
